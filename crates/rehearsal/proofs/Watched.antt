-- What a watch that was made with an observer says of it.
use Rattle.std.proofs.Common.{◌≡◌, ◌<◌, ◌≤◌, ◌⊎◌, ◌↔◌, inl, inr, ℕ, List, length, Result, Ok, Err, IfOk}
use Rattle.std.proofs.Common.{IfErr, IsErrOf, ap, subst, sym, arith}
use Rattle.verdict.specs.declared.verdict.Verdict.{Verdict}
use Rattle.level_search.specs.declared.search_fault.SearchFault.{SearchFault}
use Rattle.level_search.specs.declared.search_fault.SearchFault.TheVariants as search
use Rattle.sessions.specs.Shown.{ObserverShown, Which}
use Rattle.sessions.specs.Watches.{AreVerdicts}
use Rattle.rehearsal.specs.Watched.{HasJudged}

module _ (old new : ObserverShown) where
  pub judged-of : (session : Which) (r : Result (List Verdict) SearchFault) → old.session ≡ session
      → new.session ≡ session → IfOk r (λ vs. length vs ≡ 4)
      → IfOk r (λ vs. AreVerdicts session.replicas old.seen vs new.seen) → IfOk r (λ vs. HasJudged old vs new)
  judged-of session (Err f) was is count verdicts = tt
  judged-of session (Ok vs) was is count verdicts = record {
    session = subst (λ (s : Which). new.session ≡ s) (sym was) is;
    count = count;
    verdicts_are = subst (λ (s : Which). AreVerdicts s.replicas old.seen vs new.seen) (sym was) verdicts;
  }

-- the number of workers was counted
pub failed-of : {A : Type 0} (workers : ℕ) (r : Result A SearchFault) → (1 ≤ workers) × (workers ≤ 64)
    → (IsErrOf r search.Workers ↔ ((workers < 1) ⊎ (64 < workers)))
    → IfErr r (λ f. f ≡ search.Workers → ⊥)
failed-of workers (Ok a) counted is = tt
failed-of workers (Err f) counted is =
    let within : 1 ≤ workers = counted.0 in
    let most : workers ≤ 64 = counted.1 in
    λ e. elim (is.0 (ap Err e)) [
      | inl low ↦ absurd (omega (arith, low, within))
      | inr high ↦
          absurd (omega (arith, high, most))
    ]
