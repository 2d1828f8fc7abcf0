-- Passes that have replayed, list against list.
use Rattle.std.proofs.Common.{◌≡◌, ℕ, suc, zero, ◌+◌, ◌<◌, ◌≤◌, cond, nat_eq, List, [], ◌∷◌, ◌++◌, length}
use Rattle.std.proofs.Common.{get_or, set, sym, refl, ap, ◌∙◌, subst, arith, All, ◌⊎◌, inl, inr, drop, Result}
use Rattle.std.proofs.Common.{Ok, Err, true≢false}
use Rattle.std.specs.Prelude.{IfOk, IsOk}
use mathlib.Core.Logic.{dite}
use native.Mathlib.Decide.{ℕ_discrete}
use Rattle.std.proofs.lemmas.Bool.{cases_lt}
use Rattle.std.proofs.lemmas.List.Elements.{All-nil, All-cons, All-head, All-tail}
use Rattle.events.specs.declared.entry.Entry.{Entry}
use Rattle.events.specs.History.{History, stream}
use Rattle.sessions.specs.Rule.{total}
use Rattle.sessions.proofs.Lists.{has_one, has_none}
use Rattle.events.specs.History.{SameStreams, IsLegal, stream_of}
use Rattle.specification.proofs.OperationNames.{stream_of-none}
use Rattle.sessions.specs.Shown.{PassShown, Which, new_pass, hands, mine, AreAll, HasStreams}
use Rattle.rehearsal.specs.declared.recorder.Told.{Told}
use Rattle.rehearsal.specs.Replays.{IsReplayed, HasReplayed, AreReplayed}
use Rattle.rehearsal.specs.Opened.{AreOpened}

pub replayed_more : (h : History) (ps qs : List PassShown) (p q : PassShown) → AreReplayed h ps qs
    → IsReplayed h p q → AreReplayed h (ps ++ p ∷ []) (qs ++ q ∷ [])
replayed_more h [] [] p q a b = (b, tt)
replayed_more h [] (y ∷ ys) p q a b = absurd a
replayed_more h (x ∷ xs) [] p q a b = absurd a
replayed_more h (x ∷ xs) (y ∷ ys) p q a b = (a.0, replayed_more h xs ys p q a.1 b)

-- a total that doesn't depend on what was seen
pub replayed_total : (f : PassShown → ℕ)
    → ((p : PassShown) (seen : List Entry) → f (record p { seen = seen }) ≡ f p)
    → (h : History) (ps qs : List PassShown) → AreReplayed h ps qs → total f qs ≡ total f ps
replayed_total f same h [] [] a = refl
replayed_total f same h [] (y ∷ ys) a = absurd a
replayed_total f same h (x ∷ xs) [] a = absurd a
replayed_total f same h (x ∷ xs) (y ∷ ys) a =
    let one : f y ≡ f x = ap f a.0.same ∙ same x y.seen in
    let more = replayed_total f same h xs ys a.1 in
    omega arith

pub replayed_length : (h : History) (ps qs : List PassShown) → AreReplayed h ps qs → length qs ≡ length ps
replayed_length h [] [] a = refl
replayed_length h [] (y ∷ ys) a = absurd a
replayed_length h (x ∷ xs) [] a = absurd a
replayed_length h (x ∷ xs) (y ∷ ys) a = ap suc (replayed_length h xs ys a.1)

pub replayed_session : (s : Which) (h : History) (ps qs : List PassShown) → AreReplayed h ps qs
    → All (λ (p : PassShown). p.session ≡ s) ps → All (λ (p : PassShown). p.session ≡ s) qs
replayed_session s h [] [] a all = All-nil (λ (p : PassShown). p.session ≡ s)
replayed_session s h [] (y ∷ ys) a all = absurd a
replayed_session s h (x ∷ xs) [] a all = absurd a
replayed_session s h (x ∷ xs) (y ∷ ys) a all =
    let P : PassShown → Type 0 = λ p. p.session ≡ s in
    All-cons P y ys (ap (λ (p : PassShown). p.session) a.0.same ∙ All-head P x xs all)
    (replayed_session s h xs ys a.1 (All-tail P x xs all))

-- passes that had recorded nothing have recorded the streams
pub replayed_streams : (h : History) (ps qs : List PassShown) → AreReplayed h ps qs
    → All (λ (p : PassShown). mine p ≡ []) ps → All (λ (p : PassShown). mine p ≡ stream h p.replica) qs
replayed_streams h [] [] a fresh = All-nil (λ (p : PassShown). mine p ≡ stream h p.replica)
replayed_streams h [] (y ∷ ys) a fresh = absurd a
replayed_streams h (x ∷ xs) [] a fresh = absurd a
replayed_streams h (x ∷ xs) (y ∷ ys) a fresh =
    let F : PassShown → Type 0 = λ p. mine p ≡ [] in
    let Q : PassShown → Type 0 = λ p. mine p ≡ stream h p.replica in
    let replica : y.replica ≡ x.replica = ap (λ (p : PassShown). p.replica) a.0.same in
    let here : mine y ≡ stream h x.replica =
    a.0.recorded ∙ ap (λ bodies. bodies ++ stream h x.replica) (All-head F x xs fresh) in
    All-cons Q y ys (here ∙ ap (stream h) (sym replica))
    (replayed_streams h xs ys a.1 (All-tail F x xs fresh))

-- one of them is of each replica that is among them
pub one_of : (P : PassShown → Type 0) (r : ℕ) (ps : List PassShown) → hands r ps ≡ 1 → All P ps
    → (p : PassShown) × (p.replica ≡ r) × P p
one_of P r [] one all = absurd (omega arith)
one_of P r (x ∷ xs) one all = dite (ℕ_discrete x.replica r) (λ same. (x, same, All-head P x xs all)) (λ other.
    let none = has_none r x.replica other in
    one_of P r xs (omega arith) (All-tail P x xs all))

-- the passes of the replicas from a on
pub hands_before : (s : Which) (ps : List PassShown) (a r : ℕ) → r < a
    → ((k : ℕ) (d : PassShown) → k < length ps → get_or ps k d ≡ new_pass s (a + k)) → hands r ps ≡ 0
hands_before s [] a r less each = refl
hands_before s (p ∷ ps) a r less each =
    let here : p.replica ≡ a = ap (λ (q : PassShown). q.replica) (each 0 p (omega arith)) ∙ omega arith in
    let apart : r < p.replica = omega arith in
    let none = has_none r p.replica (λ (e : p.replica ≡ r). omega arith) in
    let more =
    hands_before s ps (a + 1) r (omega arith) (λ k d less. each (suc k) d (omega arith)
    ∙ ap (new_pass s) (omega arith)) in
    omega arith

pub hands_of : (s : Which) (ps : List PassShown) (a r : ℕ) → a ≤ r → r < a + length ps
    → ((k : ℕ) (d : PassShown) → k < length ps → get_or ps k d ≡ new_pass s (a + k)) → hands r ps ≡ 1
hands_of s [] a r from less each = absurd (omega arith)
hands_of s (p ∷ ps) a r from less each =
    let here : p.replica ≡ a = ap (λ (q : PassShown). q.replica) (each 0 p (omega arith)) ∙ omega arith in
    let next : (k : ℕ) (d : PassShown) → k < length ps → get_or ps k d ≡ new_pass s (a + 1 + k) =
    λ k d less. each (suc k) d (omega arith) ∙ ap (new_pass s) (omega arith) in
    dite (ℕ_discrete p.replica r) (λ same.
    let one = has_one r p.replica same in
    let none = hands_before s ps (a + 1) r (omega arith) next in
    omega arith) (λ other.
    let none = has_none r p.replica other in
    let one = hands_of s ps (a + 1) r (omega arith) (omega arith) next in
    omega arith)

-- a total that is nothing for a new pass
pub new_total : (f : PassShown → ℕ) (s : Which) → ((r : ℕ) → f (new_pass s r) ≡ 0)
    → (ps : List PassShown) (a : ℕ)
    → ((k : ℕ) (d : PassShown) → k < length ps → get_or ps k d ≡ new_pass s (a + k)) → total f ps ≡ 0
new_total f s zeros [] a each = refl
new_total f s zeros (p ∷ ps) a each =
    let here : f p ≡ 0 = ap f (each 0 p (omega arith)) ∙ zeros (a + 0) in
    let more =
    new_total f s zeros ps (a + 1) (λ k d less. each (suc k) d (omega arith)
    ∙ ap (new_pass s) (omega arith)) in
    omega arith

-- what holds of each new pass
pub new_all : (P : PassShown → Type 0) (s : Which) → ((r : ℕ) → P (new_pass s r))
    → (ps : List PassShown) (a : ℕ)
    → ((k : ℕ) (d : PassShown) → k < length ps → get_or ps k d ≡ new_pass s (a + k)) → All P ps
new_all P s holds [] a each = All-nil P
new_all P s holds (p ∷ ps) a each =
    All-cons P p ps (subst P (sym (each 0 p (omega arith))) (holds (a + 0)))
    (new_all P s holds ps (a + 1) (λ k d less. each (suc k) d (omega arith)
    ∙ ap (new_pass s) (omega arith)))

-- the passes of a session at its start, once the first has made an observer
pub opened_of : (s : Which) (ps : List PassShown) (q : PassShown) → 1 ≤ s.replicas → length ps ≡ s.replicas
    → ((k : ℕ) (d : PassShown) → k < s.replicas → get_or ps k d ≡ new_pass s k)
    → q ≡ record (new_pass s 0) { made = 1 } → AreOpened s (set ps 0 q)
opened_of s [] q some count each is = absurd (omega arith)
opened_of s (p ∷ ps) q some count each is =
    let all : (k : ℕ) (d : PassShown) → k < length (p ∷ ps) → get_or (p ∷ ps) k d ≡ new_pass s (0 + k) =
    λ k d less. each k d (omega arith) ∙ ap (new_pass s) (omega arith) in
    let rest : (k : ℕ) (d : PassShown) → k < length ps → get_or ps k d ≡ new_pass s (1 + k) =
    λ k d less. each (suc k) d (omega arith) ∙ ap (new_pass s) (omega arith) in
    let S : PassShown → Type 0 = λ p. p.session ≡ s in
    let F : PassShown → Type 0 = λ p. mine p ≡ [] in
    let same : q.replica ≡ p.replica = ap (λ (p : PassShown). p.replica) is
    ∙ sym (ap (λ (p : PassShown). p.replica) (each 0 p (omega arith))) in
    let one : q.made ≡ 1 = ap (λ (p : PassShown). p.made) is in
    let none : q.ended ≡ 0 = ap (λ (p : PassShown). p.ended) is in
    let made = new_total (λ p. p.made) s (λ r. refl) ps 1 rest in
    let ended = new_total (λ p. p.ended) s (λ r. refl) ps 1 rest in
    record {
      count = count;
      some = omega arith;
      of_session = All-cons S q ps (ap (λ (p : PassShown). p.session) is) (new_all S s (λ r. refl) ps 1 rest);
      each = λ r less. ap (λ (n : ℕ). cond (nat_eq n r) 1 0 + hands r ps) same
          ∙ hands_of s (p ∷ ps) 0 r (omega arith) (omega arith) all;
      made = omega arith;
      ended = omega arith;
      fresh = All-cons F q ps (ap mine is) (new_all F s (λ r. refl) ps 1 rest);
    }

-- all passes, once the observer has ended at the first
pub record AreEnded (s : Which) (h : History) (ps : List PassShown) : Type 0 where
  pub of_session : All (λ (p : PassShown). p.session ≡ s) ps
  pub all : AreAll s.replicas ps
  pub streams : All (λ (p : PassShown). mine p ≡ stream h p.replica) ps

pub ended_of : (s : Which) (h : History) (before ps : List PassShown) (old q : PassShown) (seen : List Entry)
    → AreOpened s before → AreReplayed h before ps
    → old ≡ get_or ps 0 old → q ≡ record old { seen = seen; ended = old.ended + 1 } → mine q ≡ mine old
    → AreEnded s h (set ps 0 q)
ended_of s h before [] old q seen opened replayed first is recorded = let e =
    replayed_length h before [] replayed in let some = opened.some in absurd (omega arith)
ended_of s h before (p ∷ ps) old q seen opened replayed first is recorded =
    let S : PassShown → Type 0 = λ p. p.session ≡ s in
    let Q : PassShown → Type 0 = λ p. mine p ≡ stream h p.replica in
    let sessions = replayed_session s h before (p ∷ ps) replayed opened.of_session in
    let streams = replayed_streams h before (p ∷ ps) replayed opened.fresh in
    let count = replayed_length h before (p ∷ ps) replayed in
    let made = replayed_total (λ p. p.made) (λ p seen. refl) h before (p ∷ ps) replayed in
    let ended = replayed_total (λ p. p.ended) (λ p seen. refl) h before (p ∷ ps) replayed in
    let is_q : q ≡ record p { seen = seen; ended = p.ended + 1 } =
    is ∙ ap (λ (p : PassShown). record p { seen = seen; ended = p.ended + 1 }) first in
    let replica : q.replica ≡ p.replica = ap (λ (p : PassShown). p.replica) is_q in
    let q_made : q.made ≡ p.made = ap (λ (p : PassShown). p.made) is_q in
    let q_ended : q.ended ≡ p.ended + 1 = ap (λ (p : PassShown). p.ended) is_q in
    let one = opened.made in
    let none = opened.ended in
    record {
      of_session =
          All-cons S q ps (ap (λ (p : PassShown). p.session) is_q ∙ All-head S p ps sessions)
          (All-tail S p ps sessions);
      all = record {
        count = count ∙ opened.count;
        each = λ r less.
            ap (λ (n : ℕ). cond (nat_eq n r) 1 0 + hands r ps) replica
            ∙ (replayed_total (λ p. cond (nat_eq p.replica r) 1 0) (λ p seen. refl) h before (p ∷ ps) replayed
            ∙ opened.each r less);
        none_out = omega arith;
      };
      streams =
          All-cons Q q ps (recorded ∙ ap mine first ∙ (All-head Q p ps streams ∙ ap (stream h) (sym replica)))
          (All-tail Q p ps streams);
    }

-- what such a session closes with has the recording's streams
pub closes_with : (s : Which) (h closed : History) (ps : List PassShown) → AreEnded s h ps
    → s.replicas ≡ h.replicas → closed.replicas ≡ s.replicas → HasStreams closed.entries ps → IsLegal h
    → IsLegal closed → SameStreams h closed
closes_with s h closed ps ended same as_many has legal closed_legal =
    record { replicas = sym same ∙ sym as_many; streams = λ r. at r (cases_lt r h.replicas) }
  where
    B : PassShown → Type 0
    B p = (stream_of p.replica closed.entries ≡ mine p) × (mine p ≡ stream h p.replica)

    both : (ps : List PassShown) → HasStreams closed.entries ps
        → All (λ (p : PassShown). mine p ≡ stream h p.replica) ps → All B ps
    both ps a b = λ k d less. (a k d less, b k d less)

    at : (r : ℕ) → (r < h.replicas) ⊎ (h.replicas ≤ r) → stream h r ≡ stream closed r
    at r (inl less) =
        let one =
        one_of B r ps (ended.all.each r (subst (λ n. r < n) (sym same) less))
        (both ps has ended.streams) in
        let here : stream_of one.0.replica closed.entries ≡ stream h one.0.replica = one.2.0 ∙ one.2.1 in
        sym (subst (λ q. stream_of q closed.entries ≡ stream h q) one.1 here)
    at r (inr past) =
        stream_of-none h.replicas r h.entries legal.replica_known past
        ∙ sym (stream_of-none closed.replicas r closed.entries closed_legal.replica_known
        (subst (λ n. n ≤ r) (sym same ∙ sym as_many) past))

ok_holds : {A B : Type 0} {E : Type 0} (r : Result A B) → IfOk r (λ a. E) → IsOk r → E
ok_holds (Ok a) holds is = holds
ok_holds (Err e) holds is = absurd (true≢false (sym is))

-- a replay that came to its end
pub replayed_whole : (h : History) (old : PassShown) (told : Told) → HasReplayed h old told → IsOk told.answer
    → IsReplayed h old told.pass
replayed_whole h old told has is = record { same = has.same; recorded = ok_holds told.answer has.recorded is }

-- a list that isn't empty is its first member and the rest
pub first_and_rest : {X : Type 0} (xs ys : List X) (x : X) → 0 < length xs → x ≡ get_or xs 0 x
    → ys ≡ drop 1 xs → xs ≡ x ∷ ys
first_and_rest [] ys x some first rest = absurd (omega arith)
first_and_rest (y ∷ xs) ys x some first rest = λ i. sym first i ∷ sym rest i

-- what holds of all, the first of which was set, holds of that
pub first-of-set : (P : PassShown → Type 0) (ps : List PassShown) (q : PassShown) → 0 < length ps
    → All P (set ps 0 q) → P q
first-of-set P [] q some all = absurd (omega arith)
first-of-set P (p ∷ ps) q some all = All-head P q ps all
