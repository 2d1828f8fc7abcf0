-- What the first refusal says of each test: none is answered where no test holds, and each where it is the
-- first that does.
use Rattle.std.proofs.Common.{◌≡◌, ℕ, ◌+◌, Bool, true, false, ◌||◌, ◌&&◌, ◌==◌, Some, None, List, [], ◌∷◌}
use Rattle.std.proofs.Common.{length, refl, sym, ap, ◌∙◌, zero, suc}
use Rattle.std.specs.Prelude.{nat_lt, nat_le, count_by, sum_by, slice_get, if◌then◌else◌}
use Rattle.events.specs.History.{response_of, is_insert, stream_of, count_of}
use Rattle.events.specs.Session.{received, passes, first_that_holds, refusals, first_refusal}
use Rattle.events.specs.declared.TheConstants.{MOST_ENTRIES, MOST_INSERTS, MOST_NAMES, MOST_PLACES}
use Rattle.events.specs.declared.entry.Entry.{Entry}
use Rattle.events.specs.declared.refusal.Refusal.{Refusal}

-- where no refusal is answered no test holds
all_fail : (rs : List (Bool × Refusal)) (k : ℕ) (r : Bool × Refusal) → first_that_holds rs ≡ None
    → slice_get rs k ≡ Some r → r.0 ≡ false
all_fail [] k r e at = absurd cc
all_fail (x ∷ rs) k r e at = go x.0 refl k e at (λ k e at. all_fail rs k r e at)
  where
    go : (b : Bool) → x.0 ≡ b → (k : ℕ) → (if b then Some x.1 else first_that_holds rs) ≡ None
        → slice_get (x ∷ rs) k ≡ Some r →
        ((k : ℕ) → first_that_holds rs ≡ None → slice_get rs k ≡ Some r → r.0 ≡ false) → r.0 ≡ false
    go true is k e at rest = absurd cc
    go false is zero e at rest = let same : x ≡ r = cc in ap (λ (p : Bool × Refusal). p.0) (sym same) ∙ is
    go false is (suc k) e at rest = rest k e at

-- no test holds of the entry
pub record IsTaken (replicas : ℕ) (entries : List Entry) (e : Entry) : Type 0 where
  pub replica : (nat_le replicas e.replica || passes (λ o. nat_le replicas o.replica) (received e.body))
      ≡ false
  pub own : passes (λ o. o.replica == e.replica) (received e.body) ≡ false
  pub early : passes (λ o. nat_lt (count_of o.replica entries) o.n) (received e.body) ≡ false
  pub entries_full : nat_le MOST_ENTRIES (length (stream_of e.replica entries)) ≡ false
  pub inserts_full :
      (is_insert e.body && nat_le MOST_INSERTS (count_by is_insert (stream_of e.replica entries))) ≡ false
  pub long : nat_lt MOST_NAMES (length (response_of e.body)) ≡ false
  pub places_full :
      nat_lt MOST_PLACES (sum_by (λ b. length (response_of b)) (stream_of e.replica entries)
      + length (response_of e.body)) ≡ false

pub is_taken : (replicas : ℕ) (entries : List Entry) (e : Entry) → first_refusal replicas entries e ≡ None
    → IsTaken replicas entries e
is_taken replicas entries e h =
    let rs : List (Bool × Refusal) = refusals replicas entries e in
    record {
      replica = all_fail rs 0 _ h refl;
      own = all_fail rs 1 _ h refl;
      early = all_fail rs 2 _ h refl;
      entries_full = all_fail rs 3 _ h refl;
      inserts_full = all_fail rs 4 _ h refl;
      long = all_fail rs 5 _ h refl;
      places_full = all_fail rs 6 _ h refl;
    }
