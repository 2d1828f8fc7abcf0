-- A name's bytes, padded with zeros to the room that each name has.
use Rattle.std.proofs.Common.{◌≡◌, ℕ, ◌+◌, ◌-◌, Bool, true, false, cond, not, Option, Some, None, List, []}
use Rattle.std.proofs.Common.{◌∷◌, ◌++◌, length, ◌&&◌, take, drop, subst, replicate, position, refl, sym, ap}
use Rattle.std.proofs.Common.{◌∙◌}
use Rattle.std.specs.List.{list_all, position_from}
use Rattle.std.proofs.lemmas.Iterator.Adapters.{position_from-zero}
use Rattle.std.proofs.Math.Seq.{take-append_seam}
use Rattle.std.proofs.lemmas.List.{drop-replicate}
use Rattle.events.specs.Names.{IsName, IsPadded, is_name_byte}

good_at : (t : Bool) (i : ℕ) (rest : Option ℕ) (all : Bool) → cond (not t) (Some i) rest ≡ None
    → (rest ≡ None → all ≡ true) → (t && all) ≡ true
good_at true i rest all e h = h e
good_at false i rest all e h = cc

-- where no byte is bad from some place on, each byte is good
none_bad_from : (p : ℕ → Bool) (i : ℕ) (bytes : List ℕ) → position_from (λ b. not (p b)) i bytes ≡ None
    → list_all p bytes ≡ true
none_bad_from p i [] e = refl
none_bad_from p i (b ∷ bytes) e =
    good_at (p b) i (position_from (λ c. not (p c)) (i + 1) bytes) (list_all p bytes) e
    (none_bad_from p (i + 1) bytes)

pub none_bad : (bytes : List ℕ) → position (λ b. not (is_name_byte b)) bytes ≡ None
    → list_all is_name_byte bytes ≡ true
none_bad bytes e =
    none_bad_from is_name_byte 0 bytes (sym (position_from-zero (λ b. not (is_name_byte b)) bytes) ∙ e)

pub padding : (bytes : List ℕ) → IsName bytes
    → IsPadded (bytes ++ drop (length bytes) (replicate 32 0)) (length bytes)
padding bytes name =
    let zeros : List ℕ = drop (length bytes) (replicate 32 0) in
    let first : take (length bytes) (bytes ++ zeros) ≡ bytes = take-append_seam bytes zeros in
    let rest : zeros ≡ replicate (32 - length bytes) 0 = drop-replicate (length bytes) 32 0 in
    record {
      name = subst IsName (sym first) name;
      size_is = ap length first;
      zeros = ap (λ z. bytes ++ z) rest ∙ ap (λ b. b ++ replicate (32 - length bytes) 0) (sym first);
    }
