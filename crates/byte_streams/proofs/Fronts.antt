-- Fronts of a list of bytes, one after the other.
use Rattle.std.proofs.Common.{◌≡◌, ℕ, ◌+◌, ◌-◌, ◌++◌, ◌∙◌, List, Option, length, take, drop, sym, ap, subst}
use Rattle.std.proofs.Math.Seq.{take-add}
use Rattle.std.proofs.lemmas.List.{take_rest}
use Rattle.std.specs.Io.KnownBytes.{Appends}
use Rattle.std.proofs.KnownBytes.{Appends-trans}

-- a prefix of the bytes, and then a prefix of what is left
pub front-joined : (bytes : List ℕ) (at n : ℕ)
    → take (at + n) bytes ≡ take at bytes ++ take n (take (length bytes - at) (drop at bytes))
front-joined bytes at n =
    let rest : take n (take (length bytes - at) (drop at bytes)) ≡ take n (drop at bytes) =
    ap (take n) (take_rest bytes at) in
    take-add at n bytes ∙ ap (λ l. take at bytes ++ l) (sym rest)

-- a prefix of the bytes was written, and then a prefix of what was left
pub front-grows : (a b c : Option (List ℕ)) (bytes : List ℕ) (at n : ℕ)
    → Appends a b (take at bytes) → Appends b c (take n (take (length bytes - at) (drop at bytes)))
    → Appends a c (take (at + n) bytes)
front-grows a b c bytes at n first second =
    subst (Appends a c) (sym (front-joined bytes at n)) (Appends-trans a b c _ _ first second)
