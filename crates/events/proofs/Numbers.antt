-- Lists of numbers and of operations' names, one longer.
use Rattle.std.proofs.Common.{◌≡◌, ℕ, zero, suc, ◌+◌, List, [], ◌∷◌, ◌++◌, map, sym, ◌∙◌, ap, arith}
use Rattle.std.specs.Prelude.{flat_map}
use Rattle.std.proofs.lemmas.List.{map_push, flat_map_more}
use Rattle.events.specs.Operation.{Operation}
use Rattle.events.specs.Operations.{numbers_from}

numbers_from-suc : (from n : ℕ) → numbers_from from (suc n) ≡ numbers_from from n ++ (from + n) ∷ []
numbers_from-suc from zero = let same : from ≡ from + 0 = omega arith in ap (λ k. k ∷ []) same
numbers_from-suc from (suc n) =
    let same : suc from + n ≡ from + suc n = omega arith in
    ap (λ l. from ∷ l) (numbers_from-suc (suc from) n ∙ ap (λ k. numbers_from (suc from) n ++ k ∷ []) same)

pub numbers_from-push : (from n : ℕ) → numbers_from from (n + 1) ≡ numbers_from from n ++ (from + n) ∷ []
numbers_from-push from n = let one : n + 1 ≡ suc n = omega arith in
    ap (numbers_from from) one ∙ numbers_from-suc from n

-- the names of a replica's operations, with one more
pub names_push : (r i : ℕ)
    → map (λ n. record { replica = r; n = n }) (numbers_from 1 i) ++ record { replica = r; n = i + 1 } ∷ [] ≡
    map {B = Operation} (λ n. record { replica = r; n = n }) (numbers_from 1 (i + 1))
names_push r i =
    let last : i + 1 ≡ 1 + i = omega arith in
    sym (ap (map (λ n. record { replica = r; n = n })) (numbers_from-push 1 i
    ∙ ap (λ k. numbers_from 1 i ++ k ∷ []) (sym last))
    ∙ map_push (λ n. record { replica = r; n = n }) (numbers_from 1 i) (i + 1))

-- the names of all replicas', with those of one more replica
pub replicas_push : (f : ℕ → List Operation) (r : ℕ) → flat_map f (numbers_from 0 r) ++ f r
    ≡ flat_map f (numbers_from 0 (r + 1))
replicas_push f r =
    let zero_plus : 0 + r ≡ r = omega arith in
    flat_map_more f [] (numbers_from 0 r) r
    ∙ ap (flat_map f) (sym (numbers_from-push 0 r ∙ ap (λ k. numbers_from 0 r ++ k ∷ []) zero_plus))
