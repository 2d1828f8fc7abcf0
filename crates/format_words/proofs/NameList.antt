-- A text, one name longer.
use Rattle.std.proofs.Common.{◌≡◌, ℕ, ◌+◌, ◌<◌, List, [], ◌∷◌, ◌++◌, length, take, get_or, slice_get, Some}
use Rattle.std.proofs.Common.{None, sym, ap, ◌∙◌, arith}
use Rattle.std.proofs.lemmas.List.{take_more, flat_map_more}
use Rattle.std.proofs.lemmas.Option.{slice_get_within, get_or_from_slice_get, slice_get-get_or, none-some}
use Rattle.events.specs.Names.{NameBytes}
use Rattle.specification.specs.Lines.{names_text}

-- the beginning of a list, one element longer
pub front-more : {X : Type 0} (xs : List X) (i : ℕ) (x : X) → slice_get xs i ≡ Some x
    → take (i + 1) xs ≡ take i xs ++ x ∷ []
front-more xs i x e = take_more xs i x (slice_get_within xs i x e)
    ∙ ap (λ y. take i xs ++ y ∷ []) (get_or_from_slice_get xs i x x e)

-- by what stands at the place
pub name-next : (start text : List ℕ) (names : List NameBytes) (i : ℕ) (name : NameBytes)
    → text ≡ start ++ names_text (take i names) → i < length names
    → name ≡ get_or names i name → text ++ (32 ∷ name) ≡ start ++ names_text (take (i + 1) names)
name-next start text names i name h lt is =
    ap (λ t. t ++ (32 ∷ name)) h
    ∙ flat_map_more (λ a. 32 ∷ a) start (take i names) name
    ∙ ap (λ l. start ++ names_text l)
    (sym (take_more names i name lt ∙ ap (λ y. take i names ++ y ∷ []) (sym is)))

-- there is an element at each place
pub not-past : {X : Type 0} (xs : List X) (i : ℕ) → i < length xs → slice_get xs i ≡ None → ⊥
not-past [] i h e = omega arith
not-past (x ∷ xs) i h e = none-some (get_or (x ∷ xs) i x) (sym e ∙ slice_get-get_or (x ∷ xs) i x h)
