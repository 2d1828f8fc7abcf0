-- Numbers that are copied from those of another response.
use Rattle.std.proofs.Common.{◌≡◌, ◌∙◌, ℕ, zero, suc, ◌+◌, ◌-◌, ◌<◌, ◌≤◌, Some, None, List, [], ◌∷◌, ◌++◌}
use Rattle.std.proofs.Common.{take, drop, length, get_or, refl, sym, ap, arith, append_assoc, length-drop}
use Rattle.std.proofs.Common.{length-take}
use Rattle.std.specs.Prelude.{slice_get, unwrap_or}
use Rattle.std.proofs.Math.Seq.{take-add}
use Rattle.std.proofs.lemmas.List.{drop-drop, drop-take, drop-map, get_or-drop, length-map, map-append}
use Rattle.std.proofs.lemmas.List.{take_more, take-map, take-take}
use Rattle.std.proofs.lemmas.Option.{get_or_from_slice_get, slice_get_within}
use Rattle.events.specs.Names.{NameBytes}
use Rattle.events.proofs.Places.{slice_get-none}
use Rattle.specification.specs.Elements.{number_in, numbers_in}

left-get : (xs ys : List ℕ) (i : ℕ) → i < length xs → get_or (xs ++ ys) i 0 ≡ get_or xs i 0
left-get [] ys i lt = absurd (omega (arith, lt))
left-get (x ∷ xs) ys zero lt = refl
left-get (x ∷ xs) ys (suc i) lt = left-get xs ys i (omega (arith, lt))

-- the other's numbers stand within the list
pub stands-within : (names : List NameBytes) (old : List ℕ) (begin : ℕ) (last : List NameBytes)
    → take (length last) (drop begin old) ≡ numbers_in names last → 0 < length last
    → begin + length last ≤ length old
stands-within names old begin last e some =
    let size : length (take (length last) (drop begin old)) ≡ length last =
    ap length e ∙ length-map last (λ a. unwrap_or (number_in names a) (length names)) in
    omega (arith, size, some, length-take (length last) (drop begin old), length-drop begin old)

pub one_copied : (items old : List ℕ) (n k x : ℕ) → items ≡ old ++ take k (drop n old) → n + k < length old
    → get_or items (n + k) 0 ≡ x → items ++ x ∷ [] ≡ old ++ take (k + 1) (drop n old)
one_copied items old n k x is lt e =
    let there : x ≡ get_or (drop n old) k 0 = sym e ∙ ap (λ l. get_or l (n + k) 0) is
    ∙ left-get old (take k (drop n old)) (n + k) lt ∙ sym (get_or-drop n old k 0) in
    ap (λ l. l ++ x ∷ []) is ∙ append_assoc old (take k (drop n old)) (x ∷ [])
    ∙ ap (λ l. old ++ l) (ap (λ y. take k (drop n old) ++ y ∷ []) there
    ∙ sym (take_more (drop n old) k 0 (omega (arith, lt, length-drop n old))))

-- the first places say what stands at places within them
part-of : (row some : List ℕ) (total : ℕ) → take total row ≡ some → (j run : ℕ) → run ≤ total - j
    → take run (drop j row) ≡ take run (drop j some)
part-of row some total e j zero le = refl
part-of row some total e j (suc n) le =
    let within : j + suc n ≤ total = omega (arith, le) in
    sym (drop-take j (suc n) row) ∙ ap (drop j) (sym (take-take (j + suc n) total row within)
    ∙ ap (take (j + suc n)) e) ∙ drop-take j (suc n) some

pub copied : (names : List NameBytes) (old : List ℕ) (begin : ℕ) (last : List NameBytes)
    → take (length last) (drop begin old) ≡ numbers_in names last → (w : List NameBytes) (i j run : ℕ)
    → run ≤ length last - j
    → take run (drop i w) ≡ take run (drop j last) → take run (drop (begin + j) old)
    ≡ numbers_in names (take run (drop i w))
copied names old begin last e w i j run le same =
    let number = λ (a : NameBytes). unwrap_or (number_in names a) (length names) in
    ap (take run) (sym (drop-drop j begin old))
    ∙ part-of (drop begin old) (numbers_in names last) (length last) e j run le
    ∙ ap (take run) (drop-map number j last) ∙ take-map number run (drop j last)
    ∙ ap (numbers_in names) (sym same)

-- the numbers of a run more, and of one name more
pub run_more : (names w : List NameBytes) (i run : ℕ)
    → numbers_in names (take i w) ++ numbers_in names (take run (drop i w))
    ≡ numbers_in names (take (i + run) w)
run_more names w i run =
    sym (ap (numbers_in names) (take-add i run w)
    ∙ map-append (λ a. unwrap_or (number_in names a) (length names)) (take i w) (take run (drop i w)))

pub one_more : (names w : List NameBytes) (i number : ℕ) → slice_get (numbers_in names w) i ≡ Some number
    → numbers_in names (take i w) ++ number ∷ [] ≡ numbers_in names (take (i + 1) w)
one_more names w i number at =
    let all : List ℕ = numbers_in names w in
    let f = λ (a : NameBytes). unwrap_or (number_in names a) (length names) in
    ap (λ l. l ++ number ∷ []) (sym (take-map f i w))
    ∙ ap (λ x. take i all ++ x ∷ []) (sym (get_or_from_slice_get all i number 0 at))
    ∙ sym (take_more all i 0 (slice_get_within all i number at)) ∙ take-map f (i + 1) w

-- where no number is left, or one is, the place is past the end, or before it
pub past-end : (names w : List NameBytes) (i : ℕ) → None ≡ slice_get (numbers_in names w) i → length w ≤ i
past-end names w i none =
    omega (
      arith,
      slice_get-none (numbers_in names w) i (sym none),
      length-map w (λ a. unwrap_or (number_in names a) (length names)),
    )

pub before-end : (names w : List NameBytes) (i number : ℕ) → slice_get (numbers_in names w) i ≡ Some number
    → i < length w
before-end names w i number at =
    omega (
      arith,
      slice_get_within (numbers_in names w) i number at,
      length-map w (λ a. unwrap_or (number_in names a) (length names)),
    )
