-- Lines that the elements of a list say, one each.
use Rattle.std.proofs.Common.{◌≡◌, ℕ, ◌+◌, List, [], ◌∷◌, ◌++◌, length, map, take, slice_get, Some, refl, sym}
use Rattle.std.proofs.Common.{ap, ◌∙◌, arith, append_assoc}
use Rattle.std.specs.List.{All}
use Rattle.std.proofs.lemmas.List.{length-map, map_push, flat_map_more}
use Rattle.std.proofs.lemmas.List.Elements.{All-head, All-tail, All-cons, All-nil}
use Rattle.specification.specs.Lines.{Line, text_of}
use Rattle.format_words.proofs.NameList.{front-more}

-- a text, one line longer
pub line-more : {X : Type 0} (f : X → Line) (start text : List ℕ) (lines : List Line) (xs : List X) (i : ℕ)
    (x : X) → text ≡ start ++ text_of (lines ++ map f (take i xs)) → slice_get xs i ≡ Some x
    → text ++ (f x ++ 10 ∷ []) ≡ start ++ text_of (lines ++ map f (take (i + 1) xs))
line-more f start text lines xs i x is at =
    ap (λ t. t ++ (f x ++ 10 ∷ [])) is
    ∙ flat_map_more (λ (l : Line). l ++ 10 ∷ []) start (lines ++ map f (take i xs)) (f x)
    ∙ ap (λ (ls : List Line). start ++ text_of ls) (append_assoc lines (map f (take i xs)) (f x ∷ [])
    ∙ ap (λ (ls : List Line). lines ++ ls) (sym (map_push f (take i xs) x)
    ∙ ap (map f) (sym (front-more xs i x at))))

-- one of the lines is an element's
pub line-there : {X : Type 0} (f : X → Line) (xs : List X) (before rest : List Line) (line : Line)
    → map f xs ≡ before ++ line ∷ rest →
    (earlier : List X) × (later : List X) × (x : X) × (xs ≡ earlier ++ x ∷ later)
    × (before ≡ map f earlier) × (line ≡ f x)
line-there f [] [] rest line is = absurd (cc)
line-there f [] (b ∷ before) rest line is = absurd (cc)
line-there f (x ∷ xs) [] rest line is = ([], xs, x, refl, refl, cc)
line-there f (x ∷ xs) (b ∷ before) rest line is =
    let head : b ≡ f x = cc in
    let tail : map f xs ≡ before ++ line ∷ rest = cc in
    let p = line-there f xs before rest line tail in
    (x ∷ p.0, p.1, p.2, ap (λ l. x ∷ l) p.3, ap (λ y. y ∷ before) head ∙ ap (λ l. f x ∷ l) p.4, p.5)

pub all-of : {X : Type 0} (P : X → Type 0) (earlier later : List X) (x : X) → All P (earlier ++ x ∷ later)
    → All P earlier × P x
all-of P [] later x h = (All-nil P, All-head P x later h)
all-of P (y ∷ earlier) later x h =
    let p = all-of P earlier later x (All-tail P y (earlier ++ x ∷ later) h) in
    (All-cons P y earlier (All-head P y (earlier ++ x ∷ later) h) p.0, p.1)

-- the lines tell the elements, where each line tells its own
module _ {X : Type 0} (f : X → Line) (P Q : X → Type 0)
    (one : (x y : X) → P x → Q y → f x ≡ f y → x ≡ y) where
  pub same-list : (xs ys : List X) (more rest : List Line) → length xs ≡ length ys → All P xs → All Q ys
      → map f xs ++ more ≡ map f ys ++ rest → (xs ≡ ys) × (more ≡ rest)
  same-list [] [] more rest n h k is = (refl, is)
  same-list [] (y ∷ ys) more rest n h k is = absurd (omega arith)
  same-list (x ∷ xs) [] more rest n h k is = absurd (omega arith)
  same-list (x ∷ xs) (y ∷ ys) more rest n h k is =
      let head : f x ≡ f y = cc in
      let tail : map f xs ++ more ≡ map f ys ++ rest = cc in
      let first = one x y (All-head P x xs h) (All-head Q y ys k) head in
      let others = same-list xs ys more rest (omega arith) (All-tail P x xs h) (All-tail Q y ys k) tail in
      (ap (λ z. z ∷ xs) first ∙ ap (λ l. y ∷ l) others.0, others.1)

  pub same-all : (xs ys : List X) → All P xs → All Q ys → map f xs ≡ map f ys → xs ≡ ys
  same-all xs ys h k is =
      let many : length xs ≡ length ys = sym (length-map xs f) ∙ ap length is ∙ length-map ys f in
      (same-list xs ys [] [] many h k (ap (λ l. l ++ []) is)).0
