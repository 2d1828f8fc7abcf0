-- A text, one line or one layer longer.
use Rattle.std.proofs.Common.{◌≡◌, ℕ, zero, suc, ◌+◌, ◌==◌, false, cond, List, [], ◌∷◌, ◌++◌, map, take}
use Rattle.std.proofs.Common.{slice_get, Some, codes, sym, ap, ◌∙◌, arith}
use Rattle.std.proofs.lemmas.List.{append_assoc, append-nil}
use Rattle.std.proofs.lemmas.Option.{slice_get_within}
use Rattle.std.proofs.lemmas.Bool.{ne_eqb}
use Rattle.events.specs.Names.{NameBytes}
use Rattle.specification.specs.Lines.{Line, text_of, names_text}
use Rattle.specification.specs.LayerRule.{Row}
use Rattle.specification.specs.CertificateText.{layers_text}
use Rattle.format_words.proofs.LineLists.{line-more}
use Rattle.format_words.proofs.NameList.{front-more}

-- the line was added to a text that is now this one
pub line-added : {X : Type 0} (f : X → Line) (start text new : List ℕ) (xs : List X) (i : ℕ) (x : X)
    → new ≡ text ++ (f x ++ 10 ∷ []) → text ≡ start ++ text_of (map f (take i xs))
    → slice_get xs i ≡ Some x → new ≡ start ++ text_of (map f (take (i + 1) xs))
line-added f start text new xs i x added is at = added ∙ line-more f start text [] xs i x is at

-- a layer after others
layers-behind : (first : List NameBytes) (row : Row) (layer : List NameBytes)
    → layers_text ((first ∷ row) ++ layer ∷ []) ≡ layers_text (first ∷ row)
    ++ (codes " /" ++ names_text layer)
layers-behind first [] layer = append_assoc (names_text first) (codes " /") (names_text layer)
layers-behind first (next ∷ row) layer =
    ap (λ t. (names_text first ++ codes " /") ++ t) (layers-behind next row layer)
    ∙ sym (append_assoc (names_text first ++ codes " /") (layers_text (next ∷ row))
    (codes " /" ++ names_text layer))

pub layer-more : (start text : List ℕ) (row : Row) (i : ℕ) (layer : List NameBytes)
    → text ≡ start ++ layers_text (take i row)
    → slice_get row i ≡ Some layer → text ++ (cond (i == 0) [] (codes " /") ++ names_text layer)
    ≡ start ++ layers_text (take (i + 1) row)
layer-more start text row zero layer is at =
    ap (λ t. t ++ names_text layer) (is ∙ append-nil start)
    ∙ ap (λ (r : Row). start ++ layers_text r) (sym (front-more row 0 layer at))
layer-more start text [] (suc i) layer is at = absurd (omega (arith, slice_get_within [] (suc i) layer at))
layer-more start text (first ∷ row) (suc i) layer is at =
    let behind : (suc i == 0) ≡ false = ne_eqb (suc i) 0 (λ e. absurd (omega arith)) in
    rw behind (ap (λ t. t ++ (codes " /" ++ names_text layer)) is
    ∙ append_assoc start (layers_text (first ∷ take i row)) (codes " /" ++ names_text layer)
    ∙ ap (λ t. start ++ t) (sym (layers-behind first (take i row) layer))
    ∙ ap (λ (r : Row). start ++ layers_text r) (sym (front-more (first ∷ row) (suc i) layer at)))
