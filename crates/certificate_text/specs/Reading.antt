-- What the words of a certificate's lines say. Nothing, where they say nothing of the kind.
use Rattle.std.specs.Prelude.{◌≡◌, ℕ, ◌+◌, nat_le, Bool, slice_index_or, if◌then◌else◌, Option, Some, None}
use Rattle.std.specs.Prelude.{option_map, List, [], ◌∷◌, ◌++◌, ◌==◌, ◌&&◌, length, codes, bytes_eq}
use Rattle.events.specs.Names.{NameBytes}
use Rattle.events.specs.Operation.{Operation}
use Rattle.specification.specs.Conflict.{Step}
use Rattle.specification.specs.LayerRule.{Row}
use Rattle.format_words.specs.Words.{Word}
use Rattle.format_words.specs.Reading.{◌>>=◌, number_at, name_of, name_at, names_at, operation_at, after_word}
use Rattle.format_words.specs.Reading.{no_more}
use Rattle.certificate_text.specs.declared.kind.Kind.{Kind}
use Rattle.certificate_text.specs.declared.kind.Kind.TheVariants.{Doubled, Contents, Position, Accepted}
use Rattle.certificate_text.specs.declared.kind.Kind.TheVariants.{Refused}

-- an operation that ends the line
unfoldable pub last_operation_at : List Word → Option Operation
last_operation_at ws = do
  at ← operation_at ws
  none ← no_more at.1
  Some at.0

-- what follows `doubled`
unfoldable pub doubled_at : List Word → Option Kind
doubled_at ws = do
  first ← operation_at ws
  again ← last_operation_at first.1
  Some (Doubled first.0 again)

-- what follows `accepted`
unfoldable pub accepted_at : List Word → Option Kind
accepted_at ws = do
  none ← no_more ws
  Some Accepted

-- what follows `refused`
unfoldable pub refused_at : List Word → Option Kind
refused_at ws = do
  k ← number_at ws
  none ← no_more k.1
  if nat_le 2 k.0 then Some (Refused k.0) else None

unfoldable pub kind_by : Word → List Word → Option Kind
kind_by word ws =
    if bytes_eq word (codes "doubled") then doubled_at ws
    else (if bytes_eq word (codes "contents") then option_map (λ at. Contents at) (last_operation_at ws)
    else (if bytes_eq word (codes "position") then option_map (λ at. Position at) (last_operation_at ws)
    else (if bytes_eq word (codes "accepted") then accepted_at ws
    else (if bytes_eq word (codes "refused") then refused_at ws else None))))

-- the second line
unfoldable pub kind_at : List Word → Option Kind
kind_at [] = None
kind_at (w ∷ ws) = kind_by w ws

-- `order :` and names
unfoldable pub order_at : List Word → Option (List NameBytes)
order_at ws = do
  words ← after_word (codes "order") ws
  names ← after_word (codes ":") words
  names_at names

-- `step`, two names and an operation
unfoldable pub step_at : List Word → Option Step
step_at ws = do
  words ← after_word (codes "step") ws
  from ← name_at words
  to ← name_at from.1
  shown ← operation_at to.1
  none ← no_more shown.1
  Some (record { from = from.0; to = to.0; shown = shown.0 })

-- layers of names, the first of which these names begin; `/` stands between two
unfoldable pub layers_at : List NameBytes → List Word → Option Row
layers_at layer [] = Some (layer ∷ [])
layers_at layer (w ∷ ws) =
    if bytes_eq w (codes "/") then option_map (λ row. layer ∷ row) (layers_at [] ws)
    else (name_of w >>= λ name. layers_at (layer ++ name ∷ []) ws)

-- layers, and more of them after
abbrev pub onto_layers : Row → Option Row → Option Row
onto_layers done more = option_map (λ (layers : Row). done ++ layers) more

-- k - 1 layers, the first with one name
abbrev pub has_form : ℕ → Row → Bool
has_form k row = (length (slice_index_or row 0 []) == 1) && (length row + 1 == k)

-- how many names the first layer has, and how many layers there are
abbrev pub form_of : Row → ℕ × ℕ
form_of row = (length (slice_index_or row 0 []), length row)

-- that of k - 1 layers, the first with one name
abbrev pub is_form : ℕ → ℕ × ℕ → Bool
is_form k form = (form.0 == 1) && (form.1 + 1 == k)

-- the form of layers that are read, and of one of which more may come, which isn't counted yet
abbrev pub HasForm : Row → List NameBytes → ℕ × ℕ → Type 0
HasForm row layer form = (length (slice_index_or (row ++ layer ∷ []) 0 []) ≡ form.0) × (length row ≡ form.1)

-- this word leads to layers of this form
abbrev pub GoesOn : Row → List NameBytes → Word → ℕ × ℕ → Type 0
GoesOn row layer w form =
    (next : Row) × (begun : List NameBytes) × HasForm next begun form
    × ((ws : List Word) → onto_layers row (layers_at layer (w ∷ ws)) ≡ onto_layers next (layers_at begun ws))

-- `layers` and k - 1 layers
unfoldable pub row_at : ℕ → List Word → Option Row
row_at k ws = do
  words ← after_word (codes "layers") ws
  row ← layers_at [] words
  if has_form k row then Some row else None
