-- The words after `layers` in a row's line: names, and `/` between two layers.
use Rattle.std.specs.Prelude.{◌≡◌, ℕ, ◌+◌, ◌<◌, ◌⊎◌, List, [], ◌∷◌, ◌++◌, All, codes, bytes_eq, if◌then◌else◌}
use Rattle.events.specs.Names.{NameBytes, IsName}
use Rattle.specification.specs.LayerRule.{Row}
use Rattle.specification.specs.CertificateText.{IsRow}
use Rattle.specification.specs.ValidCertificate.{HasSource}
use Rattle.format_words.specs.Words.{Word}
use Rattle.cert_check.specs.Noted.{Noted, Holds, CanBeNoted, pairs_from}

-- each name with the number of its layer, where the first word stands in the layer with this one
abbrev pub pairs_of : ℕ → List Word → List Noted
pairs_of d [] = []
pairs_of d (w ∷ ws) = if bytes_eq w (codes "/") then pairs_of (d + 1) ws else ((w, d) ∷ pairs_of d ws)

-- how many layers end
abbrev pub slashes : List Word → ℕ
slashes [] = 0
slashes (w ∷ ws) = if bytes_eq w (codes "/") then slashes ws + 1 else slashes ws

abbrev pub IsRowWord : Word → Type 0
IsRowWord w = (w ≡ codes "/") ⊎ IsName w

-- the words say a row of k - 1 layers, whose source is the first of them
pub record SaysRow (k : ℕ) (ws : List Word) (row : Row) : Type 0 where
  pub row_is : IsRow k row
  pub pairs : pairs_of 0 ws ≡ pairs_from 0 row
  pub layers : slashes ws + 2 ≡ k
  pub words : All IsRowWord ws
  pub source : (a : NameBytes) × (more : List Word) × HasSource row a × IsName a × (ws ≡ a ∷ more)

-- after these values one word leads to those, and to this layer
abbrev pub GoesOn : List NameBytes → ℕ → List Noted → ℕ → Word → List ℕ → ℕ → Type 0
GoesOn names unset noted depth w values next =
    (more : List Noted) × Holds names unset more values
    × ((ws : List Word) → noted ++ pairs_of depth (w ∷ ws) ≡ more ++ pairs_of next ws)
    × ((ws : List Word) → depth + slashes (w ∷ ws) ≡ next + slashes ws)

-- with this word, nothing that has so few layers can be noted
abbrev pub Stops : List NameBytes → ℕ → List Noted → ℕ → Word → Type 0
Stops names unset noted depth w =
    (ws : List Word) → depth + slashes (w ∷ ws) < unset
    → ¬ CanBeNoted names (noted ++ pairs_of depth (w ∷ ws))
