-- What one word adds to what a row notes.
use Rattle.std.proofs.Common.{◌≡◌, ℕ, ◌+◌, true, false, List, ◌∷◌, codes, refl}
use Rattle.std.specs.Prelude.{bytes_eq}
use Rattle.format_words.specs.Words.{Word}
use Rattle.cert_check.specs.RowWords.{pairs_of, slashes}

pub pairs-slash : (d : ℕ) (w : Word) (ws : List Word) → bytes_eq w (codes "/") ≡ true
    → pairs_of d (w ∷ ws) ≡ pairs_of (d + 1) ws
pairs-slash d w ws e = rw e refl

pub pairs-name : (d : ℕ) (w : Word) (ws : List Word) → bytes_eq w (codes "/") ≡ false
    → pairs_of d (w ∷ ws) ≡ (w, d) ∷ pairs_of d ws
pairs-name d w ws e = rw e refl

pub slashes-slash : (w : Word) (ws : List Word) → bytes_eq w (codes "/") ≡ true
    → slashes (w ∷ ws) ≡ slashes ws + 1
slashes-slash w ws e = rw e refl

pub slashes-name : (w : Word) (ws : List Word) → bytes_eq w (codes "/") ≡ false
    → slashes (w ∷ ws) ≡ slashes ws
slashes-name w ws e = rw e refl
