-- Three pieces that were added one by one, joined to the right.
use Rattle.std.proofs.Common.{◌≡◌, ℕ, List, ◌++◌, ap, ◌∙◌, append_assoc}

pub joined : (text a b c one two three : List ℕ) → one ≡ text ++ a → two ≡ one ++ b → three ≡ two ++ c
    → three ≡ text ++ (a ++ (b ++ c))
joined text a b c one two three first second third =
    third ∙ ap (λ t. t ++ c) (second ∙ ap (λ t. t ++ b) first) ∙ append_assoc (text ++ a) b c
    ∙ append_assoc text a (b ++ c)
