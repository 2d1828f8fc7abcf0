-- What stands at an operation's name.
use Rattle.std.proofs.Common.{◌≡◌, ℕ, zero, suc, Bool, true, false, cond, Some, List, [], ◌∷◌, refl, sym, ◌∙◌}
use Rattle.std.proofs.Common.{ap}
use Rattle.std.specs.Prelude.{filter, slice_get}
use Rattle.events.specs.Operation.{Operation}
use Rattle.events.specs.History.{History, is_operation, stream}
use Rattle.events.specs.Operations.{operation, operations, nth}
use Rattle.events.specs.declared.entry.Body.{Body}

-- an operation has a body that is no receipt
filtered : {X : Type 0} (p : X → Bool) (xs : List X) (i : ℕ) (x : X) → slice_get (filter p xs) i ≡ Some x
    → p x ≡ true
filtered p [] i x e = absurd cc
filtered {X} p (y ∷ xs) i x e = go (p y) refl i e (λ j k. filtered p xs j x k)
  where
    go : (b : Bool) → p y ≡ b → (i : ℕ) → slice_get (cond b (y ∷ filter p xs) (filter p xs)) i ≡ Some x
        → ((j : ℕ) → slice_get (filter p xs) j ≡ Some x → p x ≡ true) → p x ≡ true
    go true is zero e rest = let same : y ≡ x = cc in ap p (sym same) ∙ is
    go true is (suc i) e rest = rest i e
    go false is i e rest = rest i e

pub body_is_operation : (h : History) (e : Operation) (b : Body) → operation h e ≡ Some b
    → is_operation b ≡ true
body_is_operation h e b is = go e.n is
  where
    go : (n : ℕ) → nth (operations h e.replica) n ≡ Some b → is_operation b ≡ true
    go zero is = absurd cc
    go (suc i) is = filtered is_operation (stream h e.replica) i b is
