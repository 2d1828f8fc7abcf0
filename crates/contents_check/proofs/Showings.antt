-- What was found of a response that is not wrong: what it shows is noted, and it is right in another sense
-- too.
use Rattle.std.proofs.Common.{◌≡◌, ℕ, List, refl, sym, subst}
use Rattle.std.specs.Prelude.{IfOk, Result, Ok, Err}
use Rattle.events.specs.Names.{NameBytes}
use Rattle.specification.specs.Orders.{IsSubsequence}
use Rattle.contents_check.specs.declared.elements.Elements.{Elements}
use Rattle.contents_check.specs.declared.standings.Standings.{Standings}
use Rattle.contents_check.specs.declared.shown.Shown.{Shown}
use Rattle.contents_check.specs.declared.shown.Shown.TheVariants.{Wrong, Part, More}
use Rattle.contents_check.specs.Shown.{IsNoted, IsShowing}

pub noted-of : (Holds : Type 0) (elements : Elements) (last w : List NameBytes) (new : Standings)
    (row : List ℕ) (shown : Shown) → (shown ≡ Wrong → ⊥)
    → IsShowing Holds elements last w new row shown → IsNoted elements w new row
noted-of Holds elements last w new row Wrong n is = absurd (n refl)
noted-of Holds elements last w new row Part n is = is.1
noted-of Holds elements last w new row More n is = is.1

pub showing-of : (Holds Other : Type 0) (elements : Elements) (last w : List NameBytes) (new : Standings)
    (row : List ℕ) (shown : Shown) → (shown ≡ Wrong → ⊥)
    → IsShowing Holds elements last w new row shown → Other → IsShowing Other elements last w new row shown
showing-of Holds Other elements last w new row Wrong n is o = absurd (n refl)
showing-of Holds Other elements last w new row Part n is o = (o, is.1, is.2)
showing-of Holds Other elements last w new row More n is o = (o, is.1)

pub wrong-of : (Holds : Type 0) (elements : Elements) (last w : List NameBytes) (new : Standings)
    (row : List ℕ) (shown : Shown) → shown ≡ Wrong
    → IsShowing Holds elements last w new row shown → Holds → ⊥
wrong-of Holds elements last w new row shown e is = subst (IsShowing Holds elements last w new row) e is

-- what was found is the same by another name of what is right, and of the responses
pub shown-as : (Holds Other : Type 0) → (Holds → Other) → (Other → Holds)
    → (elements : Elements) (last before w response : List NameBytes) → last ≡ before → response ≡ w
    → (new : Standings) (row : List ℕ) (shown : Shown) → IsShowing Holds elements last w new row shown
    → IsShowing Other elements before response new row shown
shown-as Holds Other to from elements last before w response e f new row Wrong is = λ o. is (from o)
shown-as Holds Other to from elements last before w response e f new row Part is = (
  to is.0,
  subst (λ (v : List NameBytes). IsNoted elements v new row) (sym f) is.1,
  subst (λ (v : List NameBytes). IsSubsequence v before) (sym f) (subst (IsSubsequence w) e is.2),
)
shown-as Holds Other to from elements last before w response e f new row More is =
    (to is.0, subst (λ (v : List NameBytes). IsNoted elements v new row) (sym f) is.1)

pub if_ok-three : {X E : Type 0} (A B C D : X → Type 0) (r : Result X E) → ((x : X) → A x → B x → C x → D x)
    → IfOk r A → IfOk r B → IfOk r C → IfOk r D
if_ok-three A B C D (Ok x) f a b c = f x a b c
if_ok-three A B C D (Err e) f a b c = tt
