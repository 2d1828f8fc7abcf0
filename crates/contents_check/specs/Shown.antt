-- Which elements a response shows: those whose standings say so.
use Rattle.std.specs.Prelude.{◌≡◌, ◌↔◌, ℕ, ◌+◌, ◌<◌, ◌≤◌, true, Some, List, ◌++◌, count_by, drop, length}
use Rattle.std.specs.Prelude.{slice_get, take}
use Rattle.events.specs.Names.{NameBytes}
use Rattle.events.specs.History.{History}
use Rattle.specification.specs.Elements.{numbers_in}
use Rattle.specification.specs.Members.{In, Once}
use Rattle.specification.specs.Orders.{IsSubsequence}
use Rattle.contents_check.specs.declared.element.Element.{Element}
use Rattle.contents_check.specs.declared.elements.Elements.{Elements}
use Rattle.contents_check.specs.declared.shown.Step.{Step}
use Rattle.contents_check.specs.declared.shown.Step.TheVariants.{End, New, Gone, Refused}
use Rattle.contents_check.specs.declared.shown.Shown.{Shown}
use Rattle.contents_check.specs.declared.shown.Shown.TheVariants.{Wrong, Part, More}
use Rattle.contents_check.specs.declared.standings.Standing.{Standing}
use Rattle.contents_check.specs.declared.standings.Standings.{Standings}
use Rattle.contents_check.specs.Known.{number_of, element_names}
use Rattle.contents_check.specs.Standings.{AreBehind, is_missing, is_extra, is_live}

-- the name has a live element
pub record IsShown (elements : Elements) (standings : List Standing) (a : NameBytes) : Type 0 where
  pub number : ℕ
  pub standing : Standing
  pub numbered : number_of elements a ≡ Some number
  pub stands : slice_get standings number ≡ Some standing
  pub live : is_live standing ≡ true

-- no name stands twice, each is that of a live element, and all of theirs are there unless some may be left
-- out
abbrev pub ShowsLive : Type 0 → Elements → List Standing → List NameBytes → Type 0
ShowsLive MayLeaveOut elements standings w =
    Once w × ((a : NameBytes) → (In a w → IsShown elements standings a)
    × (¬ MayLeaveOut → IsShown elements standings a → In a w))

-- the names differ and are elements' names, and just these elements are noted as shown
pub record ShowJust (elements : Elements) (standings : List Standing) (w : List NameBytes) : Type 0 where
  pub once : Once w
  pub known : (a : NameBytes) → In a w → (i : ℕ) × (number_of elements a ≡ Some i)
  pub shown : (i : ℕ) (x : Element) (s : Standing) → slice_get elements.list.items i ≡ Some x
      → slice_get standings i ≡ Some s → (s.shown ≡ true) ↔ In x.name w

-- there is a standing for each element, and those missing and those too many are counted
pub record Fits (elements : Elements) (standings : Standings) : Type 0 where
  pub size : length standings.list.items ≡ length elements.list.items
  pub missing : standings.missing ≡ count_by is_missing standings.list.items
  pub extra : standings.extra ≡ count_by is_extra standings.list.items

-- notes alone were made: the standings fit the elements, and are after the same operations as before
pub record OnlyNotes (elements : Elements) (old new : Standings) : Type 0 where
  pub fits : Fits elements new
  pub counts : new.counts ≡ old.counts
  pub behind : (h : History) → AreBehind h elements old → AreBehind h elements new

-- none is shown that is not live, and none is missing unless some may be left out
abbrev pub HasWhatItMust : Type 0 → Standings → Type 0
HasWhatItMust MayLeaveOut standings = (standings.extra ≡ 0) × (¬ MayLeaveOut → standings.missing ≡ 0)

-- the names differ and are elements' names
abbrev pub AreOfElements : Elements → List NameBytes → Type 0
AreOfElements elements w = Once w × ((a : NameBytes) → In a w → (i : ℕ) × (number_of elements a ≡ Some i))

-- what one response has up to a place, and then another from a place on
abbrev pub joined : List NameBytes → ℕ → List NameBytes → ℕ → List NameBytes
joined w i last j = take i w ++ drop j last

-- at these places the one response is at its end, or its name is shown now as well, which has this number, or
-- the other's is not any more; or the one repeats a name or has one that is no element's
abbrev pub IsStep : Elements → List NameBytes → ℕ → List NameBytes → ℕ → Standings → Step → Type 0
IsStep elements last j w i new End = (length w ≤ i) × ShowJust elements new.list.items (joined w i last j)
IsStep elements last j w i new (New number) =
    (i < length w) × ShowJust elements new.list.items (joined w (i + 1) last j)
    × (slice_get (numbers_in (element_names elements) w) i ≡ Some number)
IsStep elements last j w i new Gone =
    (j < length last) × ShowJust elements new.list.items (joined w i last (j + 1))
IsStep elements last j w i new Refused = ¬ AreOfElements elements w

-- what a response that repeats no name and has elements' names alone shows is noted, and this is its row
pub record IsNoted (elements : Elements) (w : List NameBytes) (standings : Standings) (row : List ℕ) :
    Type 0 where
  pub just : ShowJust elements standings.list.items w
  pub row_is : row ≡ numbers_in (element_names elements) w

-- this is what was found of a response, whose row is noted; where it is a part, all its names stand in the
-- one before it
abbrev pub IsShowing : Type 0 → Elements → List NameBytes → List NameBytes → Standings → List ℕ → Shown
    → Type 0
IsShowing Holds elements last w new row Wrong = ¬ Holds
IsShowing Holds elements last w new row Part = Holds × IsNoted elements w new row × IsSubsequence w last
IsShowing Holds elements last w new row More = Holds × IsNoted elements w new row
