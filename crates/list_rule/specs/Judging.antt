-- What is known while a row is judged.
use Rattle.std.specs.Prelude.{◌≡◌, ℕ, ◌+◌, ◌<◌, ◌≤◌, ◌^◌, List, Vec, Contains, length, slice_index}
use Rattle.std.specs.Prelude.{slice_index_or}
use Rattle.std.specs.Global.{Global}
use Rattle.list_rule.specs.Spots.{AreSpotsOf, Stands, row, spots_at}
use Rattle.list_rule.specs.Marks.{IsNoted, mark_at}
use Rattle.list_rule.specs.declared.spot.Spot.{Spot}
use Rattle.list_rule.specs.declared.marks.Mark.{Mark}
use Rattle.list_rule.specs.declared.marks.State.{State}
use Rattle.list_rule.specs.declared.list_rule.ListRule.{ListRule}

-- a row: the lists, the depths of their numbers, how deep a number without a depth counts, and of which
-- numbers the row speaks
pub record Asked : Type 0 where
  pub lists : List (List ℕ)
  pub depths : List ℕ
  pub most : ℕ
  pub first : ℕ
  pub source : ℕ

abbrev pub asked : List (List ℕ) → List ℕ → ℕ → ℕ → ℕ → Asked
asked lists depths most first source =
    record { lists = lists; depths = depths; most = most; first = first; source = source }

-- the depth of a number
abbrev pub depth_of : Asked → ℕ → ℕ
depth_of a x = slice_index_or a.depths x a.most

-- From the mark's end on, no number that counts is deeper than the bound; and where it names a place, the
-- source stands before that.
pub record IsMark (a : Asked) (bound l : ℕ) (mark : Mark) : Type 0 where
  pub compared : (j y : ℕ) → mark.end ≤ j → Stands a.lists l j y → a.first ≤ y → depth_of a y ≤ bound
  pub found : (s : ℕ) → s + 1 ≡ mark.behind_source → Stands a.lists l s a.source

-- there is a mark for each list, and none of a later row
pub record AreMarks (lists : List (List ℕ)) (st : State) : Type 0 where
  pub count : length st.marks.items ≡ length lists
  pub rows : (l : ℕ) → (mark_at st.marks.items l).row ≤ st.row

-- Each mark of this row is right, and each spot of the source is noted.
pub record IsJudging (a : Asked) (spots : List (Vec Spot Global)) (bound : ℕ) (st : State) : Type 0 where
  pub fits : AreMarks a.lists st
  pub marks : (l : ℕ) → (mark_at st.marks.items l).row ≡ st.row → IsMark a bound l (mark_at st.marks.items l)
  pub noted : (q : Spot) → Contains (spots_at spots a.source) q → IsNoted st q

-- Behind a spot no number that counts is deeper than the bound, and the source doesn't stand there.
pub record IsRightBehind (a : Asked) (bound : ℕ) (q : Spot) : Type 0 where
  pub gradual : (j y : ℕ) → q.place < j → Stands a.lists q.list j y → a.first ≤ y → depth_of a y ≤ bound
  pub deep : (s : ℕ) → q.place < s → ¬ Stands a.lists q.list s a.source

-- behind each spot of a number it is so, and the bound is one more than the number's depth
abbrev pub IsRightNumber : Asked → List (Vec Spot Global) → ℕ → Type 0
IsRightNumber a spots x =
    (q : Spot) → Contains (spots_at spots x) q → IsRightBehind a (slice_index a.depths x + 1) q

-- a judge of rows of numbers below n by these lists
pub record IsRuleOf (n : ℕ) (lists : List (List ℕ)) (rule : ListRule) : Type 0 where
  pub spots : AreSpotsOf n lists rule.spots.items
  pub marks : AreMarks lists rule.state
  pub short : (l : ℕ) → length (row lists l) < 2 ^ 32
