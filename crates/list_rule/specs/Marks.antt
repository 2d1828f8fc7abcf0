-- Marks of lists, and what is written into them as a row begins.
use Rattle.std.specs.Prelude.{◌≡◌, ℕ, ◌+◌, ◌<◌, ◌≤◌, ◌⊎◌, ◌-◌, ◌^◌, List, Contains, slice_index_or, vec_len}
use Rattle.list_rule.specs.declared.spot.Spot.{Spot}
use Rattle.list_rule.specs.declared.marks.Mark.{Mark}
use Rattle.list_rule.specs.declared.marks.State.{State}

-- the mark of a list; past the last list, one that was never written
abbrev pub mark_at : List Mark → ℕ → Mark
mark_at marks l = slice_index_or marks l (record { row = 0; end = 0; behind_source = 0 })

-- the mark of the spot's list is of this row, and names a place behind the spot
pub record IsNoted (st : State) (q : Spot) : Type 0 where
  pub row : (mark_at st.marks.items q.list).row ≡ st.row
  pub behind : q.place < (mark_at st.marks.items q.list).behind_source

-- the mark of a list is as it was, or names the place behind the spot; and it names no lesser place than it did
pub record IsNotedMark (old new : State) (q : Spot) (l : ℕ) : Type 0 where
  pub known : (mark_at new.marks.items l ≡ mark_at old.marks.items l)
      ⊎ ((l ≡ q.list) × (mark_at new.marks.items l
      ≡ record { row = new.row; end = 2 ^ 32 - 1; behind_source = q.place + 1 }))
  pub later : (mark_at old.marks.items l).row ≡ old.row → ((mark_at new.marks.items l).row ≡ new.row)
      × ((mark_at old.marks.items l).behind_source ≤ (mark_at new.marks.items l).behind_source)

-- A mark of this row is at its list's end, and names the place behind one of the spots.
pub record IsFirstMark (spots : List Spot) (l : ℕ) (mark : Mark) : Type 0 where
  pub end : mark.end ≡ 2 ^ 32 - 1
  pub found : (s : ℕ) → s + 1 ≡ mark.behind_source → Contains spots (record { list = l; place = s })

-- a row has begun for a source with these spots
pub record IsBegun (spots : List Spot) (old new : State) : Type 0 where
  pub count : vec_len new.marks ≡ vec_len old.marks
  pub rows : (l : ℕ) → (mark_at new.marks.items l).row ≤ new.row
  pub marks : (l : ℕ) → (mark_at new.marks.items l).row ≡ new.row
      → IsFirstMark spots l (mark_at new.marks.items l)
  pub noted : (q : Spot) → Contains spots q → IsNoted new q
