-- Where a guess at the components is right, a cycle leads just through the elements whose component has
-- others.
use Rattle.std.proofs.Common.{◌≡◌, ℕ, zero, suc, ◌+◌, ◌-◌, ◌<◌, ◌≤◌, ◌⊎◌, inl, inr, Bool, true, false, List}
use Rattle.std.proofs.Common.{get_or}
use Rattle.std.proofs.Common.{refl, length, sym, ◌∙◌, ap, subst, arith}
use Rattle.std.specs.Prelude.{◌↔◌, Option, Some, None, IfNone, is_some}
use Rattle.std.proofs.lemmas.Bool.{cases_lt, false≢true}
use Rattle.std.proofs.lemmas.List.{get_or_past}
use Rattle.events.specs.Names.{NameBytes}
use Rattle.specification.specs.Responses.{Responses, AreProper}
use Rattle.specification.specs.Search.{IsCycleThrough, IsSearchAnswer}
use Rattle.specification.proofs.Weak.{none_before_itself}
use Rattle.order_graph.specs.Lists.{lists_of, row, Stands}
use Rattle.list_search.specs.Graph.{Before}
use Rattle.list_search.specs.Rings.{Reaches}
use Rattle.list_search.specs.Walks.{HasCycle, Walk}
use Rattle.list_search.proofs.Firsts.{reaches_walk, walk_reaches}
use Rattle.list_search.proofs.Joining.{before-known, cycle-known, name, names_of_walk, stands-names}
use Rattle.list_search.proofs.Joining.{walk_of_names}
use Rattle.list_search.proofs.RingWalks.{reaches_both}
use Rattle.level_search.specs.StrongComponents.{IsRight, IsShared, after, before, rank, root}
use Rattle.level_search.specs.Cores.{IsPlaced, LiesOnCycle}
use Rattle.level_search.specs.declared.components.guess.Guess.{Guess}

-- what does not fall from one place to the next falls nowhere along a list
climbs-far : (rows : List (List ℕ)) (value : ℕ → ℕ) → ((l j x y : ℕ) → Stands rows l j x
    → Stands rows l (j + 1) y → value x ≤ value y) → (d l p x y : ℕ) → Stands rows l p x
    → Stands rows l (p + suc d) y → value x ≤ value y
climbs-far rows value step zero l p x y first second =
    step l p x y first
    (subst (λ q. Stands rows l q y) (let e : p + suc zero ≡ p + 1 = omega arith in e) second)
climbs-far rows value step (suc d) l p x y first second =
    let within = second.within in
    let z : ℕ = get_or (row rows l) (p + suc d) 0 in
    let between : Stands rows l (p + suc d) z = record { within = omega arith; here = refl } in
    let low = climbs-far rows value step d l p x z first between in
    let high =
    step l (p + suc d) z y between
    (subst (λ q. Stands rows l q y) (let e : p + suc (suc d) ≡ p + suc d + 1 = omega arith in e) second) in
    omega arith

pub climbs : (rows : List (List ℕ)) (value : ℕ → ℕ) → ((l j x y : ℕ) → Stands rows l j x
    → Stands rows l (j + 1) y → value x ≤ value y) → (x y : ℕ) → Before rows x y → value x ≤ value y
climbs rows value step x y step_on =
    let order = step_on.in_order in
    let p : ℕ = step_on.place in
    let q : ℕ = step_on.later in
    climbs-far rows value step (q - suc p) step_on.list p x y step_on.first
    (subst (λ i. Stands rows step_on.list i y) (let e : q ≡ p + suc (q - suc p) = omega arith in e)
    step_on.second)

module _ (n : ℕ) (rows : List (List ℕ)) (g : Guess) (right : IsRight n rows g)
    (known : (a b : ℕ) → Before rows a b → (a < n) × (b < n)) (apart : (x : ℕ) → Before rows x x → ⊥) where
  same-root : (x y : ℕ) → rank g x ≡ rank g y → root g x ≡ root g y
  same-root x y same = ap (λ r. get_or g.roots.items r 0) same

  -- each leads to the root of its component, and the root to each
  to-root : (b x : ℕ) → get_or g.backs.items x 0 < b → x < n → IsShared g x
      → (m : ℕ) × Reaches rows (root g x) m x
  to-root zero x low inside shared = absurd (omega arith)
  to-root (suc b) x low inside shared =
      let linked = (right.tested x inside).linked shared in
      elim linked.nearer [
        | inl here ↦ (0, sym here)
        | inr nearer ↦
            let next : ℕ = after g x in
            let falls = nearer.falls in
            let on : (m : ℕ) × Reaches rows (root g next) m next =
            to-root b next (omega arith) (known x next linked.step).1 linked.shared in (
              suc on.0,
              (
                next,
                linked.step,
                subst (λ r. Reaches rows r on.0 next) (same-root next x linked.same) on.1,
              ),
            )
      ]

  from-root : (b x : ℕ) → get_or g.forths.items x 0 < b → x < n → IsShared g x
      → (m : ℕ) × Walk rows (root g x) m x
  from-root zero x low inside shared = absurd (omega arith)
  from-root (suc b) x low inside shared =
      let linked = (right.tested x inside).linked shared in
      elim linked.nearer [
        | inl here ↦ (0, sym here)
        | inr nearer ↦
            let last : ℕ = before g x in
            let rises = nearer.rises in
            let on : (m : ℕ) × Walk rows (root g last) m last =
            from-root b last (omega arith) (known last x nearer.step).0 nearer.shared in (
              suc on.0,
              (last, subst (λ r. Walk rows r on.0 last) (same-root last x nearer.same) on.1, nearer.step),
            )
      ]

  pub shared-cycle : (x : ℕ) → x < n → IsShared g x → (m : ℕ) × HasCycle rows x m
  shared-cycle x inside shared =
      let linked = (right.tested x inside).linked shared in
      let next : ℕ = after g x in
      let back : (m : ℕ) × Reaches rows (root g next) m next =
      to-root (suc (get_or g.backs.items next 0)) next (omega arith) (known x next linked.step).1
      linked.shared in
      let there : (m : ℕ) × Walk rows (root g x) m x =
      from-root (suc (get_or g.forths.items x 0)) x (omega arith) inside shared in
      let home : Reaches rows (root g x) (suc back.0) x =
      (next, linked.step, subst (λ r. Reaches rows r back.0 next) (same-root next x linked.same) back.1) in (
        suc back.0 + there.0,
        (
          omega arith,
          walk_reaches rows x (suc back.0 + there.0) x
              (reaches_both rows x (root g x) x (suc back.0) there.0 home
              (reaches_walk rows (root g x) there.0 x there.1)),
        ),
      )

  climbing : (m s x : ℕ) → Walk rows s m x → rank g s ≤ rank g x
  climbing zero s x here = let same : rank g x ≡ rank g s = ap (rank g) here in omega arith
  climbing (suc m) s x walk =
      let low = climbing m s walk.0 walk.1 in
      let high = right.climbs walk.0 x walk.2 in
      omega arith

  -- a cycle stays in one component, and has another element of it
  pub cycle-shared : (x m : ℕ) → HasCycle rows x m → IsShared g x
  cycle-shared x zero cycle = absurd (let some = cycle.0 in omega arith)
  cycle-shared x (suc m) cycle =
      let round : Reaches rows x (suc m) x = reaches_walk rows x (suc m) x cycle.1 in
      let y : ℕ = round.0 in
      let up = right.climbs x y round.1 in
      let back = climbing m y x (walk_reaches rows y m x round.2) in
      let same : rank g y ≡ rank g x = omega arith in
      let ends = known x y round.1 in
      go (get_or g.shared.items x false) refl y round.1 (same-root y x same) (right.tested x ends.0).owned
      (right.tested y ends.1).owned
    where
      go : (b : Bool) → get_or g.shared.items x false ≡ b → (y : ℕ) → Before rows x y → root g y ≡ root g x
          → (root g x ≡ x) ⊎ (IsShared g (root g x) × IsShared g x)
          → (root g y ≡ y) ⊎ (IsShared g (root g y) × IsShared g y) → IsShared g x
      go true e y step same mine yours = e
      go false e y step same (inr both) yours = both.1
      go false e y step same (inl mine) (inr both) =
          subst (λ z. IsShared g z) (same ∙ mine) both.0
      go false e y step same (inl mine) (inl yours) =
          absurd (apart x (subst (λ z. Before rows x z) (sym yours ∙ same ∙ mine) step))

module _ (v : Responses) (proper : AreProper v) where
  pub apart-in : (x : ℕ) → Before (lists_of v) x x → ⊥
  apart-in x step = none_before_itself v proper (name v x) (stands-names v proper x x step)

  pub cycle-lies : (x m : ℕ) → HasCycle (lists_of v) x m → LiesOnCycle v x
  cycle-lies x m cycle =
      let names = names_of_walk v proper x m (cycle-known v proper x m cycle) cycle in (names.0, names.1)

  pub lies-cycle : (x : ℕ) → LiesOnCycle v x → (m : ℕ) × HasCycle (lists_of v) x m
  lies-cycle x lies = (length lies.0, walk_of_names v proper x lies.0 lies.1)

  pub shared-lies : (g : Guess) → IsRight (length v.elements) (lists_of v) g → (x : ℕ)
      → x < length v.elements → (IsShared g x → LiesOnCycle v x) × (LiesOnCycle v x → IsShared g x)
  shared-lies g right x inside = (
    λ shared.
        (let cycle : (m : ℕ) × HasCycle (lists_of v) x m =
        shared-cycle (length v.elements) (lists_of v) g right (before-known v proper) apart-in x inside
        shared in
        cycle-lies x cycle.0 cycle.1),
    λ lies.
        (let cycle = lies-cycle x lies in
        cycle-shared (length v.elements) (lists_of v) g right (before-known v proper) apart-in x cycle.0
        cycle.1),
  )

  -- and such an element stands at a place
  pub lies-placed : (x : ℕ) → LiesOnCycle v x → IsPlaced (lists_of v) x
  lies-placed x lies = go (length lies.0) (walk_of_names v proper x lies.0 lies.1)
    where
      go : (m : ℕ) → HasCycle (lists_of v) x m → IsPlaced (lists_of v) x
      go zero cycle = absurd (let some = cycle.0 in omega arith)
      go (suc m) cycle =
          let last = cycle.1.2 in
          record { list = last.list; place = last.later; here = last.second }

-- what a search under a bound above the number of elements finds
pub found-lies : (v : Responses) (x n b : ℕ) (answer : Option ℕ) → n < b → IsSearchAnswer v x b answer
    → IfNone answer (n < b → (cycle : List NameBytes) → ¬ IsCycleThrough v x cycle)
    → (is_some answer ≡ true) ↔ LiesOnCycle v x
found-lies v x n b None low is none = (λ e. absurd (false≢true e), λ lies. absurd (none low lies.0 lies.1))
found-lies v x n b (Some m) low is none = (λ e. (is.0.cycle, is.0.through), λ lies. refl)

-- what is marked is within
pub marked-within : (marks : List Bool) (x : ℕ) → get_or marks x false ≡ true → x < length marks
marked-within marks x mark = elim (cases_lt x (length marks)) [
  | inl low ↦ low
  | inr past ↦ absurd (false≢true (sym (get_or_past marks x false (omega arith)) ∙ mark))
]
