use Rattle.std.proofs.Common.{◌≡◌, ℕ, ◌<◌, inl, inr, List, [], length, get_or, map, replicate, slice_index}
use Rattle.std.proofs.Common.{sym, ap, subst, ◌∙◌, arith, vec_len, Vec, Global}
use Rattle.std.specs.Prelude.{All, Contains}
use Rattle.std.proofs.lemmas.Bool.{cases_eq, cases_lt}
use Rattle.std.proofs.lemmas.List.{get_or_default, get_or_past, get_or-replicate, length-replicate}
use Rattle.std.proofs.lemmas.List.Elements.{All-get_or, Contains-get_or}
use Rattle.element_numbers.specs.Cuts.{rows_of}
use Rattle.list_rule.specs.Spots.{IsSpotIn, Stands, row, spots_at}
use Rattle.list_rule.specs.declared.spot.Spot.{Spot}
use Rattle.list_rule.proofs.Standing.{stands_from}
use Rattle.list_rule.proofs.spots.all_spots.Goals as goal

-- at first no number has a spot
none_at : (n : ℕ) (spots : List (Vec Spot Global)) (x : ℕ) (q : Spot)
    → map (λ (s : Vec Spot Global). s.items) spots ≡ replicate n [] → ¬ Contains (spots_at spots x) q
none_at n spots x q is has =
    let none : spots_at spots x ≡ [] = ap (λ (l : List (List Spot)). get_or l x []) is
    ∙ elim (cases_lt x n) [
      | inl low ↦ get_or-replicate n x [] [] low
      | inr past ↦
          get_or_past (replicate n []) x []
          (let e = length-replicate {A = List Spot} n [] in omega (arith, e, past))
    ] in
    let lt = (subst (λ (l : List Spot). Contains l q) none has).1 in
    omega (arith, lt)

pub loop-list-init : goal.loop-list-init
loop-list-init c = record {
  count = omega (arith, c.in_ok-spots.ensures.count, c.as_slice-2.ensures.len, c.in_ok-counts.ensures);
  only = λ x q has.
      absurd (none_at (length c.as_slice-2.result.now) c.in_ok-spots.spots.items x q c.in_ok-spots.ensures.empty
      has);
  all = λ m p x low stands. absurd (omega (arith, low));
}

pub add_list-requires-clause-known : goal.add_list-requires-clause-known
add_list-requires-clause-known c =
    let rows : List (List ℕ) = rows_of c.args.places.now in
    let items : List ℕ = c.deref-list-items.result.now in
    let list : ℕ = slice_index items c.loop-list.list-index in
    let known : list < length rows =
    c.in_ok-kept.ensures.known list
    (subst (λ (l : List ℕ). Contains l list) c.deref-list-items.ensures.value
    (Contains-get_or items c.loop-list.list-index 0 (omega arith))) in
    subst (λ (r : List ℕ). All (λ x. x < vec_len c.loop-list.spots) r) (sym c.row.ensures)
    (subst (λ m. All (λ x. x < m) (row rows list)) (sym c.loop-list.invariant.count)
    (All-get_or (λ r. All (λ x. x < c.args.n) r) rows list [] known c.requires.within))

pub loop-list-preserved : goal.loop-list-preserved
loop-list-preserved c =
    let rows : List (List ℕ) = rows_of c.args.places.now in
    let items : List ℕ = c.deref-list-items.result.now in
    let k : ℕ = c.loop-list.list-index in
    let list : ℕ = slice_index items k in
    let inv = c.loop-list.invariant in
    let e = c.in_ok-add_list.ensures in
    let new = c.add_list.new.spots.items in
    record {
      count = e.count ∙ inv.count;
      only = λ x q has. elim (e.only x q has) [
        | inl old ↦ let at = inv.only x q old in (at.0, (let lt = at.1 in omega (arith, lt)), at.2)
        | inr now ↦ (k, omega arith, subst (λ (r : List ℕ). IsSpotIn list r x q) c.row.ensures now)
      ];
      all = λ m p x low stands. elim (cases_eq m k) [
        | inl here ↦
            let there : Stands rows list p x = subst (λ i. Stands rows (slice_index items i) p x) here stands in
            let size : length c.row.result.now ≡ length (row rows list) =
            ap (λ (r : List ℕ). length r) c.row.ensures in
            let within = there.within in
            let is : slice_index c.row.result.now p ≡ x =
            ap (λ (r : List ℕ). slice_index r p) c.row.ensures ∙ there.here in
            subst (λ i. Contains (spots_at new x) (record { list = slice_index items i; place = p })) (sym here)
            (subst (λ y. Contains (spots_at new y) (record { list = list; place = p })) is
            (e.new p (omega (arith, size, within))))
        | inr other ↦
            e.old x (record { list = slice_index items m; place = p })
            (inv.all m p x (omega (arith, low, other)) stands)
      ];
    }

pub returns : goal.returns
returns c =
    let rows : List (List ℕ) = rows_of c.args.places.now in
    let items : List ℕ = c.deref-list-items.result.now in
    let spots = c.loop-list.spots.items in
    let inv = c.loop-list.invariant in
    record {
      count = omega (arith, inv.count, c.loop-list.spots.ok);
      sound = λ x q has.
          let at = inv.only x q has in
          let is : IsSpotIn (slice_index items at.0) (row rows (slice_index items at.0)) x q = at.2 in
          subst (λ l. Stands rows l q.place x) (sym is.list_is)
          (record { within = is.within; here = is.here });
      whole = λ x q y p has stands.
          let at = inv.only x q has in
          let is : q.list ≡ slice_index items at.0 = at.2.list_is in
          subst (λ l. Contains (spots_at spots y) (record { list = l; place = p })) (sym is)
          (inv.all at.0 p y at.1 (subst (λ l. Stands rows l p y) is stands));
      shown = λ a b shown.
          let by = c.in_ok-kept.ensures.shown a b shown in
          let l : ℕ = by.0 in
          let m : ℕ = by.1.0 in
          let lt = by.1.1 in
          let same : length items ≡ length c.in_ok-kept.kept.items =
          ap (λ (r : List ℕ). length r) c.deref-list-items.ensures.value in
          let low : m < c.loop-list.list-index = omega (arith, lt, same) in
          let is : slice_index items m ≡ l =
          ap (λ (r : List ℕ). slice_index r m) c.deref-list-items.ensures.value
          ∙ get_or_default c.in_ok-kept.kept.items m 0 l lt ∙ by.1.2 in
          let i : ℕ = by.2.0 in
          let j : ℕ = by.2.1 in
          record {
            spot = record { list = l; place = i };
            listed =
                subst (λ k. Contains (spots_at spots a) (record { list = k; place = i })) is
                (inv.all m i a low
                (subst (λ k. Stands rows k i a) (sym is) (stands_from rows l i a by.2.3)));
            later = j;
            in_order = by.2.2;
            stands = stands_from rows l j b by.2.4;
          };
    }
