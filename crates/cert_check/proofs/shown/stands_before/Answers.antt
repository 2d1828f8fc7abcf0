-- One name more.
use Rattle.std.proofs.Common.{◌≡◌, ◌≢◌, ◌⊎◌, inl, inr, ℕ, ◌<◌, ◌+◌, Bool, false, None, Some, List}
use Rattle.std.proofs.Common.{length, take, drop, suc, get_or, sym, subst, ap, ◌∙◌, arith, refl, ◌++◌, ◌∷◌}
use Rattle.std.proofs.Common.{[]}
use Rattle.std.specs.Prelude.{slice_get, ◌↔◌, IsTrue, bytes_eq}
use Rattle.std.specs.Cmp.Lexicographic.{bytes_decides}
use Rattle.std.proofs.lemmas.Bool.{false≢true}
use Rattle.std.proofs.lemmas.Option.{slice_get-get_or}
use Rattle.visibility.proofs.Entries.{split_at, take_next}
use Rattle.events.specs.Names.{NameBytes}
use Rattle.specification.proofs.Members.{In, Before, In-append_left, In-append_right}
use Rattle.cert_check.proofs.ValueTests.{Before-push, Before-front, In-push}
use Rattle.cert_check.proofs.shown.stands_before.Goals as goal
use Rattle.cert_check.proofs.shown.stands_before.Goals.{in-Some+else-has_from+then-eq-2}
use Rattle.cert_check.proofs.shown.stands_before.Goals.{else-has_from-via-then-has_from+else-eq}
use Rattle.cert_check.proofs.shown.stands_before.Goals.{else-has_from-via-else-has_from}
use Rattle.cert_check.proofs.shown.stands_before.Goals.{in-Some+else-has_from+else-eq-2, in_default}

-- what is known of a front
abbrev IsFront : NameBytes → NameBytes → List NameBytes → Bool → Type 0
IsFront from to front has = record { has : IsTrue has ↔ In from front; none : ¬ Before from to front }

-- and of that with one name more
further : (from to x : NameBytes) (xs : List NameBytes) (i : ℕ) (has new : Bool) → slice_get xs i ≡ Some x
    → IsFront from to (take i xs) has → (IsTrue has → x ≢ to) → (IsTrue new ↔ (IsTrue has ⊎ (from ≡ x)))
    → IsFront from to (take (i + 1) xs) new
further from to x xs i has new at is apart grows =
    let front : List NameBytes = take i xs in
    subst (λ (more : List NameBytes). IsFront from to more new) (sym (take_next xs i x at)) (record {
      has = (
        λ t. elim (grows.0 t) [
          | inl h ↦ In-append_left from front (x ∷ []) (is.has.0 h)
          | inr e ↦ In-append_right from front (x ∷ []) (inl e)
        ],
        λ m. grows.1 (elim (In-push from x front m) [ inl m ↦ inl (is.has.1 m) | inr e ↦ inr e ]),
      );
      none = λ b. elim (Before-push from to x front b) [
        | inl b ↦ is.none b
        | inr p ↦ apart (is.has.1 p.0) (sym p.1)
      ];
    })

-- names that the test told apart are two
two : (x y : NameBytes) (same : Bool) → same ≡ bytes_eq x y → same ≡ false → x ≢ y
two x y same is unlike e = false≢true (sym unlike ∙ is ∙ (bytes_decides x y).1 e)

pub returns-then-eq : goal.returns-then-eq
returns-then-eq c =
    let xs : List NameBytes = c.args.response.now in
    let i : ℕ = c.loop-i.i in
    let at : slice_get xs i ≡ Some c.in-Some.name.now = c.in-Some.ensures.value in
    let same : c.in-Some.name.now ≡ c.args.to.now = (bytes_decides _ _).0 (sym c.if-eq.ensures) in
    let has = c.loop-i.invariant.has.0 c.if-has_from.true in
    let split : xs ≡ take i xs ++ c.args.to.now ∷ drop (suc i) xs =
    split_at xs i c.args.to.now (at ∙ ap Some same) in
    let there : Before c.args.from.now c.args.to.now xs =
    subst (Before c.args.from.now c.args.to.now) (sym split)
    (Before-front c.args.from.now c.args.to.now (take i xs) (drop (suc i) xs) has) in
    (λ t. there, λ b. refl)

pub loop-i-preserved : goal.loop-i-preserved
loop-i-preserved c =
    let xs : List NameBytes = c.args.response.now in
    let lt : c.loop-i.i < length xs = omega (arith, c.len-i-end.ensures.value) in
    elim c.match-bytes_at.branch [
      | in-Some+else-has_from+then-eq-2 w ↦
          further _ _ _ xs _ _ _ w.in-Some.ensures.value c.loop-i.invariant
          (elim w.else-has_from.branch [
            | else-has_from-via-then-has_from+else-eq v ↦ λ t. two _ _ _ v.eq.ensures v.if-eq.false
            | else-has_from-via-else-has_from v ↦ λ t. absurd (false≢true (sym v.if-has_from.false ∙ t))
          ])
          (λ t. inr (sym ((bytes_decides _ _).0 (sym w.if-eq-2.ensures))), λ h. w.has_from-is)
      | in-Some+else-has_from+else-eq-2 w ↦
          further _ _ _ xs _ _ _ w.in-Some.ensures.value c.loop-i.invariant
          (elim w.else-has_from.branch [
            | else-has_from-via-then-has_from+else-eq v ↦ λ t. two _ _ _ v.eq.ensures v.if-eq.false
            | else-has_from-via-else-has_from v ↦ λ t. absurd (false≢true (sym v.if-has_from.false ∙ t))
          ]) (
            λ t. inl (sym w.has_from-is ∙ t),
            λ h. elim h [
              | inl t ↦ w.has_from-is ∙ t
              | inr e ↦ absurd (two _ _ _ w.eq-in-Some.ensures w.if-eq-2.false (sym e))
            ],
          )
      | in_default w ↦
          (let missing : None ≡ Some (get_or xs c.loop-i.i []) = sym w.in_default.ensures.value
          ∙ slice_get-get_or xs c.loop-i.i [] lt in absurd Prim.cc)
    ]
