-- Whether a recording is sound, and whether a fault is its first one, is computed, by going through the names
-- of its operations: a legal recording has no others. The least operation of which something holds is tested
-- by all before it.
use Rattle.std.proofs.Common.{◌≡◌, inl, inr, Bool, false, Option, Some, None, refl, sym, ◌∙◌, subst}
use Rattle.std.specs.Prelude.{Decides, IsTrue, is_some, not, ◌&&◌, ◌||◌, option_and_then, bytes_eq}
use Rattle.std.specs.List.{list_all, list_any}
use Rattle.std.proofs.lemmas.Bool.{false≢true}
use Rattle.std.proofs.lemmas.Bool.Decides.{Decides-like, Decides-and, Decides-not}
use Rattle.std.proofs.lemmas.Slice.Eq.{bytes_eq-Decides}
use Rattle.events.specs.Names.{NameBytes}
use Rattle.events.specs.Operation.{Operation, operation_lt, ComesBefore, IsLeast}
use Rattle.events.specs.History.{History, IsLegal, inserted_name}
use Rattle.events.specs.Operations.{operation, IsOperation, operation_names, Inserts}
use Rattle.specification.specs.Faults.{InsertsAgain, IsDoubled, HasDistinctInserts, IsRight, IsSound}
use Rattle.specification.specs.Faults.{AreRightBefore, Fault, doubled, contents, position, IsFirstFault}
use Rattle.specification.proofs.Members.{In}
use Rattle.specification.proofs.Shown.{ComesBefore-irreflexive}
use Rattle.specification.proofs.Dictionary.{ComesBefore-cases}
use Rattle.specification.proofs.OperationNames.{operation-listed, listed-operation}
use Rattle.specification.proofs.SoundResponses.{operation_of_insert}
use Rattle.specification.proofs.Tests.{Decides-each, Decides-each_of, Decides-some, Decides-and_then}
use Rattle.specification.proofs.Tests.{Decides-implies, has_some, Decides-has_some}
use Rattle.specification.proofs.Rightness.{contents_right, Decides-contents, position_right, Decides-position}
use Rattle.specification.proofs.Rightness.{is_right, Decides-right}

-- a test of a truth value
Decides-IsTrue : (b : Bool) → Decides b (IsTrue b)
Decides-IsTrue b = (λ e. e, λ e. e)

abbrev pub inserts : History → NameBytes → Operation → Bool
inserts h a o = has_some bytes_eq a (option_and_then inserted_name (operation h o))

pub Decides-inserts : (h : History) (a : NameBytes) (o : Operation) → Decides (inserts h a o) (Inserts h o a)
Decides-inserts h a o =
    Decides-has_some bytes_eq bytes_eq-Decides a (option_and_then inserted_name (operation h o))

-- no lesser operation passes
abbrev is_least : (Operation → Bool) → History → Operation → Bool
is_least test h o = test o && list_all (λ f. not (operation_lt f o && test f)) (operation_names h)

Decides-least : (h : History) (test : Operation → Bool) (P : Operation → Type 0)
    → ((o : Operation) → Decides (test o) (P o)) → ((o : Operation) → P o → In o (operation_names h)) →
    (o : Operation) → Decides (is_least test h o) (IsLeast P o)
Decides-least h test P each listed o =
    Decides-like (is_least test h o)
    (λ k. record { holds = k.0; least = λ f p before. k.1 f (listed f p) (before, p) })
    (λ k. (k.holds, λ f i both. k.least f both.1 both.0))
    (Decides-and (test o) (list_all (λ f. not (operation_lt f o && test f)) (operation_names h)) (each o)
    (Decides-each (λ f. not (operation_lt f o && test f)) (λ f. (ComesBefore f o × P f) → ⊥)
    (λ f. Decides-not (operation_lt f o && test f) (Decides-and (operation_lt f o) (test f)
    (Decides-IsTrue (operation_lt f o)) (each f))) (operation_names h)))

module _ (h : History) (legal : IsLegal h) where
  pub insert-listed : (a : NameBytes) (o : Operation) → Inserts h o a → In o (operation_names h)
  insert-listed a o i = operation-listed h o legal (operation_of_insert h o a i)

-- an operation that inserts this name is before e
abbrev again_by : History → Operation → Option NameBytes → Bool
again_by h e None = false
again_by h e (Some a) = list_any (λ f. operation_lt f e && inserts h a f) (operation_names h)

abbrev pub is_again : History → Operation → Bool
is_again h e = again_by h e (option_and_then inserted_name (operation h e))

pub Decides-again : (h : History) → IsLegal h → (e : Operation) → Decides (is_again h e) (InsertsAgain h e)
Decides-again h legal e = go (option_and_then inserted_name (operation h e)) refl
  where
    go : (o : Option NameBytes) → option_and_then inserted_name (operation h e) ≡ o
        → Decides (again_by h e o) (InsertsAgain h e)
    go None eq =
        (λ t. absurd (false≢true t), λ k. absurd (let same : None ≡ Some k.0 = sym eq ∙ k.1 in Prim.cc))
    go (Some a) eq =
        Decides-like (list_any (λ f. operation_lt f e && inserts h a f) (operation_names h))
        (λ s. (a, eq, s.0, s.2.0, s.2.1))
        (λ k.
        let same : Some k.0 ≡ Some a = sym k.1 ∙ eq in
        let name : k.0 ≡ a = Prim.cc in
        (k.2, insert-listed h legal k.0 k.2 k.4, (k.3, subst (λ z. Inserts h k.2 z) name k.4)))
        (Decides-some (λ f. operation_lt f e && inserts h a f) (λ f. ComesBefore f e × Inserts h f a)
        (λ f. Decides-and (operation_lt f e) (inserts h a f) (Decides-IsTrue (operation_lt f e))
        (Decides-inserts h a f)) (operation_names h))

abbrev doubled_by : History → Operation → Operation → Option NameBytes → Bool
doubled_by h first again None = false
doubled_by h first again (Some a) = is_least (is_again h) h again && is_least (inserts h a) h first

abbrev is_doubled : History → Operation → Operation → Bool
is_doubled h first again = doubled_by h first again (option_and_then inserted_name (operation h again))

Decides-doubled : (h : History) → IsLegal h → (first again : Operation)
    → Decides (is_doubled h first again) (IsDoubled h first again)
Decides-doubled h legal first again = go (option_and_then inserted_name (operation h again)) refl
  where
    go : (o : Option NameBytes) → option_and_then inserted_name (operation h again) ≡ o
        → Decides (doubled_by h first again o) (IsDoubled h first again)
    go None eq = (
      λ t. absurd (false≢true t),
      λ d. absurd (let same : None ≡ Some d.name = sym eq ∙ d.again_inserts in
          Prim.cc),
    )
    go (Some a) eq =
        Decides-like (doubled_by h first again (Some a))
        (λ k. record { again_least = k.0; name = a; again_inserts = eq; first_least = k.1 })
        (λ d.
        let same : Some d.name ≡ Some a = sym d.again_inserts ∙ eq in
        let name : d.name ≡ a = Prim.cc in
        (d.again_least, subst (λ n. IsLeast (λ f. Inserts h f n) first) name d.first_least))
        (Decides-and (is_least (is_again h) h again) (is_least (inserts h a) h first)
        (Decides-least h (is_again h) (InsertsAgain h) (Decides-again h legal)
        (λ o k. insert-listed h legal k.0 o k.1) again)
        (Decides-least h (inserts h a) (λ f. Inserts h f a) (Decides-inserts h a)
        (λ o i. insert-listed h legal a o i) first))

abbrev is_distinct : History → Bool
is_distinct h = list_all (λ e. not (is_again h e)) (operation_names h)

module _ (h : History) (legal : IsLegal h) where
  pub distinct_from_none : ((o : Operation) → In o (operation_names h) → InsertsAgain h o → ⊥)
      → HasDistinctInserts h
  distinct_from_none none a f e x y = elim (ComesBefore-cases f e) [
    | inl lt ↦ absurd (none e (insert-listed h legal a e y) (a, y, f, lt, x))
    | inr (inl same) ↦ same
    | inr (inr gt) ↦ absurd (none f (insert-listed h legal a f x) (a, x, e, gt, y))
  ]

  Decides-distinct : Decides (is_distinct h) (HasDistinctInserts h)
  Decides-distinct =
      Decides-like (is_distinct h) distinct_from_none
      (λ distinct e i k. ComesBefore-irreflexive e
      (subst (λ o. ComesBefore o e) (distinct k.0 k.2 e k.4 k.1) k.3))
      (Decides-each (λ e. not (is_again h e)) (λ e. InsertsAgain h e → ⊥)
      (λ e. Decides-not (is_again h e) (Decides-again h legal e)) (operation_names h))

  -- each listed operation is right
  Decides-right_listed : (o : Operation) → In o (operation_names h) → Decides (is_right h o) (IsRight h o)
  Decides-right_listed o i = Decides-right h o legal (listed-operation h o i)

abbrev pub is_sound : History → Bool
is_sound h = is_distinct h && list_all (is_right h) (operation_names h)

pub Decides-sound : (h : History) → IsLegal h → Decides (is_sound h) (IsSound h)
Decides-sound h legal =
    Decides-like (is_sound h)
    (λ k. record { names = k.0; right = λ e is. k.1 e (operation-listed h e legal is) })
    (λ sound. (sound.names, λ e i. sound.right e (listed-operation h e i)))
    (Decides-and (is_distinct h) (list_all (is_right h) (operation_names h)) (Decides-distinct h legal)
    (Decides-each_of (is_right h) (IsRight h) (operation_names h) (Decides-right_listed h legal)))

abbrev are_right_before : History → Operation → Bool
are_right_before h at = list_all (λ f. not (operation_lt f at) || is_right h f) (operation_names h)

Decides-right_before : (h : History) → IsLegal h → (at : Operation)
    → Decides (are_right_before h at) (AreRightBefore h at)
Decides-right_before h legal at =
    Decides-like (are_right_before h at) (λ all f is before. all f (operation-listed h f legal is) before)
    (λ all f i before. all f (listed-operation h f i) before)
    (Decides-each_of (λ f. not (operation_lt f at) || is_right h f) (λ f. ComesBefore f at → IsRight h f)
    (operation_names h)
    (λ f i. Decides-implies (operation_lt f at) (is_right h f) (Decides-IsTrue (operation_lt f at))
    (λ before. Decides-right_listed h legal f i)))

-- no name is doubled, and the operation is one, after right ones
record Reached (h : History) (at : Operation) : Type 0 where
  distinct : HasDistinctInserts h
  operation : IsOperation h at
  right_before : AreRightBefore h at

abbrev is_reached : History → Operation → Bool
is_reached h at = is_distinct h && (is_some (operation h at) && are_right_before h at)

Decides-reached : (h : History) → IsLegal h → (at : Operation) → Decides (is_reached h at) (Reached h at)
Decides-reached h legal at =
    Decides-like (is_reached h at) (λ k. record { distinct = k.0; operation = k.1.0; right_before = k.1.1 })
    (λ r. (r.distinct, (r.operation, r.right_before)))
    (Decides-and (is_distinct h) (is_some (operation h at) && are_right_before h at)
    (Decides-distinct h legal)
    (Decides-and (is_some (operation h at)) (are_right_before h at)
    (Decides-IsTrue (is_some (operation h at))) (Decides-right_before h legal at)))

abbrev pub is_first_fault : History → Fault → Bool
is_first_fault h (doubled first again) = is_doubled h first again
is_first_fault h (contents at) = is_reached h at && not (contents_right h at)
is_first_fault h (position at) = is_reached h at && (contents_right h at && not (position_right h at))

pub Decides-first_fault : (h : History) → IsLegal h → (f : Fault)
    → Decides (is_first_fault h f) (IsFirstFault h f)
Decides-first_fault h legal (doubled first again) = Decides-doubled h legal first again
Decides-first_fault h legal (contents at) =
    Decides-like (is_first_fault h (contents at)) (λ k. (k.0.distinct, k.0.operation, k.0.right_before, k.1))
    (λ f. (record { distinct = f.0; operation = f.1; right_before = f.2 }, f.3))
    (Decides-and_then (is_reached h at) (not (contents_right h at)) (Decides-reached h legal at)
    (λ r. Decides-not (contents_right h at) (Decides-contents h legal at r.operation)))
Decides-first_fault h legal (position at) =
    Decides-like (is_first_fault h (position at)) (λ k. (
      k.0.distinct,
      k.0.operation,
      k.0.right_before,
      k.1.0,
      k.1.1,
    )) (λ f. (record { distinct = f.0; operation = f.1; right_before = f.2 }, (f.3, f.4)))
    (Decides-and_then (is_reached h at) (contents_right h at && not (position_right h at))
    (Decides-reached h legal at)
    (λ r. Decides-and (contents_right h at) (not (position_right h at))
    (Decides-contents h legal at r.operation)
    (Decides-not (position_right h at) (Decides-position h at))))
