-- Bytes are a name just where no fault is found in them.
use Rattle.std.proofs.Common.{◌≡◌, ℕ, ◌+◌, ◌≤◌, Bool, true, false, cond, not, ◌&&◌, nat_lt, Option, Some}
use Rattle.std.proofs.Common.{None, option_map, List, [], ◌∷◌, length, position, is_none, IsTrue, ◌↔◌, refl}
use Rattle.std.proofs.Common.{sym, ap, ◌∙◌, arith, ltb-false, le-ltb}
use Rattle.std.specs.List.{list_all, position_from}
use Rattle.std.proofs.lemmas.Iterator.Adapters.{position_from-zero}
use Rattle.events.specs.Names.{IsName, is_name_byte}
use Rattle.events.specs.NameFaults.{name_fault}
use Rattle.events.specs.declared.name.NameFault.{NameFault}
use Rattle.events.specs.declared.name.NameFault.TheVariants.{Long, BadByte}
use Rattle.events.proofs.Padding.{none_bad}

bad-at : (t : Bool) (i : ℕ) (rest : Option ℕ) (all : Bool) → (t && all) ≡ true → (all ≡ true → rest ≡ None)
    → cond (not t) (Some i) rest ≡ None
bad-at true i rest all e h = h e
bad-at false i rest all e h = absurd (cc)

all-good-from : (p : ℕ → Bool) (i : ℕ) (bytes : List ℕ) → list_all p bytes ≡ true
    → position_from (λ b. not (p b)) i bytes ≡ None
all-good-from p i [] e = refl
all-good-from p i (b ∷ bytes) e =
    bad-at (p b) i (position_from (λ c. not (p c)) (i + 1) bytes) (list_all p bytes) e
    (all-good-from p (i + 1) bytes)

no-option : {X Y : Type 0} (f : X → Y) (o : Option X) → option_map f o ≡ None → o ≡ None
no-option f None e = refl
no-option f (Some x) e = absurd (cc)

neither : (t : Bool) (f : NameFault) (o : Option NameFault) → cond t (Some f) o ≡ None
    → (t ≡ false) × (o ≡ None)
neither true f o e = absurd (cc)
neither false f o e = (refl, e)

pub no-fault-name : (w : List ℕ) → name_fault w ≡ None → IsName w
no-fault-name [] e = absurd (cc)
no-fault-name (b ∷ bs) e =
    let parts = neither (nat_lt 32 (length (b ∷ bs))) Long _ e in
    let none = no-option (λ (at : ℕ). BadByte at) (position (λ c. not (is_name_byte c)) (b ∷ bs)) parts.1 in
    let short : length (b ∷ bs) ≤ 32 = ltb-false _ _ parts.0 in
    record {
      some_byte = omega arith;
      few_bytes = short;
      each_byte = none_bad (b ∷ bs) none;
    }

pub name-no-fault : (w : List ℕ) → IsName w → name_fault w ≡ None
name-no-fault [] h = absurd (omega (arith, h.some_byte))
name-no-fault (b ∷ bs) h =
    let none : position (λ c. not (is_name_byte c)) (b ∷ bs) ≡ None =
    position_from-zero (λ c. not (is_name_byte c)) (b ∷ bs)
    ∙ all-good-from is_name_byte 0 (b ∷ bs) h.each_byte in
    let short : nat_lt 32 (length (b ∷ bs)) ≡ false = le-ltb _ _ h.few_bytes in
    rw (short, none) refl

is-none : {X : Type 0} (o : Option X) → is_none o ≡ true → o ≡ None
is-none None e = refl
is-none (Some x) e = absurd (cc)

pub turned : (t s : Bool) → s ≡ not t → t ≡ not s
turned true s e = ap not (sym e)
turned false s e = ap not (sym e)

-- so the test for faults tells the names
pub tells-names : (w : List ℕ) (t : Bool) → t ≡ is_none (name_fault w) → IsTrue t ↔ IsName w
tells-names w t e =
    (λ h. no-fault-name w (is-none (name_fault w) (sym e ∙ h)), λ name. e ∙ ap is_none (name-no-fault w name))
