-- Rows that are right at each element, and what is wrong with the others.
use Rattle.std.proofs.Common.{◌≡◌, ℕ, suc, ◌<◌, ◌≤◌, Some, None, List, [], ◌∷◌, length, get_or, refl, sym}
use Rattle.std.proofs.Common.{◌∙◌, ap, subst, arith}
use Rattle.std.specs.Prelude.{slice_get}
use Rattle.events.proofs.Places.{slice_get-within}
use Rattle.events.specs.Names.{NameBytes}
use Rattle.events.specs.History.{History}
use Rattle.specification.specs.Faults.{IsSound}
use Rattle.specification.specs.Responses.{Responses, responses_of}
use Rattle.specification.specs.Conflict.{Step, AreShownSteps}
use Rattle.specification.specs.LayerRule.{Row, MeetsRuleOf}
use Rattle.specification.specs.Versions.{Version}
use Rattle.specification.specs.CertificateText.{gives_cycle, IsRow}
use Rattle.specification.specs.ValidCertificate.{HasSource, RowsMeetRule, RowIsRight, RowsRightBefore}
use Rattle.cert_check.specs.Judged.{IsRowFault, AreRowsFault, IsJudgedNo}
use Rattle.cert_check.specs.declared.answer.Reason.{Reason}
use Rattle.cert_check.specs.declared.answer.Reason.TheVariants.{Trace, CertText, WrongFault, NotOrder}
use Rattle.cert_check.specs.declared.answer.Reason.TheVariants.{NotFollowed, NoCycle, MissingLayer}
use Rattle.cert_check.specs.declared.answer.Reason.TheVariants.{ShortLayer, ExtraLayer}

-- the element with this number, by the names that are the elements
pub element_at : (names all : List NameBytes) (i : ℕ) (a : NameBytes) → i < length names
    → a ≡ get_or names i a → names ≡ all → slice_get all i ≡ Some a
element_at names all i a lt is same =
    ap (λ (ns : List NameBytes). slice_get ns i) (sym same) ∙ slice_get-within names i a lt is

pub rows_meet : (version : Version) (v : Responses) (k : ℕ) (sources : List NameBytes) (rows : List Row)
    → ((j : ℕ) (source : NameBytes) → slice_get sources j ≡ Some source
    → RowIsRight version v k rows j source) →
    length rows ≤ length sources → RowsMeetRule version v k sources rows
rows_meet version v k [] [] right le = tt
rows_meet version v k [] (row ∷ rows) right le = absurd (omega arith)
rows_meet version v k (source ∷ sources) [] right le =
    let r = right 0 source refl in let bad : None ≡ Some r.0 = r.1 in absurd Prim.cc
rows_meet version v k (source ∷ sources) (row ∷ rows) right le =
    let r = right 0 source refl in
    let e : Some row ≡ Some r.0 = r.1 in
    let same : r.0 ≡ row = Prim.cc in (
      subst (λ (z : Row). HasSource z source) same r.2,
      subst (λ (z : Row). MeetsRuleOf version v k source z) same r.3,
      rows_meet version v k sources rows (λ j s at. right (suc j) s at) (omega arith),
    )

-- the first layer of a row has its source alone
pub row_source : (k : ℕ) (row : Row) → IsRow k row → (a : NameBytes) × HasSource row a
row_source k [] is = absurd is.source
row_source k (layer ∷ row) is = go layer is.source
  where
    go : (layer : List NameBytes) → length layer ≡ 1 → (a : NameBytes) × HasSource (layer ∷ row) a
    go [] e = absurd (omega arith)
    go (a ∷ []) e = (a, refl)
    go (a ∷ b ∷ more) e = absurd (omega arith)

-- a row has one source
pub one_source : (row : Row) (a b : NameBytes) → HasSource row a → HasSource row b → a ≡ b
one_source row a b p q = let e : Some (a ∷ []) ≡ Some (b ∷ []) = sym p ∙ q in Prim.cc

pub judged_no : (version : Version) (h : History) (k : ℕ) (steps : List Step) (rows : List Row) (why : Reason)
    → IsSound h → AreShownSteps (responses_of h) steps → 3 ≤ k →
    AreRowsFault version (responses_of h) k rows why → IsJudgedNo version h (gives_cycle k steps rows) why
judged_no version h k steps rows Trace sound shown le f = f
judged_no version h k steps rows CertText sound shown le f = f
judged_no version h k steps rows WrongFault sound shown le f = absurd f
judged_no version h k steps rows NotOrder sound shown le f = absurd f
judged_no version h k steps rows (NotFollowed at) sound shown le f = absurd f
judged_no version h k steps rows (NoCycle step) sound shown le f = absurd f
judged_no version h k steps rows (MissingLayer source) sound shown le f =
    (sound, shown, le, f.0, f.1, f.2, f.3)
judged_no version h k steps rows (ShortLayer source) sound shown le f =
    (sound, shown, le, f.0, f.1, f.2, f.3, f.4, f.5, f.6)
judged_no version h k steps rows (ExtraLayer source) sound shown le f = (sound, shown, le, f.0, f.1, f.2, f.3)

-- what is wrong with a row behind right ones is wrong with the rows
pub first_fault : (version : Version) (v : Responses) (k : ℕ) (rows : List Row) (i : ℕ) (why : Reason)
    → IsRowFault version v k rows i why → RowsRightBefore version v k rows i →
    AreRowsFault version v k rows why
first_fault version v k rows i Trace f before = absurd f
first_fault version v k rows i CertText f before = absurd f
first_fault version v k rows i WrongFault f before = absurd f
first_fault version v k rows i NotOrder f before = absurd f
first_fault version v k rows i (NotFollowed at) f before = absurd f
first_fault version v k rows i (NoCycle step) f before = absurd f
first_fault version v k rows i (MissingLayer source) f before = (i, f.0, before, f.1)
first_fault version v k rows i (ShortLayer source) f before = (i, f.0, before, f.1, f.2, f.3, f.4)
first_fault version v k rows i (ExtraLayer source) f before = absurd f
