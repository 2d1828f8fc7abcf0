-- The worked texts with a fault: the right lines before it begin the spelling of a recording, which is legal
-- by its test, and the faulty line is named with what makes it faulty.
use Rattle.std.proofs.Common.{◌≡◌, ◌≢◌, ℕ, ◌≤◌, inl, inr, Bool, true, false, List, [], ◌∷◌, ◌++◌, length}
use Rattle.std.proofs.Common.{refl, sym, ◌∙◌, arith, ap, lit<, lit≤, length-append}
use Rattle.std.specs.Prelude.{Decides, codes, decimal, not, ◌==◌}
use Rattle.std.specs.List.{list_all}
use Rattle.std.specs.Fmt.{digits}
use Rattle.std.proofs.lemmas.Bool.{false≢true}
use Rattle.std.proofs.lemmas.Bool.Decides.{Decides-eqb}
use Rattle.std.proofs.lemmas.Slice.Eq.{bytes_eq-Decides}
use Rattle.events.specs.History.{History, is_view}
use Rattle.specification.specs.Lines.{Line, text_of, IsOneLine}
use Rattle.specification.specs.TraceText.{header_line, trace_lines, body_text, entry_line, IsOfVersion}
use Rattle.specification.specs.TraceText.{IsSpelledIn, IsFaultyLine, IsFirstLineFault, header, replicas}
use Rattle.specification.specs.TraceText.{shape, cut, refused}
use Rattle.specification.specs.Versions.{Version, one, two}
use Rattle.events.specs.declared.entry.Entry.{Entry}
use Rattle.events.specs.declared.entry.Body.{Body}
use Rattle.events.specs.declared.entry.Body.TheVariants.{Ins, Del, Read, View, Recv}
use Rattle.events.specs.declared.refusal.Refusal.{Refusal}
use Rattle.events.specs.declared.refusal.Refusal.TheVariants.{NoReplica, OwnReceipt, NotYet}
use Rattle.specification.specs.WorkedRecordings.{recording, ins, read, recv, a}
use Rattle.specification.specs.WorkedTexts as worked
use Rattle.specification.proofs.Members.{In-from_Contains, All-from_members}
use Rattle.specification.proofs.Tests.{is_in, Decides-in, Decides-each}
use Rattle.specification.proofs.Legality.{is_legal, legal-from}

-- a line without LF
one_line : (line : Line) → is_in ◌==◌ 10 line ≡ false → IsOneLine line
one_line line none c =
    false≢true (sym none ∙ (Decides-in ◌==◌ Decides-eqb 10 line).1 (In-from_Contains line 10 c))

-- a recording without views, in version one
spelled : (h : History) → is_legal h ≡ true → list_all (λ e. not (is_view e.body)) h.entries ≡ true
    → IsSpelledIn one h
spelled h legal none = (
  legal-from h legal,
  All-from_members (IsOfVersion one) h.entries
      ((Decides-each (λ e. not (is_view e.body)) (IsOfVersion one)
      (λ e. Decides-no (is_view e.body)) h.entries).0 none),
)
  where
    Decides-no : (t : Bool) → Decides (not t) (t ≡ false)
    Decides-no true = (λ e. absurd (false≢true e), λ e. absurd (false≢true (sym e)))
    Decides-no false = (λ e. refl, λ e. refl)

missing_header : IsFirstLineFault [] 1 header
missing_header =
    inr (record {
      good = [];
      begins =
          (one, recording 1 [], spelled (recording 1 []) refl refl, trace_lines one (recording 1 []), refl);
      text_is = refl;
      number = refl;
      missing = tt;
    })

missing_replicas : IsFirstLineFault (text_of (codes "trace 1" ∷ [])) 2 replicas
unfolding digits
missing_replicas =
    inr (record {
      good = codes "trace 1" ∷ [];
      begins = (one, recording 1 [], spelled (recording 1 []) refl refl, codes "replicas 1" ∷ [], refl);
      text_is = refl;
      number = refl;
      missing = tt;
    })

missing_replicas_of_two : IsFirstLineFault (text_of (codes "trace 2" ∷ [])) 2 replicas
unfolding digits
missing_replicas_of_two = inr (record {
  good = codes "trace 2" ∷ [];
  begins = (
    two,
    recording 1 [],
    (legal-from (recording 1 []) refl, λ i e lt. absurd (omega arith)),
    codes "replicas 1" ∷ [],
    refl,
  );
  text_is = refl;
  number = refl;
  missing = tt;
})

-- another number of the version
other_header : IsFirstLineFault (text_of (codes "trace 3" ∷ [])) 1 header
unfolding digits
other_header = inl (record {
  good = [];
  begins = (one, recording 1 [], spelled (recording 1 []) refl refl, trace_lines one (recording 1 []), refl);
  faulty = codes "trace 3";
  one_line = one_line (codes "trace 3") refl;
  more = [];
  text_is = refl;
  number = refl;
  is_faulty = neither;
})
  where
    neither : (version : Version) → codes "trace 3" ≢ header_line version
    neither one e = false≢true ((bytes_eq-Decides (codes "trace 3") (codes "trace 1")).1 e)
    neither two e = false≢true ((bytes_eq-Decides (codes "trace 3") (codes "trace 2")).1 e)

cut_header : IsFirstLineFault (codes "tra") 1 cut
cut_header = record {
  good = [];
  begins = (one, recording 1 [], spelled (recording 1 []) refl refl, trace_lines one (recording 1 []), refl);
  rest = codes "tra";
  some_byte = lit≤ tt;
  one_line = one_line (codes "tra") refl;
  text_is = refl;
  number = refl;
}

cut_entry : IsFirstLineFault (worked.one_replica ++ codes "0 read :") 3 cut
unfolding digits
cut_entry = record {
  good = codes "trace 1" ∷ codes "replicas 1" ∷ [];
  begins = (one, recording 1 [], spelled (recording 1 []) refl refl, [], refl);
  rest = codes "0 read :";
  some_byte = lit≤ tt;
  one_line = one_line (codes "0 read :") refl;
  text_is = refl;
  number = refl;
}

-- an entry's line has some byte
some_byte : (e : Entry) → [] ≢ entry_line e
some_byte e is = go e.body is
  where
    -- after a first part that has a byte
    behind : (xs ys : List ℕ) → 1 ≤ length ys → [] ≡ xs ++ ys → ⊥
    behind xs ys some e = omega (arith, ap length e, length-append xs ys)

    go : (b : Body) → [] ≡ decimal e.replica ++ body_text b → ⊥
    go (Ins name at w) f = behind (decimal e.replica) (body_text (Ins name at w)) (omega arith) f
    go (Del name w) f = behind (decimal e.replica) (body_text (Del name w)) (omega arith) f
    go (Read w) f = behind (decimal e.replica) (body_text (Read w)) (omega arith) f
    go (View w) f = behind (decimal e.replica) (body_text (View w)) (omega arith) f
    go (Recv seen) f = behind (decimal e.replica) (body_text (Recv seen)) (omega arith) f

empty_line : IsFirstLineFault (worked.one_replica ++ text_of ([] ∷ [])) 3 shape
unfolding digits
empty_line = record {
  good = codes "trace 1" ∷ codes "replicas 1" ∷ [];
  begins = (one, recording 1 [], spelled (recording 1 []) refl refl, [], refl);
  faulty = [];
  one_line = one_line [] refl;
  more = [];
  text_is = refl;
  number = refl;
  is_faulty = λ version e first is. some_byte e;
}

unknown_replica : IsFirstLineFault (worked.one_replica ++ text_of (codes "1 read :" ∷ [])) 3
    (refused NoReplica)
unfolding digits
unknown_replica = record {
  good = codes "trace 1" ∷ codes "replicas 1" ∷ [];
  begins = (one, recording 1 [], spelled (recording 1 []) refl refl, [], refl);
  faulty = codes "1 read :";
  one_line = one_line (codes "1 read :") refl;
  more = [];
  text_is = refl;
  number = refl;
  is_faulty = (
    one,
    recording 1 [],
    spelled (recording 1 []) refl refl,
    refl,
    read 1 [],
    (lit< tt, (λ k x lt. absurd (omega arith)), refl),
    refl,
    refl,
  );
}

abbrev inserted_once : History
inserted_once = recording 2 (ins 0 a 0 (a ∷ []) ∷ [])

abbrev inserting_once : List Line
inserting_once = codes "trace 1" ∷ codes "replicas 2" ∷ codes "0 ins a 0 : a" ∷ []

-- a line after one insert that is refused
fourth_line : (line : Line) (why : Refusal) → is_in ◌==◌ 10 line ≡ false
    → worked.one_insert ++ text_of (line ∷ []) ≡ text_of inserting_once ++ line ++ 10 ∷ []
    → IsFaultyLine inserting_once line (refused why)
    → IsFirstLineFault (worked.one_insert ++ text_of (line ∷ [])) 4 (refused why)
unfolding digits
fourth_line line why whole is faulty = record {
  good = inserting_once;
  begins = (one, inserted_once, spelled inserted_once refl refl, [], refl);
  faulty = line;
  one_line = one_line line whole;
  more = [];
  text_is = is;
  number = refl;
  is_faulty = faulty;
}

early_receipt : IsFirstLineFault (worked.one_insert ++ text_of (codes "1 recv 0 2" ∷ [])) 4
    (refused (NotYet 1))
unfolding digits
early_receipt =
    fourth_line (codes "1 recv 0 2") (NotYet 1) refl refl (
      one,
      inserted_once,
      spelled inserted_once refl refl,
      refl,
      recv 1 0 2,
      (lit< tt, (lit< tt, lit≤ tt, lit< tt), refl),
      refl,
      refl,
    )

own_receipt : IsFirstLineFault (worked.one_insert ++ text_of (codes "0 recv 0 1" ∷ [])) 4 (refused OwnReceipt)
unfolding digits
own_receipt =
    fourth_line (codes "0 recv 0 1") OwnReceipt refl refl (
      one,
      inserted_once,
      spelled inserted_once refl refl,
      refl,
      recv 0 0 1,
      (lit< tt, (lit< tt, lit≤ tt, lit< tt), refl),
      refl,
      refl,
    )

pub malformed_lines : worked.MalformedLines
malformed_lines = (
  missing_header,
  missing_replicas,
  missing_replicas_of_two,
  other_header,
  cut_header,
  cut_entry,
  empty_line,
  unknown_replica,
  early_receipt,
  own_receipt,
)
