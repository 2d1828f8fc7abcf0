-- Both go on alike for a run, and then one name of either is noted.
use Rattle.std.proofs.Common.{◌≡◌, ◌∙◌, ℕ, ◌+◌, ◌≤◌, ◌∷◌, ◌++◌, [], List, drop, length, take, sym, ap}
use Rattle.std.proofs.Common.{subst, arith}
use Rattle.std.proofs.lemmas.Bool.{false≢true}
use Rattle.events.specs.Names.{NameBytes}
use Rattle.specification.specs.Elements.{numbers_in}
use Rattle.specification.proofs.Members.{In-append_left, In-append_right}
use Rattle.element_numbers.proofs.Copying.{run_more, one_more}
use Rattle.contents_check.specs.Known.{element_names}
use Rattle.contents_check.specs.Shown.{AreOfElements, IsNoted, OnlyNotes, ShowJust}
use Rattle.contents_check.proofs.CoverSteps.{all_found, goes_on_alike, passes, run-within}
use Rattle.contents_check.proofs.Noting.{joined_all, joined_run, notes-on}
use Rattle.contents_check.proofs.RowNumbers.{number-few, row-length, run-numbers}
use Rattle.contents_check.proofs.standings.Standings.show.Goals as goal
use Rattle.contents_check.proofs.standings.Standings.show.Goals.{After-hide_from, After-same_names-run}
use Rattle.contents_check.proofs.standings.Standings.show.Goals.{After-step}

-- the run ends within the other
last-within : (c : After-same_names-run) → c.runs.j + c.same_names-run.result ≤ length c.args.last.now
last-within c =
    run-within c.args.last.now c.runs.j c.same_names-run.result c.runs.invariant.other_within
    c.same_names-run.ensures.within.1

pub copy_run-requires : goal.copy_run-requires
copy_run-requires c =
    omega (
      arith,
      row-length c.args.elements.now c.args.last.now c.args.row.now c.requires.row,
      last-within (goal.at.copy_run-requires c).After-same_names-run,
    )

pub overflow_add-j : goal.overflow_add-j
overflow_add-j c =
    omega (
      arith,
      last-within (goal.at.overflow_add-j c).After-same_names-run,
      c.len.ensures.value,
      c.len.type_inv,
    )

pub step-requires-clause-shown : goal.step-requires-clause-shown
step-requires-clause-shown c =
    subst (λ l. ShowJust c.args.elements.now c.runs.self.list.items l)
    (sym (joined_run c.args.w.now c.runs.i c.args.last.now c.runs.j c.same_names-run.result
    c.same_names-run.ensures.same)) c.runs.invariant.shown

-- the row has the numbers of one run more
row-next : (c : After-step) → c.copy_run.new.next.items
    ≡ numbers_in (element_names c.args.elements.now) (take (c.runs.i + c.same_names-run.result) c.args.w.now)
row-next c =
    let names : List NameBytes = element_names c.args.elements.now in
    let w : List NameBytes = c.args.w.now in
    let row : List ℕ = c.args.row.now in
    let run : ℕ = c.same_names-run.result in
    c.in_ok-copy_run.ensures ∙ ap (λ l. l ++ take run (drop c.runs.j row)) c.runs.invariant.row
    ∙ ap (λ l. numbers_in names (take c.runs.i w) ++ l)
    (run-numbers names c.args.last.now w row c.runs.i c.runs.j run c.requires.row
    c.same_names-run.ensures.same)
    ∙ run_more names w c.runs.i run

pub runs-preserved-in-End : goal.runs-preserved-in-End
runs-preserved-in-End c = record {
  notes = notes-on c.runs.invariant.notes c.step.ensures.notes;
  shown = c.in-End.ensures.step.1;
  row = row-next (goal.at.runs-preserved-in-End c).After-step;
  part = λ is h. c.runs.invariant.part is
      (goes_on_alike _ _ c.runs.i c.runs.j _ c.same_names-run.ensures.same h);
  within = run-within _ _ _ c.runs.invariant.within c.same_names-run.ensures.within.0;
  other_within = last-within (goal.at.runs-preserved-in-End c).After-same_names-run;
}

pub overflow_cast-number : goal.overflow_cast-number
overflow_cast-number c =
    omega (
      arith,
      c.requires.few,
      number-few c.args.elements.now c.requires.numbers c.args.w.now
          (c.runs.i + c.same_names-run.result) c.in-New.number c.in-New.ensures.step.2
          (λ a i. c.in-New.ensures.step.1.known a
          (In-append_left a (take (c.runs.i + c.same_names-run.result + 1) c.args.w.now)
          (drop (c.runs.j + c.same_names-run.result) c.args.last.now) i)),
    )

pub runs-preserved-in-New : goal.runs-preserved-in-New
runs-preserved-in-New c = record {
  notes = notes-on c.runs.invariant.notes c.step.ensures.notes;
  shown = c.in-New.ensures.step.1;
  row = c.in_ok-push-in-New.ensures.items
      ∙ ap (λ l. l ++ c.in-New.number ∷ []) (row-next (goal.at.runs-preserved-in-New c).After-step)
      ∙ one_more (element_names c.args.elements.now) c.args.w.now (c.runs.i + c.same_names-run.result)
      c.in-New.number c.in-New.ensures.step.2;
  part = λ is. absurd (false≢true is);
  within = omega (arith, c.in-New.ensures.step.0);
  other_within = last-within (goal.at.runs-preserved-in-New c).After-same_names-run;
}

pub overflow_add-j-in-Gone : goal.overflow_add-j-in-Gone
overflow_add-j-in-Gone c = omega (arith, c.in-Gone.ensures.step.0, c.len.ensures.value, c.len.type_inv)

pub runs-preserved : goal.runs-preserved
runs-preserved c = record {
  notes = notes-on c.runs.invariant.notes c.step.ensures.notes;
  shown = c.in-Gone.ensures.step.1;
  row = row-next (goal.at.runs-preserved c).After-step;
  part = λ is h. c.runs.invariant.part is
      (passes _ _ c.runs.i c.runs.j _ c.same_names-run.ensures.same h);
  within = run-within _ _ _ c.runs.invariant.within c.same_names-run.ensures.within.0;
  other_within = omega (arith, c.in-Gone.ensures.step.0);
}

pub returns-in-Refused-clause-notes : goal.returns-in-Refused-clause-notes
returns-in-Refused-clause-notes c = notes-on c.runs.invariant.notes c.step.ensures.notes

pub hide_from-requires-clause-known : goal.hide_from-requires-clause-known
hide_from-requires-clause-known c =
    λ a i. c.runs.invariant.shown.known a (In-append_right a _ _ i)

-- in the end all of the one is noted, and the row is its
all-noted : (c : After-hide_from) → OnlyNotes c.args.elements.now c.args.self.now c.hide_from.new.self
    × AreOfElements c.args.elements.now c.args.w.now
    × IsNoted c.args.elements.now c.args.w.now c.hide_from.new.self c.runs.next.items
all-noted c =
    let w : List NameBytes = c.args.w.now in
    let all : take c.runs.i w ≡ w =
    joined_all w c.runs.i (omega (arith, c.runs-test.false, c.len-in-runs.ensures.value)) in
    let just =
    subst (ShowJust c.args.elements.now c.hide_from.new.self.list.items) all
    (c.hide_from.ensures.shown (take c.runs.i w) c.runs.invariant.shown) in (
      notes-on c.runs.invariant.notes c.hide_from.ensures.notes,
      (just.once, just.known),
      record {
        just = just;
        row_is = c.runs.invariant.row ∙ ap (numbers_in (element_names c.args.elements.now)) all;
      },
    )

pub returns-then-is_part : goal.returns-then-is_part
returns-then-is_part c =
    let noted = all-noted (goal.at.returns-then-is_part c).After-hide_from in
    record {
      notes = noted.0;
      shows = (
        noted.1,
        noted.2,
        c.runs.invariant.part c.if-is_part.true
            (all_found c.args.w.now (drop c.runs.j c.args.last.now) c.runs.i
            (omega (arith, c.runs-test.false, c.len-in-runs.ensures.value))),
      );
    }

pub returns-else-is_part : goal.returns-else-is_part
returns-else-is_part c =
    let noted = all-noted (goal.at.returns-else-is_part c).After-hide_from in
    record { notes = noted.0; shows = (noted.1, noted.2) }
