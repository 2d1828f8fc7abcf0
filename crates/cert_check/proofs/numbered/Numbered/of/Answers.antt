-- What is kept of a sound recording.
use Rattle.std.proofs.Common.{◌≡◌, ℕ, ◌<◌, List, length, sym, ◌∙◌, ap, subst}
use Rattle.std.specs.Prelude.{All}
use Rattle.events.specs.Names.{NameBytes}
use Rattle.events.specs.History.{IsLegal}
use Rattle.specification.specs.Elements.{elements, number_in}
use Rattle.specification.proofs.Members.{Once}
use Rattle.element_numbers.specs.Cuts.{rows_of}
use Rattle.element_numbers.proofs.Elements.{few-names}
use Rattle.cert_check.proofs.Listed.{once-elements, lists-within}
use Rattle.cert_check.proofs.numbered.Numbered.of.Goals as goal

pub returns : goal.returns
returns c =
    let h = c.args.recording.now in
    let legal : IsLegal h = c.replicas.ensures.legal in
    let names : List NameBytes = c.args.found.names.items in
    let is : names ≡ elements h = c.requires.found.names in
    let covers = c.requires.found.covers in
    let places : List (List ℕ) = rows_of c.args.found.covering.rows in
    record {
      legal = legal;
      sound = c.requires.sound;
      numbering = record {
        once = subst Once (sym is) (once-elements h legal c.requires.sound);
        few = few-names h legal c.requires.sound names is;
        numbers = λ a. c.requires.found.numbers a ∙ ap (λ (l : List NameBytes). number_in l a) (sym is);
      };
      names = is;
      operations = covers.operations;
      cut = covers.rows.cut;
      places = covers.rows.rows_are;
      within = subst (λ (ns : List NameBytes). All (λ list. All (λ x. x < length ns) list) places) (sym is)
          (lists-within h legal c.requires.sound c.args.found.covering.operations.items covers.operations.part
          places covers.rows.rows_are);
    }
