-- What stands after the element and leads back is as deep as asked, and so the least of this depth is least.
use Rattle.std.proofs.Common.{suc, ◌≤◌, add-one, subst, arith, inl, inr}
use Rattle.order_graph.specs.Lists.{lists_of}
use Rattle.list_search.specs.Rings.{Reaches}
use Rattle.list_search.proofs.Joining.{before-known}
use Rattle.level_search.proofs.cycles.choose.next_of_ring.Goals as goal

pub returns-clause-next : goal.returns-clause-next
returns-clause-next c =
    let v = c.args.graph.now in
    let on : Reaches (lists_of v) c.args.z (suc c.args.n) c.args.a =
    subst (λ n. Reaches (lists_of v) c.args.z n c.args.a) (add-one c.args.n) c.requires.on in
    let known = before-known v c.elements.ensures.proper c.args.a on.0 on.1 in
    let low : c.least_next.result ≤ on.0 =
    c.least_next.ensures.least on.0 on.1 ((c.requires.depths on.0 on.1).1 on.2) in
    elim c.least_next.ensures.first [
      | inl none ↦ absurd (omega (arith, none, known.1))
      | inr found ↦ record {
        behind = found.0;
        reaches = (c.requires.depths c.least_next.result found.0).0 found.1;
        least = λ y step back. c.least_next.ensures.least y step ((c.requires.depths y step).1 back);
      }
    ]
