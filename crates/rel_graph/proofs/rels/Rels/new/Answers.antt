use Rattle.std.proofs.Common.{ℕ, [], Option, refl, sym, subst}
use Rattle.std.proofs.lemmas.Option.{none-some}
use Rattle.ordered_table.proofs.Ordered.{nil_sorted}
use Rattle.slab.specs.Slab.{get}
use Rattle.rel_graph.specs.declared.edge.Edge.{Edge}
use Rattle.rel_graph.specs.Edges.{key_cmp}
use Rattle.rel_graph.specs.Slots.{IsKept}
use Rattle.rel_graph.proofs.rels.Rels.new.Goals as goal

none_kept : {P : Type 0} (at : ℕ → Option (Edge P)) → IsKept at [] [] [] 0
none_kept at = record {
  sorted = nil_sorted key_cmp;
  stands = λ q slot i. absurd (none-some slot i);
  linked = λ target q. refl;
  tallied = λ q. refl;
  counted = refl;
}

pub invariant_of-result : goal.invariant_of-result
invariant_of-result g c =
    subst (λ o. IsKept (get c.new.result) o c.new-3.result.links c.new-3.result.counts 0) (sym c.new-2.ensures)
    (subst (λ l. IsKept (get c.new.result) [] l c.new-3.result.counts 0) (sym c.new-3.ensures.links)
    (subst (λ n. IsKept (get c.new.result) [] [] n 0) (sym c.new-3.ensures.counts) (none_kept (get c.new.result))))
