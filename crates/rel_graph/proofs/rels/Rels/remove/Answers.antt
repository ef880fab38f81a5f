use Rattle.std.proofs.Common.{Some, sym, ap, ◌∙◌, subst}
use Rattle.slab.specs.Slab.{get}
use Rattle.rel_graph.specs.Slots.{IsKept}
use Rattle.rel_graph.proofs.Leaves.{left-none, left-out, has_edge}
use Rattle.rel_graph.proofs.rels.Rels.remove.Goals as goal

pub invariant_of-self : goal.invariant_of-self
invariant_of-self g c = (left-none c.self.inside.edges c.self.inside.order c.remove.new.self c.self.inside.index.links c.self.inside.index.counts c.self.inside.len c.self.invariant (c.args.source.now, c.args.id.now) c.args.self.now c.self.view_is c.remove.ensures.entries (sym c.in_default.is ∙ c.remove.ensures.value)).kept

pub returns-in_default-clause-value : goal.returns-in_default-clause-value
returns-in_default-clause-value g c = (left-none c.self.inside.edges c.self.inside.order c.remove.new.self c.self.inside.index.links c.self.inside.index.counts c.self.inside.len c.self.invariant (c.args.source.now, c.args.id.now) c.args.self.now c.self.view_is c.remove.ensures.entries (sym c.in_default.is ∙ c.remove.ensures.value)).gives

pub returns-in_default-clause-edges : goal.returns-in_default-clause-edges
returns-in_default-clause-edges g c = (left-none c.self.inside.edges c.self.inside.order c.remove.new.self c.self.inside.index.links c.self.inside.index.counts c.self.inside.len c.self.invariant (c.args.source.now, c.args.id.now) c.args.self.now c.self.view_is c.remove.ensures.entries (sym c.in_default.is ∙ c.remove.ensures.value)).edges

pub remove-edge-requires : goal.remove-edge-requires
remove-edge-requires g c = has_edge c.self.inside.edges c.self.inside.order c.remove.new.self c.self.inside.index.links c.self.inside.index.counts c.self.inside.len c.self.invariant (c.args.source.now, c.args.id.now) c.args.self.now c.self.view_is c.remove.ensures.entries c.in-Some.slot (sym c.in-Some.is ∙ c.remove.ensures.value)

pub invariant_of-self-2 : goal.invariant_of-self-2
invariant_of-self-2 g c = subst (IsKept (get c.remove-edge.new.self) c.remove.new.self c.leave.new.self.links c.leave.new.self.counts) (sym c.saturating_sub-self-inside.ensures) (left-out c.self.inside.edges c.self.inside.order c.remove.new.self c.self.inside.index.links c.self.inside.index.counts c.self.inside.len c.self.invariant (c.args.source.now, c.args.id.now) c.args.self.now c.self.view_is c.remove.ensures.entries c.in-Some.slot (sym c.in-Some.is ∙ c.remove.ensures.value) c.remove-edge.result c.remove-edge.new.self c.leave.new.self.links c.leave.new.self.counts c.remove-edge.ensures.value c.remove-edge.ensures.updates c.leave.ensures.links c.leave.ensures.counts).kept

pub returns-clause-value : goal.returns-clause-value
returns-clause-value g c = ap (λ e. Some e) c.leave.ensures.same ∙ (left-out c.self.inside.edges c.self.inside.order c.remove.new.self c.self.inside.index.links c.self.inside.index.counts c.self.inside.len c.self.invariant (c.args.source.now, c.args.id.now) c.args.self.now c.self.view_is c.remove.ensures.entries c.in-Some.slot (sym c.in-Some.is ∙ c.remove.ensures.value) c.remove-edge.result c.remove-edge.new.self c.leave.new.self.links c.leave.new.self.counts c.remove-edge.ensures.value c.remove-edge.ensures.updates c.leave.ensures.links c.leave.ensures.counts).gives

pub returns-clause-edges : goal.returns-clause-edges
returns-clause-edges g c = (left-out c.self.inside.edges c.self.inside.order c.remove.new.self c.self.inside.index.links c.self.inside.index.counts c.self.inside.len c.self.invariant (c.args.source.now, c.args.id.now) c.args.self.now c.self.view_is c.remove.ensures.entries c.in-Some.slot (sym c.in-Some.is ∙ c.remove.ensures.value) c.remove-edge.result c.remove-edge.new.self c.leave.new.self.links c.leave.new.self.counts c.remove-edge.ensures.value c.remove-edge.ensures.updates c.leave.ensures.links c.leave.ensures.counts).edges
