use Rattle.std.proofs.Common.{Some, sym, ap, ◌∙◌}
use Rattle.rel_graph.proofs.Leaves.{kept-room, kept-back, left-new, left-over, has_place, has_link}
use Rattle.rel_graph.proofs.rels.Rels.put.Goals as goal

pub invariant_of-self : goal.invariant_of-self
invariant_of-self g c = kept-room c.self.inside.edges c.reserve.new.self c.reserve.new.self.capacity c.self.inside.order c.self.inside.index.links c.self.inside.index.counts c.self.inside.len c.self.invariant c.reserve.ensures.rest_kept

pub invariant_of-self-in-Ok-None : goal.invariant_of-self-in-Ok-None
invariant_of-self-in-Ok-None g c = (left-new c.self.inside.edges c.reserve.new.self c.insert_reserved-slot.new.self c.reserve.new.self.capacity c.self.inside.order c.insert.new.self c.self.inside.index.links c.enter.new.self.links c.self.inside.index.counts c.enter.new.self.counts c.self.inside.len c.self.invariant
    c.args.edge c.in-Ok.id c.vacant_key-slot.result c.insert_reserved-slot.result c.args.self.now c.self.view_is c.reserve.ensures.rest_kept c.vacant_key-slot.ensures.vacant (c.insert_reserved-slot.ensures.key ∙ sym c.vacant_key-slot.ensures.value) c.insert_reserved-slot.ensures.updates
    c.in-Ok.ensures c.in-Ok-None.ensures.ok c.in-Ok-enter.ensures.links c.in-Ok-enter.ensures.counts (sym c.in-Ok-None.field-0-is ∙ c.in-Ok-None.ensures.old)).kept

pub returns-in-Ok-None-clause-old : goal.returns-in-Ok-None-clause-old
returns-in-Ok-None-clause-old g c = (left-new c.self.inside.edges c.reserve.new.self c.insert_reserved-slot.new.self c.reserve.new.self.capacity c.self.inside.order c.insert.new.self c.self.inside.index.links c.enter.new.self.links c.self.inside.index.counts c.enter.new.self.counts c.self.inside.len c.self.invariant
    c.args.edge c.in-Ok.id c.vacant_key-slot.result c.insert_reserved-slot.result c.args.self.now c.self.view_is c.reserve.ensures.rest_kept c.vacant_key-slot.ensures.vacant (c.insert_reserved-slot.ensures.key ∙ sym c.vacant_key-slot.ensures.value) c.insert_reserved-slot.ensures.updates
    c.in-Ok.ensures c.in-Ok-None.ensures.ok c.in-Ok-enter.ensures.links c.in-Ok-enter.ensures.counts (sym c.in-Ok-None.field-0-is ∙ c.in-Ok-None.ensures.old)).gives

pub returns-in-Ok-None-clause-ok : goal.returns-in-Ok-None-clause-ok
returns-in-Ok-None-clause-ok g c = (left-new c.self.inside.edges c.reserve.new.self c.insert_reserved-slot.new.self c.reserve.new.self.capacity c.self.inside.order c.insert.new.self c.self.inside.index.links c.enter.new.self.links c.self.inside.index.counts c.enter.new.self.counts c.self.inside.len c.self.invariant
    c.args.edge c.in-Ok.id c.vacant_key-slot.result c.insert_reserved-slot.result c.args.self.now c.self.view_is c.reserve.ensures.rest_kept c.vacant_key-slot.ensures.vacant (c.insert_reserved-slot.ensures.key ∙ sym c.vacant_key-slot.ensures.value) c.insert_reserved-slot.ensures.updates
    c.in-Ok.ensures c.in-Ok-None.ensures.ok c.in-Ok-enter.ensures.links c.in-Ok-enter.ensures.counts (sym c.in-Ok-None.field-0-is ∙ c.in-Ok-None.ensures.old)).edges

pub remove-old-requires : goal.remove-old-requires
remove-old-requires g c = has_place c.self.inside.edges c.reserve.new.self c.insert_reserved-slot-in-Ok-Some.new.self c.reserve.new.self.capacity c.self.inside.order c.insert.new.self c.self.inside.index.links c.enter.new.self.links c.self.inside.index.counts c.enter.new.self.counts c.self.inside.len c.self.invariant
    c.args.edge c.in-Ok.id c.vacant_key-slot.result c.insert_reserved-slot-in-Ok-Some.result c.args.self.now c.self.view_is c.reserve.ensures.rest_kept c.vacant_key-slot.ensures.vacant (c.insert_reserved-slot-in-Ok-Some.ensures.key ∙ sym c.vacant_key-slot.ensures.value) c.insert_reserved-slot-in-Ok-Some.ensures.updates
    c.in-Ok.ensures c.in-Ok-Some.ensures.ok c.in-Ok-enter.ensures.links c.in-Ok-enter.ensures.counts c.in-Ok-Some.place (sym c.in-Ok-Some.field-0-is ∙ c.in-Ok-Some.ensures.old)

pub leave-requires : goal.leave-requires
leave-requires g c = λ _. has_link c.self.inside.edges c.reserve.new.self c.insert_reserved-slot-in-Ok-Some.new.self c.reserve.new.self.capacity c.self.inside.order c.insert.new.self c.self.inside.index.links c.enter.new.self.links c.self.inside.index.counts c.enter.new.self.counts c.self.inside.len c.self.invariant
    c.args.edge c.in-Ok.id c.vacant_key-slot.result c.insert_reserved-slot-in-Ok-Some.result c.args.self.now c.self.view_is c.reserve.ensures.rest_kept c.vacant_key-slot.ensures.vacant (c.insert_reserved-slot-in-Ok-Some.ensures.key ∙ sym c.vacant_key-slot.ensures.value) c.insert_reserved-slot-in-Ok-Some.ensures.updates
    c.in-Ok.ensures c.in-Ok-Some.ensures.ok c.in-Ok-enter.ensures.links c.in-Ok-enter.ensures.counts c.in-Ok-Some.place (sym c.in-Ok-Some.field-0-is ∙ c.in-Ok-Some.ensures.old) c.remove-old.result c.remove-old.ensures.value

pub invariant_of-self-in-Ok-Some : goal.invariant_of-self-in-Ok-Some
invariant_of-self-in-Ok-Some g c = (left-over c.self.inside.edges c.reserve.new.self c.insert_reserved-slot-in-Ok-Some.new.self c.reserve.new.self.capacity c.self.inside.order c.insert.new.self c.self.inside.index.links c.enter.new.self.links c.self.inside.index.counts c.enter.new.self.counts c.self.inside.len c.self.invariant
    c.args.edge c.in-Ok.id c.vacant_key-slot.result c.insert_reserved-slot-in-Ok-Some.result c.args.self.now c.self.view_is c.reserve.ensures.rest_kept c.vacant_key-slot.ensures.vacant (c.insert_reserved-slot-in-Ok-Some.ensures.key ∙ sym c.vacant_key-slot.ensures.value) c.insert_reserved-slot-in-Ok-Some.ensures.updates
    c.in-Ok.ensures c.in-Ok-Some.ensures.ok c.in-Ok-enter.ensures.links c.in-Ok-enter.ensures.counts c.in-Ok-Some.place (sym c.in-Ok-Some.field-0-is ∙ c.in-Ok-Some.ensures.old) c.remove-old.result c.remove-old.ensures.value c.remove-old.new.self c.remove-old.ensures.updates c.in-Ok-enter.link c.and-kept.result c.leave.new.self.links c.leave.new.self.counts c.in-Ok-enter.ensures.old c.and-kept.ensures c.leave.ensures.links c.leave.ensures.counts).kept

pub returns-in-Ok-Some-clause-old : goal.returns-in-Ok-Some-clause-old
returns-in-Ok-Some-clause-old g c = ap (λ e. Some e) c.leave.ensures.same ∙ (left-over c.self.inside.edges c.reserve.new.self c.insert_reserved-slot-in-Ok-Some.new.self c.reserve.new.self.capacity c.self.inside.order c.insert.new.self c.self.inside.index.links c.enter.new.self.links c.self.inside.index.counts c.enter.new.self.counts c.self.inside.len c.self.invariant
    c.args.edge c.in-Ok.id c.vacant_key-slot.result c.insert_reserved-slot-in-Ok-Some.result c.args.self.now c.self.view_is c.reserve.ensures.rest_kept c.vacant_key-slot.ensures.vacant (c.insert_reserved-slot-in-Ok-Some.ensures.key ∙ sym c.vacant_key-slot.ensures.value) c.insert_reserved-slot-in-Ok-Some.ensures.updates
    c.in-Ok.ensures c.in-Ok-Some.ensures.ok c.in-Ok-enter.ensures.links c.in-Ok-enter.ensures.counts c.in-Ok-Some.place (sym c.in-Ok-Some.field-0-is ∙ c.in-Ok-Some.ensures.old) c.remove-old.result c.remove-old.ensures.value c.remove-old.new.self c.remove-old.ensures.updates c.in-Ok-enter.link c.and-kept.result c.leave.new.self.links c.leave.new.self.counts c.in-Ok-enter.ensures.old c.and-kept.ensures c.leave.ensures.links c.leave.ensures.counts).gives

pub returns-in-Ok-Some-clause-ok : goal.returns-in-Ok-Some-clause-ok
returns-in-Ok-Some-clause-ok g c = (left-over c.self.inside.edges c.reserve.new.self c.insert_reserved-slot-in-Ok-Some.new.self c.reserve.new.self.capacity c.self.inside.order c.insert.new.self c.self.inside.index.links c.enter.new.self.links c.self.inside.index.counts c.enter.new.self.counts c.self.inside.len c.self.invariant
    c.args.edge c.in-Ok.id c.vacant_key-slot.result c.insert_reserved-slot-in-Ok-Some.result c.args.self.now c.self.view_is c.reserve.ensures.rest_kept c.vacant_key-slot.ensures.vacant (c.insert_reserved-slot-in-Ok-Some.ensures.key ∙ sym c.vacant_key-slot.ensures.value) c.insert_reserved-slot-in-Ok-Some.ensures.updates
    c.in-Ok.ensures c.in-Ok-Some.ensures.ok c.in-Ok-enter.ensures.links c.in-Ok-enter.ensures.counts c.in-Ok-Some.place (sym c.in-Ok-Some.field-0-is ∙ c.in-Ok-Some.ensures.old) c.remove-old.result c.remove-old.ensures.value c.remove-old.new.self c.remove-old.ensures.updates c.in-Ok-enter.link c.and-kept.result c.leave.new.self.links c.leave.new.self.counts c.in-Ok-enter.ensures.old c.and-kept.ensures c.leave.ensures.links c.leave.ensures.counts).edges

pub invariant_of-self-in-Err : goal.invariant_of-self-in-Err
invariant_of-self-in-Err g c =
    kept-back c.self.inside.edges c.reserve.new.self c.reserve.new.self.capacity c.self.inside.order c.insert.new.self c.self.inside.index.links c.enter.new.self.links c.leave-in-Err.new.self.links c.self.inside.index.counts c.enter.new.self.counts c.leave-in-Err.new.self.counts c.self.inside.len
    c.self.invariant c.reserve.ensures.rest_kept c.in-Err.ensures.err c.args.edge c.vacant_key-slot.result c.in-Ok-enter.link c.in-Ok-enter.ensures.old c.in-Ok-enter.ensures.links c.in-Ok-enter.ensures.counts c.leave-in-Err.ensures.links c.leave-in-Err.ensures.counts

pub invariant_of-self-in-Err-2 : goal.invariant_of-self-in-Err-2
invariant_of-self-in-Err-2 g c =
    kept-back c.self.inside.edges c.reserve.new.self c.reserve.new.self.capacity c.self.inside.order c.insert.new.self c.self.inside.index.links c.enter.new.self.links c.leave-in-Err.new.self.links c.self.inside.index.counts c.enter.new.self.counts c.leave-in-Err.new.self.counts c.self.inside.len
    c.self.invariant c.reserve.ensures.rest_kept c.in-Err.ensures.err c.args.edge c.vacant_key-slot.result c.in-Ok-enter.link c.in-Ok-enter.ensures.old c.in-Ok-enter.ensures.links c.in-Ok-enter.ensures.counts c.leave-in-Err.ensures.links c.leave-in-Err.ensures.counts
