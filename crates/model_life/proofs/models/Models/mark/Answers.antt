use Rattle.std.proofs.Common.{refl, ap, ◌∙◌}
use Rattle.std.specs.Prelude.{IsSome}
use Rattle.std.specs.Option.{is_some}
use Rattle.dtdl_terms.specs.Sets.{interface_at}
use Rattle.model_life.specs.Models.{with_mark}
use Rattle.model_life.specs.Machinery.Keeping.{IsKept}
use Rattle.model_life.specs.declared.records.Record.{Record}
use Rattle.model_life.proofs.Seen.{found_none, found_some, seen_none, seen_some, record_there, marked_at, marked_seen, marked_fits, record_at_text}
use Rattle.model_life.proofs.models.Models.mark.Goals as goal

pub returns-then-is_none-clause-end : goal.returns-then-is_none-clause-end
returns-then-is_none-clause-end c =
    seen_none c.args.id.now c.self.inside.set c.self.inside.records c.args.self.now c.self.view_is
    (found_none c.get.result (interface_at c.args.id.now c.self.inside.set) c.is_none.result c.is_none.ensures c.if-is_none.true c.get.ensures)

pub returns-clause-end : goal.returns-clause-end
returns-clause-end c =
    seen_some c.args.id.now c.self.inside.set c.self.inside.records c.args.self.now c.self.view_is
    (found_some c.get.result (interface_at c.args.id.now c.self.inside.set) c.is_none.result c.is_none.ensures c.if-is_none.false c.get.ensures)

pub invariant_of-self : goal.invariant_of-self
invariant_of-self c =
    let some : IsSome (interface_at c.args.id.now c.self.inside.set) = found_some c.get.result (interface_at c.args.id.now c.self.inside.set) c.is_none.result c.is_none.ensures c.if-is_none.false c.get.ensures in
    let kept : IsKept c.self.inside.set c.self.inside.records c.self.inside.users c.self.inside.shares c.self.inside.bytes c.self.inside.resolved = c.self.invariant in
    let one = record_there c.self.inside.set c.self.inside.records c.self.inside.users c.args.id.now kept.fits some in
    let old : Record = one.0 in
    let new : Record = record old { decommissioned = c.args.on } in
    record {
      rules = kept.rules;
      ordered = kept.ordered;
      declared = kept.declared;
      fits = marked_fits c.self.inside.set c.self.inside.records c.mark.new.self c.self.inside.users c.args.id.now old new refl refl one.1
          (marked_at c.args.id.now c.self.inside.records c.mark.new.self new (ap is_some one.1) (c.mark.ensures.some old one.1)) (record_at_text c.args.id.now c.self.inside.records) kept.fits;
      written = kept.written;
      sum = kept.sum;
      total = kept.total;
      few = kept.few;
      small = kept.small;
      bounded = kept.bounded;
    }

pub returns-clause-ok : goal.returns-clause-ok
returns-clause-ok c =
    let some : IsSome (interface_at c.args.id.now c.self.inside.set) = found_some c.get.result (interface_at c.args.id.now c.self.inside.set) c.is_none.result c.is_none.ensures c.if-is_none.false c.get.ensures in
    let kept : IsKept c.self.inside.set c.self.inside.records c.self.inside.users c.self.inside.shares c.self.inside.bytes c.self.inside.resolved = c.self.invariant in
    let one = record_there c.self.inside.set c.self.inside.records c.self.inside.users c.args.id.now kept.fits some in
    let old : Record = one.0 in
    let new : Record = record old { decommissioned = c.args.on } in
    marked_seen c.args.id.now c.args.on c.self.inside.set c.self.inside.records c.mark.new.self new refl (marked_at c.args.id.now c.self.inside.records c.mark.new.self new (ap is_some one.1) (c.mark.ensures.some old one.1))
    ∙ ap (with_mark c.args.id.now c.args.on) c.self.view_is
