use Rattle.std.proofs.Common.{◌≡◌, ◌<◌, length, sym, ap, ◌∙◌, arith, refl, suc, subst}
use Rattle.std.proofs.lemmas.List.{length-map}
use Rattle.json_tree.specs.Values.{Json}
use Rattle.local_faults.specs.Machinery.Measured.{IsMeasure}
use Rattle.json_tree.specs.View.{view, members_view}
use Rattle.local_faults.specs.Machinery.Named.{schema_entries}
use Rattle.local_faults.proofs.Tabled.{mixed_first, mixed_right, mixed_more, mixed_last, entry_object}
use Rattle.local_faults.proofs.rounds.round.Goals as goal

pub loop-at-init : goal.loop-at-init
loop-at-init c = record {
  right = λ n all. mixed_first (members_view c.args.names.now) n c.args.table.now all;
  same = λ still. refl;
}

pub loop-at-preserved : goal.loop-at-preserved
loop-at-preserved c =
    let ms = members_view c.args.names.now in
    let at = c.loop-at.at in
    let within : at < length c.loop-at.table = omega (arith, c.loop-at-test.true, c.requires.sized) in
    record {
      right = λ n all.
          let mixed = c.loop-at.invariant.right n all in
          mixed_more ms n at c.loop-at.table c.put-changed.new.table c.measure_of-measure.result within c.put-changed.ensures.after
          (λ os e.
          let is = entry_object (schema_entries ms) c.args.entries.now at c.index-entries-at.result os c.requires.entries c.loop-at-test.true c.index-entries-at.is e in
          let P : Json → Type 0 = λ v. IsMeasure ms (suc n) v c.measure_of-measure.result in
          subst P is (c.measure_of-measure.ensures.whole n os (mixed_right ms n at c.loop-at.table mixed) is))
          mixed;
      same = λ still. let s = c.put-changed.ensures.same still in s.1 ∙ c.loop-at.invariant.same s.0;
    }

pub returns-clause-right : goal.returns-clause-right
returns-clause-right c = λ n all.
    let ms = members_view c.args.names.now in
    let size : length (schema_entries ms) ≡ length c.args.entries.now = ap length (sym c.requires.entries) ∙ length-map c.args.entries.now view in
    mixed_last ms n c.loop-at.at c.loop-at.table (omega (arith, size, c.loop-at-test.false)) (c.loop-at.invariant.right n all)
