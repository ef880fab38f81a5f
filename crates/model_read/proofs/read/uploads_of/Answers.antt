use Rattle.std.proofs.Common.{refl, sym, subst}
use Rattle.json_tree.specs.Values.{Json}
use Rattle.json_tree.specs.View.{view}
use Rattle.json_tree.specs.Places.{IsPart}
use Rattle.model_read.specs.Machinery.Shapes.{IsValidInterface}
use Rattle.json_tree.proofs.Parts.{item_part}
use Rattle.model_read.specs.Uploads.{IsUploadedAt}
use Rattle.model_read.proofs.Grown.{counted_step}
use Rattle.model_read.proofs.Readings.{each}
use Rattle.model_read.proofs.read.uploads_of.Goals as goal

pub uploaded_at-requires-clause-valid : goal.uploaded_at-requires-clause-valid
uploaded_at-requires-clause-valid c =
    each IsValidInterface c.args.entries.now c.loop-at.at c.index-entries-at.result c.requires.valid c.loop-at-test.true c.index-entries-at.is

pub uploaded_at-requires-clause-placed : goal.uploaded_at-requires-clause-placed
uploaded_at-requires-clause-placed c =
    let part = item_part c.args.entries.now c.loop-at.at c.index-entries-at.result c.loop-at-test.true c.index-entries-at.is in
    (view c.index-entries-at.result, subst (λ (v : Json). IsPart v c.loop-at.at (view c.index-entries-at.result)) (sym c.requires.whole) part, refl)

pub loop-at-preserved : goal.loop-at-preserved
loop-at-preserved c = rw c.in_ok-push.ensures.items
    (counted_step (IsUploadedAt (view c.args.whole.now) c.args.document) c.args.entries.now c.loop-at.at c.index-entries-at.result c.loop-at.uploads.items
    c.in_ok-uploaded_at.field-0 c.loop-at-test.true c.index-entries-at.is c.loop-at.invariant c.in_ok-uploaded_at.ensures)
