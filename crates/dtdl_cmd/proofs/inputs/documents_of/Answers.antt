use Rattle.dtdl_cmd.proofs.Gathered.{shelf_gathered, some_names}
use Rattle.dtdl_cmd.proofs.inputs.documents_of.Goals as goal

pub returns-else-is_empty-clause-gathered : goal.returns-else-is_empty-clause-gathered
returns-else-is_empty-clause-gathered g c =
    let left = g.S.Source.left c.args.input.now in
    let faults = g.S.Source.faults c.args.input.now in
    shelf_gathered (record { before = left; after = left; faults_before = faults; faults_after = faults })
    (record {
      before = g.F.Shelf.files c.args.shelf.now;
      after = g.F.Shelf.files c.documents_named.new.shelf;
      faults_before = g.F.Shelf.faults c.args.shelf.now;
      faults_after = g.F.Shelf.faults c.documents_named.new.shelf;
    })
    c.args.names.now c.documents_named.result (some_names c.args.names.now c.if-is_empty.ensures) c.documents_named.ensures.gathered
