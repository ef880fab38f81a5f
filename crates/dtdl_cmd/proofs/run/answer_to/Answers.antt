use Rattle.std.proofs.Common.{◌≤◌, map, sym, subst}
use Rattle.std.specs.Prelude.{string_bytes}
use Rattle.std.proofs.lemmas.List.{length-map}
use Rattle.dtdl_cmd.proofs.Ended.{few_documents}
use Rattle.dtdl_cmd.proofs.run.answer_to.Goals as goal

pub answer_to_documents-requires : goal.answer_to_documents-requires
answer_to_documents-requires g c =
    let few = subst (λ n. n ≤ 4096) (sym (length-map c.args.names.now string_bytes)) c.requires.few in
    record {
      few = few_documents
          (record { before = g.S.Source.left c.args.input.now; after = g.S.Source.left c.documents_of.new.input; faults_before = g.S.Source.faults c.args.input.now; faults_after = g.S.Source.faults c.documents_of.new.input })
          (record { before = g.F.Shelf.files c.args.shelf.now; after = g.F.Shelf.files c.documents_of.new.shelf; faults_before = g.F.Shelf.faults c.args.shelf.now; faults_after = g.F.Shelf.faults c.documents_of.new.shelf })
          (map string_bytes c.args.names.now) c.in-Ok.documents c.in-Ok.ensures.gathered.0 few;
    }
