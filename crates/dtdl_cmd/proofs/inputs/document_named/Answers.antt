use Rattle.std.proofs.Common.{refl, subst}
use Rattle.dt_base.specs.Files.{Fetches}
use Rattle.dtdl_cmd.proofs.Gathered.{file_too_long}
use Rattle.dtdl_cmd.proofs.inputs.document_named.Goals as goal

pub returns-in-Ok-TooLong-clause-fetched : goal.returns-in-Ok-TooLong-clause-fetched
returns-in-Ok-TooLong-clause-fetched g c =
    let files = g.F.Shelf.files c.args.shelf.now in
    (refl, file_too_long files c.args.name.now c.args.room (subst (Fetches files c.args.name.now c.args.room) c.in-Ok-TooLong.field-0-is c.in-Ok-TooLong.ensures.found))
