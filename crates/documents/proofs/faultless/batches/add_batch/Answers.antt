use Rattle.std.proofs.Common.{◌<◌, ◌^◌, List, length, arith}
use Rattle.dtdl_terms.specs.declared.uploaded.Uploaded.{Uploaded}
use Rattle.documents.proofs.faultless.Numbered.{few_put}
use Rattle.documents.proofs.faultless.Whole.{read_more}
use Rattle.documents.proofs.faultless.batches.add_batch.Goals as goal

pub returns : goal.returns
returns c = λ text document before vs read batch.
    let us : List Uploaded = c.args.uploads.now.items in
    let put = c.in_ok-put_behind.ensures in
    let size = c.put_behind.new.uploads.ok in
    let room = c.put_behind.new.uploads.small in
    let small : length c.put_behind.new.uploads.items < 2 ^ 64 = omega (arith, size.0, size.1, room) in
    rw put (read_more text document before vs us c.args.more (few_put us c.args.more c.put_behind.new.uploads.items put small) read batch)
