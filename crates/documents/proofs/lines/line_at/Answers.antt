use Rattle.std.proofs.Common.{◌≡◌}
use Rattle.json_read.proofs.Pointed.{if_ok}
use Rattle.documents.specs.Lines.{IsPlaceLine, pointer_line}
use Rattle.documents.proofs.lines.line_at.Goals as goal

pub returns : goal.returns
returns c =
    let r = c.in_ok-pointer.ensures in
    if_ok c.refused_line.result (λ line. line ≡ pointer_line c.args.number c.in_ok-pointer.pointer.text c.args.code.now) (IsPlaceLine c.args.number c.args.bytes.now c.args.place.now c.args.code.now)
    (λ line same. (r.0, c.in_ok-pointer.pointer.text, r.1, r.2, same)) c.refused_line.ensures
