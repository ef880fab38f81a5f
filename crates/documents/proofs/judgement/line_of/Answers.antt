use Rattle.std.proofs.Common.{◌≡◌, ◌++◌, length, refl}
use Rattle.std.proofs.lemmas.Option.{slice_get_read}
use Rattle.json_read.proofs.Pointed.{if_ok}
use Rattle.dtdl_terms.specs.Spots.{spot_text}
use Rattle.extend_resolve.specs.Breaches.{set_rule_code}
use Rattle.documents.specs.Lines.{pointer_line}
use Rattle.documents.proofs.judgement.line_of.Goals as goal

pub returns : goal.returns
returns c =
    let u = c.index-uploads-index.result in
    let at = slice_get_read c.args.uploads.now (length c.args.uploads.now) c.args.index u refl c.requires.within c.index-uploads-index.is in
    if_ok c.set_line.result (λ line. line ≡ pointer_line u.document (u.base ++ spot_text u.parents_as_text c.args.spot.now) (set_rule_code c.args.rule)) _
    (λ line same. (u, at, same)) c.set_line.ensures
