use Rattle.std.proofs.Common.{sym, ap, ◌∙◌, subst}
use Rattle.std.specs.Str.{IsUtf8}
use Rattle.percent_encoding.specs.Percent.{percent_decode}
use Rattle.graph_routes.proofs.Names.{name_utf8}
use Rattle.graph_routes.proofs.parts.component_named.Goals as goal

pub returns-in-Err-Utf8 : goal.returns-in-Err-Utf8
returns-in-Err-Utf8 c = λ name h.
    let memory = c.in-Err-Utf8.ensures.utf8 (subst IsUtf8 (sym (c.percent_decode.ensures.bytes ∙ ap percent_decode c.as_bytes.ensures.value ∙ h.decoded)) (name_utf8 name h.grammar)) in
    let other = c.in-Err-Utf8.field-0-is in
    cc
