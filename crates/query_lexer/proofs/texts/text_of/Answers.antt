use Rattle.std.proofs.Common.{sym, ap, ◌∙◌}
use Rattle.query_lexer.specs.Machinery.Spans.{quoted_content}
use Rattle.query_lexer.proofs.TextSpans.{quote_cut, text_longest, text_none}
use Rattle.query_lexer.proofs.texts.text_of.Goals as goal

pub split_at-requires : goal.split_at-requires
split_at-requires c = quote_cut c.args.text.now c.utf8.text c.requires

pub returns-in_ok-model-in-Some : goal.returns-in_ok-model-in-Some
returns-in_ok-model-in-Some c =
    let h = c.in_ok-content.ensures in
    let read = rw c.in-Some.is at h in
    let m = c.in_ok-model-in-Some.ensures in
    text_longest c.args.text.now _ _ _ c.requires (ap quoted_content (sym c.split_at.ensures.back) ∙ read) (rw c.as_str.ensures at m)

pub returns-in-None : goal.returns-in-None
returns-in-None c =
    let h = c.in_ok-content.ensures in
    let read = rw c.in-None.is at h in
    text_none c.args.text.now c.requires (ap quoted_content (sym c.split_at.ensures.back) ∙ read)
