use Rattle.std.proofs.Common.{◌∙◌, Some, None, sym, ap}
use Rattle.std.specs.Option.{option_copied}
use Rattle.json_tree.specs.View.{view}
use Rattle.graph_steps.specs.held.Held.{link_of}
use Rattle.query_eval.proofs.values.Led.{led, link_text, link_held}
use Rattle.query_eval.proofs.values.links.along_link.Goals as goal

pub returns-in-Some : goal.returns-in-Some
returns-in-Some c =
    led c.along_text.result _ _
    (link_text (link_of c.args.link.now) c.requires c.args.name.now c.args.rest.now c.as_str.result.now c.in-Some.text.now c.as_str.ensures c.in-Some.ensures)
    c.along_text.ensures

pub returns-in-Some-value_in : goal.returns-in-Some-value_in
returns-in-Some-value_in c =
    c.along_held.ensures
    ∙ link_held (link_of c.args.link.now) c.requires c.args.name.now c.args.rest.now (Some (view c.in-Some-value_in.value.now)) c.as_str-2.result.now c.as_str-2.ensures
    (sym c.text_of.ensures ∙ ap option_copied c.in_default.is) c.in-Some-value_in.ensures

pub returns-in-None : goal.returns-in-None
returns-in-None c =
    link_held (link_of c.args.link.now) c.requires c.args.name.now c.args.rest.now None c.as_str-2.result.now c.as_str-2.ensures
    (sym c.text_of.ensures ∙ ap option_copied c.in_default.is) c.in-None.ensures
