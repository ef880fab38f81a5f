use Rattle.std.proofs.Common.{◌∙◌, sym, ap}
use Rattle.std.specs.Option.{option_copied, option_map}
use Rattle.json_tree.specs.View.{view}
use Rattle.dt_base.specs.names.Grammar.{dtmi_text}
use Rattle.graph_asks.specs.declared.refusal.Refusal.TheVariants as refusals
use Rattle.graph_steps.specs.LinkAsks.{RefusesPutRel, link_for}
use Rattle.graph_steps.specs.bodies.Kept.{twin_view}
use Rattle.graph_steps.specs.held.Held.{link_of, state_of}
use Rattle.graph_judges.specs.declared.links.new_link.NewLink.{NewLink}
use Rattle.graph_judges.proofs.links.Glued.{refused_by}
use Rattle.graph_judges.proofs.links.Puts.{key_of, put_judged, source_frozen, source_missing}
use Rattle.graph_judges.proofs.links.Suited.{own_there}
use Rattle.graph_judges.proofs.links.putting.judged_rel.Goals as goal

pub returns-in_default-clause-judged : goal.returns-in_default-clause-judged
returns-in_default-clause-judged c =
    let s = state_of c.args.lent.now in
    refused_by (refusals.TwinNotFound c.args.source.now) (RefusesPutRel s c.args.source.now c.args.id.now c.args.name.now c.args.target.now (view c.args.tree.now))
    (source_missing s c.args.source.now c.args.id.now c.args.name.now c.args.target.now (view c.args.tree.now)
    (sym c.twin.ensures.at ∙ ap (λ o. option_map twin_view (option_copied o)) c.in_default.is)) c.no_twin.result c.no_twin.ensures

pub returns-in_default-interface-clause-judged : goal.returns-in_default-interface-clause-judged
returns-in_default-interface-clause-judged c =
    let s = state_of c.args.lent.now in
    let u = twin_view c.in-Some.twin.now in
    refused_by (refusals.Frozen (dtmi_text u.model)) (RefusesPutRel s c.args.source.now c.args.id.now c.args.name.now c.args.target.now (view c.args.tree.now))
    (source_frozen s c.args.source.now c.args.id.now c.args.name.now c.args.target.now (view c.args.tree.now) u
    (sym c.twin.ensures.at ∙ ap (λ o. option_map twin_view (option_copied o)) c.in-Some.is)
    (sym c.interface.ensures ∙ ap option_copied c.in_default-interface.is)) c.frozen.result c.frozen.ensures

pub judged_from-requires-clause-there : goal.judged_from-requires-clause-there
judged_from-requires-clause-there c = own_there (state_of c.args.lent.now) c.in-Some.twin.now.model c.in-Some-interface.interface.now (sym c.interface.ensures ∙ ap option_copied c.in-Some-interface.is)

pub judged_from-requires-clause-distinct : goal.judged_from-requires-clause-distinct
judged_from-requires-clause-distinct c = c.requires.sound.4.read.distinct

pub returns-clause-judged : goal.returns-clause-judged
returns-clause-judged c =
    put_judged (state_of c.args.lent.now) c.args.source.now c.args.id.now c.args.name.now c.args.target.now (view c.args.tree.now) (twin_view c.in-Some.twin.now)
    (sym c.twin.ensures.at ∙ ap (λ o. option_map twin_view (option_copied o)) c.in-Some.is) c.in-Some-interface.interface.now
    (sym c.interface.ensures ∙ ap option_copied c.in-Some-interface.is) (λ (new : NewLink). link_of new.edge) c.judged_from.result c.judged_from.ensures.judged

pub returns-clause-key : goal.returns-clause-key
returns-clause-key c =
    key_of (λ (new : NewLink). link_of new.edge) (link_for (state_of c.args.lent.now) c.in-Some-interface.interface.now c.args.source.now c.args.id.now c.args.name.now c.args.target.now (view c.args.tree.now)) _ _ c.judged_from.result c.judged_from.ensures.judged
