use Rattle.std.proofs.Common.{◌∙◌, IfSome, sym, ap, subst}
use Rattle.std.specs.Option.{option_copied, option_map}
use Rattle.twin_patch.specs.Operations.{operations_of}
use Rattle.twin_patch.specs.Patched.{patched_from}
use Rattle.twin_patch.specs.declared.entry.PatchOf.TheVariants as patches
use Rattle.dt_base.specs.names.Grammar.{dtmi_text}
use Rattle.graph_asks.specs.declared.refusal.Refusal.TheVariants as refusals
use Rattle.graph_steps.specs.LinkAsks.{RefusesPatchRel}
use Rattle.graph_steps.specs.States.{link_value}
use Rattle.graph_steps.specs.bodies.Kept.{twin_view, IsKeptLink}
use Rattle.graph_steps.specs.held.Held.{link_of, state_of}
use Rattle.graph_judges.specs.declared.links.new_link.NewLink.{NewLink}
use Rattle.graph_judges.proofs.links.Glued.{refused_by}
use Rattle.graph_judges.proofs.links.Patches.{key_patched, link_missing, patch_judged, source_frozen, source_missing}
use Rattle.graph_judges.proofs.links.Suited.{own_there}
use Rattle.graph_judges.proofs.links.patching.judged_rel_patch.Goals as goal

pub returns-in_default-clause-judged : goal.returns-in_default-clause-judged
returns-in_default-clause-judged c =
    let s = state_of c.args.lent.now in
    let os = operations_of c.args.patch.now.ops in
    refused_by (refusals.TwinNotFound c.args.source.now) (RefusesPatchRel s c.args.source.now c.args.id.now os)
    (source_missing s c.args.source.now c.args.id.now os (sym c.twin.ensures.at ∙ ap (λ o. option_map twin_view (option_copied o)) c.in_default.is)) c.no_twin.result c.no_twin.ensures

pub returns-in_default-link-clause-judged : goal.returns-in_default-link-clause-judged
returns-in_default-link-clause-judged c =
    let s = state_of c.args.lent.now in
    let os = operations_of c.args.patch.now.ops in
    refused_by (refusals.RelationshipNotFound c.args.id.now) (RefusesPatchRel s c.args.source.now c.args.id.now os)
    (link_missing s c.args.source.now c.args.id.now os (twin_view c.in-Some.twin.now) (sym c.twin.ensures.at ∙ ap (λ o. option_map twin_view (option_copied o)) c.in-Some.is)
    (sym c.link.ensures.at ∙ ap (λ o. option_map link_of (option_copied o)) c.in_default-link.is)) c.no_link.result c.no_link.ensures

pub returns-in_default-interface-clause-judged : goal.returns-in_default-interface-clause-judged
returns-in_default-interface-clause-judged c =
    let s = state_of c.args.lent.now in
    let u = twin_view c.in-Some.twin.now in
    let os = operations_of c.args.patch.now.ops in
    refused_by (refusals.Frozen (dtmi_text u.model)) (RefusesPatchRel s c.args.source.now c.args.id.now os)
    (source_frozen s c.args.source.now c.args.id.now os u (sym c.twin.ensures.at ∙ ap (λ o. option_map twin_view (option_copied o)) c.in-Some.is)
    (link_of c.in-Some-link.link.now) (sym c.link.ensures.at ∙ ap (λ o. option_map link_of (option_copied o)) c.in-Some-link.is)
    (sym c.interface.ensures ∙ ap option_copied c.in_default-interface.is)) c.frozen.result c.frozen.ensures

pub patched_link-requires-clause-there : goal.patched_link-requires-clause-there
patched_link-requires-clause-there c = own_there (state_of c.args.lent.now) c.in-Some.twin.now.model c.in-Some-interface.interface.now (sym c.interface.ensures ∙ ap option_copied c.in-Some-interface.is)

pub patched_link-requires-clause-kept : goal.patched_link-requires-clause-kept
patched_link-requires-clause-kept c = subst (λ o. IfSome (option_copied o) (λ e. IsKeptLink (link_of e))) c.in-Some-link.is c.link.ensures.kept

pub patched_link-requires-clause-read : goal.patched_link-requires-clause-read
patched_link-requires-clause-read c = (patches.Rel, c.requires.sound.2)

pub returns-clause-judged : goal.returns-clause-judged
returns-clause-judged c =
    patch_judged (state_of c.args.lent.now) c.args.source.now c.args.id.now (operations_of c.args.patch.now.ops) (twin_view c.in-Some.twin.now)
    (sym c.twin.ensures.at ∙ ap (λ o. option_map twin_view (option_copied o)) c.in-Some.is)
    (link_of c.in-Some-link.link.now) (sym c.link.ensures.at ∙ ap (λ o. option_map link_of (option_copied o)) c.in-Some-link.is)
    c.in-Some-interface.interface.now (sym c.interface.ensures ∙ ap option_copied c.in-Some-interface.is) (λ (new : NewLink). link_of new.edge) c.patched_link.result c.patched_link.ensures.judged

pub returns-clause-key : goal.returns-clause-key
returns-clause-key c =
    let l = link_of c.in-Some-link.link.now in
    key_patched (state_of c.args.lent.now) c.in-Some-interface.interface.now l (patched_from 0 (operations_of c.args.patch.now.ops) (link_value l)) (λ (new : NewLink). link_of new.edge) _ _ c.patched_link.result c.patched_link.ensures.judged
    c.args.source.now c.args.id.now (sym c.link.ensures.at ∙ ap (λ o. option_map link_of (option_copied o)) c.in-Some-link.is)
