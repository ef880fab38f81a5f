use Rattle.std.proofs.Common.{◌↔◌, List, map, sym, ap, ◌∙◌, subst}
use Rattle.std.specs.Prelude.{Contains}
use Rattle.std.specs.List.{sum_by}
use Rattle.dtdl_terms.specs.declared.interface.Interface.{Interface}
use Rattle.model_life.specs.resolution.Machinery.Families.{IsThere}
use Rattle.extend_resolve.specs.Chains.{IsAncestor}
use Rattle.model_life.proofs.resolution.Assembly.{parts_there}
use Rattle.model_life.specs.Machinery.Keeping.{capped, line_of}
use Rattle.model_life.specs.resolution.Machinery.Reaching.{parts_in}
use Rattle.model_life.proofs.Summing.{capped_both}
use Rattle.model_life.proofs.Taking.{line_recorded, lines_found, found_line, found_parts}
use Rattle.model_life.proofs.sums.share.Goals as goal

pub lines_bytes-requires-clause-there : goal.lines_bytes-requires-clause-there
lines_bytes-requires-clause-there c =
    let set : List Interface = c.args.set.now in
    let i : Interface = c.args.interface.now in
    let ups : (a : Interface) → Contains (map (λ x. x.now) c.as_slice-2.result.now) a ↔ IsAncestor set i a =
    subst (λ xs. (a : Interface) → Contains (map (λ x. x.now) xs) a ↔ IsAncestor set i a) (sym c.as_slice-2.ensures.value) c.in_ok-ancestors.ensures.each in
    subst (λ xs. (q : Interface) → Contains (map (λ x. x.now) xs) q → IsThere set q) (sym c.as_slice-3.ensures.value)
    (parts_there set i (map (λ x. x.now) c.in_ok-parts.parts.items) (c.in_ok-parts.ensures.each i ups))

pub returns : goal.returns
returns c =
    let set : List Interface = c.args.set.now in
    let i : Interface = c.args.interface.now in
    let ups : (a : Interface) → Contains (map (λ x. x.now) c.as_slice-2.result.now) a ↔ IsAncestor set i a =
    subst (λ xs. (a : Interface) → Contains (map (λ x. x.now) xs) a ↔ IsAncestor set i a) (sym c.as_slice-2.ensures.value) c.in_ok-ancestors.ensures.each in
    capped_both (line_of set i) (sum_by (line_of set) (parts_in set i)) c.text_bytes-own.result c.in_ok-others.others c.saturating_add.result
    (c.text_bytes-own.ensures
    ∙ ap capped
    (line_recorded set c.args.records.now c.requires.records i c.as_slice.result.now
    (found_line set c.requires.sound c.requires.ordered i c.requires.there c.as_slice.result.now c.in_ok-ancestors.ancestors.items c.as_slice.ensures.value c.in_ok-ancestors.ensures.each c.in_ok-ancestors.ensures.ordered)))
    (c.in_ok-others.ensures
    ∙ ap capped
    (lines_found set i c.as_slice-3.result.now
    (found_parts set c.requires.sound c.requires.ordered i c.requires.there c.as_slice-3.result.now c.in_ok-parts.parts.items c.as_slice-3.ensures.value (c.in_ok-parts.ensures.each i ups) c.in_ok-parts.ensures.ordered)))
    c.saturating_add.ensures
