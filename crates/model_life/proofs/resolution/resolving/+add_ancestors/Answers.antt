use Rattle.std.proofs.Common.{◌≡◌, ◌<◌, ◌≤◌, None, Some, length, slice_index_or, refl, sym, ap, ◌∙◌, subst, arith}
use Rattle.std.specs.Option.{option_copied}
use Rattle.dt_base.specs.names.Grammar.{Identifier}
use Rattle.dtdl_terms.specs.Sets.{interface_at}
use Rattle.dtdl_terms.specs.declared.interface.Interface.{Interface}
use Rattle.extend_resolve.specs.Chains.{IsParent}
use Rattle.model_life.specs.resolution.Machinery.Families.{GrowsFamily, IsFoundFor}
use Rattle.model_life.proofs.resolution.Families.{found_already, named_parent, short_parent, stands, grows_parent, parents_more, parents_found, parent_none, parent_some, found_kept, put_grows, put_here}
use Rattle.model_life.proofs.resolution.resolving.+add_ancestors.Goals.{in-Some+in_ok-add_ancestors, in_default}
use Rattle.model_life.proofs.resolution.resolving.+add_ancestors.Goals as goal

pub returns-then-has-clause-here : goal.returns-then-has-clause-here
returns-then-has-clause-here t c =
    found_already c.args.set.now c.args.found.now c.requires.family c.args.interface.now c.requires.there (sym c.has.ensures ∙ c.if-has.true)

pub overflow_sub-steps : goal.overflow_sub-steps
overflow_sub-steps t c =
    let step : IsParent c.args.set.now c.args.interface.now c.in-Some.parent.now =
    named_parent c.args.set.now c.args.interface.now c.as_slice-parent-items.result.now c.parents.parent-index c.parent-item.result c.in-Some.parent.now
    (omega (arith, c.parents-test.true)) c.parent-item.is c.as_slice-parent-items.ensures (sym c.get.ensures ∙ ap option_copied c.in-Some.is) in
    (short_parent c.args.set.now c.args.steps c.args.interface.now c.in-Some.parent.now step c.requires.short).0

pub add_ancestors-requires : goal.add_ancestors-requires
add_ancestors-requires t c =
    let found : interface_at c.parent-item.result c.args.set.now ≡ Some c.in-Some.parent.now = sym c.get.ensures ∙ ap option_copied c.in-Some.is in
    let step : IsParent c.args.set.now c.args.interface.now c.in-Some.parent.now =
    named_parent c.args.set.now c.args.interface.now c.as_slice-parent-items.result.now c.parents.parent-index c.parent-item.result c.in-Some.parent.now
    (omega (arith, c.parents-test.true)) c.parent-item.is c.as_slice-parent-items.ensures found in
    let less = short_parent c.args.set.now c.args.steps c.args.interface.now c.in-Some.parent.now step c.requires.short in
    let some : 1 ≤ c.args.steps = less.0 in
    (omega (arith, c.decreases, some), (stands c.args.set.now c.parent-item.result c.in-Some.parent.now found, (less.1, c.parents.invariant.grows.family)))

pub parents-preserved : goal.parents-preserved
parents-preserved t c =
    let n = c.parents.parent-index in
    let p : Identifier = c.parent-item.result in
    let same : c.as_slice-parent-items.result.now ≡ c.args.interface.now.parents = c.as_slice-parent-items.ensures in
    let short : c.parents.parent-index < length c.as_slice-parent-items.result.now = omega (arith, c.parents-test.true) in
    let low : c.parents.parent-index < length c.args.interface.now.parents = subst (λ ps. c.parents.parent-index < length ps) same short in
    let is : p ≡ slice_index_or c.args.interface.now.parents c.parents.parent-index p = c.parent-item.is ∙ ap (λ ps. slice_index_or ps c.parents.parent-index p) same in
    elim c.match-get.branch [
      | in-Some+in_ok-add_ancestors w ↦
          let j : Interface = w.in-Some.parent.now in
          let found : interface_at p c.args.set.now ≡ Some j = sym c.get.ensures ∙ ap option_copied w.in-Some.is in
          let step : IsParent c.args.set.now c.args.interface.now j = named_parent c.args.set.now c.args.interface.now c.args.interface.now.parents n p j low is refl found in
          let g : GrowsFamily c.args.set.now j c.parents.found w.add_ancestors.new.found = w.in_ok-add_ancestors.ensures.grows in
          record {
            grows = subst (GrowsFamily c.args.set.now c.args.interface.now c.args.found.now) (sym w.found-is) (grows_parent c.args.set.now c.args.interface.now j c.args.found.now c.parents.found w.add_ancestors.new.found step c.parents.invariant.grows g);
            parents = λ q at. subst (λ f. IsFoundFor c.args.set.now f q) (sym w.found-is)
                (parents_more c.args.set.now w.add_ancestors.new.found c.args.interface.now.parents n p low is
                (λ o so. found_kept c.args.set.now c.parents.found w.add_ancestors.new.found j o g (c.parents.invariant.parents o so))
                (parent_some c.args.set.now w.add_ancestors.new.found p j found w.in_ok-add_ancestors.ensures.here) q at);
          }
      | in_default w ↦
          let none : interface_at p c.args.set.now ≡ None = sym c.get.ensures ∙ ap option_copied w.in_default.is in
          record {
            grows = subst (GrowsFamily c.args.set.now c.args.interface.now c.args.found.now) (sym w.found-is) c.parents.invariant.grows;
            parents = λ q at. subst (λ f. IsFoundFor c.args.set.now f q) (sym w.found-is)
                (parents_more c.args.set.now c.parents.found c.args.interface.now.parents n p low is c.parents.invariant.parents (parent_none c.args.set.now c.parents.found p none) q at);
          }
    ]

pub returns-clause-grows : goal.returns-clause-grows
returns-clause-grows t c =
    put_grows c.args.set.now c.args.found.now c.parents.found c.add.new.self c.args.interface.now c.requires.there c.parents.invariant.grows
    (parents_found c.args.set.now c.parents.found c.args.interface.now c.parents.parent-index (subst (λ ps. length ps ≤ c.parents.parent-index) c.as_slice-parent-items.ensures (omega (arith, c.parents-test.false))) c.parents.invariant.parents)
    c.in_ok-add.ensures

pub returns-clause-here : goal.returns-clause-here
returns-clause-here t c = put_here c.args.set.now c.parents.found c.add.new.self c.args.interface.now c.requires.there c.parents.invariant.grows.family.each c.in_ok-add.ensures
