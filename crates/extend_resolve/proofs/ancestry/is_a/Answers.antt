use Rattle.std.proofs.Common.{◌≡◌, Some, sym, ap, ◌∙◌, subst}
use Rattle.std.specs.Option.{option_copied}
use Rattle.std.proofs.lemmas.Option.{same_Some}
use Rattle.dtdl_terms.specs.Sets.{interface_at}
use Rattle.extend_resolve.specs.Chains.{IsAncestor}
use Rattle.extend_resolve.proofs.Within.{found_placed, decided}
use Rattle.extend_resolve.proofs.ancestry.is_a.Goals as goal

pub returns-in-Some : goal.returns-in-Some
returns-in-Some c =
    let found : interface_at c.args.id.now c.args.set.now ≡ Some c.in-Some.interface.now = sym c.get.ensures ∙ ap option_copied c.in-Some.is in
    let at = found_placed c.args.set.now c.args.id.now c.in-Some.interface.now found in
    let ten = decided c.args.set.now c.requires.sound c.args.ancestor.now at.0 c.in-Some.interface.now at.1 in (
      λ holds. let a = ten.0 (sym c.reaches.ensures ∙ holds) in (c.in-Some.interface.now, a.0, found, a.1, a.2),
      λ x.
          c.reaches.ensures
          ∙ ten.1 (x.1, subst (λ i. IsAncestor c.args.set.now i x.1) (same_Some x.0 c.in-Some.interface.now (sym x.2 ∙ found)) x.3, x.4),
    )
