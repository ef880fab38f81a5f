use Rattle.std.proofs.Common.{◌≡◌, true≢false, List, Option, None, Some, refl, sym, ap, ◌∙◌, subst}
use Rattle.std.specs.Prelude.{IsSome}
use Rattle.dtdl_terms.specs.Sets.{interface_at}
use Rattle.dtdl_terms.specs.declared.interface.Interface.{Interface}
use Rattle.dtdl_terms.specs.declared.resolved.Resolved.{Resolved}
use Rattle.model_life.specs.resolution.Resolving.{EntryOf, IsResolved}
use Rattle.model_life.specs.Models.{interfaces_of}
use Rattle.model_life.proofs.Seen.{seen_all, found_none, found_some}
use Rattle.model_life.proofs.models.Models.resolved.Goals as goal

entry_some : (set : List Interface) (o : Option Interface) (r : Resolved) → IsSome o → ((i : Interface) → o ≡ Some i → IsResolved set i r) → EntryOf set o (Some r)
entry_some set None r some is = absurd (true≢false (sym some))
entry_some set (Some i) r some is = is i refl

pub returns-then-is_none : goal.returns-then-is_none
returns-then-is_none c =
    let same : c.self.inside.set ≡ interfaces_of c.args.self.now = sym (seen_all c.self.inside.set c.self.inside.records) ∙ ap interfaces_of c.self.view_is in
    let none : interface_at c.args.id.now c.self.inside.set ≡ None = found_none c.get.result (interface_at c.args.id.now c.self.inside.set) c.is_none.result c.is_none.ensures c.if-is_none.true c.get.ensures in
    subst (λ s. EntryOf s (interface_at c.args.id.now s) None) same (subst (λ o. EntryOf c.self.inside.set o None) (sym none) tt)

pub returns : goal.returns
returns c =
    let same : c.self.inside.set ≡ interfaces_of c.args.self.now = sym (seen_all c.self.inside.set c.self.inside.records) ∙ ap interfaces_of c.self.view_is in
    let some : IsSome (interface_at c.args.id.now c.self.inside.set) = found_some c.get.result (interface_at c.args.id.now c.self.inside.set) c.is_none.result c.is_none.ensures c.if-is_none.false c.get.ensures in
    subst (λ s. EntryOf s (interface_at c.args.id.now s) (Some c.in_ok-resolved.resolved)) same
    (entry_some c.self.inside.set (interface_at c.args.id.now c.self.inside.set) c.in_ok-resolved.resolved some c.in_ok-resolved.ensures)
