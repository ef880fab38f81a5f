use Rattle.std.proofs.Common.{List, ℕ, cond, is_eq, sym, ap, ◌∙◌, refl, subst}
use Rattle.std.specs.Option.{IsSome}
use Rattle.std.specs.Map.{lookup}
use Rattle.std.specs.BTreeMap.{is_at}
use Rattle.ordered_table.proofs.Kept.{lookup-set, lookup-removed}
use Rattle.rel_graph.specs.Slots.{link_cmp}
use Rattle.rel_graph.proofs.Tallies.{links_total}
use Rattle.rel_graph.proofs.index.relink.Goals as goal

pub returns-in-Some : goal.returns-in-Some
returns-in-Some c = λ q.
    let k : List ℕ × (List ℕ × List ℕ) = (c.args.target.now, c.args.key.now) in
    ap (lookup (is_at (link_cmp q))) c.set.ensures
    ∙ lookup-set links_total q k c.in-Some.slot c.args.links.now (c.requires (subst IsSome (sym c.in-Some.is) refl))
    ∙ ap (λ o. cond (is_eq (link_cmp q k)) o (lookup (is_at (link_cmp q)) c.args.links.now)) (sym c.in-Some.is)

pub returns-in-None : goal.returns-in-None
returns-in-None c = λ q.
    let k : List ℕ × (List ℕ × List ℕ) = (c.args.target.now, c.args.key.now) in
    ap (lookup (is_at (link_cmp q))) c.remove-slot.ensures.entries
    ∙ lookup-removed links_total q k c.args.links.now c.remove-slot.ensures.ordered
    ∙ ap (λ o. cond (is_eq (link_cmp q k)) o (lookup (is_at (link_cmp q)) c.args.links.now)) (sym c.in-None.is)
