use Rattle.std.proofs.Common.{◌≡◌, [], false, ◌&&◌, cond, Some, None, refl, sym, ap, ◌∙◌, subst, is_eq, unwrap_or}
use Rattle.std.specs.Option.{option_copied_mut, is_some, IsSome}
use Rattle.std.specs.Map.{lookup}
use Rattle.std.specs.BTreeMap.{is_at}
use Rattle.dt_base.specs.names.Grammar.{id_cmp}
use Rattle.ordered_table.proofs.Flat.{C, c_total}
use Rattle.ordered_table.proofs.Kept.{lookup-set, lookup-removed}
use Rattle.graph_steps.specs.twins.Machinery.Rows.{holds_id}
use Rattle.graph_steps.proofs.twins.Rows.{models_total, has-changed, has-none, some_taken}
use Rattle.graph_steps.proofs.twins.index.Index.take.Goals as goal

pub returns-in_default : goal.returns-in_default
returns-in_default c = λ m q.
    let rows = c.self.inside.rows.entries in
    let model = c.args.model.now in
    let none : lookup (is_at (id_cmp model)) rows ≡ None = sym c.get_mut.ensures.value ∙ ap option_copied_mut c.in_default.is in
    ap (λ rs. holds_id m q rs.entries) c.get_mut.follows.holds-at-none
    ∙ has-none rows model c.args.id.now none m q
    ∙ ap (λ rs. cond (is_eq (id_cmp m model) && is_eq (C q c.args.id.now)) false (holds_id m q rs)) c.self.view_is

pub returns : goal.returns
returns c = λ m q.
    let rows = c.self.inside.rows.entries in
    let model = c.args.model.now in
    let id = c.args.id.now in
    let old = c.in-Some.row.now in
    let new = c.remove.new.self in
    let written = (c.get_mut.follows.holds new).0 in
    let looked : lookup (is_at (id_cmp model)) rows ≡ Some old = sym c.get_mut.ensures.value ∙ ap option_copied_mut c.in-Some.is in
    has-changed rows (c.get_mut.follows.lender new).entries model new id false
    (λ k. ap (lookup (is_at (id_cmp k))) written ∙ lookup-set models_total k model new rows (subst IsSome (sym looked) refl))
    (λ p. ap (λ es. is_some (lookup (is_at (C p)) es)) c.remove.ensures.entries ∙ ap is_some (lookup-removed c_total p id old c.remove.ensures.ordered)
    ∙ some_taken (is_eq (C p id)) (lookup (is_at (C p)) old)
    ∙ ap (λ o. cond (is_eq (C p id)) false (is_some (lookup (is_at (C p)) (unwrap_or o [])))) (sym looked))
    m q
    ∙ ap (λ rs. cond (is_eq (id_cmp m model) && is_eq (C q id)) false (holds_id m q rs)) c.self.view_is

pub invariant_of-self-2 : goal.invariant_of-self-2
invariant_of-self-2 c = (c.get_mut.follows.holds c.remove.new.self).4
