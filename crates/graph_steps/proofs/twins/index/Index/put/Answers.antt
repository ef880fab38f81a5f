use Rattle.std.proofs.Common.{◌≡◌, [], true, ◌&&◌, cond, Some, refl, sym, ap, ◌∙◌, subst, is_eq, unwrap_or}
use Rattle.std.specs.Option.{option_copied_mut, is_some, IsSome}
use Rattle.std.specs.Map.{lookup}
use Rattle.std.specs.BTreeMap.{is_at}
use Rattle.std.proofs.lemmas.Result.{on_ok_weaker, on_err_weaker}
use Rattle.dt_base.specs.names.Grammar.{id_cmp}
use Rattle.ordered_table.proofs.Flat.{C, c_total}
use Rattle.ordered_table.proofs.Ordered.{lookup-insert}
use Rattle.ordered_table.proofs.Kept.{lookup-set}
use Rattle.graph_steps.specs.twins.Machinery.Rows.{ids_of, holds_id}
use Rattle.graph_steps.proofs.twins.Rows.{models_total, ids-same, has-changed, some_put}
use Rattle.graph_steps.proofs.twins.index.Index.put.Goals as goal

pub returns-clause-ok : goal.returns-clause-ok
returns-clause-ok c =
    let rows = c.self.inside.rows.entries in
    let model = c.args.model.now in
    let old = c.in-Some.row.now in
    let new = c.insert.new.self in
    let written = (c.get_mut.follows.holds new).0 in
    let looked : lookup (is_at (id_cmp model)) rows ≡ Some old = sym c.get_mut.ensures.value ∙ ap option_copied_mut c.in-Some.is in
    on_ok_weaker c.insert.result (λ put. λ m q.
    has-changed rows (c.get_mut.follows.lender new).entries model new c.args.id true
    (λ k. ap (lookup (is_at (id_cmp k))) written ∙ lookup-set models_total k model new rows (subst IsSome (sym looked) refl))
    (λ p. ap (λ es. is_some (lookup (is_at (C p)) es)) put ∙ ap is_some (lookup-insert c_total p c.args.id tt old)
    ∙ some_put (is_eq (C p c.args.id)) (lookup (is_at (C p)) old)
    ∙ ap (λ o. cond (is_eq (C p c.args.id)) true (is_some (lookup (is_at (C p)) (unwrap_or o [])))) (sym looked))
    m q
    ∙ ap (λ rs. cond (is_eq (id_cmp m model) && is_eq (C q c.args.id)) true (holds_id m q rs)) c.self.view_is) c.insert.ensures.ok

pub returns-clause-err : goal.returns-clause-err
returns-clause-err c =
    let rows = c.self.inside.rows.entries in
    let model = c.args.model.now in
    let old = c.in-Some.row.now in
    let new = c.insert.new.self in
    let written = (c.get_mut.follows.holds new).0 in
    let looked : lookup (is_at (id_cmp model)) rows ≡ Some old = sym c.get_mut.ensures.value ∙ ap option_copied_mut c.in-Some.is in
    on_err_weaker c.insert.result (λ same. λ m.
    ids-same rows (c.get_mut.follows.lender new).entries model (Some new)
    (λ k. ap (lookup (is_at (id_cmp k))) written ∙ lookup-set models_total k model new rows (subst IsSome (sym looked) refl))
    (same ∙ ap (λ o. unwrap_or o []) (sym looked)) m
    ∙ ap (ids_of m) c.self.view_is) c.insert.ensures.err
