use Rattle.std.proofs.Common.{[], None, sym, ap, ◌∙◌, unwrap_or}
use Rattle.std.specs.Map.{lookup}
use Rattle.std.specs.BTreeMap.{is_at}
use Rattle.dt_base.specs.names.Grammar.{id_cmp}
use Rattle.ordered_table.proofs.Kept.{lookup-removed}
use Rattle.graph_steps.specs.twins.Machinery.Rows.{ids_of}
use Rattle.graph_steps.proofs.twins.Rows.{models_total, ids-same}
use Rattle.graph_steps.proofs.twins.index.Index.close.Goals as goal

pub returns-then-is_hollow : goal.returns-then-is_hollow
returns-then-is_hollow c = λ m.
    let rows = c.self.inside.rows.entries in
    let model = c.args.model.now in
    ids-same rows c.give_up.new.rows.entries model None (λ k. ap (lookup (is_at (id_cmp k))) c.give_up.ensures.entries ∙ lookup-removed models_total k model rows c.self.invariant)
    (sym (ap (λ o. unwrap_or o []) (c.is_hollow.ensures c.if-is_hollow.true))) m
    ∙ ap (ids_of m) c.self.view_is
