use Rattle.std.proofs.Common.{◌≡◌, [], true, ◌&&◌, cond, None, sym, ap, ◌∙◌, is_eq}
use Rattle.std.specs.Option.{is_some}
use Rattle.std.specs.Map.{lookup}
use Rattle.std.specs.BTreeMap.{is_at, insert_entry}
use Rattle.dt_base.specs.names.Grammar.{id_cmp}
use Rattle.ordered_table.proofs.Flat.{C}
use Rattle.ordered_table.proofs.Ordered.{lookup-insert}
use Rattle.graph_steps.specs.twins.Machinery.Rows.{ids_of, holds_id}
use Rattle.graph_steps.proofs.twins.Rows.{models_total, has-changed, some_put}
use Rattle.graph_steps.proofs.twins.index.Index.put_first.Goals as goal

pub returns-clause-ok : goal.returns-clause-ok
returns-clause-ok c = λ m q.
    let rows = c.self.inside.rows.entries in
    let model = c.args.model.now in
    let id = c.args.id in
    let row = insert_entry C [] id tt in
    let none : ids_of model rows ≡ [] = ap (ids_of model) c.self.view_is ∙ c.requires in
    let made : c.insert-2.new.self.entries ≡ insert_entry id_cmp rows model row =
    c.in_ok-insert-2.ensures.entries
    ∙ ap (insert_entry id_cmp rows c.in_ok-key.key) (c.in_ok-insert.ensures.ok ∙ ap (λ r. insert_entry C r id tt) c.new-row.ensures)
    ∙ ap (λ k. insert_entry id_cmp rows k row) c.in_ok-key.ensures in
    has-changed rows c.insert-2.new.self.entries model row id true
    (λ k. ap (lookup (is_at (id_cmp k))) made ∙ lookup-insert models_total k model row rows)
    (λ p. some_put (is_eq (C p id)) None ∙ ap (λ ids. cond (is_eq (C p id)) true (is_some (lookup (is_at (C p)) ids))) (sym none))
    m q
    ∙ ap (λ rs. cond (is_eq (id_cmp m model) && is_eq (C q id)) true (holds_id m q rs)) c.self.view_is
