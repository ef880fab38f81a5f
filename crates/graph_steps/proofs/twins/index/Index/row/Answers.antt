use Rattle.std.proofs.Common.{◌≡◌, List, ℕ, [], None, unwrap_or, sym, ap, ◌∙◌, subst}
use Rattle.std.specs.Option.{option_copied}
use Rattle.std.specs.List.Sorted.{IsStrictlySortedBy}
use Rattle.std.specs.Map.{keys_of, lookup}
use Rattle.std.specs.BTreeMap.{is_at}
use Rattle.dt_base.specs.names.Grammar.{id_cmp}
use Rattle.ordered_table.proofs.Flat.{C}
use Rattle.ordered_table.proofs.Ordered.{nil_sorted}
use Rattle.graph_steps.specs.twins.Machinery.Rows.{ids_of}
use Rattle.graph_steps.proofs.twins.index.Index.row.Goals as goal

pub returns-in-None-clause-ordered : goal.returns-in-None-clause-ordered
returns-in-None-clause-ordered c =
    let none : lookup (is_at (id_cmp c.args.model.now)) c.self.inside.rows.entries ≡ None = sym c.get.ensures.value ∙ ap option_copied c.in-None.is in
    let no_ids : [] ≡ ids_of c.args.model.now c.args.self.now =
    sym (ap (λ o. unwrap_or o []) none) ∙ ap (ids_of c.args.model.now) c.self.view_is in
    subst (λ (ids : List (List ℕ × Unit {0})). IsStrictlySortedBy C (keys_of ids)) no_ids (nil_sorted C)
