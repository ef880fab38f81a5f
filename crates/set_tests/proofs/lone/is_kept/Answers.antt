use Rattle.std.proofs.Common.{◌≡◌, List, [], ◌∷◌, ◌++◌, sym, ap, ◌∙◌, subst}
use Rattle.dt_base.specs.names.Grammar.{Identifier}
use Rattle.resolved_table.specs.Tables.{ResolvesOthers}
use Rattle.set_tests.proofs.Soles.{lone_others}
use Rattle.set_tests.proofs.lone.is_kept.Goals as goal

pub add-requires-clause-others : goal.add-requires-clause-others
add-requires-clause-others c =
    let ids : c.as_slice.result.now ≡ c.args.id.now ∷ [] =
    c.as_slice.ensures ∙ c.in_ok-push.ensures.ok ∙ ap (λ (xs : List Identifier). xs ++ c.in_ok-copy.field-0 ∷ []) c.new-ids.ensures ∙ ap (λ (x : Identifier). x ∷ []) c.in_ok-copy.ensures in
    subst (λ xs. ResolvesOthers c.args.set.now xs c.new-table.result) (sym ids)
    (subst (λ es. ResolvesOthers c.args.set.now (c.args.id.now ∷ []) es) (sym c.new-table.ensures) (lone_others c.args.set.now c.args.id.now c.requires))
