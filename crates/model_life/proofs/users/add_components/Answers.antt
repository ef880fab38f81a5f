use Rattle.std.proofs.Common.{◌&&◌, take, Some, ap, ◌∙◌}
use Rattle.std.specs.List.{list_any}
use Rattle.dt_base.specs.names.Grammar.{id_eq}
use Rattle.dtdl_terms.specs.TermViews.{kind_term}
use Rattle.model_life.specs.Models.{is_component}
use Rattle.model_life.specs.Machinery.Keeping.{user_at}
use Rattle.model_life.proofs.Using.{none_at, none_taken}
use Rattle.model_life.proofs.users.add_components.Goals as goal

pub returns-in_err-add-clause-others : goal.returns-in_err-add-clause-others
returns-in_err-add-clause-others c t u off =
    ap (user_at t u) c.in_err-add.ensures.err
    ∙ none_at (list_any (λ k. is_component t (kind_term k.kind)) (take c.contents.content-index c.args.contents.now) && id_eq u c.args.user.now) (Some tt) (user_at t u c.args.users.now) (user_at t u c.contents.users)
    (none_taken (λ k. is_component t (kind_term k.kind)) (id_eq u c.args.user.now) c.args.contents.now c.contents.content-index off) (c.contents.invariant t u)
