use Rattle.std.proofs.Common.{◌&&◌, take, Some, ap, ◌∙◌}
use Rattle.std.specs.List.{list_any}
use Rattle.dt_base.specs.names.Grammar.{id_eq}
use Rattle.model_life.specs.Machinery.Keeping.{user_at}
use Rattle.model_life.proofs.Using.{none_at, none_taken}
use Rattle.model_life.proofs.users.add_parents.Goals as goal

pub returns-in_err-add-clause-others : goal.returns-in_err-add-clause-others
returns-in_err-add-clause-others c t u off =
    ap (user_at t u) c.in_err-add.ensures.err
    ∙ none_at (list_any (id_eq t) (take c.parents.parent-index c.args.parents.now) && id_eq u c.args.user.now) (Some tt) (user_at t u c.args.users.now) (user_at t u c.parents.users)
    (none_taken (id_eq t) (id_eq u c.args.user.now) c.args.parents.now c.parents.parent-index off) (c.parents.invariant t u)
