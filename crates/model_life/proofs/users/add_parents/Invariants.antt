use Rattle.std.proofs.Common.{◌≡◌, cond, ◌&&◌, take, Some}
use Rattle.std.specs.List.{list_any}
use Rattle.dt_base.specs.names.Grammar.{Identifier, id_eq}
use Rattle.model_life.specs.Machinery.Keeping.{user_at}
use Rattle.model_life.proofs.users.add_parents.Given as goal

abbrev pub invariant-parents : goal.invariant-parents
invariant-parents l = (t u : Identifier) → user_at t u l.users ≡ cond (list_any (id_eq t) (take l.parent-index l.parents) && id_eq u l.user) (Some tt) (user_at t u l.fn.users)
