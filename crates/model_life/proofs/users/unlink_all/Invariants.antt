use Rattle.std.proofs.Common.{◌≡◌, take, cond, None}
use Rattle.dt_base.specs.names.Grammar.{Identifier}
use Rattle.model_life.specs.sets.Changing.{is_one_of}
use Rattle.model_life.specs.Machinery.Keeping.{user_at}
use Rattle.model_life.proofs.users.unlink_all.Given as goal

abbrev pub invariant-ids : goal.invariant-ids
invariant-ids l = (used user : Identifier) → user_at used user l.users ≡ cond (is_one_of (take l.id-index l.ids) user) None (user_at used user l.fn.users)
