use Rattle.std.proofs.Common.{◌≡◌, take, cond}
use Rattle.dt_base.specs.names.Grammar.{Identifier}
use Rattle.model_life.specs.sets.Changing.{is_one_of}
use Rattle.model_life.specs.Machinery.Keeping.{written_at}
use Rattle.model_life.proofs.models.remove_all.Given as goal

abbrev pub invariant-ids : goal.invariant-ids
invariant-ids l = (q : Identifier) → written_at q l.shares ≡ cond (is_one_of (take l.id-index l.ids) q) 0 (written_at q l.fn.shares)
