use Rattle.std.proofs.Common.{take, cond, sym, ap, ◌∙◌}
use Rattle.dt_base.specs.names.Grammar.{id_eq}
use Rattle.model_life.specs.sets.Changing.{is_one_of}
use Rattle.model_life.specs.Machinery.Keeping.{written_at}
use Rattle.model_life.proofs.Using.{any_next}
use Rattle.model_life.proofs.Recorded.{gone_next_number, gone_number}
use Rattle.model_life.proofs.models.remove_all.Goals as goal

pub ids-preserved : goal.ids-preserved
ids-preserved c q =
    gone_next_number (is_one_of (take c.ids.id-index c.args.ids.now) q) (id_eq q c.id-item.result) (written_at q c.args.shares.now) (written_at q c.ids.shares) (written_at q c.remove.new.self)
    (c.ids.invariant q) (gone_number c.id-item.result q c.ids.shares c.remove.new.self c.remove.ensures.ordered c.remove.ensures.entries)
    ∙ ap (λ b. cond b 0 (written_at q c.args.shares.now)) (sym (any_next (id_eq q) c.args.ids.now c.ids.id-index c.id-item.result c.ids-test.true c.id-item.is))
