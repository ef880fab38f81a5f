use Rattle.std.proofs.Common.{◌-◌, sym, ap, ◌∙◌, subst}
use Rattle.model_life.proofs.resolution.Changes.{lacks_none}
use Rattle.model_life.specs.sets.Changing.{AreFree}
use Rattle.model_life.specs.Models.{interfaces_of, without_models}
use Rattle.model_life.specs.Machinery.Keeping.{models_of, IsKept}
use Rattle.model_life.proofs.Seen.{seen_all}
use Rattle.model_life.proofs.Growing.{texts_of, left_models}
use Rattle.model_life.proofs.Leaving.{counted_bytes, counted_shares, left_kept}
use Rattle.model_life.proofs.models.Models.take_back.Goals as goal

pub overflow_sub-self : goal.overflow_sub-self
overflow_sub-self c = (counted_bytes c.args.ids.now c.self.inside.set c.self.inside.records c.self.inside.users c.self.inside.shares c.self.inside.bytes c.self.inside.resolved c.bytes_of.result c.self.invariant c.requires.distinct c.bytes_of.ensures).1

pub overflow_sub-self-2 : goal.overflow_sub-self-2
overflow_sub-self-2 c = (counted_shares c.args.ids.now c.self.inside.set c.self.inside.records c.self.inside.users c.self.inside.shares c.self.inside.bytes c.self.inside.resolved c.sum.result c.self.invariant c.requires.distinct c.sum.ensures).1

pub shrink-requires-clause-texts : goal.shrink-requires-clause-texts
shrink-requires-clause-texts c = texts_of c.self.inside.set c.self.inside.records (lacks_none c.self.inside.set c.self.invariant.rules) c.self.invariant.fits.records

pub invariant_of-self : goal.invariant_of-self
invariant_of-self c =
    let kept : IsKept c.self.inside.set c.self.inside.records c.self.inside.users c.self.inside.shares c.self.inside.bytes c.self.inside.resolved = c.self.invariant in
    let free : AreFree c.self.inside.set c.args.ids.now = subst (λ s. AreFree s c.args.ids.now) (ap interfaces_of (sym c.self.view_is) ∙ seen_all c.self.inside.set c.self.inside.records) c.requires.free in
    subst (λ s. IsKept s c.shrink.new.records c.shrink.new.users c.remove_all.new.shares (c.self.inside.bytes - c.bytes_of.result) (c.self.inside.resolved - c.sum.result)) (sym c.shrink.ensures.set)
    (left_kept c.args.ids.now c.self.inside.set c.self.inside.records c.shrink.new.records c.self.inside.users c.shrink.new.users c.self.inside.shares c.remove_all.new.shares c.self.inside.bytes c.self.inside.resolved c.bytes_of.result c.sum.result kept c.requires.distinct free c.shrink.ensures.records c.shrink.ensures.users c.remove_all.ensures
    (counted_bytes c.args.ids.now c.self.inside.set c.self.inside.records c.self.inside.users c.self.inside.shares c.self.inside.bytes c.self.inside.resolved c.bytes_of.result kept c.requires.distinct c.bytes_of.ensures).0
    (counted_shares c.args.ids.now c.self.inside.set c.self.inside.records c.self.inside.users c.self.inside.shares c.self.inside.bytes c.self.inside.resolved c.sum.result kept c.requires.distinct c.sum.ensures).0)

pub returns : goal.returns
returns c =
    ap (λ s. models_of s c.shrink.new.records) c.shrink.ensures.set
    ∙ left_models c.args.ids.now c.self.inside.set c.self.inside.records c.shrink.new.records c.shrink.ensures.records
    ∙ ap (without_models c.args.ids.now) c.self.view_is
