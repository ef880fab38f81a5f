use Rattle.std.proofs.Common.{subst}
use Rattle.extend_resolve.specs.Breaches.{IsSound}
use Rattle.model_life.specs.Refusals.{RefusesUploads}
use Rattle.model_life.specs.Machinery.Judging.{AreAbsent, RefusesIn}
use Rattle.model_life.proofs.Refused.{new_from, sound_from, refused, match_more}
use Rattle.model_life.proofs.models.Models.add.Goals as goal

pub returns-in-Err-clause-end : goal.returns-in-Err-clause-end
returns-in-Err-clause-end c =
    refused c.args.new c.self.inside.set c.self.inside.records c.self.inside.users c.self.inside.shares c.self.inside.bytes c.self.inside.resolved c.args.self.now c.self.view_is c.self.invariant c.in-Err.end
    (subst (λ us. RefusesIn c.self.inside.set us c.in-Err.end) c.as_slice.ensures c.in-Err.ensures)

pub join-requires-clause-new : goal.join-requires-clause-new
join-requires-clause-new c =
    let absent : AreAbsent c.self.inside.set c.args.new = subst (AreAbsent c.self.inside.set) c.as_slice.ensures c.in-Ok.ensures.0 in
    new_from c.args.new c.self.inside.set c.self.inside.records c.self.inside.users c.self.inside.shares c.self.inside.bytes c.self.inside.resolved c.args.self.now c.self.view_is c.self.invariant c.args.new absent

pub join-requires-clause-sound : goal.join-requires-clause-sound
join-requires-clause-sound c =
    let sound : IsSound c.self.inside.set c.args.new = subst (IsSound c.self.inside.set) c.as_slice.ensures c.in-Ok.ensures.1 in
    sound_from c.args.new c.self.inside.set c.self.inside.records c.self.inside.users c.self.inside.shares c.self.inside.bytes c.self.inside.resolved c.args.self.now c.self.view_is c.self.invariant sound

pub returns-clause-end : goal.returns-clause-end
returns-clause-end c =
    let absent : AreAbsent c.self.inside.set c.args.new = subst (AreAbsent c.self.inside.set) c.as_slice.ensures c.in-Ok.ensures.0 in
    let sound : IsSound c.self.inside.set c.args.new = subst (IsSound c.self.inside.set) c.as_slice.ensures c.in-Ok.ensures.1 in
    match_more (RefusesUploads c.args.self.now c.args.new) c.join.result
    (λ within. (
      new_from c.args.new c.self.inside.set c.self.inside.records c.self.inside.users c.self.inside.shares c.self.inside.bytes c.self.inside.resolved c.args.self.now c.self.view_is c.self.invariant c.args.new absent,
      sound_from c.args.new c.self.inside.set c.self.inside.records c.self.inside.users c.self.inside.shares c.self.inside.bytes c.self.inside.resolved c.args.self.now c.self.view_is c.self.invariant sound,
      within,
    ))
    c.join.ensures.end
