use Rattle.std.proofs.Common.{refl}
use Rattle.http_ends.specs.declared.request.HttpEnd.TheVariants.{BadHead, BodyTooLong, TransferCoding, CutOff}
use Rattle.http_session.proofs.Stretches.{refused}
use Rattle.http_session.proofs.refusals.end_for.Goals as goal

pub returns-in-BadHead-clause-ends : goal.returns-in-BadHead-clause-ends
returns-in-BadHead-clause-ends g c = rw c.in-BadHead.is (refused _ _ _ _ BadHead _ refl c.refuse.ensures.refuses)

pub returns-in-CutOff-clause-ends : goal.returns-in-CutOff-clause-ends
returns-in-CutOff-clause-ends g c = rw c.in-CutOff.is (refused _ _ _ _ CutOff _ refl c.refuse-in-CutOff.ensures.refuses)

pub returns-in-TransferCoding-clause-ends : goal.returns-in-TransferCoding-clause-ends
returns-in-TransferCoding-clause-ends g c = rw c.in-TransferCoding.is (refused _ _ _ _ TransferCoding _ refl c.refuse-in-TransferCoding.ensures.refuses)

pub returns-in-BodyTooLong-clause-ends : goal.returns-in-BodyTooLong-clause-ends
returns-in-BodyTooLong-clause-ends g c = rw c.in-BodyTooLong.is (refused _ _ _ _ BodyTooLong _ refl c.refuse-in-BodyTooLong.ensures.refuses)
