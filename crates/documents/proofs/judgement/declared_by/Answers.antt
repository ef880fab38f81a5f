use Rattle.documents.proofs.Judged.{declared}
use Rattle.documents.proofs.judgement.declared_by.Goals as goal

pub returns : goal.returns
returns c =
    let sound = rw c.deref.ensures.value at c.in_ok-judge.ensures in
    declared c.args.documents.now c.in_ok-uploads.uploads.items c.in_ok-uploads.ensures sound
