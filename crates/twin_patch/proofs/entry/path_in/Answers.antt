use Rattle.std.proofs.Common.{◌≡◌, length, ap, arith}
use Rattle.json_tree.specs.Pointers.{pointer_text}
use Rattle.json_tree.specs.View.{members_view}
use Rattle.twin_patch.proofs.Once.{no_fit}
use Rattle.twin_patch.proofs.entry.path_in.Goals as goal

pub returns-then-parts-lt1 : goal.returns-then-parts-lt1
returns-then-parts-lt1 c =
    let spelled : c.in-Some.pointer.now ≡ pointer_text c.in-Some-2.path.items = rw c.in-Some-2.is at c.in_ok-path.ensures in
    let few = c.if-parts-lt1.true in
    let same = ap length c.as_slice-parts.ensures.value in
    no_fit (members_view c.args.members.now) c.in-Some.pointer.now c.in-Some-2.path.items c.in-Some.ensures spelled (λ low high. omega (arith, few, same, low))

pub returns-then-parts-gt-MOST_PARTS : goal.returns-then-parts-gt-MOST_PARTS
returns-then-parts-gt-MOST_PARTS c =
    let spelled : c.in-Some.pointer.now ≡ pointer_text c.in-Some-2.path.items = rw c.in-Some-2.is at c.in_ok-path.ensures in
    let many = c.if-parts-gt-MOST_PARTS.true in
    let same = ap length c.as_slice-parts.ensures.value in
    no_fit (members_view c.args.members.now) c.in-Some.pointer.now c.in-Some-2.path.items c.in-Some.ensures spelled (λ low high. omega (arith, many, same, high))
