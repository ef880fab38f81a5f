use Rattle.json_tree.specs.View.{view}
use Rattle.twin_value.proofs.Bodies.{name_told, target_told}
use Rattle.twin_value.proofs.link.link_by.Goals as goal

pub link_from-requires-clause-name : goal.link_from-requires-clause-name
link_from-requires-clause-name c = name_told _ _ _ (view c.args.tree.now) c.in_ok-judge_body.ensures

pub link_from-requires-clause-target : goal.link_from-requires-clause-target
link_from-requires-clause-target c = target_told _ _ _ (view c.args.tree.now) c.in_ok-judge_body.ensures

pub returns : goal.returns
returns c =
    let clear = rw (c.source_of.ensures, c.properties_of.ensures) at c.in_ok-judge_body.ensures in
    let told = rw (c.source_of.ensures, c.properties_of.ensures) at c.in_ok-link.ensures in
    (clear, told)
