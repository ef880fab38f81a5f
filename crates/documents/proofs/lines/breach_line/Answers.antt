use Rattle.std.proofs.Common.{◌≡◌}
use Rattle.json_read.proofs.Pointed.{if_ok}
use Rattle.json_tree.specs.View.{view}
use Rattle.local_rules.specs.Codes.{rule_code}
use Rattle.documents.specs.Lines.{IsBreachLine, pointer_line}
use Rattle.documents.proofs.Breached.{breach_stands}
use Rattle.documents.proofs.lines.breach_line.Goals as goal

pub pointer_of-requires : goal.pointer_of-requires
pointer_of-requires c = breach_stands (view c.args.tree.now) c.args.place.now.steps c.args.rule c.requires.breach

pub returns : goal.returns
returns c =
    let line_of = rw c.text.ensures at c.refused_line.ensures in
    if_ok c.refused_line.result (λ line. line ≡ pointer_line c.args.number c.in_ok-pointer.pointer.text (rule_code c.args.rule)) (IsBreachLine c.args.number (view c.args.tree.now))
    (λ line same. (c.args.place.now.steps, c.args.rule, c.in_ok-pointer.pointer.text, c.requires, c.in_ok-pointer.ensures.text, same)) line_of
