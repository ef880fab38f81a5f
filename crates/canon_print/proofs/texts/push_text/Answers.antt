use Rattle.json_tree.specs.Values.{text}
use Rattle.canon_print.proofs.Parts.{part_printed}
use Rattle.canon_print.proofs.texts.push_text.Goals as goal

pub returns : goal.returns
returns c = λ key named. part_printed _ _ _ c.args.first c.args.head.now key (text c.args.value.now) c.in_ok-push_head.ensures named c.in_ok-push_quoted.ensures.printed
