use Rattle.std.proofs.Common.{Some, ap}
use Rattle.json_tree.specs.Values.{text}
use Rattle.canon_text.proofs.parts.put_text.Goals as goal

pub returns : goal.returns
returns c = λ parts same. c.in_ok-put.ensures parts (Some (text c.args.content.now)) (ap Some c.in_ok-value.ensures) same
