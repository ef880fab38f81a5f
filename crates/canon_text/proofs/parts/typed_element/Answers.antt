use Rattle.std.proofs.Common.{Some, ap}
use Rattle.json_tree.specs.Values.{text}
use Rattle.canon_text.proofs.parts.typed_element.Goals as goal

pub returns : goal.returns
returns c = c.in_ok-members.ensures (Some (text c.args.kind.now)) (ap Some c.in_ok-kind.ensures)
