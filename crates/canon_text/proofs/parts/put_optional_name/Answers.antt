use Rattle.std.specs.Option.{option_map}
use Rattle.json_tree.specs.Values.{text}
use Rattle.canon_text.proofs.parts.put_optional_name.Goals as goal

pub returns : goal.returns
returns c = λ parts same. c.in_ok-put.ensures parts (option_map text c.args.name.now) c.in_ok-value.ensures same
