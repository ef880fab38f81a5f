use Rattle.std.proofs.Common.{ap, map, ◌∙◌}
use Rattle.canon_text.specs.Objects.{list_in_order, unless_empty}
use Rattle.canon_text.specs.Machinery.Pairs.{content_named}
use Rattle.canon_text.proofs.contents.put_contents.Goals as goal

pub returns : goal.returns
returns c = λ parts same. c.in_ok-put.ensures parts (unless_empty list_in_order (map content_named c.args.items.now)) (c.in_ok-list.ensures ∙ ap (unless_empty list_in_order) c.in_ok-values.ensures) same
