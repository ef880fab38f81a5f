use Rattle.std.proofs.Common.{◌∙◌, sym, ap, refl}
use Rattle.std.specs.Option.{option_map}
use Rattle.json_tree.specs.View.{view}
use Rattle.canon_text.proofs.Steps.{left_out, put_in}
use Rattle.canon_text.proofs.parts.put.Goals as goal

pub returns-in_ok-push-in-Some : goal.returns-in_ok-push-in-Some
returns-in_ok-push-in-Some c = λ parts v some same. rw c.in_ok-push-in-Some.ensures.items
    (put_in c.args.members.now.items _ c.args.key.now c.in-Some.value parts v c.in_ok-key-in-Some.ensures refl (sym (ap (option_map view) c.in-Some.is) ∙ some) same)

pub returns-in-None : goal.returns-in-None
returns-in-None c = λ parts v some same. left_out _ c.args.key.now parts v (sym (ap (option_map view) c.in-None.is) ∙ some) same
