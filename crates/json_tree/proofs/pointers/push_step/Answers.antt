use Rattle.std.proofs.Common.{◌≡◌, ◌∷◌, [], string_bytes, decimal, append_assoc, arith}
use Rattle.json_tree.specs.Pointers.{token_text}
use Rattle.json_tree.proofs.TreeItems.{list_within, object_within, item_token, member_token}
use Rattle.json_tree.proofs.FirstKeys.{decimal_token}
use Rattle.json_tree.proofs.pointers.push_step.Goals as goal

pub bounds-as_slice-step : goal.bounds-as_slice-step
bounds-as_slice-step c = rw c.as_slice.ensures (list_within c.args.tree.now c.in-List.items c.args.step c.in-List.is c.requires)

pub offset_bounds-as_slice-step : goal.offset_bounds-as_slice-step
offset_bounds-as_slice-step c = let lt = bounds-as_slice-step c in let room = c.as_slice.type_inv.1 in omega (arith, lt, room)

pub bounds-as_slice-step-in-Members : goal.bounds-as_slice-step-in-Members
bounds-as_slice-step-in-Members c =
    rw c.as_slice-in-Members.ensures (object_within c.args.tree.now c.in-Members.members c.args.step c.in-Members.is c.requires)

pub offset_bounds-as_slice-step-in-Members : goal.offset_bounds-as_slice-step-in-Members
offset_bounds-as_slice-step-in-Members c = let lt = bounds-as_slice-step-in-Members c in let room = c.as_slice-in-Members.type_inv.1 in omega (arith, lt, room)

pub returns-in_ok-push_position-in-List : goal.returns-in_ok-push_position-in-List
returns-in_ok-push_position-in-List c =
    let slash = c.push.ensures.ascii (omega arith) in
    let lt = list_within c.args.tree.now c.in-List.items c.args.step c.in-List.is c.requires in
    let at = rw c.as_slice.ensures at c.index-as_slice-step.is in
    let same : token_text (decimal c.args.step) ≡ decimal c.args.step = decimal_token c.args.step (omega arith) in (
      decimal c.args.step,
      item_token c.args.tree.now c.in-List.items c.args.step c.index-as_slice-step.result c.in-List.is lt at,
      rw (c.in_ok-push_position-in-List.ensures, c.in_ok-push.ensures.bytes, slash, same) (append_assoc (string_bytes c.args.out.now) (47 ∷ []) (decimal c.args.step)),
    )

pub returns-in_ok-push_key-in-Members : goal.returns-in_ok-push_key-in-Members
returns-in_ok-push_key-in-Members c =
    let slash = c.push.ensures.ascii (omega arith) in
    let m = c.index-as_slice-step-in-Members.result in
    let lt = object_within c.args.tree.now c.in-Members.members c.args.step c.in-Members.is c.requires in
    let at = rw c.as_slice-in-Members.ensures at c.index-as_slice-step-in-Members.is in (
      m.key,
      member_token c.args.tree.now c.in-Members.members c.args.step m c.in-Members.is lt at,
      rw (c.in_ok-push_key-in-Members.ensures, c.as_str.ensures, c.in_ok-push.ensures.bytes, slash) (append_assoc (string_bytes c.args.out.now) (47 ∷ []) (token_text m.key)),
    )
