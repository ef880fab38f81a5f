use Rattle.std.proofs.Common.{◌≡◌, ℕ, List, Option, Bor, codes, sym, ap, ◌∙◌, true≢false}
use Rattle.std.specs.Option.{option_map, option_and_then}
use Rattle.json_decimal.specs.Number.{Number}
use Rattle.json_tree.specs.Values.{Members}
use Rattle.json_tree.specs.View.{view}
use Rattle.json_tree.specs.Members.{text_in, value_at}
use Rattle.twin_value.specs.Breaches.{text_under}
use Rattle.graph_routes.proofs.OuterBreaches.{no_target, bad_target}
use Rattle.graph_routes.proofs.links.target_in.Goals as goal
use Rattle.graph_routes.proofs.links.target_in.Goals.{in_default-via-in-Some+else-is_twin_id, in_default-via-in_default}

pub unreachable-requires : goal.unreachable-requires
unreachable-requires c =
    let v = view c.args.tree.now in
    let told : option_map (λ t. t.now) c.text_at.result ≡ text_under (codes "$targetId") v =
    c.text_at.ensures ∙ ap (λ (ms : Members Number). option_and_then text_in (value_at (codes "$targetId") ms)) c.members_in.ensures in
    elim c.in_default.branch [
      | in_default-via-in-Some+else-is_twin_id w ↦ bad_target v w.in-Some.target.now c.requires (sym told ∙ ap (λ (o : Option (Bor (List ℕ))). option_map (λ t. t.now) o) w.in-Some.is)
          (λ h. true≢false (sym (w.is_twin_id.ensures.1 h) ∙ w.if-is_twin_id.false))
      | in_default-via-in_default w ↦ no_target v c.requires (sym told ∙ ap (λ (o : Option (Bor (List ℕ))). option_map (λ t. t.now) o) w.in_default.is)
    ]
