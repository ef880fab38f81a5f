use Rattle.std.proofs.Common.{◌≡◌, ℕ, ◌≤◌, List, length, Option, Some, Bor, codes, sym, ap, ◌∙◌}
use Rattle.std.specs.Option.{option_map, option_and_then}
use Rattle.dt_base.specs.names.Grammar.{Identifier, OwnDtmiText}
use Rattle.json_decimal.specs.Number.{Number}
use Rattle.json_tree.specs.Values.{Members}
use Rattle.json_tree.specs.View.{view}
use Rattle.json_tree.specs.declared.tree.Tree.{Tree}
use Rattle.json_tree.specs.Members.{text_in, value_at, value_in}
use Rattle.twin_value.specs.Breaches.{text_under}
use Rattle.graph_routes.proofs.OuterBreaches.{no_metadata, no_model, bad_model}
use Rattle.graph_routes.proofs.twins.model_in.Goals as goal

pub unreachable-requires : goal.unreachable-requires
unreachable-requires c = no_metadata (view c.args.tree.now) c.requires (sym c.value_in.ensures ∙ ap (λ (o : Option (Bor Tree)). option_map (λ t. view t.now) o) c.in_default.is)

pub unreachable-requires-in_default-text_at : goal.unreachable-requires-in_default-text_at
unreachable-requires-in_default-text_at c =
    let v = view c.args.tree.now in
    let m = view c.in-Some.metadata.now in
    let meta : value_in (codes "$metadata") v ≡ Some m = sym c.value_in.ensures ∙ ap (λ (o : Option (Bor Tree)). option_map (λ t. view t.now) o) c.in-Some.is in
    let told : option_map (λ t. t.now) c.text_at.result ≡ text_under (codes "$model") m =
    c.text_at.ensures ∙ ap (λ (ms : Members Number). option_and_then text_in (value_at (codes "$model") ms)) c.members_in.ensures in
    no_model v m c.requires meta (sym told ∙ ap (λ (o : Option (Bor (List ℕ))). option_map (λ t. t.now) o) c.in_default-text_at.is)

pub unreachable-requires-in-None : goal.unreachable-requires-in-None
unreachable-requires-in-None c =
    let v = view c.args.tree.now in
    let m = view c.in-Some.metadata.now in
    let t = c.in-Some-text_at.text.now in
    let meta : value_in (codes "$metadata") v ≡ Some m = sym c.value_in.ensures ∙ ap (λ (o : Option (Bor Tree)). option_map (λ t. view t.now) o) c.in-Some.is in
    let told : option_map (λ t. t.now) c.text_at.result ≡ text_under (codes "$model") m =
    c.text_at.ensures ∙ ap (λ (ms : Members Number). option_and_then text_in (value_at (codes "$model") ms)) c.members_in.ensures in
    let none : (id : Identifier) → OwnDtmiText t id → length t ≤ 128 → ⊥ = rw c.in-None.is at c.in_ok-id.ensures in
    bad_model v m t c.requires meta (sym told ∙ ap (λ (o : Option (Bor (List ℕ))). option_map (λ t. t.now) o) c.in-Some-text_at.is) none
