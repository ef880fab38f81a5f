use Rattle.std.proofs.Common.{◌≡◌, ℕ, List, Option, Bor, codes, inr, sym, ap, subst, ◌∙◌}
use Rattle.std.specs.Option.{option_map, option_and_then}
use Rattle.json_decimal.specs.Number.{Number}
use Rattle.json_tree.specs.Values.{Members}
use Rattle.json_tree.specs.View.{view}
use Rattle.json_read.proofs.Pointed.{if_ok}
use Rattle.json_tree.specs.Members.{text_in, value_at}
use Rattle.twin_value.specs.Breaches.{HasNoBreach, text_under}
use Rattle.query_bodies.specs.Breaches.{IsQueryBreach}
use Rattle.query_bodies.specs.Outcomes.{IsMadeOfBody, IsMadeOfText}
use Rattle.query_bodies.proofs.Breaching.{has_text}
use Rattle.query_bodies.proofs.asks.ask_of_body.Goals as goal

abbrev told : Option (Bor (List ℕ)) → Option (List ℕ)
told o = option_map (λ t. t.now) o

pub unreachable-requires : goal.unreachable-requires
unreachable-requires c =
    let v = view c.args.tree.now in
    let none : HasNoBreach (IsQueryBreach v) = rw c.in_default.is at c.in_ok-refusal.ensures in
    let text : told c.text_at.result ≡ text_under (codes "query") v = c.text_at.ensures ∙ ap (λ (ms : Members Number). option_and_then text_in (value_at (codes "query") ms)) c.members_in-members.ensures in
    has_text v none (sym text ∙ ap told c.in-None.is)

pub returns : goal.returns
returns c =
    let v = view c.args.tree.now in
    let t = c.in-Some-text_at.text.now in
    let none : HasNoBreach (IsQueryBreach v) = rw c.in_default.is at c.in_ok-refusal.ensures in
    let text : told c.text_at.result ≡ text_under (codes "query") v = c.text_at.ensures ∙ ap (λ (ms : Members Number). option_and_then text_in (value_at (codes "query") ms)) c.members_in-members.ensures in
    let token : told c.text_at-in-Some-text_at.result ≡ text_under (codes "continuationToken") v =
    c.text_at-in-Some-text_at.ensures ∙ ap (λ (ms : Members Number). option_and_then text_in (value_at (codes "continuationToken") ms)) c.members_in-members.ensures in
    if_ok c.ask_of_text.result (IsMadeOfText t (told c.text_at-in-Some-text_at.result)) (IsMadeOfBody v)
    (λ outcome made. inr (none, (t, sym text ∙ ap told c.in-Some-text_at.is, subst (λ (o : Option (List ℕ)). IsMadeOfText t o outcome) token made))) c.ask_of_text.ensures
