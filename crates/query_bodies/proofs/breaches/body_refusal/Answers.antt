use Rattle.std.proofs.Common.{◌≡◌, List, ℕ, Bor, Option, Some, None, sym, ap, ◌∙◌}
use Rattle.std.specs.Option.{option_map}
use Rattle.json_tree.specs.View.{view}
use Rattle.twin_value.specs.declared.code.BodyCode.{BodyCode}
use Rattle.query_bodies.specs.Machinery.Firsts.{first_breach}
use Rattle.query_bodies.proofs.Breaching.{breach_told, no_breach}
use Rattle.query_bodies.proofs.breaches.body_refusal.Goals as goal

abbrev told : Option (Bor (List ℕ) × BodyCode) → Option (List ℕ × BodyCode)
told o = option_map (λ b. (b.0.now, b.1)) o

pub returns-in_ok-refusal-in-Some : goal.returns-in_ok-refusal-in-Some
returns-in_ok-refusal-in-Some c =
    let v = view c.args.tree.now in
    let found : first_breach v ≡ Some (c.in-Some.pointer.now, c.in-Some.code) = sym c.first_breach.ensures ∙ ap told c.in-Some.is in
    breach_told v c.in-Some.pointer.now c.in-Some.code c.in_ok-refusal-in-Some.refusal found c.in_ok-refusal-in-Some.ensures

pub returns-in-None : goal.returns-in-None
returns-in-None c =
    let v = view c.args.tree.now in
    let none : first_breach v ≡ None = sym c.first_breach.ensures ∙ ap told c.in-None.is in
    no_breach v none
