use Rattle.std.proofs.Common.{ℕ, ◌+◌, List, ◌∷◌, drop, get_or, sym, ◌∙◌}
use Rattle.std.proofs.lemmas.List.{at_drop_more, at_drop_all}
use Rattle.json_read.specs.Machinery.Ways.{place_is_before}
use Rattle.json_read.proofs.places.is_before.Goals as goal

pub returns-then-at-place : goal.returns-then-at-place
returns-then-at-place c =
    let more = at_drop_more (λ (other : List ℕ). place_is_before (drop c.steps.at c.args.place.now) other) c.args.other.now c.steps.at 0 c.steps-test.true in
    let none = at_drop_all (λ (place : List ℕ). place_is_before place (get_or c.args.other.now c.steps.at 0 ∷ drop (c.steps.at + 1) c.args.other.now)) c.args.place.now c.steps.at c.if-at-place.true in
    sym (more ∙ none) ∙ c.steps.invariant
