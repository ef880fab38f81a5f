use Rattle.std.proofs.Common.{◌≡◌, ℕ, List, ◌∷◌, Option, Some, Bool, true, false, cond, sym, ap, ◌∙◌}
use Rattle.std.specs.Prelude.{bytes_eq}
use Rattle.std.specs.List.{find}
use Rattle.std.specs.Option.{option_map}
use Rattle.form_urlencoded.specs.Form.{raw_pairs}
use Rattle.form_urlencoded.specs.Parse.{raw_pairs_left}
use Rattle.graph_routes.specs.Parameters.{form_text}
use Rattle.graph_routes.proofs.parameters.parameter.Goals as goal

abbrev Pair : Type 0
Pair = List ℕ × List ℕ

abbrev has_name : List ℕ → Pair → Bool
has_name name = λ p. bytes_eq (form_text p.0) name

abbrev value_of : Option Pair → Option (List ℕ)
value_of o = option_map (λ p. form_text p.1) o

here : (test : Pair → Bool) (p : Pair) (ps : List Pair) → test p ≡ true → find test (p ∷ ps) ≡ Some p
here test p ps e = ap (λ (b : Bool). cond b (Some p) (find test ps)) e

past : (test : Pair → Bool) (p : Pair) (ps : List Pair) → test p ≡ false → find test (p ∷ ps) ≡ find test ps
past test p ps e = ap (λ (b : Bool). cond b (Some p) (find test ps)) e

pub pairs-init : goal.pairs-init
pairs-init c =
    ap (find (has_name c.args.name.now)) (ap raw_pairs_left c.into_iter-key-iterator.ensures.into_iter_gives ∙ c.raw_pairs-key-items.ensures.value ∙ ap raw_pairs c.as_bytes.ensures.value)

pub returns-then-branch : goal.returns-then-branch
returns-then-branch c =
    let test = has_name c.args.name.now in
    let p : Pair = (c.in-Some.key.now, c.in-Some.value.now) in
    let rest = raw_pairs_left c.next.new.self in
    let is : test p ≡ true = sym c.in_ok-is_named.ensures ∙ c.if-branch.true in
    let found : find test (raw_pairs c.args.query.now) ≡ Some p = sym c.pairs.invariant ∙ ap (find test) c.in-Some.ensures.steps ∙ here test p rest is in
    ap (λ (t : List ℕ). Some t) c.in_ok-value.ensures ∙ sym (ap value_of found)

pub pairs-preserved : goal.pairs-preserved
pairs-preserved c =
    let test = has_name c.args.name.now in
    let p : Pair = (c.in-Some.key.now, c.in-Some.value.now) in
    let rest = raw_pairs_left c.next.new.self in
    let is : test p ≡ false = sym c.in_ok-is_named.ensures ∙ c.if-branch.false in
    sym (past test p rest is) ∙ ap (find test) (sym c.in-Some.ensures.steps) ∙ c.pairs.invariant

pub returns : goal.returns
returns c = sym (ap value_of (sym c.pairs.invariant ∙ ap (find (has_name c.args.name.now)) c.in-None.ensures.steps.0))
