use Rattle.std.proofs.Common.{◌≡◌, List, ℕ, map, ◌==◌, Bor, ap, ◌∙◌, arith}
use Rattle.std.proofs.lemmas.List.Splits.{length-slice_split}
use Rattle.page_tokens.specs.Tokens.{token_parts}
use Rattle.page_tokens.proofs.Naming.{told}
use Rattle.page_tokens.proofs.tokens.ids_of_token.Goals as goal

pub returns-then-count-eq0 : goal.returns-then-count-eq0
returns-then-count-eq0 c = λ ids h.
    let a = h.number in
    let b = length-slice_split (λ x. x == 47) c.args.text.now in
    omega arith

pub returns-then-slashes-count : goal.returns-then-slashes-count
returns-then-slashes-count c = λ ids h.
    let a = h.number in
    let b = length-slice_split (λ x. x == 47) c.args.text.now in
    let d = c.slashes.ensures in
    omega arith

pub returns : goal.returns
returns c =
    let same : map (λ (p : Bor (List ℕ)). p.now) c.deref.result.now ≡ token_parts c.args.text.now = ap (map (λ (p : Bor (List ℕ)). p.now)) c.deref.ensures.value ∙ c.in_ok-parts.ensures in
    let e = c.slashes.ensures in
    let f = c.if-slashes-count.false in
    let some = c.if-count-eq0.false in
    let n = length-slice_split (λ x. x == 47) c.args.text.now in
    told (λ ids. ids.items) c.ids_of_parts.result (map (λ (p : Bor (List ℕ)). p.now) c.deref.result.now) c.args.text.now c.args.count same (omega arith) c.ids_of_parts.ensures
