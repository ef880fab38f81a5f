use Rattle.std.proofs.Common.{◌≡◌, ◌++◌, ◌-◌, ◌<◌, ◌∙◌, ap, length, decimal, string_bytes, slice_index, Result, Ok, Err, OnOk, List, ℕ, arith, [], ◌∷◌, subst}
use Rattle.std.specs.List.{insert_slice}
use Rattle.json_decimal.proofs.Written.{written}
use Rattle.json_decimal.proofs.Texts.{pointed, digit_at_point}
use Rattle.json_decimal.proofs.print.push_pointed.Goals as goal

-- what `insert` says of an `Ok`, with the list that it makes written otherwise
rewritten : {E : Type 0} (r : Result (Unit {0}) E) (new made wanted : List ℕ) → made ≡ wanted → OnOk r (new ≡ made) → OnOk r (new ≡ wanted)
rewritten (Ok u) new made wanted e h = h ∙ e
rewritten (Err f) new made wanted e h = tt

pub insert-requires : goal.insert-requires
insert-requires c =
    let ds = decimal c.args.coefficient in
    let below = c.requires.below in
    let few = c.requires.some in
    let wrote : string_bytes c.push_digits.new.text ≡ string_bytes c.args.text.now ++ decimal c.args.coefficient = c.in_ok-push_digits.ensures in
    let at = length c.as_str-end.result.now - c.args.places in
    let place : at ≡ length (string_bytes c.args.text.now ++ ds) - c.args.places = ap (λ t. length t - c.args.places) (c.as_str-end.ensures.value ∙ wrote) in
    let digit : slice_index (string_bytes c.args.text.now ++ ds) at < 128 = digit_at_point (string_bytes c.args.text.now) ds c.args.places at (written c.args.coefficient (omega arith)).digits (omega arith) place in
    let at_digit : slice_index (string_bytes c.push_digits.new.text) at < 128 = rw wrote digit in
    (omega (arith, ap length c.as_str-end.ensures.value), λ a b d. absurd (omega arith))

pub returns : goal.returns
returns c =
    let ds = decimal c.args.coefficient in
    let few = c.requires.some in
    let wrote : string_bytes c.push_digits.new.text ≡ string_bytes c.args.text.now ++ decimal c.args.coefficient = c.in_ok-push_digits.ensures in
    let at = length c.as_str-end.result.now - c.args.places in
    let place : at ≡ length (string_bytes c.args.text.now ++ ds) - c.args.places = ap (λ t. length t - c.args.places) (c.as_str-end.ensures.value ∙ wrote) in
    rewritten c.insert.result _ _ _ (ap (λ t. insert_slice t at (46 ∷ [])) wrote ∙ pointed (string_bytes c.args.text.now) ds c.args.places at (omega arith) place) (subst (λ (t : List ℕ). OnOk c.insert.result (string_bytes c.insert.new.self ≡ insert_slice (string_bytes c.push_digits.new.text) at t)) (c.insert.ensures.ascii (omega arith)) c.insert.ensures.bytes)
