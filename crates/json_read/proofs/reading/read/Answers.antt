use Rattle.std.proofs.Common.{sym, ◌∙◌}
use Rattle.std.specs.Option.{option_map}
use Rattle.std.proofs.lemmas.Result.{err_from_is_err_and}
use Rattle.json_tree.specs.View.{view}
use Rattle.json_read.specs.Faults.{IsDuplicateAt, IsRangeAt}
use Rattle.json_read.proofs.Preorder.{is_before-true, is_before-false}
use Rattle.json_read.proofs.Verdicts.{no_place, a_place, read_fault, spells, duplicate_fault, range_fault, range_later, duplicate_later}
use Rattle.json_read.proofs.reading.read.Goals as goal

pub returns-in_err-tree : goal.returns-in_err-tree
returns-in_err-tree c =
    let e = err_from_is_err_and c.from_residual.result c.from_residual.ensures.1 in
    rw (e.1, e.2) (read_fault c.args.bytes.now c.in_err-tree.field-0.0 c.in_err-tree.ensures)

pub returns-in-None-None : goal.returns-in-None-None
returns-in-None-None c =
    let r = c.in_ok-tree.ensures in
    let d = rw c.in-None-None.is-0 at c.place_of.ensures in
    let e = rw c.in-None-None.is-1 at c.place_of-2.ensures in
    spells c.one_number.ensures c.args.bytes.now r.0 (view c.in_ok-tree.field-0.tree) r.3 r.1
    (no_place (IsRangeAt r.0) (option_map (λ v. v.items) c.in_ok-tree.field-0.range) r.2 (sym e))
    (no_place (IsDuplicateAt (view c.in_ok-tree.field-0.tree)) (option_map (λ v. v.items) c.in_ok-duplicate.duplicate) c.in_ok-duplicate.ensures (sym d))

pub returns-in-None-Some : goal.returns-in-None-Some
returns-in-None-Some c =
    let r = c.in_ok-tree.ensures in
    let d = rw c.in-None-Some.is-0 at c.place_of.ensures in
    let e = rw c.in-None-Some.is-1 at c.place_of-2.ensures in
    let none = no_place (IsDuplicateAt (view c.in_ok-tree.field-0.tree)) (option_map (λ v. v.items) c.in_ok-duplicate.duplicate) c.in_ok-duplicate.ensures (sym d) in
    range_fault c.args.bytes.now r.0 (view c.in_ok-tree.field-0.tree) c.in-None-Some.place.steps r.3 r.1
    (a_place (IsRangeAt r.0) (option_map (λ v. v.items) c.in_ok-tree.field-0.range) c.in-None-Some.place.steps r.2 (sym e))
    (λ other d. absurd (none other d))

pub returns-in-Some-None : goal.returns-in-Some-None
returns-in-Some-None c =
    let r = c.in_ok-tree.ensures in
    let none = no_place (IsRangeAt r.0) (option_map (λ v. v.items) c.in_ok-tree.field-0.range) r.2 (sym c.in-Some-None.ensures') in
    duplicate_fault c.args.bytes.now r.0 (view c.in_ok-tree.field-0.tree) c.in-Some-None.place.steps r.3 r.1
    (a_place (IsDuplicateAt (view c.in_ok-tree.field-0.tree)) (option_map (λ v. v.items) c.in_ok-duplicate.duplicate) c.in-Some-None.place.steps c.in_ok-duplicate.ensures (sym c.in-Some-None.ensures))
    (λ other out less. none other out)

pub returns-then-is_before : goal.returns-then-is_before
returns-then-is_before c =
    let r = c.in_ok-tree.ensures in
    let first = a_place (IsDuplicateAt (view c.in_ok-tree.field-0.tree)) (option_map (λ v. v.items) c.in_ok-duplicate.duplicate) c.in-Some-Some.place.steps c.in_ok-duplicate.ensures (sym c.in-Some-Some.ensures) in
    let range = a_place (IsRangeAt r.0) (option_map (λ v. v.items) c.in_ok-tree.field-0.range) c.in-Some-Some.other.steps r.2 (sym c.in-Some-Some.ensures') in
    let test = rw (c.as_slice.ensures, c.as_slice-in-Some-Some.ensures) at (sym c.is_before.ensures ∙ c.if-is_before.true) in
    let less = is_before-true c.in-Some-Some.other.steps c.in-Some-Some.place.steps test in
    range_fault c.args.bytes.now r.0 (view c.in_ok-tree.field-0.tree) c.in-Some-Some.other.steps r.3 r.1 range
    (duplicate_later (view c.in_ok-tree.field-0.tree) c.in-Some-Some.place.steps c.in-Some-Some.other.steps first less)

pub returns : goal.returns
returns c =
    let r = c.in_ok-tree.ensures in
    let first = a_place (IsDuplicateAt (view c.in_ok-tree.field-0.tree)) (option_map (λ v. v.items) c.in_ok-duplicate.duplicate) c.in-Some-Some.place.steps c.in_ok-duplicate.ensures (sym c.in-Some-Some.ensures) in
    let range = a_place (IsRangeAt r.0) (option_map (λ v. v.items) c.in_ok-tree.field-0.range) c.in-Some-Some.other.steps r.2 (sym c.in-Some-Some.ensures') in
    let test = rw (c.as_slice.ensures, c.as_slice-in-Some-Some.ensures) at (sym c.is_before.ensures ∙ c.if-is_before.false) in
    duplicate_fault c.args.bytes.now r.0 (view c.in_ok-tree.field-0.tree) c.in-Some-Some.place.steps r.3 r.1 first
    (range_later r.0 c.in-Some-Some.place.steps c.in-Some-Some.other.steps range (is_before-false c.in-Some-Some.other.steps c.in-Some-Some.place.steps test))
