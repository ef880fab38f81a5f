use Rattle.std.proofs.Common.{◌≡◌, ◌<◌, ◌+◌, ◌-◌, ◌∙◌, Some, true≢false, length, get_or, sym, ap, arith, length-set}
use Rattle.std.specs.Prelude.{slice_get}
use Rattle.std.proofs.lemmas.Option.{same_Some}
use Rattle.extend_resolve.specs.Machinery.Names.{SortedName, number_named}
use Rattle.extend_resolve.proofs.Members.{read_placed}
use Rattle.extend_resolve.proofs.Naming.{nothing, place_within, fresh_number, same_number_again, numbered_more}
use Rattle.extend_resolve.proofs.names.number_all.Goals as goal
use Rattle.extend_resolve.proofs.names.number_all.Goals.{then-not-repeats, else-not-repeats}

pub bounds-numbers-place : goal.bounds-numbers-place
bounds-numbers-place c =
    let entries = c.args.entries.now in
    let index = c.entries.index in
    let e : SortedName = get_or entries index nothing in
    let low = place_within entries (length c.args.numbers.now) index e c.requires (read_placed entries index nothing c.entries-test.true) in
    omega (arith, low, c.entries.auto.numbers)

pub offset_bounds-numbers-place : goal.offset_bounds-numbers-place
offset_bounds-numbers-place c =
    let entries = c.args.entries.now in
    let index = c.entries.index in
    let e : SortedName = get_or entries index nothing in
    let low : e.2 < length c.args.numbers.now = place_within entries (length c.args.numbers.now) index e c.requires (read_placed entries index nothing c.entries-test.true) in
    omega arith

pub entries-preserved : goal.entries-preserved
entries-preserved c =
    let entries = c.args.entries.now in
    let index = c.entries.index in
    let numbers = c.entries.numbers in
    let number = c.if-not-repeats.number in
    let e : SortedName = get_or entries index nothing in
    let at : slice_get entries index ≡ Some e = read_placed entries index nothing c.entries-test.true in
    let is : number_named entries e.1.now ≡ Some number = elim c.if-not-repeats.branch [
      | then-not-repeats w ↦
          fresh_number entries (length c.args.numbers.now) c.requires index e at (λ again. true≢false (sym (c.repeats.ensures.1 again) ∙ w.if-not-repeats.true))
          ∙ ap Some (sym w.number-is)
      | else-not-repeats w ↦
          same_number_again entries index number e at (c.repeats.ensures.0 w.if-not-repeats.false)
          (λ d low there. c.entries.invariant.number d low there ∙ ap Some (sym w.number-is))
    ] in
    let back : index ≡ index + 1 - 1 = omega arith in
    record {
      size = length-set numbers e.2 number ∙ c.entries.invariant.size;
      written = numbered_more entries (length c.args.numbers.now) index number numbers e c.requires at is c.entries.invariant.written;
      number = λ d low there.
          let same = same_Some e d (sym at ∙ ap (slice_get entries) back ∙ there) in
          ap (λ (f : SortedName). number_named entries f.1.now) (sym same) ∙ is;
    }
