use Rattle.std.proofs.Common.{◌≡◌, ◌∙◌, length, drop, sym, subst, arith}
use Rattle.std.specs.List.Sorted.{IsPermutation}
use Rattle.extend_resolve.specs.Machinery.Names.{all_contents, AreOrdered, HoldNumbers, rows_of}
use Rattle.extend_resolve.proofs.Naming.{naming_made, sorted_entries, written_back}
use Rattle.extend_resolve.proofs.names.Names.new.Goals as goal

pub number_all-requires : goal.number_all-requires
number_all-requires c =
    let old = c.in_ok-entries.entries.items in
    let new = c.sort_unstable.new.self in
    let moved : IsPermutation old new = subst (λ es. IsPermutation es new) c.as_mut_slice.ensures.value c.sort_unstable.ensures.permutation in
    let ordered = sorted_entries (all_contents c.args.nodes.now) old new c.in_ok-entries.ensures moved c.sort_unstable.ensures.sorted in
    let size : c.in_ok-entries.entries.len ≡ length new = omega (arith, c.sort_unstable.ensures.len, c.as_mut_slice.ensures.len) in
    let whole = c.as_slice.ensures.value ∙ written_back new (drop (length new) old) c.in_ok-entries.entries.len size in
    let room : length new ≡ length c.as_mut_slice-2.result.now = omega (arith, size, c.in_ok-numbers.ensures.len, c.len-bound.ensures, c.as_mut_slice-2.ensures.len) in
    subst (AreOrdered c.as_slice.result.now) room (subst (λ es. AreOrdered es (length new)) (sym whole) ordered)

pub returns : goal.returns
returns c =
    let old = c.in_ok-entries.entries.items in
    let new = c.sort_unstable.new.self in
    let numbers = c.number_all.new.numbers in
    let moved : IsPermutation old new = subst (λ es. IsPermutation es new) c.as_mut_slice.ensures.value c.sort_unstable.ensures.permutation in
    let size : c.in_ok-entries.entries.len ≡ length new = omega (arith, c.sort_unstable.ensures.len, c.as_mut_slice.ensures.len) in
    let whole = c.as_slice.ensures.value ∙ written_back new (drop (length new) old) c.in_ok-entries.entries.len size in
    let long : length numbers ≡ length new = omega (arith, size, c.in_ok-numbers.ensures.len, c.len-bound.ensures, c.as_mut_slice-2.ensures.len, c.number_all.auto.numbers) in
    let bound : c.len-bound.result ≡ length new = c.len-bound.ensures ∙ size in
    let capacity : c.in_ok-numbers.numbers.len ≡ length numbers = omega (arith, long, bound, c.in_ok-numbers.ensures.len) in
    let read = c.as_slice-2.ensures.value ∙ written_back numbers (drop (length numbers) c.in_ok-numbers.numbers.items) c.in_ok-numbers.numbers.len capacity in
    naming_made c.args.nodes.now old new numbers c.in_ok-declared.declared.items c.len-bound.result c.in_ok-entries.ensures moved c.sort_unstable.ensures.sorted long
    (subst (λ es. HoldNumbers es (length es) numbers) whole c.number_all.ensures) (subst (λ xs. c.in_ok-declared.declared.items ≡ rows_of c.args.nodes.now xs) read c.in_ok-declared.ensures) bound
