use Rattle.std.proofs.Common.{◌≡◌, ◌∙◌, ap, rules}
use Rattle.std.specs.Cmp.{nat_cmp_total}
use Rattle.std.specs.Cmp.Lexicographic.{lists_total}
use Rattle.std.specs.Ordering.{is_lt}
use Rattle.std.proofs.lemmas.Fn.{always_returns_same}
use Rattle.std.proofs.lemmas.List.Sorted.{ranks_by}
use Rattle.canon_text.specs.Sorting.{is_before}
use Rattle.canon_text.proofs.SortedOnce.{stably_sorted}
use Rattle.canon_text.proofs.SortedMap.{map_sorted_by}
use Rattle.canon_print.specs.Machinery.Lent.{values_now}
use Rattle.canon_print.proofs.sorting.sort_lent.Goals as goal

pub returns : goal.returns
returns g c =
    let ranks = ranks_by (lists_total nat_cmp_total) (λ i. g.T.Named.name_of i.now) in
    let answers = always_returns_same _ (λ a r. is_lt r ≡ is_before (g.T.Named.name_of a.0.now.now) (g.T.Named.name_of a.1.0.now.now)) _ (λ a r q k. search rules) in
    let up = c.in_ok-sort_by.ensures.sorted _ ranks answers in
    let stable = c.in_ok-sort_by.ensures.stable _ ranks answers in
    let once = stably_sorted (λ i. g.T.Named.name_of i.now) c.args.list.now.items c.sort_by.new.self.items up stable in
    ap values_now once ∙ map_sorted_by (λ i. i.now) g.T.Named.name_of c.args.list.now.items
