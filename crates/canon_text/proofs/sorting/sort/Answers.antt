use Rattle.std.proofs.Common.{◌≡◌, ◌∙◌, List, map, ap, rules}
use Rattle.std.specs.Cmp.{nat_cmp_total}
use Rattle.std.specs.Cmp.Lexicographic.{lists_total}
use Rattle.std.specs.Ordering.{is_lt}
use Rattle.std.proofs.lemmas.Fn.{always_returns_same}
use Rattle.std.proofs.lemmas.List.Sorted.{ranks_by}
use Rattle.json_tree.specs.View.{member_view}
use Rattle.json_tree.specs.declared.tree.Member.{Member}
use Rattle.canon_text.specs.Sorting.{is_before}
use Rattle.canon_text.specs.Machinery.Pairs.{pair_name}
use Rattle.canon_text.proofs.SortedOnce.{stably_sorted}
use Rattle.canon_text.proofs.SortedMap.{map_sorted_by}
use Rattle.canon_text.proofs.sorting.sort.Goals as goal

pub returns : goal.returns
returns c =
    let ranks = ranks_by (lists_total nat_cmp_total) (λ (m : Member). m.key) in
    let answers = always_returns_same _ (λ a r. is_lt r ≡ is_before a.0.now.key a.1.0.now.key) _ (λ a r q k. search rules) in
    let up = c.in_ok-sort_by.ensures.sorted _ ranks answers in
    let stable = c.in_ok-sort_by.ensures.stable _ ranks answers in
    let once = stably_sorted (λ (m : Member). m.key) c.args.values.now.items c.sort_by.new.self.items up stable in
    ap (λ (ms : List Member). map member_view ms) once ∙ map_sorted_by member_view pair_name c.args.values.now.items
