use Rattle.std.proofs.Common.{◌≡◌, ◌∙◌, ℕ, List, Bor, map, ap, rules}
use Rattle.std.specs.Cmp.{nat_cmp_total}
use Rattle.std.specs.Cmp.Lexicographic.{lists_total}
use Rattle.std.specs.Ordering.{is_lt}
use Rattle.std.proofs.lemmas.Fn.{always_returns_same}
use Rattle.std.proofs.lemmas.List.Sorted.{ranks_by}
use Rattle.dt_base.specs.names.Grammar.{dtmi_text}
use Rattle.dtdl_terms.specs.declared.interface.Interface.{Interface}
use Rattle.canon_text.specs.Sorting.{is_before}
use Rattle.canon_text.specs.Machinery.Pairs.{pair_name, pair_at}
use Rattle.canon_text.proofs.SortedOnce.{stably_sorted}
use Rattle.canon_text.proofs.SortedMap.{map_sorted_by}
use Rattle.canon_text.proofs.set_texts.sort_lent.Goals as goal

pub returns : goal.returns
returns c =
    let key : Bor Interface → List ℕ = λ i. dtmi_text i.now.id in
    let ranks = ranks_by (lists_total nat_cmp_total) key in
    let answers = always_returns_same _ (λ a r. is_lt r ≡ is_before (dtmi_text a.0.now.now.id) (dtmi_text a.1.0.now.now.id)) _ (λ a r q k. search rules) in
    let up = c.in_ok-sort_by.ensures.sorted _ ranks answers in
    let stable = c.in_ok-sort_by.ensures.stable _ ranks answers in
    let once = stably_sorted key c.args.list.now.items c.sort_by.new.self.items up stable in
    ap (λ (is : List (Bor Interface)). map pair_at is) once ∙ map_sorted_by pair_at pair_name c.args.list.now.items
