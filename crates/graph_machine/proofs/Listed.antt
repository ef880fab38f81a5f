-- Models in the order of the set, as lists and canonical texts have them.
use Rattle.std.proofs.Common.{◌≡◌, ℕ, List, [], ◌∷◌, map, false, cond, if◌then◌else◌, Some, refl, ap, ◌∙◌, Less, is_eq}
use Rattle.std.specs.Ordering.{is_lt, ordering_reverse}
use Rattle.std.specs.List.{AllByRecursion}
use Rattle.std.proofs.lemmas.Cmp.{nat_list_cmp_total}
use Rattle.std.proofs.lemmas.Map.Keys.{sorted_head, sorted_tail}
use Rattle.dt_base.specs.names.Grammar.{Identifier, dtmi_text, id_cmp}
use Rattle.json_tree.specs.Values.{Json, array, elements_of}
use Rattle.dtdl_terms.specs.Sets.{keyed, InOrder}
use Rattle.dtdl_terms.specs.declared.interface.Interface.{Interface}
use Rattle.canon_text.specs.Sorting.{is_before, put_by, sorted_by}
use Rattle.canon_text.specs.Canonical.{interface_value, interface_pair, set_value}
use Rattle.model_life.proofs.resolution.ByKey.{C, alike, apart}
use Rattle.model_life.specs.Models.{Model, interfaces_of, model_at}
use Rattle.graph_steps.specs.ModelAsks.{mark_value}
use Rattle.graph_machine.specs.Machinery.Marks.{mark_json, mark_of, entry_json}
use Rattle.graph_machine.proofs.Ascending.{all_unmapped, Before, Ascend, ascend}

-- ---- marks by identifiers
others : (m : Model) (ms ns : List Model) → AllByRecursion (Before m.interface.id) ns → map (entry_json (m ∷ ms)) (keyed (interfaces_of ns)) ≡ map (entry_json ms) (keyed (interfaces_of ns))
others m ms [] all = refl
others m ms (n ∷ ns) all =
    ap (λ b. mark_json (dtmi_text n.interface.id) (mark_of (cond b (Some m) (model_at n.interface.id ms))) ∷ map (entry_json (m ∷ ms)) (keyed (interfaces_of ns))) (apart (dtmi_text m.interface.id) (dtmi_text n.interface.id) all.0)
    ∙ ap (λ vs. entry_json ms (n.interface.id, n.interface) ∷ vs) (others m ms ns all.1)

in_order : (ms : List Model) → Ascend ms → map (entry_json ms) (keyed (interfaces_of ms)) ≡ map mark_value ms
in_order [] up = refl
in_order (m ∷ ms) up =
    ap (λ o. mark_json (dtmi_text m.interface.id) (mark_of (cond (is_eq o) (Some m) (model_at m.interface.id ms))) ∷ map (entry_json (m ∷ ms)) (keyed (interfaces_of ms))) (alike (dtmi_text m.interface.id))
    ∙ ap (λ vs. mark_value m ∷ vs) (others m ms ms up.0 ∙ in_order ms up.1)

pub all_listed : (ms : List Model) → InOrder (interfaces_of ms) → map (entry_json ms) (keyed (interfaces_of ms)) ≡ map mark_value ms
all_listed ms sorted = in_order ms (ascend ms sorted)

-- ---- the canonical text of a set in order
abbrev Pair : Type 0
Pair = List ℕ × Json

put_first : (p : Pair) (ps : List Pair) → AllByRecursion (λ q. is_before q.0 p.0 ≡ false) ps → put_by (λ (m : Pair). m.0) p ps ≡ p ∷ ps
put_first p [] all = refl
put_first p (q ∷ qs) all = ap (λ b. if b then q ∷ put_by (λ (m : Pair). m.0) p qs else p ∷ q ∷ qs) all.0

not_before : (a b : List ℕ) → C a b ≡ Less → is_before b a ≡ false
not_before a b h = ap is_lt (nat_list_cmp_total.antisymm b a ∙ ap ordering_reverse h)

all_later : (i : Interface) (is : List Interface) → AllByRecursion (λ j. id_cmp i.id j.id ≡ Less) is → AllByRecursion (λ (q : Pair). is_before q.0 (dtmi_text i.id) ≡ false) (map interface_pair is)
all_later i [] all = tt
all_later i (j ∷ js) all = (not_before (dtmi_text i.id) (dtmi_text j.id) all.0, all_later i js all.1)

sorted_pairs : (is : List Interface) → InOrder is → sorted_by (λ (m : Pair). m.0) (map interface_pair is) ≡ map interface_pair is
sorted_pairs [] sorted = refl
sorted_pairs (i ∷ is) sorted =
    let later = all_unmapped (λ (j : Interface). j.id) (λ k. id_cmp i.id k ≡ Less) is (sorted_head id_cmp i.id (map (λ (j : Interface). j.id) is) sorted) in
    ap (put_by (λ (m : Pair). m.0) (interface_pair i)) (sorted_pairs is (sorted_tail id_cmp i.id (map (λ (j : Interface). j.id) is) sorted))
    ∙ put_first (interface_pair i) (map interface_pair is) (all_later i is later)

values : (is : List Interface) → map (λ (m : Pair). m.1) (map interface_pair is) ≡ map (λ (e : Identifier × Interface). interface_value e.1) (keyed is)
values [] = refl
values (i ∷ is) = ap (λ vs. interface_value i ∷ vs) (values is)

pub value_in_order : (is : List Interface) → InOrder is → set_value is ≡ array (elements_of (map (λ (e : Identifier × Interface). interface_value e.1) (keyed is)))
value_in_order is sorted =
    ap (λ ps. array (elements_of (map (λ (m : Pair). m.1) ps))) (sorted_pairs is sorted)
    ∙ ap (λ vs. array (elements_of vs)) (values is)
