-- Tables where interfaces come into their set or go from it.
use Rattle.std.proofs.Common.{◌≡◌, List, Bool, true, false, cond, Option, Some, None, refl, sym, ◌∙◌, subst, is_eq}
use Rattle.std.specs.Prelude.{IsSome}
use Rattle.std.specs.List.{AllByRecursion, list_any}
use Rattle.std.specs.List.Sorted.{IsStrictlySortedBy}
use Rattle.std.specs.Map.{keys_of, remove_entry}
use Rattle.std.specs.BTreeMap.{is_at}
use Rattle.std.proofs.lemmas.Option.{same_Some, none-some}
use Rattle.dt_base.specs.names.Grammar.{Identifier, id_cmp, id_eq}
use Rattle.dtdl_terms.specs.Sets.{InOrder, interface_at, without_interface}
use Rattle.dtdl_terms.specs.declared.interface.Interface.{Interface}
use Rattle.dtdl_terms.specs.declared.resolved.Resolved.{Resolved}
use Rattle.extend_resolve.specs.Breaches.{BreaksNoRule}
use Rattle.model_life.specs.resolution.Resolving.{IsResolved, EntryOf, entry_at, HoldsRight, IsWithin, IsFree}
use Rattle.model_life.proofs.resolution.Changes.{same_resolved, lacks_none, all_map, taken_out, left, held_with_less}
use Rattle.model_life.proofs.resolution.Families.{stands}
use Rattle.resolved_table.specs.Tables.{ResolvesAll, ResolvesOthers}

changes : (s t : List Interface) (o : Option Interface) (e : Option Resolved) → ((i : Interface) (r : Resolved) → o ≡ Some i → e ≡ Some r → IsResolved s i r → IsResolved t i r) → EntryOf s o e → EntryOf t o e
changes s t None None f h = tt
changes s t None (Some r) f h = absurd h
changes s t (Some i) None f h = absurd h
changes s t (Some i) (Some r) f h = f i r refl refl h

no_entry : (set : List Interface) (o : Option Interface) (e : Option Resolved) → o ≡ None → EntryOf set o e → e ≡ None
no_entry set None None is h = refl
no_entry set None (Some r) is h = absurd h
no_entry set (Some i) e is h = absurd (none-some i (sym is))

-- where interfaces come, the entries of the others stay
pub with_more : (old new : List Interface) (ids : List Identifier) (table : List (Identifier × Resolved)) → BreaksNoRule old → IsWithin old new
    → AllByRecursion (λ id. IsSome (interface_at id new) × (interface_at id old ≡ None)) ids → ((id : Identifier) → list_any (id_eq id) ids ≡ false → interface_at id new ≡ interface_at id old)
    → ResolvesAll old table → ResolvesOthers new ids table
with_more old new ids table sound within fresh others all = record {
  new = all_map (λ id. IsSome (interface_at id new) × (interface_at id old ≡ None)) (λ id. IsSome (interface_at id new) × (entry_at id table ≡ None)) ids
      (λ id h. (h.0, no_entry old (interface_at id old) (entry_at id table) h.1 (all id))) fresh;
  others = λ id none. subst (λ o. EntryOf new o (entry_at id table)) (sym (others id none))
      (changes old new (interface_at id old) (entry_at id table) (λ i r found _. (same_resolved old new within (lacks_none old sound) i r (stands old id i found)).0) (all id));
}

-- ---- an interface that goes
right_of : (set : List Interface) (o : Option Interface) (e : Option Resolved) (r : Resolved) → EntryOf set o e → e ≡ Some r → (i : Interface) × (o ≡ Some i) × IsResolved set i r
right_of set None None r h is = absurd (none-some r is)
right_of set None (Some s) r h is = absurd h
right_of set (Some i) None r h is = absurd h
right_of set (Some i) (Some s) r h is = (i, refl, subst (IsResolved set i) (same_Some s r is) h)

pub with_less : (set : List Interface) (id : Identifier) → BreaksNoRule set → InOrder set → IsFree set id → (table : List (Identifier × Resolved)) → IsStrictlySortedBy id_cmp (keys_of table)
    → ResolvesAll set table → ResolvesAll (without_interface id set) (remove_entry (is_at (id_cmp id)) table)
with_less set id sound sorted free table ordered all q = by (is_eq (id_cmp id q)) (left id q set sorted) (taken_out id q table ordered)
  where
    right : HoldsRight (without_interface id set) (remove_entry (is_at (id_cmp id)) table)
    right = held_with_less set id sound sorted free table ordered (λ p r there. right_of set (interface_at p set) (entry_at p table) r (all p) there)

    by : (b : Bool) → interface_at q (without_interface id set) ≡ cond b None (interface_at q set) → entry_at q (remove_entry (is_at (id_cmp id)) table) ≡ cond b None (entry_at q table)
        → EntryOf (without_interface id set) (interface_at q (without_interface id set)) (entry_at q (remove_entry (is_at (id_cmp id)) table))
    by true is also =
        subst (λ o. EntryOf (without_interface id set) o (entry_at q (remove_entry (is_at (id_cmp id)) table))) (sym is) (subst (λ e. EntryOf (without_interface id set) None e) (sym also) tt)
    by false is also =
        subst (λ e. EntryOf (without_interface id set) (interface_at q (without_interface id set)) e) (sym also)
        (subst (λ o. EntryOf (without_interface id set) o (entry_at q table)) (sym is)
        (changes set (without_interface id set) (interface_at q set) (entry_at q table)
        (λ i r found held _.
        let one = right q r (also ∙ held) in
        subst (λ j. IsResolved (without_interface id set) j r) (same_Some one.0 i (sym one.1 ∙ is ∙ found)) one.2) (all q)))
