-- Interfaces under their identifiers, as a map keeps them.
use Rattle.std.proofs.Common.{◌≡◌, List, [], ◌∷◌, map, Bool, true, false, cond, ◌&&◌, Some, None, refl, sym, ap, ◌∙◌, subst, Less, Equal, Greater, is_eq}
use Rattle.std.specs.Ordering.{match_ordering}
use Rattle.std.specs.List.{filter}
use Rattle.std.specs.List.Sorted.{IsStrictlySortedBy}
use Rattle.std.specs.Map.{lookup, remove_entry, keys_of, values_of}
use Rattle.std.specs.BTreeMap.{is_at, insert_entry}
use Rattle.std.proofs.lemmas.Option.{none-some}
use Rattle.dt_base.specs.names.Grammar.{Identifier, id_cmp}
use Rattle.dtdl_terms.specs.Sets.{keyed, InOrder, with_interface}
use Rattle.dtdl_terms.specs.declared.interface.Interface.{Interface}

pub values-keyed : (is : List Interface) → values_of (keyed is) ≡ is
values-keyed [] = refl
values-keyed (i ∷ is) = ap (λ js. i ∷ js) (values-keyed is)

keys-keyed : (is : List Interface) → keys_of (keyed is) ≡ map (λ (i : Interface). i.id) is
keys-keyed [] = refl
keys-keyed (i ∷ is) = ap (λ ids. i.id ∷ ids) (keys-keyed is)

pub ordered-keyed : (es : List (Identifier × Interface)) (is : List Interface) → es ≡ keyed is → IsStrictlySortedBy id_cmp (keys_of es) → InOrder is
ordered-keyed es is same sorted = subst (IsStrictlySortedBy id_cmp) (ap keys_of same ∙ keys-keyed is) sorted

-- what is put under its own identifier, where that is not there, keeps each interface under its own
pub insert-keyed : (i : Interface) (is : List Interface) → lookup (is_at (id_cmp i.id)) (keyed is) ≡ None → insert_entry id_cmp (keyed is) i.id i ≡ keyed (with_interface i is)
insert-keyed i [] absent = refl
insert-keyed i (j ∷ js) absent =
    elim (id_cmp i.id j.id) as (λ o. cond (is_eq o) (Some j) (lookup (is_at (id_cmp i.id)) (keyed js)) ≡ None
    → match_ordering o ((i.id, i) ∷ (j.id, j) ∷ keyed js) ((j.id, i) ∷ keyed js) ((j.id, j) ∷ insert_entry id_cmp (keyed js) i.id i)
    ≡ keyed (values_of (match_ordering o ((i.id, i) ∷ (j.id, j) ∷ keyed js) ((j.id, i) ∷ keyed js) ((j.id, j) ∷ insert_entry id_cmp (keyed js) i.id i)))) [
      | Less ↦ λ h. ap (λ ks. (i.id, i) ∷ (j.id, j) ∷ keyed ks) (sym (values-keyed js))
      | Equal ↦ λ h. absurd (none-some j (sym h))
      | Greater ↦ λ h. ap (λ es. (j.id, j) ∷ es) (insert-keyed i js h)
    ] absent

pub remove-keyed : (test : Identifier → Bool) (is : List Interface) → remove_entry test (keyed is) ≡ keyed (values_of (remove_entry test (keyed is)))
remove-keyed test [] = refl
remove-keyed test (j ∷ js) =
    elim (test j.id) as (λ b. cond b (keyed js) ((j.id, j) ∷ remove_entry test (keyed js)) ≡ keyed (values_of (cond b (keyed js) ((j.id, j) ∷ remove_entry test (keyed js))))) [
      | true ↦ ap keyed (sym (values-keyed js))
      | false ↦ ap (λ es. (j.id, j) ∷ es) (remove-keyed test js)
    ]

-- ---- walks
pub filter-every : {X : Type 0} (xs : List X) → filter (λ _. true) xs ≡ xs
filter-every [] = refl
filter-every (x ∷ xs) = ap (λ ys. x ∷ ys) (filter-every xs)

pub filter-keyed : (p : Identifier → Bool) (is : List Interface) → values_of (filter (λ e. p e.0) (keyed is)) ≡ filter (λ i. p i.id) is
filter-keyed p [] = refl
filter-keyed p (j ∷ js) =
    elim (p j.id) as (λ b. values_of (cond b ((j.id, j) ∷ filter (λ (e : Identifier × Interface). p e.0) (keyed js)) (filter (λ (e : Identifier × Interface). p e.0) (keyed js))) ≡ cond b (j ∷ filter (λ (i : Interface). p i.id) js) (filter (λ (i : Interface). p i.id) js)) [
      | true ↦ ap (λ ks. j ∷ ks) (filter-keyed p js)
      | false ↦ filter-keyed p js
    ]

and_true : (b : Bool) → (b && true) ≡ b
and_true true = refl
and_true false = refl

-- no upper bound refuses nothing
pub filter-bounded : (p : Identifier → Bool) (es : List (Identifier × Interface)) → filter (λ e. p e.0 && true) es ≡ filter (λ e. p e.0) es
filter-bounded p [] = refl
filter-bounded p (e ∷ es) =
    ap (λ b. cond b (e ∷ filter (λ (f : Identifier × Interface). p f.0 && true) es) (filter (λ (f : Identifier × Interface). p f.0 && true) es)) (and_true (p e.0))
    ∙ ap (λ fs. cond (p e.0) (e ∷ fs) fs) (filter-bounded p es)
