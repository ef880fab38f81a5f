-- Uploads that come to no models: what the set of their interfaces has under each identifier.
use Rattle.std.proofs.Common.{◌≡◌, ℕ, zero, suc, List, [], ◌∷◌, ◌++◌, map, false, Some, None, refl, sym, ap, ◌∙◌, subst, append-nil}
use Rattle.std.specs.Prelude.{slice_get, IsSome}
use Rattle.std.specs.Option.{is_some}
use Rattle.std.specs.List.{AllByRecursion}
use Rattle.std.specs.List.Sorted.{IsStrictlySortedBy}
use Rattle.dt_base.specs.names.Grammar.{Identifier}
use Rattle.dtdl_terms.specs.Sets.{InOrder, interface_at}
use Rattle.dtdl_terms.specs.declared.uploaded.Uploaded.{Uploaded}
use Rattle.extend_resolve.specs.Breaches.{IsSound}
use Rattle.model_life.specs.Models.{Model, interfaces_of, with_new_models}
use Rattle.model_life.specs.resolution.Resolving.{EntryOf, entry_at}
use Rattle.model_life.specs.sets.Changing.{with_uploads, is_one_of, HaveDistinctIds}
use Rattle.model_life.proofs.Growing.{upload_there}
use Rattle.model_life.proofs.Recorded.{interfaces_kept}
use Rattle.model_life.proofs.Refused.{interfaces_with}
use Rattle.model_life.proofs.sets.Looking.{AreAbsent}
use Rattle.model_life.proofs.sets.Sound.{new_apart}
use Rattle.resolved_table.specs.Tables.{ResolvesOthers}

no_interfaces : InOrder []
unfolding IsStrictlySortedBy
no_interfaces = tt

all_absent : (us : List Uploaded) → AreAbsent [] us
all_absent [] = tt
all_absent (u ∷ us) = (refl, all_absent us)

each_id : (P : Identifier → Type 0) (us : List Uploaded) → ((k : ℕ) (u : Uploaded) → slice_get us k ≡ Some u → P u.interface.id) → AllByRecursion P (map (λ u. u.interface.id) us)
each_id P [] all = tt
each_id P (u ∷ us) all = (all zero u refl, each_id P us (λ k v at. all (suc k) v at))

module _ (us : List Uploaded) (sound : IsSound [] us) where
  apart : HaveDistinctIds (map (λ (u : Uploaded). u.interface) us)
  apart = new_apart [] us no_interfaces (all_absent us) sound

  others_none : (q : Identifier) → is_one_of (map (λ (u : Uploaded). u.interface.id) us) q ≡ false → interface_at q (with_uploads us []) ≡ None
  others_none q off =
      interfaces_kept us [] [] (all_absent (us ++ [])) (subst (λ (xs : List Uploaded). HaveDistinctIds (map (λ (u : Uploaded). u.interface) xs)) (sym (append-nil us)) apart) q
      (ap (λ (xs : List Uploaded). is_one_of (map (λ (u : Uploaded). u.interface.id) xs) q) (append-nil us) ∙ off)

  resolves_none : ResolvesOthers (with_uploads us []) (map (λ (u : Uploaded). u.interface.id) us) []
  resolves_none = record {
    new = each_id (λ id. IsSome (interface_at id (with_uploads us [])) × (entry_at id [] ≡ None)) us (λ k u at. (ap is_some (upload_there us [] (all_absent us) apart k u at), refl));
    others = λ q off. subst (λ o. EntryOf (with_uploads us []) o None) (sym (others_none q off)) tt;
  }

-- nothing is resolved yet of the models that come where there were none
pub resolves_others : (us : List Uploaded) (ids : List Identifier) (before after : List Model) → before ≡ [] → after ≡ with_new_models us before → ids ≡ map (λ u. u.interface.id) us → IsSound (interfaces_of before) us → ResolvesOthers (interfaces_of after) ids []
resolves_others us ids before after none is of sound =
    let set : interfaces_of after ≡ with_uploads us [] = ap interfaces_of (is ∙ ap (with_new_models us) none) ∙ interfaces_with us [] in
    subst (λ s. ResolvesOthers s ids []) (sym set)
    (subst (λ xs. ResolvesOthers (with_uploads us []) xs []) (sym of) (resolves_none us (subst (λ ms. IsSound (interfaces_of ms) us) none sound)))
