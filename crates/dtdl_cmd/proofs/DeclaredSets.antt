-- What documents without faults declare.
use Rattle.std.proofs.Common.{◌≡◌, ◌≢◌, ℕ, zero, suc, ◌+◌, ◌<◌, List, [], ◌∷◌, Some, take, map, refl, sym, ap, subst, ◌∙◌, arith}
use Rattle.std.specs.Prelude.{Contains, slice_get}
use Rattle.std.specs.List.{AllByRecursion, AllZip}
use Rattle.std.proofs.lemmas.Option.{same_Some}
use Rattle.local_rules.specs.Breaches.{BreaksNoLocalRule}
use Rattle.json_tree.specs.Values.{Json}
use Rattle.json_tree.specs.Grammar.{Spells}
use Rattle.dt_base.specs.names.Grammar.{Identifier, dtmi_text}
use Rattle.dtdl_terms.specs.Distinct.{AreDistinct}
use Rattle.dtdl_terms.specs.declared.interface.Interface.{Interface}
use Rattle.dtdl_terms.specs.declared.uploaded.Uploaded.{Uploaded}
use Rattle.local_rules.specs.Soundness.{IsSoundInterface, IsSoundlyDeclared}
use Rattle.canon_text.proofs.Told.{all_with}
use Rattle.canon_faults.proofs.Uploads.{all_soundly, sound_interface}
use Rattle.extend_resolve.specs.Breaches.{IsSound}
use Rattle.extend_resolve.specs.declared.rule.SetRule.TheVariants as rules
use Rattle.dtdl_terms.specs.declared.spot.Spot.TheVariants as spots
use Rattle.documents.specs.FirstFaults.{AllUploaded, Declare}
use Rattle.dtdl_cmd.specs.Answers.{uploaded_interfaces}
use Rattle.model_read.proofs.Pairs.{distinct_pairs, mapped_back}
use Rattle.dtdl_cmd.proofs.Ordinals.{all_append}

-- ---- each interface
soundly : (n : ℕ) (ds : List (List ℕ)) (vs : List Json) (us : List Uploaded) → AllZip Spells ds vs → AllByRecursion BreaksNoLocalRule vs → AllUploaded n vs us
    → AllByRecursion (λ u. IsSoundlyDeclared u.interface) us
soundly n [] [] us spelled unbroken none = subst (AllByRecursion (λ u. IsSoundlyDeclared u.interface)) (sym none) tt
soundly n [] (v ∷ vs) us spelled unbroken h = absurd spelled
soundly n (d ∷ ds) [] us spelled unbroken h = absurd spelled
soundly n (d ∷ ds) (v ∷ vs) us spelled unbroken (first, rest, h, t, e) =
    subst (AllByRecursion (λ u. IsSoundlyDeclared u.interface)) (sym e)
    (all_append (λ u. IsSoundlyDeclared u.interface) first rest (all_soundly d v n first spelled.0 unbroken.0 h) (soundly (n + 1) ds vs rest spelled.1 unbroken.1 t))

pub without_places : (P : Interface → Type 0) (us : List Uploaded) → AllByRecursion (λ u. P u.interface) us → AllByRecursion P (uploaded_interfaces us)
without_places P [] all = tt
without_places P (u ∷ us) all = (all.0, without_places P us all.1)

pub declared_soundly : (documents : List (List ℕ)) (us : List Uploaded) → Declare documents us → AllByRecursion IsSoundlyDeclared (uploaded_interfaces us)
declared_soundly documents us d = without_places IsSoundlyDeclared us (soundly 1 documents d.values us d.spelled d.unbroken d.uploaded)

pub all_sound : (documents : List (List ℕ)) (us : List Uploaded) → Declare documents us → AllByRecursion IsSoundInterface (uploaded_interfaces us)
all_sound documents us d = all_with IsSoundlyDeclared IsSoundInterface sound_interface (uploaded_interfaces us) (declared_soundly documents us d)

-- ---- their identifiers
among : (us : List Uploaded) (k l : ℕ) (u : Uploaded) → k < l → slice_get us k ≡ Some u → Contains (map (λ v. v.interface) (take l us)) u.interface
among [] k l u less at = absurd cc
among (w ∷ ws) k zero u less at = absurd (omega (arith, less))
among (w ∷ ws) zero (suc l) u less at = (0, omega arith, ap (λ v. v.interface) (same_Some w u at))
among (w ∷ ws) (suc k) (suc l) u less at =
    let lesser : k < l = omega (arith, less) in
    let rest = among ws k l u lesser at in
    let within = rest.1 in
    (suc rest.0, omega (arith, within), rest.2)

-- their texts are apart
pub texts_apart : (us : List Uploaded) → IsSound [] us → AreDistinct (map (λ i. dtmi_text i.id) (uploaded_interfaces us))
texts_apart us sound = distinct_pairs (map (λ i. dtmi_text i.id) (uploaded_interfaces us)) (λ k l x y less first second same.
    let (i, i_at, i_is) = mapped_back (λ (h : Interface). dtmi_text h.id) (uploaded_interfaces us) k x first in
    let (j, j_at, j_is) = mapped_back (λ (h : Interface). dtmi_text h.id) (uploaded_interfaces us) l y second in
    let (u, u_at, u_is) = mapped_back (λ (w : Uploaded). w.interface) us k i i_at in
    let (v, v_at, v_is) = mapped_back (λ (w : Uploaded). w.interface) us l j j_at in
    sound (record { index = l; rule = rules.RepeatedId; spot = spots.Id }) (
      v,
      v_at,
      (u.interface, among us k l u less u_at, ap (λ (h : Interface). dtmi_text h.id) u_is ∙ i_is ∙ same ∙ sym j_is ∙ ap (λ (h : Interface). dtmi_text h.id) (sym v_is)),
    ))

abbrev Apart : List Uploaded → Type 0
Apart us = (k l : ℕ) (u v : Uploaded) → slice_get us k ≡ Some u → slice_get us l ≡ Some v → k < l → u.interface.id ≡ v.interface.id → ⊥

sound_apart : (us : List Uploaded) → IsSound [] us → Apart us
sound_apart us sound k l u v first second less e =
    sound (record { index = l; rule = rules.RepeatedId; spot = spots.Id }) (v, second, (u.interface, among us k l u less first, ap dtmi_text e))

none_later : (id : Identifier) (us : List Uploaded) → ((l : ℕ) (v : Uploaded) → slice_get us l ≡ Some v → id ≡ v.interface.id → ⊥)
    → AllByRecursion (λ k. id ≢ k) (map (λ i. i.id) (uploaded_interfaces us))
none_later id [] apart = tt
none_later id (u ∷ us) apart = ((λ e. apart 0 u refl e), none_later id us (λ l v at e. apart (suc l) v at e))

distinct_ids : (us : List Uploaded) → Apart us → AreDistinct (map (λ i. i.id) (uploaded_interfaces us))
distinct_ids [] apart = tt
distinct_ids (u ∷ us) apart = (
  none_later u.interface.id us (λ l v at e. apart 0 (suc l) u v refl at (omega arith) e),
  distinct_ids us (λ k l v w first second less e. apart (suc k) (suc l) v w first second (omega (arith, less)) e),
)

pub ids_apart : (documents : List (List ℕ)) (us : List Uploaded) → Declare documents us → AreDistinct (map (λ i. i.id) (uploaded_interfaces us))
ids_apart documents us d = distinct_ids us (sound_apart us d.sound)
