-- What holds of all models together.
use Rattle.std.proofs.Common.{◌≡◌, ℕ, ◌+◌, ◌≤◌, List, [], ◌∷◌, length, refl, sym, ap, ◌∙◌, subst}
use Rattle.std.specs.List.{sum_by}
use Rattle.std.proofs.lemmas.List.Sums.{sum_by-cons}
use Rattle.std.proofs.lemmas.List.{length-map}
use Rattle.dtdl_terms.specs.declared.interface.Interface.{Interface}
use Rattle.model_life.specs.Sums.{text_bytes, model_bytes, AllTake, AreWithinLimits}
use Rattle.model_life.specs.Machinery.Keeping.{models_of, Written, Users, IsKept}
use Rattle.model_life.proofs.Seen.{Records, seen, seen_all}
use Rattle.model_life.proofs.Taking.{all_take}

pub length_seen : (set : List Interface) (es : Records) → length (models_of set es) ≡ length set
length_seen set es = length-map set (seen es)

pub bytes_seen : (set : List Interface) (es : Records) → model_bytes (models_of set es) ≡ sum_by text_bytes set
bytes_seen [] es = refl
bytes_seen (i ∷ is) es =
    sum_by-cons (λ m. text_bytes m.interface) (seen es i) (models_of is es) ∙ ap (λ n. text_bytes i + n) (bytes_seen is es) ∙ sym (sum_by-cons text_bytes i is)

pub within_limits : (set : List Interface) (es : Records) (us : Users) (ws : Written) (bytes resolved : ℕ) → IsKept set es us ws bytes resolved → AreWithinLimits (models_of set es)
within_limits set es us ws bytes resolved kept = record {
  models = subst (λ n. n ≤ 10000) (sym (length_seen set es)) kept.few;
  bytes = subst (λ n. n ≤ 67108864) (kept.sum ∙ sym (bytes_seen set es)) kept.small;
  resolved = (
    resolved,
    subst (λ s. AllTake s resolved) (sym (seen_all set es)) (subst (AllTake set) (sym kept.total) (all_take set kept.rules kept.declared kept.ordered)),
    kept.bounded,
  );
}
