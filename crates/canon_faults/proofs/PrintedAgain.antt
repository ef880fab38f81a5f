-- What the canonical text of interfaces declares is there, and is declared again.
use Rattle.std.proofs.Common.{ℕ, List, subst}
use Rattle.std.specs.List.{AllByRecursion}
use Rattle.dt_base.specs.Existence.{IsThere}
use Rattle.json_tree.specs.Values.{Json}
use Rattle.json_tree.specs.Grammar.{Spells}
use Rattle.dtdl_terms.specs.declared.interface.Interface.{Interface}
use Rattle.dtdl_terms.specs.declared.uploaded.Uploaded.{Uploaded}
use Rattle.local_rules.specs.Breaches.{BreaksNoLocalRule}
use Rattle.local_rules.specs.Soundness.{IsSoundInterface, IsSoundlyDeclared}
use Rattle.model_read.specs.Uploads.{AreUploaded}
use Rattle.model_read.proofs.ThereLeaves.{last_there}
use Rattle.model_read.proofs.ThereUploads.{all_there}
use Rattle.canon_text.specs.Canonical.{set_text, set_value}
use Rattle.canon_text.proofs.Told.{all_with}
use Rattle.canon_laws.proofs.Spelled.{OneValue, same_bytes, set_spelled}
use Rattle.canon_faults.specs.PrintedAgain.{IsPrintedAgain}
use Rattle.canon_faults.proofs.DeclaredAgain.{same_set}
use Rattle.canon_faults.proofs.Nowhere.{no_breach}
use Rattle.canon_faults.proofs.Uploads.{all_sound, sound_interface}

module _ (one : OneValue) (is : List Interface) (declared : AllByRecursion IsSoundlyDeclared is) where
  each : AllByRecursion IsSoundInterface is
  each = all_with IsSoundlyDeclared IsSoundInterface sound_interface is declared

  pub text_spelled : Spells (set_text is) (set_value is)
  text_spelled = set_spelled is each

  pub nothing_broken : (v : Json) → Spells (set_text is) v → BreaksNoLocalRule v
  nothing_broken v spelled = subst BreaksNoLocalRule (one (set_text is) (set_value is) v text_spelled spelled) (no_breach is declared)

  pub printed_again : (v : Json) (nth : ℕ) (us : List Uploaded) → Spells (set_text is) v → AreUploaded v nth us → IsPrintedAgain is nth us
  printed_again v nth us spelled uploaded = record {
    value = v;
    spelled = spelled;
    unbroken = nothing_broken v spelled;
    uploaded = uploaded;
    sound = all_sound (set_text is) v nth us spelled (nothing_broken v spelled) uploaded;
    same = same_set is nth us declared (subst (λ (w : Json). AreUploaded w nth us) (one (set_text is) v (set_value is) spelled text_spelled) uploaded);
    text = same_bytes one is each v nth us spelled uploaded;
  }

  pub again_there : (nth : ℕ) → IsThere ((us : List Uploaded) × IsPrintedAgain is nth us)
  again_there nth = last_there ((us : List Uploaded) × IsPrintedAgain is nth us) (all_there (set_value is) nth (no_breach is declared))
      (λ h. (h.0, printed_again (set_value is) nth h.0 text_spelled h.1))
