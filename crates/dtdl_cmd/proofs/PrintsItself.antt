-- Canonical bytes print themselves.
use Rattle.std.proofs.Common.{◌≡◌, ℕ, ◌≤◌, ◌⊎◌, List, [], ◌∷◌, ◌++◌, length, Some, String, inl, inr, refl, sym, ap, subst, ◌∙◌, append-nil, arith}
use Rattle.std.specs.List.{AllByRecursion}
use Rattle.std.specs.declared.alloc.Global.{Global}
use Rattle.json_tree.specs.Values.{Json}
use Rattle.json_tree.specs.Grammar.{Spells}
use Rattle.json_read.proofs.OneValue.{OneNumber}
use Rattle.dtdl_terms.specs.declared.uploaded.Uploaded.{Uploaded}
use Rattle.model_read.specs.Uploads.{AreUploaded}
use Rattle.extend_resolve.specs.Breaches.{IsSound}
use Rattle.canon_text.specs.Canonical.{set_text, set_value}
use Rattle.local_rules.specs.Breaches.{BreaksNoLocalRule}
use Rattle.local_rules.specs.Soundness.{IsSoundlyDeclared}
use Rattle.canon_faults.proofs.Judged.{sound_alike}
use Rattle.canon_faults.proofs.DeclaredAgain.{apart_set, declared_set as has_declarations, same_set}
use Rattle.canon_faults.proofs.Nowhere.{no_breach}
use Rattle.canon_faults.proofs.PrintedAgain.{printed_again, text_spelled}
use Rattle.canon_faults.proofs.Uploads.{declared_once}
use Rattle.dt_base.specs.Existence.{IsThere}
use Rattle.json_read.proofs.Spelled.{one_spelled}
use Rattle.model_read.proofs.ThereLeaves.{last_there}
use Rattle.model_read.proofs.ThereUploads.{all_there}
use Rattle.canon_text.proofs.Told.{all_with}
use Rattle.dtdl_cmd.specs.Words.{IsCommand}
use Rattle.dtdl_cmd.specs.Documents.{MAX_BYTES}
use Rattle.documents.specs.Lines.{IsBreachLine, IsJsonFaultLine}
use Rattle.documents.specs.FirstFaults.{AllUploaded, Declare, HasFirstFault, HasLocalFault, HasSetFault, IsJson}
use Rattle.dtdl_cmd.specs.Answers.{AnswersWords, AnswersDocuments, AnswersFound, Prints, uploaded_interfaces}
use Rattle.dtdl_cmd.specs.declared.command.Command.{Command}
use Rattle.dtdl_cmd.specs.declared.command.Command.TheVariants as commands
use Rattle.dtdl_cmd.specs.declared.status.Status.{Status}
use Rattle.dtdl_cmd.specs.declared.status.Status.TheVariants as status
use Rattle.dtdl_cmd.proofs.DeclaredSets.{declared_soundly, texts_apart}
use Rattle.documents.proofs.Firsts.{none_first}
use Rattle.dtdl_cmd.proofs.OneAnswer.{breached, faulty, one_values, same_command}
use Rattle.dtdl_cmd.proofs.OneCut.{long_or_there, missing_or_there, one_there}

-- ---- one document, of canonical bytes
module _ (number : OneNumber) (documents : List (List ℕ)) (us : List Uploaded) (d : Declare documents us) (short : length (set_text (uploaded_interfaces us)) ≤ MAX_BYTES) where
  abbrev bytes : List ℕ
  bytes = set_text (uploaded_interfaces us)

  abbrev value : Json
  value = set_value (uploaded_interfaces us)

  sound : AllByRecursion IsSoundlyDeclared (uploaded_interfaces us)
  sound = declared_soundly documents us d

  spelled : Spells bytes value
  spelled = text_spelled (one_spelled number) (uploaded_interfaces us) sound

  unbroken : BreaksNoLocalRule value
  unbroken = no_breach (uploaded_interfaces us) sound

  same_text : (nth : ℕ) (ws : List Uploaded) → AreUploaded value nth ws → set_text (uploaded_interfaces ws) ≡ bytes
  same_text nth ws g = (printed_again (one_spelled number) (uploaded_interfaces us) sound value nth ws spelled g).text

  -- what it declares breaks no rule on sets
  sound_again : (nth : ℕ) (ws : List Uploaded) → AreUploaded value nth ws → IsSound [] ws
  sound_again nth ws g =
      let apart = texts_apart us d.sound in
      sound_alike us ws (same_set (uploaded_interfaces us) nth ws sound g) (all_with IsSoundlyDeclared _ declared_once (uploaded_interfaces us) sound)
      (has_declarations bytes (uploaded_interfaces us) nth ws sound spelled g) apart (apart_set (uploaded_interfaces us) nth ws sound g apart) d.sound

  -- the interfaces of one document
  one_document : (ws : List Uploaded) → AllUploaded 1 (value ∷ []) ws → AreUploaded value 1 ws
  one_document ws (first, rest, h, t, e) =
      let alone : ws ≡ first = e ∙ ap (λ (xs : List Uploaded). first ++ xs) t ∙ append-nil first in
      subst (AreUploaded value 1) (sym alone) h

  no_fault : (line : List ℕ) → HasFirstFault (bytes ∷ []) line → ⊥
  no_fault line (inl h) = none_first IsJson IsJsonFaultLine (faulty number) (bytes ∷ []) 1 line ((value, spelled), tt) h
  no_fault line (inr (vs, spells, h)) = by vs (one_values number (bytes ∷ []) vs (value ∷ []) spells (spelled, tt)) h
    where
      by : (vs : List Json) → vs ≡ value ∷ [] → HasLocalFault vs line ⊎ HasSetFault vs line → ⊥
      by vs same (inl local) = none_first BreaksNoLocalRule IsBreachLine breached (value ∷ []) 1 line (unbroken, tt) (subst (λ (xs : List Json). HasLocalFault xs line) same local)
      by vs same (inr (ws, also, are, breaks)) =
          sound_again 1 ws (one_document ws (subst (λ (xs : List Json). AllUploaded 1 xs ws) same are)) breaks.0 breaks.2.breach

  prints_bytes : (ws : List Uploaded) (s : Status) (line : List ℕ) → AreUploaded value 1 ws → Prints commands.Canon (uploaded_interfaces ws) s line → (s ≡ status.Ok) × (line ≡ bytes)
  prints_bytes ws s line g (inl (ok, within, is)) = (ok, is ∙ same_text 1 ws g)
  prints_bytes ws s line g (inr (long, more, is)) = let sizes = ap length (same_text 1 ws g) in absurd (omega (arith, more, short))

  to_documents : (s : Status) (line : List ℕ) → AnswersDocuments commands.Canon (bytes ∷ []) s line → (s ≡ status.Ok) × (line ≡ bytes)
  to_documents s line (inl (refused, fault)) = absurd (no_fault line fault)
  to_documents s line (inr (ws, again, prints)) =
      let same = one_values number (bytes ∷ []) again.values (value ∷ []) again.spelled (spelled, tt) in
      prints_bytes ws s line (one_document ws (subst (λ (xs : List Json). AllUploaded 1 xs ws) same again.uploaded)) prints

  to_found : (s : Status) (line : List ℕ) → AnswersFound commands.Canon (Some bytes ∷ []) s line → (s ≡ status.Ok) × (line ≡ bytes)
  to_found s line (inl (missing, (n, h, is))) = absurd (missing_or_there (Some bytes ∷ []) n (bytes ∷ []) h (refl, omega (arith, short)))
  to_found s line (inr (inl (long, (n, h, is)))) = absurd (long_or_there (Some bytes ∷ []) n (bytes ∷ []) h (refl, omega (arith, short)))
  to_found s line (inr (inr (ds, there, answers))) =
      let same = one_there (Some bytes ∷ []) ds (bytes ∷ []) there (refl, omega (arith, short)) in
      to_documents s line (subst (λ (xs : List (List ℕ)). AnswersDocuments commands.Canon xs s line) same answers)

  pub to_words : (words : List (String Global)) (names : List (List ℕ)) → IsCommand words commands.Canon names → (s : Status) (line : List ℕ)
      → AnswersWords words (Some bytes ∷ []) s line → (s ≡ status.Ok) × (line ≡ bytes)
  to_words words names is s line (inl (usage, none, x)) = absurd (none.0 (commands.Canon, names, is))
  to_words words names is s line (inr (command, more, has, answers)) =
      let same : command ≡ commands.Canon = same_command command commands.Canon more names (sym has.0 ∙ is.0) in
      to_found s line (subst (λ (c : Command). AnswersFound c (Some bytes ∷ []) s line) same answers)

  -- ---- and there is this answer
  declares_again : (ws : List Uploaded) → AreUploaded value 1 ws → Declare (bytes ∷ []) ws
  declares_again ws g = record {
    values = value ∷ [];
    spelled = (spelled, tt);
    unbroken = (unbroken, tt);
    uploaded = (ws, [], g, refl, sym (append-nil ws));
    sound = sound_again 1 ws g;
  }

  prints_same : (ws : List Uploaded) → AreUploaded value 1 ws → Prints commands.Canon (uploaded_interfaces ws) status.Ok bytes
  prints_same ws g = let same = same_text 1 ws g in inl (refl, (let sizes = ap length same in omega (arith, sizes, short)), sym same)

  pub is_answered : (words : List (String Global)) (names : List (List ℕ)) → IsCommand words commands.Canon names → IsThere (AnswersWords words (Some bytes ∷ []) status.Ok bytes)
  is_answered words names is =
      last_there (AnswersWords words (Some bytes ∷ []) status.Ok bytes) (all_there value 1 unbroken)
      (λ h. inr (commands.Canon, names, is, inr (inr (bytes ∷ [], (refl, omega (arith, short)), inr (h.0, declares_again h.0 h.1, prints_same h.0 h.1)))))
