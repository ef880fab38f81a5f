-- The words and what is found of the documents have one answer.
use Rattle.std.proofs.Common.{◌≡◌, ◌⊎◌, ℕ, ◌+◌, List, [], ◌∷◌, ◌++◌, Option, Some, String, get_or, refl, sym, ap, ap₂, ◌∙◌, subst, inl, inr, arith}
use Rattle.std.specs.Prelude.{codes, slice_get}
use Rattle.std.specs.List.{AllByRecursion, AllZip}
use Rattle.std.specs.declared.alloc.Global.{Global}
use Rattle.std.proofs.lemmas.Option.{same_Some}
use Rattle.local_rules.specs.Breaches.{BreaksNoLocalRule}
use Rattle.json_tree.specs.Values.{Json, Raw}
use Rattle.json_tree.specs.Grammar.{Spells}
use Rattle.json_tree.specs.Pointers.{IsPointerOf}
use Rattle.json_tree.proofs.OnePointer.{one_pointer}
use Rattle.json_tree.specs.declared.places.Place.{Place}
use Rattle.json_read.specs.declared.fault.JsonFault.{JsonFault}
use Rattle.json_read.specs.declared.fault.JsonFault.TheVariants as faults
use Rattle.json_read.proofs.OneValue.{OneNumber}
use Rattle.json_read.proofs.Spelled.{one_raw, one_spelled}
use Rattle.json_read.proofs.OneFault.{fault_or_value, one_fault}
use Rattle.local_rules.specs.Codes.{rule_code}
use Rattle.local_rules.specs.declared.rule.LocalRule.{LocalRule}
use Rattle.local_faults.proofs.OneBreach.{one_breach}
use Rattle.dtdl_terms.specs.Spots.{spot_text}
use Rattle.dtdl_terms.specs.declared.interface.Interface.{Interface}
use Rattle.dtdl_terms.specs.declared.uploaded.Uploaded.{Uploaded}
use Rattle.model_read.proofs.OnceUploads.{document_once}
use Rattle.extend_resolve.specs.Breaches.{Breach, HasOrdinals, IsSetBreach, set_rule_code}
use Rattle.extend_resolve.proofs.FirstBreaches.{one_first}
use Rattle.dtdl_cmd.specs.Words.{command_word}
use Rattle.documents.specs.Lines.{IsBreachLine, IsFaultLine, IsJsonFaultLine, IsPlaceLine, IsSetBreachLine, pointer_line}
use Rattle.dtdl_cmd.specs.Lines.{missing_line, too_long_line}
use Rattle.documents.specs.FirstFaults.{AllUploaded, Declare, HasFirstFault, HasLocalFault, HasSetFault, IsJson}
use Rattle.dtdl_cmd.specs.Answers.{AnswersWords, AnswersDocuments, AnswersFound, Prints, uploaded_interfaces}
use Rattle.dtdl_cmd.specs.declared.command.Command.{Command}
use Rattle.dtdl_cmd.specs.declared.command.Command.TheVariants as commands
use Rattle.dtdl_cmd.specs.declared.status.Status.{Status}
use Rattle.documents.proofs.Firsts.{all_json, none_first, one_line}
use Rattle.dtdl_cmd.proofs.OneCut.{one_missing, one_too_long, missing_or_long, missing_or_there, long_or_there, one_there}
use Rattle.dtdl_cmd.proofs.Ordinals.{in_documents}

abbrev Same : Status → Status → List ℕ → List ℕ → Type 0
Same s t line text = (s ≡ t) × (line ≡ text)

-- ---- a JSON text
one_place_line : (n : ℕ) (bytes : List ℕ) (place : Place) (code line text : List ℕ) → IsPlaceLine n bytes place code line → IsPlaceLine n bytes place code text → line ≡ text
one_place_line n bytes place code line text (raw, pointer, is, leads, x) (other, points, spelled, goes, y) =
    let r : raw ≡ other = one_raw bytes raw other is spelled in
    let e : pointer ≡ points = one_pointer raw place.steps pointer points leads (subst (λ (w : Raw). IsPointerOf w place.steps points) (sym r) goes) in
    x ∙ ap (λ (p : List ℕ). pointer_line n p code) e ∙ sym y

one_fault_line : (n : ℕ) (bytes : List ℕ) (fault : JsonFault) (line text : List ℕ) → IsFaultLine n bytes fault line → IsFaultLine n bytes fault text → line ≡ text
one_fault_line n bytes (faults.Byte at) line text x y = x ∙ sym y
one_fault_line n bytes (faults.Ends at) line text x y = x ∙ sym y
one_fault_line n bytes (faults.Duplicate place) line text x y = one_place_line n bytes place (codes "Duplicate") line text x y
one_fault_line n bytes (faults.Range place) line text x y = one_place_line n bytes place (codes "Range") line text x y
one_fault_line n bytes faults.OutOfMemory line text x y = absurd x

named : (n : ℕ) (bytes : List ℕ) (fault : JsonFault) (line : List ℕ) → IsFaultLine n bytes fault line → fault ≡ faults.OutOfMemory → ⊥
named n bytes fault line x e = subst (λ (f : JsonFault). IsFaultLine n bytes f line) e x

one_json_line : (n : ℕ) (bytes line text : List ℕ) → IsJsonFaultLine n bytes line → IsJsonFaultLine n bytes text → line ≡ text
one_json_line n bytes line text (fault, is, x) (other, has, y) =
    let e : fault ≡ other = one_fault bytes fault other is has (named n bytes fault line x) (named n bytes other text y) in
    one_fault_line n bytes other line text (subst (λ (f : JsonFault). IsFaultLine n bytes f line) e x) y

pub faulty : OneNumber → (n : ℕ) (bytes line : List ℕ) → IsJsonFaultLine n bytes line → IsJson bytes → ⊥
faulty number n bytes line (fault, is, x) spelled = fault_or_value number bytes fault spelled.0 is (named n bytes fault line x) spelled.1

-- ---- a value
one_breach_line : (n : ℕ) (v : Json) (line text : List ℕ) → IsBreachLine n v line → IsBreachLine n v text → line ≡ text
one_breach_line n v line text (place, broken, pointer, first, is, x) (other, another, points, least, leads, y) =
    let same = one_breach v place other broken another first least in
    let pointers : pointer ≡ points = one_pointer v place pointer points is (subst (λ (p : List ℕ). IsPointerOf v p points) (sym same.0) leads) in
    x ∙ ap₂ (λ (p : List ℕ) (b : LocalRule). pointer_line n p (rule_code b)) pointers same.1 ∙ sym y

pub breached : (n : ℕ) (v : Json) (line : List ℕ) → IsBreachLine n v line → BreaksNoLocalRule v → ⊥
breached n v line h unbroken = unbroken h.0 h.1 h.3.breach

-- ---- interfaces
one_uploaded : (n : ℕ) (vs : List Json) (us ws : List Uploaded) → AllUploaded n vs us → AllUploaded n vs ws → us ≡ ws
one_uploaded n [] us ws h g = h ∙ sym g
one_uploaded n (v ∷ vs) us ws (first, rest, h, t, e) (other, more, g, s, f) =
    e ∙ ap₂ (λ (xs ys : List Uploaded). xs ++ ys) (document_once v n first other h g) (one_uploaded (n + 1) vs rest more t s) ∙ sym f

one_set_line : (us : List Uploaded) (line text : List ℕ) → AllByRecursion HasOrdinals us → IsSetBreachLine us line → IsSetBreachLine us text → line ≡ text
one_set_line us line text told (b, u, first, at, x) (c, w, least, stands, y) =
    let same : b ≡ c = one_first [] us told b c first least in
    let ones : u ≡ w = same_Some u w (sym at ∙ subst (λ (d : Breach). slice_get us d.index ≡ Some w) (sym same) stands) in
    x ∙ ap₂ (λ (z : Uploaded) (d : Breach). pointer_line z.document (z.base ++ spot_text z.parents_as_text d.spot) (set_rule_code d.rule)) ones same ∙ sym y

-- ---- documents
pub one_values : OneNumber → (documents : List (List ℕ)) (vs ws : List Json) → AllZip Spells documents vs → AllZip Spells documents ws → vs ≡ ws
one_values number [] [] [] h g = refl
one_values number [] [] (w ∷ ws) h g = absurd g
one_values number [] (v ∷ vs) ws h g = absurd h
one_values number (d ∷ ds) [] ws h g = absurd h
one_values number (d ∷ ds) (v ∷ vs) [] h g = absurd g
one_values number (d ∷ ds) (v ∷ vs) (w ∷ ws) h g =
    ap₂ (λ (x : Json) (xs : List Json). x ∷ xs) (one_spelled number d v w h.0 g.0) (one_values number ds vs ws h.1 g.1)

one_fault_of : (values : List Json) (line text : List ℕ) → HasLocalFault values line ⊎ HasSetFault values line → HasLocalFault values text ⊎ HasSetFault values text → line ≡ text
one_fault_of values line text (inl h) (inl g) = one_line BreaksNoLocalRule IsBreachLine one_breach_line breached values 1 line text h g
one_fault_of values line text (inl h) (inr (us, unbroken, are, g)) = absurd (none_first BreaksNoLocalRule IsBreachLine breached values 1 line unbroken h)
one_fault_of values line text (inr (us, unbroken, are, h)) (inl g) = absurd (none_first BreaksNoLocalRule IsBreachLine breached values 1 text unbroken g)
one_fault_of values line text (inr (us, unbroken, are, h)) (inr (ws, sound, have, g)) =
    let same : us ≡ ws = one_uploaded 1 values us ws are have in
    one_set_line ws line text (in_documents 1 values ws have) (subst (λ (xs : List Uploaded). IsSetBreachLine xs line) same h) g

one_first_fault : OneNumber → (documents : List (List ℕ)) (line text : List ℕ) → HasFirstFault documents line → HasFirstFault documents text → line ≡ text
one_first_fault number documents line text (inl h) (inl g) = one_line IsJson IsJsonFaultLine one_json_line (faulty number) documents 1 line text h g
one_first_fault number documents line text (inl h) (inr (vs, spelled, g)) =
    absurd (none_first IsJson IsJsonFaultLine (faulty number) documents 1 line (all_json documents vs spelled) h)
one_first_fault number documents line text (inr (vs, spelled, h)) (inl g) =
    absurd (none_first IsJson IsJsonFaultLine (faulty number) documents 1 text (all_json documents vs spelled) g)
one_first_fault number documents line text (inr (vs, spelled, h)) (inr (ws, spells, g)) =
    let same : vs ≡ ws = one_values number documents vs ws spelled spells in
    one_fault_of ws line text (subst (λ (xs : List Json). HasLocalFault xs line ⊎ HasSetFault xs line) same h) g

-- documents with a fault declare nothing
no_fault_of : (values : List Json) (line : List ℕ) (us : List Uploaded) → AllByRecursion BreaksNoLocalRule values → AllUploaded 1 values us → ((b : Breach) → IsSetBreach [] us b → ⊥)
    → HasLocalFault values line ⊎ HasSetFault values line → ⊥
no_fault_of values line us unbroken are sound (inl h) = none_first BreaksNoLocalRule IsBreachLine breached values 1 line unbroken h
no_fault_of values line us unbroken are sound (inr (ws, also, have, h)) =
    let same : ws ≡ us = one_uploaded 1 values ws us have are in
    let g : IsSetBreachLine us line = subst (λ (xs : List Uploaded). IsSetBreachLine xs line) same h in
    sound g.0 g.2.breach

fault_or_declared : OneNumber → (documents : List (List ℕ)) (line : List ℕ) (us : List Uploaded) → HasFirstFault documents line → Declare documents us → ⊥
fault_or_declared number documents line us (inl h) d =
    none_first IsJson IsJsonFaultLine (faulty number) documents 1 line (all_json documents d.values d.spelled) h
fault_or_declared number documents line us (inr (vs, spelled, h)) d =
    let same : vs ≡ d.values = one_values number documents vs d.values spelled d.spelled in
    no_fault_of d.values line us d.unbroken d.uploaded d.sound (subst (λ (xs : List Json). HasLocalFault xs line ⊎ HasSetFault xs line) same h)

pub one_declared : OneNumber → (documents : List (List ℕ)) (us ws : List Uploaded) → Declare documents us → Declare documents ws → us ≡ ws
one_declared number documents us ws h g =
    let same : h.values ≡ g.values = one_values number documents h.values g.values h.spelled g.spelled in
    one_uploaded 1 g.values us ws (subst (λ (xs : List Json). AllUploaded 1 xs us) same h.uploaded) g.uploaded

-- ---- what is printed
one_print : (command : Command) (is : List Interface) (s t : Status) (line text : List ℕ) → Prints command is s line → Prints command is t text → Same s t line text
one_print commands.Check is s t line text (p, x) (q, y) = (p ∙ sym q, x ∙ sym y)
one_print commands.Canon is s t line text (inl (p, within, x)) (inl (q, bound, y)) = (p ∙ sym q, x ∙ sym y)
one_print commands.Canon is s t line text (inl (p, within, x)) (inr (q, more, y)) = absurd (omega (arith, within, more))
one_print commands.Canon is s t line text (inr (p, more, x)) (inl (q, within, y)) = absurd (omega (arith, within, more))
one_print commands.Canon is s t line text (inr (p, more, x)) (inr (q, longer, y)) = (p ∙ sym q, x ∙ sym y)

one_document_answer : OneNumber → (command : Command) (documents : List (List ℕ)) (s t : Status) (line text : List ℕ) → AnswersDocuments command documents s line
    → AnswersDocuments command documents t text → Same s t line text
one_document_answer number command documents s t line text (inl (p, x)) (inl (q, y)) = (p ∙ sym q, one_first_fault number documents line text x y)
one_document_answer number command documents s t line text (inl (p, x)) (inr (us, d, y)) = absurd (fault_or_declared number documents line us x d)
one_document_answer number command documents s t line text (inr (us, d, x)) (inl (q, y)) = absurd (fault_or_declared number documents text us y d)
one_document_answer number command documents s t line text (inr (us, d, x)) (inr (ws, e, y)) =
    let same : us ≡ ws = one_declared number documents us ws d e in
    one_print command (uploaded_interfaces ws) s t line text (subst (λ (xs : List Uploaded). Prints command (uploaded_interfaces xs) s line) same x) y

-- ---- what is found
one_found : OneNumber → (command : Command) (found : List (Option (List ℕ))) (s t : Status) (line text : List ℕ) → AnswersFound command found s line → AnswersFound command found t text
    → Same s t line text
one_found number command found s t line text (inl (p, (n, h, x))) (inl (q, (m, g, y))) = (p ∙ sym q, x ∙ ap missing_line (one_missing found n m h g) ∙ sym y)
one_found number command found s t line text (inl (p, (n, h, x))) (inr (inl (q, (m, g, y)))) = absurd (missing_or_long found n m h g)
one_found number command found s t line text (inl (p, (n, h, x))) (inr (inr (ds, g, y))) = absurd (missing_or_there found n ds h g)
one_found number command found s t line text (inr (inl (p, (n, h, x)))) (inl (q, (m, g, y))) = absurd (missing_or_long found m n g h)
one_found number command found s t line text (inr (inl (p, (n, h, x)))) (inr (inl (q, (m, g, y)))) = (p ∙ sym q, x ∙ ap too_long_line (one_too_long found n m h g) ∙ sym y)
one_found number command found s t line text (inr (inl (p, (n, h, x)))) (inr (inr (ds, g, y))) = absurd (long_or_there found n ds h g)
one_found number command found s t line text (inr (inr (ds, h, x))) (inl (q, (m, g, y))) = absurd (missing_or_there found m ds g h)
one_found number command found s t line text (inr (inr (ds, h, x))) (inr (inl (q, (m, g, y)))) = absurd (long_or_there found m ds g h)
one_found number command found s t line text (inr (inr (ds, h, x))) (inr (inr (es, g, y))) =
    let same : ds ≡ es = one_there found ds es h g in
    one_document_answer number command es s t line text (subst (λ (xs : List (List ℕ)). AnswersDocuments command xs s line) same x) y

-- ---- the words
-- they differ in their second letters
other_words : (names more : List (List ℕ)) → codes "check" ∷ names ≡ codes "canon" ∷ more → ⊥
other_words names more is =
    let e : 104 ≡ 97 = ap (λ (ws : List (List ℕ)). get_or (get_or ws 0 []) 1 0) is in
    omega (arith, e)

pub same_command : (command other : Command) (names more : List (List ℕ)) → command_word command ∷ names ≡ command_word other ∷ more → command ≡ other
same_command commands.Check commands.Check names more is = refl
same_command commands.Canon commands.Canon names more is = refl
same_command commands.Check commands.Canon names more is = absurd (other_words names more is)
same_command commands.Canon commands.Check names more is = absurd (other_words more names (sym is))

pub one_answer : OneNumber → (words : List (String Global)) (found : List (Option (List ℕ))) (line text : List ℕ) (s t : Status) → AnswersWords words found s line
    → AnswersWords words found t text → (s ≡ t) × (line ≡ text)
one_answer number words found line text s t (inl (p, none, x)) (inl (q, nothing, y)) = (p ∙ sym q, x ∙ sym y)
one_answer number words found line text s t (inl (p, none, x)) (inr (command, names, is, y)) = absurd (none.0 (command, names, is))
one_answer number words found line text s t (inr (command, names, is, x)) (inl (q, none, y)) = absurd (none.0 (command, names, is))
one_answer number words found line text s t (inr (command, names, is, x)) (inr (other, more, has, y)) =
    let e : command ≡ other = same_command command other names more (sym is.0 ∙ has.0) in
    one_found number other found s t line text (subst (λ (c : Command). AnswersFound c found s line) e x) y
