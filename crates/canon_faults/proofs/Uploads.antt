-- What documents without breach declare is soundly declared.
use Rattle.std.proofs.Common.{◌≡◌, ℕ, List, [], ◌∷◌, refl, subst}
use Rattle.std.specs.List.{AllByRecursion}
use Rattle.json_decimal.specs.Number.{Number}
use Rattle.json_tree.specs.Values.{Json, object, Members}
use Rattle.json_tree.specs.Grammar.{Spells}
use Rattle.json_tree.specs.Printing.{printed}
use Rattle.json_read.proofs.PrintedAgain.{element_spelled}
use Rattle.dtdl_terms.specs.Distinct.{HasDeclaration}
use Rattle.dtdl_terms.specs.declared.interface.Interface.{Interface}
use Rattle.dtdl_terms.specs.declared.uploaded.Uploaded.{Uploaded}
use Rattle.local_rules.specs.Declarations.{DeclaresInterface}
use Rattle.local_rules.specs.Limits.{IsWithinLimits}
use Rattle.model_read.specs.Uploads.{AreUploaded}
use Rattle.model_read.proofs.Standing.{BreaksNowhere}
use Rattle.model_read.proofs.Apart.{interface_apart}
use Rattle.model_read.proofs.Documents.{each_is}
use Rattle.model_read.proofs.Within.{interface_within}
use Rattle.local_rules.specs.Typed.{IsTyped}
use Rattle.canon_laws.proofs.Documents.{interface_typed}
use Rattle.local_rules.specs.Breaches.{BreaksNoLocalRule}
use Rattle.local_rules.specs.Soundness.{IsSoundlyDeclared, IsSoundInterface}
use Rattle.json_tree.proofs.DistinctKeys.{spelled_distinct}

-- some text spells the value
abbrev IsSpelled : Json → Type 0
IsSpelled v = (bytes : List ℕ) × Spells bytes v

soundly : (v : Json) (ms : Members Number) (i : Interface) → v ≡ object ms → IsSpelled v → BreaksNowhere v → DeclaresInterface ms i → IsSoundlyDeclared i
soundly v ms i is spelled unbroken declares =
    let own = subst IsSpelled is spelled in
    record { bytes = own.0; members = ms; spelled = own.1; unbroken = subst BreaksNowhere is unbroken; declares = declares }

pub all_soundly : (bytes : List ℕ) (whole : Json) (nth : ℕ) (us : List Uploaded) → Spells bytes whole → BreaksNoLocalRule whole → AreUploaded whole nth us
    → AllByRecursion (λ u. IsSoundlyDeclared u.interface) us
all_soundly bytes whole nth us spelled unbroken g = each_is IsSpelled IsSoundlyDeclared soundly whole nth us (bytes, spelled)
    (λ vs i v is at. (printed v, element_spelled bytes vs i v (subst (Spells bytes) is spelled) at)) unbroken g

pub declared_once : (i : Interface) → IsSoundlyDeclared i → HasDeclaration i
declared_once i s = interface_apart (object s.members) s.unbroken s.members i refl (spelled_distinct s.bytes (object s.members) s.spelled) s.declares

pub within_limits : (i : Interface) → IsSoundlyDeclared i → IsWithinLimits i
within_limits i s = interface_within (object s.members) s.unbroken s.members i refl s.declares

pub typed_so : (i : Interface) → IsSoundlyDeclared i → IsTyped i
typed_so i s = interface_typed s.members i s.declares

-- ---- what follows of each
pub sound_interface : (i : Interface) → IsSoundlyDeclared i → IsSoundInterface i
sound_interface i s = record { declared = s; declaration = declared_once i s; limits = within_limits i s; typed = typed_so i s }

each_sound : (us : List Uploaded) → AllByRecursion (λ u. IsSoundlyDeclared u.interface) us → AllByRecursion (λ u. IsSoundInterface u.interface) us
each_sound [] all = tt
each_sound (u ∷ us) all = (sound_interface u.interface all.0, each_sound us all.1)

pub all_sound : (bytes : List ℕ) (whole : Json) (nth : ℕ) (us : List Uploaded) → Spells bytes whole → BreaksNoLocalRule whole → AreUploaded whole nth us
    → AllByRecursion (λ u. IsSoundInterface u.interface) us
all_sound bytes whole nth us spelled unbroken g = each_sound us (all_soundly bytes whole nth us spelled unbroken g)
