-- What holds of each interface that a document without breach declares.
use Rattle.std.proofs.Common.{◌≡◌, ℕ, zero, suc, ◌+◌, List, [], ◌∷◌, Some, refl, sym, subst}
use Rattle.std.specs.List.{AllByRecursion, AllZip, enumerate_from}
use Rattle.local_rules.specs.Breaches.{BreaksNoLocalRule}
use Rattle.json_decimal.specs.Number.{Number}
use Rattle.json_tree.specs.Values.{Json, null, truth, number, text, array, object, Elements, no_elements, element, Members, HasDistinctKeys}
use Rattle.json_tree.specs.Places.{element_at}
use Rattle.dtdl_terms.specs.Distinct.{HasDeclaration}
use Rattle.dtdl_terms.specs.declared.interface.Interface.{Interface}
use Rattle.dtdl_terms.specs.declared.uploaded.Uploaded.{Uploaded}
use Rattle.json_tree.specs.Members.{list_of}
use Rattle.local_rules.specs.Declarations.{DeclaresInterface}
use Rattle.local_rules.specs.Limits.{IsWithinLimits}
use Rattle.model_read.specs.Uploads.{IsUploadedAt, AreUploaded}
use Rattle.model_read.proofs.Standing.{BreaksNowhere}
use Rattle.model_read.proofs.Within.{interface_within}
use Rattle.model_read.proofs.Apart.{element_distinct, interface_apart}

module _ (Q : Json → Type 0) (P : Interface → Type 0)
    (one : (v : Json) (ms : Members Number) (i : Interface) → v ≡ object ms → Q v → BreaksNowhere v → DeclaresInterface ms i → P i) where
  uploads_are : (whole : Json) (nth n : ℕ) (vs : Elements Number) (us : List Uploaded)
      → ((i : ℕ) (v : Json) → element_at vs i ≡ Some v → Q v × BreaksNowhere v)
      → AllZip (IsUploadedAt whole nth) (enumerate_from n (list_of vs)) us → AllByRecursion (λ u. P u.interface) us
  uploads_are whole nth n no_elements [] each all = tt
  uploads_are whole nth n no_elements (u ∷ us) each all = absurd all
  uploads_are whole nth n (element v vs) [] each all = absurd all
  uploads_are whole nth n (element v vs) (u ∷ us) each all =
      let first = each zero v refl in (
        one v all.0.members u.interface all.0.is first.0 first.1 all.0.declares,
        uploads_are whole nth (n + 1) vs us (λ i w at. each (suc i) w at) all.1,
      )

  pub each_is : (whole : Json) (nth : ℕ) (us : List Uploaded) → Q whole
      → ((vs : Elements Number) (i : ℕ) (v : Json) → whole ≡ array vs → element_at vs i ≡ Some v → Q v) → BreaksNoLocalRule whole → AreUploaded whole nth us
      → AllByRecursion (λ u. P u.interface) us
  each_is (array vs) nth us q inner none g = uploads_are (array vs) nth 0 vs us
      (λ i v at. (inner vs i v refl at, λ place broken breaks. none (i ∷ place) broken (v, at, breaks))) g
  each_is (object ms) nth us q inner none g = subst (λ (xs : List Uploaded). AllByRecursion (λ u. P u.interface) xs) (sym g.1)
      (one (object ms) g.2.members g.0.interface g.2.is q none g.2.declares, tt)
  each_is null nth us q inner none g = absurd g
  each_is (truth b) nth us q inner none g = absurd g
  each_is (number n) nth us q inner none g = absurd g
  each_is (text bytes) nth us q inner none g = absurd g

pub all_within : (whole : Json) (nth : ℕ) (us : List Uploaded) → BreaksNoLocalRule whole → AreUploaded whole nth us
    → AllByRecursion (λ u. IsWithinLimits u.interface) us
all_within whole nth us none g = each_is (λ v. Unit {0}) IsWithinLimits (λ v ms i is q free declares. interface_within v free ms i is declares) whole nth us tt
    (λ vs i v is at. tt) none g

pub all_have_declarations : (whole : Json) (nth : ℕ) (us : List Uploaded) → HasDistinctKeys whole → BreaksNoLocalRule whole → AreUploaded whole nth us
    → AllByRecursion (λ u. HasDeclaration u.interface) us
all_have_declarations whole nth us keys none g =
    each_is HasDistinctKeys HasDeclaration (λ v ms i is inside free declares. interface_apart v free ms i is inside declares) whole nth us keys
    (λ vs i v is at. element_distinct vs i v at (subst HasDistinctKeys is keys)) none g
