-- The key that a text is, whatever the element.
use Rattle.std.proofs.Common.{◌≡◌, ℕ, List, [], ◌∷◌, Bool, true, false, cond, Some, None, refl, sym, ◌∙◌, subst}
use Rattle.std.specs.List.{find}
use Rattle.std.specs.Prelude.{bytes_eq}
use Rattle.std.proofs.lemmas.Slice.Eq.{bytes_eq-Decides}
use Rattle.local_rules.specs.Machinery.Keys.{all_keys}
use Rattle.local_rules.specs.Roles.{key_of, keys_of}
use Rattle.local_rules.specs.Tables.{key_text}
use Rattle.local_rules.specs.declared.role.Element.{Element}
use Rattle.local_rules.specs.declared.key.Key.{Key}
use Rattle.local_rules.specs.declared.key.Key.TheVariants as key

found_true : {X : Type 0} (test : X → Bool) (xs : List X) (x : X) → find test xs ≡ Some x → test x ≡ true
found_true test [] x e = absurd cc
found_true test (y ∷ xs) x e = elim (test y) as (λ b. test y ≡ b → cond b (Some y) (find test xs) ≡ Some x → test x ≡ true) [
  | true ↦ λ on first. (let same : y ≡ x = cc in subst (λ z. test z ≡ true) same on)
  | false ↦ λ off rest. found_true test xs x rest
] refl e

none_found : {X : Type 0} (test : X → Bool) (xs : List X) → ((x : X) → test x ≡ true → ⊥) → find test xs ≡ None
none_found test [] never = refl
none_found test (y ∷ xs) never = elim (test y) as (λ b. test y ≡ b → cond b (Some y) (find test xs) ≡ None) [
  | true ↦ λ on. absurd (never y on)
  | false ↦ λ off. none_found test xs never
] refl

-- no two keys have one text
named_itself : (k : Key) → find (λ j. bytes_eq (key_text j) (key_text k)) all_keys ≡ Some k
named_itself key.Context = refl
named_itself other = refl

pub key_is : (bytes : List ℕ) (k : Key) → find (λ j. bytes_eq (key_text j) bytes) all_keys ≡ Some k → key_text k ≡ bytes
key_is bytes k found = (bytes_eq-Decides (key_text k) bytes).0 (found_true (λ j. bytes_eq (key_text j) bytes) all_keys k found)

-- a text that is no key is none of an element
pub key_unnamed : (e : Element) (bytes : List ℕ) → find (λ j. bytes_eq (key_text j) bytes) all_keys ≡ None → key_of e bytes ≡ None
key_unnamed e bytes none = none_found (λ j. bytes_eq (key_text j) bytes) (keys_of e) (λ k same.
    let word = (bytes_eq-Decides (key_text k) bytes).0 same in
    let never : Some k ≡ None = sym (named_itself k) ∙ subst (λ (t : List ℕ). find (λ j. bytes_eq (key_text j) t) all_keys ≡ None) (sym word) none in
    cc)
