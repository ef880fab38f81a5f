-- Keys that an object lacks.
use Rattle.std.proofs.Common.{◌≡◌, ℕ, zero, suc, ◌<◌, ◌↔◌, List, [], ◌∷◌, length, slice_index_or, Some, None, refl, ap, ◌∙◌, arith}
use Rattle.json_decimal.specs.Number.{Number}
use Rattle.json_tree.specs.Values.{Members}
use Rattle.json_tree.specs.Members.{value_at}
use Rattle.local_rules.specs.Tables.{key_text, required}
use Rattle.local_rules.specs.Kinds.{LacksKeyOf, needed_keys}
use Rattle.local_rules.specs.declared.key.Key.{Key}
use Rattle.local_rules.specs.declared.key.Key.TheVariants as key
use Rattle.local_rules.specs.declared.role.Element.{Element}
use Rattle.local_rules.specs.declared.role.Role.{Role}
use Rattle.local_rules.specs.declared.role.Role.TheVariants as role

-- only an entry of `schemas` needs more than its kind of object does
pub needed_plain : (r : Role) (e : Element) → (r ≡ role.NamedSchema → ⊥) → needed_keys r (Some e) ≡ required e
needed_plain role.NamedSchema e plain = absurd (plain refl)
needed_plain other e plain = refl

pub lacks_first : (k : Key) (ks : List Key) (ms : Members Number) → value_at (key_text k) ms ≡ None → LacksKeyOf (k ∷ ks) ms
lacks_first k ks ms none = (k, (0, omega arith, refl), none)

pub lacks_later : (k : Key) (ks : List Key) (ms : Members Number) → LacksKeyOf ks ms → LacksKeyOf (k ∷ ks) ms
lacks_later k ks ms (x, (i, within, is), none) = (x, (suc i, omega arith, is), none)

-- what its kind of object requires, an object needs in each role
pub lacks_needed : (r : Role) (e : Element) (ms : Members Number) → LacksKeyOf (required e) ms → LacksKeyOf (needed_keys r (Some e)) ms
lacks_needed role.NamedSchema e ms lacks = lacks_later key.Id (required e) ms lacks
lacks_needed other e ms lacks = lacks

lacks_rest_at : (k x : Key) (ks : List Key) (ms : Members Number) (i : ℕ) → (value_at (key_text k) ms ≡ None → ⊥) → i < length (k ∷ ks) → slice_index_or (k ∷ ks) i x ≡ x
    → value_at (key_text x) ms ≡ None → LacksKeyOf ks ms
lacks_rest_at k x ks ms zero has within is none = absurd (has (ap (λ y. value_at (key_text y) ms) is ∙ none))
lacks_rest_at k x ks ms (suc i) has within is none = (x, (i, omega arith, is), none)

pub lacks_rest : (k : Key) (ks : List Key) (ms : Members Number) → (value_at (key_text k) ms ≡ None → ⊥) → LacksKeyOf (k ∷ ks) ms → LacksKeyOf ks ms
lacks_rest k ks ms has (x, (i, within, is), none) = lacks_rest_at k x ks ms i has within is none

pub lacks_only : (k : Key) (ms : Members Number) → LacksKeyOf (k ∷ []) ms ↔ (value_at (key_text k) ms ≡ None)
lacks_only k ms = (
  λ (x, (i, within, is), none). only i x within is none,
  λ none. lacks_first k [] ms none,
)
  where
    only : (i : ℕ) (x : Key) → i < 1 → slice_index_or (k ∷ []) i x ≡ x → value_at (key_text x) ms ≡ None → value_at (key_text k) ms ≡ None
    only zero x within is none = ap (λ y. value_at (key_text y) ms) is ∙ none
    only (suc i) x within is none = absurd (omega arith)
