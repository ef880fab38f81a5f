-- White space in front of a text.
use Rattle.std.proofs.Common.{◌≡◌, ℕ, ◌+◌, ◌<◌, List, ◌∷◌, length, get_or, drop, ap, subst, sym, drop-cons, add-one}
use Rattle.json_tree.specs.Values.{Json}
use Rattle.json_tree.specs.Grammar.{IsSpace, Spells}

spells_behind_space : (b : ℕ) (bytes : List ℕ) (v : Json) → IsSpace b → Spells bytes v → Spells (b ∷ bytes) v
spells_behind_space b bytes v space (raw, (start, end, (spaces, all, e), value, behind), distinct, read) = (
  raw,
  (start, end, (b ∷ spaces, (space, all), ap (λ (r : List ℕ). b ∷ r) e), value, behind),
  distinct,
  read,
)

-- the text from a position on
pub dropped : (bytes : List ℕ) (at : ℕ) → at < length bytes → drop at bytes ≡ get_or bytes at 0 ∷ drop (at + 1) bytes
dropped bytes at lt = rw (add-one, drop-cons bytes at 0)

pub spells_from_space : (bytes : List ℕ) (at : ℕ) (v : Json) → at < length bytes → IsSpace (get_or bytes at 0) → Spells (drop (at + 1) bytes) v → Spells (drop at bytes) v
spells_from_space bytes at v lt space h = subst (λ (r : List ℕ). Spells r v) (sym (dropped bytes at lt)) (spells_behind_space (get_or bytes at 0) (drop (at + 1) bytes) v space h)
