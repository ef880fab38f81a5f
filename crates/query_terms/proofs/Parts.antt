-- Conditions and the lists of all within them.
use Rattle.std.proofs.Common.{◌≡◌, List, [], ◌∷◌, ◌++◌, ◌+◌, map, Bor, Option, Some, None, refl, ap, subst, ◌∙◌}
use Rattle.std.specs.Prelude.{reverse}
use Rattle.std.specs.Option.{option_and_then}
use Rattle.std.proofs.lemmas.List.{map_push, reverse-append}
use Rattle.query_terms.specs.declared.cond.Cond as conds
use Rattle.query_terms.specs.declared.cond.Cond.{Cond}
use Rattle.query_terms.specs.Conditions.{Condition, condition}
use Rattle.query_terms.specs.Machinery.Weights.{weight, total_weight}
use Rattle.query_terms.specs.Machinery.Parts.{placed, rebuilt, stacked}
use Rattle.query_terms.proofs.Weights.{total_push}

abbrev pub now : Bor Cond → Cond
now c = c.now

same_option : (o : Option (List Condition)) → o ≡ option_and_then (λ xs. Some xs) o
same_option None = refl
same_option (Some xs) = refl

one_after_another : (p : Cond) (parts : List Cond) (o : Option (List Condition))
    → option_and_then (placed p) (option_and_then (rebuilt parts) o) ≡ option_and_then (rebuilt (p ∷ parts)) o
one_after_another p parts None = refl
one_after_another p parts (Some xs) = refl

pub rebuilt_push : (parts : List Cond) (c : Cond) (cs : List Condition) → rebuilt (parts ++ c ∷ []) cs ≡ option_and_then (rebuilt parts) (placed c cs)
rebuilt_push [] c cs = same_option (placed c cs)
rebuilt_push (p ∷ parts) c cs = ap (option_and_then (placed p)) (rebuilt_push parts c cs) ∙ one_after_another p parts (placed c cs)

pub stacked_push : (cs : List Cond) (c : Cond) → stacked (cs ++ c ∷ []) ≡ condition c ∷ stacked cs
stacked_push cs c = ap reverse (map_push condition cs c) ∙ reverse-append (map condition cs) (condition c ∷ [])

-- the same of what is borrowed
pub rebuilt_more : (parts : List (Bor Cond)) (c : Bor Cond) (cs : List Condition) → rebuilt (map now (parts ++ c ∷ [])) cs ≡ option_and_then (rebuilt (map now parts)) (placed c.now cs)
rebuilt_more parts c cs = ap (λ xs. rebuilt xs cs) (map_push now parts c) ∙ rebuilt_push (map now parts) c.now cs

pub stacked_more : (cs : List (Bor Cond)) (c : Bor Cond) → stacked (map now (cs ++ c ∷ [])) ≡ condition c.now ∷ stacked (map now cs)
stacked_more cs c = ap stacked (map_push now cs c) ∙ stacked_push (map now cs) c.now

pub total_more : (cs : List (Bor Cond)) (c : Bor Cond) → total_weight (map now (cs ++ c ∷ [])) ≡ total_weight (map now cs) + weight c.now
total_more cs c = ap total_weight (map_push now cs c) ∙ total_push (map now cs) c.now

-- ---- parts that are there
-- there are parts on top for each that waits
pub part_there : (parts : List Cond) (o : Option (List Condition)) (all : List Condition) → option_and_then (rebuilt parts) o ≡ Some all → o ≡ None → ⊥
part_there parts o all e none = let nothing : option_and_then (rebuilt parts) None ≡ Some all = subst (λ (x : Option (List Condition)). option_and_then (rebuilt parts) x ≡ Some all) none e in cc

-- two on top, and one on top
pub record HasTwo (cs : List Condition) : Type 0 where
  pub some : cs ≡ [] → ⊥
  pub more : (c : Condition) → cs ≡ c ∷ [] → ⊥

pub two_or : (left right : _) (l r : Cond) (cs : List Condition) → (placed (conds.Or' left l right r) cs ≡ None → ⊥) → HasTwo cs
two_or left right l r [] h = absurd (h refl)
two_or left right l r (c ∷ []) h = absurd (h refl)
two_or left right l r (a ∷ b ∷ cs) h = record { some = λ e. cc; more = λ c e. cc }

pub two_and : (left right : _) (l r : Cond) (cs : List Condition) → (placed (conds.And' left l right r) cs ≡ None → ⊥) → HasTwo cs
two_and left right l r [] h = absurd (h refl)
two_and left right l r (c ∷ []) h = absurd (h refl)
two_and left right l r (a ∷ b ∷ cs) h = record { some = λ e. cc; more = λ c e. cc }

pub one_not : (inner : _) (c : Cond) (cs : List Condition) → (placed (conds.Not' inner c) cs ≡ None → ⊥) → cs ≡ [] → ⊥
one_not inner c [] h e = h refl
one_not inner c (a ∷ cs) h e = cc
