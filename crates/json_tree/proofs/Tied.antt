-- The pointer to a place leads to what stands there.
use Rattle.std.proofs.Common.{◌≡◌, ℕ, zero, suc, List, [], ◌∷◌, Some, sym, ap, ◌∙◌, inl, inr, subst}
use Rattle.std.proofs.lemmas.Option.{same_Some}
use Rattle.json_tree.specs.Values.{Value, null, truth, number, text, array, object, Elements, no_elements, element, Members, no_members, member, LacksKey, HasDistinctKeys, ElementsHaveDistinctKeys, MembersHaveDistinctKeys}
use Rattle.json_tree.specs.Places.{element_at, member_at, IsPart, StandsAt}
use Rattle.json_tree.specs.Pointers.{IsFirstMember, IsStep, LeadsTo, PointsTo, HasToken, AreReferenceTokens, IsPointerOf}

lacks_at : {N : Type 0} (k : List ℕ) (ms : Members N) (i : ℕ) (key : List ℕ) (part : Value N) → LacksKey k ms → member_at ms i ≡ Some (key, part) → key ≡ k → ⊥
lacks_at k no_members i key part lacks h e = absurd cc
lacks_at {N} k (member k2 v ms) zero key part lacks h e = let f : (k2, v) ≡ (key, part) = same_Some _ _ h in lacks.0 (sym e ∙ sym (ap (λ (m : List ℕ × Value N). m.0) f))
lacks_at k (member k2 v ms) (suc i) key part lacks h e = lacks_at k ms i key part lacks.1 h e

first_at : {N : Type 0} (ms : Members N) (i : ℕ) (key : List ℕ) (part : Value N) → MembersHaveDistinctKeys ms → member_at ms i ≡ Some (key, part) → IsFirstMember key ms part
first_at no_members i key part d h = absurd cc
first_at {N} (member k v ms) zero key part d h =
    let f : (k, v) ≡ (key, part) = same_Some _ _ h in inl (sym (ap (λ (m : List ℕ × Value N). m.0) f), sym (ap (λ (m : List ℕ × Value N). m.1) f))
first_at (member k v ms) (suc i) key part d h = inr (lacks_at k ms i key part d.0 h, first_at ms i key part d.2 h)

-- a step by the token of a part
step : {N : Type 0} (v : Value N) (i : ℕ) (token : List ℕ) (part : Value N) → HasDistinctKeys v → HasToken v i token part → IsStep v token part
step null i token part d h = absurd h
step (truth b) i token part d h = absurd h
step (number n) i token part d h = absurd h
step (text t) i token part d h = absurd h
step (array vs) i token part d h = (i, h.1, h.0)
step (object ms) i token part d h = first_at ms i token part d h

pub same_part : {N : Type 0} (v : Value N) (i : ℕ) (token : List ℕ) (part other : Value N) → HasToken v i token part → IsPart v i other → part ≡ other
same_part null i token part other h p = absurd h
same_part (truth b) i token part other h p = absurd h
same_part (number n) i token part other h p = absurd h
same_part (text t) i token part other h p = absurd h
same_part (array vs) i token part other h p = same_Some _ _ (sym h.0 ∙ p)
same_part {N} (object ms) i token part other h p =
    let f : (token, part) ≡ (p.0, other) = same_Some _ _ (sym h ∙ p.1) in ap (λ (m : List ℕ × Value N). m.1) f

element_distinct : {N : Type 0} (vs : Elements N) (i : ℕ) (part : Value N) → ElementsHaveDistinctKeys vs → element_at vs i ≡ Some part → HasDistinctKeys part
element_distinct no_elements i part d h = absurd cc
element_distinct (element v vs) zero part d h = subst HasDistinctKeys (same_Some _ _ h) d.0
element_distinct (element v vs) (suc i) part d h = element_distinct vs i part d.1 h

member_distinct : {N : Type 0} (ms : Members N) (i : ℕ) (key : List ℕ) (part : Value N) → MembersHaveDistinctKeys ms → member_at ms i ≡ Some (key, part) → HasDistinctKeys part
member_distinct no_members i key part d h = absurd cc
member_distinct {N} (member k v ms) zero key part d h =
    let f : (k, v) ≡ (key, part) = same_Some _ _ h in subst HasDistinctKeys (ap (λ (m : List ℕ × Value N). m.1) f) d.1
member_distinct (member k v ms) (suc i) key part d h = member_distinct ms i key part d.2 h

part_distinct : {N : Type 0} (v : Value N) (i : ℕ) (part : Value N) → HasDistinctKeys v → IsPart v i part → HasDistinctKeys part
part_distinct null i part d p = absurd p
part_distinct (truth b) i part d p = absurd p
part_distinct (number n) i part d p = absurd p
part_distinct (text t) i part d p = absurd p
part_distinct (array vs) i part d p = element_distinct vs i part d p
part_distinct (object ms) i part d p = member_distinct ms i p.0 part d p.1

tokens_lead : {N : Type 0} (v : Value N) (place : List ℕ) (tokens : List (List ℕ)) (w : Value N) → HasDistinctKeys v
    → AreReferenceTokens v place tokens → StandsAt v place w → LeadsTo v tokens w
tokens_lead v [] tokens w d are stands = subst (λ ts. LeadsTo v ts w) (sym are) stands
tokens_lead {N} v (i ∷ place) tokens w d are stands =
    let same : are.1 ≡ stands.0 = same_part v i are.0 are.1 stands.0 are.3 stands.1 in
    let rest : LeadsTo are.1 are.2 w =
    tokens_lead are.1 place are.2 w (subst HasDistinctKeys (sym same) (part_distinct v i stands.0 d stands.1)) are.4
    (subst (λ (p : Value N). StandsAt p place w) (sym same) stands.2) in
    subst (λ ts. LeadsTo v ts w) (sym are.5) (are.1, step v i are.0 are.1 d are.3, rest)

pub pointer_leads : {N : Type 0} (v : Value N) (place bytes : List ℕ) → IsPointerOf v place bytes → HasDistinctKeys v → (w : Value N) → StandsAt v place w → PointsTo v bytes w
pointer_leads v place bytes h d w stands = (h.0, h.2, tokens_lead v place h.0 w d h.1 stands)
