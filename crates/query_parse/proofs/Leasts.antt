-- The least of bytes, and lists of faults one entry longer.
use Rattle.std.proofs.Common.{◌≡◌, ℕ, zero, suc, ◌+◌, ◌<◌, ◌≤◌, ◌⊎◌, inl, inr, min, List, [], ◌∷◌, ◌++◌, length, take, get_or, Bool, not, Option, refl, sym, ap, ◌∙◌, subst, arith, append_assoc}
use Rattle.std.specs.Prelude.{Contains}
use Rattle.std.proofs.lemmas.List.{take_more}
use Rattle.std.proofs.lemmas.List.Elements.{Contains-append_left, Contains-append_right, Contains-append_cases}
use Rattle.query_terms.specs.Queries.{Asked}
use Rattle.query_grammar.specs.declared.names.Use.{Use}
use Rattle.query_grammar.specs.Phrases.{PlacedName}
use Rattle.query_grammar.specs.Bindings.{is_name_among, is_bound, place_if, repeats_behind, unbound_uses, IsLeastPlace}
use Rattle.query_parse.specs.Machinery.Reached.{LeastOf}

without_end : (xs : List ℕ) → xs ++ [] ≡ xs
without_end [] = refl
without_end (x ∷ xs) = ap (λ (l : List ℕ). x ∷ l) (without_end xs)

none_left : (ys : List ℕ) (b : ℕ) → IsLeastPlace ys b → IsLeastPlace ([] ++ ys) b
none_left ys b h = h

least_by : (a b : ℕ) (xs ys : List ℕ) → IsLeastPlace xs a → ((c : ℕ) → Contains ys c → a ≤ c) → IsLeastPlace (xs ++ ys) a
least_by a b xs ys h below = record {
  one = Contains-append_left xs ys a h.one;
  least = λ c in_all. elim (Contains-append_cases xs ys c in_all) [ inl left ↦ h.least c left | inr right ↦ below c right ];
}

least_of_right : (a b : ℕ) (xs ys : List ℕ) → IsLeastPlace ys b → ((c : ℕ) → Contains xs c → b ≤ c) → IsLeastPlace (xs ++ ys) b
least_of_right a b xs ys h below = record {
  one = Contains-append_right xs ys b h.one;
  least = λ c in_all. elim (Contains-append_cases xs ys c in_all) [ inl left ↦ below c left | inr right ↦ h.least c right ];
}

order : (a b : ℕ) → ((a ≤ b) × (min a b ≡ a)) ⊎ ((b ≤ a) × (min a b ≡ b))
order a b = grind arith

pub least_both : (xs ys : List ℕ) (a b : ℕ) → IsLeastPlace xs a → IsLeastPlace ys b → IsLeastPlace (xs ++ ys) (min a b)
least_both xs ys a b p q = elim (order a b) [
  | inl low ↦ subst (λ (n : ℕ). IsLeastPlace (xs ++ ys) n) (sym low.1) (least_by a b xs ys p (λ c h. let other = q.least c h in let l = low.0 in omega (arith, other, l)))
  | inr low ↦ subst (λ (n : ℕ). IsLeastPlace (xs ++ ys) n) (sym low.1) (least_of_right a b xs ys q (λ c h. let other = p.least c h in let l = low.0 in omega (arith, other, l)))
]

pub least_left : (xs ys : List ℕ) (a : ℕ) → IsLeastPlace xs a → ys ≡ [] → IsLeastPlace (xs ++ ys) a
least_left xs ys a p e = subst (λ (l : List ℕ). IsLeastPlace l a) (sym (ap (λ (l : List ℕ). xs ++ l) e ∙ without_end xs)) p

pub least_right : (xs ys : List ℕ) (o : Option ℕ) → xs ≡ [] → LeastOf ys o → LeastOf (xs ++ ys) o
least_right xs ys o e h = subst (λ (l : List ℕ). LeastOf (l ++ ys) o) (sym e) h

one_only : (at b : ℕ) (k : ℕ) → k < 1 → get_or (at ∷ []) k b ≡ b → at ≡ b
one_only at b zero h e = e
one_only at b (suc k) h e = absurd (omega (arith, h))

pub least_one : (at : ℕ) → IsLeastPlace (at ∷ []) at
least_one at = record { one = (0, omega arith, refl); least = λ b h. let e = one_only at b h.0 h.1 h.2 in omega (arith, e) }

-- ---- one entry more
names_end : (xs : List PlacedName) → xs ++ [] ≡ xs
names_end [] = refl
names_end (x ∷ xs) = ap (λ (l : List PlacedName). x ∷ l) (names_end xs)

pub repeats_more : (before names : List PlacedName) (n : PlacedName) → repeats_behind before (names ++ n ∷ []) ≡ repeats_behind before names ++ place_if (is_name_among (before ++ names) n.1) n.0
repeats_more before [] n =
    without_end (place_if (is_name_among before n.1) n.0) ∙ ap (λ (l : List PlacedName). place_if (is_name_among l n.1) n.0) (sym (names_end before))
repeats_more before (m ∷ names) n =
    ap (λ (l : List ℕ). place_if (is_name_among before m.1) m.0 ++ l)
    (repeats_more (before ++ m ∷ []) names n ∙ ap (λ (l : List PlacedName). repeats_behind (before ++ m ∷ []) names ++ place_if (is_name_among l n.1) n.0) (append_assoc before (m ∷ []) names))
    ∙ sym (append_assoc (place_if (is_name_among before m.1) m.0) (repeats_behind (before ++ m ∷ []) names) _)

pub unbound_more : (q : Asked) (aliases : List PlacedName) (us : List Use) (u : Use)
    → unbound_uses q aliases (us ++ u ∷ []) ≡ unbound_uses q aliases us ++ place_if (not (is_bound q aliases u)) u.placed.0
unbound_more q aliases [] u = without_end _
unbound_more q aliases (v ∷ us) u =
    ap (λ (l : List ℕ). place_if (not (is_bound q aliases v)) v.placed.0 ++ l) (unbound_more q aliases us u)
    ∙ sym (append_assoc (place_if (not (is_bound q aliases v)) v.placed.0) (unbound_uses q aliases us) _)

-- ---- lists in part
pub names_more : (names : List PlacedName) (i : ℕ) (d : PlacedName) (o : Option ℕ) → i < length names
    → LeastOf (repeats_behind [] (take i names) ++ place_if (is_name_among (take i names) (get_or names i d).1) (get_or names i d).0) o
    → LeastOf (repeats_behind [] (take (i + 1) names)) o
names_more names i d o h least =
    subst (λ (l : List ℕ). LeastOf l o)
    (sym (ap (λ (l : List PlacedName). repeats_behind [] l) (take_more names i d h) ∙ repeats_more [] (take i names) (get_or names i d))) least

pub uses_more : (q : Asked) (aliases : List PlacedName) (us : List Use) (i : ℕ) (d : Use) (o : Option ℕ) → i < length us
    → LeastOf (unbound_uses q aliases (take i us) ++ place_if (not (is_bound q aliases (get_or us i d))) (get_or us i d).placed.0) o
    → LeastOf (unbound_uses q aliases (take (i + 1) us)) o
uses_more q aliases us i d o h least =
    subst (λ (l : List ℕ). LeastOf l o)
    (sym (ap (λ (l : List Use). unbound_uses q aliases l) (take_more us i d h) ∙ unbound_more q aliases (take i us) (get_or us i d))) least

pub names_step : (names : List PlacedName) (i : ℕ) (n : PlacedName) (b : Bool) (at : ℕ) (name : List ℕ) (o : Option ℕ) → i < length names
    → n ≡ get_or names i n → n ≡ (at, name) → b ≡ is_name_among (take i names) name → LeastOf (repeats_behind [] (take i names) ++ place_if b at) o
    → LeastOf (repeats_behind [] (take (i + 1) names)) o
names_step names i n b at name o h is seen among least =
    names_more names i n o h
    (subst (λ (p : PlacedName). LeastOf (repeats_behind [] (take i names) ++ place_if (is_name_among (take i names) p.1) p.0) o) (sym seen ∙ is)
    (subst (λ (x : Bool). LeastOf (repeats_behind [] (take i names) ++ place_if x at) o) among least))

pub uses_step : (q : Asked) (aliases others : List PlacedName) (us all : List Use) (i : ℕ) (u : Use) (b : Bool) (at : ℕ) (o : Option ℕ) → i < length all
    → all ≡ us → others ≡ aliases → u ≡ get_or all i u → at ≡ u.placed.0 → b ≡ is_bound q others u
    → LeastOf (unbound_uses q aliases (take i us) ++ place_if (not b) at) o → LeastOf (unbound_uses q aliases (take (i + 1) us)) o
uses_step q aliases others us all i u b at o h same ours is place bound least =
    let within : i < length us = subst (λ (l : List Use). i < length l) same h in
    let here : u ≡ get_or us i u = is ∙ ap (λ (l : List Use). get_or l i u) same in
    let told : b ≡ is_bound q aliases u = bound ∙ ap (λ (l : List PlacedName). is_bound q l u) ours in
    uses_more q aliases us i u o within
    (subst (λ (x : Use). LeastOf (unbound_uses q aliases (take i us) ++ place_if (not (is_bound q aliases x)) x.placed.0) o) here
    (subst (λ (x : Bool). LeastOf (unbound_uses q aliases (take i us) ++ place_if (not x) u.placed.0) o) told
    (subst (λ (k : ℕ). LeastOf (unbound_uses q aliases (take i us) ++ place_if (not b) k) o) place least)))
