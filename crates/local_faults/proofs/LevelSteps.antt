-- Measures of schemas from those of their parts.
use Rattle.std.proofs.Common.{◌≡◌, ℕ, suc, zero, ◌+◌, ◌<◌, ◌≤◌, ◌⊎◌, inl, inr, List, [], ◌∷◌, ◌++◌, Some, Bool, true, false, ◌||◌, min, max, refl, sym, ◌∙◌, subst, arith, ⊎_elim}
use Rattle.std.specs.Prelude.{Contains}
use Rattle.std.proofs.lemmas.List.Elements.{Contains-append_cases, Contains-append_left, Contains-append_right, Contains-push}
use Rattle.std.proofs.lemmas.Bool.{cases_lt, or_cases, or_left, or_right}
use Rattle.json_decimal.specs.Number.{Number}
use Rattle.json_tree.specs.Values.{Json, object, Members}
use Rattle.local_rules.specs.Levels.{IsComplex, HasLevel, ReachesWithin, schema_type, schema_parts}
use Rattle.local_rules.specs.declared.role.Element.{Element}
use Rattle.local_rules.specs.declared.role.Element.TheVariants as element
use Rattle.local_faults.specs.Machinery.Measured.{IsMeasure, ArePartsMeasured}
use Rattle.local_faults.specs.declared.measures.Measure.{Measure}
use Rattle.local_faults.proofs.Climbs.{level_down, object_complex, object_is, level_along, reach_along}

-- what is no complex schema, and names none
level_none : (ms : Members Number) (v : Json) → ((type : Element) (parts : List Json) → IsComplex ms v type parts → ⊥) → (j : ℕ) → HasLevel ms j v → j ≡ 0
level_none ms v none zero h = refl
level_none ms v none (suc j) (type, parts, complex, rest) = absurd (none type parts complex)

reach_none : (ms : Members Number) (v : Json) → ((type : Element) (parts : List Json) → IsComplex ms v type parts → ⊥) → (j : ℕ) → ReachesWithin ms j v → ⊥
reach_none ms v none zero h = h
reach_none ms v none (suc j) (type, parts, complex, rest) = none type parts complex

level_zero : (ms : Members Number) (v : Json) (k : ℕ) → k ≡ 0 → HasLevel ms k v
level_zero ms v k low = let P : ℕ → Type 0 = λ n. HasLevel ms n v in subst P (sym low) tt

no_reach : {A : Type 0} (b : Bool) → b ≡ false → b ≡ true → A
no_reach b off on = let e : false ≡ true = sym off ∙ on in cc

pub least_measure : (ms : Members Number) (n : ℕ) (v : Json) (m : Measure) → ((type : Element) (parts : List Json) → IsComplex ms v type parts → ⊥)
    → m.level ≡ 0 → m.reaches ≡ false → IsMeasure ms n v m
least_measure ms n v m none low off = record {
  capped = omega (arith, low);
  deep = level_zero ms v m.level low;
  levels = λ j le cap h. let z = level_none ms v none j h in omega (arith, z);
  array = no_reach m.reaches off;
  arrays = λ j le h. absurd (reach_none ms v none j h);
}

-- before the first round nothing is known
pub first_measure : (ms : Members Number) (v : Json) (m : Measure) → m.level ≡ 0 → m.reaches ≡ false → IsMeasure ms 0 v m
first_measure ms v m low off = record {
  capped = omega (arith, low);
  deep = level_zero ms v m.level low;
  levels = λ j le cap h. omega (arith, le);
  array = no_reach m.reaches off;
  arrays = λ j le h. let z : j ≡ 0 = omega (arith, le) in absurd (let P : ℕ → Type 0 = λ k. ReachesWithin ms k v in subst P z h);
}

-- what is right as far as one step more is right
pub measure_weaker : (ms : Members Number) (n : ℕ) (v : Json) (m : Measure) → IsMeasure ms (suc n) v m → IsMeasure ms n v m
measure_weaker ms n v m h = record {
  capped = h.capped;
  deep = h.deep;
  levels = λ j le cap deep. h.levels j (omega (arith, le)) cap deep;
  array = h.array;
  arrays = λ j le reach. h.arrays j (omega (arith, le)) reach;
}

-- the same measure for what is the same complex schema
pub measure_along : (ms : Members Number) (n : ℕ) (v w : Json) (m : Measure)
    → ((type : Element) (parts : List Json) → IsComplex ms v type parts → IsComplex ms w type parts)
    → ((type : Element) (parts : List Json) → IsComplex ms w type parts → IsComplex ms v type parts)
    → IsMeasure ms n v m → IsMeasure ms n w m
measure_along ms n v w m to from h = record {
  capped = h.capped;
  deep = level_along ms v w to m.level h.deep;
  levels = λ j le cap deep. h.levels j le cap (level_along ms w v from j deep);
  array = λ on. let r = h.array on in (r.0, reach_along ms v w to r.0 r.1);
  arrays = λ j le reach. h.arrays j le (reach_along ms w v from j reach);
}

-- ---- the parts of a schema
nothing_in : {X : Type 0} (x : X) → Contains [] x → ⊥
nothing_in x (k, within, at) = absurd (omega (arith, within))

pub no_parts : (ms : Members Number) (n : ℕ) (m : Measure) → m.level ≡ 0 → m.reaches ≡ false → ArePartsMeasured ms n [] m
no_parts ms n m low off = record {
  capped = omega (arith, low);
  deep = λ above. absurd (omega (arith, low, above));
  levels = λ part among. absurd (nothing_in part among);
  array = no_reach m.reaches off;
  arrays = λ part among. absurd (nothing_in part among);
}

only_in : {X : Type 0} (y x : X) → Contains (y ∷ []) x → y ≡ x
only_in y x (zero, within, at) = at
only_in y x (suc k, within, at) = absurd (omega (arith, within))

pub one_part : (ms : Members Number) (n : ℕ) (v : Json) (m : Measure) → IsMeasure ms n v m → ArePartsMeasured ms n (v ∷ []) m
one_part ms n v m h = record {
  capped = h.capped;
  deep = λ above. (v, Contains-push [] v, h.deep);
  levels = λ part among j le cap deep.
      let P : Json → Type 0 = λ w. HasLevel ms j w in
      h.levels j le cap (subst P (sym (only_in v part among)) deep);
  array = λ on. let r = h.array on in (v, r.0, Contains-push [] v, r.1);
  arrays = λ part among j le reach.
      let P : Json → Type 0 = λ w. ReachesWithin ms j w in
      h.arrays j le (subst P (sym (only_in v part among)) reach);
}

DeepPart : Members Number → List Json → ℕ → Type 0
DeepPart ms parts k = (part : Json) × Contains parts part × HasLevel ms k part

joined_deep : (ms : Members Number) (xs ys : List Json) (a b k : ℕ) → k ≡ max a b → (0 < a → (part : Json) × Contains xs part × HasLevel ms a part)
    → (0 < b → (part : Json) × Contains ys part × HasLevel ms b part) → 0 < k → (part : Json) × Contains (xs ++ ys) part × HasLevel ms k part
joined_deep ms xs ys a b k is left right above =
    ⊎_elim
    (λ less.
    let same : b ≡ k = omega (arith, is, less) in
    let r = right (omega (arith, same, above)) in
    let P : ℕ → Type 0 = λ j. HasLevel ms j r.0 in
    (r.0, Contains-append_right xs ys r.0 r.1, subst P same r.2))
    (λ more.
    let same : a ≡ k = omega (arith, is, more) in
    let r = left (omega (arith, same, above)) in
    let P : ℕ → Type 0 = λ j. HasLevel ms j r.0 in
    (r.0, Contains-append_left xs ys r.0 r.1, subst P same r.2))
    (cases_lt a b)

pub joined_parts : (ms : Members Number) (n : ℕ) (xs ys : List Json) (a b m : Measure) → m.level ≡ max a.level b.level → m.reaches ≡ (a.reaches || b.reaches)
    → ArePartsMeasured ms n xs a → ArePartsMeasured ms n ys b → ArePartsMeasured ms n (xs ++ ys) m
joined_parts ms n xs ys a b m level reaches p q = record {
  capped = let l = p.capped in let r = q.capped in omega (arith, level, l, r);
  deep = joined_deep ms xs ys a.level b.level m.level level p.deep q.deep;
  levels = λ part among j le cap deep. ⊎_elim
      (λ left. let h = p.levels part left j le cap deep in omega (arith, h, level))
      (λ right. let h = q.levels part right j le cap deep in omega (arith, h, level))
      (Contains-append_cases xs ys part among);
  array = λ on. ⊎_elim
      (λ left. let r = p.array left in (r.0, r.1, Contains-append_left xs ys r.0 r.2, r.3))
      (λ right. let r = q.array right in (r.0, r.1, Contains-append_right xs ys r.0 r.2, r.3))
      (or_cases a.reaches b.reaches (sym reaches ∙ on));
  arrays = λ part among j le reach. ⊎_elim
      (λ left. reaches ∙ or_left a.reaches b.reaches (p.arrays part left j le reach))
      (λ right. reaches ∙ or_right a.reaches b.reaches (q.arrays part right j le reach))
      (Contains-append_cases xs ys part among);
}

-- ---- an object that is a complex schema
object_deep : (ms os : Members Number) (type : Element) (m : Measure) (n k : ℕ) → schema_type (object os) ≡ Some type
    → ArePartsMeasured ms n (schema_parts (object os)) m → k ≤ suc m.level → HasLevel ms k (object os)
object_deep ms os type m n zero typed h le = tt
object_deep ms os type m n (suc zero) typed h le = (type, schema_parts (object os), object_is ms os type typed, inl refl)
object_deep ms os type m n (suc (suc k)) typed h le =
    let d = h.deep (omega (arith, le)) in
    (type, schema_parts (object os), object_is ms os type typed, inr (d.0, d.1, level_down ms (suc k) m.level d.0 (omega (arith, le)) d.2))

object_levels : (ms os : Members Number) (m : Measure) (n j : ℕ) → ArePartsMeasured ms n (schema_parts (object os)) m
    → j ≤ suc n → j ≤ 6 → HasLevel ms j (object os) → j ≤ suc m.level
object_levels ms os m n zero h le cap deep = omega arith
object_levels ms os m n (suc j) h le cap (type, parts, complex, inl none) = omega (arith, none)
object_levels ms os m n (suc j) h le cap (type, parts, complex, inr (part, among, deep)) =
    let is = object_complex ms os type parts complex in
    let P : List Json → Type 0 = λ ps. Contains ps part in
    let g = h.levels part (subst P (sym is.1) among) j (omega (arith, le)) (omega (arith, cap)) deep in
    omega (arith, g)

object_arrays : (ms os : Members Number) (kind : Element) (m : Measure) (n j : ℕ) → schema_type (object os) ≡ Some kind
    → ArePartsMeasured ms n (schema_parts (object os)) m → j ≤ suc n → ReachesWithin ms j (object os) → (kind ≡ element.Array) ⊎ (m.reaches ≡ true)
object_arrays ms os kind m n zero typed h le reach = absurd reach
object_arrays ms os kind m n (suc j) typed h le (type, parts, complex, inl found) =
    let is = object_complex ms os type parts complex in
    let same : Some kind ≡ Some type = sym typed ∙ is.0 in
    let e : kind ≡ type = cc in
    inl (e ∙ found)
object_arrays ms os kind m n (suc j) typed h le (type, parts, complex, inr (part, among, reach)) =
    let is = object_complex ms os type parts complex in
    let P : List Json → Type 0 = λ ps. Contains ps part in
    inr (h.arrays part (subst P (sym is.1) among) j (omega (arith, le)) reach)

object_array : (ms os : Members Number) (kind : Element) (m : Measure) (n : ℕ) → schema_type (object os) ≡ Some kind
    → ArePartsMeasured ms n (schema_parts (object os)) m → (kind ≡ element.Array) ⊎ (m.reaches ≡ true) → (j : ℕ) × ReachesWithin ms j (object os)
object_array ms os kind m n typed h (inl found) = (1, (kind, schema_parts (object os), object_is ms os kind typed, inl found))
object_array ms os kind m n typed h (inr on) =
    let r = h.array on in
    (suc r.1, (kind, schema_parts (object os), object_is ms os kind typed, inr (r.0, r.2, r.3)))

pub object_measure : (ms os : Members Number) (kind : Element) (is_array : Bool) (m w : Measure) (n : ℕ) → schema_type (object os) ≡ Some kind
    → (is_array ≡ true → kind ≡ element.Array) → (kind ≡ element.Array → is_array ≡ true) → w.level ≡ min (m.level + 1) 6 → w.reaches ≡ (is_array || m.reaches)
    → ArePartsMeasured ms n (schema_parts (object os)) m → IsMeasure ms (suc n) (object os) w
object_measure ms os kind is_array m w n typed to from level reaches h = record {
  capped = omega (arith, level);
  deep = object_deep ms os kind m n w.level typed h (omega (arith, level));
  levels = λ j le cap deep. let g = object_levels ms os m n j h le cap deep in omega (arith, g, cap, level);
  array = λ on. object_array ms os kind m n typed h (⊎_elim (λ a. inl (to a)) (λ b. inr b) (or_cases is_array m.reaches (sym reaches ∙ on)));
  arrays = λ j le reach. ⊎_elim
      (λ found. reaches ∙ or_left is_array m.reaches (from found))
      (λ on. reaches ∙ or_right is_array m.reaches on)
      (object_arrays ms os kind m n j typed h le reach);
}
