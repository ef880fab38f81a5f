-- Measures by a table of those of the entries of `schemas`.
use Rattle.std.proofs.Common.{◌≡◌, ℕ, suc, zero, ◌+◌, ◌<◌, ◌≤◌, inl, inr, List, length, get_or, set, Some, None, Bool, true, false, refl, ap, sym, ◌∙◌, subst, arith, ⊎_elim, map, replicate, rules}
use Rattle.std.specs.Prelude.{slice_get, find, option_map}
use Rattle.std.specs.List.{position, position_or_len}
use Rattle.std.proofs.lemmas.List.Folds.{find_at}
use Rattle.std.proofs.lemmas.Option.{slice_get-map, slice_get_within, slice_get_past, slice_get-get_or}
use Rattle.std.proofs.lemmas.List.{get_or-set_same, get_or-set_other, length-set, set-get_or}
use Rattle.std.proofs.lemmas.Bool.{cases_eq}
use Rattle.std.proofs.lemmas.Grind.{common_steps}
use Rattle.std.proofs.lemmas.List.Quantifiers.{position-Some}
use Rattle.json_decimal.specs.Number.{Number}
use Rattle.json_tree.specs.Values.{Json, null, truth, number, text, array, object, Members}
use Rattle.json_tree.specs.View.{view, members_view}
use Rattle.json_tree.specs.declared.tree.Tree.{Tree, the_lemmas}
use Rattle.json_tree.specs.declared.tree.Tree as variants
use Rattle.json_tree.specs.declared.tree.Member.{Member}
use Rattle.local_rules.specs.Levels.{IsComplex, IsPrimitiveName, schema_named, schema_type, has_id}
use Rattle.local_rules.specs.declared.role.Element.{Element}
use Rattle.local_faults.specs.Machinery.Named.{schema_entries}
use Rattle.local_faults.specs.Machinery.Measured.{IsMeasure, AreMeasured, Measures}
use Rattle.local_faults.specs.declared.measures.Measure.{Measure}
use Rattle.local_faults.proofs.Climbs.{text_complex, text_is, object_of_text}
use Rattle.local_faults.proofs.LevelSteps.{least_measure, measure_along, measure_weaker, first_measure}

-- the entry that a text names, by its place
pub found_at : {X : Type 0} (p : X → Bool) (xs : List X) (at : ℕ) → position p xs ≡ Some at → find p xs ≡ slice_get xs at
found_at p xs at h = grind (arith, common_steps, find_at p xs)

pub found_none : {X : Type 0} (p : X → Bool) (xs : List X) → position p xs ≡ None → find p xs ≡ None
found_none p xs h = grind (arith, common_steps, find_at p xs, slice_get_past xs (position_or_len p xs))

-- an entry that has an `@id` is an object
pub named_object : (bytes : List ℕ) (v : Json) → has_id bytes v ≡ true → (os : Members Number) × (v ≡ object os)
named_object bytes null h = let e : false ≡ true = h in cc
named_object bytes (truth b) h = let e : false ≡ true = h in cc
named_object bytes (number n) h = let e : false ≡ true = h in cc
named_object bytes (text other) h = let e : false ≡ true = h in cc
named_object bytes (array vs) h = let e : false ≡ true = h in cc
named_object bytes (object os) h = (os, refl)

-- what is known of the object that a text names
pub record IsNamed (ms : Members Number) (bytes : List ℕ) (at : ℕ) : Type 0 where
  pub members : Members Number
  pub stands : slice_get (schema_entries ms) at ≡ Some (object members)
  pub named : schema_named ms bytes ≡ Some (object members)

pub named_at : (ms : Members Number) (bytes : List ℕ) (at : ℕ) → position (has_id bytes) (schema_entries ms) ≡ Some at → IsNamed ms bytes at
named_at ms bytes at h =
    let first = position-Some (has_id bytes) (schema_entries ms) at null h in
    let it = named_object bytes (get_or (schema_entries ms) at null) first.1 in
    let stands : slice_get (schema_entries ms) at ≡ Some (object it.0) = slice_get-get_or (schema_entries ms) at null first.0 ∙ ap (λ (v : Json). Some v) it.1 in
    record { members = it.0; stands = stands; named = found_at (has_id bytes) (schema_entries ms) at h ∙ stands }

-- ---- what has no level
leaf_none : (ms : Members Number) (v : Json) → schema_type v ≡ None → ((bytes : List ℕ) → v ≡ text bytes → ⊥) → (type : Element) (parts : List Json) → IsComplex ms v type parts → ⊥
leaf_none ms v untyped other type parts c = elim c.leads [
  | inl same ↦ let e : None ≡ Some type = sym untyped ∙ ap schema_type same ∙ c.typed in cc
  | inr named ↦ other named.0 named.1
]

pub leaf_measured : (ms : Members Number) (table : List Measure) (v : Json) (m : Measure) → schema_type v ≡ None → ((bytes : List ℕ) → v ≡ text bytes → ⊥)
    → ((os : Members Number) → v ≡ object os → ⊥) → m.level ≡ 0 → m.reaches ≡ false → Measures ms table v m
leaf_measured ms table v m untyped no_text no_object low off = record {
  any = λ n all. least_measure ms n v m (leaf_none ms v untyped no_text) low off;
  whole = λ n os all is. absurd (no_object os is);
}

pub untyped_measured : (ms os : Members Number) (n : ℕ) (m : Measure) → schema_type (object os) ≡ None → m.level ≡ 0 → m.reaches ≡ false → IsMeasure ms n (object os) m
untyped_measured ms os n m untyped low off =
    least_measure ms n (object os) m (leaf_none ms (object os) untyped (λ bytes e. cc)) low off

text_least : (ms : Members Number) (table : List Measure) (bytes : List ℕ) (m : Measure)
    → ((type : Element) (parts : List Json) → IsComplex ms (text bytes) type parts → ⊥) → m.level ≡ 0 → m.reaches ≡ false → Measures ms table (text bytes) m
text_least ms table bytes m none low off = record {
  any = λ n all. least_measure ms n (text bytes) m none low off;
  whole = λ n os all is. cc;
}

pub primitive_measured : (ms : Members Number) (table : List Measure) (bytes : List ℕ) (m : Measure) → IsPrimitiveName bytes → m.level ≡ 0 → m.reaches ≡ false → Measures ms table (text bytes) m
primitive_measured ms table bytes m primitive low off =
    text_least ms table bytes m (λ type parts c. (text_complex ms bytes type parts c).1 primitive) low off

pub unknown_measured : (ms : Members Number) (table : List Measure) (bytes : List ℕ) (m : Measure) → position (has_id bytes) (schema_entries ms) ≡ None → m.level ≡ 0 → m.reaches ≡ false → Measures ms table (text bytes) m
unknown_measured ms table bytes m unknown low off =
    let none : schema_named ms bytes ≡ None = found_none (has_id bytes) (schema_entries ms) unknown in
    text_least ms table bytes m (λ type parts c. let t = text_complex ms bytes type parts c in let e : None ≡ Some t.0 = sym none ∙ t.2 in cc) low off

named_measure : (ms : Members Number) (table : List Measure) (bytes : List ℕ) (at n : ℕ) (m : Measure) → (IsPrimitiveName bytes → ⊥) → IsNamed ms bytes at
    → ((k : Measure) → slice_get table at ≡ Some k → m ≡ k) → AreMeasured ms n table → IsMeasure ms n (text bytes) m
named_measure ms table bytes at n m other it found all =
    let t = all at it.members it.stands in
    let P : Measure → Type 0 = λ k. IsMeasure ms n (text bytes) k in
    subst P (sym (found t.0 t.1))
    (measure_along ms n (object it.members) (text bytes) t.0 (text_is ms bytes it.members other it.named) (object_of_text ms bytes it.members it.named) t.2)

pub named_measured : (ms : Members Number) (table : List Measure) (bytes : List ℕ) (at : ℕ) (m : Measure) → (IsPrimitiveName bytes → ⊥) → position (has_id bytes) (schema_entries ms) ≡ Some at
    → ((k : Measure) → slice_get table at ≡ Some k → m ≡ k) → Measures ms table (text bytes) m
named_measured ms table bytes at m other h found = record {
  any = λ n all. named_measure ms table bytes at n m other (named_at ms bytes at h) found all;
  whole = λ n os all is. cc;
}

pub object_measured : (ms os : Members Number) (table : List Measure) (m : Measure) → ((n : ℕ) → AreMeasured ms n table → IsMeasure ms (suc n) (object os) m) → Measures ms table (object os) m
object_measured ms os table m h = record {
  any = λ n all. measure_weaker ms n (object os) m (h n all);
  whole = λ n other all is. h n all;
}

view-Members : (members : List Member) → view (variants.Members members) ≡ object (members_view members)
view-Members members = search (rules, the_lemmas)

pub tree_measured : (ms : Members Number) (table : List Measure) (tree : Tree) (members slice : List Member) (m : Measure) → tree ≡ variants.Members members → slice ≡ members
    → ((n : ℕ) → AreMeasured ms n table → IsMeasure ms (suc n) (object (members_view slice)) m) → Measures ms table (view tree) m
tree_measured ms table tree members slice m is same h =
    let P : List Member → Type 0 = λ os. Measures ms table (object (members_view os)) m in
    let Q : Json → Type 0 = λ v. Measures ms table v m in
    subst Q (sym (ap view is ∙ view-Members members)) (subst P same (object_measured ms (members_view slice) table m h))

-- ---- a round
-- what an entry is
pub entry_object : (vs : List Json) (entries : List Tree) (at : ℕ) (x : Tree) (os : Members Number) → map view entries ≡ vs → at < length entries → x ≡ get_or entries at x
    → slice_get vs at ≡ Some (object os) → view x ≡ object os
entry_object vs entries at x os same within is h =
    let there : slice_get (map view entries) at ≡ Some (view x) =
    slice_get-map view entries at ∙ ap (option_map view) (slice_get-get_or entries at x within ∙ ap (λ (t : Tree). Some t) (sym is)) in
    let e : Some (view x) ≡ Some (object os) = sym there ∙ ap (λ (ws : List Json). slice_get ws at) same ∙ h in
    cc

-- The entries before a place are measured by one step more.
pub record IsMixed (ms : Members Number) (n at : ℕ) (os : Members Number) (i : ℕ) (table : List Measure) : Type 0 where
  pub measure : Measure
  pub stands : slice_get table i ≡ Some measure
  pub right : IsMeasure ms n (object os) measure
  pub more : i < at → IsMeasure ms (suc n) (object os) measure

abbrev pub AreMixed : Members Number → ℕ → ℕ → List Measure → Type 0
AreMixed ms n at table = (i : ℕ) (os : Members Number) → slice_get (schema_entries ms) i ≡ Some (object os) → IsMixed ms n at os i table

pub mixed_first : (ms : Members Number) (n : ℕ) (table : List Measure) → AreMeasured ms n table → AreMixed ms n 0 table
mixed_first ms n table all i os e =
    let t = all i os e in
    record { measure = t.0; stands = t.1; right = t.2; more = λ less. absurd (omega (arith, less)) }

pub mixed_right : (ms : Members Number) (n at : ℕ) (table : List Measure) → AreMixed ms n at table → AreMeasured ms n table
mixed_right ms n at table all i os e = let t = all i os e in (t.measure, t.stands, t.right)

pub mixed_last : (ms : Members Number) (n at : ℕ) (table : List Measure) → length (schema_entries ms) ≤ at → AreMixed ms n at table → AreMeasured ms (suc n) table
mixed_last ms n at table past all i os e =
    let t = all i os e in
    let within = slice_get_within (schema_entries ms) i (object os) e in
    (t.measure, t.stands, t.more (omega (arith, past, within)))

get-set_same : {X : Type 0} (xs : List X) (i : ℕ) (y : X) → i < length xs → slice_get (set xs i y) i ≡ Some y
get-set_same xs i y h =
    let fits : i < length (set xs i y) = rw length-set h in
    slice_get-get_or (set xs i y) i y fits ∙ ap (λ z. Some z) (get_or-set_same xs i y y h)

get-set_other : {X : Type 0} (xs : List X) (i j : ℕ) (x y : X) → (j ≡ i → ⊥) → slice_get xs j ≡ Some x → slice_get (set xs i y) j ≡ Some x
get-set_other xs i j x y other h =
    let within = slice_get_within xs j x h in
    let fits : j < length (set xs i y) = rw length-set within in
    slice_get-get_or (set xs i y) j y fits ∙ ap (λ z. Some z) (get_or-set_other xs i j y y other) ∙ sym (slice_get-get_or xs j y within) ∙ h

pub mixed_more : (ms : Members Number) (n at : ℕ) (table new : List Measure) (k : Measure) → at < length table → new ≡ set table at k
    → ((os : Members Number) → slice_get (schema_entries ms) at ≡ Some (object os) → IsMeasure ms (suc n) (object os) k)
    → AreMixed ms n at table → AreMixed ms n (at + 1) new
mixed_more ms n at table new k within is here all i os e =
    let P : List Measure → Type 0 = λ t. IsMixed ms n (at + 1) os i t in
    subst P (sym is) (⊎_elim
    (λ same.
    let Q : ℕ → Type 0 = λ j. slice_get (schema_entries ms) j ≡ Some (object os) in
    let R : ℕ → Type 0 = λ j. slice_get (set table at k) j ≡ Some k in
    let right = here os (subst Q same e) in
    record { measure = k; stands = subst R (sym same) (get-set_same table at k within); right = measure_weaker ms n (object os) k right; more = λ less. right })
    (λ other.
    let t = all i os e in
    record { measure = t.measure; stands = get-set_other table at i t.measure k other t.stands; right = t.right; more = λ less. t.more (omega (arith, less, other)) })
    (cases_eq i at))

-- ---- the rounds
pub first_measured : (ms : Members Number) (table : List Measure) → length table ≡ length (schema_entries ms)
    → ((i : ℕ) (m : Measure) → slice_get table i ≡ Some m → (m.level ≡ 0) × (m.reaches ≡ false)) → AreMeasured ms 0 table
first_measured ms table sized least i os e =
    let within = slice_get_within (schema_entries ms) i (object os) e in
    let d : Measure = record { level = 0; reaches = false } in
    let at : slice_get table i ≡ Some (get_or table i d) = slice_get-get_or table i d (omega (arith, within, sized)) in
    let low = least i (get_or table i d) at in
    (get_or table i d, at, first_measure ms (object os) (get_or table i d) low.0 low.1)

weaker : (ms : Members Number) (n : ℕ) (table : List Measure) → AreMeasured ms (suc n) table → AreMeasured ms n table
weaker ms n table all i os e = let t = all i os e in (t.0, t.1, measure_weaker ms n (object os) t.0 t.2)

weakest : (ms : Members Number) (n : ℕ) (table : List Measure) → AreMeasured ms n table → AreMeasured ms 0 table
weakest ms zero table all = all
weakest ms (suc n) table all = weakest ms n table (weaker ms n table all)

climbed : (A : ℕ → Type 0) → ((n : ℕ) → A n → A (suc n)) → A 0 → (n : ℕ) → A n
climbed A step base zero = base
climbed A step base (suc n) = step n (climbed A step base n)

-- a table that a round does not change is right
pub settled : (ms : Members Number) (n m : ℕ) (table new : List Measure) → new ≡ table → ((k : ℕ) → AreMeasured ms k table → AreMeasured ms (suc k) new)
    → AreMeasured ms n table → AreMeasured ms m new
settled ms n m table new same step all =
    let P : List Measure → Type 0 = λ t. (k : ℕ) → AreMeasured ms k t → AreMeasured ms (suc k) new in
    let Q : List Measure → Type 0 = λ t. AreMeasured ms 0 t in
    climbed (λ k. AreMeasured ms k new) (subst P (sym same) step) (subst Q (sym same) (weakest ms n table all)) m

-- a table of one measure
replicated : {X : Type 0} (n : ℕ) (x : X) (i : ℕ) (y : X) → slice_get (replicate n x) i ≡ Some y → y ≡ x
replicated zero x i y h = cc
replicated (suc n) x zero y h = cc
replicated (suc n) x (suc i) y h = replicated n x i y h

pub least_measured : (ms : Members Number) (table : List Measure) (n : ℕ) (m : Measure) → table ≡ replicate n m → length table ≡ length (schema_entries ms)
    → m.level ≡ 0 → m.reaches ≡ false → AreMeasured ms 0 table
least_measured ms table n m is sized low off =
    first_measured ms table sized (λ i k h.
    let P : List Measure → Type 0 = λ t. slice_get t i ≡ Some k in
    let same : k ≡ m = replicated n m i k (subst P is h) in
    (ap (λ (w : Measure). w.level) same ∙ low, ap (λ (w : Measure). w.reaches) same ∙ off))

-- a table with what stands there
pub put_same : (table : List Measure) (at : ℕ) (d m : Measure) → get_or table at d ≡ m → table ≡ set table at m
put_same table at d m same = sym (ap (λ w. set table at w) (sym same) ∙ set-get_or table at d)
