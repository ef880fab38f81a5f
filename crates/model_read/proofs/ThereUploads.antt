-- What a document without breach declares is there: its interfaces, each with its place.
use Rattle.std.proofs.Common.{◌≡◌, ℕ, zero, suc, ◌+◌, List, [], ◌∷◌, Bool, true, false, if◌then◌else◌, Option, Some, None, refl, sym, ap, ◌∙◌, subst, arith}
use Rattle.std.specs.Prelude.{codes, decimal, IsTrue, ◌↔◌}
use Rattle.std.specs.List.{AllZip, enumerate_from}
use Rattle.std.specs.Str.{bytes_eq}
use Rattle.std.proofs.lemmas.Slice.Eq.{bytes_eq-Decides}
use Rattle.dt_base.specs.Existence.{IsThere}
use Rattle.dt_base.proofs.Existence.{is_there}
use Rattle.json_decimal.specs.Number.{Number}
use Rattle.json_tree.specs.Values.{Json, null, truth, number, text, array, object, Elements, no_elements, element, Members, no_members, member}
use Rattle.json_tree.specs.Members.{list_of, value_at}
use Rattle.json_tree.specs.Places.{element_at}
use Rattle.json_tree.specs.Pointers.{IsPointerOf, pointer_text}
use Rattle.dtdl_terms.specs.declared.uploaded.Uploaded.{Uploaded}
use Rattle.local_rules.specs.Breaches.{BreaksNoLocalRule}
use Rattle.local_rules.specs.declared.rule.LocalRule.TheVariants as rule
use Rattle.model_read.specs.Machinery.Shapes.{IsValidInterface}
use Rattle.model_read.specs.Uploads.{AreUploaded, HasOrdinal, IsNew, IsUploaded, IsUploadedAt}
use Rattle.model_read.proofs.Shaped.{interface_object}
use Rattle.model_read.proofs.There.{interface_there}
use Rattle.model_read.proofs.ThereLeaves.{Some_of, last_there, next_there}
use Rattle.model_read.proofs.Whole.{interface}

-- ---- ordinals
differs : (key k : List ℕ) → bytes_eq k key ≡ false → k ≡ key → ⊥
differs key k is same = let yes = (bytes_eq-Decides k key).1 same in let e : false ≡ true = sym is ∙ yes in cc

later_new : (key k : List ℕ) (w : Json) (ms : Members Number) (at : ℕ) → (k ≡ key → ⊥) → IsNew key ms at → IsNew key (member k w ms) (suc at)
later_new key k w ms at other none zero u less there = let pair : (k, w) ≡ (key, u) = cc in other (ap (λ (m : List ℕ × Json). m.0) pair)
later_new key k w ms at other none (suc j) u less there = none j u (omega arith) there

first_at : (key : List ℕ) (ms : Members Number) (v : Json) → value_at key ms ≡ Some v → (at : ℕ) × HasOrdinal key ms (Some at)
first_at key no_members v is = absurd (let e : None ≡ Some v = is in cc)
first_at key (member k w ms) v is = by (bytes_eq k key) refl (first_at key ms v) is
  where
    by : (b : Bool) → bytes_eq k key ≡ b → (value_at key ms ≡ Some v → (at : ℕ) × HasOrdinal key ms (Some at)) → (if b then Some w else value_at key ms) ≡ Some v
        → (at : ℕ) × HasOrdinal key (member k w ms) (Some at)
    by true same later e =
        let keys : k ≡ key = (bytes_eq-Decides k key).0 same in
        (0, (w, ap (λ (l : List ℕ). Some (l, w)) keys, ap (λ (b : Bool). if b then Some w else value_at key ms) same, λ j u less. absurd (omega arith)))
    by false other later e =
        let rest = later e in
        (suc rest.0, (rest.1.0, rest.1.1, ap (λ (b : Bool). if b then Some w else value_at key ms) other ∙ rest.1.2, later_new key k w ms rest.0 (differs key k other) rest.1.3))

ordinal : (key : List ℕ) (ms : Members Number) → (o : Option ℕ) × HasOrdinal key ms o
ordinal key ms = by (value_at key ms) refl
  where
    by : (o : Option Json) → value_at key ms ≡ o → (o : Option ℕ) × HasOrdinal key ms o
    by None is = (None, is)
    by (Some v) is = let first = first_at key ms v is in (Some first.0, first.1)

as_text : (o : Option Json) → (b : Bool) × (IsTrue b ↔ ((bytes : List ℕ) × (o ≡ Some (text bytes))))
as_text (Some (text bytes)) = (true, ((λ yes. (bytes, refl)), (λ is. refl)))
as_text None = (false, ((λ no. absurd (let e : false ≡ true = no in cc)), (λ is. absurd (let e = is.1 in cc))))
as_text (Some null) = (false, ((λ no. absurd (let e : false ≡ true = no in cc)), (λ is. absurd (let e = is.1 in cc))))
as_text (Some (truth b)) = (false, ((λ no. absurd (let e : false ≡ true = no in cc)), (λ is. absurd (let e = is.1 in cc))))
as_text (Some (number n)) = (false, ((λ no. absurd (let e : false ≡ true = no in cc)), (λ is. absurd (let e = is.1 in cc))))
as_text (Some (array vs)) = (false, ((λ no. absurd (let e : false ≡ true = no in cc)), (λ is. absurd (let e = is.1 in cc))))
as_text (Some (object ms)) = (false, ((λ no. absurd (let e : false ≡ true = no in cc)), (λ is. absurd (let e = is.1 in cc))))

-- ---- interfaces in their places
upload_there : (whole : Json) (place : List ℕ) (at nth : ℕ) (v : Json) → (base : List ℕ) → IsPointerOf whole place base → IsValidInterface v
    → IsThere (Some_of Uploaded (IsUploaded whole place at nth v))
upload_there whole place at nth v base points valid =
    let o = interface_object v valid in
    let parents = ordinal (codes "extends") o.0 in
    let contents = ordinal (codes "contents") o.0 in
    let alone = as_text (value_at (codes "extends") o.0) in
    last_there (Some_of Uploaded (IsUploaded whole place at nth v)) (interface_there o.0 (subst IsValidInterface o.1 valid)) (λ i.
    let id = first_at (codes "@id") o.0 i.1.id.0 i.1.id.1 in (
      record {
        interface = i.0;
        document = nth;
        base = base;
        index = at;
        id_at = id.0;
        parents_at = parents.0;
        parents_as_text = alone.0;
        contents_at = contents.0;
      },
      record {
        members = o.0;
        is = o.1;
        declares = i.1;
        document = refl;
        base = points;
        index = refl;
        id_at = id.1;
        parents_at = parents.1;
        parents_as_text = alone.1;
        contents_at = contents.1;
      },
    ))

abbrev AllListed : Json → ℕ → ℕ → List Json → Type 0
AllListed whole nth n vs = (us : List Uploaded) × AllZip (IsUploadedAt whole nth) (enumerate_from n vs) us

uploads_there : (whole : Json) (nth n : ℕ) (vs : Elements Number)
    → ((i j : ℕ) (v : Json) → j ≡ n + i → element_at vs i ≡ Some v → IsThere (Some_of Uploaded (IsUploaded whole (j ∷ []) j nth v)))
    → IsThere (AllListed whole nth n (list_of vs))
uploads_there whole nth n no_elements each = let it : AllListed whole nth n [] = ([], tt) in is_there it
uploads_there whole nth n (element v vs) each =
    next_there (AllListed whole nth n (v ∷ list_of vs)) (each zero n v (omega arith) refl) (λ one.
    last_there (AllListed whole nth n (v ∷ list_of vs)) (uploads_there whole nth (n + 1) vs (λ i j w e at. each (suc i) j w (omega arith) at))
    (λ rest. (one.0 ∷ rest.0, (one.1, rest.1))))

pub all_there : (whole : Json) (nth : ℕ) → BreaksNoLocalRule whole → IsThere ((us : List Uploaded) × AreUploaded whole nth us)
all_there (array vs) nth none = uploads_there (array vs) nth 0 vs (λ i j v e at.
    let here : element_at vs j ≡ Some v = ap (element_at vs) (let same : j ≡ i = omega arith in same) ∙ at in
    upload_there (array vs) (j ∷ []) j nth v (pointer_text (decimal j ∷ [])) (decimal j ∷ [], (decimal j, v, [], (here, refl), refl, refl), refl)
    (interface v (λ place broken breaks. none (j ∷ place) broken (v, here, breaks))))
all_there (object ms) nth none =
    last_there (Some_of (List Uploaded) (AreUploaded (object ms) nth)) (upload_there (object ms) [] 0 nth (object ms) [] ([], refl, refl) (interface (object ms) none))
    (λ u. (u.0 ∷ [], (u.0, refl, u.1)))
all_there null nth none = absurd (none [] rule.WrongKind (refl, refl))
all_there (truth b) nth none = absurd (none [] rule.WrongKind (refl, refl))
all_there (number n) nth none = absurd (none [] rule.WrongKind (refl, refl))
all_there (text bytes) nth none = absurd (none [] rule.WrongKind (refl, refl))
