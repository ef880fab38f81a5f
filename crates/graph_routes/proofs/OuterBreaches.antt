-- Breaches that show without a model: where they stand, and what a body without them tells.
use Rattle.std.proofs.Common.{◌≡◌, ℕ, suc, ◌≤◌, inl, inr, List, [], ◌∷◌, length, Bool, true, false, codes, bytes_eq, Option, Some, None, refl, sym, ap, subst, ◌∙◌, lit≤, arith}
use Rattle.std.specs.Prelude.{IsTrue, if◌then◌else◌}
use Rattle.std.specs.Option.{IsSomeAnd, option_and_then}
use Rattle.std.proofs.lemmas.Slice.Eq.{bytes_eq-Decides}
use Rattle.json_decimal.specs.Number.{Number}
use Rattle.json_tree.specs.Values.{Json, null, truth, number, text, array, object, Members, no_members, member}
use Rattle.json_tree.specs.Places.{IsPart, member_at, IsSomewhere}
use Rattle.json_tree.specs.Members.{text_in, value_at, value_in}
use Rattle.dt_base.specs.names.Grammar.{Identifier, NameText, OwnDtmiText, dtmi_text}
use Rattle.dtdl_terms.specs.Terms.{no_contents}
use Rattle.twin_value.specs.Codes.{code_number}
use Rattle.twin_value.specs.Fits.{is_object}
use Rattle.twin_value.specs.Roles.{Role, body_member_role, twin_body, twin_metadata, model_id, target_id, link_name, link_body}
use Rattle.twin_value.specs.Breaches.{HasBodyPart, IsBodyBreach, HasNoBreach, IsModelId, IsOuterBreach, IsOuterLinkBreach, IsTwinId, no_library, text_under}
use Rattle.twin_value.specs.Twins.{model_text}
use Rattle.twin_value.specs.declared.code.BodyCode.{BodyCode}
use Rattle.twin_value.specs.declared.code.BodyCode.TheVariants as code
use Rattle.graph_steps.specs.Soundness.{IsModelOf}

-- ---- places
part_is : (r : Role) (v : Json) (i : ℕ) (s : Role) (part : Json) → HasBodyPart r v i s part → IsPart v i part
part_is r null i s part p = absurd p
part_is r (truth b) i s part p = absurd p
part_is r (number n) i s part p = absurd p
part_is r (text bytes) i s part p = absurd p
part_is r (array vs) i s part p = p.0
part_is r (object ms) i s part p = (p.0, p.1)

breach_somewhere : (r : Role) (v : Json) (place : List ℕ) (broken : BodyCode) → IsBodyBreach r v place broken → IsSomewhere v place
breach_somewhere r v [] broken b = (v, refl)
breach_somewhere r v (i ∷ place) broken (s, part, p, b) = let below = breach_somewhere s part place broken b in (below.0, (part, part_is r v i s part p, below.1))

abbrev twin_outside : Role
twin_outside = twin_body no_library []

abbrev link_outside : Role
link_outside = link_body no_library None no_contents

pub twin_somewhere : (v : Json) (place : List ℕ) (broken : BodyCode) → IsOuterBreach v place broken → IsSomewhere v place
twin_somewhere v place broken b = breach_somewhere twin_outside v place broken b.0

pub link_somewhere : (v : Json) (place : List ℕ) (broken : BodyCode) → IsOuterLinkBreach v place broken → IsSomewhere v place
link_somewhere v place broken b = breach_somewhere link_outside v place broken b.0

-- ---- members
-- Nothing is broken of what a model is not asked for.
abbrev Free : Role → Json → Type 0
Free r v = (place : List ℕ) (broken : BodyCode) → IsBodyBreach r v place broken → code_number broken ≤ 3 → ⊥

found_here : (b : Bool) (key k : List ℕ) (v : Json) (ms : Members Number) (w : Json) → bytes_eq k key ≡ b → (if b then Some v else value_at key ms) ≡ Some w
    → (value_at key ms ≡ Some w → (i : ℕ) × (member_at ms i ≡ Some (key, w))) → (i : ℕ) × (member_at (member k v ms) i ≡ Some (key, w))
found_here true key k v ms w is e later =
    let same : k ≡ key = (bytes_eq-Decides k key).0 is in
    let value : v ≡ w = cc in
    (0, ap (λ (q : List ℕ). Some (q, v)) same ∙ ap (λ (x : Json). Some (key, x)) value)
found_here false key k v ms w is e later = let h = later e in (suc h.0, h.1)

found_at : (key : List ℕ) (ms : Members Number) (w : Json) → value_at key ms ≡ Some w → (i : ℕ) × (member_at ms i ≡ Some (key, w))
found_at key no_members w e = absurd cc
found_at key (member k v ms) w e = found_here (bytes_eq k key) key k v ms w refl e (found_at key ms w)

under : (r : Role) (v : Json) (key : List ℕ) (w : Json) → Free r v → value_in key v ≡ Some w → Free (body_member_role r key) w
under r null key w h e = absurd cc
under r (truth b) key w h e = absurd cc
under r (number n) key w h e = absurd cc
under r (text bytes) key w h e = absurd cc
under r (array vs) key w h e = absurd cc
under r (object ms) key w h e = λ place broken b low.
    let f = found_at key ms w e in
    h (f.0 ∷ place) broken (body_member_role r key, w, (key, f.1, refl), b) low

has_at : (b : Bool) (o : Option Json) → (b ≡ false → ⊥) → (IsTrue b × (o ≡ None) → ⊥) → (w : Json) × (o ≡ Some w)
has_at b (Some w) is has = (w, refl)
has_at true None is has = absurd (has (refl, refl))
has_at false None is has = absurd (is refl)

some_text : (o : Option (List ℕ)) → (o ≡ None → ⊥) → (t : List ℕ) × (o ≡ Some t)
some_text (Some t) h = (t, refl)
some_text None h = absurd (h refl)

text_known : (key : List ℕ) (v w : Json) (t : List ℕ) → value_in key v ≡ Some w → text_in w ≡ Some t → text_under key v ≡ Some t
text_known key v w t e f = ap (λ (o : Option Json). option_and_then text_in o) e ∙ f

one_text : (x y : List ℕ) → Some x ≡ Some y → x ≡ y
one_text x y e = cc

not_none : {A : Type 0} (o : Option A) (x : A) → o ≡ Some x → o ≡ None → ⊥
not_none o x e f = let both : Some x ≡ None = sym e ∙ f in absurd cc

one_value : (o : Option Json) (x y : Json) → o ≡ Some x → o ≡ Some y → x ≡ y
one_value o x y e f = let both : Some x ≡ Some y = sym e ∙ f in cc

-- ---- twins
free_twin : (v : Json) → HasNoBreach (IsOuterBreach v) → Free twin_outside v
free_twin v h place broken b low = h place broken (b, low)

metadata : (v : Json) → HasNoBreach (IsOuterBreach v) → (m : Json) × (value_in (codes "$metadata") v ≡ Some m) × Free twin_metadata m
metadata v h =
    let free = free_twin v h in
    let m = has_at (is_object v) (value_in (codes "$metadata") v) (λ e. free [] code.WrongKind e (lit≤ tt)) (λ e. free [] code.MissingKey e (lit≤ tt)) in
    (m.0, m.1, under twin_outside v (codes "$metadata") m.0 free m.1)

model : (m : Json) → Free twin_metadata m → (w : Json) × (t : List ℕ) × (value_in (codes "$model") m ≡ Some w) × (text_in w ≡ Some t) × Free model_id w
model m free =
    let w = has_at (is_object m) (value_in (codes "$model") m) (λ e. free [] code.WrongKind e (lit≤ tt)) (λ e. free [] code.MissingKey e (lit≤ tt)) in
    let below : Free model_id w.0 = under twin_metadata m (codes "$model") w.0 free w.1 in
    let t = some_text (text_in w.0) (λ e. below [] code.WrongKind e (lit≤ tt)) in
    (w.0, t.0, w.1, t.1, below)

pub no_metadata : (v : Json) → HasNoBreach (IsOuterBreach v) → value_in (codes "$metadata") v ≡ None → ⊥
no_metadata v h e = let m = metadata v h in not_none (value_in (codes "$metadata") v) m.0 m.1 e

free_metadata : (v m : Json) → HasNoBreach (IsOuterBreach v) → value_in (codes "$metadata") v ≡ Some m → Free twin_metadata m
free_metadata v m h e = let n = metadata v h in subst (Free twin_metadata) (one_value (value_in (codes "$metadata") v) n.0 m n.1 e) n.2

pub no_model : (v m : Json) → HasNoBreach (IsOuterBreach v) → value_in (codes "$metadata") v ≡ Some m → text_under (codes "$model") m ≡ None → ⊥
no_model v m h e none =
    let w = model m (free_metadata v m h e) in
    not_none (text_under (codes "$model") m) w.1 (text_known (codes "$model") m w.0 w.1 w.2 w.3) none

pub bad_model : (v m : Json) (t : List ℕ) → HasNoBreach (IsOuterBreach v) → value_in (codes "$metadata") v ≡ Some m → text_under (codes "$model") m ≡ Some t
    → ((id : Identifier) → OwnDtmiText t id → length t ≤ 128 → ⊥) → ⊥
bad_model v m t h e is none =
    let w = model m (free_metadata v m h e) in
    let same : w.1 ≡ t = one_text w.1 t (sym (text_known (codes "$model") m w.0 w.1 w.2 w.3) ∙ is) in
    let no : IsModelId t → ⊥ = λ known. (let short = known.2 in none known.0.0 (record { text = record { form = known.0.1; short = omega (arith, short) }; free = known.1 }) short) in
    w.4 [] code.BadId (subst (λ (o : Option (List ℕ)). IsSomeAnd o (λ bytes. IsModelId bytes → ⊥)) (sym (w.3 ∙ ap Some same)) no) (lit≤ tt)

pub names_model : (v m : Json) (t : List ℕ) (id : Identifier) → value_in (codes "$metadata") v ≡ Some m → text_under (codes "$model") m ≡ Some t → OwnDtmiText t id → length t ≤ 128
    → IsModelOf id × (model_text v ≡ Some (dtmi_text id))
names_model v m t id e is own short =
    let spelled : t ≡ dtmi_text id = own.text.form.spelled in (
      (subst (λ (x : List ℕ). OwnDtmiText x id) spelled own, subst (λ (x : List ℕ). length x ≤ 128) spelled short),
      ap (λ (o : Option Json). option_and_then (text_under (codes "$model")) o) e ∙ is ∙ ap Some spelled,
    )

-- ---- relationships
free_link : (v : Json) → HasNoBreach (IsOuterLinkBreach v) → Free link_outside v
free_link v h place broken b low = h place broken (b, low)

name : (v : Json) → HasNoBreach (IsOuterLinkBreach v) → (w : Json) × (t : List ℕ) × (text_under (codes "$relationshipName") v ≡ Some t) × (text_in w ≡ Some t) × Free link_name w
name v h =
    let free = free_link v h in
    let w = has_at (is_object v) (value_in (codes "$relationshipName") v) (λ e. free [] code.WrongKind e (lit≤ tt)) (λ e. free [] code.MissingKey (inr e) (lit≤ tt)) in
    let below : Free link_name w.0 = under link_outside v (codes "$relationshipName") w.0 free w.1 in
    let t = some_text (text_in w.0) (λ e. below [] code.WrongKind e (lit≤ tt)) in
    (w.0, t.0, text_known (codes "$relationshipName") v w.0 t.0 w.1 t.1, t.1, below)

pub no_name : (v : Json) → HasNoBreach (IsOuterLinkBreach v) → text_under (codes "$relationshipName") v ≡ None → ⊥
no_name v h e = let n = name v h in not_none (text_under (codes "$relationshipName") v) n.1 n.2 e

pub bad_name : (v : Json) (t : List ℕ) → HasNoBreach (IsOuterLinkBreach v) → text_under (codes "$relationshipName") v ≡ Some t → (NameText t → ⊥) → ⊥
bad_name v t h is none =
    let n = name v h in
    let same : n.1 ≡ t = one_text n.1 t (sym n.2 ∙ is) in
    n.4 [] code.BadId (subst (λ (o : Option (List ℕ)). IsSomeAnd o (λ bytes. NameText bytes → ⊥)) (sym (n.3 ∙ ap Some same)) none) (lit≤ tt)

target : (v : Json) → HasNoBreach (IsOuterLinkBreach v) → (w : Json) × (t : List ℕ) × (text_under (codes "$targetId") v ≡ Some t) × (text_in w ≡ Some t) × Free target_id w
target v h =
    let free = free_link v h in
    let w = has_at (is_object v) (value_in (codes "$targetId") v) (λ e. free [] code.WrongKind e (lit≤ tt)) (λ e. free [] code.MissingKey (inl e) (lit≤ tt)) in
    let below : Free target_id w.0 = under link_outside v (codes "$targetId") w.0 free w.1 in
    let t = some_text (text_in w.0) (λ e. below [] code.WrongKind e (lit≤ tt)) in
    (w.0, t.0, text_known (codes "$targetId") v w.0 t.0 w.1 t.1, t.1, below)

pub no_target : (v : Json) → HasNoBreach (IsOuterLinkBreach v) → text_under (codes "$targetId") v ≡ None → ⊥
no_target v h e = let n = target v h in not_none (text_under (codes "$targetId") v) n.1 n.2 e

pub bad_target : (v : Json) (t : List ℕ) → HasNoBreach (IsOuterLinkBreach v) → text_under (codes "$targetId") v ≡ Some t → (IsTwinId t → ⊥) → ⊥
bad_target v t h is none =
    let n = target v h in
    let same : n.1 ≡ t = one_text n.1 t (sym n.2 ∙ is) in
    n.4 [] code.BadId (subst (λ (o : Option (List ℕ)). IsSomeAnd o (λ bytes. IsTwinId bytes → ⊥)) (sym (n.3 ∙ ap Some same)) none) (lit≤ tt)
