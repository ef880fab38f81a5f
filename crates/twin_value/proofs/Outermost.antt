-- Breaches that show without a model.
use Rattle.std.proofs.Common.{◌≡◌, ℕ, ◌+◌, ◌<◌, ◌≤◌, inl, inr, List, [], ◌∷◌, ◌++◌, reverse, codes, Bool, true, false, bytes_eq, Option, Some, None, Result, Ok, Err, refl, sym, ap, subst, ◌∙◌, lit≤, arith}
use Rattle.std.specs.Prelude.{if◌then◌else◌}
use Rattle.std.specs.Result.{IfOk}
use Rattle.std.proofs.lemmas.Bool.{cases_lt}
use Rattle.json_tree.specs.Values.{Json, null, truth, number, text, array, object}
use Rattle.json_tree.specs.View.{members_view}
use Rattle.json_tree.specs.declared.tree.Member.{Member}
use Rattle.json_tree.specs.Members.{members_in}
use Rattle.dtdl_terms.specs.Terms.{no_contents}
use Rattle.twin_value.specs.Codes.{code_number}
use Rattle.twin_value.specs.Fits.{is_object}
use Rattle.twin_value.specs.Roles.{Role, anything, undeclared, any_text, any_object, model_id, target_id, link_name, twin_metadata, twin_body, part_body, link_body, value, body_member_role, element_role}
use Rattle.twin_value.specs.Breaches.{BreaksBody, UnknownMember, BadValue, HasBodyPart, IsBodyBreach, BodyBreachComesBefore, IsFirstBodyBreach, no_library}
use Rattle.twin_value.specs.Machinery.Walks.{JudgesBody, FindsFirstBodyBreach}
use Rattle.twin_value.specs.Machinery.Outer.{IsOuterBodyBreach, IsMild, is_undeclared, IsOutermost, FindsOuterBelow, IsOuterClearTo}
use Rattle.twin_value.specs.declared.code.BodyCode.{BodyCode}
use Rattle.twin_value.specs.declared.code.BodyCode.TheVariants as code
use Rattle.twin_value.specs.declared.walk.Found.{Found}
use Rattle.twin_value.proofs.Walked.{Clean, first_here, comes_before, in_part, reverse_more}

-- ---- roles of which no model is asked
abbrev pub Low : Role → Type 0
Low s = (v : Json) (place : List ℕ) (broken : BodyCode) → IsBodyBreach s v place broken → code_number broken ≤ 3

anything_part : (v : Json) (i : ℕ) (s : Role) (part : Json) → HasBodyPart anything v i s part → s ≡ anything
anything_part null i s part p = absurd p
anything_part (truth b) i s part p = absurd p
anything_part (number n) i s part p = absurd p
anything_part (text bytes) i s part p = absurd p
anything_part (array vs) i s part p = sym p.1
anything_part (object ms) i s part p = sym p.2

anything_clear : (v : Json) (place : List ℕ) (broken : BodyCode) → IsBodyBreach anything v place broken → ⊥
anything_clear v [] code.WrongKind b = b
anything_clear v [] code.MissingKey b = b
anything_clear v [] code.BadId b = b
anything_clear v [] code.UnknownMember b = b
anything_clear v [] code.BadValue b = b
anything_clear v [] code.UnknownRelationship b = b
anything_clear v (i ∷ place) broken b =
    anything_clear b.1 place broken (subst (λ (q : Role). IsBodyBreach q b.1 place broken) (anything_part v i b.0 b.1 b.2) b.3)

anything_low : Low anything
anything_low v place broken b = absurd (anything_clear v place broken b)

part_low : (s : Role) → Low (element_role s) → ((key : List ℕ) → Low (body_member_role s key)) → (v : Json) (i : ℕ) (t : Role) (part : Json) → HasBodyPart s v i t part → Low t
part_low s e m null i t part p = absurd p
part_low s e m (truth b) i t part p = absurd p
part_low s e m (number n) i t part p = absurd p
part_low s e m (text bytes) i t part p = absurd p
part_low s e m (array vs) i t part p = subst Low p.1 e
part_low s e m (object ms) i t part p = subst Low p.2 (m p.0)

here_low : (s : Role) (v : Json) → (UnknownMember s v → ⊥) → (BadValue s v → ⊥) → (broken : BodyCode) → BreaksBody broken s v → code_number broken ≤ 3
here_low s v unknown bad code.WrongKind b = lit≤ tt
here_low s v unknown bad code.MissingKey b = lit≤ tt
here_low s v unknown bad code.BadId b = lit≤ tt
here_low s v unknown bad code.UnknownMember b = absurd (unknown b)
here_low s v unknown bad code.BadValue b = absurd (bad b)
here_low s v unknown bad code.UnknownRelationship b = absurd b

low_by : (s : Role) → ((v : Json) → UnknownMember s v → ⊥) → ((v : Json) → BadValue s v → ⊥) → Low (element_role s) → ((key : List ℕ) → Low (body_member_role s key)) → Low s
low_by s unknown bad e m v [] broken b = here_low s v (unknown v) (bad v) broken b
low_by s unknown bad e m v (i ∷ place) broken b = part_low s e m v i b.0 b.1 b.2 b.1 place broken b.3

model_low : Low model_id
model_low = low_by model_id (λ v b. b) (λ v b. b) anything_low (λ key. anything_low)

metadata_member : (b : Bool) → Low (if b then model_id else anything)
metadata_member true = model_low
metadata_member false = anything_low

mild_low : (s : Role) → IsMild s → is_undeclared s ≡ false → Low s
mild_low anything mild e = anything_low
mild_low undeclared mild e = absurd cc
mild_low any_text mild e = low_by any_text (λ v b. b) (λ v b. b) anything_low (λ key. anything_low)
mild_low any_object mild e = low_by any_object (λ v b. b) (λ v b. b) anything_low (λ key. anything_low)
mild_low model_id mild e = model_low
mild_low target_id mild e = low_by target_id (λ v b. b) (λ v b. b) anything_low (λ key. anything_low)
mild_low link_name mild e = low_by link_name (λ v b. b) (λ v b. b) anything_low (λ key. anything_low)
mild_low twin_metadata mild e = low_by twin_metadata (λ v b. b) (λ v b. b) anything_low (λ key. metadata_member (bytes_eq key (codes "$model")))
mild_low (twin_body l cs) mild e = absurd mild
mild_low (part_body l cs) mild e = absurd mild
mild_low (link_body l from ps) mild e = absurd mild
mild_low (value ns o) mild e = absurd mild

undeclared_part : (v : Json) (i : ℕ) (s : Role) (part : Json) → HasBodyPart undeclared v i s part → s ≡ anything
undeclared_part null i s part p = absurd p
undeclared_part (truth b) i s part p = absurd p
undeclared_part (number n) i s part p = absurd p
undeclared_part (text bytes) i s part p = absurd p
undeclared_part (array vs) i s part p = sym p.1
undeclared_part (object ms) i s part p = sym p.2

undeclared_none : (v : Json) (place : List ℕ) (broken : BodyCode) → IsBodyBreach undeclared v place broken → code_number broken ≤ 3 → ⊥
undeclared_none v [] code.WrongKind b low = b
undeclared_none v [] code.MissingKey b low = b
undeclared_none v [] code.BadId b low = b
undeclared_none v [] code.UnknownMember b low = omega (arith, low)
undeclared_none v [] code.BadValue b low = b
undeclared_none v [] code.UnknownRelationship b low = b
undeclared_none v (i ∷ place) broken b low =
    anything_clear b.1 place broken (subst (λ (q : Role). IsBodyBreach q b.1 place broken) (undeclared_part v i b.0 b.1 b.2) b.3)

is_undeclared_so : (s : Role) → is_undeclared s ≡ true → s ≡ undeclared
is_undeclared_so undeclared e = refl
is_undeclared_so anything e = absurd cc
is_undeclared_so any_text e = absurd cc
is_undeclared_so any_object e = absurd cc
is_undeclared_so model_id e = absurd cc
is_undeclared_so target_id e = absurd cc
is_undeclared_so link_name e = absurd cc
is_undeclared_so twin_metadata e = absurd cc
is_undeclared_so (twin_body l cs) e = absurd cc
is_undeclared_so (part_body l cs) e = absurd cc
is_undeclared_so (link_body l from ps) e = absurd cc
is_undeclared_so (value ns o) e = absurd cc

-- ---- one member
pub undeclared_found : (s : Role) (v : Json) → is_undeclared s ≡ true → FindsFirstBodyBreach (IsOuterBodyBreach s v) None
undeclared_found s v e place broken b =
    undeclared_none v place broken (subst (λ (q : Role). IsBodyBreach q v place broken) (is_undeclared_so s e) b.0) b.1

outer_first : (s : Role) (v : Json) (place : List ℕ) (broken : BodyCode) → code_number broken ≤ 3 → IsFirstBodyBreach (IsBodyBreach s v) place broken → IsFirstBodyBreach (IsOuterBodyBreach s v) place broken
outer_first s v place broken low first = record {
  breach = (first.breach, low);
  least = λ other another before b. first.least other another before b.0;
}

outer_of : (s : Role) (v : Json) (found : Option Found) → Low s → FindsFirstBodyBreach (IsBodyBreach s v) found → FindsFirstBodyBreach (IsOuterBodyBreach s v) found
outer_of s v None low h = λ place broken b. h place broken b.0
outer_of s v (Some found) low h = outer_first s v (reverse found.steps.items) found.code (low v (reverse found.steps.items) found.code h.breach) h

pub mild_found : {E : Type 0} (s : Role) (v : Json) (res : Result (Option Found) E) → IsMild s → is_undeclared s ≡ false → IfOk res (FindsFirstBodyBreach (IsBodyBreach s v)) → IfOk res (FindsFirstBodyBreach (IsOuterBodyBreach s v))
mild_found s v (Ok found) mild e h = outer_of s v found (mild_low s mild e) h
mild_found s v (Err x) mild e h = tt

-- ---- the members of a body
pub outer_start : (r : Role) (v : Json) → IsOuterClearTo r v 0
outer_start r v = record { clear = λ position place broken less b low. omega (arith, less) }

outer_least : (r : Role) (v : Json) (at : ℕ) (s : Role) (part : Json) → IsOuterClearTo r v at → Clean r v → HasBodyPart r v at s part → (place : List ℕ) (broken : BodyCode)
    → ((other : List ℕ) (another : BodyCode) → BodyBreachComesBefore other another place broken → IsOuterBodyBreach s part other another → ⊥)
    → (other : List ℕ) (another : BodyCode) → BodyBreachComesBefore other another (at ∷ place) broken → IsOuterBodyBreach r v other another → ⊥
outer_least r v at s part walked here p place broken least other another c b = elim (comes_before at place broken other another c) [
  | inl e ↦ here another (subst (λ (o : List ℕ). IsBodyBreach r v o another) e b.0)
  | inr h ↦ elim h.3 [
    | inl less ↦ walked.clear h.0 h.1 another less (subst (λ (o : List ℕ). IsBodyBreach r v o another) h.2 b.0) b.1
    | inr same ↦ (let b2 = subst (λ (o : List ℕ). IsBodyBreach r v o another) h.2 b.0 in
        let b3 = subst (λ (j : ℕ). IsBodyBreach r v (j ∷ h.1) another) same.0 b2 in
        least h.1 another same.1 (in_part r v at s part h.1 another p b3, b.1))
  ]
]

pub outer_in_part : (r : Role) (v : Json) (at : ℕ) (s : Role) (part : Json) (inner up : Found) (found : Option Found) → IsOuterClearTo r v at → HasBodyPart r v at s part
    → FindsFirstBodyBreach (IsOuterBodyBreach s part) found → found ≡ Some inner → (up.steps.items ≡ inner.steps.items ++ at ∷ []) × (up.code ≡ inner.code) → Clean r v → FindsFirstBodyBreach (IsOuterBodyBreach r v) (Some up)
outer_in_part r v at s part inner up found walked p w some e here =
    let first : IsFirstBodyBreach (IsOuterBodyBreach s part) (reverse inner.steps.items) inner.code = subst (λ (o : Option Found). FindsFirstBodyBreach (IsOuterBodyBreach s part) o) some w in
    let more : IsFirstBodyBreach (IsOuterBodyBreach r v) (reverse (inner.steps.items ++ at ∷ [])) inner.code =
    subst (λ (o : List ℕ). IsFirstBodyBreach (IsOuterBodyBreach r v) o inner.code) (sym (reverse_more inner.steps.items at)) (record {
      breach = ((s, part, p, first.breach.0), first.breach.1);
      least = outer_least r v at s part walked here p (reverse inner.steps.items) inner.code first.least;
    }) in
    subst (λ (c : BodyCode). IsFirstBodyBreach (IsOuterBodyBreach r v) (reverse up.steps.items) c) (sym e.1)
    (subst (λ (l : List ℕ). IsFirstBodyBreach (IsOuterBodyBreach r v) (reverse l) inner.code) (sym e.0) more)

outer_below : (r : Role) (v : Json) (at : ℕ) (s : Role) (part : Json) → IsOuterClearTo r v at → HasBodyPart r v at s part → ((place : List ℕ) (broken : BodyCode) → IsOuterBodyBreach s part place broken → ⊥)
    → (position : ℕ) (place : List ℕ) (broken : BodyCode) → position < at + 1 → IsBodyBreach r v (position ∷ place) broken → code_number broken ≤ 3 → ⊥
outer_below r v at s part walked p none position place broken less b low = elim (cases_lt position at) [
  | inl before ↦ walked.clear position place broken before b low
  | inr high ↦ (let e : position ≡ at = omega (arith, less, high) in
      none place broken (in_part r v at s part place broken p (subst (λ (j : ℕ). IsBodyBreach r v (j ∷ place) broken) e b), low))
]

pub outer_not_in_part : (r : Role) (v : Json) (at : ℕ) (s : Role) (part : Json) (found : Option Found) → IsOuterClearTo r v at → HasBodyPart r v at s part
    → FindsFirstBodyBreach (IsOuterBodyBreach s part) found → found ≡ None → IsOuterClearTo r v (at + 1)
outer_not_in_part r v at s part found walked p w none = record {
  clear = outer_below r v at s part walked p (subst (λ (o : Option Found). FindsFirstBodyBreach (IsOuterBodyBreach s part) o) none w);
}

outer_all_clear : (r : Role) (v : Json) (at : ℕ) → IsOuterClearTo r v at → Clean r v → ((i : ℕ) (s : Role) (part : Json) → HasBodyPart r v i s part → i < at)
    → (place : List ℕ) (broken : BodyCode) → IsOuterBodyBreach r v place broken → ⊥
outer_all_clear r v at walked here within [] broken b = here broken b.0
outer_all_clear r v at walked here within (i ∷ place) broken b = walked.clear i place broken (within i b.0.0 b.0.1 b.0.2) b.0 b.1

pub outer_all : (r : Role) (v : Json) (at : ℕ) → IsOuterClearTo r v at → ((i : ℕ) (s : Role) (part : Json) → HasBodyPart r v i s part → i < at) → Clean r v → FindsFirstBodyBreach (IsOuterBodyBreach r v) None
outer_all r v at walked within here = outer_all_clear r v at walked here within

-- ---- the body itself
outermost_low : (r : Role) → IsOutermost r → (v : Json) (broken : BodyCode) → BreaksBody broken r v → code_number broken ≤ 3
outermost_low (twin_body l cs) h v broken b = here_low (twin_body l cs) v (λ x. x) (λ x. x) broken b
outermost_low (link_body l from ps) h v broken b = here_low (link_body l from ps) v (λ x. x) (λ x. x) broken b
outermost_low (part_body l cs) h v broken b = absurd h
outermost_low (value ns o) h v broken b = absurd h
outermost_low anything h v broken b = absurd h
outermost_low undeclared h v broken b = absurd h
outermost_low any_text h v broken b = absurd h
outermost_low any_object h v broken b = absurd h
outermost_low model_id h v broken b = absurd h
outermost_low target_id h v broken b = absurd h
outermost_low link_name h v broken b = absurd h
outermost_low twin_metadata h v broken b = absurd h

pub members_mild : (r : Role) → IsOutermost r → (key : List ℕ) → IsMild (body_member_role r key)
members_mild (twin_body l cs) h key = h key
members_mild (link_body l from ps) h key = h key
members_mild (part_body l cs) h key = absurd h
members_mild (value ns o) h key = absurd h
members_mild anything h key = absurd h
members_mild undeclared h key = absurd h
members_mild any_text h key = absurd h
members_mild any_object h key = absurd h
members_mild model_id h key = absurd h
members_mild target_id h key = absurd h
members_mild link_name h key = absurd h
members_mild twin_metadata h key = absurd h

outermost_kind : (r : Role) → IsOutermost r → (v : Json) → is_object v ≡ false → BreaksBody code.WrongKind r v
outermost_kind (twin_body l cs) h v e = e
outermost_kind (link_body l from ps) h v e = e
outermost_kind (part_body l cs) h v e = absurd h
outermost_kind (value ns o) h v e = absurd h
outermost_kind anything h v e = absurd h
outermost_kind undeclared h v e = absurd h
outermost_kind any_text h v e = absurd h
outermost_kind any_object h v e = absurd h
outermost_kind model_id h v e = absurd h
outermost_kind target_id h v e = absurd h
outermost_kind link_name h v e = absurd h
outermost_kind twin_metadata h v e = absurd h

pub object_is : (v : Json) → (is_object v ≡ false → ⊥) → v ≡ object (members_in v)
object_is null h = absurd (h refl)
object_is (truth b) h = absurd (h refl)
object_is (number n) h = absurd (h refl)
object_is (text bytes) h = absurd (h refl)
object_is (array vs) h = absurd (h refl)
object_is (object ms) h = refl

-- a code that the body itself breaks
pub outer_here : (r : Role) (v : Json) (up : List ℕ) (broken : BodyCode) (o : Option BodyCode) → IsOutermost r → JudgesBody r v o → o ≡ Some broken → up ≡ [] → IsFirstBodyBreach (IsOuterBodyBreach r v) (reverse up) broken
outer_here r v up broken o outermost j some empty =
    let judged : JudgesBody r v (Some broken) = subst (λ (p : Option BodyCode). JudgesBody r v p) some j in
    subst (λ (l : List ℕ). IsFirstBodyBreach (IsOuterBodyBreach r v) (reverse l) broken) (sym empty)
    (outer_first r v [] broken (outermost_low r outermost v broken judged.0) (first_here r v broken judged))

pub outer_parts : {E : Type 0} (r : Role) (v : Json) (ms : List Member) (o : Option BodyCode) (res : Result (Option Found) E) → IsOutermost r → JudgesBody r v o → o ≡ None → members_view ms ≡ members_in v
    → IfOk res (FindsOuterBelow r (object (members_view ms))) → IfOk res (FindsFirstBodyBreach (IsOuterBodyBreach r v))
outer_parts r v ms o (Err x) outermost j none is h = tt
outer_parts r v ms o (Ok found) outermost j none is h =
    let clean : Clean r v = subst (λ (p : Option BodyCode). JudgesBody r v p) none j in
    let same : v ≡ object (members_view ms) = object_is v (λ e. clean code.WrongKind (outermost_kind r outermost v e)) ∙ ap object (sym is) in
    subst (λ (x : Json). FindsFirstBodyBreach (IsOuterBodyBreach r x) found) (sym same) (h (subst (λ (x : Json). Clean r x) same clean))

-- ---- where nothing is declared
twin_member_mild : (a b c : Bool) → IsMild (if a then twin_metadata else (if b then any_text else (if c then anything else undeclared)))
twin_member_mild true b c = tt
twin_member_mild false true c = tt
twin_member_mild false false true = tt
twin_member_mild false false false = tt

pub twin_outermost : IsOutermost (twin_body no_library [])
twin_outermost key = twin_member_mild (bytes_eq key (codes "$metadata")) (bytes_eq key (codes "$dtId")) (bytes_eq key (codes "$etag"))

link_member_mild : (a b c d e f : Bool) → IsMild (if a then target_id else (if b then link_name else (if c then any_text else (if d then any_text else (if e then anything else (if f then anything else undeclared))))))
link_member_mild true b c d e f = tt
link_member_mild false true c d e f = tt
link_member_mild false false true d e f = tt
link_member_mild false false false true e f = tt
link_member_mild false false false false true f = tt
link_member_mild false false false false false true = tt
link_member_mild false false false false false false = tt

pub link_outermost : IsOutermost (link_body no_library None no_contents)
link_outermost key =
    link_member_mild (bytes_eq key (codes "$targetId")) (bytes_eq key (codes "$relationshipName")) (bytes_eq key (codes "$relationshipId")) (bytes_eq key (codes "$sourceId")) (bytes_eq key (codes "$etag")) (bytes_eq key (codes "$metadata"))
