-- The set of the `@id`s before a place.
use Rattle.std.proofs.Common.{◌≡◌, ℕ, ◌⊎◌, ◌↔◌, inl, inr, List, Bool, true, false, cond, not, nat_cmp, bytes_eq, Option, Some, None, Result, Ok, Err, refl, sym, ap, subst, ◌∙◌, true≢false, arith}
use Rattle.std.specs.Result.{IfOk}
use Rattle.std.specs.Borrow.{Bor}
use Rattle.std.specs.Ordering.{is_eq}
use Rattle.std.specs.Cmp.Lexicographic.{slice_cmp}
use Rattle.std.specs.BTreeSet.{BTreeSet, contains, Updates}
use Rattle.std.proofs.lemmas.Map.Text.{is_eq-slice_cmp}
use Rattle.std.proofs.lemmas.Slice.Eq.{bytes_eq-Decides}
use Rattle.json_decimal.specs.Number.{Number}
use Rattle.json_tree.specs.Values.{Json, null, truth, number, text, array, object, Members}
use Rattle.json_tree.specs.Members.{text_in}
use Rattle.local_rules.specs.Identifiers.{OfText}
use Rattle.local_rules.specs.Breaches.{IsFirstOf, BreaksAlone, BreaksBySchemas, BreaksById}
use Rattle.local_rules.specs.Machinery.Firsts.{earlier}
use Rattle.local_rules.specs.Machinery.Marks.{BreaksMark}
use Rattle.local_rules.specs.declared.marks.MarkedRole.{MarkedRole}
use Rattle.local_rules.proofs.Firsts.{first_either}
use Rattle.local_rules.specs.Codes.{rule_number}
use Rattle.local_rules.specs.declared.rule.LocalRule.{LocalRule}
use Rattle.local_rules.specs.declared.rule.LocalRule.TheVariants as rule
use Rattle.local_rules.specs.declared.role.Role.{Role}
use Rattle.local_rules.specs.declared.role.Role.TheVariants as role
use Rattle.local_faults.specs.Machinery.Walks.{IsNoted, IsId, JudgesMarked, JudgesId, NotesId, id_in_role}
use Rattle.local_faults.proofs.Rules.{none_of_two}

abbrev Ids : Type 0
Ids = BTreeSet (Bor (List ℕ))

pub if_ok : {T E : Type 0} (r : Result T E) (P Q : T → Type 0) → ((x : T) → P x → Q x) → IfOk r P → IfOk r Q
if_ok (Ok x) P Q f p = f x p
if_ok (Err e) P Q f p = tt

-- ---- the set
not_false : (b c : Bool) → b ≡ not c → b ≡ true → c ≡ true → ⊥
not_false b true e p q = true≢false (sym p ∙ e)
not_false b false e p q = true≢false (sym q)

not_true : (b c : Bool) → b ≡ not c → b ≡ false → c ≡ true
not_true b true e p = refl
not_true b false e p = absurd (true≢false (sym e ∙ p))

pub is_not_noted : (ids : Ids) (id : Bor (List ℕ)) (b : Bool) → b ≡ not (contains (λ x y. slice_cmp nat_cmp x.now y.now) ids id) → b ≡ true → IsNoted ids id.now → ⊥
is_not_noted ids id b e p h = not_false b (contains (λ x y. slice_cmp nat_cmp x.now y.now) ids id) e p h.among

pub is_noted : (ids : Ids) (id : Bor (List ℕ)) (b : Bool) → b ≡ not (contains (λ x y. slice_cmp nat_cmp x.now y.now) ids id) → b ≡ false → IsNoted ids id.now
is_noted ids id b e p = record { among = not_true b (contains (λ x y. slice_cmp nat_cmp x.now y.now) ids id) e p }

one_of : (same old : Bool) → cond same true old ≡ true → (same ≡ true) ⊎ (old ≡ true)
one_of true old e = inl refl
one_of false old e = inr e

of_same : (same old : Bool) → same ≡ true → cond same true old ≡ true
of_same same old e = subst (λ (b : Bool). cond b true old ≡ true) (sym e) refl

of_old : (same old : Bool) → old ≡ true → cond same true old ≡ true
of_old true old e = refl
of_old false old e = e

pub text_added : (before after : Ids) (id : Bor (List ℕ)) → Updates (λ x y. slice_cmp nat_cmp x.now y.now) before after id true
    → (bytes : List ℕ) → IsNoted after bytes ↔ (IsNoted before bytes ⊎ (id.now ≡ bytes))
text_added before after id u bytes =
    let q : Bor (List ℕ) = record { ref_ptr = (0, 0); now = bytes } in
    let e = u.0 q in
    let same : is_eq (slice_cmp nat_cmp id.now bytes) ≡ bytes_eq id.now bytes = is_eq-slice_cmp id.now bytes in (
      λ h. elim (one_of (is_eq (slice_cmp nat_cmp id.now bytes)) (contains (λ x y. slice_cmp nat_cmp x.now y.now) before q) (sym e ∙ h.among)) [
        | inl s ↦ inr ((bytes_eq-Decides id.now bytes).0 (sym same ∙ s))
        | inr o ↦ inl (record { among = o })
      ],
      λ o. record {
        among = e ∙ elim o [
          | inl h ↦ of_old (is_eq (slice_cmp nat_cmp id.now bytes)) (contains (λ x y. slice_cmp nat_cmp x.now y.now) before q) h.among
          | inr s ↦ of_same (is_eq (slice_cmp nat_cmp id.now bytes)) (contains (λ x y. slice_cmp nat_cmp x.now y.now) before q) (same ∙ (bytes_eq-Decides id.now bytes).1 s)
        ];
      },
    )

-- ---- an `@id`
text_is : (v : Json) (bytes : List ℕ) → text_in v ≡ Some bytes → v ≡ text bytes
text_is null bytes e = absurd cc
text_is (truth b) bytes e = absurd cc
text_is (number n) bytes e = absurd cc
text_is (text t) bytes e = let f : t ≡ bytes = cc in ap (λ (x : List ℕ). text x) f
text_is (array vs) bytes e = absurd cc
text_is (object ms) bytes e = absurd cc

is_text : (v : Json) (bytes : List ℕ) → v ≡ text bytes → text_in v ≡ Some bytes
is_text v bytes e = ap text_in e

id_is : (r : Role) (v : Json) (bytes : List ℕ) → id_in_role r v ≡ Some bytes → IsId r v bytes
id_is role.InterfaceId v bytes e = record { is_id = inl refl; is_text = text_is v bytes e }
id_is role.ElementId v bytes e = record { is_id = inr refl; is_text = text_is v bytes e }
id_is other v bytes e = absurd cc

is_id_in : (r : Role) (v : Json) (bytes : List ℕ) → IsId r v bytes → id_in_role r v ≡ Some bytes
is_id_in r v bytes i = elim i.is_id [
  | inl e ↦ subst (λ (q : Role). id_in_role q v ≡ Some bytes) (sym e) (is_text v bytes i.is_text)
  | inr e ↦ subst (λ (q : Role). id_in_role q v ≡ Some bytes) (sym e) (is_text v bytes i.is_text)
]

of_text_is : (P : List ℕ → Type 0) (v : Json) → OfText P v → (bytes : List ℕ) × (v ≡ text bytes) × P bytes
of_text_is P null o = absurd o
of_text_is P (truth b) o = absurd o
of_text_is P (number n) o = absurd o
of_text_is P (text bytes) o = (bytes, refl, o)
of_text_is P (array vs) o = absurd o
of_text_is P (object ms) o = absurd o

breaks_id : (P : List ℕ → Type 0) (r : Role) (v : Json) (broken : LocalRule) → BreaksById P broken r v → (bytes : List ℕ) × (id_in_role r v ≡ Some bytes) × P bytes
breaks_id P r v rule.RepeatedId b =
    let o = of_text_is P v b.1 in
    (o.0, is_id_in r v o.0 (record { is_id = b.0; is_text = o.1 }), o.2)
breaks_id P r v other b = absurd b

only_rule : (P : List ℕ → Type 0) (r : Role) (v : Json) (broken : LocalRule) → BreaksById P broken r v → broken ≡ rule.RepeatedId
only_rule P r v rule.RepeatedId b = refl
only_rule P r v other b = absurd b

-- what is no `@id` breaks nothing
pub no_id : (ids : Ids) (r : Role) (v : Json) → id_in_role r v ≡ None → JudgesId ids ids r v None
no_id ids r v none = record {
  first = λ broken b. (let h = breaks_id (IsNoted ids) r v broken b in let e : None ≡ Some h.0 = sym none ∙ h.1 in absurd cc);
  ids = λ e bytes. (λ h. inl h, λ o. elim o [ inl h ↦ h | inr i ↦ (let f : None ≡ Some bytes = sym none ∙ is_id_in r v bytes i in absurd cc) ]);
}

new_id : (before after : Ids) (r : Role) (v : Json) (id : List ℕ) → id_in_role r v ≡ Some id → NotesId before after id None → JudgesId before after r v None
new_id before after r v id some a = record {
  first = λ broken b. (let h = breaks_id (IsNoted before) r v broken b in
      let e : Some id ≡ Some h.0 = sym some ∙ h.1 in
      let f : h.0 ≡ id = cc in
      a.0 (subst (IsNoted before) f h.2));
  ids = λ e bytes. (
    λ h. elim ((a.1 bytes).0 h) [
      | inl o ↦ inl o
      | inr same ↦ inr (subst (λ (x : List ℕ). IsId r v x) same (id_is r v id some))
    ],
    λ o. (a.1 bytes).1 (elim o [
      | inl h ↦ inl h
      | inr i ↦ inr (let f : Some id ≡ Some bytes = sym some ∙ is_id_in r v bytes i in cc)
    ]),
  );
}

old_id : (before after : Ids) (r : Role) (v : Json) (id : List ℕ) (broken : LocalRule) → id_in_role r v ≡ Some id → IsNoted before id → JudgesId before after r v (Some rule.RepeatedId)
old_id before after r v id broken some h =
    let i = id_is r v id some in
    record {
      first = (
        (i.is_id, subst (λ (w : Json). OfText (IsNoted before) w) (sym i.is_text) h),
        λ other less b. (let e : rule_number other ≡ 32 = ap rule_number (only_rule (IsNoted before) r v other b) in omega (arith, e, less)),
      );
      ids = λ e. absurd cc;
    }

pub with_id : (before after : Ids) (r : Role) (v : Json) (id : List ℕ) (found : Option LocalRule) → id_in_role r v ≡ Some id → NotesId before after id found → JudgesId before after r v found
with_id before after r v id None some a = new_id before after r v id some a
with_id before after r v id (Some broken) some a = subst (λ (b : LocalRule). JudgesId before after r v (Some b)) (sym a.1) (old_id before after r v id broken some a.0)

-- ---- the first rule of a value
pub judged_by : (ms : Members Number) (before after : Ids) (r : MarkedRole) (v : Json) (itself schemas id : Option LocalRule)
    → IsFirstOf (λ b. BreaksAlone b r.role v ⊎ BreaksMark b r) itself → IsFirstOf (λ b. BreaksBySchemas ms b r.role v) schemas → JudgesId before after r.role v id
    → JudgesMarked ms before after r v (earlier itself (earlier schemas id))
judged_by ms before after r v itself schemas id own named j = record {
  first = first_either _ _ itself (earlier schemas id) own (first_either _ _ schemas id named j.first);
  ids = λ none. j.ids (none_of_two schemas id (none_of_two itself (earlier schemas id) none));
}
