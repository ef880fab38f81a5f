-- The breach that is found is the first, and where none is found there is none.
use Rattle.std.proofs.Common.{◌≡◌, ℕ, zero, suc, ◌<◌, inl, inr, List, [], ◌∷◌, Bool, true, false, codes, bytes_eq, Option, Some, None, refl, sym, ap, subst, ◌∙◌, arith}
use Rattle.std.specs.Prelude.{is_some, is_none, if◌then◌else◌}
use Rattle.std.specs.Option.{option_map, option_or, option_and_then}
use Rattle.std.proofs.lemmas.Slice.Eq.{bytes_eq-Decides}
use Rattle.json_decimal.specs.Number.{Number}
use Rattle.json_tree.specs.Values.{Json, null, truth, number, text, array, object, Members, no_members, member}
use Rattle.json_tree.specs.Places.{member_at}
use Rattle.json_tree.specs.Pointers.{pointer_text}
use Rattle.json_tree.specs.Members.{text_in, value_at}
use Rattle.json_tree.proofs.Keyed.{position_of_key}
use Rattle.twin_value.specs.Breaches.{BodyBreachComesBefore, HasNoBreach, IsFirstBodyBreach, text_under}
use Rattle.twin_value.specs.Codes.{code_name, code_number}
use Rattle.twin_value.specs.declared.code.BodyCode.{BodyCode}
use Rattle.twin_value.specs.declared.code.BodyCode.TheVariants as code
use Rattle.graph_asks.specs.declared.refusal.At.TheVariants as places
use Rattle.graph_asks.specs.declared.refusal.Refusal.{Refusal}
use Rattle.graph_asks.specs.declared.refusal.Refusal.TheVariants as refusals
use Rattle.graph_steps.specs.TwinAsks.{BodyFault}
use Rattle.query_bodies.specs.Breaches.{IsQueryBreach, IsWrong, is_text_or_null}
use Rattle.query_bodies.specs.Machinery.Firsts.{first_breach, first_wrong, wrong_pointer}

-- ---- one member
abbrev query_pointer : Option (List ℕ) → Option (List ℕ)
query_pointer o = if is_some o then None else Some (codes "/query")

abbrev token_pointer : Bool → Option (List ℕ)
token_pointer b = if b then None else Some (codes "/continuationToken")

one_text : (x y : List ℕ) → Some x ≡ Some y → x ≡ y
one_text x y e = cc

query_wrong : (o : Option (List ℕ)) (p : List ℕ) → query_pointer o ≡ Some p → (o ≡ None) × (codes "/query" ≡ p)
query_wrong (Some t) p e = absurd cc
query_wrong None p e = (refl, one_text (codes "/query") p e)

token_wrong : (b : Bool) (p : List ℕ) → token_pointer b ≡ Some p → (b ≡ false) × (codes "/continuationToken" ≡ p)
token_wrong true p e = absurd cc
token_wrong false p e = (refl, one_text (codes "/continuationToken") p e)

abbrev points : List ℕ → List ℕ
points key = pointer_text (key ∷ [])

wrong_by : (a b : Bool) (key : List ℕ) (v : Json) (p : List ℕ) → bytes_eq key (codes "query") ≡ a → bytes_eq key (codes "continuationToken") ≡ b
    → (if a then query_pointer (text_in v) else (if b then token_pointer (is_text_or_null v) else None)) ≡ Some p → IsWrong key v × (p ≡ points key)
wrong_by true b key v p is other e =
    let same : key ≡ codes "query" = (bytes_eq-Decides key (codes "query")).0 is in
    let h = query_wrong (text_in v) p e in
    (inl (same, h.0), sym h.1 ∙ ap points (sym same))
wrong_by false true key v p is other e =
    let same : key ≡ codes "continuationToken" = (bytes_eq-Decides key (codes "continuationToken")).0 other in
    let h = token_wrong (is_text_or_null v) p e in
    (inr (same, h.0), sym h.1 ∙ ap points (sym same))
wrong_by false false key v p is other e = absurd cc

wrong_found : (key : List ℕ) (v : Json) (p : List ℕ) → wrong_pointer key v ≡ Some p → IsWrong key v × (p ≡ points key)
wrong_found key v p e = wrong_by (bytes_eq key (codes "query")) (bytes_eq key (codes "continuationToken")) key v p refl refl e

not_wrong : (key : List ℕ) (v : Json) → wrong_pointer key v ≡ None → IsWrong key v → ⊥
not_wrong key v e (inl (same, none)) =
    let here : query_pointer (text_in v) ≡ None = subst (λ (k : List ℕ). wrong_pointer k v ≡ None) same e in
    let there : query_pointer None ≡ None = subst (λ (o : Option (List ℕ)). query_pointer o ≡ None) none here in
    absurd cc
not_wrong key v e (inr (same, neither)) =
    let here : token_pointer (is_text_or_null v) ≡ None = subst (λ (k : List ℕ). wrong_pointer k v ≡ None) same e in
    let there : token_pointer false ≡ None = subst (λ (b : Bool). token_pointer b ≡ None) neither here in
    absurd cc

-- ---- members
-- The member at a position is of its kind, if there is one.
abbrev IsRightAt : Members Number → ℕ → Type 0
IsRightAt ms j = (key : List ℕ) (v : Json) → member_at ms j ≡ Some (key, v) → IsWrong key v → ⊥

-- The first member that is of another kind than its key asks for, and the pointer to it.
record IsFirstWrong (ms : Members Number) (p : List ℕ) : Type 0 where
  at : ℕ
  key : List ℕ
  part : Json
  there : member_at ms at ≡ Some (key, part)
  wrong : IsWrong key part
  pointer : p ≡ points key
  least : (j : ℕ) → j < at → IsRightAt ms j

right_here : (key : List ℕ) (v : Json) (ms : Members Number) → wrong_pointer key v ≡ None → IsRightAt (member key v ms) 0
right_here key v ms is k w there wrong =
    let both : (key, v) ≡ (k, w) = cc in
    not_wrong key v is (subst (λ (m : List ℕ × Json). IsWrong m.0 m.1) (sym both) wrong)

right_before : (key : List ℕ) (v : Json) (ms : Members Number) (i : ℕ) → wrong_pointer key v ≡ None → ((j : ℕ) → j < i → IsRightAt ms j) → (j : ℕ) → j < suc i → IsRightAt (member key v ms) j
right_before key v ms i is rest zero less = right_here key v ms is
right_before key v ms i is rest (suc j) less = λ k w there wrong. rest j (omega (arith, less)) k w there wrong

found_or : (o : Option (List ℕ)) (key : List ℕ) (v : Json) (ms : Members Number) (p : List ℕ) → wrong_pointer key v ≡ o → option_or o (first_wrong ms) ≡ Some p
    → (first_wrong ms ≡ Some p → IsFirstWrong ms p) → IsFirstWrong (member key v ms) p
found_or (Some q) key v ms p is e later =
    let h = wrong_found key v p (is ∙ e) in
    record { at = 0; key = key; part = v; there = refl; wrong = h.0; pointer = h.1; least = λ j less. absurd (omega (arith, less)) }
found_or None key v ms p is e later =
    let h = later e in
    record { at = suc h.at; key = h.key; part = h.part; there = h.there; wrong = h.wrong; pointer = h.pointer; least = right_before key v ms h.at is h.least }

first_found : (ms : Members Number) (p : List ℕ) → first_wrong ms ≡ Some p → IsFirstWrong ms p
first_found no_members p e = absurd cc
first_found (member key v ms) p e = found_or (wrong_pointer key v) key v ms p refl e (first_found ms p)

none_or : (o : Option (List ℕ)) (key : List ℕ) (v : Json) (ms : Members Number) → wrong_pointer key v ≡ o → option_or o (first_wrong ms) ≡ None
    → (first_wrong ms ≡ None → (j : ℕ) → IsRightAt ms j) → (j : ℕ) → IsRightAt (member key v ms) j
none_or (Some q) key v ms is e later j = absurd cc
none_or None key v ms is e later zero = right_here key v ms is
none_or None key v ms is e later (suc j) = λ k w there wrong. later e j k w there wrong

none_found : (ms : Members Number) → first_wrong ms ≡ None → (j : ℕ) → IsRightAt ms j
none_found no_members e j = λ k w there wrong. absurd cc
none_found (member key v ms) e j = none_or (wrong_pointer key v) key v ms refl e (none_found ms) j

-- ---- bodies
lowest : (c : BodyCode) → code_number c < 1 → ⊥
lowest code.WrongKind h = omega (arith, h)
lowest code.MissingKey h = omega (arith, h)
lowest code.BadId h = omega (arith, h)
lowest code.UnknownMember h = omega (arith, h)
lowest code.BadValue h = omega (arith, h)
lowest code.UnknownRelationship h = omega (arith, h)

-- A breach at the value itself is first where it is no object.
first_kind : (v : Json) → IsQueryBreach v [] code.WrongKind → IsFirstBodyBreach (IsQueryBreach v) [] code.WrongKind
first_kind v is = record { breach = is; least = least }
  where
    least : (other : List ℕ) (another : BodyCode) → BodyBreachComesBefore other another [] code.WrongKind → IsQueryBreach v other another → ⊥
    least other another (inl before) b = absurd before
    least other another (inr (same, less)) b = lowest another less

no_object : (v : Json) (r : Refusal) → IsQueryBreach v [] code.WrongKind → r ≡ refusals.BodyFault (places.Pointer []) (codes "WrongKind") → BodyFault (IsQueryBreach v) v r
no_object v r is e = ([], [], code.WrongKind, first_kind v is, ([], refl, refl), e)

-- What is found of an object without `query`, and of a value that is no object.
abbrev key_found : List ℕ × BodyCode
key_found = ([], code.MissingKey)

abbrev kind_found : List ℕ × BodyCode
kind_found = ([], code.WrongKind)

-- What is found among members, as it is told.
abbrev told : Option (List ℕ) → Option (List ℕ × BodyCode)
told o = option_map (λ pointer. (pointer, code.WrongKind)) o

module _ (ms : Members Number) where
  is_an_object : IsQueryBreach (object ms) [] code.WrongKind → ⊥
  is_an_object b = absurd cc

  missing_first : value_at (codes "query") ms ≡ None → IsFirstBodyBreach (IsQueryBreach (object ms)) [] code.MissingKey
  missing_first none = record { breach = (refl, none); least = least }
    where
      least : (other : List ℕ) (another : BodyCode) → BodyBreachComesBefore other another [] code.MissingKey → IsQueryBreach (object ms) other another → ⊥
      least other another (inl before) b = absurd before
      least other code.WrongKind (inr (same, less)) b = is_an_object (subst (λ (p : List ℕ). IsQueryBreach (object ms) p code.WrongKind) same b)
      least other code.MissingKey (inr (same, less)) b = omega (arith, less)
      least other code.BadId (inr (same, less)) b = omega (arith, less)
      least other code.UnknownMember (inr (same, less)) b = omega (arith, less)
      least other code.BadValue (inr (same, less)) b = omega (arith, less)
      least other code.UnknownRelationship (inr (same, less)) b = omega (arith, less)

  -- An object with `query` breaks nothing itself, and nothing deeper than its members.
  clear_here : (value_at (codes "query") ms ≡ None → ⊥) → (c : BodyCode) → IsQueryBreach (object ms) [] c → ⊥
  clear_here has code.WrongKind b = is_an_object b
  clear_here has code.MissingKey b = has b.1
  clear_here has code.BadId b = b
  clear_here has code.UnknownMember b = b
  clear_here has code.BadValue b = b
  clear_here has code.UnknownRelationship b = b

  clear_at : (j : ℕ) → IsRightAt ms j → (c : BodyCode) → IsQueryBreach (object ms) (j ∷ []) c → ⊥
  clear_at j right code.WrongKind (key, part, there, wrong) = right key part there wrong
  clear_at j right code.MissingKey b = b
  clear_at j right code.BadId b = b
  clear_at j right code.UnknownMember b = b
  clear_at j right code.BadValue b = b
  clear_at j right code.UnknownRelationship b = b

  clear_below : (j k : ℕ) (place : List ℕ) (c : BodyCode) → IsQueryBreach (object ms) (j ∷ k ∷ place) c → ⊥
  clear_below j k place code.WrongKind b = b
  clear_below j k place code.MissingKey b = b
  clear_below j k place code.BadId b = b
  clear_below j k place code.UnknownMember b = b
  clear_below j k place code.BadValue b = b
  clear_below j k place code.UnknownRelationship b = b

  wrong_first : (p : List ℕ) → (value_at (codes "query") ms ≡ None → ⊥) → (h : IsFirstWrong ms p) → IsFirstBodyBreach (IsQueryBreach (object ms)) (h.at ∷ []) code.WrongKind
  wrong_first p has h = record { breach = (h.key, h.part, h.there, h.wrong); least = least }
    where
      least : (other : List ℕ) (another : BodyCode) → BodyBreachComesBefore other another (h.at ∷ []) code.WrongKind → IsQueryBreach (object ms) other another → ⊥
      least [] another before b = clear_here has another b
      least (j ∷ []) another (inl (inl less)) b = clear_at j (h.least j less) another b
      least (j ∷ []) another (inl (inr (same, before))) b = absurd before
      least (j ∷ []) another (inr (same, less)) b = lowest another less
      least (j ∷ k ∷ place) another before b = clear_below j k place another b

  clear : (value_at (codes "query") ms ≡ None → ⊥) → ((j : ℕ) → IsRightAt ms j) → HasNoBreach (IsQueryBreach (object ms))
  clear has right [] c b = clear_here has c b
  clear has right (j ∷ []) c b = clear_at j (right j) c b
  clear has right (j ∷ k ∷ place) c b = clear_below j k place c b

  not_missing : (o : Option Json) → is_none o ≡ false → o ≡ None → ⊥
  not_missing (Some v) is e = absurd cc
  not_missing None is e = absurd cc

  missing : (o : Option Json) → is_none o ≡ true → o ≡ None
  missing (Some v) is = absurd cc
  missing None is = refl

  members_told : (o : Option (List ℕ)) (p : List ℕ) (c : BodyCode) (r : Refusal) → (value_at (codes "query") ms ≡ None → ⊥) → first_wrong ms ≡ o → told o ≡ Some (p, c)
      → r ≡ refusals.BodyFault (places.Pointer p) (code_name c) → BodyFault (IsQueryBreach (object ms)) (object ms) r
  members_told None p c r has is e told_by = absurd cc
  members_told (Some q) p c r has is e told_by =
      let found : List ℕ × BodyCode = (q, code.WrongKind) in
      let both : found ≡ (p, c) = cc in
      let h = first_found ms q is in
      let pointed : r ≡ refusals.BodyFault (places.Pointer q) (codes "WrongKind") = subst (λ (b : List ℕ × BodyCode). r ≡ refusals.BodyFault (places.Pointer b.0) (code_name b.1)) (sym both) told_by in
      (h.at ∷ [], q, code.WrongKind, wrong_first q has h, (h.key ∷ [], (h.key, h.part, [], h.there, refl, refl), h.pointer), pointed)

  object_told : (b : Bool) (p : List ℕ) (c : BodyCode) (r : Refusal) → is_none (value_at (codes "query") ms) ≡ b → (if b then Some key_found else told (first_wrong ms)) ≡ Some (p, c)
      → r ≡ refusals.BodyFault (places.Pointer p) (code_name c) → BodyFault (IsQueryBreach (object ms)) (object ms) r
  object_told true p c r is e told_by =
      let both : key_found ≡ (p, c) = cc in
      let pointed : r ≡ refusals.BodyFault (places.Pointer []) (codes "MissingKey") = subst (λ (b : List ℕ × BodyCode). r ≡ refusals.BodyFault (places.Pointer b.0) (code_name b.1)) (sym both) told_by in
      ([], [], code.MissingKey, missing_first (missing (value_at (codes "query") ms) is), ([], refl, refl), pointed)
  object_told false p c r is e told_by = members_told (first_wrong ms) p c r (not_missing (value_at (codes "query") ms) is) refl e told_by

  unmapped : (o : Option (List ℕ)) → told o ≡ None → o ≡ None
  unmapped None e = refl
  unmapped (Some p) e = absurd cc

  object_clear : (b : Bool) → is_none (value_at (codes "query") ms) ≡ b → (if b then Some key_found else told (first_wrong ms)) ≡ None → HasNoBreach (IsQueryBreach (object ms))
  object_clear true is e = absurd cc
  object_clear false is e = clear (not_missing (value_at (codes "query") ms) is) (none_found ms (unmapped (first_wrong ms) e))

  query_known : (o : Option Json) → value_at (codes "query") ms ≡ o → HasNoBreach (IsQueryBreach (object ms)) → option_and_then text_in o ≡ None → ⊥
  query_known None is h e = h [] code.MissingKey (refl, is)
  query_known (Some w) is h e =
      let f = position_of_key (codes "query") ms w is in
      h (f.0 ∷ []) code.WrongKind (codes "query", w, f.1, inl (refl, e))

kind_told : (v : Json) (p : List ℕ) (c : BodyCode) (r : Refusal) → IsQueryBreach v [] code.WrongKind → Some kind_found ≡ Some (p, c)
    → r ≡ refusals.BodyFault (places.Pointer p) (code_name c) → BodyFault (IsQueryBreach v) v r
kind_told v p c r is e told_by =
    let both : kind_found ≡ (p, c) = cc in
    no_object v r is (subst (λ (b : List ℕ × BodyCode). r ≡ refusals.BodyFault (places.Pointer b.0) (code_name b.1)) (sym both) told_by)

-- The refusal of what is found names the first breach.
pub breach_told : (v : Json) (p : List ℕ) (c : BodyCode) (r : Refusal) → first_breach v ≡ Some (p, c) → r ≡ refusals.BodyFault (places.Pointer p) (code_name c)
    → BodyFault (IsQueryBreach v) v r
breach_told null p c r e told_by = kind_told null p c r refl e told_by
breach_told (truth b) p c r e told_by = kind_told (truth b) p c r refl e told_by
breach_told (number n) p c r e told_by = kind_told (number n) p c r refl e told_by
breach_told (text bytes) p c r e told_by = kind_told (text bytes) p c r refl e told_by
breach_told (array vs) p c r e told_by = kind_told (array vs) p c r refl e told_by
breach_told (object ms) p c r e told_by = object_told ms (is_none (value_at (codes "query") ms)) p c r refl e told_by

-- Where nothing is found there is no breach.
pub no_breach : (v : Json) → first_breach v ≡ None → HasNoBreach (IsQueryBreach v)
no_breach null e = absurd cc
no_breach (truth b) e = absurd cc
no_breach (number n) e = absurd cc
no_breach (text bytes) e = absurd cc
no_breach (array vs) e = absurd cc
no_breach (object ms) e = object_clear ms (is_none (value_at (codes "query") ms)) refl e

-- A value without breach has the text of a query.
pub has_text : (v : Json) → HasNoBreach (IsQueryBreach v) → text_under (codes "query") v ≡ None → ⊥
has_text null h e = h [] code.WrongKind refl
has_text (truth b) h e = h [] code.WrongKind refl
has_text (number n) h e = h [] code.WrongKind refl
has_text (text bytes) h e = h [] code.WrongKind refl
has_text (array vs) h e = h [] code.WrongKind refl
has_text (object ms) h e = query_known ms (value_at (codes "query") ms) refl h e
