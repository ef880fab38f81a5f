-- The first byte of a value, and the states in which only structure is read.
use Rattle.std.proofs.Common.{◌≡◌, ◌≤◌, ℕ, zero, suc, List, [], ◌∷◌, ◌++◌, Option, Some, None, true, false, ◌&&◌, ◌==◌, if◌then◌else◌, nat_eq, nat_le, inl, inr, refl, ap, sym, subst, arith}
use Rattle.json_tree.specs.Values.{Raw, null, truth, number, text, array, object, Elements, no_elements, element, Members, no_members, member}
use Rattle.json_tree.specs.Grammar.{IsSpace, IsValue, IsElements, IsMembers, IsString, IsCharacters, IsNumber}
use Rattle.json_read.specs.Machinery.Automaton.{Pairs, as_value, as_key, Frame, in_array, in_object, Part, behind_minus, behind_zero, in_integer, State, value, first_element, first_key, next_key, colon, after, in_word, in_number, in_text, open_array, open_object, value_start}
use Rattle.json_read.specs.Machinery.Remains.{Remains, Follows, After, IsNumberRest}
use Rattle.json_read.specs.Machinery.Steps.{Forward, Backward}
use Rattle.json_tree.proofs.Choices.{choose, chosen, is_byte, no_byte-in, is_within, is_within-in}
use Rattle.json_read.proofs.Numbers.{number_some, number_first, number_minus, number_zero, number_digit}
use Rattle.json_read.proofs.Spaces.{first_space, more_spaces, no_spaces, up_to_space, up_to_mark, at_front, fwd-spaced, back-spaced, bracket_no_space, brace_no_space, colon_no_space, quote_no_space}

pub value_some : (v : Raw) (d : ℕ) (to : List ℕ) → IsValue v d [] to → ⊥
value_some null d to h = absurd cc
value_some (truth true) d to h = absurd cc
value_some (truth false) d to h = absurd cc
value_some (number []) d to h = number_some h.0
value_some (number (b ∷ bytes)) d to h = let e = h.1 in absurd cc
value_some (text content) d to h = let e = h.2 in absurd cc
value_some (array vs) d to h = let e = h.3 in absurd cc
value_some (object ms) d to h = let e = h.3 in absurd cc

-- ---- a value's first byte
digit_start : (d : ℕ) (k : List Frame) (b : ℕ) → 49 ≤ b → b ≤ 57 → value_start d k b ≡ Some (in_number (in_integer 37) (b ∷ []) d k)
digit_start d k b p q =
    rw (
      no_byte-in b 34 (λ e. omega arith),
      no_byte-in b 91 (λ e. omega arith),
      no_byte-in b 123 (λ e. omega arith),
      no_byte-in b 110 (λ e. omega arith),
      no_byte-in b 116 (λ e. omega arith),
      no_byte-in b 102 (λ e. omega arith),
      no_byte-in b 45 (λ e. omega arith),
      no_byte-in b 48 (λ e. omega arith),
      is_within-in b 49 57 p q,
    ) refl

fwd-number_start : (d : ℕ) (k : List Frame) (b : ℕ) (bytes rest to : List ℕ) (whole : Raw)
    → IsNumber (b ∷ bytes) → rest ≡ bytes ++ to → After k d (number (b ∷ bytes)) to whole → Follows (value_start d k b) rest whole
fwd-number_start d k b bytes rest to whole h e a =
    elim (number_first b bytes h) [
      | inl p ↦
          let goal : Follows (value_start d k 45) rest whole =
          (bytes, to, p.1, e, subst (λ (x : ℕ). After k d (number (x ∷ bytes)) to whole) p.0 a) in
          subst (λ (x : ℕ). Follows (value_start d k x) rest whole) (sym p.0) goal
      | inr (inl p) ↦
          let goal : Follows (value_start d k 48) rest whole =
          (bytes, to, p.1, e, subst (λ (x : ℕ). After k d (number (x ∷ bytes)) to whole) p.0 a) in
          subst (λ (x : ℕ). Follows (value_start d k x) rest whole) (sym p.0) goal
      | inr (inr p) ↦
          let goal : Follows (Some (in_number (in_integer 37) (b ∷ []) d k)) rest whole = (bytes, to, p.2, e, a) in
          subst (λ (o : Option State). Follows o rest whole) (sym (digit_start d k b p.0 p.1)) goal
    ]

-- at a byte that is known
starts : (d : ℕ) (k : List Frame) (b c : ℕ) (rest : List ℕ) (whole : Raw) → b ≡ c → Follows (value_start d k c) rest whole → Follows (value_start d k b) rest whole
starts d k b c rest whole e h = subst (λ (x : ℕ). Follows (value_start d k x) rest whole) (sym e) h

opens_array : (d inner : ℕ) (k : List Frame) (vs : Elements (List ℕ)) (rest to : List ℕ) (whole : Raw)
    → d ≡ suc inner → IsElements vs inner rest to → After k d (array vs) to whole → Follows (open_array d k) rest whole
opens_array d inner k vs rest to whole e h a =
    let goal : Follows (open_array (suc inner) k) rest whole =
    (vs, to, h, subst (λ (n : ℕ). After k n (array vs) to whole) e a) in
    subst (λ (n : ℕ). Follows (open_array n k) rest whole) (sym e) goal

opens_object : (d inner : ℕ) (k : List Frame) (ms : Members (List ℕ)) (rest to : List ℕ) (whole : Raw)
    → d ≡ suc inner → IsMembers ms inner rest to → After k d (object ms) to whole → Follows (open_object d k) rest whole
opens_object d inner k ms rest to whole e h a =
    let goal : Follows (open_object (suc inner) k) rest whole =
    (ms, to, h, subst (λ (n : ℕ). After k n (object ms) to whole) e a) in
    subst (λ (n : ℕ). Follows (open_object n k) rest whole) (sym e) goal

pub fwd-value_start : (d : ℕ) (k : List Frame) (v : Raw) (b : ℕ) (rest to : List ℕ) (whole : Raw)
    → IsValue v d (b ∷ rest) to → After k d v to whole → Follows (value_start d k b) rest whole
fwd-value_start d k null b rest to whole h a =
    let same : b ≡ 110 = cc in
    let others : rest ≡ 117 ∷ 108 ∷ 108 ∷ to = cc in
    starts d k b 110 rest whole same (to, others, a)
fwd-value_start d k (truth true) b rest to whole h a =
    let same : b ≡ 116 = cc in
    let others : rest ≡ 114 ∷ 117 ∷ 101 ∷ to = cc in
    starts d k b 116 rest whole same (to, others, a)
fwd-value_start d k (truth false) b rest to whole h a =
    let same : b ≡ 102 = cc in
    let others : rest ≡ 97 ∷ 108 ∷ 115 ∷ 101 ∷ to = cc in
    starts d k b 102 rest whole same (to, others, a)
fwd-value_start d k (number []) b rest to whole h a = absurd (number_some h.0)
fwd-value_start d k (number (c ∷ bytes)) b rest to whole (n, e) a =
    let same : b ≡ c = cc in
    let others : rest ≡ bytes ++ to = cc in
    starts d k b c rest whole same (fwd-number_start d k c bytes rest to whole n others a)
fwd-value_start d k (text content) b rest to whole (n, mid, e, h) a =
    let same : b ≡ 34 = cc in
    let others : mid ≡ rest = cc in
    starts d k b 34 rest whole same (n, content, to, subst (λ (bs : List ℕ). IsCharacters n bs content to) others h, a)
fwd-value_start d k (array vs) b rest to whole (inner, mid, e, f, h) a =
    let same : b ≡ 91 = cc in
    let others : mid ≡ rest = cc in
    starts d k b 91 rest whole same (opens_array d inner k vs rest to whole e (subst (λ (bs : List ℕ). IsElements vs inner bs to) others h) a)
fwd-value_start d k (object ms) b rest to whole (inner, mid, e, f, h) a =
    let same : b ≡ 123 = cc in
    let others : mid ≡ rest = cc in
    starts d k b 123 rest whole same (opens_object d inner k ms rest to whole e (subst (λ (bs : List ℕ). IsMembers ms inner bs to) others h) a)

abbrev Starts : ℕ → List Frame → ℕ → List ℕ → Raw → Type 0
Starts d k b rest whole = (v : Raw) × (to : List ℕ) × IsValue v d (b ∷ rest) to × After k d v to whole

array_opened : (d : ℕ) (k : List Frame) (rest : List ℕ) (whole : Raw) → Follows (open_array d k) rest whole → Starts d k 91 rest whole
array_opened zero k rest whole h = absurd h
array_opened (suc d) k rest whole (vs, to, h, a) = (array vs, to, (d, rest, refl, refl, h), a)

object_opened : (d : ℕ) (k : List Frame) (rest : List ℕ) (whole : Raw) → Follows (open_object d k) rest whole → Starts d k 123 rest whole
object_opened zero k rest whole h = absurd h
object_opened (suc d) k rest whole (ms, to, h, a) = (object ms, to, (d, rest, refl, refl, h), a)

word_started : (v : Raw) (d : ℕ) (k : List Frame) (b next : ℕ) (left rest : List ℕ) (whole : Raw)
    → ((to : List ℕ) → IsValue v d (b ∷ (next ∷ (left ++ to))) to) → Remains (in_word next left v d k) rest whole → Starts d k b rest whole
word_started v d k b next left rest whole is (to, e, a) =
    (v, to, subst (λ (bs : List ℕ). IsValue v d (b ∷ bs) to) (sym e) (is to), a)

number_started : (part : Part) (d : ℕ) (k : List Frame) (b : ℕ) (rest : List ℕ) (whole : Raw)
    → ((bytes : List ℕ) → IsNumberRest part bytes → IsNumber (b ∷ bytes)) → Remains (in_number part (b ∷ []) d k) rest whole → Starts d k b rest whole
number_started part d k b rest whole is (bytes, to, h, e, a) =
    (number (b ∷ bytes), to, (is bytes h, ap (λ (bs : List ℕ). b ∷ bs) e), a)

text_started : (d : ℕ) (k : List Frame) (rest : List ℕ) (whole : Raw) → Remains (in_text as_value [] d k) rest whole → Starts d k 34 rest whole
text_started d k rest whole (n, content, to, h, a) = (text content, to, (n, rest, refl, h), a)

-- at a byte that was tested
started : (d : ℕ) (k : List Frame) (b c : ℕ) (rest : List ℕ) (whole : Raw) → nat_eq b c ≡ true → Starts d k c rest whole → Starts d k b rest whole
started d k b c rest whole e h = subst (λ (x : ℕ). Starts d k x rest whole) (sym (is_byte b c e)) h

at_minus : (d : ℕ) (k : List Frame) (b : ℕ) (rest : List ℕ) (whole : Raw) → nat_eq b 45 ≡ true
    → Remains (in_number behind_minus (b ∷ []) d k) rest whole → Remains (in_number behind_minus (45 ∷ []) d k) rest whole
at_minus d k b rest whole e h = subst (λ (x : ℕ). Remains (in_number behind_minus (x ∷ []) d k) rest whole) (is_byte b 45 e) h

at_zero : (d : ℕ) (k : List Frame) (b : ℕ) (rest : List ℕ) (whole : Raw) → nat_eq b 48 ≡ true
    → Remains (in_number behind_zero (b ∷ []) d k) rest whole → Remains (in_number behind_zero (48 ∷ []) d k) rest whole
at_zero d k b rest whole e h = subst (λ (x : ℕ). Remains (in_number behind_zero (x ∷ []) d k) rest whole) (is_byte b 48 e) h

pub back-value_start : (d : ℕ) (k : List Frame) (b : ℕ) (rest : List ℕ) (whole : Raw)
    → Follows (value_start d k b) rest whole → (v : Raw) × (to : List ℕ) × IsValue v d (b ∷ rest) to × After k d v to whole
back-value_start d k b rest whole h =
    elim (chosen (λ (o : Option State). Follows o rest whole) (nat_eq b 34) _ _ h) [
      | inl p ↦ started d k b 34 rest whole p.0 (text_started d k rest whole p.1)
      | inr p ↦ elim (chosen (λ (o : Option State). Follows o rest whole) (nat_eq b 91) _ _ p.1) [
        | inl q ↦ started d k b 91 rest whole q.0 (array_opened d k rest whole q.1)
        | inr q ↦ elim (chosen (λ (o : Option State). Follows o rest whole) (nat_eq b 123) _ _ q.1) [
          | inl r ↦ started d k b 123 rest whole r.0 (object_opened d k rest whole r.1)
          | inr r ↦ elim (chosen (λ (o : Option State). Follows o rest whole) (nat_eq b 110) _ _ r.1) [
            | inl s ↦ started d k b 110 rest whole s.0 (word_started null d k 110 117 (108 ∷ 108 ∷ []) rest whole (λ to. refl) s.1)
            | inr s ↦ elim (chosen (λ (o : Option State). Follows o rest whole) (nat_eq b 116) _ _ s.1) [
              | inl t ↦ started d k b 116 rest whole t.0 (word_started (truth true) d k 116 114 (117 ∷ 101 ∷ []) rest whole (λ to. refl) t.1)
              | inr t ↦ elim (chosen (λ (o : Option State). Follows o rest whole) (nat_eq b 102) _ _ t.1) [
                | inl u ↦ started d k b 102 rest whole u.0 (word_started (truth false) d k 102 97 (108 ∷ 115 ∷ 101 ∷ []) rest whole (λ to. refl) u.1)
                | inr u ↦ elim (chosen (λ (o : Option State). Follows o rest whole) (nat_eq b 45) _ _ u.1) [
                  | inl v ↦ started d k b 45 rest whole v.0 (number_started behind_minus d k 45 rest whole number_minus (at_minus d k b rest whole v.0 v.1))
                  | inr v ↦ elim (chosen (λ (o : Option State). Follows o rest whole) (nat_eq b 48) _ _ v.1) [
                    | inl w ↦ started d k b 48 rest whole w.0 (number_started behind_zero d k 48 rest whole number_zero (at_zero d k b rest whole w.0 w.1))
                    | inr w ↦ elim (chosen (λ (o : Option State). Follows o rest whole) (nat_le 49 b && nat_le b 57) _ _ w.1) [
                      | inl x ↦ number_started (in_integer 37) d k b rest whole (λ bytes. number_digit b bytes (is_within b 49 57 x.0).0 (is_within b 49 57 x.0).1) x.1
                      | inr x ↦ absurd x.1
                    ]
                  ]
                ]
              ]
            ]
          ]
        ]
      ]
    ]

-- ---- the states of structure
-- no value starts with white space, or with a bracket that closes
no_start_at : (d : ℕ) (k : List Frame) (b c : ℕ) (rest : List ℕ) (whole : Raw) → value_start d k c ≡ None → b ≡ c → Follows (value_start d k b) rest whole → ⊥
no_start_at d k b c rest whole none e h =
    let here : Follows (value_start d k c) rest whole = subst (λ (x : ℕ). Follows (value_start d k x) rest whole) e h in
    subst (λ (o : Option State). Follows o rest whole) none here

no_start : (d : ℕ) (k : List Frame) (b : ℕ) (rest : List ℕ) (whole : Raw) → IsSpace b → Follows (value_start d k b) rest whole → ⊥
no_start d k b rest whole (inl e) h = no_start_at d k b 32 rest whole refl e h
no_start d k b rest whole (inr (inl e)) h = no_start_at d k b 9 rest whole refl e h
no_start d k b rest whole (inr (inr (inl e))) h = no_start_at d k b 10 rest whole refl e h
no_start d k b rest whole (inr (inr (inr e))) h = no_start_at d k b 13 rest whole refl e h

pub fwd-value : (d : ℕ) (k : List Frame) → Forward (value d k)
fwd-value d k b rest whole (start, end, v, s, h, a) = elim (first_space b rest start s) [
  | inl g ↦ fwd-spaced (value d k) b (value_start d k b) rest whole (λ x. (start, end, v, g.1, h, a)) (λ x. absurd (x g.0))
  | inr e ↦
      let here : IsValue v d (b ∷ rest) end = subst (λ (bs : List ℕ). IsValue v d bs end) e h in
      let follows = fwd-value_start d k v b rest end whole here a in
      fwd-spaced (value d k) b (value_start d k b) rest whole (λ x. absurd (no_start d k b rest whole x follows)) (λ x. follows)
]

value-space : (d : ℕ) (k : List Frame) (b : ℕ) (rest : List ℕ) (whole : Raw) → IsSpace b → Remains (value d k) rest whole → Remains (value d k) (b ∷ rest) whole
value-space d k b rest whole x (start, end, v, s, h, a) = (start, end, v, more_spaces b rest start x s, h, a)

value_here : (d : ℕ) (k : List Frame) (from : List ℕ) (whole : Raw)
    → (v : Raw) × (to : List ℕ) × IsValue v d from to × After k d v to whole → Remains (value d k) from whole
value_here d k from whole (v, to, h, a) = (from, to, v, no_spaces from, h, a)

pub back-value : (d : ℕ) (k : List Frame) → Backward (value d k)
back-value d k b rest whole h = elim (back-spaced (value d k) b (value_start d k b) rest whole h) [
  | inl g ↦ value-space d k b rest whole g.0 g.1
  | inr g ↦ value_here d k (b ∷ rest) whole (back-value_start d k b rest whole g.1)
]

-- ---- before the first element
abbrev first_element_other : ℕ → List Frame → ℕ → Option State
first_element_other d k b = if b == 93 then Some (after (suc d) k (array no_elements)) else value_start d (in_array [] ∷ k) b

fwd-first_element_start : (d : ℕ) (k : List Frame) (b : ℕ) (rest : List ℕ) (whole : Raw)
    → Follows (value_start d (in_array [] ∷ k) b) rest whole → Follows (first_element_other d k b) rest whole
fwd-first_element_start d k b rest whole h =
    choose (λ (o : Option State). Follows o rest whole) (nat_eq b 93) _ _
    (λ e. absurd (no_start_at d (in_array [] ∷ k) b 93 rest whole refl (is_byte b 93 e) h)) (λ e. h)

pub fwd-first_element : (d : ℕ) (k : List Frame) → Forward (first_element d k)
fwd-first_element d k b rest whole (no_elements, to, s, a) =
    fwd-spaced (first_element d k) b (first_element_other d k b) rest whole (λ x. (no_elements, to, up_to_space b 93 rest to bracket_no_space x s, a)) (λ x.
    let at = up_to_mark b 93 rest to x s in rw (at.0, at.1) a)
fwd-first_element d k b rest whole (element v vs, to, (start, end, s, h, more), a) = elim (first_space b rest start s) [
  | inl g ↦ fwd-spaced (first_element d k) b (first_element_other d k b) rest whole (λ x. (element v vs, to, (start, end, g.1, h, more), a)) (λ x. absurd (x g.0))
  | inr e ↦
      let here : IsValue v d (b ∷ rest) end = subst (λ (bs : List ℕ). IsValue v d bs end) e h in
      let follows = fwd-value_start d (in_array [] ∷ k) v b rest end whole here (vs, to, more, a) in
      fwd-spaced (first_element d k) b (first_element_other d k b) rest whole
      (λ x. absurd (no_start d (in_array [] ∷ k) b rest whole x follows)) (λ x. fwd-first_element_start d k b rest whole follows)
]

first_element-space : (d : ℕ) (k : List Frame) (b : ℕ) (rest : List ℕ) (whole : Raw)
    → IsSpace b → Remains (first_element d k) rest whole → Remains (first_element d k) (b ∷ rest) whole
first_element-space d k b rest whole x (no_elements, to, s, a) = (no_elements, to, more_spaces b rest (93 ∷ to) x s, a)
first_element-space d k b rest whole x (element v vs, to, (start, end, s, h, more), a) =
    (element v vs, to, (start, end, more_spaces b rest start x s, h, more), a)

first_element_here : (d : ℕ) (k : List Frame) (from : List ℕ) (whole : Raw)
    → (v : Raw) × (to : List ℕ) × IsValue v d from to × After (in_array [] ∷ k) d v to whole → Remains (first_element d k) from whole
first_element_here d k from whole (v, end, h, (vs, to, more, a)) = (element v vs, to, (from, end, no_spaces from, h, more), a)

pub back-first_element : (d : ℕ) (k : List Frame) → Backward (first_element d k)
back-first_element d k b rest whole h = elim (back-spaced (first_element d k) b (first_element_other d k b) rest whole h) [
  | inl g ↦ first_element-space d k b rest whole g.0 g.1
  | inr g ↦ elim (chosen (λ (o : Option State). Follows o rest whole) (nat_eq b 93) _ _ g.1) [
    | inl p ↦ (no_elements, rest, at_front b 93 rest (is_byte b 93 p.0), p.1)
    | inr p ↦ first_element_here d k (b ∷ rest) whole (back-value_start d (in_array [] ∷ k) b rest whole p.1)
  ]
]

-- ---- round keys
quoted : (b : ℕ) (rest key to : List ℕ) → IsString (b ∷ rest) key to → (b ≡ 34) × ((n : ℕ) × IsCharacters n rest key to)
quoted b rest key to (n, mid, e, h) =
    let same : b ≡ 34 = cc in
    let others : mid ≡ rest = cc in
    (same, (n, subst (λ (bs : List ℕ). IsCharacters n bs key to) others h))

quote_no_space-in : (b : ℕ) → b ≡ 34 → IsSpace b → ⊥
quote_no_space-in b e s = quote_no_space (subst IsSpace e s)

unquoted : (b n : ℕ) (rest key to : List ℕ) → b ≡ 34 → IsCharacters n rest key to → IsString (b ∷ rest) key to
unquoted b n rest key to e h = (n, rest, ap (λ (x : ℕ). x ∷ rest) e, h)

abbrev next_key_other : ℕ → List Frame → Pairs → ℕ → Option State
next_key_other d k ms b = if b == 34 then Some (in_text (as_key ms) [] d k) else None

pub fwd-next_key : (d : ℕ) (k : List Frame) (ms : Pairs) → Forward (next_key d k ms)
fwd-next_key d k ms b rest whole (start, key, end, s, h, a) = elim (first_space b rest start s) [
  | inl g ↦ fwd-spaced (next_key d k ms) b (next_key_other d k ms b) rest whole (λ x. (start, key, end, g.1, h, a)) (λ x. absurd (x g.0))
  | inr e ↦
      let q = quoted b rest key end (subst (λ (bs : List ℕ). IsString bs key end) e h) in
      fwd-spaced (next_key d k ms) b (next_key_other d k ms b) rest whole
      (λ x. absurd (quote_no_space-in b q.0 x)) (λ x. rw q.0 (q.1.0, key, end, q.1.1, a))
]

next_key-space : (d : ℕ) (k : List Frame) (ms : Pairs) (b : ℕ) (rest : List ℕ) (whole : Raw)
    → IsSpace b → Remains (next_key d k ms) rest whole → Remains (next_key d k ms) (b ∷ rest) whole
next_key-space d k ms b rest whole x (start, key, end, s, h, a) = (start, key, end, more_spaces b rest start x s, h, a)

next_key_here : (d : ℕ) (k : List Frame) (ms : Pairs) (b : ℕ) (rest : List ℕ) (whole : Raw)
    → b ≡ 34 → Remains (in_text (as_key ms) [] d k) rest whole → Remains (next_key d k ms) (b ∷ rest) whole
next_key_here d k ms b rest whole e (n, key, end, h, a) = (b ∷ rest, key, end, no_spaces (b ∷ rest), unquoted b n rest key end e h, a)

pub back-next_key : (d : ℕ) (k : List Frame) (ms : Pairs) → Backward (next_key d k ms)
back-next_key d k ms b rest whole h = elim (back-spaced (next_key d k ms) b (next_key_other d k ms b) rest whole h) [
  | inl g ↦ next_key-space d k ms b rest whole g.0 g.1
  | inr g ↦ elim (chosen (λ (o : Option State). Follows o rest whole) (nat_eq b 34) _ _ g.1) [
    | inl p ↦ next_key_here d k ms b rest whole (is_byte b 34 p.0) p.1
    | inr p ↦ absurd p.1
  ]
]

abbrev first_key_other : ℕ → List Frame → ℕ → Option State
first_key_other d k b =
    if b == 34 then Some (in_text (as_key []) [] d k)
    else if b == 125 then Some (after (suc d) k (object no_members)) else None

pub fwd-first_key : (d : ℕ) (k : List Frame) → Forward (first_key d k)
fwd-first_key d k b rest whole (no_members, to, s, a) =
    fwd-spaced (first_key d k) b (first_key_other d k b) rest whole (λ x. (no_members, to, up_to_space b 125 rest to brace_no_space x s, a)) (λ x.
    let at = up_to_mark b 125 rest to x s in rw (at.0, at.1) a)
fwd-first_key d k b rest whole (member key v ms, to, (start, end, mid, first, last, s, h, c, f, i, more), a) = elim (first_space b rest start s) [
  | inl g ↦ fwd-spaced (first_key d k) b (first_key_other d k b) rest whole
      (λ x. (member key v ms, to, (start, end, mid, first, last, g.1, h, c, f, i, more), a)) (λ x. absurd (x g.0))
  | inr e ↦
      let q = quoted b rest key end (subst (λ (bs : List ℕ). IsString bs key end) e h) in
      fwd-spaced (first_key d k) b (first_key_other d k b) rest whole
      (λ x. absurd (quote_no_space-in b q.0 x)) (λ x. rw q.0 (q.1.0, key, end, q.1.1, (mid, first, last, v, c, f, i, (ms, to, more, a))))
]

first_key-space : (d : ℕ) (k : List Frame) (b : ℕ) (rest : List ℕ) (whole : Raw)
    → IsSpace b → Remains (first_key d k) rest whole → Remains (first_key d k) (b ∷ rest) whole
first_key-space d k b rest whole x (no_members, to, s, a) = (no_members, to, more_spaces b rest (125 ∷ to) x s, a)
first_key-space d k b rest whole x (member key v ms, to, (start, end, mid, first, last, s, h, c, f, i, more), a) =
    (member key v ms, to, (start, end, mid, first, last, more_spaces b rest start x s, h, c, f, i, more), a)

first_key_here : (d : ℕ) (k : List Frame) (b : ℕ) (rest : List ℕ) (whole : Raw)
    → b ≡ 34 → Remains (in_text (as_key []) [] d k) rest whole → Remains (first_key d k) (b ∷ rest) whole
first_key_here d k b rest whole e (n, key, end, h, (mid, first, last, v, c, f, i, (ms, to, more, a))) =
    (member key v ms, to, (b ∷ rest, end, mid, first, last, no_spaces (b ∷ rest), unquoted b n rest key end e h, c, f, i, more), a)

pub back-first_key : (d : ℕ) (k : List Frame) → Backward (first_key d k)
back-first_key d k b rest whole h = elim (back-spaced (first_key d k) b (first_key_other d k b) rest whole h) [
  | inl g ↦ first_key-space d k b rest whole g.0 g.1
  | inr g ↦ elim (chosen (λ (o : Option State). Follows o rest whole) (nat_eq b 34) _ _ g.1) [
    | inl p ↦ first_key_here d k b rest whole (is_byte b 34 p.0) p.1
    | inr p ↦ elim (chosen (λ (o : Option State). Follows o rest whole) (nat_eq b 125) _ _ p.1) [
      | inl q ↦ (no_members, rest, at_front b 125 rest (is_byte b 125 q.0), q.1)
      | inr q ↦ absurd q.1
    ]
  ]
]

abbrev colon_other : ℕ → List Frame → Pairs → List ℕ → ℕ → Option State
colon_other d k ms key b = if b == 58 then Some (value d (in_object ms key ∷ k)) else None

pub fwd-colon : (d : ℕ) (k : List Frame) (ms : Pairs) (key : List ℕ) → Forward (colon d k ms key)
fwd-colon d k ms key b rest whole (mid, first, last, v, c, s, h, a) =
    fwd-spaced (colon d k ms key) b (colon_other d k ms key b) rest whole (λ x. (mid, first, last, v, up_to_space b 58 rest mid colon_no_space x c, s, h, a)) (λ x.
    let at = up_to_mark b 58 rest mid x c in rw (at.0, at.1) (first, last, v, s, h, a))

colon-space : (d : ℕ) (k : List Frame) (ms : Pairs) (key : List ℕ) (b : ℕ) (rest : List ℕ) (whole : Raw)
    → IsSpace b → Remains (colon d k ms key) rest whole → Remains (colon d k ms key) (b ∷ rest) whole
colon-space d k ms key b rest whole x (mid, first, last, v, c, s, h, a) = (mid, first, last, v, more_spaces b rest (58 ∷ mid) x c, s, h, a)

colon_here : (d : ℕ) (k : List Frame) (ms : Pairs) (key : List ℕ) (b : ℕ) (rest : List ℕ) (whole : Raw)
    → b ≡ 58 → Remains (value d (in_object ms key ∷ k)) rest whole → Remains (colon d k ms key) (b ∷ rest) whole
colon_here d k ms key b rest whole e (start, end, v, s, h, a) = (rest, start, end, v, at_front b 58 rest e, s, h, a)

pub back-colon : (d : ℕ) (k : List Frame) (ms : Pairs) (key : List ℕ) → Backward (colon d k ms key)
back-colon d k ms key b rest whole h = elim (back-spaced (colon d k ms key) b (colon_other d k ms key b) rest whole h) [
  | inl g ↦ colon-space d k ms key b rest whole g.0 g.1
  | inr g ↦ elim (chosen (λ (o : Option State). Follows o rest whole) (nat_eq b 58) _ _ g.1) [
    | inl p ↦ colon_here d k ms key b rest whole (is_byte b 58 p.0) p.1
    | inr p ↦ absurd p.1
  ]
]
