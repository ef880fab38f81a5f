-- Behind values, and inside literal names.
use Rattle.std.proofs.Common.{◌≡◌, ℕ, suc, List, [], ◌∷◌, ◌++◌, Option, Some, nat_eq, ◌⊎◌, inl, inr, refl, ap, sym, ◌∙◌, subst}
use Rattle.json_tree.specs.Values.{Raw, array, object, Elements, no_elements, element, Members, no_members, member, elements_of, members_of}
use Rattle.json_tree.specs.Grammar.{IsSpace}
use Rattle.json_read.specs.Machinery.Automaton.{Pairs, Frame, in_array, in_object, State, value, next_key, after, in_word, word_next, closes, after_step, value_at_end}
use Rattle.json_read.specs.Machinery.Remains.{Remains, Follows, After, with_elements, with_members}
use Rattle.json_read.specs.Machinery.Steps.{Forward, Backward}
use Rattle.json_tree.proofs.Choices.{chosen, is_byte, is_byte-in}
use Rattle.json_read.proofs.Spaces.{first_space, spaces_at_end, more_spaces, no_spaces, up_to_space, up_to_mark, at_front, fwd-spaced, back-spaced, comma_no_space, bracket_no_space, brace_no_space}

-- one more behind the others, and none behind them
pub with_elements-snoc : (vs : List Raw) (v : Raw) (ws : Elements (List ℕ)) → with_elements (vs ++ v ∷ []) ws ≡ with_elements vs (element v ws)
with_elements-snoc [] v ws = refl
with_elements-snoc (u ∷ vs) v ws = ap (λ (xs : Elements (List ℕ)). element u xs) (with_elements-snoc vs v ws)

pub with_members-snoc : (ms : Pairs) (key : List ℕ) (v : Raw) (ns : Members (List ℕ)) → with_members (ms ++ (key, v) ∷ []) ns ≡ with_members ms (member key v ns)
with_members-snoc [] key v ns = refl
with_members-snoc (m ∷ ms) key v ns = ap (λ (xs : Members (List ℕ)). member m.0 m.1 xs) (with_members-snoc ms key v ns)

pub with_elements-none : (vs : List Raw) → with_elements vs no_elements ≡ elements_of vs
with_elements-none [] = refl
with_elements-none (v ∷ vs) = ap (λ (xs : Elements (List ℕ)). element v xs) (with_elements-none vs)

pub with_members-none : (ms : Pairs) → with_members ms no_members ≡ members_of ms
with_members-none [] = refl
with_members-none (m ∷ ms) = ap (λ (xs : Members (List ℕ)). member m.0 m.1 xs) (with_members-none ms)

-- the last of all
last_element : (vs : List Raw) (v : Raw) → with_elements vs (element v no_elements) ≡ elements_of (vs ++ v ∷ [])
last_element vs v = sym (with_elements-snoc vs v no_elements) ∙ with_elements-none (vs ++ v ∷ [])

last_member : (ms : Pairs) (key : List ℕ) (v : Raw) → with_members ms (member key v no_members) ≡ members_of (ms ++ (key, v) ∷ [])
last_member ms key v = sym (with_members-snoc ms key v no_members) ∙ with_members-none (ms ++ (key, v) ∷ [])

-- a byte behind a value is white space, a comma or a mark that closes
pub after_first : (k : List Frame) (d : ℕ) (v : Raw) (b : ℕ) (rest : List ℕ) (whole : Raw)
    → After k d v (b ∷ rest) whole → IsSpace b ⊎ (b ≡ 44) ⊎ (b ≡ 93) ⊎ (b ≡ 125)
after_first [] d v b rest whole h = elim (first_space b rest [] h.0) [
  | inl g ↦ inl g.0
  | inr e ↦ absurd cc
]
after_first (in_array vs ∷ k) d v b rest whole (no_elements, to, h, a) = elim (first_space b rest (93 ∷ to) h) [
  | inl g ↦ inl g.0
  | inr e ↦ inr (inr (inl cc))
]
after_first (in_array vs ∷ k) d v b rest whole (element w ws, to, h, a) = elim (first_space b rest (44 ∷ h.0) h.3) [
  | inl g ↦ inl g.0
  | inr e ↦ inr (inl cc)
]
after_first (in_object ms key ∷ k) d v b rest whole (no_members, to, h, a) = elim (first_space b rest (125 ∷ to) h) [
  | inl g ↦ inl g.0
  | inr e ↦ inr (inr (inr cc))
]
after_first (in_object ms key ∷ k) d v b rest whole (member l w ns, to, h, a) = elim (first_space b rest (44 ∷ h.0) h.6) [
  | inl g ↦ inl g.0
  | inr e ↦ inr (inl cc)
]

-- white space behind a value changes nothing
pub after-space : (k : List Frame) (d : ℕ) (v : Raw) (b : ℕ) (rest : List ℕ) (whole : Raw)
    → IsSpace b → After k d v rest whole → After k d v (b ∷ rest) whole
after-space [] d v b rest whole s h = (more_spaces b rest [] s h.0, h.1)
after-space (in_array vs ∷ k) d v b rest whole s (no_elements, to, h, a) = (no_elements, to, more_spaces b rest (93 ∷ to) s h, a)
after-space (in_array vs ∷ k) d v b rest whole s (element w ws, to, (mid, start, end, h, i, j, more), a) =
    (element w ws, to, (mid, start, end, more_spaces b rest (44 ∷ mid) s h, i, j, more), a)
after-space (in_object ms key ∷ k) d v b rest whole s (no_members, to, h, a) = (no_members, to, more_spaces b rest (125 ∷ to) s h, a)
after-space (in_object ms key ∷ k) d v b rest whole s (member l w ns, to, (comma, start, end, mid, first, last, h, i, j, c, e, f, more), a) =
    (member l w ns, to, (comma, start, end, mid, first, last, more_spaces b rest (44 ∷ comma) s h, i, j, c, e, f, more), a)

space-after : (k : List Frame) (d : ℕ) (v : Raw) (b : ℕ) (rest : List ℕ) (whole : Raw)
    → IsSpace b → After k d v (b ∷ rest) whole → After k d v rest whole
space-after [] d v b rest whole s h = elim (first_space b rest [] h.0) [
  | inl g ↦ (g.1, h.1)
  | inr e ↦ absurd cc
]
space-after (in_array vs ∷ k) d v b rest whole s (no_elements, to, h, a) =
    (no_elements, to, up_to_space b 93 rest to bracket_no_space s h, a)
space-after (in_array vs ∷ k) d v b rest whole s (element w ws, to, (mid, start, end, h, i, j, more), a) =
    (element w ws, to, (mid, start, end, up_to_space b 44 rest mid comma_no_space s h, i, j, more), a)
space-after (in_object ms key ∷ k) d v b rest whole s (no_members, to, h, a) =
    (no_members, to, up_to_space b 125 rest to brace_no_space s h, a)
space-after (in_object ms key ∷ k) d v b rest whole s (member l w ns, to, (comma, start, end, mid, first, last, h, i, j, c, e, f, more), a) =
    (member l w ns, to, (comma, start, end, mid, first, last, up_to_space b 44 rest comma comma_no_space s h, i, j, c, e, f, more), a)

-- a comma or a mark that closes
fwd-closes : (k : List Frame) (d : ℕ) (v : Raw) (b : ℕ) (rest : List ℕ) (whole : Raw)
    → (IsSpace b → ⊥) → After k d v (b ∷ rest) whole → Follows (closes k d v b) rest whole
fwd-closes [] d v b rest whole s h = elim (first_space b rest [] h.0) [
  | inl g ↦ absurd (s g.0)
  | inr e ↦ absurd cc
]
fwd-closes (in_array vs ∷ k) d v b rest whole s (no_elements, to, h, a) =
    let at = up_to_mark b 93 rest to s h in
    let closed : After k (suc d) (array (elements_of (vs ++ v ∷ []))) to whole =
    subst (λ (ws : Elements (List ℕ)). After k (suc d) (array ws) to whole) (last_element vs v) a in
    rw (at.0, at.1) closed
fwd-closes (in_array vs ∷ k) d v b rest whole s (element w ws, to, (mid, start, end, h, i, j, more), a) =
    let at = up_to_mark b 44 rest mid s h in
    let goes_on : After k (suc d) (array (with_elements (vs ++ v ∷ []) (element w ws))) to whole =
    subst (λ (ws : Elements (List ℕ)). After k (suc d) (array ws) to whole) (sym (with_elements-snoc vs v (element w ws))) a in
    rw (at.0, at.1) (start, end, w, i, j, (ws, to, more, goes_on))
fwd-closes (in_object ms key ∷ k) d v b rest whole s (no_members, to, h, a) =
    let at = up_to_mark b 125 rest to s h in
    let closed : After k (suc d) (object (members_of (ms ++ (key, v) ∷ []))) to whole =
    subst (λ (ns : Members (List ℕ)). After k (suc d) (object ns) to whole) (last_member ms key v) a in
    rw (at.0, at.1) closed
fwd-closes (in_object ms key ∷ k) d v b rest whole s (member l w ns, to, (comma, start, end, mid, first, last, h, i, j, c, e, f, more), a) =
    let at = up_to_mark b 44 rest comma s h in
    let goes_on : After k (suc d) (object (with_members (ms ++ (key, v) ∷ []) (member l w ns))) to whole =
    subst (λ (ns : Members (List ℕ)). After k (suc d) (object ns) to whole) (sym (with_members-snoc ms key v (member l w ns))) a in
    rw (at.0, at.1) (start, l, end, i, j, (mid, first, last, w, c, e, f, (ns, to, more, goes_on)))

pub fwd-after : (d : ℕ) (k : List Frame) (v : Raw) (b : ℕ) (rest : List ℕ) (whole : Raw)
    → After k d v (b ∷ rest) whole → Follows (after_step d k v b) rest whole
fwd-after d k v b rest whole h =
    fwd-spaced (after d k v) b (closes k d v b) rest whole (λ s. space-after k d v b rest whole s h) (λ s. fwd-closes k d v b rest whole s h)

element_behind : (vs : List Raw) (k : List Frame) (d : ℕ) (v : Raw) (rest : List ℕ) (whole : Raw)
    → Remains (value d (in_array (vs ++ v ∷ []) ∷ k)) rest whole → After (in_array vs ∷ k) d v (44 ∷ rest) whole
element_behind vs k d v rest whole (start, end, w, i, j, (ws, to, more, a)) =
    let goes_on : After k (suc d) (array (with_elements vs (element v (element w ws)))) to whole =
    subst (λ (ws : Elements (List ℕ)). After k (suc d) (array ws) to whole) (with_elements-snoc vs v (element w ws)) a in
    (element w ws, to, (rest, start, end, at_front 44 44 rest refl, i, j, more), goes_on)

member_behind : (ms : Pairs) (key : List ℕ) (k : List Frame) (d : ℕ) (v : Raw) (rest : List ℕ) (whole : Raw)
    → Remains (next_key d k (ms ++ (key, v) ∷ [])) rest whole → After (in_object ms key ∷ k) d v (44 ∷ rest) whole
member_behind ms key k d v rest whole (start, l, end, i, j, (mid, first, last, w, c, e, f, (ns, to, more, a))) =
    let goes_on : After k (suc d) (object (with_members ms (member key v (member l w ns)))) to whole =
    subst (λ (ns : Members (List ℕ)). After k (suc d) (object ns) to whole) (with_members-snoc ms key v (member l w ns)) a in
    (member l w ns, to, (rest, start, end, mid, first, last, at_front 44 44 rest refl, i, j, c, e, f, more), goes_on)

bracket_behind : (vs : List Raw) (k : List Frame) (d : ℕ) (v : Raw) (rest : List ℕ) (whole : Raw)
    → After k (suc d) (array (elements_of (vs ++ v ∷ []))) rest whole → After (in_array vs ∷ k) d v (93 ∷ rest) whole
bracket_behind vs k d v rest whole h =
    (no_elements, rest, at_front 93 93 rest refl, subst (λ (ws : Elements (List ℕ)). After k (suc d) (array ws) rest whole) (sym (last_element vs v)) h)

brace_behind : (ms : Pairs) (key : List ℕ) (k : List Frame) (d : ℕ) (v : Raw) (rest : List ℕ) (whole : Raw)
    → After k (suc d) (object (members_of (ms ++ (key, v) ∷ []))) rest whole → After (in_object ms key ∷ k) d v (125 ∷ rest) whole
brace_behind ms key k d v rest whole h =
    (no_members, rest, at_front 125 125 rest refl, subst (λ (ns : Members (List ℕ)). After k (suc d) (object ns) rest whole) (sym (last_member ms key v)) h)

back-closes : (k : List Frame) (d : ℕ) (v : Raw) (b : ℕ) (rest : List ℕ) (whole : Raw)
    → Follows (closes k d v b) rest whole → After k d v (b ∷ rest) whole
back-closes [] d v b rest whole h = absurd h
back-closes (in_array vs ∷ k) d v b rest whole h =
    elim (chosen (λ (o : Option State). Follows o rest whole) (nat_eq b 44) _ _ h) [
      | inl p ↦ rw (is_byte b 44 p.0) (element_behind vs k d v rest whole p.1)
      | inr p ↦ elim (chosen (λ (o : Option State). Follows o rest whole) (nat_eq b 93) _ _ p.1) [
        | inl q ↦ rw (is_byte b 93 q.0) (bracket_behind vs k d v rest whole q.1)
        | inr q ↦ absurd q.1
      ]
    ]
back-closes (in_object ms key ∷ k) d v b rest whole h =
    elim (chosen (λ (o : Option State). Follows o rest whole) (nat_eq b 44) _ _ h) [
      | inl p ↦ rw (is_byte b 44 p.0) (member_behind ms key k d v rest whole p.1)
      | inr p ↦ elim (chosen (λ (o : Option State). Follows o rest whole) (nat_eq b 125) _ _ p.1) [
        | inl q ↦ rw (is_byte b 125 q.0) (brace_behind ms key k d v rest whole q.1)
        | inr q ↦ absurd q.1
      ]
    ]

pub back-after : (d : ℕ) (k : List Frame) (v : Raw) (b : ℕ) (rest : List ℕ) (whole : Raw)
    → Follows (after_step d k v b) rest whole → After k d v (b ∷ rest) whole
back-after d k v b rest whole h =
    elim (back-spaced (after d k v) b (closes k d v b) rest whole h) [
      | inl g ↦ after-space k d v b rest whole g.0 g.1
      | inr g ↦ back-closes k d v b rest whole g.1
    ]

pub fwd_end-after : (d : ℕ) (k : List Frame) (v whole : Raw) → After k d v [] whole → value_at_end k v ≡ Some whole
fwd_end-after d [] v whole h = ap (λ (w : Raw). Some w) (sym h.1)
fwd_end-after d (in_array vs ∷ k) v whole (no_elements, to, h, a) = let e = spaces_at_end (93 ∷ to) h in absurd cc
fwd_end-after d (in_array vs ∷ k) v whole (element w ws, to, (mid, start, end, h, i, j, more), a) =
    let e = spaces_at_end (44 ∷ mid) h in absurd cc
fwd_end-after d (in_object ms key ∷ k) v whole (no_members, to, h, a) = let e = spaces_at_end (125 ∷ to) h in absurd cc
fwd_end-after d (in_object ms key ∷ k) v whole (member l w ns, to, (comma, start, end, mid, first, last, h, i, j, c, e, f, more), a) =
    let e = spaces_at_end (44 ∷ comma) h in absurd cc

pub back_end-after : (d : ℕ) (k : List Frame) (v whole : Raw) → value_at_end k v ≡ Some whole → After k d v [] whole
back_end-after d [] v whole e = (no_spaces [], cc)
back_end-after d (f ∷ k) v whole e = absurd cc

word_goes_on : (left : List ℕ) (v : Raw) (d : ℕ) (k : List Frame) (to : List ℕ) (whole : Raw)
    → After k d v to whole → Remains (word_next left v d k) (left ++ to) whole
word_goes_on [] v d k to whole a = a
word_goes_on (b ∷ left) v d k to whole a = (to, refl, a)

word_behind : (left : List ℕ) (v : Raw) (d : ℕ) (k : List Frame) (rest : List ℕ) (whole : Raw)
    → Remains (word_next left v d k) rest whole → (to : List ℕ) × (rest ≡ left ++ to) × After k d v to whole
word_behind [] v d k rest whole h = (rest, refl, h)
word_behind (b ∷ left) v d k rest whole h = h

pub fwd-in_word : (next : ℕ) (left : List ℕ) (v : Raw) (d : ℕ) (k : List Frame) → Forward (in_word next left v d k)
fwd-in_word next left v d k b rest whole (to, e, a) =
    let same : b ≡ next = cc in
    let others : rest ≡ left ++ to = cc in
    rw (is_byte-in b next same, others) (word_goes_on left v d k to whole a)

pub back-in_word : (next : ℕ) (left : List ℕ) (v : Raw) (d : ℕ) (k : List Frame) → Backward (in_word next left v d k)
back-in_word next left v d k b rest whole h =
    elim (chosen (λ (o : Option State). Follows o rest whole) (nat_eq b next) _ _ h) [
      | inl p ↦
          let same : b ≡ next = is_byte b next p.0 in
          let behind = word_behind left v d k rest whole p.1 in
          let others : rest ≡ left ++ behind.0 = behind.1 in
          (behind.0, cc, behind.2)
      | inr p ↦ absurd p.1
    ]
