-- The numbers of names, as sorted entries give them.
use Rattle.std.proofs.Common.{◌≡◌, ◌≢◌, ◌↔◌, ℕ, zero, suc, ◌+◌, ◌-◌, ◌<◌, ◌⊎◌, inl, inr, List, [], ◌∷◌, ◌++◌, true, false, cond, length, map, take, drop, get_or, set, nat_eq, Option, Some, Bool, Bor, refl, sym, ap, ◌∙◌, subst, is_eq, rules, arith, true≢false, Ordering, Less, Equal, Greater}
use Rattle.std.specs.Prelude.{IsSome, slice_get}
use Rattle.std.specs.List.{AllByRecursion, AllZip, filter_map, cons_option}
use Rattle.std.specs.List.Sorted.{IsPermutation, IsSorted, IsSortedBy}
use Rattle.std.specs.Bool.{IsTrue}
use Rattle.std.specs.Option.{is_some}
use Rattle.std.specs.Ordering.{is_lt, nat_cmp, ordering_then, ordering_reverse}
use Rattle.std.specs.Cmp.{IsTotalOrder}
use Rattle.std.specs.Cmp.Rules.{comparing}
use Rattle.std.specs.Cmp.Lexicographic.{slice_cmp, same_text, other_text}
use lib.Pointwise.{pointwise}
use Rattle.std.proofs.lemmas.Cmp.{tied_itself, nat_list_cmp_total}
use Rattle.std.proofs.lemmas.List.MinMax.{ranks_by}
use Rattle.std.proofs.lemmas.List.Sorted.{sorted_far, Contains-permutation, IsPermutation-sym, length_permutation}
use Rattle.std.proofs.lemmas.Option.{same_Some, none-some, slice_get_within}
use Rattle.std.proofs.lemmas.Map.Lookups.{exact_bytes, exact_unsigned, exact_pairs}
use Rattle.dtdl_terms.specs.declared.content.Content.{Content}
use Rattle.dtdl_terms.specs.declared.interface.Interface.{Interface}
use Rattle.extend_resolve.specs.Machinery.Names.{first_bytes, all_contents, SortedName, PlacesContent, AreEntries, AreOrdered, entry_cmp, number_named, HoldNumbers, Repeats, rows_of, IsNaming}
use Rattle.extend_resolve.proofs.Judged.{equal_order}
use Rattle.extend_resolve.proofs.Members.{contains_placed, placed_from_contained, placed_within, read_at, read_placed}

-- ---- entries are added
module _ {X : Type 0} where
  pub got_before : (xs ys : List X) (k : ℕ) (x : X) → slice_get xs k ≡ Some x → slice_get (xs ++ ys) k ≡ Some x
  got_before [] ys k x h = absurd (none-some x h)
  got_before (z ∷ xs) ys zero x h = h
  got_before (z ∷ xs) ys (suc k) x h = got_before xs ys k x h

  pub got_last : (xs : List X) (x : X) → slice_get (xs ++ x ∷ []) (length xs) ≡ Some x
  got_last [] x = refl
  got_last (z ∷ xs) x = got_last xs x

  -- what is read of a list with one more element is read of the list, or that element
  pub got_of_pushed : (xs : List X) (y : X) (k : ℕ) (x : X) → slice_get (xs ++ y ∷ []) k ≡ Some x → (slice_get xs k ≡ Some x) ⊎ ((k ≡ length xs) × (y ≡ x))
  got_of_pushed [] y zero x h = inr (refl, same_Some y x h)
  got_of_pushed [] y (suc k) x h = absurd (none-some x h)
  got_of_pushed (z ∷ xs) y zero x h = inl h
  got_of_pushed (z ∷ xs) y (suc k) x h = elim (got_of_pushed xs y k x h) [ inl old ↦ inl old | inr new ↦ inr (ap suc new.0, new.1) ]

  pub length_pushed : (xs : List X) (y : X) → length (xs ++ y ∷ []) ≡ suc (length xs)
  length_pushed [] y = refl
  length_pushed (z ∷ xs) y = ap suc (length_pushed xs y)

  take_next : (xs : List X) (k : ℕ) (x : X) → slice_get xs k ≡ Some x → take (suc k) xs ≡ take k xs ++ x ∷ []
  take_next [] k x h = absurd (none-some x h)
  take_next (z ∷ xs) zero x h = ap (λ y. y ∷ []) (same_Some z x h)
  take_next (z ∷ xs) (suc k) x h = ap (λ ys. z ∷ ys) (take_next xs k x h)

  pub take_one_more : (xs : List X) (k : ℕ) (x : X) → slice_get xs k ≡ Some x → take (k + 1) xs ≡ take k xs ++ x ∷ []
  take_one_more xs k x h = let e : k + 1 ≡ suc k = omega arith in ap (λ n. take n xs) e ∙ take_next xs k x h

  -- what a whole slice was written back as
  pub written_back : (new more : List X) (n : ℕ) → n ≡ length new → take n (new ++ more) ≡ new
  written_back [] more n e = ap (λ k. take k more) e
  written_back (x ∷ new) more n e = ap (λ k. take k (x ∷ (new ++ more))) e ∙ ap (λ ys. x ∷ ys) (written_back new more (length new) refl)

still_tells : (cs more : List Content) (e : SortedName) → PlacesContent cs e → PlacesContent (cs ++ more) e
still_tells cs more e t = record { content = t.content; placed = got_before cs more e.2 t.content t.placed; name = t.name; first = t.first }

pub entry_added : (cs : List Content) (es : List SortedName) (c : Content) (e : SortedName) → AreEntries cs es
    → e.0 ≡ first_bytes c.name → e.1.now ≡ c.name → e.2 ≡ length es → AreEntries (cs ++ c ∷ []) (es ++ e ∷ [])
entry_added cs es c e are first name place = record {
  size = length_pushed es e ∙ ap suc are.size ∙ sym (length_pushed cs c);
  each = λ k f h. elim (got_of_pushed es e k f h) [
    | inl old ↦ still_tells cs (c ∷ []) f (are.each k f old)
    | inr new ↦ subst (PlacesContent (cs ++ c ∷ [])) new.1 (record {
      content = c;
      placed = ap (slice_get (cs ++ c ∷ [])) (place ∙ are.size) ∙ got_last cs c;
      name = name;
      first = first;
    })
  ];
  places = λ k f h. elim (got_of_pushed es e k f h) [
    | inl old ↦ are.places k f old
    | inr new ↦ ap (λ (d : SortedName). d.2) (sym new.1) ∙ place ∙ sym new.0
  ];
}

-- ---- the order of entries
abbrev key_of : SortedName → ℕ × List ℕ
key_of e = (e.0, e.1.now)

abbrev key_cmp : ℕ × List ℕ → ℕ × List ℕ → Ordering
key_cmp a b = ordering_then (nat_cmp a.0 b.0) (slice_cmp nat_cmp a.1 b.1)

key_total : IsTotalOrder key_cmp
key_total = search (rules, comparing)

abbrev is_before : SortedName → SortedName → Bool
is_before d e = is_lt (key_cmp (key_of d) (key_of e))

not_less : (o p : Ordering) → is_lt (ordering_then o p) ≡ false → is_lt o ≡ false
not_less Less p h = h
not_less Equal p h = refl
not_less Greater p h = h

by_keys : (es : List SortedName) → IsSorted entry_cmp es → IsSortedBy is_before es
by_keys es up k d low more =
    let e = get_or es (k + 1) d in
    let f = get_or es k d in
    not_less (key_cmp (key_of e) (key_of f)) (nat_cmp e.2 f.2) (up k d low more)

neither : (o p : Ordering) → o ≡ ordering_reverse p → is_lt o ≡ false → is_lt p ≡ false → o ≡ Equal
neither Less p e h g = absurd (true≢false h)
neither Equal p e h g = refl
neither Greater Less e h g = absurd (true≢false g)
neither Greater Equal e h g = e
neither Greater Greater e h g = cc

-- keys of which neither is before the other are one key
same_key : (a b : ℕ × List ℕ) → is_lt (key_cmp a b) ≡ false → is_lt (key_cmp b a) ≡ false → a ≡ b
same_key a b h g = exact_pairs nat_cmp (slice_cmp nat_cmp) exact_unsigned exact_bytes a b (neither (key_cmp a b) (key_cmp b a) (key_total.antisymm a b) h g)

-- ---- what the entries tell
module _ (contents : List Content) where
  told_first : (e : SortedName) → PlacesContent contents e → e.0 ≡ first_bytes e.1.now
  told_first e t = t.first ∙ ap first_bytes (sym t.name)

  -- entries with one name have one key
  told_key : (d e : SortedName) → PlacesContent contents d → PlacesContent contents e → d.1.now ≡ e.1.now → key_of d ≡ key_of e
  told_key d e t u same =
      let first : d.0 ≡ e.0 = told_first d t ∙ ap first_bytes same ∙ sym (told_first e u) in
      cc

  -- entries with one place have one name
  told_name : (d e : SortedName) → PlacesContent contents d → PlacesContent contents e → d.2 ≡ e.2 → d.1.now ≡ e.1.now
  told_name d e t u same =
      let content = same_Some t.content u.content (sym t.placed ∙ ap (slice_get contents) same ∙ u.placed) in
      t.name ∙ ap (λ (c : Content). c.name) content ∙ sym u.name

-- where a name is not that of the entry before, no entry before has it
no_earlier : (es : List SortedName) (size : ℕ) → AreOrdered es size → (i j : ℕ) (d p e : SortedName)
    → j < i → slice_get es j ≡ Some d → slice_get es (i - 1) ≡ Some p → slice_get es i ≡ Some e → d.1.now ≡ e.1.now → p.1.now ≡ e.1.now
no_earlier es size o i j d p e low at_d at_p at_e same =
    let inside : i < length es = slice_get_within es i e at_e in
    let far = sorted_far is_before (ranks_by key_total key_of) es (by_keys es o.sorted) in
    let key = told_key o.contents d e (o.each j d at_d) (o.each i e at_e) same in
    let one : is_before p d ≡ false =
    subst (λ (x : SortedName). is_before p x ≡ false) (read_at es d p j at_d)
    (subst (λ (x : SortedName). is_before x (get_or es j p) ≡ false) (read_at es p p (i - 1) at_p) (far j (i - 1) p (omega arith) (omega arith))) in
    let two : is_before e p ≡ false =
    subst (λ (x : SortedName). is_before e x ≡ false) (read_at es p p (i - 1) at_p)
    (subst (λ (x : SortedName). is_before x (get_or es (i - 1) p) ≡ false) (read_at es e p i at_e) (far (i - 1) i p (omega arith) inside)) in
    ap (λ (k : ℕ × List ℕ). k.1) (same_key (key_of p) (key_of e) (subst (λ k. is_lt (key_cmp (key_of p) k) ≡ false) key one) two)

-- the place that an entry tells is there
pub place_within : (es : List SortedName) (size k : ℕ) (e : SortedName) → AreOrdered es size → slice_get es k ≡ Some e → e.2 < size
place_within es size k e o at =
    let t = o.each k e at in
    let low = slice_get_within o.contents e.2 t.content t.placed in
    omega (arith, low, o.count)

-- ---- the number of a name
texts_tied : (a : List ℕ) → is_eq (slice_cmp nat_cmp a a) ≡ true
texts_tied a = ap is_eq (tied_itself nat_list_cmp_total a)

first_found : (es : List SortedName) (k : ℕ) (e : SortedName) → slice_get es k ≡ Some e
    → ((j : ℕ) (d : SortedName) → j < k → slice_get es j ≡ Some d → is_eq (slice_cmp nat_cmp d.1.now e.1.now) ≡ false) → number_named es e.1.now ≡ Some e.2
first_found [] k e h none = absurd (none-some e h)
first_found (d ∷ es) zero e h none =
    ap (λ (f : SortedName). cond (is_eq (slice_cmp nat_cmp f.1.now e.1.now)) (Some f.2) (number_named es e.1.now)) (same_Some d e h)
    ∙ ap (λ b. cond b (Some e.2) (number_named es e.1.now)) (texts_tied e.1.now)
first_found (d ∷ es) (suc k) e h none =
    ap (λ b. cond b (Some d.2) (number_named es e.1.now)) (none zero d (omega arith) refl)
    ∙ first_found es k e h (λ j f low at. none (suc j) f (omega (arith, low)) at)

-- a number is the place of an entry with the name
found_number : (es : List SortedName) (name : List ℕ) (x : ℕ) → number_named es name ≡ Some x → (k : ℕ) × (e : SortedName) × (slice_get es k ≡ Some e) × (e.1.now ≡ name) × (e.2 ≡ x)
found_number [] name x h = absurd (none-some x h)
found_number (e ∷ es) name x h =
    elim (is_eq (slice_cmp nat_cmp e.1.now name)) as (λ b. is_eq (slice_cmp nat_cmp e.1.now name) ≡ b → cond b (Some e.2) (number_named es name) ≡ Some x
    → (k : ℕ) × (f : SortedName) × (slice_get (e ∷ es) k ≡ Some f) × (f.1.now ≡ name) × (f.2 ≡ x)) [
      | true ↦ λ is g. (zero, e, refl, exact_bytes e.1.now name (equal_order (slice_cmp nat_cmp e.1.now name) is), same_Some e.2 x g)
      | false ↦ λ is g. let more = found_number es name x g in (suc more.0, more.1, more.2, more.3, more.4)
    ] refl h

-- two texts are one, or the test tells them apart
one_or_other : (a b : List ℕ) → (a ≡ b) ⊎ (is_eq (slice_cmp nat_cmp a b) ≡ false)
one_or_other a b =
    elim (is_eq (slice_cmp nat_cmp a b)) as (λ t. is_eq (slice_cmp nat_cmp a b) ≡ t → (a ≡ b) ⊎ (is_eq (slice_cmp nat_cmp a b) ≡ false)) [
      | true ↦ λ e. inl (exact_bytes a b (equal_order (slice_cmp nat_cmp a b) e))
      | false ↦ λ e. inr e
    ] refl

-- the number of a name that the entry before has not is the place of its entry
pub fresh_number : (es : List SortedName) (size : ℕ) → AreOrdered es size → (i : ℕ) (e : SortedName) → slice_get es i ≡ Some e → (Repeats es i → ⊥) → number_named es e.1.now ≡ Some e.2
fresh_number es size o i e at other =
    first_found es i e at (λ j d low there. elim (one_or_other d.1.now e.1.now) [
      | inr apart ↦ apart
      | inl same ↦
          let inside : i < length es = slice_get_within es i e at in
          let found = placed_within es (i - 1) (omega arith) in
          let p = found.0 in
          let key = told_key o.contents p e (o.each (i - 1) p found.1) (o.each i e at) (no_earlier es size o i j d p e low there found.1 at same) in
          absurd (other (record {
            behind = omega arith;
            same = λ f g at_f at_g.
                let one = same_Some p f (sym found.1 ∙ at_f) in
                let two = same_Some e g (sym at ∙ at_g) in
                let keys = ap key_of (sym one) ∙ key ∙ ap key_of two in
                (ap (λ (k : ℕ × List ℕ). k.0) keys, ap (λ (k : ℕ × List ℕ). k.1) keys);
          }))
    ])

-- the number of a name that the entry before has is that of the entry before
pub same_number_again : (es : List SortedName) (i x : ℕ) (e : SortedName) → slice_get es i ≡ Some e → Repeats es i
    → ((d : SortedName) → 0 < i → slice_get es (i - 1) ≡ Some d → number_named es d.1.now ≡ Some x) → number_named es e.1.now ≡ Some x
same_number_again es i x e at again before =
    let inside : i < length es = slice_get_within es i e at in
    let low : i - 1 < length es = omega arith in
    let found = placed_within es (i - 1) low in
    subst (λ q. number_named es q ≡ Some x) (again.same found.0 e found.1 at).1 (before found.0 again.behind found.1)

pub numbers_apart : (es : List SortedName) (size : ℕ) → AreOrdered es size → (a b : List ℕ) (x : ℕ) → number_named es a ≡ Some x → number_named es b ≡ Some x → a ≡ b
numbers_apart es size o a b x h g =
    let one = found_number es a x h in
    let two = found_number es b x g in
    sym one.3 ∙ told_name o.contents one.1 two.1 (o.each one.0 one.1 one.2) (o.each two.0 two.1 two.2) (one.4 ∙ sym two.4) ∙ two.3

pub numbers_below : (es : List SortedName) (size : ℕ) → AreOrdered es size → (a : List ℕ) (x : ℕ) → number_named es a ≡ Some x → x < size
numbers_below es size o a x h =
    let one = found_number es a x h in
    subst (λ y. y < size) one.4 (place_within es size one.0 one.1 o one.2)

-- ---- the walk over the entries
-- what a read past the end of entries gives
abbrev pub nothing : SortedName
nothing = (0, record { ref_ptr = (0, 0); now = [] }, 0)

pub repeats_where : (es : List SortedName) (i : ℕ) (d : SortedName) (r : Bool) → i < length es → (i ≡ 0 → ⊥) → (get_or es (i - 1) d).0 ≡ (get_or es i d).0
    → r ≡ pointwise nat_eq (get_or es (i - 1) d).1.now (get_or es i d).1.now → IsTrue r ↔ Repeats es i
repeats_where es i d r low some first test = (
  λ yes. record {
    behind = omega (arith, some);
    same = λ f g at_f at_g.
        let one : get_or es (i - 1) d ≡ f = read_at es f d (i - 1) at_f in
        let two : get_or es i d ≡ g = read_at es g d i at_g in
        let same = same_text (get_or es (i - 1) d).1.now (get_or es i d).1.now (sym yes ∙ test) in
        (ap (λ (e : SortedName). e.0) (sym one) ∙ first ∙ ap (λ (e : SortedName). e.0) two, ap (λ (e : SortedName). e.1.now) (sym one) ∙ same ∙ ap (λ (e : SortedName). e.1.now) two);
  },
  λ again.
      let same = (again.same (get_or es (i - 1) d) (get_or es i d) (read_placed es (i - 1) d (omega arith)) (read_placed es i d low)).1 in
      told r test same,
)
  where
    told : (b : Bool) → b ≡ pointwise nat_eq (get_or es (i - 1) d).1.now (get_or es i d).1.now → (get_or es (i - 1) d).1.now ≡ (get_or es i d).1.now → IsTrue b
    told true e same = refl
    told false e same = absurd (other_text (get_or es (i - 1) d).1.now (get_or es i d).1.now e same)

pub repeats_nowhere : (es : List SortedName) (i : ℕ) (d : SortedName) → i < length es → ((get_or es (i - 1) d).0 ≡ (get_or es i d).0 → ⊥) → Repeats es i → ⊥
repeats_nowhere es i d low other again =
    let behind : 0 < i = again.behind in
    let before : i - 1 < length es = omega arith in
    other (again.same (get_or es (i - 1) d) (get_or es i d) (read_placed es (i - 1) d before) (read_placed es i d low)).0

module _ {X : Type 0} where
  got_of_set : (xs : List X) (i k : ℕ) (y x : X) → slice_get (set xs i y) k ≡ Some x → ((k ≡ i) × (y ≡ x)) ⊎ ((k ≢ i) × (slice_get xs k ≡ Some x))
  got_of_set [] i k y x h = absurd (none-some x h)
  got_of_set (z ∷ xs) zero zero y x h = inl (refl, same_Some y x h)
  got_of_set (z ∷ xs) zero (suc k) y x h = inr (λ e. omega (arith, e), h)
  got_of_set (z ∷ xs) (suc i) zero y x h = inr (λ e. omega (arith, e), h)
  got_of_set (z ∷ xs) (suc i) (suc k) y x h =
      elim (got_of_set xs i k y x h) [ inl new ↦ inl (ap suc new.0, new.1) | inr old ↦ inr (λ e. let less : k ≡ i = omega (arith, e) in old.0 less, old.1) ]

below_or_at : (k i : ℕ) → k < i + 1 → (k < i) ⊎ (k ≡ i)
below_or_at zero zero low = inr refl
below_or_at zero (suc i) low = inl (omega arith)
below_or_at (suc k) zero low = absurd (omega (arith, low))
below_or_at (suc k) (suc i) low = elim (below_or_at k i (omega (arith, low))) [ inl less ↦ inl (omega (arith, less)) | inr same ↦ inr (ap suc same) ]

-- one more entry's number is written
pub numbered_more : (es : List SortedName) (size i number : ℕ) (numbers : List ℕ) (e : SortedName) → AreOrdered es size → slice_get es i ≡ Some e → number_named es e.1.now ≡ Some number
    → HoldNumbers es i numbers → HoldNumbers es (i + 1) (set numbers e.2 number)
numbered_more es size i number numbers e o at is written k x f low there got =
    elim (got_of_set numbers e.2 f.2 number x got) [
      | inl new ↦ ap (number_named es) (told_name o.contents f e (o.each k f there) (o.each i e at) new.0) ∙ is ∙ ap Some new.1
      | inr old ↦ elim (below_or_at k i low) [
        | inl earlier ↦ written k x f earlier there old.1
        | inr here ↦
            let same = same_Some f e (sym there ∙ ap (slice_get es) here ∙ at) in
            absurd (old.0 (ap (λ (d : SortedName). d.2) same))
      ]
    ]

-- ---- the entries of contents, sorted
pub sorted_entries : (cs : List Content) (old new : List SortedName) → AreEntries cs old → IsPermutation old new → IsSorted entry_cmp new → AreOrdered new (length new)
sorted_entries cs old new are moved sorted = record {
  contents = cs;
  count = sym (length_permutation old new moved ∙ are.size);
  each = λ k e at.
      let back = Contains-permutation new old e (IsPermutation-sym old new moved) (contains_placed new e k at) in
      are.each back.0 e (placed_from_contained old e back.0 back.1 back.2);
  sorted = sorted;
}

-- each place is that of an entry
entry_at : (cs : List Content) (old new : List SortedName) → AreEntries cs old → IsPermutation old new → (p : ℕ) → p < length cs → (k : ℕ) × (e : SortedName) × (slice_get new k ≡ Some e) × (e.2 ≡ p)
entry_at cs old new are moved p low =
    let there = placed_within old p (omega (arith, low, are.size)) in
    let e = there.0 in
    let found = Contains-permutation old new e moved (contains_placed old e p there.1) in
    (found.0, e, placed_from_contained new e found.0 found.1 found.2, are.places p e there.1)

zip_placed : {X Y : Type 0} (P : X → Y → Type 0) (xs : List X) (ys : List Y) → length ys ≡ length xs
    → ((k : ℕ) (x : X) (y : Y) → slice_get xs k ≡ Some x → slice_get ys k ≡ Some y → P x y) → AllZip P xs ys
zip_placed P [] [] long at = tt
zip_placed P [] (y ∷ ys) long at = absurd (omega (arith, long))
zip_placed P (x ∷ xs) [] long at = absurd (omega (arith, long))
zip_placed P (x ∷ xs) (y ∷ ys) long at = (at zero x y refl refl, zip_placed P xs ys (omega (arith, long)) (λ k v w h g. at (suc k) v w h g))

-- the numbers that were written are those of the contents' names
pub all_numbered : (cs : List Content) (old new : List SortedName) (numbers : List ℕ) → AreEntries cs old → IsPermutation old new → length numbers ≡ length new → HoldNumbers new (length new) numbers
    → AllZip (λ c x. number_named new c.name ≡ Some x) cs numbers
all_numbered cs old new numbers are moved long written =
    zip_placed (λ (c : Content) x. number_named new c.name ≡ Some x) cs numbers (long ∙ length_permutation old new moved ∙ are.size) (λ k c x at there.
    let found = entry_at cs old new are moved k (slice_get_within cs k c at) in
    let e = found.1 in
    let back = Contains-permutation new old e (IsPermutation-sym old new moved) (contains_placed new e found.0 found.2) in
    let t = are.each back.0 e (placed_from_contained old e back.0 back.1 back.2) in
    let content = same_Some t.content c (sym t.placed ∙ ap (slice_get cs) found.3 ∙ at) in
    let name : e.1.now ≡ c.name = t.name ∙ ap (λ (d : Content). d.name) content in
    subst (λ q. number_named new q ≡ Some x) name (written found.0 x e (slice_get_within new found.0 e found.2) found.2 (ap (slice_get numbers) found.3 ∙ there)))

-- ---- rows
module _ {X Y : Type 0} (P : X → Y → Type 0) where
  zip_front : (us vs : List X) (ys : List Y) → AllZip P (us ++ vs) ys → AllZip P us (take (length us) ys)
  zip_front [] vs ys all = tt
  zip_front (u ∷ us) vs [] all = absurd all
  zip_front (u ∷ us) vs (y ∷ ys) all = (all.0, zip_front us vs ys all.1)

  zip_back : (us vs : List X) (ys : List Y) → AllZip P (us ++ vs) ys → AllZip P vs (drop (length us) ys)
  zip_back [] vs ys all = all
  zip_back (u ∷ us) vs [] all = absurd all
  zip_back (u ∷ us) vs (y ∷ ys) all = zip_back us vs ys all.1

pub rows_told : (P : Content → ℕ → Type 0) (ns : List (Bor Interface)) (xs : List ℕ) → AllZip P (all_contents ns) xs → AllZip (λ n ys. AllZip P n.now.contents ys) ns (rows_of ns xs)
rows_told P [] xs all = tt
rows_told P (n ∷ ns) xs all =
    (zip_front P n.now.contents (all_contents ns) xs all, rows_told P ns (drop (length n.now.contents) xs) (zip_back P n.now.contents (all_contents ns) xs all))

-- what the numbers of all names tell
module _ (number : List ℕ → Option ℕ) where
  numbers_read : (cs : List Content) (xs : List ℕ) → AllZip (λ c x. number c.name ≡ Some x) cs xs → xs ≡ filter_map (λ c. number c.name) cs
  numbers_read [] [] all = refl
  numbers_read [] (x ∷ xs) all = absurd all
  numbers_read (c ∷ cs) [] all = absurd all
  numbers_read (c ∷ cs) (x ∷ xs) all =
      ap (λ ys. x ∷ ys) (numbers_read cs xs all.1) ∙ ap (λ o. cons_option o (filter_map (λ d. number d.name) cs)) (sym all.0)

  numbers_known : (cs : List Content) (xs : List ℕ) → AllZip (λ c x. number c.name ≡ Some x) cs xs → AllByRecursion (λ c. IsSome (number c.name)) cs
  numbers_known [] [] all = tt
  numbers_known [] (x ∷ xs) all = absurd all
  numbers_known (c ∷ cs) [] all = absurd all
  numbers_known (c ∷ cs) (x ∷ xs) all = (ap is_some all.0, numbers_known cs xs all.1)

  pub declared_read : (ns : List (Bor Interface)) (ds : List (List ℕ)) → AllZip (λ n xs. AllZip (λ c x. number c.name ≡ Some x) n.now.contents xs) ns ds
      → ds ≡ map (λ i. filter_map (λ c. number c.name) i.contents) (map (λ n. n.now) ns)
  declared_read [] [] all = refl
  declared_read [] (d ∷ ds) all = absurd all
  declared_read (n ∷ ns) [] all = absurd all
  declared_read (n ∷ ns) (d ∷ ds) all =
      ap (λ ys. d ∷ ys) (declared_read ns ds all.1)
      ∙ ap (λ y. y ∷ map (λ i. filter_map (λ c. number c.name) i.contents) (map (λ m. m.now) ns)) (numbers_read n.now.contents d all.0)

  pub declared_known : (ns : List (Bor Interface)) (ds : List (List ℕ)) → AllZip (λ n xs. AllZip (λ c x. number c.name ≡ Some x) n.now.contents xs) ns ds
      → AllByRecursion (λ i. AllByRecursion (λ c. IsSome (number c.name)) i.contents) (map (λ n. n.now) ns)
  declared_known [] [] all = tt
  declared_known [] (d ∷ ds) all = absurd all
  declared_known (n ∷ ns) [] all = absurd all
  declared_known (n ∷ ns) (d ∷ ds) all = (numbers_known n.now.contents d all.0, declared_known ns ds all.1)

-- the numbers of sorted entries' names, in rows, are a naming
pub naming_made : (ns : List (Bor Interface)) (old new : List SortedName) (numbers : List ℕ) (declared : List (List ℕ)) (bound : ℕ) → AreEntries (all_contents ns) old
    → IsPermutation old new → IsSorted entry_cmp new → length numbers ≡ length new → HoldNumbers new (length new) numbers → declared ≡ rows_of ns numbers → bound ≡ length new
    → IsNaming (map (λ n. n.now) ns) declared bound
naming_made ns old new numbers declared bound are moved sorted long written rows size =
    let ordered = sorted_entries (all_contents ns) old new are moved sorted in
    let number : List ℕ → Option ℕ = number_named new in
    let all : AllZip (λ (n : Bor Interface) xs. AllZip (λ (c : Content) x. number c.name ≡ Some x) n.now.contents xs) ns declared =
    subst (AllZip (λ (n : Bor Interface) xs. AllZip (λ (c : Content) x. number c.name ≡ Some x) n.now.contents xs) ns) (sym rows)
    (rows_told (λ (c : Content) x. number c.name ≡ Some x) ns numbers (all_numbered (all_contents ns) old new numbers are moved long written)) in
    record {
      number = number;
      numbers = declared_read number ns declared all;
      each = declared_known number ns declared all;
      apart = numbers_apart new (length new) ordered;
      below = λ a x h. let low = numbers_below new (length new) ordered a x h in omega (arith, low, size);
    }
