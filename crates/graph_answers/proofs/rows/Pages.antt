-- The entries of a query stand in the order of their keys, so that those past the key of one are the ones behind it.
use Rattle.std.proofs.Common.{◌≡◌, ℕ, zero, suc, ◌≤◌, ◌<◌, List, [], ◌∷◌, ◌++◌, map, take, drop, length, get_or, Bool, true, false, cond, Option, Some, None, refl, sym, ap, ◌∙◌, subst, Less, arith, ◌⊎◌, inl, inr, nat_le, true≢false}
use Rattle.std.specs.Prelude.{slice_get}
use Rattle.std.specs.Ordering.{is_lt, ordering_reverse}
use Rattle.std.specs.Cmp.{IsTotalOrder}
use Rattle.std.specs.List.{AllByRecursion, filter, flat_map}
use Rattle.std.proofs.lemmas.Cmp.{lists_total, tied_itself}
use Rattle.std.proofs.lemmas.List.{append-nil, take-append-drop, take_all}
use Rattle.std.proofs.lemmas.Bool.{le-leb, leb-true}
use Rattle.std.proofs.lemmas.Option.{none-some, same_Some, get_or_from_slice_get, slice_get-get_or}
use Rattle.json_tree.specs.Values.{Json, object}
use Rattle.query_terms.specs.Queries.{Asked}
use Rattle.query_terms.specs.declared.query.Projection.{Projection}
use Rattle.query_terms.specs.declared.query.Projection.TheVariants as projections
use Rattle.graph_steps.specs.Conditions.{Row, source_of}
use Rattle.graph_steps.specs.Pages.{on_page, token, token_of}
use Rattle.graph_steps.specs.QueryAsks.{count_value, cut, is_row_past, item_members, kept_rows, projected, whole_value}
use Rattle.graph_steps.specs.States.{State}
use Rattle.graph_steps.specs.Typed.{WellTyped}
use Rattle.graph_steps.proofs.paging.Cut.{none-past, some-past}
use Rattle.query_eval.specs.Entries.{entries_past}
use Rattle.query_eval.proofs.Lists.{all_pass, all_weaker, each, filter_whole, filter_within}
use Rattle.query_eval.proofs.Ordered.{c_total, is_less, sorted_cons, sorted_filtered, sorted_first, sorted_rest}
use Rattle.graph_answers.specs.Paging.{ArePages, IsFollowed, IsLast}
use Rattle.graph_answers.proofs.rows.Ascending.{Ascends, IsBefore, Key, ascends_mapped, ascends_none, ascends_one, key_order}
use Rattle.graph_answers.proofs.rows.Keys.{RowsAscend, kept_ascend, key_of}

keys_total : IsTotalOrder key_order
keys_total = lists_total c_total

-- ---- the first of rows in order
all_taken : {X : Type 0} (P : X → Type 0) (n : ℕ) (xs : List X) → AllByRecursion P xs → AllByRecursion P (take n xs)
all_taken P zero xs all = tt
all_taken P (suc n) [] all = tt
all_taken P (suc n) (x ∷ xs) all = (all.0, all_taken P n xs all.1)

taken_ascend : (n : ℕ) (rows : List Row) → RowsAscend rows → RowsAscend (take n rows)
taken_ascend zero rows o = ascends_none key_order key_of
taken_ascend (suc n) [] o = o
taken_ascend (suc n) (row ∷ rows) o =
    sorted_cons key_order key_of row (take n rows)
    (all_taken (IsBefore key_order key_of row) n rows (sorted_first key_order key_of row rows o))
    (taken_ascend n rows (sorted_rest key_order key_of row rows o))

cut_ascend : (top : Option ℕ) (rows : List Row) → RowsAscend rows → RowsAscend (cut top rows)
cut_ascend None rows o = o
cut_ascend (Some top) rows o = taken_ascend top rows o

-- ---- entries
abbrev Entry : Type 0
Entry = Key × Json

abbrev EntriesAscend : List Entry → Type 0
EntriesAscend es = Ascends key_order (λ (e : Entry). e.0) es

given_ascend : (value : Row → Json) (rows : List Row) → RowsAscend rows → EntriesAscend (map (λ r. (r.key, value r)) rows)
given_ascend value rows o =
    ascends_mapped key_order (λ (e : Entry). e.0) key_order key_of (λ r. Unit {0}) (λ r. (r.key, value r)) (λ x y p q less. less)
    rows (each (λ r. Unit {0}) (λ r. tt) rows) o

entries_ascend : (p : Projection) (rows : List Row) → RowsAscend rows → EntriesAscend (projected p rows)
entries_ascend projections.Count rows o = ascends_one key_order (λ (e : Entry). e.0) ([], count_value rows)
entries_ascend (projections.Star top) rows o = given_ascend (λ r. whole_value (source_of r.bound)) (cut top rows) (cut_ascend top rows o)
entries_ascend (projections.Items top items) rows o = given_ascend (λ r. object (item_members r items)) (cut top rows) (cut_ascend top rows o)

-- ---- past one of them
abbrev past : Key → Entry → Bool
past key e = is_row_past (Some key) e

all_got : {X : Type 0} (P : X → Type 0) (n : ℕ) (xs : List X) (x : X) → AllByRecursion P xs → slice_get xs n ≡ Some x → P x
all_got P n [] x all at = absurd cc
all_got P zero (y ∷ xs) x all at = let same : y ≡ x = cc in subst P same all.0
all_got P (suc n) (y ∷ xs) x all at = all_got P n xs x all.1 at

past_first : (e : Entry) (es : List Entry) → EntriesAscend (e ∷ es) → filter (past e.0) (e ∷ es) ≡ es
past_first e es o =
    ap (λ b. cond b (e ∷ filter (past e.0) es) (filter (past e.0) es)) (ap is_lt (tied_itself keys_total e.0))
    ∙ filter_whole (past e.0) es (all_weaker (λ f. key_order e.0 f.0 ≡ Less) (λ f. past e.0 f ≡ true) (λ f less. ap is_lt less) es (sorted_first key_order (λ (f : Entry). f.0) e es o))

not_back : (k m : Key) → key_order k m ≡ Less → is_lt (key_order m k) ≡ false
not_back k m less = ap is_lt (keys_total.antisymm m k) ∙ ap (λ o. is_lt (ordering_reverse o)) less

past_nth : (n : ℕ) (es : List Entry) (e : Entry) → EntriesAscend es → slice_get es n ≡ Some e → filter (past e.0) es ≡ drop (suc n) es
past_nth n [] e o at = absurd cc
past_nth zero (f ∷ es) e o at = let same : f ≡ e = cc in ap (λ (g : Entry). filter (past g.0) (f ∷ es)) (sym same) ∙ past_first f es o
past_nth (suc n) (f ∷ es) e o at =
    let less : key_order f.0 e.0 ≡ Less = all_got (λ g. key_order f.0 g.0 ≡ Less) n es e (sorted_first key_order (λ (g : Entry). g.0) f es o) at in
    ap (λ b. cond b (f ∷ filter (past e.0) es) (filter (past e.0) es)) (not_back f.0 e.0 less)
    ∙ past_nth n es e (sorted_rest key_order (λ (g : Entry). g.0) f es o) at

-- what is past a key is followed by what is past it
opens : (after : Option Key) (e f : Entry) → key_order e.0 f.0 ≡ Less → is_row_past after e ≡ true → is_row_past after f ≡ true
opens None e f less h = refl
opens (Some key) e f less h = ap is_lt (keys_total.trans key e.0 f.0 (is_less (key_order key e.0) h) less)

module _ (after : Option Key) (es : List Entry) (o : EntriesAscend es) where
  behind : (n : ℕ) (e : Entry) → slice_get (filter (is_row_past after) es) n ≡ Some e → filter (past e.0) es ≡ drop (suc n) (filter (is_row_past after) es)
  behind n e at =
      let is_past : is_row_past after e ≡ true = all_got (λ f. is_row_past after f ≡ true) n (filter (is_row_past after) es) e (all_pass (is_row_past after) es) at in
      sym (filter_within (past e.0) (is_row_past after) (λ f h. opens after e f (is_less (key_order e.0 f.0) h) is_past) es)
      ∙ past_nth n (filter (is_row_past after) es) e (sorted_filtered key_order (λ (f : Entry). f.0) (is_row_past after) es o) at

-- ---- pages
hundredth : {X : Type 0} (xs : List X) → 100 < length xs → (x : X) × (slice_get xs 99 ≡ Some x)
hundredth [] many = absurd (omega (arith, many))
hundredth (x ∷ xs) many = (get_or (x ∷ xs) 99 x, slice_get-get_or (x ∷ xs) 99 x (omega (arith, many)))

map_same : {X : Type 0} (xs : List X) → map (λ x. x) xs ≡ xs
map_same [] = refl
map_same (x ∷ xs) = ap (λ ys. x ∷ ys) (map_same xs)

token_given : (es : List Entry) (e : Entry) → 100 < length es → slice_get es 99 ≡ Some e → token es ≡ Some (token_of e.0)
token_given es e many at = sym (ap token (map_same es)) ∙ some-past (λ (f : Entry). f) es e (omega (arith, many)) (sym (get_or_from_slice_get es 99 e e at))

module _ (s : State) (q : Asked) (after : Option Key) where
  pub followed_by_rest : WellTyped s → 100 < length (entries_past s q after) → IsFollowed s q after
  followed_by_rest w many =
      let at = hundredth (entries_past s q after) many in
      record {
        last = at.0;
        hundredth = at.1;
        rest = sym (take-append-drop 100 (entries_past s q after))
            ∙ ap (λ more. on_page (entries_past s q after) ++ more)
            (sym (behind after (projected q.select (kept_rows s q)) (entries_ascend q.select (kept_rows s q) (kept_ascend s w q)) 99 at.0 at.1));
        given = token_given (entries_past s q after) at.0 many at.1;
      }

  pub last_page : length (entries_past s q after) ≤ 100 → IsLast s q after
  last_page few = record {
    whole = take_all 100 (entries_past s q after) few;
    ends = sym (ap token (map_same (entries_past s q after))) ∙ none-past (λ (f : Entry). f) (entries_past s q after) (omega (arith, few));
  }

-- ---- counts
pub count_entry : (s : State) (q : Asked) → q.select ≡ projections.Count → entries_past s q None ≡ ([], count_value (kept_rows s q)) ∷ []
count_entry s q h = ap (λ p. filter (is_row_past None) (projected p (kept_rows s q))) h

past_empty : (key : Key) → is_lt (key_order key []) ≡ false
past_empty [] = refl
past_empty (id ∷ ids) = refl

pub past_count : (s : State) (q : Asked) (key : Key) → q.select ≡ projections.Count → entries_past s q (Some key) ≡ []
past_count s q key h =
    ap (λ p. filter (is_row_past (Some key)) (projected p (kept_rows s q))) h
    ∙ ap (λ b. cond b (([], count_value (kept_rows s q)) ∷ []) []) (past_empty key)

-- ---- all pages
-- a page is the last one, or it is followed
few_or_many : (es : List Entry) → (length es ≤ 100) ⊎ (100 < length es)
few_or_many es =
    elim (nat_le (length es) 100) as (λ b. nat_le (length es) 100 ≡ b → (length es ≤ 100) ⊎ (100 < length es)) [
      | true ↦ λ e. inl (leb-true (length es) 100 e)
      | false ↦ λ e.
          let other : length es ≤ 100 → ⊥ = λ l. true≢false (sym (le-leb (length es) 100 l) ∙ e) in
          inr (omega (arith, other))
    ] refl

at_end : (s : State) (q : Asked) (after : Option Key) → WellTyped s → token (entries_past s q after) ≡ None → on_page (entries_past s q after) ≡ entries_past s q after
at_end s q after w none = elim (few_or_many (entries_past s q after)) [
  | inl few ↦ (last_page s q after few).whole
  | inr many ↦ absurd (none-some (token_of (followed_by_rest s q after w many).last.0) (sym none ∙ (followed_by_rest s q after w many).given))
]

one_taken : (n m : ℕ) (es : List Entry) → n < m → slice_get (take m es) n ≡ slice_get es n
one_taken n zero es l = absurd (omega (arith, l))
one_taken n (suc m) [] l = refl
one_taken zero (suc m) (e ∷ es) l = refl
one_taken (suc n) (suc m) (e ∷ es) l = one_taken n m es (omega (arith, l))

past_page : (s : State) (q : Asked) (after : Option Key) (page : List Entry) (e : Entry) (text : List ℕ) → WellTyped s → page ≡ on_page (entries_past s q after)
    → slice_get page 99 ≡ Some e → token (entries_past s q after) ≡ Some text → page ++ entries_past s q (Some e.0) ≡ entries_past s q after
past_page s q after page e text w is at some = elim (few_or_many (entries_past s q after)) [
  | inl few ↦ absurd (none-some text (sym (last_page s q after few).ends ∙ some))
  | inr many ↦
      let next = followed_by_rest s q after w many in
      let same : next.last ≡ e = same_Some next.last e (sym next.hundredth ∙ sym (one_taken 99 100 (entries_past s q after) (omega arith)) ∙ ap (λ p. slice_get p 99) (sym is) ∙ at) in
      ap (λ p. p ++ entries_past s q (Some e.0)) is
      ∙ ap (λ (f : Entry). on_page (entries_past s q after) ++ entries_past s q (Some f.0)) (sym same)
      ∙ sym next.rest
]

pub all_pages : (s : State) (q : Asked) (after : Option Key) (pages : List (List Entry)) → WellTyped s → ArePages s q after pages → flat_map (λ page. page) pages ≡ entries_past s q after
all_pages s q after [] w are = absurd are
all_pages s q after (page ∷ []) w are = append-nil page ∙ are.0 ∙ at_end s q after w are.1
all_pages s q after (page ∷ next ∷ more) w are =
    ap (λ rest. page ++ rest) (all_pages s q (Some are.1.0) (next ∷ more) w are.4)
    ∙ past_page s q after page are.1 (token_of are.1.0) w are.0 are.2 are.3
