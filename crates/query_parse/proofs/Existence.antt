-- Each text has an answer.
use Rattle.std.proofs.Common.{◌≡◌, ◌≢◌, ℕ, zero, suc, min, ◌-◌, ◌+◌, ◌<◌, ◌≤◌, ◌⊎◌, inl, inr, List, [], ◌∷◌, ◌++◌, length, take, drop, get_or, Bool, true, false, Option, Some, None, refl, sym, ap, ◌∙◌, subst, arith, length-append}
use Rattle.std.proofs.Math.Seq.{take-append_seam}
use Rattle.std.proofs.lemmas.List.{take-append-drop, length-take-le}
use Rattle.dt_base.specs.Existence.{IsThere}
use Rattle.dt_base.proofs.Existence.{is_there, holds_or_not, from_there, map_there}
use Rattle.query_terms.specs.Queries.{Asked}
use Rattle.query_terms.specs.declared.tokens.token.Token.{Token}
use Rattle.query_terms.specs.tokens.Spellings.{is_space, IsSpelling, IsLongest, BeginsNone, SkipsSpaces}
use Rattle.query_grammar.specs.declared.names.Notes.{Notes}
use Rattle.query_grammar.specs.declared.state.State.{State}
use Rattle.query_grammar.specs.declared.state.State.TheVariants as states
use Rattle.query_grammar.specs.Machinery.Steps.{step, end}
use Rattle.query_grammar.specs.Texts.{IsQueryText, IsFirstWrongToken}
use Rattle.query_grammar.specs.Bindings.{repeated_places, unbound}
use Rattle.query_grammar.specs.Spelled.{IsStarWithJoin, SpellsQuery}
use Rattle.query_parse.specs.declared.fault.QueryFault.{QueryFault}
use Rattle.query_parse.specs.declared.fault.QueryFault.TheVariants as faults
use Rattle.query_parse.specs.Faults.{RefusesQuery}
use Rattle.query_parse.specs.Machinery.Reached.{Reached, LeastOf}
use Rattle.query_parse.proofs.Leasts.{least_one, least_both, least_left}
use Rattle.query_parse.proofs.Readings.{takes, stops}
use Rattle.query_parse.proofs.Refusals.{many_joins, star_refused, twice_refused, unknown_refused, spelled}
use Rattle.query_parse.proofs.Says.{at_start, goes_on, shorter, wrong, is_whole, cut_short}

-- ---- white space
record Skipped (from : List ℕ) : Type 0 where
  to : List ℕ
  spaces : SkipsSpaces from to
  stops : is_space (get_or to 0 0) ≡ false

skipped_by : (b : ℕ) (bs : List ℕ) (space : Bool) → is_space b ≡ space → Skipped bs → Skipped (b ∷ bs)
skipped_by b bs true is s =
    record { to = s.to; spaces = (b ∷ s.spaces.0, (is, s.spaces.1), ap (λ (l : List ℕ). b ∷ l) s.spaces.2); stops = s.stops }
skipped_by b bs false is s = record { to = b ∷ bs; spaces = ([], tt, refl); stops = is }

skipped : (from : List ℕ) → Skipped from
skipped [] = record { to = []; spaces = ([], tt, refl); stops = refl }
skipped (b ∷ bs) = skipped_by b bs (is_space b) refl (skipped bs)

-- ---- the longest token
record IsGreatest (P : ℕ → Type 0) (n k : ℕ) : Type 0 where
  within : k ≤ n
  holds : P k
  most : (j : ℕ) → j ≤ n → P j → j ≤ k

abbrev Greatest : (ℕ → Type 0) → ℕ → Type 0
Greatest P n = ((k : ℕ) × IsGreatest P n k) ⊎ ((k : ℕ) → k ≤ n → P k → ⊥)

last_of : (k n : ℕ) → k ≤ suc n → (k ≤ n) ⊎ (k ≡ suc n)
last_of k n h = grind arith

greatest_below : (P : ℕ → Type 0) (n : ℕ) → (P (suc n) → ⊥) → Greatest P n → Greatest P (suc n)
greatest_below P n last (inl (k, g)) = inl (
  k,
  record {
    within = (let h = g.within in omega (arith, h));
    holds = g.holds;
    most = λ j h p. elim (last_of j n h) [ inl low ↦ g.most j low p | inr is ↦ absurd (last (subst P is p)) ];
  },
)
greatest_below P n last (inr none) = inr (λ j h p. elim (last_of j n h) [ inl low ↦ none j low p | inr is ↦ last (subst P is p) ])

only_zero : (k : ℕ) → k ≤ 0 → k ≡ 0
only_zero k h = omega arith

greatest : (P : ℕ → Type 0) (n : ℕ) → IsThere (Greatest P n)
greatest P zero = map_there
    (λ (d : P zero ⊎ (P zero → ⊥)). elim d as (λ _. Greatest P zero) [
      | inl p ↦ inl (zero, record { within = omega arith; holds = p; most = λ j h _. h })
      | inr other ↦ inr (λ j h p. other (subst P (only_zero j h) p))
    ]) (holds_or_not (P zero))
greatest P (suc n) = from_there (holds_or_not (P (suc n))) (λ (d : P (suc n) ⊎ (P (suc n) → ⊥)). elim d as (λ _. IsThere (Greatest P (suc n))) [
  | inl p ↦ is_there (inl (suc n, record { within = omega arith; holds = p; most = λ j h _. h }))
  | inr other ↦ map_there (greatest_below P n other) (greatest P n)
])

-- so many bytes in front are a token
abbrev AreToken : List ℕ → ℕ → Type 0
AreToken from k = (t : Token) × IsSpelling t (take k from)

abbrev Longest : List ℕ → Type 0
Longest from = ((t : Token) × ((to : List ℕ) × IsLongest from t to)) ⊎ BeginsNone from

stands : (from more rest : List ℕ) (t : Token) → IsSpelling t more → from ≡ more ++ rest → AreToken from (length more) × (length more ≤ length from)
stands from more rest t s e =
    let same : take (length more) from ≡ more = ap (λ (l : List ℕ). take (length more) l) e ∙ take-append_seam more rest in
    let all = ap length e in
    let parts = length-append more rest in
    ((t, subst (λ (l : List ℕ). IsSpelling t l) (sym same) s), omega (arith, all, parts))

longest_of : (from : List ℕ) → Greatest (AreToken from) (length from) → Longest from
longest_of from (inl (k, g)) = inl (
  g.holds.0,
  (
    drop k from,
    record {
      bytes = take k from;
      parts = sym (take-append-drop k from);
      spelled = g.holds.1;
      longest = λ u more rest s e.
          let there = stands from more rest u s e in
          let most = g.most (length more) there.1 there.0 in
          let same = length-take-le k from g.within in
          omega (arith, most, same);
    },
  ),
)
longest_of from (inr none) = inr (λ t bytes rest s e. let there = stands from bytes rest t s e in none (length bytes) there.1 there.0)

longest : (from : List ℕ) → IsThere (Longest from)
longest from = map_there (longest_of from) (greatest (AreToken from) (length from))

-- ---- the tokens one after another
-- the text is a query by the grammar, or wrong at a byte
abbrev Read : List ℕ → Type 0
Read text = ((whole : Asked × Notes) × IsQueryText text whole) ⊎ ((at : ℕ) × IsFirstWrongToken text at)

at_end : (text : List ℕ) (state : State) (o : Option (Asked × Notes)) → end state ≡ o → Reached text state [] → Read text
at_end text state (Some whole) ends reached = inl (whole, is_whole text [] state whole reached refl ends)
at_end text state None ends reached = inr (length text, cut_short text [] state (length text) reached refl refl ends)

-- What so many bytes more come to, in any state.
abbrev GoesOn : ℕ → List ℕ → Type 0
GoesOn n text = (rest : List ℕ) (state : State) → length rest ≤ n → Reached text state rest → is_space (get_or rest 0 0) ≡ false → IsThere (Read text)

with_token : (n : ℕ) (text rest to : List ℕ) (state : State) (t : Token) (o : Option State) → step state (length text - length rest) t ≡ o → length rest ≤ suc n
    → 0 < length rest → Reached text state rest → is_space (get_or rest 0 0) ≡ false → IsLongest rest t to → GoesOn n text → IsThere (Read text)
with_token n text rest to state t (Some next) leads few some reached first long more =
    let behind = skipped to in
    let at = length text - length rest in
    let taken = takes rest to state next at t long (sym leads) in
    let less = shorter rest to behind.to state next at taken behind.spaces in
    more behind.to next (omega (arith, less, few)) (goes_on text rest to behind.to state next at reached refl taken behind.spaces) behind.stops
with_token n text rest to state t None leads few some reached first long more =
    let at = length text - length rest in
    is_there (inr (at, wrong text rest state at reached refl some first (stops rest to state at t long (sym leads))))

by_longest : (n : ℕ) (text rest : List ℕ) (state : State) → length rest ≤ suc n → 0 < length rest → Reached text state rest → is_space (get_or rest 0 0) ≡ false
    → GoesOn n text → Longest rest → IsThere (Read text)
by_longest n text rest state few some reached first more (inl (t, (to, long))) =
    with_token n text rest to state t (step state (length text - length rest) t) refl few some reached first long more
by_longest n text rest state few some reached first more (inr none) =
    let at = length text - length rest in
    is_there (inr (at, wrong text rest state at reached refl some first (inl none)))

walk : (n : ℕ) (text : List ℕ) → GoesOn n text
walk n text [] state few reached first = is_there (at_end text state (end state) refl reached)
walk zero text (b ∷ bs) state few reached first = absurd (omega (arith, few))
walk (suc n) text (b ∷ bs) state few reached first =
    from_there (longest (b ∷ bs)) (by_longest n text (b ∷ bs) state few (omega arith) reached first (walk n text))

read : (text : List ℕ) → IsThere (Read text)
read text =
    let behind = skipped text in
    walk (length behind.to) text behind.to states.Start (omega arith) (at_start text behind.to behind.spaces) behind.stops

-- ---- what is judged behind the grammar
least_with : (b : ℕ) (bytes : List ℕ) → ((o : Option ℕ) × LeastOf bytes o) → (o : Option ℕ) × LeastOf (b ∷ bytes) o
least_with b bytes (None, least) = (Some b, least_left (b ∷ []) bytes b (least_one b) least)
least_with b bytes (Some a, least) = (Some (min b a), least_both (b ∷ []) bytes b a (least_one b) least)

least_of : (bytes : List ℕ) → (o : Option ℕ) × LeastOf bytes o
least_of [] = (None, refl)
least_of (b ∷ bytes) = least_with b bytes (least_of bytes)

-- the text is a query, or refused for something other than want of memory
abbrev Answered : List ℕ → Type 0
Answered text = ((query : Asked) × SpellsQuery text query) ⊎ ((fault : QueryFault) × (fault ≢ faults.OutOfMemory) × RefusesQuery text fault)

order : (a b : ℕ) → (a ≤ b) ⊎ (b < a)
order a b = grind arith

judged_uses : (text : List ℕ) (q : Asked) (n : Notes) → length text ≤ 8192 → IsQueryText text (q, n) → length q.joins ≤ 5 → (IsStarWithJoin q → ⊥)
    → repeated_places n ≡ [] → ((o : Option ℕ) × LeastOf (unbound q n) o) → Answered text
judged_uses text q n short is few star once (None, bound) = inl (q, spelled text q n short is few star once bound)
judged_uses text q n short is few star once (Some at, least) =
    inr (faults.UnknownAlias at, (λ e. cc), unknown_refused text q n at short is few star once least)

judged_names : (text : List ℕ) (q : Asked) (n : Notes) → length text ≤ 8192 → IsQueryText text (q, n) → length q.joins ≤ 5 → (IsStarWithJoin q → ⊥)
    → ((o : Option ℕ) × LeastOf (repeated_places n) o) → Answered text
judged_names text q n short is few star (None, once) = judged_uses text q n short is few star once (least_of (unbound q n))
judged_names text q n short is few star (Some at, least) =
    inr (faults.TwiceAlias at, (λ e. cc), twice_refused text q n at short is few star least)

judged_star : (text : List ℕ) (q : Asked) (n : Notes) → length text ≤ 8192 → IsQueryText text (q, n) → length q.joins ≤ 5
    → IsStarWithJoin q ⊎ (IsStarWithJoin q → ⊥) → Answered text
judged_star text q n short is few (inl star) = inr (faults.StarWithJoin, (λ e. cc), star_refused text q n short is few star)
judged_star text q n short is few (inr plain) = judged_names text q n short is few plain (least_of (repeated_places n))

judged : (text : List ℕ) (q : Asked) (n : Notes) → length text ≤ 8192 → IsQueryText text (q, n) → (length q.joins ≤ 5) ⊎ (5 < length q.joins)
    → IsThere (Answered text)
judged text q n short is (inl few) = map_there (judged_star text q n short is few) (holds_or_not (IsStarWithJoin q))
judged text q n short is (inr many) = is_there (inr (faults.TooManyJoins, (λ e. cc), many_joins text q n short is many))

answered_by : (text : List ℕ) → length text ≤ 8192 → Read text → IsThere (Answered text)
answered_by text short (inl (whole, is)) = judged text whole.0 whole.1 short is (order (length whole.0.joins) 5)
answered_by text short (inr (at, wrong_at)) = is_there (inr (faults.Byte at, (λ e. cc), (short, wrong_at)))

answered_in : (text : List ℕ) → (length text ≤ 8192) ⊎ (8192 < length text) → IsThere (Answered text)
answered_in text (inl short) = from_there (read text) (answered_by text short)
answered_in text (inr long) = is_there (inr (faults.TooLong, (λ e. cc), long))

pub answered : (text : List ℕ) → IsThere (Answered text)
answered text = answered_in text (order (length text) 8192)
