-- The grammar of queries, as a relation between tokens and what they ask for.
use Rattle.std.specs.Prelude.{◌≡◌, ℕ, zero, suc, ◌*◌, ◌^◌, ◌&&◌, nat_le, nat_lt, List, [], ◌∷◌, ◌++◌, length, Bool, true, false, not, Option, Some, None, ℤ, pos, negsuc, if◌then◌else◌, codes}
use Rattle.json_decimal.specs.Number.{Number}
use Rattle.json_decimal.specs.Decimals.{number_of}
use Rattle.query_terms.specs.declared.operand.Operand.{Operand}
use Rattle.query_terms.specs.declared.operand.Operand.TheVariants as operands
use Rattle.query_terms.specs.declared.operand.Literal.{Literal}
use Rattle.query_terms.specs.declared.operand.Literal.TheVariants as literals
use Rattle.query_terms.specs.declared.query.Projection.{Projection}
use Rattle.query_terms.specs.declared.query.Projection.TheVariants as projections
use Rattle.query_terms.specs.declared.query.Item.{Item}
use Rattle.query_terms.specs.declared.query.Join.{Join}
use Rattle.query_terms.specs.Conditions.{Condition, either, both, negated, compared, among, not_among, is_kind, has_part, of_model}
use Rattle.query_terms.specs.Queries.{Asked}
use Rattle.query_terms.specs.tokens.Words.{same_letters}
use Rattle.query_terms.specs.declared.tokens.token.Word.TheVariants as words
use Rattle.query_terms.specs.declared.tokens.token.Mark.TheVariants as marks
use Rattle.query_grammar.specs.declared.names.Notes.{Notes}
use Rattle.query_grammar.specs.declared.names.Referent.TheVariants as referents
use Rattle.query_grammar.specs.Phrases.{Placed, PlacedName, Rest, Phrase, ◌>>=◌, ◌>>◌, pure, choice, some_number, only_if, only_some, word, alias, field, kind_word, part_word, mark, compare_mark, number, text, note_alias, note_output, note_use}

-- ---- paths
-- So many names, each behind a point, that follow these; with the last name.
abbrev pub steps : ℕ → List (List ℕ) → PlacedName → Phrase (List (List ℕ) × PlacedName)
steps zero path last = pure (path, last)
steps (suc k) path last = do
  mark marks.Dot
  name ← field
  steps k (path ++ name.0 ∷ []) name.1

-- An alias and any number of names.
abbrev pub path : Phrase (List (List ℕ) × PlacedName)
path = some_number (λ k. do
  first ← alias
  note_use first referents.Path
  steps k (first.1 ∷ []) first)

-- ---- what is selected
-- The name of an item in the answer is that behind AS, or else the last one of its path.
abbrev pub item : Phrase Item
item = do
  p ← path
  out ← choice (word words.As >> alias) (pure p.1)
  note_output out
  pure (record { path = p.0; out = out.1 })

-- So many items more, where 20 are the most.
abbrev pub more_items : ℕ → List Item → Phrase (List Item)
more_items zero items = pure items
more_items (suc k) items = do
  mark marks.Comma
  only_if (nat_lt (length items) 20)
  i ← item
  more_items k (items ++ i ∷ [])

abbrev pub items : Phrase (List Item)
items = some_number (λ k. do
  i ← item
  more_items k (i ∷ []))

abbrev pub bounded_size : Bool → ℕ → Option ℕ
bounded_size negative size = if (not negative && nat_le 1 size) && nat_le size 1000000 then Some size else None

abbrev pub size_of : Bool → ℕ → ℤ → Option ℕ
size_of negative coefficient (pos power) = bounded_size negative (coefficient * 10 ^ power)
size_of negative coefficient (negsuc k) = None

-- A number that is whole, at least 1 and at most 1,000,000.
abbrev pub top_size : Number → Option ℕ
top_size n = size_of n.negative n.coefficient n.exponent

abbrev pub top : Phrase ℕ
top = do
  word words.Top
  mark marks.Open
  d ← number
  size ← only_some (top_size (number_of d))
  mark marks.Close
  pure size

abbrev pub whole_or_items : Option ℕ → Phrase Projection
whole_or_items size = choice
    (mark marks.Star >> pure (projections.Star size))
    (items >>= λ is. pure (projections.Items size is))

abbrev pub counted : Phrase Projection
counted = do
  word words.Count
  mark marks.Open
  mark marks.Close
  pure projections.Count

abbrev pub topped : Phrase Projection
topped = do
  size ← top
  choice (whole_or_items (Some size)) (pure (projections.Star (Some size)))

abbrev pub select : Phrase Projection
select = choice counted (choice topped (whole_or_items None))

-- ---- where rows come from
abbrev pub alias_here : Phrase (Option (List ℕ))
alias_here = choice
    (do
      a ← alias
      note_alias a
      pure (Some a.1))
    (pure None)

-- A join behind so many others.
abbrev pub join : ℕ → Phrase Join
join before = do
  word words.Join
  target ← alias
  note_alias target
  word words.Related
  source ← alias
  note_use source (referents.Source before)
  mark marks.Dot
  name ← field
  rel ← alias_here
  pure (record { target = target.1; from = source.1; name = name.0; rel = rel })

abbrev pub more_joins : ℕ → List Join → Phrase (List Join)
more_joins zero joins = pure joins
more_joins (suc k) joins = do
  j ← join (length joins)
  more_joins k (joins ++ j ∷ [])

-- ---- operands
abbrev pub literal : Phrase Literal
literal = choice
    (number >>= λ d. pure (literals.Number d))
    (choice
    (text >>= λ t. pure (literals.Word t.0))
    (choice
    (word words.True >> pure (literals.Truth true))
    (word words.False >> pure (literals.Truth false))))

abbrev pub operand : Phrase Operand
operand = choice
    (path >>= λ p. pure (operands.Path p.0))
    (literal >>= λ l. pure (operands.Value l))

abbrev pub more_literals : ℕ → List Literal → Phrase (List Literal)
more_literals zero ls = pure ls
more_literals (suc k) ls = do
  mark marks.Comma
  l ← literal
  more_literals k (ls ++ l ∷ [])

abbrev pub literal_list : Phrase (List Literal)
literal_list = some_number (λ k. do
  mark marks.OpenList
  l ← literal
  ls ← more_literals k (l ∷ [])
  mark marks.CloseList
  pure ls)

-- ---- conditions
abbrev pub comparison : Phrase Condition
comparison = do
  left ← operand
  choice
      (do
        c ← compare_mark
        right ← operand
        pure (compared left c right))
      (choice
      (word words.In >> (literal_list >>= λ ls. pure (among left ls)))
      (word words.Nin >> (literal_list >>= λ ls. pure (not_among left ls))))

abbrev pub kind_test : Phrase Condition
kind_test = do
  kind ← kind_word
  mark marks.Open
  p ← path
  mark marks.Close
  pure (is_kind kind p.0)

abbrev pub part_test : Phrase Condition
part_test = do
  kind ← part_word
  mark marks.Open
  whole ← operand
  mark marks.Comma
  part ← operand
  mark marks.Close
  pure (has_part kind whole part)

-- The name `exact`, in any letters.
abbrev pub exact : Phrase (Unit {0})
exact = do
  name ← alias
  only_if (same_letters name.1 (codes "exact"))
  pure tt

-- The identifier of a model that is not reserved, and `exact`, if it stands there.
abbrev pub model_and_exact : Option (List ℕ) → Phrase Condition
model_and_exact twin = do
  t ← text
  model ← only_some t.1
  exactly ← choice (mark marks.Comma >> (exact >> pure true)) (pure false)
  mark marks.Close
  pure (of_model twin model exactly)

abbrev pub model_test : Phrase Condition
model_test = do
  name ← word words.OfModel
  mark marks.Open
  choice
      (do
        twin ← alias
        note_use twin referents.Model
        mark marks.Comma
        model_and_exact (Some twin.1))
      (do
        note_use name referents.Bare
        model_and_exact None)

abbrev pub function : Phrase Condition
function = choice kind_test (choice part_test model_test)

-- So many factors more, each behind AND; each is taken together with all before it.
abbrev pub more_factors : Phrase Condition → ℕ → Condition → Phrase Condition
more_factors factor zero c = pure c
more_factors factor (suc k) c = do
  word words.And
  f ← factor
  more_factors factor k (both c f)

abbrev pub term : Phrase Condition → Phrase Condition
term factor = some_number (λ k. do
  f ← factor
  more_factors factor k f)

-- So many terms more, each behind OR; each is taken together with all before it.
abbrev pub more_terms : Phrase Condition → ℕ → Condition → Phrase Condition
more_terms factor zero c = pure c
more_terms factor (suc k) c = do
  word words.Or
  t ← term factor
  more_terms factor k (either c t)

abbrev pub terms : Phrase Condition → Phrase Condition
terms factor = some_number (λ k. do
  t ← term factor
  more_terms factor k t)

-- A factor in which so many parentheses and NOTs may be open at a place.
abbrev pub factor : ℕ → Phrase Condition
factor zero = comparison
factor (suc room) = choice comparison (choice function (choice
    (do
      word words.Not
      f ← factor room
      pure (negated f))
    (do
      mark marks.Open
      c ← terms (factor room)
      mark marks.Close
      pure c)))

-- ---- queries
abbrev pub condition_here : Phrase (Option Condition)
condition_here = choice
    (word words.Where >> (terms (factor 64) >>= λ c. pure (Some c)))
    (pure None)

abbrev pub relationships : Projection → Phrase Asked
relationships s = do
  word words.Relationships
  a ← alias_here
  c ← condition_here
  pure (record { select = s; relationships = true; alias = a; joins = []; where_ = c })

abbrev pub twins : Projection → Phrase Asked
twins s = do
  word words.Twins
  a ← alias_here
  joins ← some_number (λ k. more_joins k [])
  c ← condition_here
  pure (record { select = s; relationships = false; alias = a; joins = joins; where_ = c })

abbrev pub query : Phrase Asked
query = do
  word words.Select
  s ← select
  word words.From
  choice (relationships s) (twins s)

abbrev pub no_notes : Notes
no_notes = record { aliases = []; outputs = []; uses = [] }

-- No tokens follow, and this is asked for and noted.
abbrev pub at_end : Asked × Notes → Asked → Rest
at_end whole q n ts = (ts ≡ []) × ((q, n) ≡ whole)

-- The tokens are a query that asks for this, with these names.
abbrev pub IsQuery : List Placed → Asked × Notes → Type 0
IsQuery ts whole = query (at_end whole) no_notes ts
