-- The printed form of a query, a function of what it asks for. Keywords stand in capitals. One space stands around words, and
-- none around marks; parentheses stand only where the grouping needs them.
use Rattle.std.specs.Prelude.{ℕ, ◌-◌, ◌==◌, nat_lt, length, slice_get, List, [], ◌∷◌, ◌++◌, Bool, true, false, bytes_eq, Option, Some, None, decimal, if◌then◌else◌, codes}
use Rattle.dt_base.specs.names.Grammar.{Identifier, dtmi_text}
use Rattle.json_decimal.specs.Decimals.{number_of}
use Rattle.json_decimal.specs.Printing.{text_of}
use Rattle.query_terms.specs.declared.operand.Operand.{Operand}
use Rattle.query_terms.specs.declared.operand.Operand.TheVariants as operands
use Rattle.query_terms.specs.declared.operand.Literal.{Literal}
use Rattle.query_terms.specs.declared.operand.Literal.TheVariants as literals
use Rattle.query_terms.specs.declared.cond.Kind.{Kind}
use Rattle.query_terms.specs.declared.cond.Kind.TheVariants as kinds
use Rattle.query_terms.specs.declared.cond.PartKind.{PartKind}
use Rattle.query_terms.specs.declared.cond.PartKind.TheVariants as parts
use Rattle.query_terms.specs.declared.query.Projection.{Projection}
use Rattle.query_terms.specs.declared.query.Projection.TheVariants as projections
use Rattle.query_terms.specs.declared.query.Item.{Item}
use Rattle.query_terms.specs.declared.query.Join.{Join}
use Rattle.query_terms.specs.Conditions.{Condition, either, both, negated, compared, among, not_among, is_kind, has_part, of_model}
use Rattle.query_terms.specs.Queries.{Asked}
use Rattle.query_terms.specs.declared.tokens.token.Mark.TheVariants as marks
use Rattle.query_terms.specs.tokens.Spellings.{mark_bytes}

-- ---- lists
-- Each text with these bytes before it.
abbrev pub each_behind : {A : Type 0} → List ℕ → (A → List ℕ) → List A → List ℕ
each_behind mark text [] = []
each_behind mark text (x ∷ xs) = mark ++ (text x ++ each_behind mark text xs)

-- The texts with these bytes between them.
abbrev pub separated : {A : Type 0} → List ℕ → (A → List ℕ) → List A → List ℕ
separated mark text [] = []
separated mark text (x ∷ xs) = text x ++ each_behind mark text xs

-- ---- operands
abbrev pub path_text : List (List ℕ) → List ℕ
path_text path = separated (codes ".") (λ (name : List ℕ). name) path

-- A byte of a text: `\` and `'` behind a backslash, a line feed, a carriage return and a tab as `\n`, `\r` and `\t`, and every
-- other byte as it is.
abbrev pub escaped_query_byte : ℕ → List ℕ
escaped_query_byte b =
    if b == 92 then codes "\\\\" else
    if b == 39 then codes "\\'" else
    if b == 10 then codes "\\n" else
    if b == 13 then codes "\\r" else
    if b == 9 then codes "\\t" else
    b ∷ []

abbrev pub escaped_query : List ℕ → List ℕ
escaped_query [] = []
escaped_query (b ∷ bytes) = escaped_query_byte b ++ escaped_query bytes

-- A text between quotes.
abbrev pub quoted_query : List ℕ → List ℕ
quoted_query bytes = 39 ∷ (escaped_query bytes ++ 39 ∷ [])

abbrev pub truth_text : Bool → List ℕ
truth_text true = codes "TRUE"
truth_text false = codes "FALSE"

abbrev pub literal_text : Literal → List ℕ
literal_text (literals.Number d) = text_of (number_of d)
literal_text (literals.Word word) = quoted_query word
literal_text (literals.Truth truth) = truth_text truth

abbrev pub operand_text : Operand → List ℕ
operand_text (operands.Path path) = path_text path
operand_text (operands.Value literal) = literal_text literal

-- ---- conditions
abbrev pub kind_text : Kind → List ℕ
kind_text kinds.Defined = codes "IS_DEFINED"
kind_text kinds.Null = codes "IS_NULL"
kind_text kinds.Number = codes "IS_NUMBER"
kind_text kinds.Word = codes "IS_STRING"
kind_text kinds.Truth = codes "IS_BOOL"
kind_text kinds.Object = codes "IS_OBJECT"
kind_text kinds.Primitive = codes "IS_PRIMITIVE"

abbrev pub part_text : PartKind → List ℕ
part_text parts.Starts = codes "STARTSWITH"
part_text parts.Ends = codes "ENDSWITH"
part_text parts.Contains = codes "CONTAINS"

abbrev pub list_text : List Literal → List ℕ
list_text literals = 91 ∷ (separated (codes ",") literal_text literals ++ 93 ∷ [])

unfoldable pub model_text : Identifier → List ℕ
model_text model = quoted_query (dtmi_text model)

abbrev pub twin_argument : Option (List ℕ) → List ℕ
twin_argument (Some alias) = alias ++ 44 ∷ []
twin_argument None = []

abbrev pub exact_text : Bool → List ℕ
exact_text true = codes ",exact"
exact_text false = []

abbrev pub in_parentheses : Bool → List ℕ → List ℕ
in_parentheses true text = 40 ∷ (text ++ 41 ∷ [])
in_parentheses false text = text

-- A condition where only what binds at least so strongly may stand without parentheses: OR binds at 0, AND at 1 and all else
-- at 2. AND and OR group to the left.
abbrev pub condition_text : ℕ → Condition → List ℕ
condition_text least (either l r) = in_parentheses (nat_lt 0 least) (condition_text 0 l ++ (codes " OR " ++ condition_text 1 r))
condition_text least (both l r) = in_parentheses (nat_lt 1 least) (condition_text 1 l ++ (codes " AND " ++ condition_text 2 r))
condition_text least (negated c) = codes "NOT " ++ condition_text 2 c
condition_text least (compared l compare r) = operand_text l ++ (mark_bytes (marks.Compare compare) ++ operand_text r)
condition_text least (among operand literals) = operand_text operand ++ (codes " IN " ++ list_text literals)
condition_text least (not_among operand literals) = operand_text operand ++ (codes " NIN " ++ list_text literals)
condition_text least (is_kind kind path) = kind_text kind ++ 40 ∷ (path_text path ++ 41 ∷ [])
condition_text least (has_part kind whole part) = part_text kind ++ 40 ∷ (operand_text whole ++ 44 ∷ (operand_text part ++ 41 ∷ []))
condition_text least (of_model twin model exact) =
    codes "IS_OF_MODEL(" ++ (twin_argument twin ++ (model_text model ++ (exact_text exact ++ 41 ∷ [])))

-- ---- queries
abbrev pub is_last : Option (List ℕ) → List ℕ → Bool
is_last (Some last) name = bytes_eq last name
is_last None name = false

-- The name of an item stands only where it is not the last one of its path.
abbrev pub name_text : Bool → List ℕ → List ℕ
name_text true name = []
name_text false name = codes " AS " ++ name

abbrev pub item_text : Item → List ℕ
item_text item = path_text item.path ++ name_text (is_last (slice_get item.path (length item.path - 1)) item.out) item.out

abbrev pub top_text : ℕ → List ℕ
top_text size = codes "TOP(" ++ (decimal size ++ 41 ∷ [])

-- TOP alone stands for the first rows whole.
abbrev pub select_text : Projection → List ℕ
select_text projections.Count = codes "COUNT()"
select_text (projections.Star None) = codes "*"
select_text (projections.Star (Some size)) = top_text size
select_text (projections.Items None items) = separated (codes ",") item_text items
select_text (projections.Items (Some size) items) = top_text size ++ 32 ∷ separated (codes ",") item_text items

abbrev pub alias_text : Option (List ℕ) → List ℕ
alias_text (Some alias) = 32 ∷ alias
alias_text None = []

abbrev pub join_text : Join → List ℕ
join_text join = join.target ++ (codes " RELATED " ++ (join.from ++ 46 ∷ (join.name ++ alias_text join.rel)))

abbrev pub source_text : Bool → List ℕ
source_text true = codes "RELATIONSHIPS"
source_text false = codes "DIGITALTWINS"

abbrev pub where_text : Option Condition → List ℕ
where_text (Some c) = codes " WHERE " ++ condition_text 0 c
where_text None = []

abbrev pub query_text : Asked → List ℕ
query_text q =
    codes "SELECT " ++ (select_text q.select ++ (codes " FROM " ++ (source_text q.relationships ++ (alias_text q.alias
    ++ (each_behind (codes " JOIN ") join_text q.joins ++ where_text q.where_)))))
