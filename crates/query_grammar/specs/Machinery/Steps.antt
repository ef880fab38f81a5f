-- The state behind one more token.
use Rattle.std.specs.Prelude.{ℕ, suc, zero, List, [], ◌∷◌, ◌++◌, length, ◌==◌, nat_lt, Bool, true, false, Option, Some, None, if◌then◌else◌, codes}
use Rattle.dt_base.specs.names.Grammar.{Identifier}
use Rattle.json_decimal.specs.Decimals.{number_of}
use Rattle.query_terms.specs.declared.operand.Operand.{Operand}
use Rattle.query_terms.specs.declared.operand.Operand.TheVariants as operands
use Rattle.query_terms.specs.declared.operand.Literal.{Literal}
use Rattle.query_terms.specs.declared.operand.Literal.TheVariants as literals
use Rattle.query_terms.specs.declared.query.Projection.{Projection}
use Rattle.query_terms.specs.declared.query.Projection.TheVariants as projections
use Rattle.query_terms.specs.declared.query.Item.{Item}
use Rattle.query_terms.specs.Conditions.{Condition, either, both, negated, compared, among, not_among, is_kind, has_part, of_model}
use Rattle.query_terms.specs.Queries.{Asked}
use Rattle.query_terms.specs.tokens.Words.{same_letters}
use Rattle.query_terms.specs.declared.tokens.token.Word.TheVariants as words
use Rattle.query_terms.specs.declared.tokens.token.Word.{Word}
use Rattle.query_terms.specs.declared.tokens.token.Mark.{Mark}
use Rattle.query_terms.specs.declared.tokens.token.Mark.TheVariants as marks
use Rattle.query_terms.specs.declared.tokens.token.Token.{Token}
use Rattle.query_terms.specs.declared.tokens.token.Token.TheVariants as tokens
use Rattle.query_grammar.specs.declared.names.Notes.{Notes}
use Rattle.query_grammar.specs.declared.names.Referent.{Referent}
use Rattle.query_grammar.specs.declared.names.Referent.TheVariants as referents
use Rattle.query_grammar.specs.declared.state.State.{State}
use Rattle.query_grammar.specs.declared.state.State.TheVariants as states
use Rattle.query_grammar.specs.declared.state.Head.{Head}
use Rattle.query_grammar.specs.declared.state.Chain.{Chain}
use Rattle.query_grammar.specs.declared.state.Around.{Around}
use Rattle.query_grammar.specs.declared.state.Goal.{Goal}
use Rattle.query_grammar.specs.declared.state.Goal.TheVariants as goals
use Rattle.query_grammar.specs.Phrases.{PlacedName, word_number, mark_number}
use Rattle.query_grammar.specs.Grammar.{top_size, no_notes}

abbrev pub when : Bool → State → Option State
when b s = if b then Some s else None

abbrev pub noting_alias : Notes → PlacedName → Notes
noting_alias n s = record n { aliases = n.aliases ++ s ∷ [] }

abbrev pub noting_output : Notes → PlacedName → Notes
noting_output n s = record n { outputs = n.outputs ++ s ∷ [] }

abbrev pub noting_use : Notes → PlacedName → Referent → Notes
noting_use n s referent = record n { uses = n.uses ++ (record { placed = s; referent = referent }) ∷ [] }

-- ---- tests
abbrev pub is_dot : Token → Bool
is_dot (tokens.Mark marks.Dot) = true
is_dot other = false

abbrev pub is_as : Token → Bool
is_as (tokens.Name words.As name) = true
is_as other = false

-- ---- what is selected
abbrev pub start_step : Token → Option State
start_step (tokens.Name words.Select name) = Some states.Select
start_step other = None

-- the first name of the path of an item
abbrev pub item_begun : Notes → Option ℕ → List Item → ℕ → List ℕ → State
item_begun n top items at name = states.ItemPath (noting_use n (at, name) referents.Path) top items (name ∷ []) (at, name)

abbrev pub select_step : ℕ → Token → Option State
select_step at (tokens.Name words.Count name) = Some states.CountOpen
select_step at (tokens.Name words.Top name) = Some states.TopOpen
select_step at (tokens.Name words.Alias name) = Some (item_begun no_notes None [] at name)
select_step at (tokens.Mark marks.Star) = Some (states.BehindSelect no_notes (projections.Star None))
select_step at other = None

abbrev pub is_mark : Mark → Token → Bool
is_mark m (tokens.Mark o) = mark_number m == mark_number o
is_mark m (tokens.Name v name) = false
is_mark m (tokens.Number d) = false
is_mark m (tokens.Text t o) = false

abbrev pub is_word : Word → Token → Bool
is_word w (tokens.Name v name) = word_number w == word_number v
is_word w (tokens.Mark o) = false
is_word w (tokens.Number d) = false
is_word w (tokens.Text t o) = false

abbrev pub top_closed : Option ℕ → Option State
top_closed (Some size) = Some (states.TopClose size)
top_closed None = None

abbrev pub top_number_step : Token → Option State
top_number_step (tokens.Number d) = top_closed (top_size (number_of d))
top_number_step other = None

abbrev pub behind_top_step : ℕ → ℕ → Token → Option State
behind_top_step size at (tokens.Name words.From name) = Some (states.Source no_notes (projections.Star (Some size)))
behind_top_step size at (tokens.Name words.Alias name) = Some (item_begun no_notes (Some size) [] at name)
behind_top_step size at (tokens.Mark marks.Star) = Some (states.BehindSelect no_notes (projections.Star (Some size)))
behind_top_step size at other = None

abbrev pub item_start_step : Notes → Option ℕ → List Item → ℕ → Token → Option State
item_start_step n top items at (tokens.Name words.Alias name) = Some (item_begun n top items at name)
item_start_step n top items at other = None

abbrev pub behind_item_step : Notes → Option ℕ → List Item → Token → Option State
behind_item_step n top items (tokens.Name words.From name) = Some (states.Source n (projections.Items top items))
behind_item_step n top items (tokens.Mark marks.Comma) = when (nat_lt (length items) 20) (states.ItemStart n top items)
behind_item_step n top items other = None

abbrev pub item_path_step : Notes → Option ℕ → List Item → List (List ℕ) → PlacedName → Token → Option State
item_path_step n top items path last t =
    if is_dot t then Some (states.ItemField n top items path)
    else if is_as t then Some (states.ItemAs n top items path)
    else behind_item_step (noting_output n last) top (items ++ (record { path = path; out = last.1 }) ∷ []) t

abbrev pub item_field_step : Notes → Option ℕ → List Item → List (List ℕ) → ℕ → Token → Option State
item_field_step n top items path at (tokens.Name v name) = Some (states.ItemPath n top items (path ++ name ∷ []) (at, name))
item_field_step n top items path at other = None

abbrev pub item_as_step : Notes → Option ℕ → List Item → List (List ℕ) → ℕ → Token → Option State
item_as_step n top items path at (tokens.Name words.Alias name) =
    Some (states.BehindItem (noting_output n (at, name)) top (items ++ (record { path = path; out = name }) ∷ []))
item_as_step n top items path at other = None

-- ---- where rows come from
abbrev pub fresh_chain : ℕ → Chain
fresh_chain room = record { either = None; both = None; nots = 0; room = room }

-- the condition begins
abbrev pub condition_begun : Notes → Head → State
condition_begun n h = states.Factor n (record { head = h; chain = fresh_chain 64; chains = []; room = 64 })

abbrev pub source_step : Notes → Projection → Token → Option State
source_step n p (tokens.Name words.Relationships name) = Some (states.RelationshipsAlias n p)
source_step n p (tokens.Name words.Twins name) = Some (states.TwinsAlias n p)
source_step n p other = None

abbrev pub head_of : Projection → Bool → Option (List ℕ) → Head
head_of p relationships alias = record { select = p; relationships = relationships; alias = alias; joins = [] }

abbrev pub relationships_alias_step : Notes → Projection → ℕ → Token → Option State
relationships_alias_step n p at (tokens.Name words.Alias name) =
    Some (states.BehindRelationships (noting_alias n (at, name)) (head_of p true (Some name)))
relationships_alias_step n p at (tokens.Name words.Where name) = Some (condition_begun n (head_of p true None))
relationships_alias_step n p at other = None

abbrev pub behind_relationships_step : Notes → Head → Token → Option State
behind_relationships_step n h (tokens.Name words.Where name) = Some (condition_begun n h)
behind_relationships_step n h other = None

abbrev pub twins_alias_step : Notes → Projection → ℕ → Token → Option State
twins_alias_step n p at (tokens.Name words.Alias name) =
    Some (states.BehindTwins (noting_alias n (at, name)) (head_of p false (Some name)))
twins_alias_step n p at (tokens.Name words.Join name) = Some (states.JoinTarget n (head_of p false None))
twins_alias_step n p at (tokens.Name words.Where name) = Some (condition_begun n (head_of p false None))
twins_alias_step n p at other = None

abbrev pub behind_twins_step : Notes → Head → Token → Option State
behind_twins_step n h (tokens.Name words.Join name) = Some (states.JoinTarget n h)
behind_twins_step n h (tokens.Name words.Where name) = Some (condition_begun n h)
behind_twins_step n h other = None

abbrev pub join_target_step : Notes → Head → ℕ → Token → Option State
join_target_step n h at (tokens.Name words.Alias name) = Some (states.JoinRelated (noting_alias n (at, name)) h name)
join_target_step n h at other = None

abbrev pub join_source_step : Notes → Head → List ℕ → ℕ → Token → Option State
join_source_step n h target at (tokens.Name words.Alias name) =
    Some (states.JoinDot (noting_use n (at, name) (referents.Source (length h.joins))) h target name)
join_source_step n h target at other = None

abbrev pub join_name_step : Notes → Head → List ℕ → List ℕ → Token → Option State
join_name_step n h target source (tokens.Name v name) = Some (states.JoinAlias n h target source name)
join_name_step n h target source other = None

-- one join more
abbrev pub with_join : Head → List ℕ → List ℕ → List ℕ → Option (List ℕ) → Head
with_join h target source name rel = record h { joins = h.joins ++ (record { target = target; from = source; name = name; rel = rel }) ∷ [] }

abbrev pub join_alias_step : Notes → Head → List ℕ → List ℕ → List ℕ → ℕ → Token → Option State
join_alias_step n h target source name at (tokens.Name words.Alias rel) =
    Some (states.BehindTwins (noting_alias n (at, rel)) (with_join h target source name (Some rel)))
join_alias_step n h target source name at (tokens.Name words.Join w) = Some (states.JoinTarget n (with_join h target source name None))
join_alias_step n h target source name at (tokens.Name words.Where w) = Some (condition_begun n (with_join h target source name None))
join_alias_step n h target source name at other = None

-- ---- conditions
abbrev pub with_both : Option Condition → Condition → Condition
with_both None c = c
with_both (Some before) c = both before c

abbrev pub with_either : Option Condition → Condition → Condition
with_either None c = c
with_either (Some before) c = either before c

abbrev pub negations : ℕ → Condition → Condition
negations zero c = c
negations (suc k) c = negations k (negated c)

-- behind a whole factor
abbrev pub closed : Notes → Around → Condition → State
closed n a f =
    states.BehindFactor n a.head a.chain.either (with_both a.chain.both (negations a.chain.nots f)) a.chains a.chain.room

-- where a parenthesis or a NOT may still be opened
abbrev pub with_room : ℕ → (ℕ → State) → Option State
with_room zero s = None
with_room (suc room) s = Some (s room)

abbrev pub negating : Around → ℕ → Around
negating a room = record { head = a.head; chain = record { either = a.chain.either; both = a.chain.both; nots = suc a.chain.nots; room = a.chain.room }; chains = a.chains; room = room }

abbrev pub inside : Around → ℕ → Around
inside a room = record { head = a.head; chain = fresh_chain room; chains = a.chain ∷ a.chains; room = room }

abbrev pub path_begun : Notes → Around → Goal → ℕ → List ℕ → State
path_begun n a g at name = states.Path (noting_use n (at, name) referents.Path) a g (name ∷ [])

abbrev pub factor_step : Notes → Around → ℕ → Token → Option State
factor_step n a at (tokens.Name words.Not name) = with_room a.room (λ room. states.Factor n (negating a room))
factor_step n a at (tokens.Mark marks.Open) = with_room a.room (λ room. states.Factor n (inside a room))
factor_step n a at (tokens.Name (words.Is kind) name) = with_room a.room (λ _. states.FunctionOpen n a (goals.Is kind))
factor_step n a at (tokens.Name (words.Part kind) name) = with_room a.room (λ _. states.FunctionOpen n a (goals.First kind))
factor_step n a at (tokens.Name words.OfModel name) = with_room a.room (λ _. states.ModelOpen n a (at, name))
factor_step n a at (tokens.Name words.Alias name) = Some (path_begun n a goals.Left at name)
factor_step n a at (tokens.Name words.True name) = Some (states.Behind n a goals.Left (operands.Value (literals.Truth true)))
factor_step n a at (tokens.Name words.False name) = Some (states.Behind n a goals.Left (operands.Value (literals.Truth false)))
factor_step n a at (tokens.Number d) = Some (states.Behind n a goals.Left (operands.Value (literals.Number d)))
factor_step n a at (tokens.Text t m) = Some (states.Behind n a goals.Left (operands.Value (literals.Word t)))
factor_step n a at other = None

abbrev pub takes_literal : Goal → Bool
takes_literal (goals.Is kind) = false
takes_literal other = true

abbrev pub literal_step : Notes → Around → Goal → Literal → Option State
literal_step n a g l = when (takes_literal g) (states.Behind n a g (operands.Value l))

abbrev pub operand_step : Notes → Around → Goal → ℕ → Token → Option State
operand_step n a g at (tokens.Name words.Alias name) = Some (path_begun n a g at name)
operand_step n a g at (tokens.Name words.True name) = literal_step n a g (literals.Truth true)
operand_step n a g at (tokens.Name words.False name) = literal_step n a g (literals.Truth false)
operand_step n a g at (tokens.Number d) = literal_step n a g (literals.Number d)
operand_step n a g at (tokens.Text t m) = literal_step n a g (literals.Word t)
operand_step n a g at other = None

-- behind a parenthesis that closes
abbrev pub left_chain : Notes → Head → List Chain → Condition → Option State
left_chain n h [] c = None
left_chain n h (chain ∷ chains) c = Some (closed n (record { head = h; chain = chain; chains = chains; room = chain.room }) c)

abbrev pub behind_factor_step : Notes → Head → Option Condition → Condition → List Chain → ℕ → Token → Option State
behind_factor_step n h before c chains room (tokens.Name words.And name) =
    Some (states.Factor n (record { head = h; chain = record { either = before; both = Some c; nots = 0; room = room }; chains = chains; room = room }))
behind_factor_step n h before c chains room (tokens.Name words.Or name) =
    Some (states.Factor n (record { head = h; chain = record { either = Some (with_either before c); both = None; nots = 0; room = room }; chains = chains; room = room }))
behind_factor_step n h before c chains room (tokens.Mark marks.Close) = left_chain n h chains (with_either before c)
behind_factor_step n h before c chains room other = None

-- a token behind a whole factor
abbrev pub closed_step : Notes → Around → Condition → Token → Option State
closed_step n a f t =
    behind_factor_step n a.head a.chain.either (with_both a.chain.both (negations a.chain.nots f)) a.chains a.chain.room t

abbrev pub behind_left_step : Notes → Around → Operand → Token → Option State
behind_left_step n a o (tokens.Mark (marks.Compare compare)) = Some (states.Operand n a (goals.Right o compare))
behind_left_step n a o (tokens.Name words.In name) = Some (states.ListOpen n a o true)
behind_left_step n a o (tokens.Name words.Nin name) = Some (states.ListOpen n a o false)
behind_left_step n a o other = None

-- the path of an operand, and none for a literal
abbrev pub operand_path : Operand → List (List ℕ)
operand_path (operands.Path path) = path
operand_path (operands.Value l) = []

abbrev pub behind_step : Notes → Around → Goal → Operand → Token → Option State
behind_step n a goals.Left o t = behind_left_step n a o t
behind_step n a (goals.Right left compare) o t = closed_step n a (compared left compare o) t
behind_step n a (goals.Is kind) o t = when (is_mark marks.Close t) (closed n a (is_kind kind (operand_path o)))
behind_step n a (goals.First kind) o t = when (is_mark marks.Comma t) (states.Operand n a (goals.Second kind o))
behind_step n a (goals.Second kind first) o t = when (is_mark marks.Close t) (closed n a (has_part kind first o))

abbrev pub path_step : Notes → Around → Goal → List (List ℕ) → Token → Option State
path_step n a g path t = if is_dot t then Some (states.Field n a g path) else behind_step n a g (operands.Path path) t

abbrev pub field_step : Notes → Around → Goal → List (List ℕ) → Token → Option State
field_step n a g path (tokens.Name v name) = Some (states.Path n a g (path ++ name ∷ []))
field_step n a g path other = None

abbrev pub one_literal_more : Notes → Around → Operand → Bool → List Literal → Literal → State
one_literal_more n a o within ls l = states.BehindListItem n a o within (ls ++ l ∷ [])

abbrev pub list_item_step : Notes → Around → Operand → Bool → List Literal → Token → Option State
list_item_step n a o within ls (tokens.Name words.True name) = Some (one_literal_more n a o within ls (literals.Truth true))
list_item_step n a o within ls (tokens.Name words.False name) = Some (one_literal_more n a o within ls (literals.Truth false))
list_item_step n a o within ls (tokens.Number d) = Some (one_literal_more n a o within ls (literals.Number d))
list_item_step n a o within ls (tokens.Text t m) = Some (one_literal_more n a o within ls (literals.Word t))
list_item_step n a o within ls other = None

abbrev pub membership : Bool → Operand → List Literal → Condition
membership true o ls = among o ls
membership false o ls = not_among o ls

abbrev pub behind_list_item_step : Notes → Around → Operand → Bool → List Literal → Token → Option State
behind_list_item_step n a o within ls (tokens.Mark marks.Comma) = Some (states.ListItem n a o within ls)
behind_list_item_step n a o within ls (tokens.Mark marks.CloseList) = Some (closed n a (membership within o ls))
behind_list_item_step n a o within ls other = None

abbrev pub model_start_step : Notes → Around → PlacedName → ℕ → Token → Option State
model_start_step n a placed at (tokens.Name words.Alias name) = Some (states.ModelComma (noting_use n (at, name) referents.Model) a name)
model_start_step n a placed at (tokens.Text t (Some model)) = Some (states.BehindModel (noting_use n placed referents.Bare) a None model)
model_start_step n a placed at other = None

abbrev pub model_text_step : Notes → Around → Option (List ℕ) → Token → Option State
model_text_step n a twin (tokens.Text t (Some model)) = Some (states.BehindModel n a twin model)
model_text_step n a twin other = None

abbrev pub behind_model_step : Notes → Around → Option (List ℕ) → Identifier → Token → Option State
behind_model_step n a twin model (tokens.Mark marks.Comma) = Some (states.Exact n a twin model)
behind_model_step n a twin model (tokens.Mark marks.Close) = Some (closed n a (of_model twin model false))
behind_model_step n a twin model other = None

abbrev pub exact_step : Notes → Around → Option (List ℕ) → Identifier → Token → Option State
exact_step n a twin model (tokens.Name words.Alias name) = when (same_letters name (codes "exact")) (states.ModelClose n a twin model)
exact_step n a twin model other = None

-- ---- one token, and the end
abbrev pub step : State → ℕ → Token → Option State
step states.Start at t = start_step t
step states.Select at t = select_step at t
step states.CountOpen at t = when (is_mark marks.Open t) states.CountClose
step states.CountClose at t = when (is_mark marks.Close t) (states.BehindSelect no_notes projections.Count)
step states.TopOpen at t = when (is_mark marks.Open t) states.TopNumber
step states.TopNumber at t = top_number_step t
step (states.TopClose size) at t = when (is_mark marks.Close t) (states.BehindTop size)
step (states.BehindTop size) at t = behind_top_step size at t
step (states.BehindSelect n p) at t = when (is_word words.From t) (states.Source n p)
step (states.ItemStart n top items) at t = item_start_step n top items at t
step (states.ItemPath n top items path last) at t = item_path_step n top items path last t
step (states.ItemField n top items path) at t = item_field_step n top items path at t
step (states.ItemAs n top items path) at t = item_as_step n top items path at t
step (states.BehindItem n top items) at t = behind_item_step n top items t
step (states.Source n p) at t = source_step n p t
step (states.RelationshipsAlias n p) at t = relationships_alias_step n p at t
step (states.BehindRelationships n h) at t = behind_relationships_step n h t
step (states.TwinsAlias n p) at t = twins_alias_step n p at t
step (states.BehindTwins n h) at t = behind_twins_step n h t
step (states.JoinTarget n h) at t = join_target_step n h at t
step (states.JoinRelated n h target) at t = when (is_word words.Related t) (states.JoinSource n h target)
step (states.JoinSource n h target) at t = join_source_step n h target at t
step (states.JoinDot n h target source) at t = when (is_mark marks.Dot t) (states.JoinName n h target source)
step (states.JoinName n h target source) at t = join_name_step n h target source t
step (states.JoinAlias n h target source name) at t = join_alias_step n h target source name at t
step (states.Factor n a) at t = factor_step n a at t
step (states.FunctionOpen n a g) at t = when (is_mark marks.Open t) (states.Operand n a g)
step (states.Operand n a g) at t = operand_step n a g at t
step (states.Path n a g path) at t = path_step n a g path t
step (states.Field n a g path) at t = field_step n a g path t
step (states.Behind n a g o) at t = behind_step n a g o t
step (states.ListOpen n a o within) at t = when (is_mark marks.OpenList t) (states.ListItem n a o within [])
step (states.ListItem n a o within ls) at t = list_item_step n a o within ls t
step (states.BehindListItem n a o within ls) at t = behind_list_item_step n a o within ls t
step (states.ModelOpen n a placed) at t = when (is_mark marks.Open t) (states.ModelStart n a placed)
step (states.ModelStart n a placed) at t = model_start_step n a placed at t
step (states.ModelComma n a twin) at t = when (is_mark marks.Comma t) (states.ModelText n a (Some twin))
step (states.ModelText n a twin) at t = model_text_step n a twin t
step (states.BehindModel n a twin model) at t = behind_model_step n a twin model t
step (states.Exact n a twin model) at t = exact_step n a twin model t
step (states.ModelClose n a twin model) at t = when (is_mark marks.Close t) (closed n a (of_model twin model true))
step (states.BehindFactor n h before c chains room) at t = behind_factor_step n h before c chains room t

abbrev pub asked_of : Head → Option Condition → Asked
asked_of h c = record { select = h.select; relationships = h.relationships; alias = h.alias; joins = h.joins; where_ = c }

-- behind a factor that nothing follows
abbrev pub end_of_chain : Notes → Head → Option Condition → Condition → List Chain → Option (Asked × Notes)
end_of_chain n h before c [] = Some (asked_of h (Some (with_either before c)), n)
end_of_chain n h before c (chain ∷ chains) = None

abbrev pub end_closed : Notes → Around → Condition → Option (Asked × Notes)
end_closed n a f = end_of_chain n a.head a.chain.either (with_both a.chain.both (negations a.chain.nots f)) a.chains

abbrev pub end_behind : Notes → Around → Goal → Operand → Option (Asked × Notes)
end_behind n a (goals.Right left compare) o = end_closed n a (compared left compare o)
end_behind n a other o = None

-- what is asked for, where the query may end here
abbrev pub end : State → Option (Asked × Notes)
end (states.RelationshipsAlias n p) = Some (asked_of (head_of p true None) None, n)
end (states.BehindRelationships n h) = Some (asked_of h None, n)
end (states.TwinsAlias n p) = Some (asked_of (head_of p false None) None, n)
end (states.BehindTwins n h) = Some (asked_of h None, n)
end (states.JoinAlias n h target source name) = Some (asked_of (with_join h target source name None) None, n)
end (states.Path n a g path) = end_behind n a g (operands.Path path)
end (states.Behind n a g o) = end_behind n a g o
end (states.BehindFactor n h before c chains room) = end_of_chain n h before c chains
end other = None
