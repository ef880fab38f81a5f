-- In every state some tokens may remain, of these that stand at the byte 0.
use Rattle.std.proofs.Common.{lit<, arith, rules, ◌≡◌, ℕ, zero, inr, List, [], ◌∷◌, ◌++◌, length, map, Bool, true, false, Option, Some, None, refl, sym, subst}
use Rattle.std.specs.Prelude.{codes}
use Rattle.dt_base.specs.names.Grammar.{Identifier}
use Rattle.query_terms.specs.declared.operand.Operand.{Operand}
use Rattle.query_terms.specs.declared.operand.Operand.TheVariants as operands
use Rattle.query_terms.specs.declared.operand.Literal.{Literal}
use Rattle.query_terms.specs.declared.operand.Literal.TheVariants as literals
use Rattle.query_terms.specs.declared.query.Projection.{Projection}
use Rattle.query_terms.specs.declared.query.Projection.TheVariants as projections
use Rattle.query_terms.specs.declared.query.Item.{Item}
use Rattle.query_terms.specs.Conditions.{Condition, compared, is_kind, has_part, of_model}
use Rattle.query_terms.specs.declared.tokens.token.Word.TheVariants as words
use Rattle.query_terms.specs.declared.tokens.token.Mark.TheVariants as marks
use Rattle.query_terms.specs.declared.tokens.token.Token.{Token}
use Rattle.query_terms.specs.declared.tokens.token.Token.TheVariants as tokens
use Rattle.query_grammar.specs.declared.names.Notes.{Notes}
use Rattle.query_grammar.specs.declared.state.State.{State}
use Rattle.query_grammar.specs.declared.state.State.TheVariants as states
use Rattle.query_grammar.specs.declared.state.Head.{Head}
use Rattle.query_grammar.specs.declared.state.Chain.{Chain}
use Rattle.query_grammar.specs.declared.state.Around.{Around}
use Rattle.query_grammar.specs.declared.state.Goal.{Goal}
use Rattle.query_grammar.specs.declared.state.Goal.TheVariants as goals
use Rattle.query_grammar.specs.Phrases.{Placed, PlacedName}
use Rattle.query_grammar.specs.Grammar.{no_notes}
use Rattle.query_grammar.specs.Machinery.Steps.{noting_output, noting_alias, operand_path, step, asked_of, head_of, with_join, closed, membership, noting_use, with_both, with_either, negations}
use Rattle.query_grammar.specs.Machinery.Remains.{Whole, Remains, Follows}
use Rattle.std.specs.Prelude.{pos, neg_ℤ, ◌≤ℤ◌}
use Rattle.json_decimal.specs.declared.decimal.Decimal.{Decimal}
use Rattle.query_terms.specs.declared.operand.Compare.TheVariants as compares
use Rattle.query_grammar.specs.declared.names.Referent.TheVariants as referents
use Rattle.query_grammar.proofs.Backward.{backward}

pub data Simple : Type 0 where
  a_select : Simple
  a_star : Simple
  a_from : Simple
  twins_word : Simple
  an_alias : Simple
  an_exact : Simple
  a_related : Simple
  a_true : Simple
  an_open : Simple
  a_close : Simple
  a_comma : Simple
  a_dot : Simple
  an_equals : Simple
  open_list : Simple
  close_list : Simple
  a_one : Simple
  a_model : Simple

pub one_least : neg_ℤ (pos 900) ≤ℤ pos 0
one_least = search rules

pub one_most : pos 0 ≤ℤ pos 900
one_most = search rules

abbrev pub one : Decimal
one = record { high = 0; low = 1; exponent = pos 0; negative = false; bounded = lit< tt; trimmed = λ e. e; least = one_least; most = one_most; zero = λ e. absurd (omega (arith, e)) }

abbrev pub model : Identifier
model = record { segments = (97 ∷ []) ∷ []; version = 1 }

abbrev pub token_of : Simple → Token
token_of a_select = tokens.Name words.Select (codes "SELECT")
token_of a_star = tokens.Mark marks.Star
token_of a_from = tokens.Name words.From (codes "FROM")
token_of twins_word = tokens.Name words.Twins (codes "DIGITALTWINS")
token_of an_alias = tokens.Name words.Alias (codes "a")
token_of an_exact = tokens.Name words.Alias (codes "exact")
token_of a_related = tokens.Name words.Related (codes "RELATED")
token_of a_true = tokens.Name words.True (codes "TRUE")
token_of an_open = tokens.Mark marks.Open
token_of a_close = tokens.Mark marks.Close
token_of a_comma = tokens.Mark marks.Comma
token_of a_dot = tokens.Mark marks.Dot
token_of an_equals = tokens.Mark (marks.Compare compares.Same)
token_of open_list = tokens.Mark marks.OpenList
token_of close_list = tokens.Mark marks.CloseList
token_of a_one = tokens.Number one
token_of a_model = tokens.Text (codes "dtmi:a;1") (Some model)

abbrev pub placed : Simple → Placed
placed x = (0, token_of x)

pub record Live (s : State) : Type 0 where
  pub rest : List Simple
  pub whole : Whole
  pub remains : Remains s (map placed rest) whole

at_once : (s : State) (w : Whole) → Remains s [] w → Live s
at_once s w h = record { rest = []; whole = w; remains = h }

via : (s u : State) (x : Simple) → step s 0 (token_of x) ≡ Some u → Live u → Live s
via s u x e live = record {
  rest = x ∷ live.rest;
  whole = live.whole;
  remains = backward s 0 (token_of x) (map placed live.rest) live.whole (subst (λ (o : Option State). Follows o (map placed live.rest) live.whole) (sym e) live.remains);
}

-- ---- where rows come from
live-twins_alias : (n : Notes) (p : Projection) → Live (states.TwinsAlias n p)
live-twins_alias n p = at_once _ (asked_of (head_of p false None) None, n) (inr (zero, inr (refl, refl)))

live-relationships_alias : (n : Notes) (p : Projection) → Live (states.RelationshipsAlias n p)
live-relationships_alias n p = at_once _ (asked_of (head_of p true None) None, n) (inr (inr (refl, refl)))

live-behind_twins : (n : Notes) (d : Head) → Live (states.BehindTwins n d)
live-behind_twins n d = at_once _ (asked_of d None, n) (zero, inr (refl, refl))

live-behind_relationships : (n : Notes) (d : Head) → Live (states.BehindRelationships n d)
live-behind_relationships n d = at_once _ (asked_of d None, n) (inr (refl, refl))

live-join_alias : (n : Notes) (d : Head) (target source name : List ℕ) → Live (states.JoinAlias n d target source name)
live-join_alias n d target source name = at_once _ (asked_of (with_join d target source name None) None, n) (zero, inr (inr (refl, refl)))

live-join_name : (n : Notes) (d : Head) (target source : List ℕ) → Live (states.JoinName n d target source)
live-join_name n d target source = via _ _ an_alias refl (live-join_alias n d target source (codes "a"))

live-join_dot : (n : Notes) (d : Head) (target source : List ℕ) → Live (states.JoinDot n d target source)
live-join_dot n d target source = via _ _ a_dot refl (live-join_name n d target source)

live-join_source : (n : Notes) (d : Head) (target : List ℕ) → Live (states.JoinSource n d target)
live-join_source n d target = via _ _ an_alias refl (live-join_dot (noting_use n (0, codes "a") (referents.Source (length d.joins))) d target (codes "a"))

live-join_related : (n : Notes) (d : Head) (target : List ℕ) → Live (states.JoinRelated n d target)
live-join_related n d target = via _ _ a_related refl (live-join_source n d target)

live-join_target : (n : Notes) (d : Head) → Live (states.JoinTarget n d)
live-join_target n d = via _ _ an_alias refl (live-join_related (noting_alias n (0, codes "a")) d (codes "a"))

live-source : (n : Notes) (p : Projection) → Live (states.Source n p)
live-source n p = via _ _ twins_word refl (live-twins_alias n p)

-- ---- what is selected
live-behind_select : (n : Notes) (p : Projection) → Live (states.BehindSelect n p)
live-behind_select n p = via _ _ a_from refl (live-source n p)

live-behind_item : (n : Notes) (top : Option ℕ) (items : List Item) → Live (states.BehindItem n top items)
live-behind_item n top items = via _ _ a_from refl (live-source n (projections.Items top items))

live-item_as : (n : Notes) (top : Option ℕ) (items : List Item) (path : List (List ℕ)) → Live (states.ItemAs n top items path)
live-item_as n top items path = via _ _ an_alias refl (live-behind_item (noting_output n (0, codes "a")) top (items ++ (record { path = path; out = codes "a" }) ∷ []))

live-item_path : (n : Notes) (top : Option ℕ) (items : List Item) (path : List (List ℕ)) (last : PlacedName) → Live (states.ItemPath n top items path last)
live-item_path n top items path last =
    via _ _ a_from refl (live-source (noting_output n last) (projections.Items top (items ++ (record { path = path; out = last.1 }) ∷ [])))

live-item_field : (n : Notes) (top : Option ℕ) (items : List Item) (path : List (List ℕ)) → Live (states.ItemField n top items path)
live-item_field n top items path = via _ _ an_alias refl (live-item_path n top items (path ++ codes "a" ∷ []) (0, codes "a"))

live-item_start : (n : Notes) (top : Option ℕ) (items : List Item) → Live (states.ItemStart n top items)
live-item_start n top items = via _ _ an_alias refl (live-item_path (noting_use n (0, codes "a") referents.Path) top items (codes "a" ∷ []) (0, codes "a"))

live-behind_top : (size : ℕ) → Live (states.BehindTop size)
live-behind_top size = via _ _ a_from refl (live-source no_notes (projections.Star (Some size)))

live-top_close : (size : ℕ) → Live (states.TopClose size)
live-top_close size = via _ _ a_close refl (live-behind_top size)

live-top_number : Live states.TopNumber
live-top_number = via states.TopNumber (states.TopClose 1) a_one refl (live-top_close 1)

-- ---- conditions
live-behind_factor : (n : Notes) (d : Head) (before : Option Condition) (c : Condition) (chains : List Chain) (room : ℕ) → Live (states.BehindFactor n d before c chains room)
live-behind_factor n d before c [] room = at_once _ (asked_of d (Some (with_either before c)), n) (zero, (zero, ([], (refl, refl))))
live-behind_factor n d before c (chain ∷ chains) room =
    via _ _ a_close refl (live-behind_factor n d chain.either (with_both chain.both (negations chain.nots (with_either before c))) chains chain.room)

live-closed : (n : Notes) (a : Around) (c : Condition) → Live (closed n a c)
live-closed n a c = live-behind_factor n a.head a.chain.either (with_both a.chain.both (negations a.chain.nots c)) a.chains a.chain.room

a_value : Operand
a_value = operands.Value (literals.Truth true)

live-behind : (n : Notes) (a : Around) (g : Goal) (o : Operand) → Live (states.Behind n a g o)
unfolding a_value
live-behind n a goals.Left o =
    via _ _ an_equals refl (via (states.Operand n a (goals.Right o compares.Same)) (states.Behind n a (goals.Right o compares.Same) a_value) a_true refl
    (let r = live-closed n a (compared o compares.Same a_value) in record { rest = r.rest; whole = r.whole; remains = r.remains }))
live-behind n a (goals.Right left compare) o =
    let r = live-closed n a (compared left compare o) in record { rest = r.rest; whole = r.whole; remains = r.remains }
live-behind n a (goals.Is kind) o = via _ _ a_close refl (live-closed n a (is_kind kind (operand_path o)))
live-behind n a (goals.First kind) o =
    via _ _ a_comma refl (via (states.Operand n a (goals.Second kind o)) (states.Behind n a (goals.Second kind o) a_value) a_true refl
    (via _ _ a_close refl (live-closed n a (has_part kind o a_value))))
live-behind n a (goals.Second kind whole) o = via _ _ a_close refl (live-closed n a (has_part kind whole o))

live-path : (n : Notes) (a : Around) (g : Goal) (path : List (List ℕ)) → Live (states.Path n a g path)
live-path n a g path =
    let r = live-behind n a g (operands.Path path) in
    record { rest = r.rest; whole = r.whole; remains = let h = r.remains in (h.0, (h.1.0, (h.1.1.0, (zero, ((zero, []), h.1.1.1))))) }

live-field : (n : Notes) (a : Around) (g : Goal) (path : List (List ℕ)) → Live (states.Field n a g path)
live-field n a g path = via _ _ an_alias refl (live-path n a g (path ++ codes "a" ∷ []))

live-operand : (n : Notes) (a : Around) (g : Goal) → Live (states.Operand n a g)
live-operand n a g = via _ _ an_alias refl (live-path (noting_use n (0, codes "a") referents.Path) a g (codes "a" ∷ []))

live-behind_list_item : (n : Notes) (a : Around) (o : Operand) (within : Bool) (ls : List Literal) → Live (states.BehindListItem n a o within ls)
live-behind_list_item n a o within ls = via _ _ close_list refl (live-closed n a (membership within o ls))

live-list_item : (n : Notes) (a : Around) (o : Operand) (within : Bool) (ls : List Literal) → Live (states.ListItem n a o within ls)
live-list_item n a o within ls = via _ _ a_true refl (live-behind_list_item n a o within (ls ++ literals.Truth true ∷ []))

live-model_close : (n : Notes) (a : Around) (twin : Option (List ℕ)) (m : Identifier) → Live (states.ModelClose n a twin m)
live-model_close n a twin m = via _ _ a_close refl (live-closed n a (of_model twin m true))

live-exact : (n : Notes) (a : Around) (twin : Option (List ℕ)) (m : Identifier) → Live (states.Exact n a twin m)
live-exact n a twin m = via _ _ an_exact refl (live-model_close n a twin m)

live-behind_model : (n : Notes) (a : Around) (twin : Option (List ℕ)) (m : Identifier) → Live (states.BehindModel n a twin m)
live-behind_model n a twin m = via _ _ a_close refl (live-closed n a (of_model twin m false))

live-model_text : (n : Notes) (a : Around) (twin : Option (List ℕ)) → Live (states.ModelText n a twin)
live-model_text n a twin = via _ _ a_model refl (live-behind_model n a twin model)

live-model_start : (n : Notes) (a : Around) (placed : PlacedName) → Live (states.ModelStart n a placed)
live-model_start n a placed = via _ _ a_model refl (live-behind_model (noting_use n placed referents.Bare) a None model)

pub complete : (s : State) → Live s
complete states.Start = via _ _ a_select refl (via states.Select _ a_star refl (live-behind_select no_notes (projections.Star None)))
complete states.Select = via _ _ a_star refl (live-behind_select no_notes (projections.Star None))
complete states.CountOpen = via _ _ an_open refl (via states.CountClose _ a_close refl (live-behind_select no_notes projections.Count))
complete states.CountClose = via _ _ a_close refl (live-behind_select no_notes projections.Count)
complete states.TopOpen = via _ _ an_open refl live-top_number
complete states.TopNumber = live-top_number
complete (states.TopClose size) = live-top_close size
complete (states.BehindTop size) = live-behind_top size
complete (states.BehindSelect n p) = live-behind_select n p
complete (states.ItemStart n top items) = live-item_start n top items
complete (states.ItemPath n top items path last) = live-item_path n top items path last
complete (states.ItemField n top items path) = live-item_field n top items path
complete (states.ItemAs n top items path) = live-item_as n top items path
complete (states.BehindItem n top items) = live-behind_item n top items
complete (states.Source n p) = live-source n p
complete (states.RelationshipsAlias n p) = live-relationships_alias n p
complete (states.BehindRelationships n d) = live-behind_relationships n d
complete (states.TwinsAlias n p) = live-twins_alias n p
complete (states.BehindTwins n d) = live-behind_twins n d
complete (states.JoinTarget n d) = live-join_target n d
complete (states.JoinRelated n d target) = live-join_related n d target
complete (states.JoinSource n d target) = live-join_source n d target
complete (states.JoinDot n d target source) = live-join_dot n d target source
complete (states.JoinName n d target source) = live-join_name n d target source
complete (states.JoinAlias n d target source name) = live-join_alias n d target source name
complete (states.Factor n a) = via _ _ a_true refl (live-behind n a goals.Left (operands.Value (literals.Truth true)))
complete (states.FunctionOpen n a g) = via _ _ an_open refl (live-operand n a g)
complete (states.Operand n a g) = live-operand n a g
complete (states.Path n a g path) = live-path n a g path
complete (states.Field n a g path) = live-field n a g path
complete (states.Behind n a g o) = live-behind n a g o
complete (states.ListOpen n a o within) = via _ _ open_list refl (live-list_item n a o within [])
complete (states.ListItem n a o within ls) = live-list_item n a o within ls
complete (states.BehindListItem n a o within ls) = live-behind_list_item n a o within ls
complete (states.ModelOpen n a placed) = via _ _ an_open refl (live-model_start n a placed)
complete (states.ModelStart n a placed) = live-model_start n a placed
complete (states.ModelComma n a twin) = via _ _ a_comma refl (live-model_text n a (Some twin))
complete (states.ModelText n a twin) = live-model_text n a twin
complete (states.BehindModel n a twin m) = live-behind_model n a twin m
complete (states.Exact n a twin m) = live-exact n a twin m
complete (states.ModelClose n a twin m) = live-model_close n a twin m
complete (states.BehindFactor n d before c chains room) = live-behind_factor n d before c chains room
