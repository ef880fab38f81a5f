-- What may remain from a token on remains behind it in the state that follows.
use Rattle.std.proofs.Common.{◌≡◌, ℕ, zero, suc, ◌==◌, nat_lt, inl, inr, List, [], ◌∷◌, ◌++◌, length, Bool, true, false, Option, Some, None, refl, sym, subst}
use Rattle.std.specs.Prelude.{codes}
use Rattle.dt_base.specs.names.Grammar.{Identifier}
use Rattle.json_decimal.specs.Decimals.{number_of}
use Rattle.query_terms.specs.declared.operand.Operand.{Operand}
use Rattle.query_terms.specs.declared.operand.Operand.TheVariants as operands
use Rattle.query_terms.specs.declared.operand.Literal.{Literal}
use Rattle.query_terms.specs.declared.operand.Literal.TheVariants as literals
use Rattle.query_terms.specs.declared.query.Projection.{Projection}
use Rattle.query_terms.specs.declared.query.Projection.TheVariants as projections
use Rattle.query_terms.specs.declared.query.Item.{Item}
use Rattle.query_terms.specs.Conditions.{Condition, compared, is_kind, has_part, of_model}
use Rattle.query_terms.specs.tokens.Words.{same_letters}
use Rattle.query_terms.specs.declared.tokens.token.Word.{Word}
use Rattle.query_terms.specs.declared.tokens.token.Word.TheVariants as words
use Rattle.query_terms.specs.declared.tokens.token.Mark.{Mark}
use Rattle.query_terms.specs.declared.tokens.token.Mark.TheVariants as marks
use Rattle.query_terms.specs.declared.tokens.token.Token.{Token}
use Rattle.query_terms.specs.declared.tokens.token.Token.TheVariants as tokens
use Rattle.query_grammar.specs.declared.names.Notes.{Notes}
use Rattle.query_grammar.specs.declared.state.State.{State}
use Rattle.query_grammar.specs.declared.state.State.TheVariants as states
use Rattle.query_grammar.specs.declared.state.Head.{Head}
use Rattle.query_grammar.specs.declared.state.Chain.{Chain}
use Rattle.query_grammar.specs.declared.state.Around.{Around}
use Rattle.query_grammar.specs.declared.state.Goal.{Goal}
use Rattle.query_grammar.specs.declared.state.Goal.TheVariants as goals
use Rattle.query_grammar.specs.Phrases.{Placed, PlacedName, Rest, On, choice, only_some, word_number, mark_number, word, mark, number, field}
use Rattle.query_grammar.specs.Grammar.{top_size, factor, no_notes, operand, literal, relationships, twins, at_end, model_and_exact}
use Rattle.query_grammar.specs.Machinery.Steps.{when, is_mark, is_word, noting_output, select_step, behind_top_step, top_closed, item_start_step, item_path_step, behind_item_step, source_step, relationships_alias_step, behind_relationships_step, twins_alias_step, behind_twins_step, join_alias_step, factor_step, operand_step, takes_literal, operand_path, behind_factor_step, behind_left_step, behind_step, path_step, list_item_step, behind_list_item_step, model_start_step, model_text_step, behind_model_step, step, with_both, negations}
use Rattle.query_grammar.specs.Machinery.Remains.{Whole, Remains, Follows, after_select, behind_top, operand_for, goal_rest, factor_rest, behind_related, behind_name, literals_rest, model_start}

pub on_when : (b : Bool) (P : Type 0) (s : State) (rest : List Placed) (w : Whole) → (P → Remains s rest w) → On b P → Follows (when b s) rest w
on_when true P s rest w f h = f h
on_when false P s rest w f h = h

fwd-mark : (m : Mark) (K : Unit {0} → Rest) (s : State) (n : Notes) (at : ℕ) (t : Token) (rest : List Placed) (w : Whole)
    → (K tt n rest → Remains s rest w) → mark m K n ((at, t) ∷ rest) → Follows (when (is_mark m t) s) rest w
fwd-mark m K s n at (tokens.Mark o) rest w f h = on_when (mark_number m == mark_number o) (K tt n rest) s rest w f h
fwd-mark m K s n at (tokens.Name v name) rest w f h = absurd h
fwd-mark m K s n at (tokens.Number d) rest w f h = absurd h
fwd-mark m K s n at (tokens.Text x o) rest w f h = absurd h

fwd-word : (v : Word) (K : PlacedName → Rest) (s : State) (n : Notes) (at : ℕ) (t : Token) (rest : List Placed) (w : Whole)
    → ((name : List ℕ) → K (at, name) n rest → Remains s rest w) → word v K n ((at, t) ∷ rest) → Follows (when (is_word v t) s) rest w
fwd-word v K s n at (tokens.Name o name) rest w f h = on_when (word_number v == word_number o) (K (at, name) n rest) s rest w (f name) h
fwd-word v K s n at (tokens.Mark o) rest w f h = absurd h
fwd-word v K s n at (tokens.Number d) rest w f h = absurd h
fwd-word v K s n at (tokens.Text x o) rest w f h = absurd h

-- ---- what is selected
fwd-start : (at : ℕ) (t : Token) (rest : List Placed) (w : Whole) → Remains states.Start ((at, t) ∷ rest) w → Follows (step states.Start at t) rest w
fwd-start at (tokens.Name words.Select name) rest w h = h
fwd-start at t rest w h = absurd h

fwd-select : (at : ℕ) (t : Token) (rest : List Placed) (w : Whole) → Remains states.Select ((at, t) ∷ rest) w → Follows (select_step at t) rest w
fwd-select at (tokens.Name words.Count name) rest w (inl h) = h
fwd-select at (tokens.Name words.Top name) rest w (inr (inl h)) = h
fwd-select at (tokens.Mark marks.Star) rest w (inr (inr (inl h))) = h
fwd-select at (tokens.Name words.Alias name) rest w (inr (inr (inr (k, (j, h))))) = (k, (j, h))
fwd-select at t rest w (inl h) = absurd h
fwd-select at t rest w (inr (inl h)) = absurd h
fwd-select at t rest w (inr (inr (inl h))) = absurd h
fwd-select at t rest w (inr (inr (inr (k, (j, h))))) = absurd h

fwd-size : (size : Option ℕ) (at : ℕ) (rest : List Placed) (w : Whole)
    → only_some size (λ x. mark marks.Close (λ _. behind_top w x)) no_notes rest → Follows (top_closed size) rest w
fwd-size (Some x) at rest w h = h
fwd-size None at rest w h = h

fwd-top_number : (at : ℕ) (t : Token) (rest : List Placed) (w : Whole) → Remains states.TopNumber ((at, t) ∷ rest) w → Follows (step states.TopNumber at t) rest w
fwd-top_number at (tokens.Number d) rest w h = fwd-size (top_size (number_of d)) at rest w h
fwd-top_number at t rest w h = absurd h

fwd-behind_top : (size at : ℕ) (t : Token) (rest : List Placed) (w : Whole) → Remains (states.BehindTop size) ((at, t) ∷ rest) w → Follows (behind_top_step size at t) rest w
fwd-behind_top size at (tokens.Mark marks.Star) rest w (inl (inl h)) = h
fwd-behind_top size at (tokens.Name words.Alias name) rest w (inl (inr (k, (j, h)))) = (k, (j, h))
fwd-behind_top size at (tokens.Name words.From name) rest w (inr h) = h
fwd-behind_top size at t rest w (inl (inl h)) = absurd h
fwd-behind_top size at t rest w (inl (inr (k, (j, h)))) = absurd h
fwd-behind_top size at t rest w (inr h) = absurd h

fwd-item_start : (n : Notes) (top : Option ℕ) (items : List Item) (at : ℕ) (t : Token) (rest : List Placed) (w : Whole)
    → Remains (states.ItemStart n top items) ((at, t) ∷ rest) w → Follows (item_start_step n top items at t) rest w
fwd-item_start n top items at (tokens.Name words.Alias name) rest w (k, (j, h)) = (k, (j, h))
fwd-item_start n top items at t rest w (k, (j, h)) = absurd h

fwd-behind_item : (n : Notes) (top : Option ℕ) (items : List Item) (at : ℕ) (t : Token) (rest : List Placed) (w : Whole)
    → Remains (states.BehindItem n top items) ((at, t) ∷ rest) w → Follows (behind_item_step n top items t) rest w
fwd-behind_item n top items at (tokens.Name words.From name) rest w (zero, h) = h
fwd-behind_item n top items at (tokens.Mark marks.Comma) rest w (suc k, h) =
    on_when (nat_lt (length items) 20) _ (states.ItemStart n top items) rest w (λ x. (k, x)) h
fwd-behind_item n top items at t rest w (zero, h) = absurd h
fwd-behind_item n top items at t rest w (suc k, h) = absurd h

fwd-item_path : (n : Notes) (top : Option ℕ) (items : List Item) (path : List (List ℕ)) (last : PlacedName) (at : ℕ) (t : Token) (rest : List Placed) (w : Whole)
    → Remains (states.ItemPath n top items path last) ((at, t) ∷ rest) w → Follows (item_path_step n top items path last t) rest w
fwd-item_path n top items path last at (tokens.Mark marks.Dot) rest w (k, (suc j, h)) = (k, (j, h))
fwd-item_path n top items path last at (tokens.Mark marks.Dot) rest w (k, (zero, inl h)) = absurd h
fwd-item_path n top items path last at (tokens.Mark marks.Dot) rest w (zero, (zero, inr h)) = absurd h
fwd-item_path n top items path last at (tokens.Mark marks.Dot) rest w (suc k, (zero, inr h)) = absurd h
fwd-item_path n top items path last at (tokens.Name words.As name) rest w (k, (zero, inl h)) = (k, h)
fwd-item_path n top items path last at (tokens.Name words.As name) rest w (zero, (zero, inr h)) = absurd h
fwd-item_path n top items path last at (tokens.Name words.As name) rest w (suc k, (zero, inr h)) = absurd h
fwd-item_path n top items path last at t rest w (k, (zero, inr h)) =
    fwd-behind_item (noting_output n last) top (items ++ (record { path = path; out = last.1 }) ∷ []) at t rest w (k, h)
fwd-item_path n top items path last at t rest w (k, (zero, inl h)) = absurd h
fwd-item_path n top items path last at t rest w (k, (suc j, h)) = absurd h

fwd-item_field : (n : Notes) (top : Option ℕ) (items : List Item) (path : List (List ℕ)) (at : ℕ) (t : Token) (rest : List Placed) (w : Whole)
    → Remains (states.ItemField n top items path) ((at, t) ∷ rest) w → Follows (step (states.ItemField n top items path) at t) rest w
fwd-item_field n top items path at (tokens.Name v name) rest w h = h
fwd-item_field n top items path at t rest w (k, (j, h)) = absurd h

fwd-item_as : (n : Notes) (top : Option ℕ) (items : List Item) (path : List (List ℕ)) (at : ℕ) (t : Token) (rest : List Placed) (w : Whole)
    → Remains (states.ItemAs n top items path) ((at, t) ∷ rest) w → Follows (step (states.ItemAs n top items path) at t) rest w
fwd-item_as n top items path at (tokens.Name words.Alias name) rest w h = h
fwd-item_as n top items path at t rest w (k, h) = absurd h

-- ---- where rows come from
fwd-source : (n : Notes) (p : Projection) (at : ℕ) (t : Token) (rest : List Placed) (w : Whole) → Remains (states.Source n p) ((at, t) ∷ rest) w → Follows (source_step n p t) rest w
fwd-source n p at (tokens.Name words.Relationships name) rest w (inl h) = h
fwd-source n p at (tokens.Name words.Twins name) rest w (inr h) = h
fwd-source n p at t rest w (inl h) = absurd h
fwd-source n p at t rest w (inr h) = absurd h

-- the condition, or the end, which is not here
fwd-behind_relationships : (n : Notes) (h : Head) (at : ℕ) (t : Token) (rest : List Placed) (w : Whole)
    → Remains (states.BehindRelationships n h) ((at, t) ∷ rest) w → Follows (behind_relationships_step n h t) rest w
fwd-behind_relationships n h at (tokens.Name words.Where name) rest w (inl (m, (l, x))) = (m, (l, ([], x)))
fwd-behind_relationships n h at t rest w (inl x) = absurd x
fwd-behind_relationships n h at t rest w (inr x) = absurd (let e = x.0 in cc)

fwd-relationships_alias : (n : Notes) (p : Projection) (at : ℕ) (t : Token) (rest : List Placed) (w : Whole)
    → Remains (states.RelationshipsAlias n p) ((at, t) ∷ rest) w → Follows (relationships_alias_step n p at t) rest w
fwd-relationships_alias n p at (tokens.Name words.Alias name) rest w (inl x) = x
fwd-relationships_alias n p at (tokens.Name words.Where name) rest w (inr (inl (m, (l, x)))) = (m, (l, ([], x)))
fwd-relationships_alias n p at t rest w (inl x) = absurd x
fwd-relationships_alias n p at t rest w (inr (inl x)) = absurd x
fwd-relationships_alias n p at t rest w (inr (inr x)) = absurd (let e = x.0 in cc)

fwd-behind_twins : (n : Notes) (h : Head) (at : ℕ) (t : Token) (rest : List Placed) (w : Whole)
    → Remains (states.BehindTwins n h) ((at, t) ∷ rest) w → Follows (behind_twins_step n h t) rest w
fwd-behind_twins n h at (tokens.Name words.Join name) rest w (suc k, x) = (k, x)
fwd-behind_twins n h at (tokens.Name words.Where name) rest w (zero, inl (m, (l, x))) = (m, (l, ([], x)))
fwd-behind_twins n h at t rest w (suc k, x) = absurd x
fwd-behind_twins n h at t rest w (zero, inl x) = absurd x
fwd-behind_twins n h at t rest w (zero, inr x) = absurd (let e = x.0 in cc)

fwd-twins_alias : (n : Notes) (p : Projection) (at : ℕ) (t : Token) (rest : List Placed) (w : Whole)
    → Remains (states.TwinsAlias n p) ((at, t) ∷ rest) w → Follows (twins_alias_step n p at t) rest w
fwd-twins_alias n p at (tokens.Name words.Alias name) rest w (inl x) = x
fwd-twins_alias n p at (tokens.Name words.Join name) rest w (inr (suc k, x)) = (k, x)
fwd-twins_alias n p at (tokens.Name words.Where name) rest w (inr (zero, inl (m, (l, x)))) = (m, (l, ([], x)))
fwd-twins_alias n p at t rest w (inl x) = absurd x
fwd-twins_alias n p at t rest w (inr (suc k, x)) = absurd x
fwd-twins_alias n p at t rest w (inr (zero, inl x)) = absurd x
fwd-twins_alias n p at t rest w (inr (zero, inr x)) = absurd (let e = x.0 in cc)

fwd-join_target : (n : Notes) (h : Head) (at : ℕ) (t : Token) (rest : List Placed) (w : Whole)
    → Remains (states.JoinTarget n h) ((at, t) ∷ rest) w → Follows (step (states.JoinTarget n h) at t) rest w
fwd-join_target n h at (tokens.Name words.Alias name) rest w x = x
fwd-join_target n h at t rest w (k, x) = absurd x

fwd-join_source : (n : Notes) (h : Head) (target : List ℕ) (at : ℕ) (t : Token) (rest : List Placed) (w : Whole)
    → Remains (states.JoinSource n h target) ((at, t) ∷ rest) w → Follows (step (states.JoinSource n h target) at t) rest w
fwd-join_source n h target at (tokens.Name words.Alias name) rest w x = x
fwd-join_source n h target at t rest w (k, x) = absurd x

fwd-join_name : (n : Notes) (h : Head) (target source : List ℕ) (at : ℕ) (t : Token) (rest : List Placed) (w : Whole)
    → Remains (states.JoinName n h target source) ((at, t) ∷ rest) w → Follows (step (states.JoinName n h target source) at t) rest w
fwd-join_name n h target source at (tokens.Name v name) rest w x = x
fwd-join_name n h target source at t rest w (k, x) = absurd x

fwd-join_alias : (n : Notes) (h : Head) (target source name : List ℕ) (at : ℕ) (t : Token) (rest : List Placed) (w : Whole)
    → Remains (states.JoinAlias n h target source name) ((at, t) ∷ rest) w → Follows (join_alias_step n h target source name at t) rest w
fwd-join_alias n h target source name at (tokens.Name words.Alias rel) rest w (k, inl x) = (k, x)
fwd-join_alias n h target source name at (tokens.Name words.Join v) rest w (suc k, inr x) = (k, x)
fwd-join_alias n h target source name at (tokens.Name words.Where v) rest w (zero, inr (inl (m, (l, x)))) = (m, (l, ([], x)))
fwd-join_alias n h target source name at t rest w (k, inl x) = absurd x
fwd-join_alias n h target source name at t rest w (suc k, inr x) = absurd x
fwd-join_alias n h target source name at t rest w (zero, inr (inl x)) = absurd x
fwd-join_alias n h target source name at t rest w (zero, inr (inr x)) = absurd (let e = x.0 in cc)

-- ---- conditions
pub fwd-behind_factor : (n : Notes) (h : Head) (before : Option Condition) (c : Condition) (chains : List Chain) (room at : ℕ) (t : Token) (rest : List Placed) (w : Whole)
    → Remains (states.BehindFactor n h before c chains room) ((at, t) ∷ rest) w → Follows (behind_factor_step n h before c chains room t) rest w
fwd-behind_factor n h before c chains room at (tokens.Name words.And name) rest w (m, (suc l, (ms, x))) = (m, (l, (ms, x)))
fwd-behind_factor n h before c chains room at (tokens.Name words.Or name) rest w (suc m, (zero, (ms, (l, x)))) = (m, (l, (ms, x)))
fwd-behind_factor n h before c (chain ∷ chains) room at (tokens.Mark marks.Close) rest w (zero, (zero, (k ∷ ms, x))) = (k.0, (k.1, (ms, x)))
fwd-behind_factor n h before c (chain ∷ chains) room at (tokens.Mark marks.Close) rest w (zero, (zero, ([], x))) = (zero, (zero, ([], x)))
fwd-behind_factor n h before c chains room at t rest w (m, (suc l, (ms, x))) = absurd x
fwd-behind_factor n h before c chains room at t rest w (suc m, (zero, (ms, x))) = absurd x
fwd-behind_factor n h before c [] room at t rest w (zero, (zero, (ms, x))) = absurd (let e = x.0 in cc)
fwd-behind_factor n h before c (chain ∷ chains) room at t rest w (zero, (zero, ([], x))) = absurd x
fwd-behind_factor n h before c (chain ∷ chains) room at t rest w (zero, (zero, (k ∷ ms, x))) = absurd x

fwd-behind_left : (n : Notes) (a : Around) (o : Operand) (at : ℕ) (t : Token) (rest : List Placed) (w : Whole)
    → Remains (states.Behind n a goals.Left o) ((at, t) ∷ rest) w → Follows (behind_left_step n a o t) rest w
fwd-behind_left n a o at (tokens.Mark (marks.Compare compare)) rest w (m, (l, (ms, inl x))) = (m, (l, (ms, x)))
fwd-behind_left n a o at (tokens.Name words.In name) rest w (m, (l, (ms, inr (inl x)))) = (m, (l, (ms, x)))
fwd-behind_left n a o at (tokens.Name words.Nin name) rest w (m, (l, (ms, inr (inr x)))) = (m, (l, (ms, x)))
fwd-behind_left n a o at t rest w (m, (l, (ms, inl x))) = absurd x
fwd-behind_left n a o at t rest w (m, (l, (ms, inr (inl x)))) = absurd x
fwd-behind_left n a o at t rest w (m, (l, (ms, inr (inr x)))) = absurd x

fwd-behind : (n : Notes) (a : Around) (g : Goal) (o : Operand) (at : ℕ) (t : Token) (rest : List Placed) (w : Whole)
    → Remains (states.Behind n a g o) ((at, t) ∷ rest) w → Follows (behind_step n a g o t) rest w
fwd-behind n a goals.Left o at t rest w h = fwd-behind_left n a o at t rest w h
fwd-behind n a (goals.Right left compare) o at t rest w h =
    fwd-behind_factor n a.head a.chain.either (with_both a.chain.both (negations a.chain.nots (compared left compare o))) a.chains a.chain.room at t rest w h
fwd-behind n a (goals.Is kind) o at t rest w (m, (l, (ms, x))) = fwd-mark marks.Close (λ _. factor_rest m l ms a w (is_kind kind (operand_path o))) _ n at t rest w (λ y. (m, (l, (ms, y)))) x
fwd-behind n a (goals.First kind) o at t rest w (m, (l, (ms, x))) =
    fwd-mark marks.Comma (λ _. operand (λ part. mark marks.Close (λ _. factor_rest m l ms a w (has_part kind o part)))) (states.Operand n a (goals.Second kind o)) n at t rest w (λ y. (m, (l, (ms, y)))) x
fwd-behind n a (goals.Second kind whole) o at t rest w (m, (l, (ms, x))) = fwd-mark marks.Close (λ _. factor_rest m l ms a w (has_part kind whole o)) _ n at t rest w (λ y. (m, (l, (ms, y)))) x

-- no operand is followed by a point
pub no_dot : (n : Notes) (a : Around) (g : Goal) (o : Operand) (rest : List Placed) (w : Whole) → Follows (behind_step n a g o (tokens.Mark marks.Dot)) rest w → ⊥
no_dot n a goals.Left o rest w h = h
no_dot n a (goals.Right left compare) o rest w h = h
no_dot n a (goals.Is kind) o rest w h = h
no_dot n a (goals.First kind) o rest w h = h
no_dot n a (goals.Second kind whole) o rest w h = h

fwd-path : (n : Notes) (a : Around) (g : Goal) (path : List (List ℕ)) (at : ℕ) (t : Token) (rest : List Placed) (w : Whole)
    → Remains (states.Path n a g path) ((at, t) ∷ rest) w → Follows (path_step n a g path t) rest w
fwd-path n a g path at (tokens.Mark marks.Dot) rest w (m, (l, (ms, (suc j, (last, x))))) = (m, (l, (ms, (j, x))))
fwd-path n a g path at (tokens.Mark marks.Dot) rest w (m, (l, (ms, (zero, (last, x))))) =
    absurd (no_dot n a g (operands.Path path) rest w (fwd-behind n a g (operands.Path path) at (tokens.Mark marks.Dot) rest w (m, (l, (ms, x)))))
fwd-path n a g path at t rest w (m, (l, (ms, (zero, (last, x))))) = fwd-behind n a g (operands.Path path) at t rest w (m, (l, (ms, x)))
fwd-path n a g path at t rest w (m, (l, (ms, (suc j, (last, x))))) = absurd x

fwd-field : (n : Notes) (a : Around) (g : Goal) (path : List (List ℕ)) (at : ℕ) (t : Token) (rest : List Placed) (w : Whole)
    → Remains (states.Field n a g path) ((at, t) ∷ rest) w → Follows (step (states.Field n a g path) at t) rest w
fwd-field n a g path at (tokens.Name v name) rest w (m, (l, (ms, (j, x)))) = (m, (l, (ms, (j, ((at, name), x)))))
fwd-field n a g path at t rest w (m, (l, (ms, (j, x)))) = absurd x

-- an operand that is no path alone
fwd-value : (n : Notes) (a : Around) (g : Goal) → takes_literal g ≡ true → (at : ℕ) (t : Token) (rest : List Placed) (w : Whole) (m l : ℕ) (ms : List (ℕ × ℕ))
    → operand (goal_rest g (factor_rest m l ms a w)) n ((at, t) ∷ rest) → Follows (operand_step n a g at t) rest w
fwd-value n a g e at (tokens.Name words.Alias name) rest w m l ms (inl (j, x)) = (m, (l, (ms, (j, ((at, name), x)))))
fwd-value n a g e at (tokens.Number d) rest w m l ms (inr (inl x)) =
    subst (λ (b : Bool). Follows (when b (states.Behind n a g (operands.Value (literals.Number d)))) rest w) (sym e) (m, (l, (ms, x)))
fwd-value n a g e at (tokens.Text t o) rest w m l ms (inr (inr (inl x))) =
    subst (λ (b : Bool). Follows (when b (states.Behind n a g (operands.Value (literals.Word t)))) rest w) (sym e) (m, (l, (ms, x)))
fwd-value n a g e at (tokens.Name words.True name) rest w m l ms (inr (inr (inr (inl x)))) =
    subst (λ (b : Bool). Follows (when b (states.Behind n a g (operands.Value (literals.Truth true)))) rest w) (sym e) (m, (l, (ms, x)))
fwd-value n a g e at (tokens.Name words.False name) rest w m l ms (inr (inr (inr (inr x)))) =
    subst (λ (b : Bool). Follows (when b (states.Behind n a g (operands.Value (literals.Truth false)))) rest w) (sym e) (m, (l, (ms, x)))
fwd-value n a g e at t rest w m l ms (inl (j, x)) = absurd x
fwd-value n a g e at t rest w m l ms (inr (inl x)) = absurd x
fwd-value n a g e at t rest w m l ms (inr (inr (inl x))) = absurd x
fwd-value n a g e at t rest w m l ms (inr (inr (inr (inl x)))) = absurd x
fwd-value n a g e at t rest w m l ms (inr (inr (inr (inr x)))) = absurd x

fwd-path_alone : (n : Notes) (a : Around) (kind : _) (at : ℕ) (t : Token) (rest : List Placed) (w : Whole)
    → Remains (states.Operand n a (goals.Is kind)) ((at, t) ∷ rest) w → Follows (operand_step n a (goals.Is kind) at t) rest w
fwd-path_alone n a kind at (tokens.Name words.Alias name) rest w (m, (l, (ms, (j, x)))) = (m, (l, (ms, (j, ((at, name), x)))))
fwd-path_alone n a kind at t rest w (m, (l, (ms, (j, x)))) = absurd x

fwd-operand : (n : Notes) (a : Around) (g : Goal) (at : ℕ) (t : Token) (rest : List Placed) (w : Whole)
    → Remains (states.Operand n a g) ((at, t) ∷ rest) w → Follows (operand_step n a g at t) rest w
fwd-operand n a goals.Left at t rest w (m, (l, (ms, x))) = fwd-value n a goals.Left refl at t rest w m l ms x
fwd-operand n a (goals.Right left compare) at t rest w (m, (l, (ms, x))) = fwd-value n a (goals.Right left compare) refl at t rest w m l ms x
fwd-operand n a (goals.Is kind) at t rest w h = fwd-path_alone n a kind at t rest w h
fwd-operand n a (goals.First kind) at t rest w (m, (l, (ms, x))) = fwd-value n a (goals.First kind) refl at t rest w m l ms x
fwd-operand n a (goals.Second kind whole) at t rest w (m, (l, (ms, x))) = fwd-value n a (goals.Second kind whole) refl at t rest w m l ms x

fwd-factor : (room : ℕ) (n : Notes) (a : Around) (at : ℕ) (t : Token) (rest : List Placed) (w : Whole) (m l : ℕ) (ms : List (ℕ × ℕ))
    → factor room (factor_rest m l ms a w) n ((at, t) ∷ rest) → Follows (factor_step n (record a { room = room }) at t) rest w
fwd-factor zero n a at (tokens.Name words.Not name) rest w m l ms x = fwd-value n a goals.Left refl at (tokens.Name words.Not name) rest w m l ms x
fwd-factor zero n a at (tokens.Mark marks.Open) rest w m l ms x = fwd-value n a goals.Left refl at (tokens.Mark marks.Open) rest w m l ms x
fwd-factor zero n a at t rest w m l ms x = fwd-value n a goals.Left refl at t rest w m l ms x
fwd-factor (suc room) n a at (tokens.Name words.Not name) rest w m l ms (inl x) = absurd (fwd-value n a goals.Left refl at (tokens.Name words.Not name) rest w m l ms x)
fwd-factor (suc room) n a at (tokens.Mark marks.Open) rest w m l ms (inl x) = absurd (fwd-value n a goals.Left refl at (tokens.Mark marks.Open) rest w m l ms x)
fwd-factor (suc room) n a at (tokens.Name (words.Is kind) name) rest w m l ms (inl x) =
    absurd (fwd-value n a goals.Left refl at (tokens.Name (words.Is kind) name) rest w m l ms x)
fwd-factor (suc room) n a at (tokens.Name (words.Part kind) name) rest w m l ms (inl x) =
    absurd (fwd-value n a goals.Left refl at (tokens.Name (words.Part kind) name) rest w m l ms x)
fwd-factor (suc room) n a at (tokens.Name words.OfModel name) rest w m l ms (inl x) =
    absurd (fwd-value n a goals.Left refl at (tokens.Name words.OfModel name) rest w m l ms x)
fwd-factor (suc room) n a at t rest w m l ms (inl x) = fwd-value n a goals.Left refl at t rest w m l ms x
fwd-factor (suc room) n a at (tokens.Name (words.Is kind) name) rest w m l ms (inr (inl (inl x))) = (m, (l, (ms, x)))
fwd-factor (suc room) n a at (tokens.Name (words.Part kind) name) rest w m l ms (inr (inl (inr (inl x)))) = (m, (l, (ms, x)))
fwd-factor (suc room) n a at (tokens.Name words.OfModel name) rest w m l ms (inr (inl (inr (inr x)))) = (m, (l, (ms, x)))
fwd-factor (suc room) n a at (tokens.Name words.Not name) rest w m l ms (inr (inr (inl x))) = (m, (l, (ms, x)))
fwd-factor (suc room) n a at (tokens.Mark marks.Open) rest w m l ms (inr (inr (inr (k, (j, x))))) = (k, (j, ((m, l) ∷ ms, x)))
fwd-factor (suc room) n a at t rest w m l ms (inr (inl (inl x))) = absurd x
fwd-factor (suc room) n a at t rest w m l ms (inr (inl (inr (inl x)))) = absurd x
fwd-factor (suc room) n a at t rest w m l ms (inr (inl (inr (inr x)))) = absurd x
fwd-factor (suc room) n a at t rest w m l ms (inr (inr (inl x))) = absurd x
fwd-factor (suc room) n a at t rest w m l ms (inr (inr (inr x))) = absurd x

fwd-list_item : (n : Notes) (a : Around) (o : Operand) (within : Bool) (ls : List Literal) (at : ℕ) (t : Token) (rest : List Placed) (w : Whole)
    → Remains (states.ListItem n a o within ls) ((at, t) ∷ rest) w → Follows (list_item_step n a o within ls t) rest w
fwd-list_item n a o within ls at (tokens.Number d) rest w (m, (l, (ms, (k, inl x)))) = (m, (l, (ms, (k, x))))
fwd-list_item n a o within ls at (tokens.Text t i) rest w (m, (l, (ms, (k, inr (inl x))))) = (m, (l, (ms, (k, x))))
fwd-list_item n a o within ls at (tokens.Name words.True name) rest w (m, (l, (ms, (k, inr (inr (inl x)))))) = (m, (l, (ms, (k, x))))
fwd-list_item n a o within ls at (tokens.Name words.False name) rest w (m, (l, (ms, (k, inr (inr (inr x)))))) = (m, (l, (ms, (k, x))))
fwd-list_item n a o within ls at t rest w (m, (l, (ms, (k, inl x)))) = absurd x
fwd-list_item n a o within ls at t rest w (m, (l, (ms, (k, inr (inl x))))) = absurd x
fwd-list_item n a o within ls at t rest w (m, (l, (ms, (k, inr (inr (inl x)))))) = absurd x
fwd-list_item n a o within ls at t rest w (m, (l, (ms, (k, inr (inr (inr x)))))) = absurd x

fwd-behind_list_item : (n : Notes) (a : Around) (o : Operand) (within : Bool) (ls : List Literal) (at : ℕ) (t : Token) (rest : List Placed) (w : Whole)
    → Remains (states.BehindListItem n a o within ls) ((at, t) ∷ rest) w → Follows (behind_list_item_step n a o within ls t) rest w
fwd-behind_list_item n a o within ls at (tokens.Mark marks.Comma) rest w (m, (l, (ms, (suc k, x)))) = (m, (l, (ms, (k, x))))
fwd-behind_list_item n a o within ls at (tokens.Mark marks.CloseList) rest w (m, (l, (ms, (zero, x)))) = (m, (l, (ms, x)))
fwd-behind_list_item n a o within ls at t rest w (m, (l, (ms, (suc k, x)))) = absurd x
fwd-behind_list_item n a o within ls at t rest w (m, (l, (ms, (zero, x)))) = absurd x

fwd-model_start : (n : Notes) (a : Around) (placed : PlacedName) (at : ℕ) (t : Token) (rest : List Placed) (w : Whole)
    → Remains (states.ModelStart n a placed) ((at, t) ∷ rest) w → Follows (model_start_step n a placed at t) rest w
fwd-model_start n a placed at (tokens.Name words.Alias name) rest w (m, (l, (ms, inl x))) = (m, (l, (ms, x)))
fwd-model_start n a placed at (tokens.Text t (Some model)) rest w (m, (l, (ms, inr x))) = (m, (l, (ms, x)))
fwd-model_start n a placed at t rest w (m, (l, (ms, inl x))) = absurd x
fwd-model_start n a placed at t rest w (m, (l, (ms, inr x))) = absurd x

fwd-model_text : (n : Notes) (a : Around) (twin : Option (List ℕ)) (at : ℕ) (t : Token) (rest : List Placed) (w : Whole)
    → Remains (states.ModelText n a twin) ((at, t) ∷ rest) w → Follows (model_text_step n a twin t) rest w
fwd-model_text n a twin at (tokens.Text t (Some model)) rest w x = x
fwd-model_text n a twin at t rest w (m, (l, (ms, x))) = absurd x

fwd-behind_model : (n : Notes) (a : Around) (twin : Option (List ℕ)) (model : Identifier) (at : ℕ) (t : Token) (rest : List Placed) (w : Whole)
    → Remains (states.BehindModel n a twin model) ((at, t) ∷ rest) w → Follows (behind_model_step n a twin model t) rest w
fwd-behind_model n a twin model at (tokens.Mark marks.Comma) rest w (m, (l, (ms, inl x))) = (m, (l, (ms, x)))
fwd-behind_model n a twin model at (tokens.Mark marks.Close) rest w (m, (l, (ms, inr x))) = (m, (l, (ms, x)))
fwd-behind_model n a twin model at t rest w (m, (l, (ms, inl x))) = absurd x
fwd-behind_model n a twin model at t rest w (m, (l, (ms, inr x))) = absurd x

fwd-exact : (n : Notes) (a : Around) (twin : Option (List ℕ)) (model : Identifier) (at : ℕ) (t : Token) (rest : List Placed) (w : Whole)
    → Remains (states.Exact n a twin model) ((at, t) ∷ rest) w → Follows (step (states.Exact n a twin model) at t) rest w
fwd-exact n a twin model at (tokens.Name words.Alias name) rest w (m, (l, (ms, x))) =
    on_when (same_letters name (codes "exact")) _ (states.ModelClose n a twin model) rest w (λ y. (m, (l, (ms, y)))) x
fwd-exact n a twin model at t rest w (m, (l, (ms, x))) = absurd x

-- ---- every state
pub forward : (s : State) (at : ℕ) (t : Token) (rest : List Placed) (w : Whole) → Remains s ((at, t) ∷ rest) w → Follows (step s at t) rest w
forward states.Start at t rest w h = fwd-start at t rest w h
forward states.Select at t rest w h = fwd-select at t rest w h
forward states.CountOpen at t rest w h = fwd-mark marks.Open (λ _. mark marks.Close (λ _. after_select w projections.Count)) states.CountClose no_notes at t rest w (λ x. x) h
forward states.CountClose at t rest w h = fwd-mark marks.Close (λ _. after_select w projections.Count) (states.BehindSelect no_notes projections.Count) no_notes at t rest w (λ x. x) h
forward states.TopOpen at t rest w h = fwd-mark marks.Open (λ _. number (λ d. only_some (top_size (number_of d)) (λ size. mark marks.Close (λ _. behind_top w size)))) states.TopNumber no_notes at t rest w (λ x. x) h
forward states.TopNumber at t rest w h = fwd-top_number at t rest w h
forward (states.TopClose size) at t rest w h = fwd-mark marks.Close (λ _. behind_top w size) (states.BehindTop size) no_notes at t rest w (λ x. x) h
forward (states.BehindTop size) at t rest w h = fwd-behind_top size at t rest w h
forward (states.BehindSelect n p) at t rest w h = fwd-word words.From (λ _. choice (relationships p) (twins p) (at_end w)) (states.Source n p) n at t rest w (λ name x. x) h
forward (states.ItemStart n top items) at t rest w h = fwd-item_start n top items at t rest w h
forward (states.ItemPath n top items path last) at t rest w h = fwd-item_path n top items path last at t rest w h
forward (states.ItemField n top items path) at t rest w h = fwd-item_field n top items path at t rest w h
forward (states.ItemAs n top items path) at t rest w h = fwd-item_as n top items path at t rest w h
forward (states.BehindItem n top items) at t rest w h = fwd-behind_item n top items at t rest w h
forward (states.Source n p) at t rest w h = fwd-source n p at t rest w h
forward (states.RelationshipsAlias n p) at t rest w h = fwd-relationships_alias n p at t rest w h
forward (states.BehindRelationships n d) at t rest w h = fwd-behind_relationships n d at t rest w h
forward (states.TwinsAlias n p) at t rest w h = fwd-twins_alias n p at t rest w h
forward (states.BehindTwins n d) at t rest w h = fwd-behind_twins n d at t rest w h
forward (states.JoinTarget n d) at t rest w h = fwd-join_target n d at t rest w h
forward (states.JoinRelated n d target) at t rest w (k, h) = fwd-word words.Related (λ _. behind_related k d w target) (states.JoinSource n d target) n at t rest w (λ name x. (k, x)) h
forward (states.JoinSource n d target) at t rest w h = fwd-join_source n d target at t rest w h
forward (states.JoinDot n d target source) at t rest w (k, h) = fwd-mark marks.Dot (λ _. field (λ name. behind_name k d w target source name.0)) (states.JoinName n d target source) n at t rest w (λ x. (k, x)) h
forward (states.JoinName n d target source) at t rest w h = fwd-join_name n d target source at t rest w h
forward (states.JoinAlias n d target source name) at t rest w h = fwd-join_alias n d target source name at t rest w h
forward (states.Factor n a) at t rest w (m, (l, (ms, h))) = fwd-factor a.room n a at t rest w m l ms h
forward (states.FunctionOpen n a g) at t rest w (m, (l, (ms, h))) = fwd-mark marks.Open (λ _. operand_for g (goal_rest g (factor_rest m l ms a w))) (states.Operand n a g) n at t rest w (λ x. (m, (l, (ms, x)))) h
forward (states.Operand n a g) at t rest w h = fwd-operand n a g at t rest w h
forward (states.Path n a g path) at t rest w h = fwd-path n a g path at t rest w h
forward (states.Field n a g path) at t rest w h = fwd-field n a g path at t rest w h
forward (states.Behind n a g o) at t rest w h = fwd-behind n a g o at t rest w h
forward (states.ListOpen n a o within) at t rest w (m, (l, (ms, (k, h)))) =
    fwd-mark marks.OpenList (λ _. literal (λ x. literals_rest k within o (factor_rest m l ms a w) (x ∷ []))) (states.ListItem n a o within []) n at t rest w (λ x. (m, (l, (ms, (k, x))))) h
forward (states.ListItem n a o within ls) at t rest w h = fwd-list_item n a o within ls at t rest w h
forward (states.BehindListItem n a o within ls) at t rest w h = fwd-behind_list_item n a o within ls at t rest w h
forward (states.ModelOpen n a placed) at t rest w (m, (l, (ms, h))) = fwd-mark marks.Open (λ _. model_start placed (factor_rest m l ms a w)) (states.ModelStart n a placed) n at t rest w (λ x. (m, (l, (ms, x)))) h
forward (states.ModelStart n a placed) at t rest w h = fwd-model_start n a placed at t rest w h
forward (states.ModelComma n a twin) at t rest w (m, (l, (ms, h))) = fwd-mark marks.Comma (λ _. model_and_exact (Some twin) (factor_rest m l ms a w)) (states.ModelText n a (Some twin)) n at t rest w (λ x. (m, (l, (ms, x)))) h
forward (states.ModelText n a twin) at t rest w h = fwd-model_text n a twin at t rest w h
forward (states.BehindModel n a twin model) at t rest w h = fwd-behind_model n a twin model at t rest w h
forward (states.Exact n a twin model) at t rest w h = fwd-exact n a twin model at t rest w h
forward (states.ModelClose n a twin model) at t rest w (m, (l, (ms, h))) = fwd-mark marks.Close (λ _. factor_rest m l ms a w (of_model twin model true)) _ n at t rest w (λ x. (m, (l, (ms, x)))) h
forward (states.BehindFactor n d before c chains room) at t rest w h = fwd-behind_factor n d before c chains room at t rest w h
