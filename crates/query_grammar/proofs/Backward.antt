-- What may remain in the state behind a token may remain before it, with the token in front.
use Rattle.std.proofs.Common.{◌≡◌, ℕ, zero, suc, ◌==◌, nat_lt, inl, inr, List, [], ◌∷◌, ◌++◌, length, Bool, true, false, Option, Some, None, refl}
use Rattle.std.specs.Prelude.{codes}
use Rattle.dt_base.specs.names.Grammar.{Identifier}
use Rattle.json_decimal.specs.Decimals.{number_of}
use Rattle.query_terms.specs.declared.operand.Operand.{Operand}
use Rattle.query_terms.specs.declared.operand.Operand.TheVariants as operands
use Rattle.query_terms.specs.declared.operand.Literal.{Literal}
use Rattle.query_terms.specs.declared.operand.Literal.TheVariants as literals
use Rattle.query_terms.specs.declared.query.Projection.{Projection}
use Rattle.query_terms.specs.declared.query.Projection.TheVariants as projections
use Rattle.query_terms.specs.declared.query.Item.{Item}
use Rattle.query_terms.specs.Conditions.{Condition, compared, is_kind, has_part, of_model}
use Rattle.query_terms.specs.tokens.Words.{same_letters}
use Rattle.query_terms.specs.declared.tokens.token.Word.{Word}
use Rattle.query_terms.specs.declared.tokens.token.Word.TheVariants as words
use Rattle.query_terms.specs.declared.tokens.token.Mark.{Mark}
use Rattle.query_terms.specs.declared.tokens.token.Mark.TheVariants as marks
use Rattle.query_terms.specs.declared.tokens.token.Token.{Token}
use Rattle.query_terms.specs.declared.tokens.token.Token.TheVariants as tokens
use Rattle.query_grammar.specs.declared.names.Notes.{Notes}
use Rattle.query_grammar.specs.declared.state.State.{State}
use Rattle.query_grammar.specs.declared.state.State.TheVariants as states
use Rattle.query_grammar.specs.declared.state.Head.{Head}
use Rattle.query_grammar.specs.declared.state.Chain.{Chain}
use Rattle.query_grammar.specs.declared.state.Around.{Around}
use Rattle.query_grammar.specs.declared.state.Goal.{Goal}
use Rattle.query_grammar.specs.declared.state.Goal.TheVariants as goals
use Rattle.query_grammar.specs.Phrases.{Placed, PlacedName, Rest, On, choice, only_some, word_number, mark_number, word, mark, number, field}
use Rattle.query_grammar.specs.Grammar.{steps, top_size, factor, no_notes, operand, literal, relationships, twins, at_end, model_and_exact}
use Rattle.query_grammar.specs.Machinery.Steps.{when, is_mark, is_word, noting_output, select_step, behind_top_step, top_closed, item_start_step, item_path_step, behind_item_step, source_step, relationships_alias_step, behind_relationships_step, twins_alias_step, behind_twins_step, join_alias_step, factor_step, operand_step, literal_step, takes_literal, operand_path, behind_factor_step, behind_left_step, behind_step, path_step, list_item_step, behind_list_item_step, model_start_step, model_text_step, behind_model_step, step, with_both, negations, inside}
use Rattle.query_grammar.specs.Machinery.Remains.{Whole, Remains, Follows, after_select, behind_top, operand_for, goal_rest, factor_rest, Numbered, behind_related, behind_name, literals_rest, model_start}

back-when : (b : Bool) (s : State) (rest : List Placed) (w : Whole) → Follows (when b s) rest w → (b ≡ true) × Remains s rest w
back-when true s rest w h = (refl, h)
back-when false s rest w h = absurd h

on-in : (b : Bool) (P : Type 0) → b ≡ true → P → On b P
on-in true P e x = x
on-in false P e x = absurd cc

mark-in : (m : Mark) (K : Unit {0} → Rest) (n : Notes) (at : ℕ) (t : Token) (rest : List Placed) → is_mark m t ≡ true → K tt n rest → mark m K n ((at, t) ∷ rest)
mark-in m K n at (tokens.Mark o) rest e x = on-in (mark_number m == mark_number o) (K tt n rest) e x
mark-in m K n at (tokens.Name v name) rest e x = absurd cc
mark-in m K n at (tokens.Number d) rest e x = absurd cc
mark-in m K n at (tokens.Text t o) rest e x = absurd cc

word-in : (v : Word) (K : PlacedName → Rest) (n : Notes) (at : ℕ) (t : Token) (rest : List Placed) → is_word v t ≡ true → ((name : List ℕ) → K (at, name) n rest) → word v K n ((at, t) ∷ rest)
word-in v K n at (tokens.Name o name) rest e x = on-in (word_number v == word_number o) (K (at, name) n rest) e (x name)
word-in v K n at (tokens.Mark o) rest e x = absurd cc
word-in v K n at (tokens.Number d) rest e x = absurd cc
word-in v K n at (tokens.Text t o) rest e x = absurd cc

-- ---- what is selected
back-start : (at : ℕ) (t : Token) (rest : List Placed) (w : Whole) → Follows (step states.Start at t) rest w → Remains states.Start ((at, t) ∷ rest) w
back-start at (tokens.Name words.Select name) rest w h = h
back-start at t rest w h = absurd h

back-select : (at : ℕ) (t : Token) (rest : List Placed) (w : Whole) → Follows (select_step at t) rest w → Remains states.Select ((at, t) ∷ rest) w
back-select at (tokens.Name words.Count name) rest w h = inl h
back-select at (tokens.Name words.Top name) rest w h = inr (inl h)
back-select at (tokens.Mark marks.Star) rest w h = inr (inr (inl h))
back-select at (tokens.Name words.Alias name) rest w h = inr (inr (inr (h.0, (h.1.0, h.1.1))))
back-select at t rest w h = absurd h

back-size : (size : Option ℕ) (at : ℕ) (rest : List Placed) (w : Whole)
    → Follows (top_closed size) rest w → only_some size (λ x. mark marks.Close (λ _. behind_top w x)) no_notes rest
back-size (Some x) at rest w h = h
back-size None at rest w h = h

back-top_number : (at : ℕ) (t : Token) (rest : List Placed) (w : Whole) → Follows (step states.TopNumber at t) rest w → Remains states.TopNumber ((at, t) ∷ rest) w
back-top_number at (tokens.Number d) rest w h = back-size (top_size (number_of d)) at rest w h
back-top_number at t rest w h = absurd h

back-behind_top : (size at : ℕ) (t : Token) (rest : List Placed) (w : Whole) → Follows (behind_top_step size at t) rest w → Remains (states.BehindTop size) ((at, t) ∷ rest) w
back-behind_top size at (tokens.Mark marks.Star) rest w h = inl (inl h)
back-behind_top size at (tokens.Name words.Alias name) rest w h = inl (inr h)
back-behind_top size at (tokens.Name words.From name) rest w h = inr h
back-behind_top size at t rest w h = absurd h

back-item_start : (n : Notes) (top : Option ℕ) (items : List Item) (at : ℕ) (t : Token) (rest : List Placed) (w : Whole)
    → Follows (item_start_step n top items at t) rest w → Remains (states.ItemStart n top items) ((at, t) ∷ rest) w
back-item_start n top items at (tokens.Name words.Alias name) rest w h = h
back-item_start n top items at t rest w h = absurd h

back-behind_item : (n : Notes) (top : Option ℕ) (items : List Item) (at : ℕ) (t : Token) (rest : List Placed) (w : Whole)
    → Follows (behind_item_step n top items t) rest w → Remains (states.BehindItem n top items) ((at, t) ∷ rest) w
back-behind_item n top items at (tokens.Name words.From name) rest w h = (zero, h)
back-behind_item n top items at (tokens.Mark marks.Comma) rest w h =
    let p = back-when (nat_lt (length items) 20) (states.ItemStart n top items) rest w h in
    (suc p.1.0, on-in (nat_lt (length items) 20) _ p.0 p.1.1)
back-behind_item n top items at t rest w h = absurd h

back-item_path : (n : Notes) (top : Option ℕ) (items : List Item) (path : List (List ℕ)) (last : PlacedName) (at : ℕ) (t : Token) (rest : List Placed) (w : Whole)
    → Follows (item_path_step n top items path last t) rest w → Remains (states.ItemPath n top items path last) ((at, t) ∷ rest) w
back-item_path n top items path last at (tokens.Mark marks.Dot) rest w h = (h.0, (suc h.1.0, h.1.1))
back-item_path n top items path last at (tokens.Name words.As name) rest w h = (h.0, (zero, inl h.1))
back-item_path n top items path last at t rest w h =
    let r = back-behind_item (noting_output n last) top (items ++ (record { path = path; out = last.1 }) ∷ []) at t rest w h in
    (r.0, (zero, inr r.1))

back-item_field : (n : Notes) (top : Option ℕ) (items : List Item) (path : List (List ℕ)) (at : ℕ) (t : Token) (rest : List Placed) (w : Whole)
    → Follows (step (states.ItemField n top items path) at t) rest w → Remains (states.ItemField n top items path) ((at, t) ∷ rest) w
back-item_field n top items path at (tokens.Name v name) rest w h = h
back-item_field n top items path at t rest w h = absurd h

back-item_as : (n : Notes) (top : Option ℕ) (items : List Item) (path : List (List ℕ)) (at : ℕ) (t : Token) (rest : List Placed) (w : Whole)
    → Follows (step (states.ItemAs n top items path) at t) rest w → Remains (states.ItemAs n top items path) ((at, t) ∷ rest) w
back-item_as n top items path at (tokens.Name words.Alias name) rest w h = h
back-item_as n top items path at t rest w h = absurd h

-- ---- where rows come from
back-source : (n : Notes) (p : Projection) (at : ℕ) (t : Token) (rest : List Placed) (w : Whole) → Follows (source_step n p t) rest w → Remains (states.Source n p) ((at, t) ∷ rest) w
back-source n p at (tokens.Name words.Relationships name) rest w h = inl h
back-source n p at (tokens.Name words.Twins name) rest w h = inr h
back-source n p at t rest w h = absurd h

back-behind_relationships : (n : Notes) (d : Head) (at : ℕ) (t : Token) (rest : List Placed) (w : Whole)
    → Follows (behind_relationships_step n d t) rest w → Remains (states.BehindRelationships n d) ((at, t) ∷ rest) w
back-behind_relationships n d at (tokens.Name words.Where name) rest w (m, (l, (ms, x))) = inl (m, (l, x))
back-behind_relationships n d at t rest w h = absurd h

back-relationships_alias : (n : Notes) (p : Projection) (at : ℕ) (t : Token) (rest : List Placed) (w : Whole)
    → Follows (relationships_alias_step n p at t) rest w → Remains (states.RelationshipsAlias n p) ((at, t) ∷ rest) w
back-relationships_alias n p at (tokens.Name words.Alias name) rest w h = inl h
back-relationships_alias n p at (tokens.Name words.Where name) rest w (m, (l, (ms, x))) = inr (inl (m, (l, x)))
back-relationships_alias n p at t rest w h = absurd h

back-behind_twins : (n : Notes) (d : Head) (at : ℕ) (t : Token) (rest : List Placed) (w : Whole)
    → Follows (behind_twins_step n d t) rest w → Remains (states.BehindTwins n d) ((at, t) ∷ rest) w
back-behind_twins n d at (tokens.Name words.Join name) rest w (k, x) = (suc k, x)
back-behind_twins n d at (tokens.Name words.Where name) rest w (m, (l, (ms, x))) = (zero, inl (m, (l, x)))
back-behind_twins n d at t rest w h = absurd h

back-twins_alias : (n : Notes) (p : Projection) (at : ℕ) (t : Token) (rest : List Placed) (w : Whole)
    → Follows (twins_alias_step n p at t) rest w → Remains (states.TwinsAlias n p) ((at, t) ∷ rest) w
back-twins_alias n p at (tokens.Name words.Alias name) rest w h = inl h
back-twins_alias n p at (tokens.Name words.Join name) rest w (k, x) = inr (suc k, x)
back-twins_alias n p at (tokens.Name words.Where name) rest w (m, (l, (ms, x))) = inr (zero, inl (m, (l, x)))
back-twins_alias n p at t rest w h = absurd h

back-join_target : (n : Notes) (d : Head) (at : ℕ) (t : Token) (rest : List Placed) (w : Whole)
    → Follows (step (states.JoinTarget n d) at t) rest w → Remains (states.JoinTarget n d) ((at, t) ∷ rest) w
back-join_target n d at (tokens.Name words.Alias name) rest w h = h
back-join_target n d at t rest w h = absurd h

back-join_source : (n : Notes) (d : Head) (target : List ℕ) (at : ℕ) (t : Token) (rest : List Placed) (w : Whole)
    → Follows (step (states.JoinSource n d target) at t) rest w → Remains (states.JoinSource n d target) ((at, t) ∷ rest) w
back-join_source n d target at (tokens.Name words.Alias name) rest w h = h
back-join_source n d target at t rest w h = absurd h

back-join_name : (n : Notes) (d : Head) (target source : List ℕ) (at : ℕ) (t : Token) (rest : List Placed) (w : Whole)
    → Follows (step (states.JoinName n d target source) at t) rest w → Remains (states.JoinName n d target source) ((at, t) ∷ rest) w
back-join_name n d target source at (tokens.Name v name) rest w h = h
back-join_name n d target source at t rest w h = absurd h

back-join_alias : (n : Notes) (d : Head) (target source name : List ℕ) (at : ℕ) (t : Token) (rest : List Placed) (w : Whole)
    → Follows (join_alias_step n d target source name at t) rest w → Remains (states.JoinAlias n d target source name) ((at, t) ∷ rest) w
back-join_alias n d target source name at (tokens.Name words.Alias rel) rest w (k, x) = (k, inl x)
back-join_alias n d target source name at (tokens.Name words.Join v) rest w (k, x) = (suc k, inr x)
back-join_alias n d target source name at (tokens.Name words.Where v) rest w (m, (l, (ms, x))) = (zero, inr (inl (m, (l, x))))
back-join_alias n d target source name at t rest w h = absurd h

-- ---- conditions
back-behind_factor : (n : Notes) (d : Head) (before : Option Condition) (c : Condition) (chains : List Chain) (room at : ℕ) (t : Token) (rest : List Placed) (w : Whole)
    → Follows (behind_factor_step n d before c chains room t) rest w → Remains (states.BehindFactor n d before c chains room) ((at, t) ∷ rest) w
back-behind_factor n d before c chains room at (tokens.Name words.And name) rest w (m, (l, (ms, x))) = (m, (suc l, (ms, x)))
back-behind_factor n d before c chains room at (tokens.Name words.Or name) rest w (m, (l, (ms, x))) = (suc m, (zero, (ms, (l, x))))
back-behind_factor n d before c (chain ∷ chains) room at (tokens.Mark marks.Close) rest w (m, (l, (ms, x))) = (zero, (zero, ((m, l) ∷ ms, x)))
back-behind_factor n d before c [] room at (tokens.Mark marks.Close) rest w h = absurd h
back-behind_factor n d before c chains room at t rest w h = absurd h

back-behind_left : (n : Notes) (a : Around) (o : Operand) (at : ℕ) (t : Token) (rest : List Placed) (w : Whole)
    → Follows (behind_left_step n a o t) rest w → Remains (states.Behind n a goals.Left o) ((at, t) ∷ rest) w
back-behind_left n a o at (tokens.Mark (marks.Compare compare)) rest w (m, (l, (ms, x))) = (m, (l, (ms, inl x)))
back-behind_left n a o at (tokens.Name words.In name) rest w (m, (l, (ms, x))) = (m, (l, (ms, inr (inl x))))
back-behind_left n a o at (tokens.Name words.Nin name) rest w (m, (l, (ms, x))) = (m, (l, (ms, inr (inr x))))
back-behind_left n a o at t rest w h = absurd h

back-behind : (n : Notes) (a : Around) (g : Goal) (o : Operand) (at : ℕ) (t : Token) (rest : List Placed) (w : Whole)
    → Follows (behind_step n a g o t) rest w → Remains (states.Behind n a g o) ((at, t) ∷ rest) w
back-behind n a goals.Left o at t rest w h = back-behind_left n a o at t rest w h
back-behind n a (goals.Right left compare) o at t rest w h =
    back-behind_factor n a.head a.chain.either (with_both a.chain.both (negations a.chain.nots (compared left compare o))) a.chains a.chain.room at t rest w h
back-behind n a (goals.Is kind) o at t rest w h =
    let p = back-when (is_mark marks.Close t) _ rest w h in let x = p.1 in
    (x.0, (x.1.0, (x.1.1.0, mark-in marks.Close (λ _. factor_rest x.0 x.1.0 x.1.1.0 a w (is_kind kind (operand_path o))) n at t rest p.0 x.1.1.1)))
back-behind n a (goals.First kind) o at t rest w h =
    let p = back-when (is_mark marks.Comma t) (states.Operand n a (goals.Second kind o)) rest w h in let x = p.1 in
    (x.0, (x.1.0, (x.1.1.0, mark-in marks.Comma (λ _. operand (λ part. mark marks.Close (λ _. factor_rest x.0 x.1.0 x.1.1.0 a w (has_part kind o part)))) n at t rest p.0 x.1.1.1)))
back-behind n a (goals.Second kind whole) o at t rest w h =
    let p = back-when (is_mark marks.Close t) _ rest w h in let x = p.1 in
    (x.0, (x.1.0, (x.1.1.0, mark-in marks.Close (λ _. factor_rest x.0 x.1.0 x.1.1.0 a w (has_part kind whole o)) n at t rest p.0 x.1.1.1)))

back-path : (n : Notes) (a : Around) (g : Goal) (path : List (List ℕ)) (at : ℕ) (t : Token) (rest : List Placed) (w : Whole)
    → Follows (path_step n a g path t) rest w → Remains (states.Path n a g path) ((at, t) ∷ rest) w
back-path n a g path at (tokens.Mark marks.Dot) rest w (m, (l, (ms, (j, x)))) = (m, (l, (ms, (suc j, ((zero, []), x)))))
back-path n a g path at t rest w h =
    let r = back-behind n a g (operands.Path path) at t rest w h in
    (r.0, (r.1.0, (r.1.1.0, (zero, ((zero, []), r.1.1.1)))))

-- the last name of a path in a condition does not matter
any_last : (j : ℕ) (path : List (List ℕ)) (one other : PlacedName) (K : Operand → Rest) (n : Notes) (ts : List Placed)
    → steps j path one (λ p. K (operands.Path p.0)) n ts → steps j path other (λ p. K (operands.Path p.0)) n ts
any_last zero path one other K n ts h = h
any_last (suc j) path one other K n ts h = h

back-field : (n : Notes) (a : Around) (g : Goal) (path : List (List ℕ)) (at : ℕ) (t : Token) (rest : List Placed) (w : Whole)
    → Follows (step (states.Field n a g path) at t) rest w → Remains (states.Field n a g path) ((at, t) ∷ rest) w
back-field n a g path at (tokens.Name v name) rest w (m, (l, (ms, (j, (last, x))))) =
    (m, (l, (ms, (j, any_last j (path ++ name ∷ []) last (at, name) (goal_rest g (factor_rest m l ms a w)) n rest x))))
back-field n a g path at t rest w h = absurd h

back-literal : (n : Notes) (a : Around) (g : Goal) (x : Literal) (rest : List Placed) (w : Whole)
    → Follows (literal_step n a g x) rest w → (takes_literal g ≡ true) × Remains (states.Behind n a g (operands.Value x)) rest w
back-literal n a g x rest w h = back-when (takes_literal g) (states.Behind n a g (operands.Value x)) rest w h

back-value : (n : Notes) (a : Around) (g : Goal) (at : ℕ) (t : Token) (rest : List Placed) (w : Whole)
    → Follows (operand_step n a g at t) rest w → Numbered (λ m l ms. operand (goal_rest g (factor_rest m l ms a w)) n ((at, t) ∷ rest))
back-value n a g at (tokens.Name words.Alias name) rest w (m, (l, (ms, (j, (last, x))))) =
    (m, (l, (ms, inl (j, any_last j (name ∷ []) last (at, name) (goal_rest g (factor_rest m l ms a w)) _ rest x))))
back-value n a g at (tokens.Number d) rest w h = let r = (back-literal n a g (literals.Number d) rest w h).1 in (r.0, (r.1.0, (r.1.1.0, inr (inl r.1.1.1))))
back-value n a g at (tokens.Text t o) rest w h = let r = (back-literal n a g (literals.Word t) rest w h).1 in (r.0, (r.1.0, (r.1.1.0, inr (inr (inl r.1.1.1)))))
back-value n a g at (tokens.Name words.True name) rest w h =
    let r = (back-literal n a g (literals.Truth true) rest w h).1 in (r.0, (r.1.0, (r.1.1.0, inr (inr (inr (inl r.1.1.1))))))
back-value n a g at (tokens.Name words.False name) rest w h =
    let r = (back-literal n a g (literals.Truth false) rest w h).1 in (r.0, (r.1.0, (r.1.1.0, inr (inr (inr (inr r.1.1.1))))))
back-value n a g at t rest w h = absurd h

back-path_alone : (n : Notes) (a : Around) (kind : _) (at : ℕ) (t : Token) (rest : List Placed) (w : Whole)
    → Follows (operand_step n a (goals.Is kind) at t) rest w → Remains (states.Operand n a (goals.Is kind)) ((at, t) ∷ rest) w
back-path_alone n a kind at (tokens.Name words.Alias name) rest w (m, (l, (ms, (j, (last, x))))) =
    (m, (l, (ms, (j, any_last j (name ∷ []) last (at, name) (goal_rest (goals.Is kind) (factor_rest m l ms a w)) _ rest x))))
back-path_alone n a kind at t rest w h = absurd h

back-operand : (n : Notes) (a : Around) (g : Goal) (at : ℕ) (t : Token) (rest : List Placed) (w : Whole)
    → Follows (operand_step n a g at t) rest w → Remains (states.Operand n a g) ((at, t) ∷ rest) w
back-operand n a goals.Left at t rest w h = back-value n a goals.Left at t rest w h
back-operand n a (goals.Right left compare) at t rest w h = back-value n a (goals.Right left compare) at t rest w h
back-operand n a (goals.Is kind) at t rest w h = back-path_alone n a kind at t rest w h
back-operand n a (goals.First kind) at t rest w h = back-value n a (goals.First kind) at t rest w h
back-operand n a (goals.Second kind whole) at t rest w h = back-value n a (goals.Second kind whole) at t rest w h

left_numbers : List (ℕ × ℕ) → (ℕ × ℕ) × List (ℕ × ℕ)
left_numbers [] = ((zero, zero), [])
left_numbers (k ∷ ms) = (k, ms)

opened : (room : ℕ) (n : Notes) (a : Around) (rest : List Placed) (w : Whole) (k j : ℕ) (ms : List (ℕ × ℕ))
    → factor room (factor_rest k j ms (inside a room) w) n rest
    → Numbered (λ m l ns. (k : ℕ) × ((j : ℕ) × factor room (factor_rest k j ((m, l) ∷ ns) (inside a room) w) n rest))
opened room n a rest w k j [] x = (zero, (zero, ([], (k, (j, x)))))
opened room n a rest w k j (p ∷ ms) x = (p.0, (p.1, (ms, (k, (j, x)))))

back-factor : (room : ℕ) (n : Notes) (a : Around) (at : ℕ) (t : Token) (rest : List Placed) (w : Whole)
    → Follows (factor_step n (record a { room = room }) at t) rest w → Numbered (λ m l ms. factor room (factor_rest m l ms a w) n ((at, t) ∷ rest))
back-factor zero n a at (tokens.Name words.Not name) rest w h = absurd h
back-factor zero n a at (tokens.Mark marks.Open) rest w h = absurd h
back-factor zero n a at t rest w h = back-value n a goals.Left at t rest w h
back-factor (suc room) n a at (tokens.Name words.Not name) rest w (m, (l, (ms, x))) = (m, (l, (ms, inr (inr (inl x)))))
back-factor (suc room) n a at (tokens.Mark marks.Open) rest w (k, (j, (ms, x))) =
    let r = opened room n a rest w k j ms x in (r.0, (r.1.0, (r.1.1.0, inr (inr (inr r.1.1.1)))))
back-factor (suc room) n a at (tokens.Name (words.Is kind) name) rest w (m, (l, (ms, x))) = (m, (l, (ms, inr (inl (inl x)))))
back-factor (suc room) n a at (tokens.Name (words.Part kind) name) rest w (m, (l, (ms, x))) = (m, (l, (ms, inr (inl (inr (inl x))))))
back-factor (suc room) n a at (tokens.Name words.OfModel name) rest w (m, (l, (ms, x))) = (m, (l, (ms, inr (inl (inr (inr x))))))
back-factor (suc room) n a at t rest w h = let r = back-value n a goals.Left at t rest w h in (r.0, (r.1.0, (r.1.1.0, inl r.1.1.1)))

back-list_item : (n : Notes) (a : Around) (o : Operand) (within : Bool) (ls : List Literal) (at : ℕ) (t : Token) (rest : List Placed) (w : Whole)
    → Follows (list_item_step n a o within ls t) rest w → Remains (states.ListItem n a o within ls) ((at, t) ∷ rest) w
back-list_item n a o within ls at (tokens.Number d) rest w (m, (l, (ms, (k, x)))) = (m, (l, (ms, (k, inl x))))
back-list_item n a o within ls at (tokens.Text t i) rest w (m, (l, (ms, (k, x)))) = (m, (l, (ms, (k, inr (inl x)))))
back-list_item n a o within ls at (tokens.Name words.True name) rest w (m, (l, (ms, (k, x)))) = (m, (l, (ms, (k, inr (inr (inl x))))))
back-list_item n a o within ls at (tokens.Name words.False name) rest w (m, (l, (ms, (k, x)))) = (m, (l, (ms, (k, inr (inr (inr x))))))
back-list_item n a o within ls at t rest w h = absurd h

back-behind_list_item : (n : Notes) (a : Around) (o : Operand) (within : Bool) (ls : List Literal) (at : ℕ) (t : Token) (rest : List Placed) (w : Whole)
    → Follows (behind_list_item_step n a o within ls t) rest w → Remains (states.BehindListItem n a o within ls) ((at, t) ∷ rest) w
back-behind_list_item n a o within ls at (tokens.Mark marks.Comma) rest w (m, (l, (ms, (k, x)))) = (m, (l, (ms, (suc k, x))))
back-behind_list_item n a o within ls at (tokens.Mark marks.CloseList) rest w (m, (l, (ms, x))) = (m, (l, (ms, (zero, x))))
back-behind_list_item n a o within ls at t rest w h = absurd h

back-model_start : (n : Notes) (a : Around) (placed : PlacedName) (at : ℕ) (t : Token) (rest : List Placed) (w : Whole)
    → Follows (model_start_step n a placed at t) rest w → Remains (states.ModelStart n a placed) ((at, t) ∷ rest) w
back-model_start n a placed at (tokens.Name words.Alias name) rest w (m, (l, (ms, x))) = (m, (l, (ms, inl x)))
back-model_start n a placed at (tokens.Text t (Some model)) rest w (m, (l, (ms, x))) = (m, (l, (ms, inr x)))
back-model_start n a placed at t rest w h = absurd h

back-model_text : (n : Notes) (a : Around) (twin : Option (List ℕ)) (at : ℕ) (t : Token) (rest : List Placed) (w : Whole)
    → Follows (model_text_step n a twin t) rest w → Remains (states.ModelText n a twin) ((at, t) ∷ rest) w
back-model_text n a twin at (tokens.Text t (Some model)) rest w h = h
back-model_text n a twin at t rest w h = absurd h

back-behind_model : (n : Notes) (a : Around) (twin : Option (List ℕ)) (model : Identifier) (at : ℕ) (t : Token) (rest : List Placed) (w : Whole)
    → Follows (behind_model_step n a twin model t) rest w → Remains (states.BehindModel n a twin model) ((at, t) ∷ rest) w
back-behind_model n a twin model at (tokens.Mark marks.Comma) rest w (m, (l, (ms, x))) = (m, (l, (ms, inl x)))
back-behind_model n a twin model at (tokens.Mark marks.Close) rest w (m, (l, (ms, x))) = (m, (l, (ms, inr x)))
back-behind_model n a twin model at t rest w h = absurd h

back-exact : (n : Notes) (a : Around) (twin : Option (List ℕ)) (model : Identifier) (at : ℕ) (t : Token) (rest : List Placed) (w : Whole)
    → Follows (step (states.Exact n a twin model) at t) rest w → Remains (states.Exact n a twin model) ((at, t) ∷ rest) w
back-exact n a twin model at (tokens.Name words.Alias name) rest w h =
    let p = back-when (same_letters name (codes "exact")) (states.ModelClose n a twin model) rest w h in let x = p.1 in
    (x.0, (x.1.0, (x.1.1.0, on-in (same_letters name (codes "exact")) _ p.0 x.1.1.1)))
back-exact n a twin model at t rest w h = absurd h

-- ---- every state
pub backward : (s : State) (at : ℕ) (t : Token) (rest : List Placed) (w : Whole) → Follows (step s at t) rest w → Remains s ((at, t) ∷ rest) w
backward states.Start at t rest w h = back-start at t rest w h
backward states.Select at t rest w h = back-select at t rest w h
backward states.CountOpen at t rest w h =
    let p = back-when (is_mark marks.Open t) states.CountClose rest w h in
    mark-in marks.Open (λ _. mark marks.Close (λ _. after_select w projections.Count)) no_notes at t rest p.0 p.1
backward states.CountClose at t rest w h =
    let p = back-when (is_mark marks.Close t) (states.BehindSelect no_notes projections.Count) rest w h in
    mark-in marks.Close (λ _. after_select w projections.Count) no_notes at t rest p.0 p.1
backward states.TopOpen at t rest w h =
    let p = back-when (is_mark marks.Open t) states.TopNumber rest w h in
    mark-in marks.Open (λ _. number (λ d. only_some (top_size (number_of d)) (λ size. mark marks.Close (λ _. behind_top w size)))) no_notes at t rest p.0 p.1
backward states.TopNumber at t rest w h = back-top_number at t rest w h
backward (states.TopClose size) at t rest w h =
    let p = back-when (is_mark marks.Close t) (states.BehindTop size) rest w h in
    mark-in marks.Close (λ _. behind_top w size) no_notes at t rest p.0 p.1
backward (states.BehindTop size) at t rest w h = back-behind_top size at t rest w h
backward (states.BehindSelect n p) at t rest w h =
    let q = back-when (is_word words.From t) (states.Source n p) rest w h in
    word-in words.From (λ _. choice (relationships p) (twins p) (at_end w)) n at t rest q.0 (λ name. q.1)
backward (states.ItemStart n top items) at t rest w h = back-item_start n top items at t rest w h
backward (states.ItemPath n top items path last) at t rest w h = back-item_path n top items path last at t rest w h
backward (states.ItemField n top items path) at t rest w h = back-item_field n top items path at t rest w h
backward (states.ItemAs n top items path) at t rest w h = back-item_as n top items path at t rest w h
backward (states.BehindItem n top items) at t rest w h = back-behind_item n top items at t rest w h
backward (states.Source n p) at t rest w h = back-source n p at t rest w h
backward (states.RelationshipsAlias n p) at t rest w h = back-relationships_alias n p at t rest w h
backward (states.BehindRelationships n d) at t rest w h = back-behind_relationships n d at t rest w h
backward (states.TwinsAlias n p) at t rest w h = back-twins_alias n p at t rest w h
backward (states.BehindTwins n d) at t rest w h = back-behind_twins n d at t rest w h
backward (states.JoinTarget n d) at t rest w h = back-join_target n d at t rest w h
backward (states.JoinRelated n d target) at t rest w h =
    let q = back-when (is_word words.Related t) (states.JoinSource n d target) rest w h in
    (q.1.0, word-in words.Related (λ _. behind_related q.1.0 d w target) n at t rest q.0 (λ name. q.1.1))
backward (states.JoinSource n d target) at t rest w h = back-join_source n d target at t rest w h
backward (states.JoinDot n d target source) at t rest w h =
    let q = back-when (is_mark marks.Dot t) (states.JoinName n d target source) rest w h in
    (q.1.0, mark-in marks.Dot (λ _. field (λ name. behind_name q.1.0 d w target source name.0)) n at t rest q.0 q.1.1)
backward (states.JoinName n d target source) at t rest w h = back-join_name n d target source at t rest w h
backward (states.JoinAlias n d target source name) at t rest w h = back-join_alias n d target source name at t rest w h
backward (states.Factor n a) at t rest w h = back-factor a.room n a at t rest w h
backward (states.FunctionOpen n a g) at t rest w h =
    let p = back-when (is_mark marks.Open t) (states.Operand n a g) rest w h in let x = p.1 in
    (x.0, (x.1.0, (x.1.1.0, mark-in marks.Open (λ _. operand_for g (goal_rest g (factor_rest x.0 x.1.0 x.1.1.0 a w))) n at t rest p.0 x.1.1.1)))
backward (states.Operand n a g) at t rest w h = back-operand n a g at t rest w h
backward (states.Path n a g path) at t rest w h = back-path n a g path at t rest w h
backward (states.Field n a g path) at t rest w h = back-field n a g path at t rest w h
backward (states.Behind n a g o) at t rest w h = back-behind n a g o at t rest w h
backward (states.ListOpen n a o within) at t rest w h =
    let p = back-when (is_mark marks.OpenList t) (states.ListItem n a o within []) rest w h in let x = p.1 in (
      x.0,
      (
        x.1.0,
        (
          x.1.1.0,
          (
            x.1.1.1.0,
            mark-in marks.OpenList (λ _. literal (λ y. literals_rest x.1.1.1.0 within o (factor_rest x.0 x.1.0 x.1.1.0 a w) (y ∷ []))) n at t rest p.0 x.1.1.1.1,
          ),
        ),
      ),
    )
backward (states.ListItem n a o within ls) at t rest w h = back-list_item n a o within ls at t rest w h
backward (states.BehindListItem n a o within ls) at t rest w h = back-behind_list_item n a o within ls at t rest w h
backward (states.ModelOpen n a placed) at t rest w h =
    let p = back-when (is_mark marks.Open t) (states.ModelStart n a placed) rest w h in let x = p.1 in
    (x.0, (x.1.0, (x.1.1.0, mark-in marks.Open (λ _. model_start placed (factor_rest x.0 x.1.0 x.1.1.0 a w)) n at t rest p.0 x.1.1.1)))
backward (states.ModelStart n a placed) at t rest w h = back-model_start n a placed at t rest w h
backward (states.ModelComma n a twin) at t rest w h =
    let p = back-when (is_mark marks.Comma t) (states.ModelText n a (Some twin)) rest w h in let x = p.1 in
    (x.0, (x.1.0, (x.1.1.0, mark-in marks.Comma (λ _. model_and_exact (Some twin) (factor_rest x.0 x.1.0 x.1.1.0 a w)) n at t rest p.0 x.1.1.1)))
backward (states.ModelText n a twin) at t rest w h = back-model_text n a twin at t rest w h
backward (states.BehindModel n a twin model) at t rest w h = back-behind_model n a twin model at t rest w h
backward (states.Exact n a twin model) at t rest w h = back-exact n a twin model at t rest w h
backward (states.ModelClose n a twin model) at t rest w h =
    let p = back-when (is_mark marks.Close t) _ rest w h in let x = p.1 in
    (x.0, (x.1.0, (x.1.1.0, mark-in marks.Close (λ _. factor_rest x.0 x.1.0 x.1.1.0 a w (of_model twin model true)) n at t rest p.0 x.1.1.1)))
backward (states.BehindFactor n d before c chains room) at t rest w h = back-behind_factor n d before c chains room at t rest w h
