-- What may remain of a query in each state, by the grammar.
use Rattle.std.specs.Prelude.{ℕ, zero, List, [], ◌∷◌, ◌++◌, length, Bool, true, false, Option, Some, None}
use Rattle.dt_base.specs.names.Grammar.{Identifier}
use Rattle.json_decimal.specs.Decimals.{number_of}
use Rattle.query_terms.specs.declared.operand.Operand.{Operand}
use Rattle.query_terms.specs.declared.operand.Operand.TheVariants as operands
use Rattle.query_terms.specs.declared.operand.Literal.{Literal}
use Rattle.query_terms.specs.declared.query.Projection.{Projection}
use Rattle.query_terms.specs.declared.query.Projection.TheVariants as projections
use Rattle.query_terms.specs.declared.query.Item.{Item}
use Rattle.query_terms.specs.Conditions.{Condition, compared, is_kind, has_part, of_model, among, not_among}
use Rattle.query_terms.specs.Queries.{Asked}
use Rattle.query_terms.specs.declared.tokens.token.Word.TheVariants as words
use Rattle.query_terms.specs.declared.tokens.token.Mark.TheVariants as marks
use Rattle.query_grammar.specs.declared.names.Notes.{Notes}
use Rattle.query_grammar.specs.declared.names.Referent.TheVariants as referents
use Rattle.query_grammar.specs.declared.state.State.{State}
use Rattle.query_grammar.specs.declared.state.State.TheVariants as states
use Rattle.query_grammar.specs.declared.state.Head.{Head}
use Rattle.query_grammar.specs.declared.state.Chain.{Chain}
use Rattle.query_grammar.specs.declared.state.Around.{Around}
use Rattle.query_grammar.specs.declared.state.Goal.{Goal}
use Rattle.query_grammar.specs.declared.state.Goal.TheVariants as goals
use Rattle.query_grammar.specs.Phrases.{Placed, PlacedName, Rest, Phrase, ◌>>=◌, ◌>>◌, pure, choice, only_some, word, alias, field, mark, compare_mark, number, note_alias, note_output, note_use}
use Rattle.query_grammar.specs.Grammar.{steps, path, item, more_items, top_size, whole_or_items, select, alias_here, more_joins, literal, operand, more_literals, literal_list, exact, model_and_exact, more_factors, more_terms, factor, condition_here, relationships, twins, query, no_notes, at_end}
use Rattle.query_grammar.specs.Machinery.Steps.{asked_of, head_of, with_join, with_both, with_either, negations, membership, operand_path}

-- What is asked for, and the names.
abbrev pub Whole : Type 0
Whole = Asked × Notes

-- ---- what is selected
abbrev pub after_select : Whole → Projection → Rest
after_select w p = (word words.From >> choice (relationships p) (twins p)) (at_end w)

abbrev pub behind_top : Whole → ℕ → Rest
behind_top w size = choice (whole_or_items (Some size)) (pure (projections.Star (Some size))) (after_select w)

abbrev pub items_rest : ℕ → Option ℕ → Whole → List Item → Rest
items_rest k top w items = more_items k items (λ is. after_select w (projections.Items top is))

abbrev pub item_end : List (List ℕ) × PlacedName → Phrase Item
item_end p = do
  out ← choice (word words.As >> alias) (pure p.1)
  note_output out
  pure (record { path = p.0; out = out.1 })

-- ---- where rows come from
abbrev pub condition_rest : Head → Whole → Rest
condition_rest h w = condition_here (λ c. at_end w (asked_of h c))

abbrev pub joins_rest : ℕ → Head → Whole → Rest
joins_rest k h w = more_joins k h.joins (λ joins. condition_rest (record h { joins = joins }) w)

abbrev pub behind_name : ℕ → Head → Whole → List ℕ → List ℕ → List ℕ → Rest
behind_name k h w target source name = alias_here (λ rel. joins_rest k (with_join h target source name rel) w)

abbrev pub behind_source : ℕ → Head → Whole → List ℕ → List ℕ → Rest
behind_source k h w target source = mark marks.Dot (λ _. field (λ name. behind_name k h w target source name.0))

abbrev pub behind_related : ℕ → Head → Whole → List ℕ → Rest
behind_related k h w target =
    alias (λ source. note_use source (referents.Source (length h.joins)) (λ _. behind_source k h w target source.1))

-- ---- conditions
-- Behind a factor: so many factors more in its term, and so many terms more.
abbrev pub chain_rest : ℕ → ℕ → Chain → (Condition → Rest) → Condition → Rest
chain_rest m l chain K f =
    more_factors (factor chain.room) l (with_both chain.both (negations chain.nots f))
    (λ t. more_terms (factor chain.room) m (with_either chain.either t) K)

-- Behind a condition that ends in its parentheses, with the numbers of what follows in those around it, or else 0.
abbrev pub left_rest : List Chain → List (ℕ × ℕ) → Head → Whole → Condition → Rest
left_rest [] ms h w c = at_end w (asked_of h (Some c))
left_rest (chain ∷ chains) [] h w c = mark marks.Close (λ _. chain_rest zero zero chain (left_rest chains [] h w) c)
left_rest (chain ∷ chains) (k ∷ ms) h w c = mark marks.Close (λ _. chain_rest k.0 k.1 chain (left_rest chains ms h w) c)

abbrev pub factor_rest : ℕ → ℕ → List (ℕ × ℕ) → Around → Whole → Condition → Rest
factor_rest m l ms a w = chain_rest m l a.chain (left_rest a.chains ms a.head w)

-- for some numbers of what follows
abbrev pub Numbered : (ℕ → ℕ → List (ℕ × ℕ) → Type 0) → Type 0
Numbered P = (m : ℕ) × ((l : ℕ) × ((ms : List (ℕ × ℕ)) × P m l ms))

abbrev pub behind_left : Operand → Phrase Condition
behind_left left = choice
    (do
      c ← compare_mark
      right ← operand
      pure (compared left c right))
    (choice
    (word words.In >> (literal_list >>= λ ls. pure (among left ls)))
    (word words.Nin >> (literal_list >>= λ ls. pure (not_among left ls))))

-- behind an operand
abbrev pub goal_rest : Goal → (Condition → Rest) → Operand → Rest
goal_rest goals.Left K o = behind_left o K
goal_rest (goals.Right left compare) K o = K (compared left compare o)
goal_rest (goals.Is kind) K o = mark marks.Close (λ _. K (is_kind kind (operand_path o)))
goal_rest (goals.First kind) K o = mark marks.Comma (λ _. operand (λ part. mark marks.Close (λ _. K (has_part kind o part))))
goal_rest (goals.Second kind whole) K o = mark marks.Close (λ _. K (has_part kind whole o))

-- an operand that is read for this
abbrev pub operand_for : Goal → Phrase Operand
operand_for (goals.Is kind) = path >>= λ p. pure (operands.Path p.0)
operand_for goals.Left = operand
operand_for (goals.Right left compare) = operand
operand_for (goals.First kind) = operand
operand_for (goals.Second kind whole) = operand

abbrev pub literals_rest : ℕ → Bool → Operand → (Condition → Rest) → List Literal → Rest
literals_rest k within o K ls = more_literals k ls (λ all. mark marks.CloseList (λ _. K (membership within o all)))

abbrev pub behind_model : Option (List ℕ) → Identifier → Phrase Condition
behind_model twin model = do
  exactly ← choice (mark marks.Comma >> (exact >> pure true)) (pure false)
  mark marks.Close
  pure (of_model twin model exactly)

abbrev pub model_start : PlacedName → Phrase Condition
model_start name = choice
    (do
      twin ← alias
      note_use twin referents.Model
      mark marks.Comma
      model_and_exact (Some twin.1))
    (do
      note_use name referents.Bare
      model_and_exact None)

-- The tokens may remain, and the query then asks for this.
abbrev pub Remains : State → List Placed → Whole → Type 0
Remains states.Start ts w = query (at_end w) no_notes ts
Remains states.Select ts w = select (after_select w) no_notes ts
Remains states.CountOpen ts w = mark marks.Open (λ _. mark marks.Close (λ _. after_select w projections.Count)) no_notes ts
Remains states.CountClose ts w = mark marks.Close (λ _. after_select w projections.Count) no_notes ts
Remains states.TopOpen ts w =
    mark marks.Open (λ _. number (λ d. only_some (top_size (number_of d)) (λ size. mark marks.Close (λ _. behind_top w size)))) no_notes ts
Remains states.TopNumber ts w = number (λ d. only_some (top_size (number_of d)) (λ size. mark marks.Close (λ _. behind_top w size))) no_notes ts
Remains (states.TopClose size) ts w = mark marks.Close (λ _. behind_top w size) no_notes ts
Remains (states.BehindTop size) ts w = behind_top w size no_notes ts
Remains (states.BehindSelect n p) ts w = after_select w p n ts
Remains (states.ItemStart n top items) ts w = (k : ℕ) × item (λ i. items_rest k top w (items ++ i ∷ [])) n ts
Remains (states.ItemPath n top items path last) ts w =
    (k : ℕ) × ((j : ℕ) × steps j path last (λ p. item_end p (λ i. items_rest k top w (items ++ i ∷ []))) n ts)
Remains (states.ItemField n top items path) ts w =
    (k : ℕ) × ((j : ℕ) × field (λ name. steps j (path ++ name.0 ∷ []) name.1 (λ p. item_end p (λ i. items_rest k top w (items ++ i ∷ [])))) n ts)
Remains (states.ItemAs n top items path) ts w =
    (k : ℕ) × alias (λ out. note_output out (λ _. items_rest k top w (items ++ (record { path = path; out = out.1 }) ∷ []))) n ts
Remains (states.BehindItem n top items) ts w = (k : ℕ) × items_rest k top w items n ts
Remains (states.Source n p) ts w = choice (relationships p) (twins p) (at_end w) n ts
Remains (states.RelationshipsAlias n p) ts w = alias_here (λ a. condition_rest (head_of p true a) w) n ts
Remains (states.BehindRelationships n h) ts w = condition_rest h w n ts
Remains (states.TwinsAlias n p) ts w = alias_here (λ a. λ n ts. (k : ℕ) × joins_rest k (head_of p false a) w n ts) n ts
Remains (states.BehindTwins n h) ts w = (k : ℕ) × joins_rest k h w n ts
Remains (states.JoinTarget n h) ts w =
    (k : ℕ) × alias (λ target. note_alias target (λ _. word words.Related (λ _. behind_related k h w target.1))) n ts
Remains (states.JoinRelated n h target) ts w = (k : ℕ) × word words.Related (λ _. behind_related k h w target) n ts
Remains (states.JoinSource n h target) ts w = (k : ℕ) × behind_related k h w target n ts
Remains (states.JoinDot n h target source) ts w = (k : ℕ) × behind_source k h w target source n ts
Remains (states.JoinName n h target source) ts w = (k : ℕ) × field (λ name. behind_name k h w target source name.0) n ts
Remains (states.JoinAlias n h target source name) ts w = (k : ℕ) × behind_name k h w target source name n ts
Remains (states.Factor n a) ts w = Numbered (λ m l ms. factor a.room (factor_rest m l ms a w) n ts)
Remains (states.FunctionOpen n a g) ts w =
    Numbered (λ m l ms. mark marks.Open (λ _. operand_for g (goal_rest g (factor_rest m l ms a w))) n ts)
Remains (states.Operand n a g) ts w = Numbered (λ m l ms. operand_for g (goal_rest g (factor_rest m l ms a w)) n ts)
Remains (states.Path n a g path) ts w =
    Numbered (λ m l ms. (j : ℕ) × ((last : PlacedName) × steps j path last (λ p. goal_rest g (factor_rest m l ms a w) (operands.Path p.0)) n ts))
Remains (states.Field n a g path) ts w =
    Numbered (λ m l ms. (j : ℕ) × field (λ name. steps j (path ++ name.0 ∷ []) name.1 (λ p. goal_rest g (factor_rest m l ms a w) (operands.Path p.0))) n ts)
Remains (states.Behind n a g o) ts w = Numbered (λ m l ms. goal_rest g (factor_rest m l ms a w) o n ts)
Remains (states.ListOpen n a o within) ts w =
    Numbered (λ m l ms. (k : ℕ) × mark marks.OpenList (λ _. literal (λ x. literals_rest k within o (factor_rest m l ms a w) (x ∷ []))) n ts)
Remains (states.ListItem n a o within ls) ts w =
    Numbered (λ m l ms. (k : ℕ) × literal (λ x. literals_rest k within o (factor_rest m l ms a w) (ls ++ x ∷ [])) n ts)
Remains (states.BehindListItem n a o within ls) ts w =
    Numbered (λ m l ms. (k : ℕ) × literals_rest k within o (factor_rest m l ms a w) ls n ts)
Remains (states.ModelOpen n a placed) ts w = Numbered (λ m l ms. mark marks.Open (λ _. model_start placed (factor_rest m l ms a w)) n ts)
Remains (states.ModelStart n a placed) ts w = Numbered (λ m l ms. model_start placed (factor_rest m l ms a w) n ts)
Remains (states.ModelComma n a twin) ts w =
    Numbered (λ m l ms. mark marks.Comma (λ _. model_and_exact (Some twin) (factor_rest m l ms a w)) n ts)
Remains (states.ModelText n a twin) ts w = Numbered (λ m l ms. model_and_exact twin (factor_rest m l ms a w) n ts)
Remains (states.BehindModel n a twin model) ts w = Numbered (λ m l ms. behind_model twin model (factor_rest m l ms a w) n ts)
Remains (states.Exact n a twin model) ts w =
    Numbered (λ m l ms. exact (λ _. mark marks.Close (λ _. factor_rest m l ms a w (of_model twin model true))) n ts)
Remains (states.ModelClose n a twin model) ts w =
    Numbered (λ m l ms. mark marks.Close (λ _. factor_rest m l ms a w (of_model twin model true)) n ts)
Remains (states.BehindFactor n h before c chains room) ts w =
    Numbered (λ m l ms. more_factors (factor room) l c (λ t. more_terms (factor room) m (with_either before t) (left_rest chains ms h w)) n ts)

-- The same of what a step gives; nothing remains where it gives none.
abbrev pub Follows : Option State → List Placed → Whole → Type 0
Follows None ts w = ⊥
Follows (Some s) ts w = Remains s ts w
