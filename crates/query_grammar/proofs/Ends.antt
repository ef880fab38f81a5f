-- Where nothing remains.
use Rattle.std.proofs.Common.{◌≡◌, ℕ, zero, suc, inl, inr, List, [], ◌∷◌, Option, Some, refl, ap}
use Rattle.query_terms.specs.declared.operand.Operand.{Operand}
use Rattle.query_terms.specs.declared.operand.Operand.TheVariants as operands
use Rattle.query_terms.specs.Conditions.{Condition, compared}
use Rattle.query_grammar.specs.declared.names.Notes.{Notes}
use Rattle.query_grammar.specs.declared.state.State.{State}
use Rattle.query_grammar.specs.declared.state.State.TheVariants as states
use Rattle.query_grammar.specs.declared.state.Head.{Head}
use Rattle.query_grammar.specs.declared.state.Chain.{Chain}
use Rattle.query_grammar.specs.declared.state.Around.{Around}
use Rattle.query_grammar.specs.declared.state.Goal.{Goal}
use Rattle.query_grammar.specs.declared.state.Goal.TheVariants as goals
use Rattle.query_grammar.specs.Phrases.{Rest}
use Rattle.query_grammar.specs.Grammar.{factor, operand}
use Rattle.query_grammar.specs.Machinery.Steps.{end, end_of_chain, end_behind, with_both, negations}
use Rattle.query_grammar.specs.Machinery.Remains.{Whole, Remains, operand_for, goal_rest, factor_rest, behind_left}

-- ---- what remains is nothing
fwd_end-chain : (n : Notes) (d : Head) (before : Option Condition) (c : Condition) (chains : List Chain) (room : ℕ) (w : Whole)
    → Remains (states.BehindFactor n d before c chains room) [] w → end_of_chain n d before c chains ≡ Some w
fwd_end-chain n d before c chains room w (m, (suc l, (ms, x))) = absurd x
fwd_end-chain n d before c chains room w (suc m, (zero, (ms, x))) = absurd x
fwd_end-chain n d before c [] room w (zero, (zero, (ms, x))) = ap (λ (v : Whole). Some v) x.1
fwd_end-chain n d before c (chain ∷ chains) room w (zero, (zero, ([], x))) = absurd x
fwd_end-chain n d before c (chain ∷ chains) room w (zero, (zero, (k ∷ ms, x))) = absurd x

fwd_end-goal : (n : Notes) (a : Around) (g : Goal) (o : Operand) (w : Whole) → Remains (states.Behind n a g o) [] w → end_behind n a g o ≡ Some w
fwd_end-goal n a goals.Left o w (m, (l, (ms, inl x))) = absurd x
fwd_end-goal n a goals.Left o w (m, (l, (ms, inr (inl x)))) = absurd x
fwd_end-goal n a goals.Left o w (m, (l, (ms, inr (inr x)))) = absurd x
fwd_end-goal n a (goals.Right left compare) o w h =
    fwd_end-chain n a.head a.chain.either (with_both a.chain.both (negations a.chain.nots (compared left compare o))) a.chains a.chain.room w h
fwd_end-goal n a (goals.Is kind) o w (m, (l, (ms, x))) = absurd x
fwd_end-goal n a (goals.First kind) o w (m, (l, (ms, x))) = absurd x
fwd_end-goal n a (goals.Second kind whole) o w (m, (l, (ms, x))) = absurd x

no_operand : (K : Operand → Rest) (n : Notes) → operand K n [] → ⊥
no_operand K n (inl (j, x)) = x
no_operand K n (inr (inl x)) = x
no_operand K n (inr (inr (inl x))) = x
no_operand K n (inr (inr (inr (inl x)))) = x
no_operand K n (inr (inr (inr (inr x)))) = x

no_operand_for : (g : Goal) (K : Operand → Rest) (n : Notes) → operand_for g K n [] → ⊥
no_operand_for goals.Left K n x = no_operand K n x
no_operand_for (goals.Right left compare) K n x = no_operand K n x
no_operand_for (goals.Is kind) K n (j, x) = x
no_operand_for (goals.First kind) K n x = no_operand K n x
no_operand_for (goals.Second kind whole) K n x = no_operand K n x

no_factor : (room : ℕ) (K : Condition → Rest) (n : Notes) → factor room K n [] → ⊥
no_factor zero K n x = no_operand (λ o. behind_left o K) n x
no_factor (suc room) K n (inl x) = no_operand (λ o. behind_left o K) n x
no_factor (suc room) K n (inr (inl (inl x))) = x
no_factor (suc room) K n (inr (inl (inr (inl x)))) = x
no_factor (suc room) K n (inr (inl (inr (inr x)))) = x
no_factor (suc room) K n (inr (inr (inl x))) = x
no_factor (suc room) K n (inr (inr (inr x))) = x

pub ends_forward : (s : State) (w : Whole) → Remains s [] w → end s ≡ Some w
ends_forward states.Start w h = absurd h
ends_forward states.Select w (inl h) = absurd h
ends_forward states.Select w (inr (inl h)) = absurd h
ends_forward states.Select w (inr (inr (inl h))) = absurd h
ends_forward states.Select w (inr (inr (inr (k, (j, h))))) = absurd h
ends_forward states.CountOpen w h = absurd h
ends_forward states.CountClose w h = absurd h
ends_forward states.TopOpen w h = absurd h
ends_forward states.TopNumber w h = absurd h
ends_forward (states.TopClose size) w h = absurd h
ends_forward (states.BehindTop size) w (inl (inl h)) = absurd h
ends_forward (states.BehindTop size) w (inl (inr (k, (j, h)))) = absurd h
ends_forward (states.BehindTop size) w (inr h) = absurd h
ends_forward (states.BehindSelect n p) w h = absurd h
ends_forward (states.ItemStart n top items) w (k, (j, h)) = absurd h
ends_forward (states.ItemPath n top items path last) w (k, (suc j, h)) = absurd h
ends_forward (states.ItemPath n top items path last) w (k, (zero, inl h)) = absurd h
ends_forward (states.ItemPath n top items path last) w (zero, (zero, inr h)) = absurd h
ends_forward (states.ItemPath n top items path last) w (suc k, (zero, inr h)) = absurd h
ends_forward (states.ItemField n top items path) w (k, (j, h)) = absurd h
ends_forward (states.ItemAs n top items path) w (k, h) = absurd h
ends_forward (states.BehindItem n top items) w (zero, h) = absurd h
ends_forward (states.BehindItem n top items) w (suc k, h) = absurd h
ends_forward (states.Source n p) w (inl h) = absurd h
ends_forward (states.Source n p) w (inr h) = absurd h
ends_forward (states.RelationshipsAlias n p) w (inl h) = absurd h
ends_forward (states.RelationshipsAlias n p) w (inr (inl h)) = absurd h
ends_forward (states.RelationshipsAlias n p) w (inr (inr h)) = ap (λ (v : Whole). Some v) h.1
ends_forward (states.BehindRelationships n d) w (inl h) = absurd h
ends_forward (states.BehindRelationships n d) w (inr h) = ap (λ (v : Whole). Some v) h.1
ends_forward (states.TwinsAlias n p) w (inl h) = absurd h
ends_forward (states.TwinsAlias n p) w (inr (suc k, h)) = absurd h
ends_forward (states.TwinsAlias n p) w (inr (zero, inl h)) = absurd h
ends_forward (states.TwinsAlias n p) w (inr (zero, inr h)) = ap (λ (v : Whole). Some v) h.1
ends_forward (states.BehindTwins n d) w (suc k, h) = absurd h
ends_forward (states.BehindTwins n d) w (zero, inl h) = absurd h
ends_forward (states.BehindTwins n d) w (zero, inr h) = ap (λ (v : Whole). Some v) h.1
ends_forward (states.JoinTarget n d) w (k, h) = absurd h
ends_forward (states.JoinRelated n d target) w (k, h) = absurd h
ends_forward (states.JoinSource n d target) w (k, h) = absurd h
ends_forward (states.JoinDot n d target source) w (k, h) = absurd h
ends_forward (states.JoinName n d target source) w (k, h) = absurd h
ends_forward (states.JoinAlias n d target source name) w (k, inl h) = absurd h
ends_forward (states.JoinAlias n d target source name) w (suc k, inr h) = absurd h
ends_forward (states.JoinAlias n d target source name) w (zero, inr (inl h)) = absurd h
ends_forward (states.JoinAlias n d target source name) w (zero, inr (inr h)) = ap (λ (v : Whole). Some v) h.1
ends_forward (states.Factor n a) w (m, (l, (ms, h))) = absurd (no_factor a.room (factor_rest m l ms a w) n h)
ends_forward (states.FunctionOpen n a g) w (m, (l, (ms, h))) = absurd h
ends_forward (states.Operand n a g) w (m, (l, (ms, h))) = absurd (no_operand_for g (goal_rest g (factor_rest m l ms a w)) n h)
ends_forward (states.Path n a g path) w (m, (l, (ms, (suc j, (last, h))))) = absurd h
ends_forward (states.Path n a g path) w (m, (l, (ms, (zero, (last, h))))) = fwd_end-goal n a g (operands.Path path) w (m, (l, (ms, h)))
ends_forward (states.Field n a g path) w (m, (l, (ms, (j, h)))) = absurd h
ends_forward (states.Behind n a g o) w h = fwd_end-goal n a g o w h
ends_forward (states.ListOpen n a o within) w (m, (l, (ms, (k, h)))) = absurd h
ends_forward (states.ListItem n a o within ls) w (m, (l, (ms, (k, inl h)))) = absurd h
ends_forward (states.ListItem n a o within ls) w (m, (l, (ms, (k, inr (inl h))))) = absurd h
ends_forward (states.ListItem n a o within ls) w (m, (l, (ms, (k, inr (inr (inl h)))))) = absurd h
ends_forward (states.ListItem n a o within ls) w (m, (l, (ms, (k, inr (inr (inr h)))))) = absurd h
ends_forward (states.BehindListItem n a o within ls) w (m, (l, (ms, (suc k, h)))) = absurd h
ends_forward (states.BehindListItem n a o within ls) w (m, (l, (ms, (zero, h)))) = absurd h
ends_forward (states.ModelOpen n a placed) w (m, (l, (ms, h))) = absurd h
ends_forward (states.ModelStart n a placed) w (m, (l, (ms, inl h))) = absurd h
ends_forward (states.ModelStart n a placed) w (m, (l, (ms, inr h))) = absurd h
ends_forward (states.ModelComma n a twin) w (m, (l, (ms, h))) = absurd h
ends_forward (states.ModelText n a twin) w (m, (l, (ms, h))) = absurd h
ends_forward (states.BehindModel n a twin model) w (m, (l, (ms, inl h))) = absurd h
ends_forward (states.BehindModel n a twin model) w (m, (l, (ms, inr h))) = absurd h
ends_forward (states.Exact n a twin model) w (m, (l, (ms, h))) = absurd h
ends_forward (states.ModelClose n a twin model) w (m, (l, (ms, h))) = absurd h
ends_forward (states.BehindFactor n d before c chains room) w h = fwd_end-chain n d before c chains room w h

-- ---- and the other way round
is_whole : (v w : Whole) → Some v ≡ Some w → v ≡ w
is_whole v w e = cc

back_end-chain : (n : Notes) (d : Head) (before : Option Condition) (c : Condition) (chains : List Chain) (room : ℕ) (w : Whole)
    → end_of_chain n d before c chains ≡ Some w → Remains (states.BehindFactor n d before c chains room) [] w
back_end-chain n d before c [] room w e = (zero, (zero, ([], (refl, is_whole _ w e))))
back_end-chain n d before c (chain ∷ chains) room w e = absurd cc

back_end-goal : (n : Notes) (a : Around) (g : Goal) (o : Operand) (w : Whole) → end_behind n a g o ≡ Some w → Remains (states.Behind n a g o) [] w
back_end-goal n a goals.Left o w e = absurd cc
back_end-goal n a (goals.Right left compare) o w e =
    back_end-chain n a.head a.chain.either (with_both a.chain.both (negations a.chain.nots (compared left compare o))) a.chains a.chain.room w e
back_end-goal n a (goals.Is kind) o w e = absurd cc
back_end-goal n a (goals.First kind) o w e = absurd cc
back_end-goal n a (goals.Second kind whole) o w e = absurd cc

pub ends_backward : (s : State) (w : Whole) → end s ≡ Some w → Remains s [] w
ends_backward (states.RelationshipsAlias n p) w e = inr (inr (refl, is_whole _ w e))
ends_backward (states.BehindRelationships n d) w e = inr (refl, is_whole _ w e)
ends_backward (states.TwinsAlias n p) w e = inr (zero, inr (refl, is_whole _ w e))
ends_backward (states.BehindTwins n d) w e = (zero, inr (refl, is_whole _ w e))
ends_backward (states.JoinAlias n d target source name) w e = (zero, inr (inr (refl, is_whole _ w e)))
ends_backward (states.Path n a g path) w e =
    let r = back_end-goal n a g (operands.Path path) w e in (r.0, (r.1.0, (r.1.1.0, (zero, ((zero, []), r.1.1.1)))))
ends_backward (states.Behind n a g o) w e = back_end-goal n a g o w e
ends_backward (states.BehindFactor n d before c chains room) w e = back_end-chain n d before c chains room w e
ends_backward other w e = absurd cc
