-- A value that is known by what it was matched as, and what was read of it.
use Rattle.std.proofs.Common.{◌≡◌, inr, ℕ, List, Some, Result, Ok, Err, IfOk, sym, ap, ◌∙◌, subst}
use Rattle.std.specs.List.{AllZip}
use Rattle.dt_base.specs.names.Grammar.{Identifier}
use Rattle.json_decimal.specs.Number.{Number}
use Rattle.json_tree.specs.Values.{Json, text, array, object, Elements}
use Rattle.json_tree.specs.View.{view, elements_view, members_view}
use Rattle.json_tree.specs.declared.tree.Tree.{Tree}
use Rattle.json_tree.specs.declared.tree.Tree as variants
use Rattle.json_tree.specs.declared.tree.Member.{Member}
use Rattle.json_tree.proofs.Views.{view-Text, view-List, view-Members}
use Rattle.json_tree.specs.Members.{list_of}
use Rattle.local_rules.specs.Declarations.{HasParents, IsIdentifier}

pub seen_text : (t : Tree) (bytes slice : List ℕ) → t ≡ variants.Text bytes → slice ≡ bytes → view t ≡ text slice
seen_text t bytes slice is same = ap view is ∙ (view-Text bytes ∙ ap text (sym same))

pub seen_list : (t : Tree) (ts slice : List Tree) → t ≡ variants.List ts → slice ≡ ts → view t ≡ array (elements_view slice)
seen_list t ts slice is same = ap view is ∙ (view-List ts ∙ ap (λ (xs : List Tree). array (elements_view xs)) (sym same))

pub seen_members : (t : Tree) (ms slice : List Member) → t ≡ variants.Members ms → slice ≡ ms → view t ≡ object (members_view slice)
seen_members t ms slice is same = ap view is ∙ (view-Members ms ∙ ap (λ (xs : List Member). object (members_view xs)) (sym same))

pub of_members : {X E : Type 0} (P : Json → X → Type 0) (r : Result X E) (t : Tree) (ms slice : List Member) → t ≡ variants.Members ms → slice ≡ ms
    → IfOk r (λ x. P (object (members_view slice)) x) → IfOk r (λ x. P (view t) x)
of_members P r t ms slice is same h = subst (λ (v : Json). IfOk r (λ x. P v x)) (sym (seen_members t ms slice is same)) h

-- the parents that a list names
pub of_list : {E : Type 0} (r : Result (List Identifier) E) (t : Tree) (vs : Elements Number) → view t ≡ array vs → IfOk r (λ ids. AllZip IsIdentifier (list_of vs) ids)
    → IfOk r (λ ids. HasParents (Some (view t)) ids)
of_list (Ok ids) t vs is h = inr (vs, is, h)
of_list (Err e) t vs is h = tt
