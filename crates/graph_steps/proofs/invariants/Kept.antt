-- Relationships that stay well typed, where what they lead from and to keeps its model; and sums that fall.
use Rattle.std.proofs.Common.{◌≡◌, ℕ, ◌≤◌, List, [], ◌∷◌, map, length, Bool, true, false, cond, Option, Some, None, ap, ◌∙◌, arith}
use Rattle.std.specs.Prelude.{sum}
use Rattle.std.specs.Map.{remove_entry, values_of}
use Rattle.std.proofs.lemmas.List.Sums.{sum-map}
use Rattle.dt_base.specs.names.Grammar.{Identifier}
use Rattle.dtdl_terms.specs.TermViews.{kind_term}
use Rattle.dtdl_terms.specs.declared.interface.Interface.{Interface}
use Rattle.rel_graph.specs.Edges.{named}
use Rattle.graph_steps.specs.States.{State, Twin, Link, interface_of, twin_at}
use Rattle.graph_steps.specs.Typed.{target_of, most_of, SuitsTarget, IsAtMost, FitsSource, LinkIsTyped}
use Rattle.graph_steps.proofs.invariants.Keyed.{entries, values-entries, sum-without}

pub fewer : (o : Option ℕ) (m n : ℕ) → n ≤ m → IsAtMost o m → IsAtMost o n
fewer None m n l h = tt
fewer (Some most) m n l h = omega (arith, l, h)

-- ---- what is left has no more
module _ {K X : Type 0} (key : X → K) (test : K → Bool) where
  pub bytes-without : (f : X → ℕ) (xs : List X) → sum (map f (values_of (remove_entry test (entries key xs)))) ≤ sum (map f xs)
  bytes-without f xs =
      let less = sum-without key f test xs in
      let left = sum-map f (values_of (remove_entry test (entries key xs))) in
      let all = sum-map f xs in
      omega (arith, less, left, all)

  pub length-without : (xs : List X) → length (values_of (remove_entry test (entries key xs))) ≤ length xs
  length-without [] = omega arith
  length-without (x ∷ xs) =
      elim (test (key x)) as (λ b. length (values_of (cond b (entries key xs) ((key x, x) ∷ remove_entry test (entries key xs)))) ≤ length (x ∷ xs)) [
        | true ↦ let same : length (values_of (entries key xs)) ≡ length xs = ap length (values-entries key xs) in omega (arith, same)
        | false ↦ let later = length-without xs in omega (arith, later)
      ]

-- ---- the same models, other twins and relationships
-- The twin of this id had this model before.
abbrev pub HadModel : State → List ℕ → Twin → Type 0
HadModel s id t = (u : Twin) × (twin_at id s ≡ Some u) × (u.model ≡ t.model)

module _ (s : State) (ts : List Twin) (ls : List Link) where
  abbrev next : State
  next = record { models = s.models; twins = ts; links = ls }

  suits : (o : Option Identifier) (t u : Twin) → u.model ≡ t.model → SuitsTarget s o u → SuitsTarget next o t
  suits None t u same h = tt
  suits (Some id) t u same h = λ i live. h i (ap (λ (m : Identifier). interface_of s m) same ∙ live)

  pub link_kept : (l : Link) → ((t : Twin) → twin_at l.source next ≡ Some t → HadModel s l.source t) → ((t : Twin) → twin_at l.target next ≡ Some t → HadModel s l.target t)
      → ((u : Twin) (i : Interface) → twin_at l.source s ≡ Some u → interface_of s u.model ≡ Some i → (f : FitsSource s i l) → IsAtMost (most_of (kind_term f.content.content.kind)) (named l.source l.name ls))
      → LinkIsTyped s l → LinkIsTyped next l
  link_kept l from to few typed = λ t i found live.
      let was = from t found in
      let live_before : interface_of s was.0.model ≡ Some i = ap (λ (m : Identifier). interface_of s m) was.2 ∙ live in
      let f : FitsSource s i l = typed was.0 i was.1 live_before in
      record {
        content = f.content;
        declared = f.declared;
        unbroken = f.unbroken;
        target = λ u there. let had = to u there in suits (target_of (kind_term f.content.content.kind)) u had.0 had.2 (f.target had.0 had.1);
        few = few was.0 i was.1 live_before f;
      }
