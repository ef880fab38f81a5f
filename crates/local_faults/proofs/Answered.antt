-- What the walk answers, by the arms and exits of its functions.
use Rattle.std.proofs.Common.{◌≡◌, ℕ, ◌+◌, ◌⊎◌, inl, inr, Bool, List, [], ◌∷◌, ◌++◌, Option, Some, None, Result, refl, sym, ap, subst, ◌∙◌}
use Rattle.std.specs.Result.{IfOk}
use Rattle.std.specs.Global.{Vec}
use Rattle.std.specs.Borrow.{Bor}
use Rattle.std.specs.BTreeSet.{BTreeSet}
use Rattle.json_decimal.specs.Number.{Number}
use Rattle.json_decimal.specs.Decimals.{number_of}
use Rattle.json_decimal.specs.declared.decimal.Decimal.{Decimal}
use Rattle.json_tree.specs.Values.{Json, null, truth, number, text, Members}
use Rattle.json_tree.specs.View.{view}
use Rattle.json_tree.specs.declared.tree.Tree.{Tree}
use Rattle.json_tree.specs.declared.tree.Tree as variants
use Rattle.json_tree.proofs.Views.{view-Null, view-Bool, view-Number, view-Text}
use Rattle.local_faults.proofs.Parts.{leaf_of}
use Rattle.json_tree.specs.Places.{IsPart}
use Rattle.local_rules.specs.Machinery.Marks.{part_marked}
use Rattle.local_rules.specs.declared.rule.LocalRule.{LocalRule}
use Rattle.local_rules.specs.declared.marks.MarkedRole.{MarkedRole}
use Rattle.local_faults.specs.Machinery.Walks.{IsBrokenFrom, IsFirstBroken, IsNoted, Walks, WalksPart, WalksClear, IsWalkedTo, IsClearHere, JudgesMarked, found_by}
use Rattle.local_faults.proofs.IdSets.{if_ok}
use Rattle.local_faults.proofs.Walked.{IsNoText, here_after, walks_after, walked_leaf, judged, part_found, part_walked}

abbrev Ids : Type 0
Ids = BTreeSet (Bor (List ℕ))

-- the value itself breaks no rule, and is a list or an object
none_judged : (ms : Members Number) (before now : Ids) (r : MarkedRole) (v w : Json) (found : Option LocalRule) → JudgesMarked ms before now r v found → found ≡ None → v ≡ w
    → JudgesMarked ms before now r w None
none_judged ms before now r v w found j none e =
    subst (λ (x : Json). JudgesMarked ms before now r x None) e (subst (λ (o : Option LocalRule). JudgesMarked ms before now r v o) none j)

clear_after : (ms : Members Number) (before now : Ids) (r : MarkedRole) (v w : Json) (found : Option LocalRule) → JudgesMarked ms before now r v found → found ≡ None → v ≡ w
    → IsNoText w → IsClearHere ms now r w
clear_after ms before now r v w found j none e no_text = here_after ms before now r w (none_judged ms before now r v w found j none e) no_text

pub ended_after : {E : Type 0} (ms : Members Number) (before now after : Ids) (r : MarkedRole) (v w : Json) (found : Option LocalRule) → JudgesMarked ms before now r v found → found ≡ None → v ≡ w
    → IsNoText w → (steps : Vec ℕ) (result : Result (Option LocalRule) E) → IfOk result (λ rule. WalksClear ms now after r w (found_by steps rule))
    → IfOk result (λ rule. Walks ms before after r v (found_by steps rule))
ended_after ms before now after r v w found j none e no_text steps result ok =
    if_ok result (λ rule. WalksClear ms now after r w (found_by steps rule)) (λ rule. Walks ms before after r v (found_by steps rule))
    (λ rule walks. subst (λ (x : Json). Walks ms before after r x (found_by steps rule)) (sym e) (walks_after ms before now after r w (found_by steps rule) (none_judged ms before now r v w found j none e) no_text (walks (clear_after ms before now r v w found j none e no_text)))) ok

-- it breaks none, and is a leaf
pub leaf_after : (ms : Members Number) (before after : Ids) (r : MarkedRole) (v w : Json) (found : Option LocalRule) → JudgesMarked ms before after r v found → found ≡ None → v ≡ w
    → ((i : ℕ) (part : Json) → IsPart w i part → ⊥) → Walks ms before after r v None
leaf_after ms before after r v w found j none e leaf =
    subst (λ (x : Json). Walks ms before after r x None) (sym e) (walked_leaf ms before after r w (none_judged ms before after r v w found j none e) leaf)

-- it breaks one
pub judged_so : (ms : Members Number) (before after end : Ids) (r : MarkedRole) (v : Json) (steps : Vec ℕ) (rule : LocalRule) (found : Option LocalRule) → JudgesMarked ms before after r v found
    → found ≡ Some rule → steps.items ≡ [] → Walks ms before end r v (found_by steps (Some rule))
judged_so ms before after end r v steps rule found j some empty =
    judged ms before after end r v (record { steps = steps; rule = rule }) rule (subst (λ (o : Option LocalRule). JudgesMarked ms before after r v o) some j) empty refl

-- ---- in the loops
found_above : (ms : Members Number) (before now after end : Ids) (r : MarkedRole) (v : Json) (at : ℕ) (s : Option MarkedRole) (part : Json) (inner up : Vec ℕ) (rule : LocalRule) (found answer : Option LocalRule)
    → IsWalkedTo ms before now r v at → IsPart v at part → part_marked r v at ≡ s → WalksPart ms now after s part (found_by inner found) → found ≡ Some rule
    → (answer ≡ Some rule) × (up.items ≡ inner.items ++ at ∷ []) → WalksClear ms before end r v (found_by up answer)
found_above ms before now after end r v at s part inner up rule found answer walked p pr w some e = λ here.
    let f = part_found ms before now after r v at s part (record { steps = inner; rule = rule }) walked here p pr (subst (λ (o : Option LocalRule). WalksPart ms now after s part (found_by inner o)) some w) in
    subst (λ (o : Option LocalRule). Walks ms before end r v (found_by up o)) (sym e.0) (record {
      first = subst (λ (steps : List ℕ). IsFirstBroken (IsBrokenFrom ms (IsNoted before) r v) steps rule) (sym e.1) f;
      ids = λ none. absurd cc;
    })

pub found_in_part : {E : Type 0} (ms : Members Number) (before now after end : Ids) (r : MarkedRole) (v : Json) (at : ℕ) (s : Option MarkedRole) (part : Json) (inner up : Vec ℕ) (rule : LocalRule) (found : Option LocalRule)
    → IsWalkedTo ms before now r v at → IsPart v at part → part_marked r v at ≡ s → WalksPart ms now after s part (found_by inner found) → found ≡ Some rule
    → (result : Result (Option LocalRule) E) → IfOk result (λ answer. (answer ≡ Some rule) × (up.items ≡ inner.items ++ at ∷ []))
    → IfOk result (λ answer. WalksClear ms before end r v (found_by up answer))
found_in_part ms before now after end r v at s part inner up rule found walked p pr w some result ok =
    if_ok result (λ answer. (answer ≡ Some rule) × (up.items ≡ inner.items ++ at ∷ [])) (λ answer. WalksClear ms before end r v (found_by up answer))
    (λ answer e. found_above ms before now after end r v at s part inner up rule found answer walked p pr w some e) ok

pub none_in_part : (ms : Members Number) (before now after : Ids) (r : MarkedRole) (v : Json) (at : ℕ) (s : Option MarkedRole) (part : Json) (steps : Vec ℕ) (found : Option LocalRule)
    → IsWalkedTo ms before now r v at → IsPart v at part → part_marked r v at ≡ s
    → WalksPart ms now after s part (found_by steps found) → found ≡ None → IsWalkedTo ms before after r v (at + 1)
none_in_part ms before now after r v at s part steps found walked p pr w none =
    part_walked ms before now after r v at s part walked p pr (subst (λ (o : Option LocalRule). WalksPart ms now after s part (found_by steps o)) none w)

-- where a leaf was one of several
pub leaf_any : (tree : Tree) → (tree ≡ variants.Null) ⊎ ((b : Bool) × (tree ≡ variants.Bool b)) ⊎ ((d : Decimal) × (tree ≡ variants.Number d)) ⊎ ((t : List ℕ) × (tree ≡ variants.Text t))
    → (i : ℕ) (part : Json) → IsPart (view tree) i part → ⊥
leaf_any tree (inl e) = leaf_of (view tree) null (ap view e ∙ view-Null) (λ i part p. p)
leaf_any tree (inr (inl (b, e))) = leaf_of (view tree) (truth b) (ap view e ∙ view-Bool b) (λ i part p. p)
leaf_any tree (inr (inr (inl (d, e)))) = leaf_of (view tree) (number (number_of d)) (ap view e ∙ view-Number d) (λ i part p. p)
leaf_any tree (inr (inr (inr (t, e)))) = leaf_of (view tree) (text t) (ap view e ∙ view-Text t) (λ i part p. p)
