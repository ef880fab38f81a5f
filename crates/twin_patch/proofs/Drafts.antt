-- A value under changes, seen as what it stands for.
use Rattle.std.proofs.Common.{◌≡◌, ℕ, List, Option, Some, None, map, refl, sym, ap, ◌∙◌, rules}
use Rattle.std.specs.BTreeMap.{BTreeMap}
use Rattle.json_tree.specs.Values.{Json, object}
use Rattle.json_tree.specs.View.{view, members_view}
use Rattle.json_tree.specs.declared.tree.Tree.{Tree}
use Rattle.twin_patch.specs.declared.base.Base.{Base}
use Rattle.twin_patch.specs.declared.draft.Draft.{Draft, Absent, Whole, Edited, the_lemmas}
use Rattle.twin_patch.specs.Machinery.Drafts.{draft_view, overlaid, itself, both}
use Rattle.twin_patch.proofs.Merges.{fused}

pub view_absent : draft_view Absent ≡ None
view_absent = search (rules, the_lemmas)

pub view_whole : (tree : Tree) → draft_view (Whole tree) ≡ Some (view tree)
view_whole tree = search (rules, the_lemmas)

view_step : (base : Base) (edits : BTreeMap (List ℕ) Draft)
    → draft_view (Edited base edits) ≡ Some (object (overlaid itself (map (λ (e : List ℕ × Draft). (e.0, draft_view e.1)) edits.entries) (members_view base.members.items)))
view_step base edits = search (rules, the_lemmas)

pub view_edited : (base : Base) (edits : BTreeMap (List ℕ) Draft) → draft_view (Edited base edits) ≡ Some (object (both base edits))
view_edited base edits = view_step base edits ∙ ap (λ ms. Some (object ms)) (fused draft_view edits.entries (members_view base.members.items))
