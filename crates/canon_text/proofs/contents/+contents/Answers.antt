use Rattle.std.proofs.Common.{◌∙◌, ℕ, List, [], ◌∷◌, ◌++◌, Option, Some, ap, sym}
use Rattle.std.specs.Prelude.{codes}
use Rattle.std.specs.Option.{option_map}
use Rattle.json_tree.specs.Values.{Json, text}
use Rattle.dtdl_terms.specs.TermViews.{contents_term}
use Rattle.canon_text.specs.Objects.{list_in_order, unless_empty}
use Rattle.canon_text.specs.Canonical.{element_parts, most_value, content_pairs}
use Rattle.std.proofs.Common.{◌≡◌, IfOk, subst}
use Rattle.json_tree.specs.View.{view}
use Rattle.dtdl_terms.specs.Terms.{ContentTerm, KindTerm, content, relationship}
use Rattle.dtdl_terms.specs.TermViews.{kind_term}
use Rattle.dtdl_terms.specs.declared.content.Content.{Content}
use Rattle.dtdl_terms.proofs.TermViews.{term-Relationship}
use Rattle.canon_text.specs.Canonical.{content_value}
use Rattle.canon_text.proofs.Pairs.{named_contents}
use Rattle.canon_text.proofs.contents.+contents.Goals as goal

pub relationship-returns : goal.relationship-returns
relationship-returns t c =
    let properties = unless_empty list_in_order (content_pairs (contents_term c.args.properties.now)) in
    let parts : List (List ℕ × Option Json) = element_parts (Some (text (codes "Relationship"))) c.args.common.now
    ++ (codes "maxMultiplicity", option_map most_value c.args.bound) ∷ (codes "name", Some (text c.args.name.now)) ∷ [] in
    let told = c.in_ok-properties-2.ensures ∙ ap (unless_empty list_in_order) (c.in_ok-properties.ensures ∙ sym (named_contents c.args.properties.now)) in
    c.in_ok-tree.ensures parts properties told c.in_ok-head.ensures

pub content-returns-in-Relationship : goal.content-returns-in-Relationship
content-returns-in-Relationship t c =
    let name = c.as_str.ensures.same in
    let list = c.as_slice.ensures in
    let given = ap (λ (n : List ℕ). content n c.args.item.now.common (relationship c.in-Relationship.target (contents_term c.as_slice.result.now) c.in-Relationship.max c.in-Relationship.writable)) name
    ∙ ap (λ (cs : List Content). content c.args.item.now.name c.args.item.now.common (relationship c.in-Relationship.target (contents_term cs) c.in-Relationship.max c.in-Relationship.writable)) list in
    let kind = ap kind_term c.in-Relationship.is ∙ term-Relationship c.in-Relationship.target c.in-Relationship.properties c.in-Relationship.max c.in-Relationship.writable in
    let same = given ∙ sym (ap (λ (k : KindTerm). content c.args.item.now.name c.args.item.now.common k) kind) in
    subst (λ (u : ContentTerm). IfOk c.relationship.result (λ tree. view tree ≡ content_value u)) same c.relationship.ensures
