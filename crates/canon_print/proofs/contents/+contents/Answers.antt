use Rattle.std.proofs.Common.{◌≡◌, ◌≤◌, ℕ, List, [], ◌∷◌, ◌++◌, false, Option, OnOk, string_bytes, arith, subst, refl, sym, ap, ◌∙◌}
use Rattle.std.specs.Prelude.{codes}
use Rattle.std.specs.Option.{option_map}
use denote.Param.Weighed.{most}
use Rattle.json_tree.specs.Values.{Json}
use Rattle.json_tree.specs.Printing.{printed}
use Rattle.dtdl_terms.specs.Terms.{ContentTerm, KindTerm, content, relationship}
use Rattle.dtdl_terms.specs.TermViews.{kind_term, content_term, contents_term}
use Rattle.dtdl_terms.specs.declared.content.Content.{Content}
use Rattle.dtdl_terms.proofs.TermViews.{term-Relationship}
use Rattle.dtdl_terms.proofs.content.Content.TheLaws.{the_size}
use Rattle.canon_text.specs.Canonical.{id_value, content_value, writable_value, content_pairs}
use Rattle.canon_text.specs.Objects.{list_in_order, unless_empty}
use Rattle.canon_text.specs.Machinery.Pairs.{content_named}
use Rattle.canon_text.proofs.Pairs.{named_contents}
use Rattle.canon_print.specs.Machinery.Lent.{values_now}
use Rattle.canon_print.specs.Machinery.Bodies.{parts_left}
use Rattle.canon_print.proofs.Parts.{parts_ended}
use Rattle.canon_print.proofs.Lists.{element_printed, list_printed}
use Rattle.canon_print.proofs.Sizes.{most_sorted, element_within}
use Rattle.canon_print.proofs.contents.+contents.Goals as goal

pub push_relationship-returns : goal.push_relationship-returns
push_relationship-returns t c =
    let writable : List (List ℕ × Option Json) = (codes "writable", writable_value c.args.writable) ∷ [] in
    let target : List (List ℕ × Option Json) = (codes "target", option_map id_value c.args.target.now) ∷ writable in
    let properties : List (List ℕ × Option Json) = (codes "properties", unless_empty list_in_order (content_pairs (contents_term c.args.properties.now))) ∷ target in
    c.in_ok-push_str.ensures.bytes ∙ sym (
    c.in_ok-push_relationship_head.ensures properties
    ∙ ap (λ (ps : List (List ℕ × Json)). string_bytes c.push_relationship_head.new.out ++ parts_left false ((codes "properties", unless_empty list_in_order ps) ∷ target)) (named_contents c.args.properties.now)
    ∙ c.in_ok-first.ensures (codes "properties") refl target
    ∙ c.in_ok-first-2.ensures (codes "target") refl writable
    ∙ c.in_ok-push_writable.ensures []
    ∙ parts_ended _ _)

pub push_content-returns-in-Relationship : goal.push_content-returns-in-Relationship
push_content-returns-in-Relationship t c =
    let list = c.as_slice.ensures in
    let given = ap (λ (cs : List Content). content c.args.item.now.name c.args.item.now.common (relationship c.in-Relationship.target (contents_term cs) c.in-Relationship.max c.in-Relationship.writable)) list in
    let kind = ap kind_term c.in-Relationship.is ∙ term-Relationship c.in-Relationship.target c.in-Relationship.properties c.in-Relationship.max c.in-Relationship.writable in
    let same = given ∙ sym (ap (λ (k : KindTerm). content c.args.item.now.name c.args.item.now.common k) kind) in
    subst (λ (u : ContentTerm). OnOk c.push_relationship.result (string_bytes c.push_relationship.new.out ≡ string_bytes c.args.out.now ++ printed (content_value u))) same c.push_relationship.ensures

pub push_lent_contents-loop-position-preserved : goal.push_lent_contents-loop-position-preserved
push_lent_contents-loop-position-preserved t c = rw (c.in_ok-push_content.ensures, c.in_ok-push_separator.ensures)
    (element_printed (λ i. content_value (content_term i)) _ _ c.args.contents.now c.loop-position.position c.index-contents-position.result c.loop-position-test.true c.index-contents-position.is c.loop-position.invariant)

pub push_contents-returns : goal.push_contents-returns
push_contents-returns t c = list_printed content_named _ _ _ c.as_slice.result.now c.args.contents.now c.in_ok-push_str.ensures.bytes (ap values_now c.as_slice.ensures.value ∙ c.in_ok-list.ensures) c.in_ok-push_lent_contents.ensures

pub push_contents-push_lent_contents-requires : goal.push_contents-push_lent_contents-requires
push_contents-push_lent_contents-requires t c =
    let same : most (λ i. the_size i) (values_now c.as_slice.result.now) ≡ most (λ i. the_size i) c.args.contents.now =
    ap (λ (cs : List Content). most (λ i. the_size i) cs) (ap values_now c.as_slice.ensures.value ∙ c.in_ok-list.ensures) ∙ most_sorted (λ i. the_size i) (λ (i : Content). i.name) c.args.contents.now in
    (omega (arith, c.decreases, same), tt)

pub push_lent_contents-push_content-requires : goal.push_lent_contents-push_content-requires
push_lent_contents-push_content-requires t c =
    let within : the_size c.index-contents-position.result.now ≤ most (λ i. the_size i) (values_now c.args.contents.now) =
    element_within (λ i. the_size i) c.args.contents.now c.loop-position.position c.index-contents-position.result c.loop-position-test.true c.index-contents-position.is in
    (omega (arith, c.decreases, within), tt)
