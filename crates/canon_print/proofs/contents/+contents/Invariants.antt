use Rattle.std.proofs.Common.{◌≡◌, ◌++◌, ◌+◌, ◌*◌, map, drop, string_bytes}
use denote.Param.Weighed.{most}
use Rattle.json_tree.specs.Values.{elements_of}
use Rattle.json_tree.specs.Printing.{printed_elements}
use Rattle.dtdl_terms.specs.TermViews.{content_term}
use Rattle.dtdl_terms.proofs.content.Content.TheLaws.{the_size}
use Rattle.canon_text.specs.Canonical.{content_value}
use Rattle.canon_print.specs.Machinery.Bodies.{elements_left}
use Rattle.canon_print.specs.Machinery.Lent.{values_now}
use Rattle.canon_print.proofs.contents.+contents.Given as goal

abbrev pub decreases-push_content : goal.decreases-push_content
decreases-push_content l = 5 * goal.size-push_content l

abbrev pub decreases-push_lent_contents : goal.decreases-push_lent_contents
decreases-push_lent_contents l = 5 * most (λ c. the_size c) (values_now l.contents.now) + 1

abbrev pub decreases-push_contents : goal.decreases-push_contents
decreases-push_contents l = 5 * goal.size-push_contents l + 2

abbrev pub decreases-push_optional_contents : goal.decreases-push_optional_contents
decreases-push_optional_contents l = 5 * goal.size-push_optional_contents l + 3

abbrev pub decreases-push_relationship : goal.decreases-push_relationship
decreases-push_relationship l = 5 * goal.size-push_relationship l + 4

-- the text so far and that of the contents that are left are the whole
abbrev pub invariant-push_lent_contents-loop-position : goal.invariant-push_lent_contents-loop-position
invariant-push_lent_contents-loop-position l = string_bytes l.out ++ elements_left l.position (elements_of (map (λ c. content_value (content_term c.now)) (drop l.position l.contents)))
    ≡ string_bytes l.fn.out ++ printed_elements (elements_of (map (λ c. content_value (content_term c.now)) l.contents))
