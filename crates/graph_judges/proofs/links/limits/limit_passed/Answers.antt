use Rattle.std.proofs.Common.{unwrap_or, ap, ◌∙◌, arith}
use Rattle.std.specs.Option.{option_map}
use Rattle.graph_steps.specs.bodies.Kept.{link_view}
use Rattle.graph_steps.specs.held.Held.{state_of}
use Rattle.graph_steps.specs.LinkAsks.{with_link}
use Rattle.graph_judges.proofs.links.Passed.{text_size, bytes_put, too_many, too_much, room}
use Rattle.graph_judges.proofs.links.limits.limit_passed.Goals as goal

pub returns-then-links_with-gt-MOST_LINKS : goal.returns-then-links_with-gt-MOST_LINKS
returns-then-links_with-gt-MOST_LINKS c =
    let l = link_view c.args.link.now in
    let long = c.requires.bytes in
    let low = c.requires.short in
    let count = c.links_with.ensures l c.link-there.ensures.at in
    let many = c.if-links_with-gt-MOST_LINKS.true in
    too_many (with_link l (state_of c.args.lent.now)) l (omega (arith, long, low)) (omega (arith, count, many))

pub overflow_sub-bytes : goal.overflow_sub-bytes
overflow_sub-bytes c =
    let put = bytes_put (state_of c.args.lent.now) c.requires.typed (link_view c.args.link.now) in
    let had = c.bytes_before-before.ensures ∙ ap (λ o. unwrap_or (option_map text_size o) 0) c.link-there.ensures.at in
    let all = c.bytes.ensures in
    let long = c.requires.bytes in
    omega (arith, put, had, all, long)

pub returns-then-bytes-before-gt-MOST_GRAPH_BYTES : goal.returns-then-bytes-before-gt-MOST_GRAPH_BYTES
returns-then-bytes-before-gt-MOST_GRAPH_BYTES c =
    let s = state_of c.args.lent.now in
    let l = link_view c.args.link.now in
    let long = c.requires.bytes in
    let low = c.requires.short in
    let count = c.links_with.ensures l c.link-there.ensures.at in
    let few = c.if-links_with-gt-MOST_LINKS.false in
    let had = c.bytes_before-before.ensures ∙ ap (λ o. unwrap_or (option_map text_size o) 0) c.link-there.ensures.at in
    let all = c.bytes.ensures in
    let put = bytes_put s c.requires.typed l in
    let much = c.if-bytes-before-gt-MOST_GRAPH_BYTES.true in
    too_much (with_link l s) l (omega (arith, long, low)) (omega (arith, count, few)) (omega (arith, long, had, all, put, much))

pub returns : goal.returns
returns c =
    let s = state_of c.args.lent.now in
    let l = link_view c.args.link.now in
    let long = c.requires.bytes in
    let low = c.requires.short in
    let count = c.links_with.ensures l c.link-there.ensures.at in
    let few = c.if-links_with-gt-MOST_LINKS.false in
    let had = c.bytes_before-before.ensures ∙ ap (λ o. unwrap_or (option_map text_size o) 0) c.link-there.ensures.at in
    let all = c.bytes.ensures in
    let put = bytes_put s c.requires.typed l in
    let little = c.if-bytes-before-gt-MOST_GRAPH_BYTES.false in
    room (with_link l s) l (omega (arith, long, low)) (omega (arith, count, few)) (omega (arith, long, had, all, put, little))
