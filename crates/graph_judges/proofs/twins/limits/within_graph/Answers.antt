use Rattle.std.proofs.Common.{unwrap_or, refl, ap, ◌∙◌, arith}
use Rattle.std.specs.Option.{option_map}
use Rattle.graph_steps.specs.bodies.Kept.{twin_view}
use Rattle.graph_steps.specs.held.Held.{state_of}
use Rattle.graph_steps.specs.States.{with_twin}
use Rattle.graph_judges.proofs.twins.Sizes.{size, bytes_within, bytes_with, over_twins, over_bytes, not_over}
use Rattle.graph_judges.proofs.twins.limits.within_graph.Goals as goal

pub returns-then-twins_with-gt-MOST_TWINS-clause-full : goal.returns-then-twins_with-gt-MOST_TWINS-clause-full
returns-then-twins_with-gt-MOST_TWINS-clause-full c =
    let t = twin_view c.args.twin in
    let long = c.requires.size in
    let low = c.requires.short in
    let count = c.twins_with.ensures t c.requires.there in
    let many = c.if-twins_with-gt-MOST_TWINS.true in
    over_twins (with_twin t (state_of c.args.lent.now)) t (omega (arith, long, low)) (omega (arith, count, many))

pub overflow_sub-bytes : goal.overflow_sub-bytes
overflow_sub-bytes c =
    let within = bytes_within (state_of c.args.lent.now) c.requires.typed c.args.twin.id in
    let had = c.bytes_before-before.ensures ∙ ap (λ o. unwrap_or (option_map size o) 0) c.requires.there in
    let all = c.bytes.ensures in
    omega (arith, within, had, all)

pub returns-then-bytes-before-gt-MOST_GRAPH_BYTES-clause-full : goal.returns-then-bytes-before-gt-MOST_GRAPH_BYTES-clause-full
returns-then-bytes-before-gt-MOST_GRAPH_BYTES-clause-full c =
    let s = state_of c.args.lent.now in
    let t = twin_view c.args.twin in
    let long = c.requires.size in
    let low = c.requires.short in
    let count = c.twins_with.ensures t c.requires.there in
    let few = c.if-twins_with-gt-MOST_TWINS.false in
    let had = c.bytes_before-before.ensures ∙ ap (λ o. unwrap_or (option_map size o) 0) c.requires.there in
    let all = c.bytes.ensures in
    let put = bytes_with s c.requires.typed t in
    let much = c.if-bytes-before-gt-MOST_GRAPH_BYTES.true in
    over_bytes (with_twin t s) t (omega (arith, long, low)) (omega (arith, count, few)) (omega (arith, long, had, all, put, much))

pub returns-clause-full : goal.returns-clause-full
returns-clause-full c =
    let s = state_of c.args.lent.now in
    let t = twin_view c.args.twin in
    let long = c.requires.size in
    let low = c.requires.short in
    let count = c.twins_with.ensures t c.requires.there in
    let few = c.if-twins_with-gt-MOST_TWINS.false in
    let had = c.bytes_before-before.ensures ∙ ap (λ o. unwrap_or (option_map size o) 0) c.requires.there in
    let all = c.bytes.ensures in
    let put = bytes_with s c.requires.typed t in
    let little = c.if-bytes-before-gt-MOST_GRAPH_BYTES.false in
    (not_over (with_twin t s) t (omega (arith, long, low)) (omega (arith, count, few)) (omega (arith, long, had, all, put, little)), refl)
