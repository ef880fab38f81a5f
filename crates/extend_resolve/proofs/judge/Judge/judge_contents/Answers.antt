use Rattle.std.proofs.Common.{◌≡◌, ◌<◌, ◌+◌, false, length, sym, ap, ◌∙◌, subst, arith}
use Rattle.dtdl_terms.specs.TermViews.{kind_term}
use Rattle.dtdl_terms.specs.declared.spot.Spot.TheVariants as spots
use Rattle.extend_resolve.specs.Machinery.Firsts.{IsLeastFound, AtSpot}
use Rattle.extend_resolve.specs.Machinery.Judges.{Broken, OfContents, IsReady}
use Rattle.std.specs.Option.{option_copied}
use Rattle.extend_resolve.proofs.Gathered.{component_of}
use Rattle.extend_resolve.proofs.Members.{read_named, read_at, read_placed}
use Rattle.extend_resolve.proofs.Firsts.{earlier_least, least_weaker, contents_more, contents_less}
use Rattle.extend_resolve.proofs.Judging.{index_below, composed_nodes, contents_none, contents_skip, no_id}
use Rattle.extend_resolve.proofs.judge.Judge.judge_contents.Goals as goal
use Rattle.extend_resolve.proofs.judge.Judge.judge_contents.Goals.{in-Some+in_ok-found, in_default}

pub index-requires : goal.index-requires
index-requires c =
    let low = index_below c.args.self.now c.args.index c.args.uploaded.now c.requires.judging in
    let same = composed_nodes c.args.self.now c.requires.judging.judge in
    let ok = c.args.self.now.world.composed.ok in
    omega (arith, low, same, ok)

pub returns-then-not-index-clause-least : goal.returns-then-not-index-clause-least
returns-then-not-index-clause-least c =
    let j = c.args.self.now in
    let low : c.args.index < length j.world.composed.items =
    subst (λ n. c.args.index < n) (sym (composed_nodes j c.requires.judging.judge)) (index_below j c.args.index c.args.uploaded.now c.requires.judging) in
    contents_none j c.args.index c.args.uploaded.now c.requires.judging
    (read_at j.world.composed.items _ false c.args.index (read_placed j.world.composed.items c.args.index c.index.result.now low) ∙ sym c.index.ensures ∙ c.if-not-index.true)

pub judge_component-requires-clause-component : goal.judge_component-requires-clause-component
judge_component-requires-clause-component c =
    let low : c.contents.at < length c.args.uploaded.now.interface.contents = subst (λ xs. c.contents.at < length xs) c.as_slice-contents.ensures c.contents-test.true in (
      c.index-contents-at.result,
      read_named c.args.uploaded.now.interface.contents c.as_slice-contents.result.now c.contents.at c.index-contents-at.result low c.as_slice-contents.ensures c.index-contents-at.is,
      component_of (kind_term c.index-contents-at.result.kind) c.in-Some.of.now (sym c.component_of.ensures ∙ ap option_copied c.in-Some.is),
    )

pub contents-preserved : goal.contents-preserved
contents-preserved c =
    let u = c.args.uploaded.now in
    let at = c.contents.at in
    let low : c.contents.at < length c.args.uploaded.now.interface.contents = subst (λ xs. c.contents.at < length xs) c.as_slice-contents.ensures c.contents-test.true in
    elim c.match-component_of.branch [
      | in-Some+in_ok-found w ↦ record {
        ready = subst (λ s. IsReady c.args.self.now s (c.args.index + 1)) (sym w.scratch-is) w.in_ok-found.ensures.ready;
        least = subst (IsLeastFound u (OfContents (Broken c.args.self.now c.args.index u) (at + 1))) (sym (w.first-is ∙ w.earlier-first.ensures))
            (least_weaker u _ (OfContents (Broken c.args.self.now c.args.index u) (at + 1)) _
            (contents_more (Broken c.args.self.now c.args.index u) at) (contents_less (Broken c.args.self.now c.args.index u) at)
            (earlier_least u (OfContents (Broken c.args.self.now c.args.index u) at) (AtSpot (Broken c.args.self.now c.args.index u) (spots.ContentSchema at)) c.contents.first w.in_ok-found.found c.contents.invariant.least w.in_ok-found.ensures.least));
      }
      | in_default w ↦ record {
        ready = subst (λ s. IsReady c.args.self.now s (c.args.index + 1)) (sym w.scratch-is) c.contents.invariant.ready;
        least = subst (IsLeastFound u (OfContents (Broken c.args.self.now c.args.index u) (at + 1))) (sym w.first-is)
            (contents_skip c.args.self.now c.args.index u c.requires.judging at c.contents.first (no_id u.interface at c.index-contents-at.result (read_named u.interface.contents c.as_slice-contents.result.now at c.index-contents-at.result low c.as_slice-contents.ensures c.index-contents-at.is) (sym c.component_of.ensures ∙ ap option_copied w.in_default.is)) c.contents.invariant.least);
      }
    ]

pub returns-clause-least : goal.returns-clause-least
returns-clause-least c =
    let size = ap length c.as_slice-contents.ensures in
    let same : c.contents.at ≡ length c.args.uploaded.now.interface.contents = omega (arith, size, c.contents-test.false, c.contents.auto.at-end) in
    subst (λ n. IsLeastFound c.args.uploaded.now (OfContents (Broken c.args.self.now c.args.index c.args.uploaded.now) n) c.contents.first) same c.contents.invariant.least
