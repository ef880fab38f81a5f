use Rattle.std.proofs.Common.{rules, ◌≡◌, ◌≢◌, ◌<◌, ◌∙◌, [], sym, refl}
use Rattle.one_history.specs.declared.history.Turn.TheVariants.{Waits}
use Rattle.one_history.specs.Machinery.Rules.{view}
use Rattle.one_history.proofs.Asked.{asks_draw}
use Rattle.one_history.proofs.shared.Shared.draw.Goals as goal

pub compare_exchange-found-requires : goal.compare_exchange-found-requires
compare_exchange-found-requires g c = let room : c.loop.next < 18446744073709551615 = search rules in
    (search rules, search rules, asks_draw _ _ _ _ _ _ _ _ _ _ (c.requires.idle.0, c.loop.invariant.2 ∙ c.requires.idle.1) room refl)

pub returns-then-found-next-clause-drawn : goal.returns-then-found-next-clause-drawn
returns-then-found-next-clause-drawn g c = let hit : c.compare_exchange-found.result ≡ c.loop.next = search rules in
    let r = (c.compare_exchange-found.ensures.2 c.requires.idle.0 (c.loop.invariant.2 ∙ c.requires.idle.1)).0 hit in
    r ∙ (λ i. (view (sym c.requires.idle.1 i).0.members [] (Waits (hit i)), []))

pub loop-preserved-then-next-lt18446744073709551615 : goal.loop-preserved-then-next-lt18446744073709551615
loop-preserved-then-next-lt18446744073709551615 g c = let miss : c.compare_exchange-found.result ≢ c.loop.next = search rules in
    (search rules, search rules, (c.compare_exchange-found.ensures.2 c.requires.idle.0 (c.loop.invariant.2 ∙ c.requires.idle.1)).1 miss ∙ c.loop.invariant.2)
