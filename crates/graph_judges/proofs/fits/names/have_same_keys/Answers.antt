use Rattle.std.proofs.Common.{◌≤◌, ◌<◌, ◌∙◌, length, sym, refl, true≢false, arith}
use Rattle.graph_judges.proofs.fits.SameKeys.{other_length, all_same, other_key, one_more}
use Rattle.graph_judges.proofs.fits.names.have_same_keys.Goals as goal

pub returns-then-a-b : goal.returns-then-a-b
returns-then-a-b c =
    let unlike = c.if-a-b.true in
    (λ h. absurd (true≢false (sym h)), λ same. absurd (other_length c.args.a.now c.args.b.now (λ long. omega (arith, unlike, long)) same))

pub returns-then-ne : goal.returns-then-ne
returns-then-ne c =
    let like = c.if-a-b.false in
    let low : c.members.at < length c.args.a.now = c.members-test.true in
    (λ h. absurd (true≢false (sym h)), λ same. absurd (other_key c.args.a.now c.args.b.now c.members.at c.index-a-at.result c.index-b-at.result low (omega (arith, like, low)) c.index-a-at.is c.index-b-at.is (sym c.if-ne.true ∙ c.ne.ensures) same))

pub members-preserved : goal.members-preserved
members-preserved c =
    let like = c.if-a-b.false in
    let low : c.members.at < length c.args.a.now = c.members-test.true in
    (omega (arith, low), one_more c.args.a.now c.args.b.now c.members.at c.index-a-at.result c.index-b-at.result low (omega (arith, like, low)) c.index-a-at.is c.index-b-at.is (sym c.if-ne.false ∙ c.ne.ensures) c.members.invariant.1)

pub returns : goal.returns
returns c =
    let like = c.if-a-b.false in
    let past : length c.args.a.now ≤ c.members.at = c.members-test.false in
    (λ h. all_same c.args.a.now c.args.b.now c.members.at (omega (arith, like)) past c.members.invariant.1, λ same. refl)
