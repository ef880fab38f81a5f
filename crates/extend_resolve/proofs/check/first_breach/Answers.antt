use Rattle.std.proofs.Common.{◌≡◌, ◌<◌, ◌+◌, length, map, take, Some, sym, ap, ◌∙◌, subst, arith}
use Rattle.std.specs.Prelude.{slice_get}
use Rattle.std.proofs.lemmas.Option.{slice_get_within}
use Rattle.extend_resolve.specs.Breaches.{BreaksSetRule}
use Rattle.extend_resolve.specs.SetRules.{together}
use Rattle.extend_resolve.specs.Machinery.Firsts.{IsLeastFound}
use Rattle.extend_resolve.proofs.Members.{read_placed}
use Rattle.extend_resolve.proofs.Judging.{first_is, sound_more}
use Rattle.extend_resolve.proofs.check.first_breach.Goals as goal

pub returns-in-Some : goal.returns-in-Some
returns-in-Some c =
    let u = c.index-new-index.result in
    let j = c.in_ok-judge.judge in
    let least = subst (IsLeastFound u (λ r s. BreaksSetRule (together j.set.now j.new.now) (map (λ v. v.interface) (take c.new.index j.new.now)) u.interface r s)) c.in-Some.is c.in_ok-found.ensures.least in
    let one = subst (λ set. IsLeastFound u (λ r s. BreaksSetRule (together set j.new.now) (map (λ v. v.interface) (take c.new.index j.new.now)) u.interface r s) (Some c.in-Some.found)) c.in_ok-judge.ensures.set least in
    let two = subst (λ new. IsLeastFound u (λ r s. BreaksSetRule (together c.args.set.now new) (map (λ v. v.interface) (take c.new.index new)) u.interface r s) (Some c.in-Some.found)) c.in_ok-judge.ensures.new one in
    first_is c.args.set.now c.args.new.now c.new.index u c.in-Some.found (read_placed c.args.new.now c.new.index u c.new-test.true ∙ ap Some (sym c.index-new-index.is)) two c.new.invariant.sound

pub new-preserved : goal.new-preserved
new-preserved c =
    let u = c.index-new-index.result in
    let j = c.in_ok-judge.judge in
    let least = subst (IsLeastFound u (λ r s. BreaksSetRule (together j.set.now j.new.now) (map (λ v. v.interface) (take c.new.index j.new.now)) u.interface r s)) c.in_default.is c.in_ok-found.ensures.least in
    record {
      ready = c.in_ok-found.ensures.ready;
      sound = sound_more c.args.set.now c.args.new.now c.new.index u (read_placed c.args.new.now c.new.index u c.new-test.true ∙ ap Some (sym c.index-new-index.is))
          (λ r s h. least r s
          (subst (λ new. BreaksSetRule (together j.set.now new) (map (λ v. v.interface) (take c.new.index new)) u.interface r s) (sym c.in_ok-judge.ensures.new)
          (subst (λ set. BreaksSetRule (together set c.args.new.now) (map (λ v. v.interface) (take c.new.index c.args.new.now)) u.interface r s) (sym c.in_ok-judge.ensures.set) h)))
          c.new.invariant.sound;
    }

pub returns : goal.returns
returns c b broken =
    let low = slice_get_within c.args.new.now b.index broken.0 broken.1 in
    c.new.invariant.sound b (omega (arith, low, c.new-test.false)) broken
