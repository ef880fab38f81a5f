use Rattle.std.proofs.Common.{◌≡◌, subst, Option, Some, None}
use Rattle.json_tree.specs.View.{view}
use Rattle.twin_value.specs.Machinery.Views.{role_view}
use Rattle.twin_value.specs.Breaches.{IsValueBreach}
use Rattle.twin_value.specs.Machinery.Walks.{FindsFirstBodyBreach}
use Rattle.twin_value.specs.declared.walk.Found.{Found}
use Rattle.twin_value.proofs.Answered.{walked, breach_not, placed}
use Rattle.twin_value.proofs.fit.fit_value.Goals as goal

pub returns-in-Some-clause-first : goal.returns-in-Some-clause-first
returns-in-Some-clause-first c =
    let first = walked c.args.named.now c.in_ok-index.index c.args.schema.now (view c.args.tree.now) (role_view c.value_of.result) c.in_ok-index.ensures c.value_of.ensures c.in_ok-found.field-0 c.in_ok-found.ensures.first in
    placed c.args.named.now c.args.schema.now (view c.args.tree.now) c.in-Some.found c.breach_of.result.0.steps c.breach_of.result.1 c.breach_of.ensures.place c.breach_of.ensures.code
    (subst (λ (o : Option Found). FindsFirstBodyBreach (IsValueBreach c.args.named.now c.args.schema.now (view c.args.tree.now)) o) c.in-Some.is first)

pub returns-in-Some-clause-fits : goal.returns-in-Some-clause-fits
returns-in-Some-clause-fits c =
    let first = walked c.args.named.now c.in_ok-index.index c.args.schema.now (view c.args.tree.now) (role_view c.value_of.result) c.in_ok-index.ensures c.value_of.ensures c.in_ok-found.field-0 c.in_ok-found.ensures.first in
    let is = placed c.args.named.now c.args.schema.now (view c.args.tree.now) c.in-Some.found c.breach_of.result.0.steps c.breach_of.result.1 c.breach_of.ensures.place c.breach_of.ensures.code
    (subst (λ (o : Option Found). FindsFirstBodyBreach (IsValueBreach c.args.named.now c.args.schema.now (view c.args.tree.now)) o) c.in-Some.is first) in (
      λ none. absurd (let e : Some c.breach_of.result ≡ None = none in cc),
      λ h. absurd (breach_not c.args.named.now c.args.schema.now (view c.args.tree.now) c.breach_of.result.0.steps c.breach_of.result.1 is h),
    )
