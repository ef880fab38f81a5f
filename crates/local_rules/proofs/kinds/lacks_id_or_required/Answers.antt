use Rattle.std.proofs.Common.{refl}
use Rattle.json_tree.specs.View.{members_view}
use Rattle.local_rules.specs.Tables.{required}
use Rattle.local_rules.specs.declared.key.Key.TheVariants as key
use Rattle.local_rules.proofs.Wanted.{lacks_first, lacks_later, lacks_rest}
use Rattle.local_rules.proofs.kinds.lacks_id_or_required.Goals as goal

pub returns-then-lacks : goal.returns-then-lacks
returns-then-lacks c = (λ _. lacks_first key.Id (required c.args.element) (members_view c.args.members.now) (c.lacks.ensures.missing.0 c.if-lacks.true), λ _. refl)

pub returns : goal.returns
returns c =
    let ms = members_view c.args.members.now in (
      λ h. lacks_later key.Id (required c.args.element) ms (c.lacks_key_of.ensures.0 h),
      λ h. c.lacks_key_of.ensures.1 (lacks_rest key.Id (required c.args.element) ms (λ none. let is = c.lacks.ensures.missing.1 none in let isnt = c.if-lacks.false in cc) h),
    )
