use Rattle.std.proofs.Common.{[], ◌∷◌, refl}
use Rattle.json_tree.specs.View.{members_view}
use Rattle.local_rules.proofs.Wanted.{lacks_first, lacks_later, lacks_rest}
use Rattle.local_rules.proofs.kinds.lacks_two.Goals as goal

pub returns-then-lacks : goal.returns-then-lacks
returns-then-lacks c = (λ _. lacks_first c.args.first (c.args.second ∷ []) (members_view c.args.members.now) (c.lacks.ensures.missing.0 c.if-lacks.true), λ _. refl)

pub returns : goal.returns
returns c =
    let ms = members_view c.args.members.now in (
      λ h. lacks_later c.args.first (c.args.second ∷ []) ms (c.lacks-2.ensures.only.0 h),
      λ h. c.lacks-2.ensures.only.1 (lacks_rest c.args.first (c.args.second ∷ []) ms (λ none. let is = c.lacks.ensures.missing.1 none in let isnt = c.if-lacks.false in cc) h),
    )
