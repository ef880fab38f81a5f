use Rattle.std.proofs.Common.{[], ◌∷◌, Some, refl, inr}
use Rattle.json_tree.specs.View.{view}
use Rattle.local_rules.specs.Breaches.{BreaksAlone}
use Rattle.local_rules.specs.Machinery.Firsts.{id_rules}
use Rattle.local_rules.specs.declared.role.Role.TheVariants as role
use Rattle.local_rules.specs.declared.rule.LocalRule.TheVariants as rule
use Rattle.local_rules.proofs.Firsts.{first_before, first_behind, first_one}
use Rattle.local_rules.proofs.own.schema_rule.Goals as goal

pub returns-in-Some : goal.returns-in-Some
returns-in-Some c =
    inr (
      λ missing. let is = c.lacks_key.ensures.1 missing in let isnt = c.if-lacks_key.false in cc,
      first_before (λ one. BreaksAlone one (role.Schema c.args.part) (view c.args.tree.now)) id_rules (rule.BadMapKey ∷ []) (Some c.in-Some.rule) c.in-Some.rule c.in-Some.ensures refl,
    )

pub returns-in-None : goal.returns-in-None
returns-in-None c =
    inr (
      λ missing. let is = c.lacks_key.ensures.1 missing in let isnt = c.if-lacks_key.false in cc,
      first_behind (λ one. BreaksAlone one (role.Schema c.args.part) (view c.args.tree.now)) id_rules (rule.BadMapKey ∷ []) c.then_some.result c.in-None.ensures
          (first_one (λ one. BreaksAlone one (role.Schema c.args.part) (view c.args.tree.now)) rule.BadMapKey c.is_bad_map_key.result c.then_some.result c.is_bad_map_key.ensures c.then_some.ensures),
    )
