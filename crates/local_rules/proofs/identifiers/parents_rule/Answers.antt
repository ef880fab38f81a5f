use Rattle.std.proofs.Common.{[], ◌∷◌, Some, refl, rules}
use Rattle.json_tree.specs.View.{view}
use Rattle.local_rules.specs.Breaches.{BreaksAlone}
use Rattle.local_rules.specs.Machinery.Firsts.{id_rules}
use Rattle.local_rules.specs.declared.rule.LocalRule.TheVariants as rule
use Rattle.local_rules.specs.declared.role.Role.TheVariants as role
use Rattle.local_rules.proofs.Firsts.{first_before, first_behind}
use Rattle.local_rules.proofs.identifiers.parents_rule.Goals as goal

pub returns-in-Some : goal.returns-in-Some
returns-in-Some c =
    first_before (λ one. BreaksAlone one role.Extends (view c.args.tree.now)) id_rules (rule.TooManyParents ∷ []) (Some c.in-Some.rule) c.in-Some.rule c.in-Some.ensures refl

pub returns-in-None : goal.returns-in-None
returns-in-None c =
    first_behind (λ one. BreaksAlone one role.Extends (view c.args.tree.now)) id_rules (rule.TooManyParents ∷ []) c.then_some.result c.in-None.ensures (search rules)
