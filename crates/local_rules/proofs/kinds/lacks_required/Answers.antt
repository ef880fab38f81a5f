use Rattle.std.proofs.Common.{◌↔◌, List, IsTrue, sym, subst}
use Rattle.json_tree.specs.View.{members_view}
use Rattle.local_rules.specs.Kinds.{LacksKeyOf}
use Rattle.local_rules.specs.declared.key.Key.{Key}
use Rattle.local_rules.proofs.Wanted.{needed_plain}
use Rattle.local_rules.proofs.kinds.lacks_required.Goals as goal

pub returns-in_default : goal.returns-in_default
returns-in_default c =
    subst (λ (ks : List Key). IsTrue c.lacks_key_of.result ↔ LacksKeyOf ks (members_view c.args.members.now))
    (sym (needed_plain c.args.role c.args.element c.in_default.not-NamedSchema)) c.lacks_key_of.ensures
