use Rattle.std.proofs.Common.{◌≡◌, rules}
use Rattle.std.proofs.lemmas.Fn.{always_returns_same}
use Rattle.json_tree.specs.declared.tree.Member.{Member}
use Rattle.twin_patch.specs.Machinery.Orders.{compared_keys}
use Rattle.twin_patch.proofs.Found.{searched}
use Rattle.twin_patch.proofs.base.place_of.Goals as goal

pub returns-clause-stands : goal.returns-clause-stands
returns-clause-stands c = searched c.args.members.now c.args.key.now c.binary_search_by.result c.requires c.binary_search_by.ensures.bound
    (c.binary_search_by.ensures.position (λ (m : Member). compared_keys m.key c.args.key.now) (always_returns_same _ (λ a r. r ≡ compared_keys a.0.now.key c.args.key.now) _ (λ a r q k. search rules)))
