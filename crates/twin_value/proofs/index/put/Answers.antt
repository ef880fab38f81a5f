use Rattle.std.proofs.lemmas.Map.Text.{btree_map_updates_str}
use Rattle.twin_value.proofs.index.put.Goals as goal

pub returns : goal.returns
returns g c = λ q. btree_map_updates_str c.args.name.now c.args.values.now c.insert.new.self _ c.in_ok-before.ensures.updates q
