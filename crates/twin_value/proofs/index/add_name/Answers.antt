use Rattle.std.proofs.Common.{List, ℕ, bytes_eq, nat_cmp}
use Rattle.std.specs.Cmp.Lexicographic.{slice_cmp}
use Rattle.std.specs.BTreeMap.{get_by}
use Rattle.std.proofs.lemmas.Map.Text.{btree_map_updates_str}
use Rattle.twin_value.proofs.Indexed.{first_put, absent_name}
use Rattle.twin_value.proofs.index.add_name.Goals as goal

pub returns : goal.returns
returns g c = λ q.
    let got = λ (t : List ℕ). get_by (λ k. slice_cmp nat_cmp t k.now) c.args.places.now in
    first_put (got q) (get_by (λ k. slice_cmp nat_cmp q k.now) c.insert.new.self) (bytes_eq c.args.name.now q) c.args.item
    (btree_map_updates_str c.args.name.now c.args.places.now c.insert.new.self _ c.in_ok-insert.ensures.updates q)
    (absent_name got c.args.name.now q c.if-contains_key.ensures)
