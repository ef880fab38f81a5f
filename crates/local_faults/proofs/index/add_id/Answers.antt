use Rattle.std.proofs.Common.{List, ℕ, Option, bytes_eq, nat_cmp}
use Rattle.std.specs.Cmp.Lexicographic.{slice_cmp}
use Rattle.std.specs.BTreeMap.{get_by}
use Rattle.std.proofs.lemmas.Map.Text.{btree_map_updates_str}
use Rattle.local_faults.proofs.Indexed.{first_put, absent_text}
use Rattle.local_faults.proofs.index.add_id.Goals as goal

pub returns : goal.returns
returns c = λ q.
    let got : List ℕ → Option ℕ = λ t. get_by (λ k. slice_cmp nat_cmp t k.now) c.args.index.now in
    first_put (got q) (get_by (λ k. slice_cmp nat_cmp q k.now) c.insert.new.self) (bytes_eq c.args.id.now q) c.args.at
    (btree_map_updates_str c.args.id.now c.args.index.now c.insert.new.self _ c.in_ok-insert.ensures.updates q)
    (absent_text got c.args.id.now q c.if-contains_key.ensures)
