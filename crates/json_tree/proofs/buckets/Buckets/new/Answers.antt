use Rattle.std.proofs.Common.{rules, ◌<◌, ◌+◌, ◌-◌, ◌*◌, ◌%◌, length, slice_index, false, arith}
use Rattle.std.proofs.lemmas.List.{get_or-replicate}
use Rattle.std.proofs.lemmas.Nat.{mod_below}
use Rattle.json_tree.specs.Buckets.{bucket_of}
use Rattle.json_tree.proofs.buckets.Buckets.new.Goals as goal

pub returns : goal.returns
returns c t used =
    let below : bucket_of t < 64 = mod_below (length t % 64 + 3 * slice_index t 0 + 17 * slice_index t (length t - 1)) 64 (omega arith) in
    let empty = get_or-replicate 64 (bucket_of t) false false below in
    search rules
