use Rattle.std.proofs.Common.{◌≡◌, ◌+◌, ℕ, List, map, take, drop, [], true}
use Rattle.json_read.specs.Machinery.Ways.{has_key, repeat_at}
use Rattle.json_tree.specs.Buckets.{IsUsed}
use Rattle.json_read.proofs.keys.first_repeat_of_few.Given as goal

abbrev pub invariant-loop-at : goal.invariant-loop-at
invariant-loop-at l = record {
  first : l.at + repeat_at (map (λ m. m.key) (take l.at l.members)) (map (λ m. m.key) (drop l.at l.members)) ≡ repeat_at [] (map (λ m. m.key) l.members);
  used : (q : List ℕ) → has_key (map (λ m. m.key) (take l.at l.members)) q ≡ true → IsUsed l.buckets q;
}
