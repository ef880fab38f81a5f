use Rattle.std.proofs.Common.{◌≡◌, ◌+◌, ℕ, List, map, take, drop, [], Bor, nat_cmp}
use Rattle.std.specs.Cmp.Lexicographic.{slice_cmp}
use Rattle.std.specs.BTreeSet.{contains}
use Rattle.json_read.specs.Machinery.Ways.{has_key, repeat_at}
use Rattle.json_read.proofs.keys.first_repeat_of_many.Given as goal

abbrev pub invariant-loop-at : goal.invariant-loop-at
invariant-loop-at l = record {
  first : l.at + repeat_at (map (λ m. m.key) (take l.at l.members)) (map (λ m. m.key) (drop l.at l.members)) ≡ repeat_at [] (map (λ m. m.key) l.members);
  seen : (q : Bor (List ℕ)) → contains (λ x y. slice_cmp nat_cmp x.now y.now) l.seen q ≡ has_key (map (λ m. m.key) (take l.at l.members)) q.now;
}
