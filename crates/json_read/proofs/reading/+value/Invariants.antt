use Rattle.std.proofs.Common.{◌≤◌, ◌+◌, ◌*◌, length, List}
use Rattle.std.specs.Option.{option_map}
use Rattle.json_read.specs.Machinery.Automaton.{Frame}
use Rattle.json_read.proofs.Items.{ElementsRead, MembersRead}
use Rattle.json_read.proofs.reading.+value.Given as goal

abbrev pub decreases-value_of : goal.decreases-value_of
decreases-value_of l = 3 * l.depth

abbrev pub decreases-elements_of : goal.decreases-elements_of
decreases-elements_of l = 3 * l.depth + 1

abbrev pub decreases-members_of : goal.decreases-members_of
decreases-members_of l = 3 * l.depth + 1

abbrev pub decreases-array_of : goal.decreases-array_of
decreases-array_of l = 3 * l.depth + 2

abbrev pub decreases-object_of : goal.decreases-object_of
decreases-object_of l = 3 * l.depth + 2

abbrev pub invariant-elements_of-elements : goal.invariant-elements_of-elements
invariant-elements_of-elements l = record {
  forward : l.fn.at ≤ l.at;
  reached : l.position ≤ l.at;
  within : l.at ≤ length l.bytes;
  read : (k : List Frame) → ElementsRead l.bytes l.depth k l.fn.at l.items.items (option_map (λ v. v.items) l.range) l.position l.at;
}

abbrev pub invariant-members_of-members : goal.invariant-members_of-members
invariant-members_of-members l = record {
  forward : l.fn.at ≤ l.at;
  reached : l.position ≤ l.at;
  within : l.at ≤ length l.bytes;
  read : (k : List Frame) → MembersRead l.bytes l.depth k l.fn.at l.members.items (option_map (λ v. v.items) l.range) l.position l.at;
}
