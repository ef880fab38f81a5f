use Rattle.std.proofs.Common.{◌≡◌, ◌++◌, map}
use Rattle.json_tree.specs.View.{member_view}
use Rattle.query_eval.specs.Machinery.Seen.{named_view}
use Rattle.query_eval.proofs.projection.object_of.Given as goal

-- the members so far, and those to come
abbrev pub invariant-values : goal.invariant-values
invariant-values l = record {
  next : (goal.iterator-values).can_next l.key-iterator;
  finite : (goal.iterator-values).is_finite l.key-iterator;
  total : map member_view l.members.items ++ map named_view l.key-iterator ≡ map named_view l.fn.values.entries;
}
