use Rattle.std.proofs.Common.{◌≡◌, drop}
use Rattle.json_tree.specs.View.{members_view}
use Rattle.json_tree.specs.Members.{value_at}
use Rattle.model_read.specs.Uploads.{IsNew}
use Rattle.model_read.proofs.places.ordinal_at.Given as goal

-- no member so far has the key
abbrev pub invariant-loop-at : goal.invariant-loop-at
invariant-loop-at l = record {
  skipped : value_at l.key (members_view (drop l.at l.members)) ≡ value_at l.key (members_view l.members);
  new : IsNew l.key (members_view l.members) l.at;
}
