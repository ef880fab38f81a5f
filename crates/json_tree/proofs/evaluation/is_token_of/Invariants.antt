use Rattle.std.proofs.Common.{◌≡◌, ◌≤◌, ◌↔◌, length, drop}
use Rattle.json_tree.specs.Pointers.{token_text}
use Rattle.json_tree.proofs.evaluation.is_token_of.Given as goal

abbrev pub invariant-key : goal.invariant-key
invariant-key l = record {
  within : l.at ≤ length l.token;
  same : (drop l.at l.token ≡ token_text (drop l.byte-index l.key)) ↔ (l.token ≡ token_text l.key);
}
