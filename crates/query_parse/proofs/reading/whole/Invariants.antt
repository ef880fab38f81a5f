use Rattle.std.proofs.Common.{◌≡◌, ◌≤◌, length, get_or, false}
use denote.Shadow.{shadow}
use denote.Text.{Utf8}
use Rattle.query_terms.specs.tokens.Spellings.{is_space}
use Rattle.query_parse.specs.Machinery.Reached.{Reached}
use Rattle.query_parse.proofs.reading.whole.Given as goal

abbrev pub invariant-tokens : goal.invariant-tokens
invariant-tokens l = record {
  reached : Reached l.text l.state l.rest;
  byte : is_space (get_or l.rest 0 0) ≡ false;
  within : length l.rest ≤ length l.text;
  utf8 : shadow (Utf8 l.rest);
}

abbrev pub decreases-tokens : goal.decreases-tokens
decreases-tokens l = length l.rest
