use Rattle.std.proofs.Common.{◌≡◌, length, get_or, false, string_bytes}
use Rattle.std.specs.Str.{IsUtf8}
use Rattle.query_lexer.specs.Machinery.Spans.{is_plain, prepend, quoted_content}
use Rattle.query_lexer.proofs.texts.content_of.Given as goal

abbrev pub invariant-escapes : goal.invariant-escapes
invariant-escapes l = record {
  same : quoted_content l.fn.text ≡ prepend (string_bytes l.content) (quoted_content l.rest);
  stops : is_plain (get_or l.rest 0 0) ≡ false;
  utf8 : IsUtf8 l.rest;
}

abbrev pub decreases-escapes : goal.decreases-escapes
decreases-escapes l = length l.rest
