use Rattle.std.proofs.Common.{◌≡◌, get_or, true, sym, ap, ◌∙◌, arith, below_more}
use Rattle.query_terms.specs.tokens.Spellings.{is_query_name_byte}
use Rattle.query_lexer.proofs.Cuts.{name_within}
use Rattle.query_lexer.proofs.bytes.name_len.Goals as goal

pub bytes-preserved : goal.bytes-preserved
bytes-preserved c =
    let is : is_query_name_byte (get_or c.args.bytes.now c.bytes.end 0) ≡ true =
    ap is_query_name_byte (sym c.byte_at.ensures) ∙ sym c.is_name_byte.ensures ∙ c.bytes-test.true in
    let within = name_within c.args.bytes.now c.bytes.end is in
    (omega (arith, within), below_more _ _ c.bytes.invariant.1 is)
