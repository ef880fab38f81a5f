use Rattle.std.proofs.Common.{◌-◌, length, refl, sym, ◌∙◌, arith, inl}
use Rattle.query_terms.specs.Queries.{asked}
use Rattle.query_grammar.specs.Machinery.Steps.{end}
use Rattle.query_parse.proofs.Readings.{begun, begun_none, takes, stops, ended, ended_none, some_left, none_left}
use Rattle.query_parse.proofs.Says.{goes_on, shorter, wrong, is_whole, cut_short}
use Rattle.query_parse.proofs.reading.whole.Goals as goal

pub tokens-preserved : goal.tokens-preserved
tokens-preserved c =
    let text = c.args.text.now in
    let rest = c.tokens.rest.now in
    let at = length text - length rest in
    let behind = c.in-Some.behind.now in
    let longest = begun c.in_ok-token.field-0 c.in-Some.token c.in-Some.behind rest c.in_ok-token.ensures c.in-Some.is in
    let next = takes rest behind c.tokens.state c.in-Some-2.next at c.in-Some.token longest (sym c.in-Some-2.is ∙ c.in_ok-next.ensures) in
    let spaces = c.behind_spaces-rest-in-tokens.ensures.spaces in
    let less = shorter rest behind c.behind_spaces-rest-in-tokens.result.now c.tokens.state c.in-Some-2.next at next spaces in
    let within = c.tokens.invariant.within in
    record {
      reached = goes_on text rest behind c.behind_spaces-rest-in-tokens.result.now c.tokens.state c.in-Some-2.next at c.tokens.invariant.reached refl next spaces;
      byte = c.behind_spaces-rest-in-tokens.ensures.stops;
      within = omega (arith, less, within);
      utf8 = c.behind_spaces-rest-in-tokens.utf8;
    }

pub returns-in_default : goal.returns-in_default
returns-in_default c =
    let text = c.args.text.now in
    let rest = c.tokens.rest.now in
    wrong text rest c.tokens.state (length text - length rest) c.tokens.invariant.reached refl (some_left (length rest) c.tokens-test.ensures) c.tokens.invariant.byte
    (inl (begun_none c.in_ok-token.field-0 rest c.in_ok-token.ensures c.in_default.is))

pub returns-in-None : goal.returns-in-None
returns-in-None c =
    let text = c.args.text.now in
    let rest = c.tokens.rest.now in
    let at = length text - length rest in
    let longest = begun c.in_ok-token.field-0 c.in-Some.token c.in-Some.behind rest c.in_ok-token.ensures c.in-Some.is in
    wrong text rest c.tokens.state at c.tokens.invariant.reached refl (some_left (length rest) c.tokens-test.ensures) c.tokens.invariant.byte
    (stops rest c.in-Some.behind.now c.tokens.state at c.in-Some.token longest (sym c.in-None.is ∙ c.in_ok-next.ensures))

pub returns-in-Some-3 : goal.returns-in-Some-3
returns-in-Some-3 c =
    let whole = c.in-Some-3.whole in
    is_whole c.args.text.now c.tokens.rest.now c.tokens.state (asked whole.0, whole.1) c.tokens.invariant.reached
    (none_left (length c.tokens.rest.now) c.tokens-test.ensures) (ended c.in_ok-whole.field-0 whole (end c.tokens.state) c.in_ok-whole.ensures c.in-Some-3.is)

pub returns-in-None-2 : goal.returns-in-None-2
returns-in-None-2 c =
    cut_short c.args.text.now c.tokens.rest.now c.tokens.state (length c.args.text.now) c.tokens.invariant.reached
    (none_left (length c.tokens.rest.now) c.tokens-test.ensures) refl (ended_none c.in_ok-whole.field-0 (end c.tokens.state) c.in_ok-whole.ensures c.in-None-2.is)
