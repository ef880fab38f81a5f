use Rattle.std.proofs.Common.{◌≡◌, List, ℕ, string_bytes, subst, sym, rules}
use Rattle.json_decimal.specs.Decimals.{number_of}
use Rattle.json_decimal.specs.Literal.{IsLiteralOf}
use Rattle.json_decimal.specs.Printing.{text_of}
use Rattle.json_decimal.proofs.ReadsBack.{decimal_reads_back}
use Rattle.json_decimal.proofs.decimal.Decimal.print.Goals as goal

pub returns-clause-literal : goal.returns-clause-literal
returns-clause-literal c =
    let text : string_bytes c.push.new.text ≡ text_of (number_of c.args.self.now) = search rules in
    let P : List ℕ → Type 0 = λ t. IsLiteralOf t (number_of c.args.self.now) in
    subst P (sym text) (decimal_reads_back c.args.self.now)
