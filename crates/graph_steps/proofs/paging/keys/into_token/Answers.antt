use Rattle.std.proofs.Common.{Some, sym, ap, ◌∙◌, arith}
use Rattle.graph_steps.specs.paging.Rows.{into_entry}
use Rattle.graph_steps.proofs.paging.Cut.{none-past, some-past}
use Rattle.graph_steps.proofs.paging.keys.into_token.Goals as goal

pub returns-then-first-lt-DECIDING : goal.returns-then-first-lt-DECIDING
returns-then-first-lt-DECIDING g c = λ tree. sym (none-past (λ e. into_entry tree e.now) c.args.first.now c.if-first-lt-DECIDING.true)

pub returns : goal.returns
returns g c = λ tree. ap (λ t. Some t) c.in_ok-text.ensures ∙ sym (some-past (λ e. into_entry tree e.now) c.args.first.now c.index-first-99.result c.if-first-lt-DECIDING.false c.index-first-99.is)
