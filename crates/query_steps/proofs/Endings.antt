-- The query at the end of a factor that no parenthesis holds.
use Rattle.std.proofs.Common.{◌≡◌, List, [], Option, Some, sym, ap, ◌∙◌}
use Rattle.query_terms.specs.Conditions.{Condition}
use Rattle.query_terms.specs.Queries.{Asked}
use Rattle.query_grammar.specs.declared.names.Notes.{Notes}
use Rattle.query_grammar.specs.declared.state.Head.{Head}
use Rattle.query_grammar.specs.declared.state.Chain.{Chain}
use Rattle.query_grammar.specs.Machinery.Steps.{with_either, asked_of, end_of_chain}

pub ends : (n : Notes) (h : Head) (before : Option Condition) (c w : Condition) (chains : List Chain) (q : Asked) → chains ≡ []
    → w ≡ with_either before c → q ≡ asked_of h (Some w) → Some (q, n) ≡ end_of_chain n h before c chains
ends n h before c w chains q empty whole asked =
    ap (λ (a : Asked). Some (a, n)) (asked ∙ ap (λ (x : Condition). asked_of h (Some x)) whole)
    ∙ ap (λ (k : List Chain). end_of_chain n h before c k) (sym empty)
