use Rattle.std.proofs.Common.{rules, ◌≡◌, ℕ, List, [], Option, Some, None, Bor, ap, ◌∙◌, unwrap_or, nat_cmp, refl}
use Rattle.std.specs.Cmp.Lexicographic.{slice_cmp}
use Rattle.std.specs.BTreeMap.{get_by}
use Rattle.dt_base.specs.names.Grammar.{dtmi_text}
use Rattle.dtdl_terms.specs.declared.schema.Schema.{Schema}
use Rattle.dtdl_terms.specs.declared.resolved.NamedIn.{NamedIn}
use Rattle.twin_value.specs.Named.{is_called}
use Rattle.twin_value.proofs.Linked.{none_declared}
use Rattle.twin_value.proofs.library.schemas_if_any.Goals as goal

pub returns : goal.returns
returns c = λ q.
    let none : get_by (λ (k : Bor (List ℕ)). slice_cmp nat_cmp q k.now) c.new.result ≡ None = search (rules) in
    ap (λ (o : Option (List Schema)). unwrap_or o []) none
    ∙ none_declared (λ (n : NamedIn). is_called q (Some (dtmi_text n.of))) c.args.named.now (c.if-has_schemas.ensures refl)
