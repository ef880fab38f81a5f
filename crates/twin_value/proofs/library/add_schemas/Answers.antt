use Rattle.std.proofs.Common.{◌≡◌, List, ℕ, Some, bytes_eq, nat_cmp, subst, ◌∙◌}
use Rattle.std.proofs.lemmas.Result.{on_ok_weaker}
use Rattle.std.specs.Cmp.Lexicographic.{slice_cmp}
use Rattle.std.specs.Option.{option_or}
use Rattle.std.specs.BTreeMap.{get_by}
use Rattle.dt_base.specs.names.Grammar.{dtmi_text}
use Rattle.dtdl_terms.specs.declared.schema.Schema.{Schema}
use Rattle.twin_value.specs.Machinery.Indexes.{is_there}
use Rattle.twin_value.proofs.Indexed.{had_put, absent_name}
use Rattle.twin_value.proofs.library.add_schemas.Goals as goal

pub returns : goal.returns
returns c = on_ok_weaker c.put.result (λ gives q.
    let got = λ (t : List ℕ). get_by (λ k. slice_cmp nat_cmp t k.now) c.args.schemas.now in
    let new = get_by (λ k. slice_cmp nat_cmp q k.now) c.put.new.values in
    subst (λ (x : List Schema). new ≡ option_or (got q) (is_there q (Some (dtmi_text c.args.one.now.of)) x)) (c.in_ok-index.ensures ∙ c.as_slice.ensures)
    (subst (λ (t : List ℕ). new ≡ option_or (got q) (is_there q (Some t) c.in_ok-index.index)) c.as_str-of.ensures.same
    (had_put (got q) new (bytes_eq c.as_str-of.result.now q) c.in_ok-index.index (gives q) (absent_name got c.as_str-of.result.now q c.if-contains_key.ensures)))
    ) c.put.ensures
