use Rattle.std.proofs.Common.{ℕ, Vec, ap, ◌∙◌}
use Rattle.std.specs.declared.alloc.Global.{Global}
use Rattle.dtdl_cmd.proofs.making.maker.Maker.counts.Goals as goal

pub returns : goal.returns
returns c = record {
  twins = c.in_ok-twins.twins;
  relationships = c.in_ok-relationships.relationships;
  spaces = c.in_ok-spaces.spaces;
  hot = c.in_ok-hot.hot;
  of_twins = c.in_ok-twins.ensures;
  of_relationships = c.in_ok-relationships.ensures;
  of_spaces = c.in_ok-spaces.ensures;
  of_hot = c.in_ok-hot.ensures;
  is = c.from_vec.ensures ∙ ap (λ (bytes : Vec ℕ Global). bytes.items) c.into_bytes.ensures.value ∙ c.in_ok-text.ensures.ok;
}
