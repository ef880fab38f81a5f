use Rattle.std.proofs.Common.{List, map, ap, ◌∙◌}
use Rattle.dtdl_terms.specs.declared.uploaded.Uploaded.{Uploaded}
use Rattle.set_tests.proofs.Arrivals.{resolves_others}
use Rattle.set_tests.proofs.families.family.Goals as goal

pub returns-in-Ok-add : goal.returns-in-Ok-add
returns-in-Ok-add c =
    resolves_others c.in_ok-uploads.uploads c.in-Ok.ids c.new-models.result c.add.new.self c.new-models.ensures c.in-Ok-add.ensures.ok
    (c.in-Ok.ensures ∙ ap (λ (us : List Uploaded). map (λ u. u.interface.id) us) c.as_slice.ensures)
    c.in-Ok-add.ensures.end.1
