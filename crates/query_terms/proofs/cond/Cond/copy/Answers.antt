use Rattle.std.proofs.Common.{[], ◌∷◌, map, sym, ap, ◌∙◌}
use Rattle.std.specs.Option.{option_and_then}
use Rattle.query_terms.specs.Conditions.{condition}
use Rattle.query_terms.specs.Machinery.Parts.{placed, rebuilt, stacked}
use Rattle.query_terms.proofs.Parts.{now, rebuilt_more, stacked_push, part_there}
use Rattle.query_terms.proofs.cond.Cond.copy.Goals as goal

pub copy_part-requires : goal.copy_part-requires
copy_part-requires c =
    let rest = c.pop.new.self.items in
    let copies = stacked c.parts.copies.items in
    part_there (map now rest) (placed c.in-Some.part.now copies) (condition c.args.self.now ∷ []) (
    sym (rebuilt_more rest c.in-Some.part copies)
    ∙ sym (ap (λ xs. rebuilt (map now xs) copies) c.in-Some.ensures.items)
    ∙ c.parts.invariant
    )

pub parts-preserved : goal.parts-preserved
parts-preserved c =
    let parts = map now c.pop.new.self.items in
    let copies = stacked c.parts.copies.items in
    ap (λ xs. rebuilt parts (stacked xs)) c.in_ok-push.ensures.items
    ∙ ap (λ xs. rebuilt parts xs) (stacked_push c.copy_part.new.copies.items c.in_ok-copy.copy)
    ∙ ap (λ o. option_and_then (rebuilt parts) o) c.in_ok-copy.ensures
    ∙ sym (rebuilt_more c.pop.new.self.items c.in-Some.part copies)
    ∙ sym (ap (λ xs. rebuilt (map now xs) copies) c.in-Some.ensures.items)
    ∙ c.parts.invariant
