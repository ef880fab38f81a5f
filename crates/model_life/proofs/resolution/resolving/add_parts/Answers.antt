use Rattle.std.proofs.Common.{◌≡◌, ◌≤◌, ◌+◌, ◌<◌, ◌↔◌, ◌⊎◌, None, Some, List, length, slice_index_or, sym, ap, ◌∙◌, subst, arith}
use Rattle.std.specs.Option.{option_copied}
use Rattle.dtdl_terms.specs.declared.content.Content.{Content}
use Rattle.model_life.specs.resolution.Machinery.Families.{IsThere, IsPartByFirst, part_for}
use Rattle.model_life.proofs.resolution.Assembly.{part_seen, part_more, parts_none, parts_whole}
use Rattle.model_life.proofs.resolution.resolving.add_parts.Goals.{in-Some+in_ok-add, in_default}
use Rattle.model_life.proofs.resolution.resolving.add_parts.Goals as goal

pub contents-init : goal.contents-init
contents-init c = parts_none c.args.set.now c.args.interface.now.contents c.args.found.now

pub contents-preserved : goal.contents-preserved
contents-preserved c q =
    let cs : List Content = c.args.interface.now.contents in
    let same : c.as_slice-content-items.result.now ≡ c.args.interface.now.contents = c.as_slice-content-items.ensures in
    let short : c.contents.content-index < length c.as_slice-content-items.result.now = omega (arith, c.contents-test.true) in
    let low : c.contents.content-index < length c.args.interface.now.contents = subst (λ xs. c.contents.content-index < length xs) same short in
    let is : c.content-item.result ≡ slice_index_or c.args.interface.now.contents c.contents.content-index c.content-item.result = c.content-item.is ∙ ap (λ xs. slice_index_or xs c.contents.content-index c.content-item.result) same in
    elim c.match-part_for.branch [
      | in-Some+in_ok-add w ↦
          let found : part_for c.args.set.now c.content-item.result ≡ Some w.in-Some.part.now = sym c.part_for.ensures ∙ ap option_copied w.in-Some.is in
          subst (λ f. IsThere f q ↔ (IsThere c.args.found.now q ⊎ IsPartByFirst c.args.set.now c.args.interface.now.contents (c.contents.content-index + 1) q)) (sym w.found-is)
          (part_more c.args.set.now c.args.interface.now.contents c.contents.content-index c.content-item.result w.in-Some.part.now c.args.found.now c.contents.found w.add.new.self low is found c.requires w.in_ok-add.ensures c.contents.invariant q)
      | in_default w ↦
          let none : part_for c.args.set.now c.content-item.result ≡ None = sym c.part_for.ensures ∙ ap option_copied w.in_default.is in
          subst (λ f. IsThere f q ↔ (IsThere c.args.found.now q ⊎ IsPartByFirst c.args.set.now c.args.interface.now.contents (c.contents.content-index + 1) q)) (sym w.found-is)
          (part_seen c.args.set.now c.args.interface.now.contents c.contents.content-index c.content-item.result c.args.found.now c.contents.found low is none c.contents.invariant q)
    ]

pub returns : goal.returns
returns c =
    let same : c.as_slice-content-items.result.now ≡ c.args.interface.now.contents = c.as_slice-content-items.ensures in
    parts_whole c.args.set.now c.args.interface.now.contents c.contents.content-index c.args.found.now c.contents.found
    (subst (λ xs. length xs ≤ c.contents.content-index) same (omega (arith, c.contents-test.false)))
    (subst (λ xs. c.contents.content-index ≤ length xs) same (omega arith)) c.contents.invariant
