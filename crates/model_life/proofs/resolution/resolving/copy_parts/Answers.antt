use Rattle.std.proofs.Common.{◌≡◌, ◌+◌, [], ◌∷◌, ◌++◌, map, take, Bor, sym, ap, ◌∙◌, subst, arith}
use Rattle.std.specs.List.{AllZip}
use Rattle.std.proofs.lemmas.List.{take_more, map_push}
use Rattle.dtdl_terms.specs.declared.interface.Interface.{Interface}
use Rattle.model_life.specs.resolution.Machinery.Families.{IsPartOf}
use Rattle.model_life.proofs.resolution.Assembly.{zip_push}
use Rattle.model_life.proofs.resolution.resolving.copy_parts.Goals as goal

pub parts-preserved : goal.parts-preserved
parts-preserved c =
    let now : Bor Interface → Interface = λ x. x.now in
    let front = map now (take c.parts.part-index c.args.parts.now) in
    let step : take (c.parts.part-index + 1) c.args.parts.now ≡ take c.parts.part-index c.args.parts.now ++ c.part-item.result ∷ [] =
    take_more c.args.parts.now c.parts.part-index c.part-item.result (omega (arith, c.parts-test.true)) ∙ ap (λ x. take c.parts.part-index c.args.parts.now ++ x ∷ []) (sym c.part-item.is) in
    let all : map now (take (c.parts.part-index + 1) c.args.parts.now) ≡ front ++ c.part-item.result.now ∷ [] = ap (map now) step ∙ map_push now (take c.parts.part-index c.args.parts.now) c.part-item.result in
    subst (λ qs. AllZip (IsPartOf c.args.set.now) qs c.push.new.self.items) (sym all)
    (subst (AllZip (IsPartOf c.args.set.now) (front ++ c.part-item.result.now ∷ [])) (sym c.in_ok-push.ensures.items)
    (zip_push (IsPartOf c.args.set.now) front c.parts.copies.items c.part-item.result.now c.in_ok-part_of.field-0 c.parts.invariant c.in_ok-part_of.ensures))
