-- Of the paths of models one thing is asked.
use Rattle.std.proofs.Common.{◌≡◌, ℕ, List, [], ◌∷◌, Bool, refl, sym, ap, ap₂, subst, ◌∙◌, inl, inr}
use Rattle.dt_base.specs.names.Grammar.{Identifier}
use Rattle.dt_base.proofs.names.Cuts.{HasDtmiForm-unique}
use Rattle.dtdl_terms.specs.declared.uploaded.Uploaded.{Uploaded}
use Rattle.json_tree.specs.Values.{Json, truth}
use Rattle.json_tree.specs.Pointers.{IsPointerOf}
use Rattle.json_tree.proofs.OnePointer.{one_pointer}
use Rattle.local_faults.proofs.OneBreach.{one_breach}
use Rattle.local_rules.specs.Codes.{rule_code}
use Rattle.local_rules.specs.declared.rule.LocalRule.{LocalRule}
use Rattle.model_read.proofs.OnceUploads.{document_once}
use Rattle.twin_patch.specs.Operations.{Change, add, replace, remove, Operation}
use Rattle.twin_patch.specs.declared.entry.PatchOf.TheVariants as patches
use Rattle.graph_asks.specs.declared.ask.Ask.TheVariants as asks
use Rattle.graph_asks.specs.declared.refusal.At.TheVariants as at
use Rattle.graph_asks.specs.declared.refusal.Refusal.{Refusal}
use Rattle.graph_asks.specs.declared.refusal.Refusal.TheVariants as refusals
use Rattle.graph_routes.specs.Parts.{NamesModel}
use Rattle.graph_routes.specs.Bodies.{DeclaresModels, RefusesModels, SetsMark, SetsTo, most_models}
use Rattle.graph_routes.specs.ModelRequests.{AsksCanon, AsksModel, AsksModels, Marks, PutsModels}
use Rattle.graph_routes.specs.Methods.{allow_text}
use Rattle.graph_routes.specs.Outcomes.{WithBody, not_allowed}
use Rattle.graph_routes.specs.declared.method.Method.{Method}
use Rattle.graph_routes.specs.declared.method.Method.TheVariants as method
use Rattle.graph_routes.specs.declared.prepared.Prepared.{Prepared}
use Rattle.graph_routes.specs.declared.prepared.Prepared.TheVariants.{Ask}
use Rattle.graph_routes.specs.declared.route.Route.{Route}
use Rattle.graph_routes.specs.declared.route.Route.TheVariants as route
use Rattle.graph_routes.proofs.OneOutcome.{IsOne, Laws, alike, one_named, one_patch_fault, one_with_body, refused}

pub one_not_allowed : (r : Route) → IsOne (λ (p : Prepared). p ≡ not_allowed r)
one_not_allowed r p q x y = refused (refusals.BadMethod (allow_text r)) (refusals.BadMethod (allow_text r)) p q x y refl

-- ---- models
one_breached : (v : Json) (r s : Refusal) → RefusesModels v r → RefusesModels v s → r ≡ s
one_breached v r s (place, broken, pointer, first, is, x) (other, another, points, least, leads, y) =
    let same = one_breach v place other broken another first least in
    let pointers : pointer ≡ points = one_pointer v place pointer points is (subst (λ (p : List ℕ). IsPointerOf v p points) (sym same.0) leads) in
    x ∙ ap₂ (λ (p : List ℕ) (b : LocalRule). refusals.ModelFault (at.Pointer p) (rule_code b)) pointers same.1 ∙ sym y

breached_or_declared : (v : Json) (r : Refusal) (models : List Uploaded) → RefusesModels v r → DeclaresModels v models → ⊥
breached_or_declared v r models h g = g.0 h.0 h.1 h.3.breach

one_put : (v : Json) → IsOne (PutsModels v)
one_put v p q (inl (many, x)) (inl (more, y)) = refused (refusals.TooManyModels most_models) (refusals.TooManyModels most_models) p q x y refl
one_put v p q (inl (many, x)) (inr (inl (few, y))) = absurd (few many)
one_put v p q (inl (many, x)) (inr (inr (few, y))) = absurd (few many)
one_put v p q (inr (inl (few, x))) (inl (many, y)) = absurd (few many)
one_put v p q (inr (inr (few, x))) (inl (many, y)) = absurd (few many)
one_put v p q (inr (inl (few, (r, h, x)))) (inr (inl (less, (s, g, y)))) = refused r s p q x y (one_breached v r s h g)
one_put v p q (inr (inl (few, (r, h, x)))) (inr (inr (less, (models, g, y)))) = absurd (breached_or_declared v r models h g)
one_put v p q (inr (inr (few, (models, h, x)))) (inr (inl (less, (s, g, y)))) = absurd (breached_or_declared v s models g h)
one_put v p q (inr (inr (few, (models, h, x)))) (inr (inr (less, (others, g, y)))) =
    alike p q (Ask (asks.PutModels models)) (Ask (asks.PutModels others)) x y (ap (λ (us : List Uploaded). asks.PutModels us) (document_once v 1 models others h.1 g.1))

-- ---- marks
one_truth : (v : Json) (a b : Bool) → v ≡ truth a → v ≡ truth b → a ≡ b
one_truth v a b h g = let same : truth a ≡ truth b = sym h ∙ g in cc

one_change : (c : Change) (a b : Bool) → SetsTo c a → SetsTo c b → a ≡ b
one_change (add v) a b h g = one_truth v a b h g
one_change (replace v) a b h g = one_truth v a b h g
one_change remove a b h g = absurd h

one_mark : Laws → (v : Json) (a b : Bool) → SetsMark v a → SetsMark v b → a ≡ b
one_mark laws v a b (os, is, (o, e, h)) (ps, has, (p, f, g)) =
    let same : os ≡ ps = laws.patch patches.Model v os ps is has in
    let one : o ∷ [] ≡ p ∷ [] = sym e ∙ same ∙ f in
    let those : o ≡ p = cc in
    one_change p.change a b (subst (λ (x : Operation). SetsTo x.change a) those h) g

one_marks : Laws → (id : Identifier) (v : Json) → IsOne (Marks id v)
one_marks laws id v p q (inl (r, h, x)) (inl (s, g, y)) = refused r s p q x y (one_patch_fault laws patches.Model v r s h g)
one_marks laws id v p q (inl (r, h, x)) (inr (on, g, y)) = absurd (laws.either patches.Model v g.0 h.0 h.1 g.1 h.2)
one_marks laws id v p q (inr (on, h, x)) (inl (s, g, y)) = absurd (laws.either patches.Model v h.0 g.0 g.1 h.1 g.2)
one_marks laws id v p q (inr (on, h, x)) (inr (off, g, y)) =
    alike p q (Ask (asks.Mark id on)) (Ask (asks.Mark id off)) x y (ap (λ (b : Bool). asks.Mark id b) (one_mark laws v on off h g))

-- ---- parts
one_model_named : (part : List ℕ) (i j : Identifier) → NamesModel part i → NamesModel part j → i ≡ j
one_model_named part i j h g = HasDtmiForm-unique _ i j h.text.text.form g.text.text.form

-- ---- asks
pub one_of_models : Laws → (m : Method) (body : List ℕ) → IsOne (AsksModels m body)
one_of_models laws method.Get body p q x y = alike p q (Ask asks.ListModels) (Ask asks.ListModels) x y refl
one_of_models laws method.Post body p q x y = one_with_body laws.number body PutsModels one_put p q x y
one_of_models laws method.Delete body p q x y = one_not_allowed route.Models p q x y
one_of_models laws method.Patch body p q x y = one_not_allowed route.Models p q x y
one_of_models laws method.Put body p q x y = one_not_allowed route.Models p q x y

pub one_of_model : Laws → (m : Method) (part body : List ℕ) → IsOne (AsksModel m part body)
one_of_model laws method.Get part body p q x y =
    one_named (NamesModel part) (refusals.BadId 0) (λ id given. given ≡ Ask (asks.GetModel id)) (one_model_named part)
    (λ id a b g h. alike a b (Ask (asks.GetModel id)) (Ask (asks.GetModel id)) g h refl) p q x y
one_of_model laws method.Delete part body p q x y =
    one_named (NamesModel part) (refusals.BadId 0) (λ id given. given ≡ Ask (asks.DropModel id)) (one_model_named part)
    (λ id a b g h. alike a b (Ask (asks.DropModel id)) (Ask (asks.DropModel id)) g h refl) p q x y
one_of_model laws method.Patch part body p q x y =
    one_named (NamesModel part) (refusals.BadId 0) (λ id. WithBody body (Marks id)) (one_model_named part)
    (λ id. one_with_body laws.number body (Marks id) (one_marks laws id)) p q x y
one_of_model laws method.Post part body p q x y = one_not_allowed route.Model p q x y
one_of_model laws method.Put part body p q x y = one_not_allowed route.Model p q x y

pub one_of_canon : (m : Method) → IsOne (AsksCanon m)
one_of_canon method.Get p q x y = alike p q (Ask asks.Canon) (Ask asks.Canon) x y refl
one_of_canon method.Delete p q x y = one_not_allowed route.Canon p q x y
one_of_canon method.Patch p q x y = one_not_allowed route.Canon p q x y
one_of_canon method.Post p q x y = one_not_allowed route.Canon p q x y
one_of_canon method.Put p q x y = one_not_allowed route.Canon p q x y
