-- What stands in a list `@type` beside the type.
use Rattle.std.proofs.Common.{◌≡◌, ◌↔◌, Bool, true, false, not, IsTrue, Some, refl, subst}
use Rattle.std.proofs.lemmas.Bool.{false≢true}
use Rattle.json_decimal.specs.Number.{Number}
use Rattle.json_tree.specs.Values.{array, Elements}
use Rattle.json_tree.specs.Members.{list_of}
use Rattle.local_rules.specs.Roles.{type_in}
use Rattle.local_rules.specs.Types.{BadSemanticType, MayHaveBeside, further}
use Rattle.local_rules.specs.declared.role.Element.{Element}
use Rattle.local_rules.specs.declared.role.Position.{Position}
use Rattle.local_rules.specs.declared.role.Role.TheVariants as role

may_at : (vs : Elements Number) (p q : Position) (e d : Element) → p ≡ q → type_in p (array vs) ≡ Some e → type_in q (array vs) ≡ Some d → MayHaveBeside e (further p (list_of vs))
    → MayHaveBeside d (further q (list_of vs))
may_at vs p q e d same typed other may =
    let typed_so : type_in q (array vs) ≡ Some e = subst (λ (x : Position). type_in x (array vs) ≡ Some e) same typed in
    let one : e ≡ d = cc in
    subst (λ (x : Element). MayHaveBeside x (further q (list_of vs))) one (subst (λ (x : Position). MayHaveBeside e (further x (list_of vs))) same may)

-- whether it may stand there decides the rule
pub bad_semantic : (p : Position) (e : Element) (vs : Elements Number) (may : Bool) → type_in p (array vs) ≡ Some e → IsTrue may ↔ MayHaveBeside e (further p (list_of vs))
    → IsTrue (not may) ↔ BadSemanticType (role.Type p) (array vs)
bad_semantic p e vs true typed decided = (
  λ h. absurd (false≢true h),
  λ (q, d, same, other, bad). let one : p ≡ q = cc in absurd (bad (may_at vs p q e d one typed other (decided.0 refl))),
)
bad_semantic p e vs false typed decided = (λ _. (p, e, refl, typed, λ may. false≢true (decided.1 may)), λ _. refl)
