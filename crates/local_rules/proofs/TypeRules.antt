-- The first rule that a value of `@type` breaks, by the type of its position that it names.
use Rattle.std.proofs.Common.{◌≡◌, ◌↔◌, inl, inr, Bool, true, false, IsTrue, Option, Some, None, refl, sym, subst}
use Rattle.std.specs.Bool.{then_some}
use Rattle.std.proofs.lemmas.Bool.{false≢true}
use Rattle.json_tree.specs.Values.{Json, null, truth, number, text, array, object}
use Rattle.local_rules.specs.Breaches.{BreaksAlone}
use Rattle.local_rules.specs.Machinery.Firsts.{IsFirstAmong, further_rules}
use Rattle.local_rules.specs.Roles.{type_in}
use Rattle.local_rules.specs.Types.{BadSemanticType, NamesNothing}
use Rattle.local_rules.specs.declared.role.Element.{Element}
use Rattle.local_rules.specs.declared.role.Position.{Position}
use Rattle.local_rules.specs.declared.role.Position.TheVariants as position
use Rattle.local_rules.specs.declared.role.Role.TheVariants as role
use Rattle.local_rules.specs.declared.rule.LocalRule.{LocalRule}
use Rattle.local_rules.specs.declared.rule.LocalRule.TheVariants as rule
use Rattle.local_rules.proofs.Firsts.{first_one}
use Rattle.local_rules.proofs.Typed.{type_among}

names_something : (p : Position) (v : Json) (e : Element) → type_in p v ≡ Some e → NamesNothing p v → ⊥
names_something position.Free v e is nothing = type_among position.Free v e is
names_something position.Interface v e is nothing = cc
names_something position.Content v e is nothing = cc
names_something position.Property v e is nothing = cc
names_something position.Schema v e is nothing = cc

nothing_beside : (p : Position) (v : Json) → type_in p v ≡ None → BadSemanticType (role.Type p) v → ⊥
nothing_beside p (array vs) none (q, e, same, typed, bad) =
    let one : p ≡ q = cc in
    let is : type_in p (array vs) ≡ Some e = subst (λ (x : Position). type_in x (array vs) ≡ Some e) (sym one) typed in
    cc
nothing_beside p null none bad = bad
nothing_beside p (truth b) none bad = bad
nothing_beside p (number n) none bad = bad
nothing_beside p (text bytes) none bad = bad
nothing_beside p (object ms) none bad = bad

pub typed_first : (p : Position) (v : Json) (e : Element) (test : Bool) (found : Option LocalRule) → type_in p v ≡ Some e → IsTrue test ↔ BadSemanticType (role.Type p) v
    → found ≡ then_some test rule.BadSemanticType → IsFirstAmong (λ one. BreaksAlone one (role.Type p) v) (further_rules (role.Type p)) found
typed_first p v e test found typed decided is = inr (
  λ (q, same, nothing). let one : p ≡ q = cc in names_something p v e typed (subst (λ (x : Position). NamesNothing x v) (sym one) nothing),
  first_one (λ one. BreaksAlone one (role.Type p) v) rule.BadSemanticType test found decided is,
)

pub untyped_first : (p : Position) (v : Json) (test : Bool) (found : Option LocalRule) → type_in p v ≡ None → IsTrue test ↔ NamesNothing p v → found ≡ then_some test rule.BadType
    → IsFirstAmong (λ one. BreaksAlone one (role.Type p) v) (further_rules (role.Type p)) found
untyped_first p v true found none decided is = inl ((p, refl, decided.0 refl), is)
untyped_first p v false found none decided is = inr (
  λ (q, same, nothing). let one : p ≡ q = cc in absurd (false≢true (decided.1 (subst (λ (x : Position). NamesNothing x v) (sym one) nothing))),
  inr (nothing_beside p v none, is),
)
