-- Values without parts that stand in canonical trees alone.
use Rattle.std.proofs.Common.{◌≡◌, ℕ, inl, inr, List, IsTrue, Bool, true, false, refl, sym, subst, arith}
use Rattle.std.specs.Prelude.{codes}
use Rattle.std.proofs.lemmas.Bool.{false≢true}
use Rattle.dt_base.specs.names.Grammar.{Identifier, OwnDtmiText, dtmi_text, is_reserved}
use Rattle.json_tree.specs.Values.{text}
use Rattle.local_rules.specs.Types.{NamesNothing}
use Rattle.local_rules.specs.Breaches.{BreaksAlone}
use Rattle.local_rules.specs.declared.rule.LocalRule.{LocalRule}
use Rattle.local_rules.specs.declared.role.Localized.{Localized}
use Rattle.local_rules.specs.declared.role.Localized.TheVariants as localized
use Rattle.local_rules.specs.declared.role.Position.{Position}
use Rattle.local_rules.specs.declared.role.Role.{Role}
use Rattle.local_rules.specs.declared.role.Role.TheVariants as role
use Rattle.local_rules.specs.Limits.{IsShortInterfaceId, IsShortText}
use Rattle.canon_faults.proofs.Fine.{all_alone}

abbrev BreaksNone : Role → List ℕ → Type 0
BreaksNone r t = (broken : LocalRule) → BreaksAlone broken r (text t) → ⊥

-- ---- `@context` and `@type`
pub context_alone : BreaksNone role.Context (codes "dtmi:dtdl:context;2")
context_alone = all_alone role.Context (text (codes "dtmi:dtdl:context;2")) (λ b. false≢true (sym b), (λ b. b.1 refl, tt))

pub type_alone : (p : Position) (t : List ℕ) → (NamesNothing p (text t) → ⊥) → BreaksNone (role.Type p) t
type_alone p t named = all_alone (role.Type p) (text t)
    (λ b. false≢true (sym b), (λ b. (let same : p ≡ b.0 = (let e : role.Type p ≡ role.Type b.0 = b.1 in cc) in named (subst (λ (q : Position). NamesNothing q (text t)) (sym same) b.2)), (λ b. b, tt)))

pub listed_alone : (t : List ℕ) → BreaksNone role.ListedText t
listed_alone t = all_alone role.ListedText (text t) (λ b. false≢true (sym b), tt)

-- ---- texts in languages
abbrev pub limit_of : Localized → ℕ
limit_of localized.DisplayName = 64
limit_of localized.Description = 512

pub localized_alone : (which : Localized) (t : List ℕ) → IsShortText (limit_of which) t → BreaksNone (role.LocalizedText which) t
localized_alone localized.DisplayName t short = all_alone (role.LocalizedText localized.DisplayName) (text t)
    (λ b. false≢true (sym b), (λ b. (let long = b.1 in omega arith), (λ b. elim b.0 [ inl e ↦ absurd cc | inr e ↦ absurd cc ], tt)))
localized_alone localized.Description t short = all_alone (role.LocalizedText localized.Description) (text t)
    (λ b. false≢true (sym b), (λ b. elim b.0 [ inl e ↦ absurd cc | inr e ↦ absurd cc ], (λ b. (let long = b.1 in omega arith), tt)))

-- ---- the parents of an interface
pub parent_alone : (id : Identifier) → OwnDtmiText (dtmi_text id) id → IsShortInterfaceId id → BreaksNone role.Parent (dtmi_text id)
parent_alone id own short = all_alone role.Parent (text (dtmi_text id)) (
  λ b. false≢true (sym b),
  (λ b. b (id, own.text.form), (λ b. no_both (is_reserved (dtmi_text id)) own.free b.1, (λ b. (let long = b.1 in omega arith), (λ b. (let e = b.0 in absurd cc), tt)))),
)
  where
    no_both : (b : Bool) → b ≡ false → IsTrue b → ⊥
    no_both true is on = cc
    no_both false is on = cc
