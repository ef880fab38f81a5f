-- Paths of one part, and lists of one operation.
use Rattle.std.proofs.Common.{◌≡◌, ℕ, zero, suc, ◌<◌, ◌≤◌, List, [], ◌∷◌, length, get_or, Bool, true, nat_eq, refl, sym, ap, ◌∙◌, subst, arith}
use Rattle.std.specs.Prelude.{IsTrue, ◌↔◌, codes}
use Rattle.json_tree.proofs.Choices.{is_byte, is_byte-in}
use Rattle.twin_patch.specs.Operations.{Operation, change_of, operation_of, operations_of}
use Rattle.twin_patch.specs.Reading.{SetsTruth, IsMark}
use Rattle.twin_patch.specs.declared.patch.Op.{Op}

pub only_one : (e : Bool) (path rest : List (List ℕ)) (part name : List ℕ) → path ≡ part ∷ rest → part ≡ name → e ≡ nat_eq (length rest) 0 → IsTrue e ↔ (path ≡ name ∷ [])
only_one e path [] part name split same is = (λ t. split ∙ ap (λ (p : List ℕ). p ∷ []) same, λ h. is ∙ is_byte-in (length {A = List ℕ} []) 0 refl)
only_one e path (r ∷ rest) part name split same is = (
  λ t. absurd (let n : length (r ∷ rest) ≡ 0 = is_byte (length (r ∷ rest)) 0 (sym is ∙ t) in omega (arith, n)),
  λ h. absurd (let f : part ∷ r ∷ rest ≡ name ∷ [] = sym split ∙ h in cc),
)

one_op : (ops : List Op) (op : Op) → 1 ≤ length ops → length ops < 2 → op ≡ get_or ops 0 op → ops ≡ op ∷ []
one_op [] op low high is = absurd (omega (arith, low))
one_op (o ∷ []) op low high is = ap (λ (p : Op). p ∷ []) (sym is)
one_op (o ∷ p ∷ ops) op low high is = absurd (omega (arith, high))

same_head : (o p : Operation) → o ∷ [] ≡ p ∷ [] → o ≡ p
same_head o p e = cc

pub mark : (b : Bool) (ops : List Op) (op : Op) → 1 ≤ length ops → length ops < 2 → op ≡ get_or ops 0 op → op.path ≡ codes "decommissioned" ∷ [] → (IsTrue b ↔ SetsTruth (change_of op.kind))
    → IsTrue b ↔ IsMark (operations_of ops)
mark b ops op low high is path sets =
    let one : operations_of ops ≡ operation_of op ∷ [] = ap operations_of (one_op ops op low high is) in (
      λ t. (operation_of op, one, path, sets.0 t),
      λ m. sets.1 (subst (λ (o : Operation). SetsTruth o.change) (same_head m.0 (operation_of op) (sym m.1 ∙ one)) m.3),
    )
