-- The entries of a patch, read from the front.
use Rattle.std.proofs.Common.{◌≡◌, ℕ, zero, suc, ◌+◌, ◌<◌, ◌≤◌, List, [], ◌∷◌, ◌++◌, length, map, drop, get_or, add-one, refl, sym, ap, ◌∙◌, subst, arith, append_assoc, drop-cons}
use Rattle.std.proofs.lemmas.List.{append-nil, map-append}
use Rattle.json_decimal.specs.Number.{Number}
use Rattle.json_tree.specs.Values.{Json, Elements, no_elements, element}
use Rattle.json_tree.specs.View.{view, elements_view}
use Rattle.json_tree.specs.declared.tree.Tree.{Tree}
use Rattle.twin_patch.specs.Operations.{Operation, operation_of, operations_of}
use Rattle.std.specs.Prelude.{Err}
use Rattle.twin_patch.specs.Reading.{IsOperation, IsFirstCode, AreOperations, FailsAt, AnswersEntry, ReadsOps, end_at}
use Rattle.twin_patch.specs.declared.entry.OpEnd.{OpEnd}
use Rattle.twin_patch.specs.declared.entry.OpEnd.TheVariants as judged
use Rattle.twin_patch.specs.declared.code.PatchCode.{PatchCode}
use Rattle.twin_patch.specs.declared.entry.PatchOf.{PatchOf}
use Rattle.twin_patch.specs.declared.patch.Op.{Op}

abbrev pub Behind : PatchOf → List Tree → ℕ → List Op → Type 0
Behind of entries i ops = (os : List Operation) → AreOperations of (elements_view (drop i entries)) os → AreOperations of (elements_view entries) (operations_of ops ++ os)

abbrev pub Failing : PatchOf → List Tree → ℕ → Type 0
Failing of entries i = (j : ℕ) (c : PatchCode) → FailsAt of (elements_view (drop i entries)) j c → FailsAt of (elements_view entries) (i + j) c

next : (entries : List Tree) (i : ℕ) (entry : Tree) → i < length entries → entry ≡ get_or entries i entry → drop i entries ≡ entry ∷ drop (i + 1) entries
next entries i entry lt is = rw add-one (drop-cons entries i entry lt ∙ ap (λ (t : Tree). t ∷ drop (suc i) entries) (sym is))

mapped : (ops : List Op) (op : Op) (os : List Operation) → operations_of (ops ++ op ∷ []) ++ os ≡ operations_of ops ++ operation_of op ∷ os
mapped [] op os = refl
mapped (o ∷ ops) op os = ap (λ (l : List Operation). operation_of o ∷ l) (mapped ops op os)

pub one_read : (of : PatchOf) (entries : List Tree) (i : ℕ) (entry : Tree) (ops : List Op) (op : Op) → i < length entries → entry ≡ get_or entries i entry
    → IsOperation of (view entry) (operation_of op) → Behind of entries i ops → Behind of entries (i + 1) (ops ++ op ∷ [])
one_read of entries i entry ops op lt is read h os rest =
    let here : AreOperations of (elements_view (entry ∷ drop (i + 1) entries)) (operation_of op ∷ os) = (operation_of op, os, refl, read, rest) in
    let whole = h (operation_of op ∷ os) (subst (λ (es : List Tree). AreOperations of (elements_view es) (operation_of op ∷ os)) (sym (next entries i entry lt is)) here) in
    subst (λ (l : List Operation). AreOperations of (elements_view entries) l) (sym (mapped ops op os)) whole

pub one_passed : (of : PatchOf) (entries : List Tree) (i : ℕ) (entry : Tree) (op : Op) → i < length entries → entry ≡ get_or entries i entry
    → IsOperation of (view entry) (operation_of op) → Failing of entries i → Failing of entries (i + 1)
one_passed of entries i entry op lt is read h j c fails =
    let here : FailsAt of (elements_view (entry ∷ drop (i + 1) entries)) (suc j) c = ((operation_of op, read), fails) in
    let whole = h (suc j) c (subst (λ (es : List Tree). FailsAt of (elements_view es) (suc j) c) (sym (next entries i entry lt is)) here) in
    let same : i + suc j ≡ (i + 1) + j = omega arith in subst (λ n. FailsAt of (elements_view entries) n c) same whole

pub one_failed : (of : PatchOf) (entries : List Tree) (i : ℕ) (entry : Tree) (c : PatchCode) → i < length entries → entry ≡ get_or entries i entry
    → IsFirstCode of (view entry) c → Failing of entries i → FailsAt of (elements_view entries) i c
one_failed of entries i entry c lt is first h =
    let whole = h 0 c (subst (λ (es : List Tree). FailsAt of (elements_view es) 0 c) (sym (next entries i entry lt is)) first) in
    let same : i + 0 ≡ i = omega arith in subst (λ n. FailsAt of (elements_view entries) n c) same whole

all_dropped : (entries : List Tree) (i : ℕ) → length entries ≤ i → drop i entries ≡ []
all_dropped [] zero h = refl
all_dropped [] (suc i) h = refl
all_dropped (t ∷ entries) zero h = absurd (omega (arith, h))
all_dropped (t ∷ entries) (suc i) h = all_dropped entries i (omega (arith, h))

pub all_read : (of : PatchOf) (entries : List Tree) (i : ℕ) (ops : List Op) → length entries ≤ i → Behind of entries i ops → AreOperations of (elements_view entries) (operations_of ops)
all_read of entries i ops done h =
    let whole = h [] (subst (λ (es : List Tree). AreOperations of (elements_view es) []) (sym (all_dropped entries i done)) refl) in
    subst (λ (l : List Operation). AreOperations of (elements_view entries) l) (append-nil (operations_of ops)) whole

pub ended : (of : PatchOf) (entries : List Tree) (i : ℕ) (entry : Tree) (end : OpEnd) → i < length entries → entry ≡ get_or entries i entry
    → AnswersEntry of (view entry) (Err end) → Failing of entries i → ReadsOps of (elements_view entries) (Err (end_at i end))
ended of entries i entry (judged.Code c) lt is first h = one_failed of entries i entry c lt is first h
ended of entries i entry judged.OutOfMemory lt is first h = tt

pub none_failing : (of : PatchOf) (entries : List Tree) → Failing of entries 0
none_failing of entries j c h = let same : j ≡ 0 + j = omega arith in subst (λ n. FailsAt of (elements_view entries) n c) same h
