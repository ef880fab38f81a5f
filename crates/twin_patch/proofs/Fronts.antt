-- The first of some members, and those behind it.
use Rattle.std.proofs.Common.{◌≡◌, ℕ, zero, suc, ◌<◌, ◌≤◌, List, [], ◌∷◌, ◌++◌, length, drop, Option, Some, None, refl, sym, ap, ◌∙◌, subst, arith}
use Rattle.std.specs.Option.{option_to_list}
use Rattle.std.specs.declared.cmp.Ordering.{Ordering}
use Rattle.std.specs.declared.cmp.Ordering.TheVariants.{Less, Equal, Greater}
use Rattle.json_decimal.specs.Number.{Number}
use Rattle.json_tree.specs.Values.{Json, Members, no_members, member}
use Rattle.json_tree.specs.View.{view, members_view}
use Rattle.json_tree.specs.declared.tree.Member.{Member}
use Rattle.twin_patch.specs.declared.draft.Draft.{Draft}
use Rattle.twin_patch.specs.Machinery.Orders.{compared_keys, IsBeforeAll, KeysRise}
use Rattle.twin_patch.specs.Machinery.Drafts.{overlaid, draft_view, members_behind, front, IsFrontBefore, IsFrontAt, IsPast, AreAfter}
use Rattle.twin_patch.proofs.Found.{turned_back}
use Rattle.twin_patch.proofs.Ordered.{before_later}
use Rattle.twin_patch.proofs.Overlays.{same_by}
use Rattle.twin_patch.proofs.Merges.{member_passes, after_later, behind_one, next_entry, next_own}

-- a member before a key passes to the front of the changes from that key on
pub passed : (key : List ℕ) (items rest : List Member) (m : Member) (out : List Member) (x : Draft) (more : List (List ℕ × Draft)) → IsFrontBefore key (members_view items) → items ≡ m ∷ rest → AreAfter key more
    → members_behind (out ++ m ∷ []) (overlaid draft_view ((key, x) ∷ more) (members_view rest)) ≡ members_behind out (overlaid draft_view ((key, x) ∷ more) (members_view items))
passed key items rest m out x more before is after =
    let less : compared_keys m.key key ≡ Less = subst (λ (l : List Member). IsFrontBefore key (members_view l)) is before in
    let changes = (key, x) ∷ more in
    behind_one out m (overlaid draft_view changes (members_view rest))
    ∙ ap (λ ms. members_behind out ms) (sym (member_passes draft_view m.key (view m.value) changes (members_view rest) (less, after_later m.key key more less after)))
    ∙ ap (λ (l : List Member). members_behind out (overlaid draft_view changes (members_view l))) (sym is)

pub rise_behind : (items rest : List Member) (m : Member) → items ≡ m ∷ rest → KeysRise (members_view items) → KeysRise (members_view rest)
rise_behind items rest m is rise = let all = subst (λ (l : List Member). KeysRise (members_view l)) is rise in all.1

-- the first is that of the key
pub own_skipped : (key : List ℕ) (items : List Member) (x : Draft) (more : List (List ℕ × Draft)) → IsFrontAt key (members_view items) → AreAfter key more
    → overlaid draft_view ((key, x) ∷ more) (members_view items) ≡ front key (draft_view x) (overlaid draft_view more (members_view (drop 1 items)))
own_skipped key [] x more at after = absurd at
own_skipped key (m ∷ ms) x more at after =
    ap (λ (k : List ℕ). overlaid draft_view ((key, x) ∷ more) (member k (view m.value) (members_view ms))) at ∙ next_own draft_view key x (view m.value) more (members_view ms) after

-- the first comes behind the key
pub past_before : (key : List ℕ) (ms : Members Number) → KeysRise ms → IsPast key ms → (IsFrontAt key ms → ⊥) → IsBeforeAll key ms
past_before key no_members rise past other = tt
past_before key (member k v ms) rise past other = step (compared_keys key k) refl where
  step : (r : Ordering) → compared_keys key k ≡ r → IsBeforeAll key (member k v ms)
  step Less e = (e, before_later key k ms e rise.0)
  step Equal e = absurd (other (sym (same_by key k e)))
  step Greater e = absurd (past (turned_back key k e))

pub other_skipped : (key : List ℕ) (ms : Members Number) (x : Draft) (more : List (List ℕ × Draft)) → KeysRise ms → IsPast key ms → (IsFrontAt key ms → ⊥) → AreAfter key more
    → overlaid draft_view ((key, x) ∷ more) ms ≡ front key (draft_view x) (overlaid draft_view more ms)
other_skipped key ms x more rise past other after = next_entry draft_view key x more ms (past_before key ms rise past other) after
