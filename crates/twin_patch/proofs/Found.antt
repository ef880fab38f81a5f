-- Where a search finds a key among members in order.
use Rattle.std.proofs.Common.{◌≡◌, ℕ, zero, suc, ◌+◌, ◌<◌, ◌≤◌, List, [], ◌∷◌, length, get_or, Bool, false, Result, Ok, Err, refl, sym, ap, ◌∙◌, subst, arith, add-one}
use Rattle.std.specs.Ordering.{nat_cmp, is_lt, ordering_reverse}
use Rattle.std.specs.declared.cmp.Ordering.{Ordering}
use Rattle.std.specs.declared.cmp.Ordering.TheVariants.{Less, Equal, Greater}
use Rattle.std.specs.List.Sorted.{IsSortedBy, IsBinarySearchResult, IsSearchInRange}
use Rattle.std.proofs.lemmas.List.Sorted.{searchable_from_sorted}
use Rattle.std.proofs.lemmas.Cmp.{nat_list_cmp_total}
use Rattle.std.proofs.lemmas.Map.Lookups.{exact_bytes}
use Rattle.json_tree.specs.Values.{Json, Members, no_members, member}
use Rattle.json_tree.specs.View.{view, members_view}
use Rattle.json_tree.specs.declared.tree.Member.{Member}
use Rattle.twin_patch.specs.Machinery.Orders.{compared_keys, IsBeforeAll, KeysRise, IsFoundAt, IsMissingAt, Stands}

-- the order the other way round
pub turned : (a b : List ℕ) → compared_keys a b ≡ Less → compared_keys b a ≡ Greater
turned a b h = nat_list_cmp_total.antisymm b a ∙ ap ordering_reverse h

pub turned_back : (a b : List ℕ) → compared_keys a b ≡ Greater → compared_keys b a ≡ Less
turned_back a b h = nat_list_cmp_total.antisymm b a ∙ ap ordering_reverse h

before_at : (key : List ℕ) (ms : List Member) (i : ℕ) (d : Member) → IsBeforeAll key (members_view ms) → i < length ms → compared_keys key (get_or ms i d).key ≡ Less
before_at key [] i d h lt = absurd (omega (arith, lt))
before_at key (m ∷ ms) zero d h lt = h.0
before_at key (m ∷ ms) (suc i) d h lt = before_at key ms i d h.1 (omega (arith, lt))

all_before : (key : List ℕ) (ms : List Member) → ((k : ℕ) (d : Member) → k < length ms → compared_keys key (get_or ms k d).key ≡ Less) → IsBeforeAll key (members_view ms)
all_before key [] h = tt
all_before key (m ∷ ms) h = (h zero m (omega arith), all_before key ms (λ k d lt. h (suc k) d (omega (arith, lt))))

-- members in order are sorted, as a search asks
rising : (ms : List Member) → KeysRise (members_view ms) → IsSortedBy (λ (a b : Member). is_lt (compared_keys a.key b.key)) ms
rising [] o k d low within = absurd (omega (arith, within))
rising (m ∷ ms) o zero d low within = ap is_lt (turned m.key (get_or ms zero d).key (before_at m.key ms zero d o.0 (omega (arith, within))))
rising (m ∷ ms) o (suc k) d low within =
    let one : suc k + 1 ≡ suc (k + 1) = omega arith in
    rw one (rising ms o.1 k d (omega arith) (omega (arith, within)))

found : (ms : List Member) (i : ℕ) (key : List ℕ) → KeysRise (members_view ms) → i < length ms → ((d : Member) → (get_or ms i d).key ≡ key) → IsFoundAt key (members_view ms) i
found [] i key o lt is = absurd (omega (arith, lt))
found (m ∷ ms) zero key o lt is = sym (is m)
found (m ∷ ms) (suc i) key o lt is = (
  turned m.key key (subst (λ k. compared_keys m.key k ≡ Less) (is m) (before_at m.key ms i m o.0 (omega (arith, lt)))),
  found ms i key o.1 (omega (arith, lt)) is,
)

missing : (ms : List Member) (i : ℕ) (key : List ℕ) → i ≤ length ms → ((k : ℕ) (d : Member) → 0 ≤ k → k < i → compared_keys (get_or ms k d).key key ≡ Less)
    → ((k : ℕ) (d : Member) → i ≤ k → k < length ms → compared_keys (get_or ms k d).key key ≡ Greater) → IsMissingAt key (members_view ms) i
missing [] zero key le low high = tt
missing [] (suc i) key le low high = absurd (omega (arith, le))
missing (m ∷ ms) zero key le low high = all_before key (m ∷ ms) (λ k d lt. turned_back (get_or (m ∷ ms) k d).key key (high k d (omega arith) lt))
missing (m ∷ ms) (suc i) key le low high = (
  turned m.key key (low zero m (omega arith) (omega arith)),
  missing ms i key (omega (arith, le)) (λ k d least lt. low (suc k) d (omega arith) (omega (arith, lt))) (λ k d least lt. high (suc k) d (omega (arith, least)) (omega (arith, lt))),
)

pub searched : (ms : List Member) (key : List ℕ) (r : Result ℕ ℕ) → KeysRise (members_view ms) → IsSearchInRange r (length ms)
    → IsBinarySearchResult (λ (m : Member). compared_keys m.key key) ms r → Stands key (members_view ms) r
searched ms key (Ok i) o b h = found ms i key o b (λ d. exact_bytes (get_or ms i d).key key (h d))
searched ms key (Err i) o b h =
    let p = h (searchable_from_sorted nat_list_cmp_total (λ (m : Member). m.key) ms key (rising ms o)) in missing ms i key b p.0 p.1
