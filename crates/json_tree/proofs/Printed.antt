-- Texts that were printed piece by piece.
use Rattle.std.proofs.Common.{◌≡◌, ℕ, zero, suc, ◌+◌, ◌<◌, List, [], ◌∷◌, ◌++◌, length, drop, take, get_or, append_assoc, add-one, drop-cons, sym, ap, ◌∙◌}
use Rattle.json_decimal.specs.Number.{Number}
use Rattle.json_tree.specs.Values.{Json, Elements, element, Members, member}
use Rattle.json_tree.specs.View.{view, elements_view, members_view}
use Rattle.json_tree.specs.Printing.{quoted, printed, printed_elements, printed_more_elements, printed_members, printed_more_members}
use Rattle.json_tree.specs.Machinery.Pieces.{comma_before, IsOfTree, AreOfTrees, MembersAreOfTrees}
use Rattle.std.specs.Str.{IsUtf8}
use Rattle.std.proofs.Math.Seq.{take-suc}
use Rattle.json_tree.specs.declared.tree.Tree.{Tree}
use Rattle.json_tree.specs.declared.tree.Member.{Member}

-- what is still to be printed at a position
abbrev pub elements_left : ℕ → Elements Number → List ℕ
elements_left zero vs = printed_elements vs
elements_left (suc n) vs = printed_more_elements vs

abbrev pub members_left : ℕ → Members Number → List ℕ
members_left zero ms = printed_members ms
members_left (suc n) ms = printed_more_members ms

-- the list from a place on begins with what stands there
drop_at_item : {X : Type 0} (xs : List X) (i : ℕ) (x : X) → i < length xs → x ≡ get_or xs i x → drop i xs ≡ x ∷ drop (i + 1) xs
drop_at_item xs i x within is =
    drop-cons xs i x within ∙ ap (λ y. y ∷ drop (suc i) xs) (sym is) ∙ ap (λ n. x ∷ drop n xs) (sym (add-one i))

elements_after : (i : ℕ) (vs : Elements Number) → elements_left (i + 1) vs ≡ printed_more_elements vs
elements_after i vs = ap (λ n. elements_left n vs) (add-one i)

members_after : (i : ℕ) (ms : Members Number) → members_left (i + 1) ms ≡ printed_more_members ms
members_after i ms = ap (λ n. members_left n ms) (add-one i)

element_split : (i : ℕ) (v : Json) (vs : Elements Number) → elements_left i (element v vs) ≡ comma_before i ++ (printed v ++ elements_left (i + 1) vs)
element_split zero v vs = ap (λ e. printed v ++ e) (sym (elements_after 0 vs))
element_split (suc i) v vs = ap (λ e. 44 ∷ (printed v ++ e)) (sym (elements_after (suc i) vs))

member_split : (i : ℕ) (key : List ℕ) (v : Json) (ms : Members Number)
    → members_left i (member key v ms) ≡ comma_before i ++ (quoted key ++ 58 ∷ (printed v ++ members_left (i + 1) ms))
member_split zero key v ms = ap (λ e. quoted key ++ 58 ∷ (printed v ++ e)) (sym (members_after 0 ms))
member_split (suc i) key v ms = ap (λ e. 44 ∷ (quoted key ++ 58 ∷ (printed v ++ e))) (sym (members_after (suc i) ms))

-- an element behind its comma
pub element_printed : (out all : List ℕ) (items : List Tree) (i : ℕ) (item : Tree) → i < length items → item ≡ get_or items i item
    → out ++ elements_left i (elements_view (drop i items)) ≡ all
    → ((out ++ comma_before i) ++ printed (view item)) ++ elements_left (i + 1) (elements_view (drop (i + 1) items)) ≡ all
element_printed out all items i item lt is h =
    let rest = elements_view (drop (i + 1) items) in
    let split : elements_left i (elements_view (drop i items)) ≡ comma_before i ++ (printed (view item) ++ elements_left (i + 1) rest) =
    rw (drop_at_item items i item lt is) (element_split i (view item) rest) in
    append_assoc (out ++ comma_before i) (printed (view item)) (elements_left (i + 1) rest)
    ∙ append_assoc out (comma_before i) (printed (view item) ++ elements_left (i + 1) rest)
    ∙ ap (λ e. out ++ e) (sym split) ∙ h

-- a member behind its comma
pub member_printed : (out all : List ℕ) (members : List Member) (i : ℕ) (m : Member) → i < length members → m ≡ get_or members i m
    → out ++ members_left i (members_view (drop i members)) ≡ all
    → ((((out ++ comma_before i) ++ quoted m.key) ++ 58 ∷ []) ++ printed (view m.value)) ++ members_left (i + 1) (members_view (drop (i + 1) members)) ≡ all
member_printed out all members i m lt is h =
    let rest = members_left (i + 1) (members_view (drop (i + 1) members)) in
    let split : members_left i (members_view (drop i members)) ≡ comma_before i ++ (quoted m.key ++ 58 ∷ (printed (view m.value) ++ rest)) =
    rw (drop_at_item members i m lt is) (member_split i m.key (view m.value) (members_view (drop (i + 1) members))) in
    append_assoc (((out ++ comma_before i) ++ quoted m.key) ++ 58 ∷ []) (printed (view m.value)) rest
    ∙ append_assoc ((out ++ comma_before i) ++ quoted m.key) (58 ∷ []) (printed (view m.value) ++ rest)
    ∙ append_assoc (out ++ comma_before i) (quoted m.key) (58 ∷ (printed (view m.value) ++ rest))
    ∙ append_assoc out (comma_before i) (quoted m.key ++ 58 ∷ (printed (view m.value) ++ rest))
    ∙ ap (λ e. out ++ e) (sym split) ∙ h

-- one more item that is sound
elements_more : (xs : List Tree) (x : Tree) → AreOfTrees (elements_view xs) → IsOfTree (view x) → AreOfTrees (elements_view (xs ++ x ∷ []))
elements_more [] x h p = (p, tt)
elements_more (y ∷ xs) x h p = (h.0, elements_more xs x h.1 p)

members_more : (xs : List Member) (x : Member) → MembersAreOfTrees (members_view xs) → IsUtf8 x.key → IsOfTree (view x.value) → MembersAreOfTrees (members_view (xs ++ x ∷ []))
members_more [] x h k p = (k, p, tt)
members_more (y ∷ xs) x h k p = (h.0, h.1, members_more xs x h.2 k p)

take_item : {X : Type 0} (xs : List X) (i : ℕ) (x : X) → i < length xs → x ≡ get_or xs i x → take (i + 1) xs ≡ take i xs ++ x ∷ []
take_item xs i x lt is = ap (λ n. take n xs) (add-one i) ∙ take-suc xs i x lt ∙ ap (λ y. take i xs ++ y ∷ []) (sym is)

pub item_of_tree : (items : List Tree) (i : ℕ) (item : Tree) → i < length items → item ≡ get_or items i item
    → AreOfTrees (elements_view (take i items)) → IsOfTree (view item) → AreOfTrees (elements_view (take (i + 1) items))
item_of_tree items i item lt is all one = rw (take_item items i item lt is) (elements_more (take i items) item all one)

pub member_of_tree : (members : List Member) (i : ℕ) (m : Member) → i < length members → m ≡ get_or members i m
    → MembersAreOfTrees (members_view (take i members)) → IsUtf8 m.key → IsOfTree (view m.value) → MembersAreOfTrees (members_view (take (i + 1) members))
member_of_tree members i m lt is all key one = rw (take_item members i m lt is) (members_more (take i members) m all key one)
