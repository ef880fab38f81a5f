-- Members in order are told by their keys; and the keys of what is read back of a printed twin.
use Rattle.std.proofs.Common.{◌≡◌, ℕ, List, ◌∷◌, Bool, true, false, cond, ◌&&◌, ◌||◌, bytes_eq, codes, Option, Some, None, refl, sym, ap, ◌∙◌, subst, true≢false, Less, Equal, Greater, is_eq}
use Rattle.std.specs.Prelude.{IsTrue}
use Rattle.std.specs.Option.{is_some, option_map}
use Rattle.std.specs.Ordering.{ordering_reverse}
use Rattle.std.specs.declared.cmp.Ordering.{Ordering}
use Rattle.std.proofs.lemmas.Slice.Eq.{bytes_eq-Decides}
use Rattle.json_decimal.specs.Number.{Number}
use Rattle.json_tree.specs.Values.{Json, text, Members, no_members, member}
use Rattle.json_tree.specs.Members.{value_at}
use Rattle.ordered_table.proofs.Flat.{C, c_total}
use Rattle.dtdl_terms.specs.declared.resolved.ResolvedContent.{ResolvedContent}
use Rattle.twin_patch.specs.Objects.{sorted_value, sorted_members}
use Rattle.twin_patch.specs.Machinery.Orders.{IsBeforeAll, AreInOrder}
use Rattle.twin_patch.proofs.Ordered.{before_later, members_order}
use Rattle.twin_value.specs.Roles.{Library, Role, twin_metadata, any_text, value, twin_body, body_member_role}
use Rattle.twin_value.specs.Twins.{picked, joined_members, any_key, is_value_role, is_part_role, with_metadata}
use Rattle.graph_steps.specs.Typed.{AllKeys}
use Rattle.graph_steps.proofs.invariants.Keyed.{one_text, tests}
use Rattle.graph_steps.proofs.invariants.Members.{value-sorted}
use Rattle.graph_judges.specs.fits.Machinery.Keys.{keys_in}

-- ---- members in order that have the same keys
itself_same : (k : List ℕ) → bytes_eq k k ≡ true
itself_same k = (bytes_eq-Decides k k).1 refl

lacking : (key : List ℕ) (ms : Members Number) → IsBeforeAll key ms → is_some (value_at key ms) ≡ false
lacking key no_members before = refl
lacking key (member k v ms) before =
    let other : bytes_eq k key ≡ false = sym (tests key k) ∙ ap is_eq before.0 in
    ap (λ b. is_some (cond b (Some v) (value_at key ms))) other ∙ lacking key ms before.1

has_head : (k : List ℕ) (v : Json) (ms : Members Number) → is_some (value_at k (member k v ms)) ≡ true
has_head k v ms = ap (λ b. is_some (cond b (Some v) (value_at k ms))) (itself_same k)

abbrev AreThere : Members Number → Members Number → Type 0
AreThere ms ns = (key : List ℕ) → is_some (value_at key ms) ≡ is_some (value_at key ns)

tails : (k q : List ℕ) (v w : Json) (ms ns : Members Number) → k ≡ q → IsBeforeAll k ms → IsBeforeAll q ns → AreThere (member k v ms) (member q w ns) → AreThere ms ns
tails k q v w ms ns one low high same key =
    elim (bytes_eq k key) as (λ b. bytes_eq k key ≡ b → is_some (value_at key ms) ≡ is_some (value_at key ns)) [
      | true ↦ λ e.
          let is : k ≡ key = (bytes_eq-Decides k key).0 e in
          lacking key ms (subst (λ (x : List ℕ). IsBeforeAll x ms) is low) ∙ sym (lacking key ns (subst (λ (x : List ℕ). IsBeforeAll x ns) (sym one ∙ is) high))
      | false ↦ λ e.
          sym (ap (λ b. is_some (cond b (Some v) (value_at key ms))) e)
          ∙ same key
          ∙ ap (λ b. is_some (cond b (Some w) (value_at key ns))) (ap (λ (x : List ℕ). bytes_eq x key) (sym one) ∙ e)
    ] refl

pub one_order : (ms ns : Members Number) → AreInOrder ms → AreInOrder ns → AreThere ms ns → keys_in ms ≡ keys_in ns
one_order no_members no_members low high same = refl
one_order no_members (member q w ns) low high same = absurd (true≢false (sym (same q ∙ has_head q w ns)))
one_order (member k v ms) no_members low high same = absurd (true≢false (sym (has_head k v ms) ∙ same k))
one_order (member k v ms) (member q w ns) low high same = step (C k q) refl (λ one. one_order ms ns low.2 high.2 (tails k q v w ms ns one low.0 high.0 same))
  where
    step : (o : Ordering) → C k q ≡ o → (k ≡ q → keys_in ms ≡ keys_in ns) → k ∷ keys_in ms ≡ q ∷ keys_in ns
    step Less e rest = absurd (true≢false (sym (has_head k v ms) ∙ same k ∙ lacking k (member q w ns) (e, before_later k q ns e high.0)))
    step Greater e rest =
        let less : C q k ≡ Less = c_total.antisymm q k ∙ ap ordering_reverse e in
        absurd (true≢false (sym (has_head q w ns) ∙ sym (same q) ∙ lacking q (member k v ms) (less, before_later q k ms less low.0)))
    step Equal e rest = let one : k ≡ q = one_text k q (ap is_eq e) in ap (λ (x : List ℕ). x ∷ keys_in ms) one ∙ ap (λ (xs : List (List ℕ)). q ∷ xs) (rest one)

-- What holds of all keys is told by the keys.
pub all_by_keys : (P : List ℕ → Type 0) (ms ns : Members Number) → keys_in ms ≡ keys_in ns → AllKeys P ms → AllKeys P ns
all_by_keys P no_members no_members e all = tt
all_by_keys P no_members (member q w ns) e all = absurd cc
all_by_keys P (member k v ms) no_members e all = absurd cc
all_by_keys P (member k v ms) (member q w ns) e all =
    let one : k ≡ q = cc in
    let rest : keys_in ms ≡ keys_in ns = cc in
    (subst P one all.0, all_by_keys P ms ns rest all.1)

-- ---- which keys there are
there_sorted : (key : List ℕ) (ms : Members Number) → is_some (value_at key (sorted_members ms)) ≡ is_some (value_at key ms)
there_sorted key ms = ap (λ (o : Option Json). is_some o) (value-sorted key ms) ∙ mapped (value_at key ms)
  where
    mapped : (o : Option Json) → is_some (option_map sorted_value o) ≡ is_some o
    mapped None = refl
    mapped (Some v) = refl

there_joined : (key : List ℕ) (ms ns : Members Number) → is_some (value_at key (joined_members ms ns)) ≡ (is_some (value_at key ms) || is_some (value_at key ns))
there_joined key no_members ns = refl
there_joined key (member k v ms) ns =
    elim (bytes_eq k key) as (λ b. is_some (cond b (Some v) (value_at key (joined_members ms ns))) ≡ (is_some (cond b (Some v) (value_at key ms)) || is_some (value_at key ns))) [
      | true ↦ refl
      | false ↦ there_joined key ms ns
    ]

there_picked : (key : List ℕ) (p : List ℕ → Bool) (f : Json → Json) (ms : Members Number) → is_some (value_at key (picked p f ms)) ≡ (p key && is_some (value_at key ms))
there_picked key p f no_members = elim (p key) as (λ b. false ≡ (b && false)) [ true ↦ refl | false ↦ refl ]
there_picked key p f (member k v ms) = step (p k) (bytes_eq k key) refl refl (there_picked key p f ms)
  where
    step : (b c : Bool) → p k ≡ b → bytes_eq k key ≡ c → is_some (value_at key (picked p f ms)) ≡ (p key && is_some (value_at key ms))
        → is_some (value_at key (cond b (member k (f v) (picked p f ms)) (picked p f ms))) ≡ (p key && is_some (cond c (Some v) (value_at key ms)))
    step true true e g later =
        let passes : p key ≡ true = ap p (sym ((bytes_eq-Decides k key).0 g)) ∙ e in
        ap (λ t. is_some (cond t (Some (f v)) (value_at key (picked p f ms)))) g ∙ ap (λ t. t && true) (sym passes)
    step true false e g later = ap (λ t. is_some (cond t (Some (f v)) (value_at key (picked p f ms)))) g ∙ later
    step false true e g later =
        let fails : p key ≡ false = ap p (sym ((bytes_eq-Decides k key).0 g)) ∙ e in
        later ∙ ap (λ t. t && is_some (value_at key ms)) fails ∙ ap (λ t. t && true) (sym fails)
    step false false e g later = later

holds_there : (P : List ℕ → Type 0) (ms : Members Number) → AllKeys P ms → (key : List ℕ) → is_some (value_at key ms) ≡ true → P key
holds_there P no_members all key h = absurd (true≢false (sym h))
holds_there P (member k v ms) all key h =
    elim (bytes_eq k key) as (λ b. bytes_eq k key ≡ b → is_some (cond b (Some v) (value_at key ms)) ≡ true → P key) [
      | true ↦ λ e g. subst P ((bytes_eq-Decides k key).0 e) all.0
      | false ↦ λ e g. holds_there P ms all.1 key g
    ] refl h

-- ---- roles
not_both : (r : Role) → is_part_role r ≡ true → is_value_role r ≡ false
not_both (value ns s) h = absurd (true≢false (sym h))
not_both other h = refl

not_twice : (r : Role) → is_value_role r ≡ true → is_part_role r ≡ false
not_twice (value ns s) h = refl
not_twice other h = absurd (true≢false (sym h))

-- ---- what is read back
first_of : (p d m vs ps : Bool) → (vs ≡ true → p ≡ true) → (d ≡ true → p ≡ false) → (m ≡ true → p ≡ false) → (ps ≡ true → p ≡ false) → (p && (d || (m || (vs || ps)))) ≡ vs
first_of false d m false ps own none others rest = refl
first_of false d m true ps own none others rest = own refl
first_of true true m vs ps own none others rest = absurd (true≢false (none refl))
first_of true false true vs ps own none others rest = absurd (true≢false (others refl))
first_of true false false true ps own none others rest = refl
first_of true false false false true own none others rest = absurd (true≢false (rest refl))
first_of true false false false false own none others rest = refl

second_of : (p d m vs ps : Bool) → (ps ≡ true → p ≡ true) → (d ≡ true → p ≡ false) → (m ≡ true → p ≡ false) → (vs ≡ true → p ≡ false) → (p && (d || (m || (vs || ps)))) ≡ ps
second_of false d m vs false own none others rest = refl
second_of false d m vs true own none others rest = own refl
second_of true true m vs ps own none others rest = absurd (true≢false (none refl))
second_of true false true vs ps own none others rest = absurd (true≢false (others refl))
second_of true false false true ps own none others rest = absurd (true≢false (rest refl))
second_of true false false false ps own none others rest = refl

module _ (l : Library) (cs : List ResolvedContent) (id : List ℕ) (metadata : Json) (vs ps : Members Number) where
  abbrev pub printed_members : Members Number
  printed_members = member (codes "$dtId") (text id) (member (codes "$metadata") metadata (joined_members vs (picked any_key with_metadata ps)))

  abbrev is_value : List ℕ → Bool
  is_value key = is_value_role (body_member_role (twin_body l cs) key)

  abbrev is_part : List ℕ → Bool
  is_part key = is_part_role (body_member_role (twin_body l cs) key)

  there_printed : (key : List ℕ) → is_some (value_at key printed_members) ≡ (bytes_eq (codes "$dtId") key || (bytes_eq (codes "$metadata") key || (is_some (value_at key vs) || is_some (value_at key ps))))
  there_printed key = by (bytes_eq (codes "$dtId") key) (bytes_eq (codes "$metadata") key)
    where
      inner : is_some (value_at key (joined_members vs (picked any_key with_metadata ps))) ≡ (is_some (value_at key vs) || is_some (value_at key ps))
      inner = there_joined key vs (picked any_key with_metadata ps) ∙ ap (λ b. is_some (value_at key vs) || b) (there_picked key any_key with_metadata ps)

      by : (d m : Bool) → is_some (cond d (Some (text id)) (cond m (Some metadata) (value_at key (joined_members vs (picked any_key with_metadata ps))))) ≡ (d || (m || (is_some (value_at key vs) || is_some (value_at key ps))))
      by true m = refl
      by false true = refl
      by false false = inner

  no_role : (t : Role → Bool) → t any_text ≡ false → (key : List ℕ) → bytes_eq (codes "$dtId") key ≡ true → t (body_member_role (twin_body l cs) key) ≡ false
  no_role t none key e = ap (λ (q : List ℕ). t (body_member_role (twin_body l cs) q)) (sym ((bytes_eq-Decides (codes "$dtId") key).0 e)) ∙ none

  no_metadata_role : (t : Role → Bool) → t twin_metadata ≡ false → (key : List ℕ) → bytes_eq (codes "$metadata") key ≡ true → t (body_member_role (twin_body l cs) key) ≡ false
  no_metadata_role t none key e = ap (λ (q : List ℕ). t (body_member_role (twin_body l cs) q)) (sym ((bytes_eq-Decides (codes "$metadata") key).0 e)) ∙ none

  module _ (f : Json → Json) where
    read_there : (p : List ℕ → Bool) (key : List ℕ) → is_some (value_at key (sorted_members (picked p f (sorted_members printed_members)))) ≡ (p key && is_some (value_at key printed_members))
    read_there p key =
        there_sorted key (picked p f (sorted_members printed_members)) ∙ there_picked key p f (sorted_members printed_members) ∙ ap (λ b. p key && b) (there_sorted key printed_members)

    -- where each value is a property, and each component a component of the model
    module _ (values : AllKeys (λ key. IsTrue (is_value key)) vs) (parts : AllKeys (λ key. IsTrue (is_part key)) ps) where
      pub values_read : AreInOrder vs → keys_in (sorted_members (picked is_value f (sorted_members printed_members))) ≡ keys_in vs
      values_read order =
          one_order (sorted_members (picked is_value f (sorted_members printed_members))) vs (members_order (picked is_value f (sorted_members printed_members))) order
          (λ key. read_there is_value key
          ∙ ap (λ b. is_value key && b) (there_printed key)
          ∙ first_of (is_value key) (bytes_eq (codes "$dtId") key) (bytes_eq (codes "$metadata") key) (is_some (value_at key vs)) (is_some (value_at key ps)) (holds_there (λ q. IsTrue (is_value q)) vs values key)
          (no_role is_value_role refl key) (no_metadata_role is_value_role refl key) (λ h. not_both (body_member_role (twin_body l cs) key) (holds_there (λ q. IsTrue (is_part q)) ps parts key h)))

      pub parts_read : AreInOrder ps → keys_in (sorted_members (picked is_part f (sorted_members printed_members))) ≡ keys_in ps
      parts_read order =
          one_order (sorted_members (picked is_part f (sorted_members printed_members))) ps (members_order (picked is_part f (sorted_members printed_members))) order
          (λ key. read_there is_part key
          ∙ ap (λ b. is_part key && b) (there_printed key)
          ∙ second_of (is_part key) (bytes_eq (codes "$dtId") key) (bytes_eq (codes "$metadata") key) (is_some (value_at key vs)) (is_some (value_at key ps)) (holds_there (λ q. IsTrue (is_part q)) ps parts key)
          (no_role is_part_role refl key) (no_metadata_role is_part_role refl key) (λ h. not_twice (body_member_role (twin_body l cs) key) (holds_there (λ q. IsTrue (is_value q)) vs values key h)))
