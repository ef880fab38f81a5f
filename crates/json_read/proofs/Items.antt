-- Elements and members, one after the other, as the loops read them.
use Rattle.std.proofs.Common.{◌≡◌, ℕ, suc, ◌+◌, ◌<◌, inl, inr, List, [], ◌∷◌, ◌++◌, length, map, get_or, Option, Some, None, nat_eq, false, refl, sym, ap, ◌∙◌, subst, arith}
use Rattle.std.proofs.lemmas.List.{map_push, length-append}
use Rattle.json_tree.specs.declared.tree.Tree.{Tree}
use Rattle.json_tree.specs.declared.tree.Tree as variants
use Rattle.json_tree.specs.declared.tree.Member.{Member}
use Rattle.json_read.specs.declared.fault.JsonFault.{JsonFault}
use Rattle.json_tree.specs.Values.{Raw, Json, array, object, elements_of, members_of}
use Rattle.json_tree.specs.View.{view, member_view, elements_view, members_view}
use Rattle.json_tree.specs.Grammar.{IsSpace}
use Rattle.json_read.specs.Machinery.Automaton.{Pairs, Frame, in_array, in_object, State, value, next_key, after, step, reading}
use Rattle.json_read.specs.Machinery.Leads.{IsOutcome, ElementsAreHeldAs, MembersAreHeldAs, IsRead}
use Rattle.json_read.specs.Machinery.Spans.{Faults}
use Rattle.json_read.specs.Machinery.Ways.{IsFirstRange, first_way}
use Rattle.json_tree.proofs.Choices.{no_byte-in}
use Rattle.json_read.proofs.Readings.{reading_byte, outcome_from}
use Rattle.json_tree.proofs.Views.{view-List, view-Members}
use Rattle.json_read.proofs.Held.{elements_held-more, members_held-more}
use Rattle.json_read.proofs.Ranges.{range_leaf, range_added, adds_element, adds_member}

-- What is between these positions is white space.
abbrev pub Skips : List ℕ → ℕ → ℕ → Type 0
Skips bytes from at = (s : State) → step s 32 ≡ Some s → step s 9 ≡ Some s → step s 10 ≡ Some s → step s 13 ≡ Some s
    → reading bytes s from ≡ reading bytes s at

-- ---- elements
-- These elements were read, and one more must come.
abbrev pub ElementsRead : List ℕ → ℕ → List Frame → ℕ → List Tree → Option (List ℕ) → ℕ → ℕ → Type 0
ElementsRead bytes d k from trees range position at = (raws : List Raw) × (length raws ≡ position)
    × ElementsAreHeldAs (elements_of raws) (elements_view trees) × IsFirstRange (array (elements_of raws)) range
    × (reading bytes (value d (in_array [] ∷ k)) from ≡ reading bytes (value d (in_array raws ∷ k)) at)

-- These elements were read, the last of them just now.
abbrev pub ElementRead : List ℕ → ℕ → List Frame → ℕ → List Tree → Option (List ℕ) → ℕ → ℕ → Type 0
ElementRead bytes d k from trees range position at = (raws : List Raw) × (v : Raw) × (length raws ≡ position)
    × ElementsAreHeldAs (elements_of (raws ++ v ∷ [])) (elements_view trees) × IsFirstRange (array (elements_of (raws ++ v ∷ []))) range
    × (reading bytes (value d (in_array [] ∷ k)) from ≡ reading bytes (after d (in_array raws ∷ k) v) at)

pub no_elements_read : (bytes : List ℕ) (d : ℕ) (k : List Frame) (from : ℕ) → ElementsRead bytes d k from [] None 0 from
no_elements_read bytes d k from = ([], refl, refl, range_leaf (array (elements_of [])) (λ l e. absurd cc) (λ i part e. absurd cc), refl)

pub element_read : (bytes : List ℕ) (d : ℕ) (k : List Frame) (from : ℕ) (trees : List Tree) (range : Option (List ℕ)) (position at : ℕ)
    → ElementsRead bytes d k from trees range position at
    → (tree : Tree) (inner : Option (List ℕ)) (stop next : ℕ) → ((l : List Frame) → IsRead bytes (after d l) tree inner stop (reading bytes (value d l) at))
    → Skips bytes stop next → (all : List Tree) → all ≡ trees ++ tree ∷ [] → (way : Option (List ℕ)) → way ≡ first_way range inner position
    → ElementRead bytes d k from all way position next
element_read bytes d k from trees range position at (raws, count, held, first, so_far) tree inner stop next read skips all pushed way found =
    let r = read (in_array raws ∷ k) in
    let trees_held = elements_held-more raws (map view trees) r.0 (view tree) held r.1 in
    let added = range_added (array (elements_of raws)) (array (elements_of (raws ++ r.0 ∷ []))) (length raws) r.0 (adds_element raws r.0) range inner first r.2 in (
      raws,
      r.0,
      count,
      subst (λ (ws : List Json). ElementsAreHeldAs (elements_of (raws ++ r.0 ∷ [])) (elements_of ws)) (sym (ap (λ (ts : List Tree). map view ts) pushed ∙ map_push view trees tree)) trees_held,
      subst (λ (w : Option (List ℕ)). IsFirstRange (array (elements_of (raws ++ r.0 ∷ []))) w) (ap (λ (n : ℕ). first_way range inner n) count ∙ sym found) added,
      so_far ∙ r.3 ∙ skips (after d (in_array raws ∷ k) r.0) refl refl refl refl,
    )

count_more : {A : Type 0} (xs : List A) (x : A) (n : ℕ) → length xs ≡ n → length (xs ++ x ∷ []) ≡ n + 1
count_more {A} xs x n e = omega (arith, length-append {A = A}, e)

pub element_comma : (bytes : List ℕ) (d : ℕ) (k : List Frame) (from : ℕ) (trees : List Tree) (range : Option (List ℕ)) (position at : ℕ)
    → ElementRead bytes d k from trees range position at → at < length bytes → get_or bytes at 0 ≡ 44 → ElementsRead bytes d k from trees range (position + 1) (at + 1)
element_comma bytes d k from trees range position at (raws, v, count, held, first, so_far) lt e = (
  raws ++ v ∷ [],
  count_more raws v position count,
  held,
  first,
  so_far ∙ reading_byte bytes (after d (in_array raws ∷ k) v) (value d (in_array (raws ++ v ∷ []) ∷ k)) at 44 lt e refl,
)

pub element_close : (bytes : List ℕ) (d : ℕ) (k : List Frame) (from : ℕ) (trees : List Tree) (range : Option (List ℕ)) (position at : ℕ)
    → ElementRead bytes d k from trees range position at → at < length bytes → get_or bytes at 0 ≡ 93
    → IsRead bytes (after (suc d) k) (variants.List trees) range (at + 1) (reading bytes (value d (in_array [] ∷ k)) from)
element_close bytes d k from trees range position at (raws, v, count, held, first, so_far) lt e = (
  array (elements_of (raws ++ v ∷ [])),
  (elements_view trees, held, view-List trees),
  first,
  so_far ∙ reading_byte bytes (after d (in_array raws ∷ k) v) (after (suc d) k (array (elements_of (raws ++ v ∷ [])))) at 93 lt e refl,
)

spaces_no : (b : ℕ) → (IsSpace b → ⊥) → (nat_eq b 32 ≡ false) × (nat_eq b 9 ≡ false) × (nat_eq b 10 ≡ false) × (nat_eq b 13 ≡ false)
spaces_no b h = (no_byte-in b 32 (λ e. h (inl e)), no_byte-in b 9 (λ e. h (inr (inl e))), no_byte-in b 10 (λ e. h (inr (inr (inl e)))), no_byte-in b 13 (λ e. h (inr (inr (inr e)))))

element_dead : (d : ℕ) (k : List Frame) (raws : List Raw) (v : Raw) (b : ℕ) → (IsSpace b → ⊥) → (b ≡ 44 → ⊥) → (b ≡ 93 → ⊥) → step (after d (in_array raws ∷ k) v) b ≡ None
element_dead d k raws v b h p q =
    let s = spaces_no b h in
    rw (s.0, s.1, s.2, s.3, no_byte-in b 44 p, no_byte-in b 93 q) refl

pub element_fault : (bytes : List ℕ) (d : ℕ) (k : List Frame) (from : ℕ) (trees : List Tree) (range : Option (List ℕ)) (position at : ℕ)
    → ElementRead bytes d k from trees range position at → (fault : JsonFault) → Faults bytes at fault → (IsSpace (get_or bytes at 0) → ⊥)
    → (get_or bytes at 0 ≡ 44 → ⊥) → (get_or bytes at 0 ≡ 93 → ⊥) → IsOutcome bytes fault (reading bytes (value d (in_array [] ∷ k)) from)
element_fault bytes d k from trees range position at (raws, v, count, held, first, so_far) fault faults h p q =
    outcome_from bytes fault _ _ so_far
    (faults (after d (in_array raws ∷ k) v) (λ lt. element_dead d k raws v (get_or bytes at 0) h p q) (λ le. refl))

-- ---- members
abbrev pub MembersRead : List ℕ → ℕ → List Frame → ℕ → List Member → Option (List ℕ) → ℕ → ℕ → Type 0
MembersRead bytes d k from ms range position at = (raws : Pairs) × (length raws ≡ position)
    × MembersAreHeldAs (members_of raws) (members_view ms) × IsFirstRange (object (members_of raws)) range
    × (reading bytes (next_key d k []) from ≡ reading bytes (next_key d k raws) at)

abbrev pub MemberRead : List ℕ → ℕ → List Frame → ℕ → List Member → Option (List ℕ) → ℕ → ℕ → Type 0
MemberRead bytes d k from ms range position at = (raws : Pairs) × (key : List ℕ) × (v : Raw) × (length raws ≡ position)
    × MembersAreHeldAs (members_of (raws ++ (key, v) ∷ [])) (members_view ms) × IsFirstRange (object (members_of (raws ++ (key, v) ∷ []))) range
    × (reading bytes (next_key d k []) from ≡ reading bytes (after d (in_object raws key ∷ k) v) at)

pub no_members_read : (bytes : List ℕ) (d : ℕ) (k : List Frame) (from : ℕ) → MembersRead bytes d k from [] None 0 from
no_members_read bytes d k from = ([], refl, refl, range_leaf (object (members_of [])) (λ l e. absurd cc) (λ i part e. absurd (let f = e.1 in cc)), refl)

pub member_read : (bytes : List ℕ) (d : ℕ) (k : List Frame) (from : ℕ) (ms : List Member) (range : Option (List ℕ)) (position at : ℕ)
    → MembersRead bytes d k from ms range position at
    → (m : Member) (inner : Option (List ℕ)) (colon stop next : ℕ)
    → ((raws : Pairs) → reading bytes (next_key d k raws) at ≡ reading bytes (value d (in_object raws m.key ∷ k)) colon)
    → ((l : List Frame) → IsRead bytes (after d l) m.value inner stop (reading bytes (value d l) colon))
    → Skips bytes stop next → (all : List Member) → all ≡ ms ++ m ∷ [] → (way : Option (List ℕ)) → way ≡ first_way range inner position
    → MemberRead bytes d k from all way position next
member_read bytes d k from ms range position at (raws, count, held, first, so_far) m inner colon stop next key read skips all pushed way found =
    let r = read (in_object raws m.key ∷ k) in
    let all_held = members_held-more raws (map member_view ms) m.key r.0 (view m.value) held r.1 in
    let added = range_added (object (members_of raws)) (object (members_of (raws ++ (m.key, r.0) ∷ []))) (length raws) r.0 (adds_member raws m.key r.0) range inner first r.2 in (
      raws,
      m.key,
      r.0,
      count,
      subst (λ (ws : List (List ℕ × Json)). MembersAreHeldAs (members_of (raws ++ (m.key, r.0) ∷ [])) (members_of ws)) (sym (ap (λ (ns : List Member). map member_view ns) pushed ∙ map_push member_view ms m)) all_held,
      subst (λ (w : Option (List ℕ)). IsFirstRange (object (members_of (raws ++ (m.key, r.0) ∷ []))) w) (ap (λ (n : ℕ). first_way range inner n) count ∙ sym found) added,
      so_far ∙ key raws ∙ r.3 ∙ skips (after d (in_object raws m.key ∷ k) r.0) refl refl refl refl,
    )

pub member_comma : (bytes : List ℕ) (d : ℕ) (k : List Frame) (from : ℕ) (ms : List Member) (range : Option (List ℕ)) (position at : ℕ)
    → MemberRead bytes d k from ms range position at → at < length bytes → get_or bytes at 0 ≡ 44 → MembersRead bytes d k from ms range (position + 1) (at + 1)
member_comma bytes d k from ms range position at (raws, key, v, count, held, first, so_far) lt e = (
  raws ++ (key, v) ∷ [],
  count_more raws (key, v) position count,
  held,
  first,
  so_far ∙ reading_byte bytes (after d (in_object raws key ∷ k) v) (next_key d k (raws ++ (key, v) ∷ [])) at 44 lt e refl,
)

pub member_close : (bytes : List ℕ) (d : ℕ) (k : List Frame) (from : ℕ) (ms : List Member) (range : Option (List ℕ)) (position at : ℕ)
    → MemberRead bytes d k from ms range position at → at < length bytes → get_or bytes at 0 ≡ 125
    → IsRead bytes (after (suc d) k) (variants.Members ms) range (at + 1) (reading bytes (next_key d k []) from)
member_close bytes d k from ms range position at (raws, key, v, count, held, first, so_far) lt e = (
  object (members_of (raws ++ (key, v) ∷ [])),
  (members_view ms, held, view-Members ms),
  first,
  so_far ∙ reading_byte bytes (after d (in_object raws key ∷ k) v) (after (suc d) k (object (members_of (raws ++ (key, v) ∷ [])))) at 125 lt e refl,
)

member_dead : (d : ℕ) (k : List Frame) (raws : Pairs) (key : List ℕ) (v : Raw) (b : ℕ) → (IsSpace b → ⊥) → (b ≡ 44 → ⊥) → (b ≡ 125 → ⊥) → step (after d (in_object raws key ∷ k) v) b ≡ None
member_dead d k raws key v b h p q =
    let s = spaces_no b h in
    rw (s.0, s.1, s.2, s.3, no_byte-in b 44 p, no_byte-in b 125 q) refl

pub member_fault : (bytes : List ℕ) (d : ℕ) (k : List Frame) (from : ℕ) (ms : List Member) (range : Option (List ℕ)) (position at : ℕ)
    → MemberRead bytes d k from ms range position at → (fault : JsonFault) → Faults bytes at fault → (IsSpace (get_or bytes at 0) → ⊥)
    → (get_or bytes at 0 ≡ 44 → ⊥) → (get_or bytes at 0 ≡ 125 → ⊥) → IsOutcome bytes fault (reading bytes (next_key d k []) from)
member_fault bytes d k from ms range position at (raws, key, v, count, held, first, so_far) fault faults h p q =
    outcome_from bytes fault _ _ so_far
    (faults (after d (in_object raws key ∷ k) v) (λ lt. member_dead d k raws key v (get_or bytes at 0) h p q) (λ le. refl))
