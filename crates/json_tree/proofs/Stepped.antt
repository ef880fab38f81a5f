-- Steps that tokens spell: a token spells one key, and a key leads to one part.
use Rattle.std.proofs.Common.{◌≡◌, ◌≢◌, ℕ, ◌<◌, ◌≤◌, ◌^◌, ◌⊎◌, inl, inr, List, [], ◌∷◌, ◌++◌, length, get_or, nat_eq, decimal, Option, Some, None, refl, sym, ap, ◌∙◌, subst, arith}
use Rattle.std.specs.Prelude.{MatchOption}
use Rattle.std.proofs.lemmas.Fmt.{decimal_injective}
use Rattle.std.proofs.lemmas.Option.{same_Some}
use Rattle.json_tree.specs.Values.{Json, Value, array, object, Members, no_members, member}
use Rattle.json_tree.specs.View.{view, elements_view, members_view}
use Rattle.json_tree.specs.Places.{element_at}
use Rattle.json_tree.specs.Pointers.{token_byte, token_text, IsFirstMember, IsStep}
use Rattle.json_tree.specs.declared.tree.Tree.{Tree}
use Rattle.json_tree.specs.declared.tree.Tree as variants
use Rattle.json_tree.specs.declared.tree.Member.{Member}
use Rattle.json_tree.proofs.Choices.{choose, is_byte, no_byte}
use Rattle.json_tree.proofs.Views.{view-List, view-Members}
use Rattle.json_tree.proofs.Parts.{item_within}
use Rattle.json_tree.proofs.FirstKeys.{decimal_token}

-- how a byte is spelled
abbrev pub Shape : ℕ → List ℕ → Type 0
Shape b t = ((t ≡ 126 ∷ 48 ∷ []) × (b ≡ 126)) ⊎ (((t ≡ 126 ∷ 49 ∷ []) × (b ≡ 47)) ⊎ ((t ≡ b ∷ []) × (b ≢ 126)))

pub shape : (b : ℕ) → Shape b (token_byte b)
shape b = choose (Shape b) (nat_eq b 126) _ _
    (λ e. inl (refl, is_byte b 126 e))
    (λ n. choose (Shape b) (nat_eq b 47) _ _ (λ e. inr (inl (refl, is_byte b 47 e))) (λ _. inr (inr (refl, no_byte b 126 n))))

joined : (s s2 t t2 xs ys : List ℕ) → s ≡ s2 → t ≡ t2 → s ++ xs ≡ t ++ ys → s2 ++ xs ≡ t2 ++ ys
joined s s2 t t2 xs ys p q e = sym (ap (λ (l : List ℕ). l ++ xs) p) ∙ e ∙ ap (λ (l : List ℕ). l ++ ys) q

pub byte_split : (b c : ℕ) (s t xs ys : List ℕ) → Shape b s → Shape c t → s ++ xs ≡ t ++ ys → (b ≡ c) × (xs ≡ ys)
byte_split b c s t xs ys (inl p) (inl q) e =
    let f : 126 ∷ 48 ∷ xs ≡ 126 ∷ 48 ∷ ys = joined s _ t _ xs ys p.0 q.0 e in (p.1 ∙ sym q.1, cc)
byte_split b c s t xs ys (inl p) (inr (inl q)) e =
    let f : 126 ∷ 48 ∷ xs ≡ 126 ∷ 49 ∷ ys = joined s _ t _ xs ys p.0 q.0 e in let n : 48 ≡ 49 = ap (λ (l : List ℕ). get_or l 1 0) f in absurd (omega (arith, n))
byte_split b c s t xs ys (inl p) (inr (inr q)) e =
    let f : 126 ∷ 48 ∷ xs ≡ c ∷ ys = joined s _ t _ xs ys p.0 q.0 e in let n : 126 ≡ c = ap (λ (l : List ℕ). get_or l 0 0) f in absurd (q.1 (sym n))
byte_split b c s t xs ys (inr (inl p)) (inl q) e =
    let f : 126 ∷ 49 ∷ xs ≡ 126 ∷ 48 ∷ ys = joined s _ t _ xs ys p.0 q.0 e in let n : 49 ≡ 48 = ap (λ (l : List ℕ). get_or l 1 0) f in absurd (omega (arith, n))
byte_split b c s t xs ys (inr (inl p)) (inr (inl q)) e =
    let f : 126 ∷ 49 ∷ xs ≡ 126 ∷ 49 ∷ ys = joined s _ t _ xs ys p.0 q.0 e in (p.1 ∙ sym q.1, cc)
byte_split b c s t xs ys (inr (inl p)) (inr (inr q)) e =
    let f : 126 ∷ 49 ∷ xs ≡ c ∷ ys = joined s _ t _ xs ys p.0 q.0 e in let n : 126 ≡ c = ap (λ (l : List ℕ). get_or l 0 0) f in absurd (q.1 (sym n))
byte_split b c s t xs ys (inr (inr p)) (inl q) e =
    let f : b ∷ xs ≡ 126 ∷ 48 ∷ ys = joined s _ t _ xs ys p.0 q.0 e in let n : b ≡ 126 = ap (λ (l : List ℕ). get_or l 0 0) f in absurd (p.1 n)
byte_split b c s t xs ys (inr (inr p)) (inr (inl q)) e =
    let f : b ∷ xs ≡ 126 ∷ 49 ∷ ys = joined s _ t _ xs ys p.0 q.0 e in let n : b ≡ 126 = ap (λ (l : List ℕ). get_or l 0 0) f in absurd (p.1 n)
byte_split b c s t xs ys (inr (inr p)) (inr (inr q)) e =
    let f : b ∷ xs ≡ c ∷ ys = joined s _ t _ xs ys p.0 q.0 e in (ap (λ (l : List ℕ). get_or l 0 0) f, cc)

pub spelled_some : (b : ℕ) (s xs : List ℕ) → Shape b s → [] ≡ s ++ xs → ⊥
spelled_some b s xs (inl p) e = let f : [] ≡ 126 ∷ 48 ∷ xs = e ∙ ap (λ (l : List ℕ). l ++ xs) p.0 in absurd cc
spelled_some b s xs (inr (inl p)) e = let f : [] ≡ 126 ∷ 49 ∷ xs = e ∙ ap (λ (l : List ℕ). l ++ xs) p.0 in absurd cc
spelled_some b s xs (inr (inr p)) e = let f : [] ≡ b ∷ xs = e ∙ ap (λ (l : List ℕ). l ++ xs) p.0 in absurd cc

pub same_key : (xs ys : List ℕ) → token_text xs ≡ token_text ys → xs ≡ ys
same_key [] [] e = refl
same_key [] (y ∷ ys) e = absurd (spelled_some y (token_byte y) (token_text ys) (shape y) e)
same_key (x ∷ xs) [] e = absurd (spelled_some x (token_byte x) (token_text xs) (shape x) (sym e))
same_key (x ∷ xs) (y ∷ ys) e =
    let r = byte_split x y (token_byte x) (token_byte y) (token_text xs) (token_text ys) (shape x) (shape y) e in
    let tail = same_key xs ys r.1 in let head = r.0 in cc

-- a key leads to one part
first_same : {N : Type 0} (ms : Members N) (key : List ℕ) (p q : Value N) → IsFirstMember key ms p → IsFirstMember key ms q → p ≡ q
first_same no_members key p q h k = absurd h
first_same (member name v ms) key p q (inl h) (inl k) = h.1 ∙ sym k.1
first_same (member name v ms) key p q (inl h) (inr k) = absurd (k.0 h.0)
first_same (member name v ms) key p q (inr h) (inl k) = absurd (h.0 k.0)
first_same (member name v ms) key p q (inr h) (inr k) = first_same ms key p q h.1 k.1

pub one_item : (tree : Tree) (items trees : List Tree) → tree ≡ variants.List items → trees ≡ items → length trees < 2 ^ 64
    → (key : List ℕ) (one other : Json) → IsStep (view tree) key one → IsStep (view tree) key other → one ≡ other
one_item tree items trees is same few key one other h k =
    let v : view tree ≡ array (elements_view trees) = ap view is ∙ view-List items ∙ ap (λ ts. array (elements_view ts)) (sym same) in
    let a : IsStep (array (elements_view trees)) key one = subst (λ w. IsStep w key one) v h in
    let b : IsStep (array (elements_view trees)) key other = subst (λ w. IsStep w key other) v k in
    let c = item_within trees a.0 one a.2 in
    let d = item_within trees b.0 other b.2 in
    let i : a.0 ≡ b.0 = decimal_injective a.0 b.0 (omega (arith, c, few)) (omega (arith, d, few)) (sym a.1 ∙ b.1) in
    same_Some one other (sym a.2 ∙ ap (λ n. element_at (elements_view trees) n) i ∙ b.2)

pub one_member : (tree : Tree) (members list : List Member) → tree ≡ variants.Members members → list ≡ members
    → (key : List ℕ) (one other : Json) → IsStep (view tree) key one → IsStep (view tree) key other → one ≡ other
one_member tree members list is same key one other h k =
    let v = ap view is ∙ view-Members members in
    first_same (members_view members) key one other (subst (λ w. IsStep w key one) v h) (subst (λ w. IsStep w key other) v k)

-- what an option says, by what its cases say
pub match_map : {A : Type 0} {N M : Type 0} {S T : A → Type 0} (r : Option A) → (N → M) → ((a : A) → S a → T a) → MatchOption r N S → MatchOption r M T
match_map (Some a) f g h = g a h
match_map None f g h = f h

pub no_item : (items : List Tree) (token : List ℕ) → length items < 2 ^ 64 → ((i : ℕ) → i < 2 ^ 64 → token ≡ decimal i → ⊥)
    → (i : ℕ) (part : Json) → token ≡ decimal i → element_at (elements_view items) i ≡ Some part → ⊥
no_item items token few none i part spelled there = let h = item_within items i part there in none i (omega (arith, h, few)) spelled

pub past_items : (items : List Tree) (token : List ℕ) (j : ℕ) → length items < 2 ^ 64 → j < 2 ^ 64 → token ≡ decimal j → length items ≤ j
    → (i : ℕ) (part : Json) → token ≡ decimal i → element_at (elements_view items) i ≡ Some part → ⊥
past_items items token j few fits at past i part spelled there =
    let h = item_within items i part there in
    let same : i ≡ j = decimal_injective i j (omega (arith, h, few)) fits (sym spelled ∙ at) in
    omega (arith, h, past, same)

pub no_item_step : (tree : Tree) (items trees : List Tree) (token : List ℕ) → tree ≡ variants.List items → trees ≡ items → length trees < 2 ^ 64
    → ((i : ℕ) (part : Json) → token ≡ decimal i → element_at (elements_view trees) i ≡ Some part → ⊥)
    → (key : List ℕ) (part : Json) → token ≡ token_text key → IsStep (view tree) key part → ⊥
no_item_step tree items trees token is same few none key part spelled h =
    let v : view tree ≡ array (elements_view trees) = ap view is ∙ view-List items ∙ ap (λ ts. array (elements_view ts)) (sym same) in
    let a : IsStep (array (elements_view trees)) key part = subst (λ w. IsStep w key part) v h in
    let c = item_within trees a.0 part a.2 in
    none a.0 part (spelled ∙ ap token_text a.1 ∙ decimal_token a.0 (omega (arith, c, few))) a.2

pub item_step : (tree : Tree) (items trees : List Tree) (token : List ℕ) → tree ≡ variants.List items → trees ≡ items → length trees < 2 ^ 64
    → (part : Json) → ((i : ℕ) × (token ≡ decimal i) × (element_at (elements_view trees) i ≡ Some part))
    → (key : List ℕ) × (token ≡ token_text key) × IsStep (view tree) key part
item_step tree items trees token is same few part h =
    let v : view tree ≡ array (elements_view trees) = ap view is ∙ view-List items ∙ ap (λ ts. array (elements_view ts)) (sym same) in
    let c = item_within trees h.0 part h.2 in
    let step : IsStep (array (elements_view trees)) (decimal h.0) part = (h.0, refl, h.2) in
    (decimal h.0, h.1 ∙ sym (decimal_token h.0 (omega (arith, c, few))), subst (λ w. IsStep w (decimal h.0) part) (sym v) step)

members_are : (tree : Tree) (members list : List Member) → tree ≡ variants.Members members → list ≡ members → view tree ≡ object (members_view list)
members_are tree members list is same = ap view is ∙ view-Members members ∙ ap (λ ms. object (members_view ms)) (sym same)

pub no_member_step : (tree : Tree) (members list : List Member) (token : List ℕ) → tree ≡ variants.Members members → list ≡ members
    → ((key : List ℕ) (part : Json) → token ≡ token_text key → IsFirstMember key (members_view list) part → ⊥)
    → (key : List ℕ) (part : Json) → token ≡ token_text key → IsStep (view tree) key part → ⊥
no_member_step tree members list token is same none key part spelled h =
    none key part spelled (subst (λ w. IsStep w key part) (members_are tree members list is same) h)

pub member_step : (tree : Tree) (members list : List Member) (token : List ℕ) → tree ≡ variants.Members members → list ≡ members
    → (part : Json) → ((key : List ℕ) × (token ≡ token_text key) × IsFirstMember key (members_view list) part)
    → (key : List ℕ) × (token ≡ token_text key) × IsStep (view tree) key part
member_step tree members list token is same part h =
    (h.0, h.1, subst (λ w. IsStep w h.0 part) (sym (members_are tree members list is same)) h.2)
