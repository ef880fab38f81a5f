-- What an interface of a set that breaks no rule has under a name: one content.
use Rattle.std.proofs.Common.{◌≡◌, ◌≢◌, ◌↔◌, ℕ, zero, suc, ◌<◌, ◌≤◌, ◌+◌, ◌⊎◌, inl, inr, List, [], ◌∷◌, map, true, false, cond, length, slice_index_or, Some, refl, sym, ap, ◌∙◌, subst, true≢false, is_eq, arith}
use Rattle.std.specs.Prelude.{slice_get, Contains, bytes_eq}
use Rattle.std.specs.Ordering.{nat_cmp}
use Rattle.std.specs.Cmp.Lexicographic.{slice_cmp}
use Rattle.std.specs.List.{AllByRecursion}
use Rattle.std.specs.List.Sorted.{IsStrictlySortedBy}
use Rattle.std.specs.Map.{keys_of, values_of}
use Rattle.std.specs.BTreeMap.{insert_entry}
use Rattle.std.proofs.lemmas.Option.{same_Some, none-some}
use denote.Ref.{Bor}
use Rattle.std.proofs.lemmas.Slice.Eq.{bytes_eq-Decides}
use Rattle.dt_base.specs.names.Grammar.{Identifier, dtmi_text}
use Rattle.dtdl_terms.specs.Distinct.{AreDistinct, HasDeclaration}
use Rattle.dtdl_terms.specs.Sets.{interface_at}
use Rattle.dtdl_terms.specs.declared.content.Content.{Content}
use Rattle.dtdl_terms.specs.declared.interface.Interface.{Interface}
use Rattle.dtdl_terms.specs.declared.resolved.ResolvedContent.{ResolvedContent}
use Rattle.dtdl_terms.specs.declared.spot.Spot.TheVariants as spots
use Rattle.extend_resolve.specs.declared.rule.SetRule.TheVariants as rules
use Rattle.extend_resolve.specs.Chains.{HaveOneId, IsChain, chain_end, Declares, Reaches}
use Rattle.extend_resolve.specs.SetRules.{HasParent, HasNameClash}
use Rattle.extend_resolve.specs.Breaches.{BreaksNoRule}
use Rattle.model_life.specs.resolution.Resolving.{Has}
use Rattle.model_life.specs.resolution.Machinery.Families.{IsThere, contents_of_entries, AreUnderTheirNames, content_at, declared_by, HasContent, IsDeclared, IsDeclaredIn, IsDeclaredFirst, IsDeclaredByFirst, AreOne}
use Rattle.extend_resolve.proofs.Within.{found_placed}
use Rattle.model_life.proofs.resolution.ByKey.{same_spelling, alike, all_of_contained, contains_map, from_contains, contained, in_contained, keyed-insert, at-insert, sorted-seen}
use Rattle.model_life.proofs.resolution.Families.{stands, one_there, ancestors_there, first_more, first_still, first_next, first_all, all_first}

-- ---- positions
pub get_placed : {X : Type 0} (xs : List X) (x : X) (k : ℕ) → k < length xs → slice_index_or xs k x ≡ x → slice_get xs k ≡ Some x
get_placed [] x k low is = absurd (omega (arith, low))
get_placed (y ∷ ys) x zero low is = ap Some is
get_placed (y ∷ ys) x (suc k) low is = get_placed ys x k (omega (arith, low)) is

data Order (k l : ℕ) : Type 0 where
  before : k < l → Order k l
  same : k ≡ l → Order k l
  behind : l < k → Order k l

compare : (k l : ℕ) → Order k l
compare zero zero = same refl
compare zero (suc l) = before (omega arith)
compare (suc k) zero = behind (omega arith)
compare (suc k) (suc l) =
    elim (compare k l) [
      | before h ↦ before (omega (arith, h))
      | same h ↦ same (ap suc h)
      | behind h ↦ behind (omega (arith, h))
    ]

-- ---- one owner of a name
module _ (set : List Interface) (sound : BreaksNoRule set) where
  decide : (i j : Interface) → ((HaveOneId i j → ⊥) → ⊥) → HaveOneId i j
  decide i j never =
      elim (bytes_eq (dtmi_text i.id) (dtmi_text j.id)) as (λ b. bytes_eq (dtmi_text i.id) (dtmi_text j.id) ≡ b → HaveOneId i j) [
        | true ↦ λ e. (bytes_eq-Decides (dtmi_text i.id) (dtmi_text j.id)).0 e
        | false ↦ λ e. absurd (never (λ h. true≢false (sym ((bytes_eq-Decides (dtmi_text i.id) (dtmi_text j.id)).1 h) ∙ e)))
      ] refl

  no_clash : (i : Interface) → IsThere set i → (k : ℕ) → HasNameClash set i k → ⊥
  no_clash i there k clash = let at = found_placed set i.id i there in sound at.0 i rules.NameClash (spots.Parent k) at.1 clash

  with_own : (i q b : Interface) (k : ℕ) (name : List ℕ) → IsThere set i → HasParent set i k q → Reaches set q b name → Declares i name → HaveOneId b i
  with_own i q b k name there parent reach own = decide b i (λ never. no_clash i there k (q, b, name, parent, reach, inl (own, never)))

  with_earlier : (i q r a b : Interface) (l k : ℕ) (name : List ℕ) → IsThere set i → l < k → HasParent set i l q → Reaches set q a name → HasParent set i k r → Reaches set r b name → HaveOneId a b
  with_earlier i q r a b l k name there low first reach second other =
      decide a b (λ never. no_clash i there k (r, b, name, second, other, inr (l, q, a, low, first, reach, never)))

  one_parent : (i q r : Interface) (k l : ℕ) → k ≡ l → HasParent set i k q → HasParent set i l r → q ≡ r
  one_parent i q r k l e (p, named, found) (o, also, there) =
      let one : p ≡ o = same_Some p o (sym named ∙ ap (slice_get i.parents) e ∙ also) in
      same_Some q r (sym found ∙ ap (λ x. interface_at x set) one ∙ there)

  one_owner : (name : List ℕ) (i : Interface) → IsThere set i → (a : Interface) (js : List Interface) → IsChain set i js → chain_end i js ≡ a → Declares a name
      → (b : Interface) (ks : List Interface) → IsChain set i ks → chain_end i ks ≡ b → Declares b name → HaveOneId a b
  one_owner name i there a [] c ea da b [] d eb db = ap (λ (x : Interface). dtmi_text x.id) (sym ea ∙ eb)
  one_owner name i there a [] c ea da b (r ∷ ks) ((p, (k, low, is), found), d) eb db =
      let parent : HasParent set i k r = (p, get_placed i.parents p k low is, found) in
      ap (λ (x : Interface). dtmi_text x.id) (sym ea) ∙ sym (with_own i r b k name there parent ((ks, d, eb), db) (subst (λ x. Declares x name) (sym ea) da))
  one_owner name i there a (q ∷ js) ((p, (k, low, is), found), c) ea da b [] d eb db =
      let parent : HasParent set i k q = (p, get_placed i.parents p k low is, found) in
      with_own i q a k name there parent ((js, c, ea), da) (subst (λ x. Declares x name) (sym eb) db) ∙ ap (λ (x : Interface). dtmi_text x.id) eb
  one_owner name i there a (q ∷ js) ((p, (k, low, is), found), c) ea da b (r ∷ ks) ((o, (l, high, at), got), d) eb db =
      let first : HasParent set i k q = (p, get_placed i.parents p k low is, found) in
      let second : HasParent set i l r = (o, get_placed i.parents o l high at, got) in
      elim (compare k l) [
        | before h ↦ with_earlier i q r a b k l name there h first ((js, c, ea), da) second ((ks, d, eb), db)
        | same h ↦
            let one : r ≡ q = sym (one_parent i q r k l h first second) in
            one_owner name q (stands set p q found) a js c ea da b ks (subst (λ x. IsChain set x ks) one d) (subst (λ x. chain_end x ks ≡ b) one eb) db
        | behind h ↦ sym (with_earlier i r q b a l k name there h second ((ks, d, eb), db) first ((js, c, ea), da))
      ]

-- ---- one content of a name
distinct_at : {X Y : Type 0} (f : X → Y) (xs : List X) → AreDistinct (map f xs) → (x y : X) → f x ≡ f y → (k l : ℕ) → k < length xs → slice_index_or xs k x ≡ x → l < length xs → slice_index_or xs l y ≡ y → x ≡ y
distinct_at f [] d x y e k l low is high at = absurd (omega (arith, low))
distinct_at f (z ∷ zs) d x y e zero zero low is high at = sym is ∙ at
distinct_at f (z ∷ zs) d x y e zero (suc l) low is high at =
    absurd (all_of_contained (λ n. f z ≢ n) f zs y d.0 (l, omega (arith, high), at) (ap f is ∙ e))
distinct_at f (z ∷ zs) d x y e (suc k) zero low is high at =
    absurd (all_of_contained (λ n. f z ≢ n) f zs x d.0 (k, omega (arith, low), is) (ap f at ∙ sym e))
distinct_at f (z ∷ zs) d x y e (suc k) (suc l) low is high at = distinct_at f zs d.1 x y e k l (omega (arith, low)) is (omega (arith, high)) at

all_itself : {X : Type 0} (P : X → Type 0) (xs : List X) (k : ℕ) (x : X) → AllByRecursion P xs → slice_get xs k ≡ Some x → P x
all_itself P [] k x all h = absurd (none-some x h)
all_itself P (y ∷ ys) zero x all h = subst P (same_Some y x h) all.0
all_itself P (y ∷ ys) (suc k) x all h = all_itself P ys k x all.1 h

pub one_content : (set : List Interface) → BreaksNoRule set → AllByRecursion HasDeclaration set → (i : Interface) → IsThere set i → AreOne (Has set i)
one_content set sound declared i there r s (a, (js, c, ea), fr, cr) (b, (ks, d, eb), fs, cs) e =
    let name : Content → List ℕ = λ x. x.name in
    let up : IsThere set a = ancestors_there set i a there (js, c, ea) in
    let over : IsThere set b = ancestors_there set i b there (ks, d, eb) in
    let owner : HaveOneId a b =
    one_owner set sound r.content.name i there a js c ea (contains_map name a.contents r.content cr)
    b ks d eb (subst (λ n. Declares b n) (sym e) (contains_map name b.contents s.content cs)) in
    let one : b ≡ a = one_there set b a over up (sym owner) in
    let at = found_placed set a.id a up in
    let names : AreDistinct (map name a.contents) = (all_itself HasDeclaration set at.0 a declared at.1).names in
    let other : Contains a.contents s.content = subst (λ (x : Interface). Contains x.contents s.content) one cs in
    let content : r.content ≡ s.content = distinct_at name a.contents names r.content s.content e cr.0 other.0 cr.1 cr.2 other.1 other.2 in
    let from : r.from ≡ s.from = fr ∙ ap (λ (x : Interface). x.id) (sym one) ∙ sym fs in
    ap (λ id. declared_by id r.content) from ∙ ap (declared_by s.from) content

-- ---- contents that are found
name_of : ResolvedContent → List ℕ
name_of r = r.content.name

pub names_listed : (rs : List ResolvedContent) → IsStrictlySortedBy (slice_cmp nat_cmp) (map (λ r. r.content.name) rs) → (r : ResolvedContent) → Contains rs r ↔ HasContent rs r
names_listed rs sorted r = (
  in_contained (λ (x : ResolvedContent). x.content.name) (λ n. n) rs r sorted,
  λ h. contained (λ (x : ResolvedContent). x.content.name) (λ n. n) r.content.name rs r h,
)

module _ (old new : List ResolvedContent) (one : ResolvedContent) (put : (name : List ℕ) → content_at name new ≡ cond (is_eq (slice_cmp nat_cmp name one.content.name)) (Some one) (content_at name old)) (alone : (r : ResolvedContent) → HasContent old r → r.content.name ≡ one.content.name → r ≡ one) where
  pub added_only : (r : ResolvedContent) → HasContent new r → HasContent old r ⊎ (r ≡ one)
  added_only r h =
      elim (is_eq (slice_cmp nat_cmp r.content.name one.content.name)) as (λ b. cond b (Some one) (content_at r.content.name old) ≡ Some r → HasContent old r ⊎ (r ≡ one)) [
        | true ↦ λ e. inr (sym (same_Some one r e))
        | false ↦ λ e. inl e
      ] (sym (put r.content.name) ∙ h)

  pub added_kept : (r : ResolvedContent) → HasContent old r → HasContent new r
  added_kept r h =
      put r.content.name
      ∙ elim (is_eq (slice_cmp nat_cmp r.content.name one.content.name)) as (λ b. is_eq (slice_cmp nat_cmp r.content.name one.content.name) ≡ b → cond b (Some one) (content_at r.content.name old) ≡ Some r) [
        | true ↦ λ e. ap Some (sym (alone r h (same_spelling r.content.name one.content.name e)))
        | false ↦ λ _. h
      ] refl

  pub added_here : HasContent new one
  added_here = put one.content.name ∙ ap (λ b. cond b (Some one) (content_at one.content.name old)) (ap is_eq (alike one.content.name))

-- one more content of an interface
pub declared_more : (i : Interface) (n : ℕ) (next : Content) (first old new : List ResolvedContent) → n < length i.contents → next ≡ slice_index_or i.contents n next
    → AreOne (λ r. HasContent first r ⊎ IsDeclared i r)
    → ((r : ResolvedContent) → HasContent old r ↔ (HasContent first r ⊎ IsDeclaredFirst i n r))
    → ((name : List ℕ) → content_at name new ≡ cond (is_eq (slice_cmp nat_cmp name next.name)) (Some (declared_by i.id next)) (content_at name old))
    → (r : ResolvedContent) → HasContent new r ↔ (HasContent first r ⊎ IsDeclaredFirst i (n + 1) r)
declared_more i n next first old new low is one so_far put r =
    let item : ResolvedContent = declared_by i.id next in
    let mine : IsDeclared i item = (refl, (n, low, sym is)) in
    let of_one : (s : ResolvedContent) → (HasContent first s ⊎ IsDeclaredFirst i n s) → HasContent first s ⊎ IsDeclared i s =
    λ s h. elim h [ inl x ↦ inl x | inr x ↦ inr (x.0, all_first i.contents n s.content (omega (arith, low)) x.1) ] in
    let alone : (s : ResolvedContent) → HasContent old s → s.content.name ≡ item.content.name → s ≡ item =
    λ s h e. one s item (of_one s ((so_far s).0 h)) (inr mine) e in (
      λ h.
          elim (added_only old new item put alone r h) [
            | inl x ↦ elim ((so_far r).0 x) [ inl y ↦ inl y | inr y ↦ inr (y.0, first_still i.contents n r.content y.1) ]
            | inr e ↦ inr (subst (IsDeclaredFirst i (n + 1)) (sym e) (refl, first_next i.contents n next is))
          ],
      λ h.
          elim h [
            | inl x ↦ added_kept old new item put alone r ((so_far r).1 (inl x))
            | inr x ↦
                elim (first_more i.contents n next r.content low is x.1) [
                  | inl y ↦ added_kept old new item put alone r ((so_far r).1 (inr (x.0, y)))
                  | inr e ↦
                      let whole : item ≡ r = ap (λ id. declared_by id next) (sym x.0) ∙ ap (declared_by r.from) (sym e) in
                      subst (HasContent new) whole (added_here old new item put alone)
                ]
          ],
    )

-- ---- what a map of contents keeps
abbrev Kept : Type 0
Kept = List (Bor (List ℕ) × (Bor Identifier × Bor Content))

abbrev item : Bor Identifier × Bor Content → ResolvedContent
item v = declared_by v.0.now v.1.now

pub contents_keyed : (es new : Kept) (k : Bor (List ℕ)) (v : Bor Identifier × Bor Content) → new ≡ insert_entry (λ x y. slice_cmp nat_cmp x.now y.now) es k v → k.now ≡ v.1.now.name → AreUnderTheirNames es → AreUnderTheirNames new
contents_keyed es new k v is one all =
    subst AreUnderTheirNames (sym is) (keyed-insert (λ (x : Bor (List ℕ)). x.now) (λ (x : Bor Identifier × Bor Content). declared_by x.0.now x.1.now) (λ (r : ResolvedContent). r.content.name) (λ n. n) k v es one all)

pub contents_put : (es new : Kept) (k : Bor (List ℕ)) (v : Bor Identifier × Bor Content) → new ≡ insert_entry (λ x y. slice_cmp nat_cmp x.now y.now) es k v → k.now ≡ v.1.now.name → AreUnderTheirNames es → (name : List ℕ)
    → content_at name (contents_of_entries new) ≡ cond (is_eq (slice_cmp nat_cmp name v.1.now.name)) (Some (declared_by v.0.now v.1.now)) (content_at name (contents_of_entries es))
contents_put es new k v is one all name =
    ap (λ xs. content_at name (contents_of_entries xs)) is
    ∙ at-insert (λ (x : Bor (List ℕ)). x.now) (λ (x : Bor Identifier × Bor Content). declared_by x.0.now x.1.now) (λ (r : ResolvedContent). r.content.name) (λ n. n) name k v es one all

pub contents_sorted : (es : Kept) → IsStrictlySortedBy (λ x y. slice_cmp nat_cmp x.now y.now) (keys_of es) → AreUnderTheirNames es → IsStrictlySortedBy (slice_cmp nat_cmp) (map (λ r. r.content.name) (contents_of_entries es))
contents_sorted es sorted all = sorted-seen (λ (x : Bor (List ℕ)). x.now) (λ (x : Bor Identifier × Bor Content). declared_by x.0.now x.1.now) (λ (r : ResolvedContent). r.content.name) (λ n. n) es sorted all

map_map : {X Y Z : Type 0} (f : X → Y) (g : Y → Z) (xs : List X) → map (λ x. g (f x)) xs ≡ map g (map f xs)
map_map f g [] = refl
map_map f g (x ∷ xs) = ap (λ ys. g (f x) ∷ ys) (map_map f g xs)

pub contents_values : (es : Kept) → map (λ d. declared_by d.0.now d.1.now) (values_of es) ≡ contents_of_entries es
contents_values es = sym (map_map (λ (e : Bor (List ℕ) × (Bor Identifier × Bor Content)). e.1) item es)

-- ---- contents of several interfaces
abbrev now : Bor Interface → Interface
now x = x.now

pub first_declared : (xs : List (Bor Interface)) (n : ℕ) (r : ResolvedContent) → n ≤ length xs → IsDeclaredByFirst xs n r → IsDeclaredIn (map (λ x. x.now) xs) r
first_declared xs n r short (x, at, own) = (x.now, contains_map now xs x (all_first xs n x short at), own)

pub next_declared : (xs : List (Bor Interface)) (n : ℕ) (x : Bor Interface) (r : ResolvedContent) → n < length xs → x ≡ slice_index_or xs n x → IsDeclared x.now r → IsDeclaredIn (map (λ x. x.now) xs) r
next_declared xs n x r low is own = (x.now, contains_map now xs x (n, low, sym is), own)

pub all_declared : (xs : List (Bor Interface)) (n : ℕ) (r : ResolvedContent) → length xs ≤ n → IsDeclaredIn (map (λ x. x.now) xs) r → IsDeclaredByFirst xs n r
all_declared xs n r long (a, here, own) =
    let one = from_contains now xs a here in
    (one.0, first_all xs n one.0 long one.1, subst (λ (b : Interface). IsDeclared b r) (sym one.2) own)

pub one_of_first : (xs : List (Bor Interface)) (n : ℕ) (x : Bor Interface) (found : List ResolvedContent) → n < length xs → x ≡ slice_index_or xs n x → AreOne (IsDeclaredIn (map (λ x. x.now) xs))
    → ((r : ResolvedContent) → HasContent found r ↔ IsDeclaredByFirst xs n r) → AreOne (λ r. HasContent found r ⊎ IsDeclared x.now r)
one_of_first xs n x found low is one so_far r s h g e = one r s (of r h) (of s g) e
  where
    of : (t : ResolvedContent) → HasContent found t ⊎ IsDeclared x.now t → IsDeclaredIn (map (λ x. x.now) xs) t
    of t (inl y) = first_declared xs n t (omega (arith, low)) ((so_far t).0 y)
    of t (inr y) = next_declared xs n x t low is y

pub declared_by_more : (xs : List (Bor Interface)) (n : ℕ) (x : Bor Interface) (old new : List ResolvedContent) → n < length xs → x ≡ slice_index_or xs n x → ((r : ResolvedContent) → HasContent old r ↔ IsDeclaredByFirst xs n r)
    → ((r : ResolvedContent) → HasContent new r ↔ (HasContent old r ⊎ IsDeclared x.now r)) → (r : ResolvedContent) → HasContent new r ↔ IsDeclaredByFirst xs (n + 1) r
declared_by_more xs n x old new low is so_far put r = (
  λ h.
      elim ((put r).0 h) [
        | inl y ↦ let was = (so_far r).0 y in (was.0, first_still xs n was.0 was.1, was.2)
        | inr y ↦ (x, first_next xs n x is, y)
      ],
  λ h.
      elim (first_more xs n x h.0 low is h.1) [
        | inl y ↦ (put r).1 (inl ((so_far r).1 (h.0, y, h.2)))
        | inr e ↦ (put r).1 (inr (subst (λ (z : Bor Interface). IsDeclared z.now r) e h.2))
      ],
)

pub all_found : (xs : List (Bor Interface)) (n : ℕ) (found : List ResolvedContent) → length xs ≤ n → n ≤ length xs → IsStrictlySortedBy (slice_cmp nat_cmp) (map (λ r. r.content.name) found)
    → ((r : ResolvedContent) → HasContent found r ↔ IsDeclaredByFirst xs n r) → (r : ResolvedContent) → Contains found r ↔ IsDeclaredIn (map (λ x. x.now) xs) r
all_found xs n found long short sorted so_far r = (
  λ h. first_declared xs n r short ((so_far r).0 ((names_listed found sorted r).0 h)),
  λ h. (names_listed found sorted r).1 ((so_far r).1 (all_declared xs n r long h)),
)
