-- What models take: sums over sets that grow and shrink, and one sum for each set.
use Rattle.std.proofs.Common.{◌≡◌, ◌≢◌, ◌↔◌, ℕ, ◌+◌, ◌-◌, ◌^◌, ◌<◌, ◌≤◌, min, List, [], ◌∷◌, map, Bool, true, false, cond, Option, Some, None, refl, sym, ap, ◌∙◌, subst, arith, lit≤, lit<, ◌||◌}
use Rattle.std.specs.Prelude.{Contains, unwrap_or}
use Rattle.std.specs.Option.{option_map}
use Rattle.std.specs.List.{AllByRecursion, sum_by}
use Rattle.std.specs.List.Sorted.{IsStrictlySortedBy}
use Rattle.std.specs.Map.{lookup, values_of}
use Rattle.std.specs.BTreeMap.{is_at}
use Rattle.std.proofs.lemmas.List.Sums.{sum_by-cons}
use Rattle.std.proofs.lemmas.Map.Entries.{sum_by-insert_entry, sum_by-remove_entry}
use denote.Ref.{Bor}
use Rattle.dt_base.specs.names.Grammar.{Identifier, dtmi_text, id_cmp, id_eq}
use Rattle.dtdl_terms.specs.Distinct.{AreDistinct, HasDeclaration}
use Rattle.dtdl_terms.specs.Sets.{keyed, InOrder, interface_at, with_interface, without_interface}
use Rattle.dtdl_terms.specs.declared.interface.Interface.{Interface}
use Rattle.dtdl_terms.specs.declared.resolved.PartOf.{PartOf}
use Rattle.dtdl_terms.specs.declared.resolved.Resolved.{Resolved}
use Rattle.dtdl_terms.specs.declared.uploaded.Uploaded.{Uploaded}
use Rattle.dtdl_terms.proofs.Keyed.{values-keyed}
use Rattle.extend_resolve.specs.Chains.{IsAncestor}
use Rattle.extend_resolve.specs.Breaches.{BreaksNoRule}
use Rattle.model_life.specs.resolution.Resolving.{HasPart, IsWithin, LacksNone}
use Rattle.model_life.specs.resolution.Machinery.Reaching.{ancestors_in, parts_in}
use Rattle.model_life.specs.resolution.Machinery.Families.{IsThere}
use Rattle.model_life.proofs.resolution.Families.{listed, stands, ancestors_there}
use Rattle.model_life.proofs.resolution.Changes.{ids_total, keys_keyed, lacks_none, same_ancestors, same_parts}
use Rattle.model_life.proofs.resolution.OneResolved.{one_ascending, one_resolved}
use Rattle.model_life.proofs.resolution.Reaching.{ancestors_ordered, ancestors_are_in, parts_ordered, parts_are_in}
use Rattle.model_life.proofs.resolution.Existing.{part_in, resolved_in, is_resolved_in}
use Rattle.model_life.specs.sets.Changing.{with_uploads, is_one_of, without_interfaces, HaveDistinctIds}
use Rattle.model_life.proofs.sets.Apart.{contains_head, contains_tail, unlike}
use Rattle.model_life.proofs.sets.Looking.{AreAbsent, absent_more, ordered_with, at_without, ordered_without, ordered_without_one, same_set, eq_tests}
use Rattle.model_life.specs.Sums.{bytes_in, bytes_of, LineTakes, ResolvedTakes, AllTake}
use Rattle.model_life.specs.Machinery.Keeping.{record_at, bytes_at, recorded, capped, line_of, line_in, share_of, share_in, RecordOf, AreRecorded}
use Rattle.model_life.specs.declared.records.Record.{Record}
use Rattle.model_life.proofs.Recorded.{gone_interface}

-- ---- sums that agree on a list
pub sum_same : {X : Type 0} (f g : X → ℕ) (xs : List X) → ((x : X) → Contains xs x → f x ≡ g x) → sum_by f xs ≡ sum_by g xs
sum_same f g [] h = refl
sum_same f g (x ∷ xs) h =
    let rest = sum_same f g xs (λ y c. h y (contains_tail x xs y c)) in
    sum_by-cons f x xs ∙ ap (λ n. n + sum_by f xs) (h x (contains_head x xs)) ∙ ap (λ n. g x + n) rest ∙ sym (sum_by-cons g x xs)

-- ---- one interface more, one less
module _ (f : Interface → ℕ) where
  sum_with : (i : Interface) (set : List Interface) → interface_at i.id set ≡ None → InOrder set → sum_by f (with_interface i set) ≡ sum_by f set + f i
  sum_with i set absent sorted =
      let a = sum_by-insert_entry f ids_total (keyed set) i.id i (subst (IsStrictlySortedBy id_cmp) (keys_keyed set) sorted) in
      let b : unwrap_or (option_map f (lookup (is_at (id_cmp i.id)) (keyed set))) 0 ≡ 0 = ap (λ o. unwrap_or (option_map f o) 0) absent in
      let d : sum_by f (values_of (keyed set)) ≡ sum_by f set = ap (sum_by f) (values-keyed set) in
      omega (arith, a, b, d)

  pub sum_with_all : (us : List Uploaded) (set : List Interface) → InOrder set → AreAbsent set us → HaveDistinctIds (map (λ u. u.interface) us) → sum_by f (with_uploads us set) ≡ sum_by f set + sum_by (λ u. f u.interface) us
  sum_with_all [] set sorted absent apart = omega arith
  sum_with_all (u ∷ us) set sorted absent apart =
      let rest = sum_with_all us (with_interface u.interface set) (ordered_with u.interface set absent.0 sorted) (absent_more u.interface set us absent.0 absent.1 apart.0) apart.1 in
      let one = sum_with u.interface set absent.0 sorted in
      let split = sum_by-cons (λ (v : Uploaded). f v.interface) u us in
      omega (arith, rest, one, split)

  abbrev pub found : List Interface → Identifier → ℕ
  found set id = unwrap_or (option_map f (interface_at id set)) 0

  sum_without : (id : Identifier) (set : List Interface) → sum_by f (without_interface id set) + unwrap_or (option_map f (interface_at id set)) 0 ≡ sum_by f set
  sum_without id set = sum_by-remove_entry f (is_at (id_cmp id)) (keyed set) ∙ ap (sum_by f) (values-keyed set)

same_found : (f : Interface → ℕ) (id : Identifier) (set : List Interface) → InOrder set → (ids : List Identifier) → AllByRecursion (λ t. dtmi_text id ≢ t) (map (λ j. dtmi_text j) ids)
    → sum_by (λ j. unwrap_or (option_map f (interface_at j (without_interface id set))) 0) ids ≡ sum_by (λ j. unwrap_or (option_map f (interface_at j set)) 0) ids
same_found f id set sorted [] apart = refl
same_found f id set sorted (j ∷ js) apart =
    let off : id_eq j id ≡ false = sym (eq_tests j id) ∙ unlike j id (λ e. apart.0 (sym e)) in
    let here : interface_at j (without_interface id set) ≡ interface_at j set = gone_interface id j set (without_interface id set) sorted refl ∙ ap (λ b. cond b None (interface_at j set)) off in
    sum_by-cons (λ k. unwrap_or (option_map f (interface_at k (without_interface id set))) 0) j js
    ∙ ap (λ o. unwrap_or (option_map f o) 0 + sum_by (λ k. unwrap_or (option_map f (interface_at k (without_interface id set))) 0) js) here
    ∙ ap (λ n. unwrap_or (option_map f (interface_at j set)) 0 + n) (same_found f id set sorted js apart.1)
    ∙ sym (sum_by-cons (λ k. unwrap_or (option_map f (interface_at k set)) 0) j js)

filter_none : (set : List Interface) → InOrder set → without_interfaces [] set ≡ set
filter_none set sorted = same_set (without_interfaces [] set) set (ordered_without [] set sorted) sorted (λ p. at_without [] set p)

-- those of distinct identifiers that go
pub sum_without_all : (f : Interface → ℕ) (ids : List Identifier) (set : List Interface) → InOrder set → AreDistinct (map (λ id. dtmi_text id) ids)
    → sum_by f (without_interfaces ids set) + sum_by (λ id. unwrap_or (option_map f (interface_at id set)) 0) ids ≡ sum_by f set
sum_without_all f [] set sorted apart = let e : sum_by f (without_interfaces [] set) ≡ sum_by f set = ap (sum_by f) (filter_none set sorted) in omega (arith, e)
sum_without_all f (id ∷ ids) set sorted apart =
    let same : without_interfaces (id ∷ ids) set ≡ without_interfaces ids (without_interface id set) =
    same_set (without_interfaces (id ∷ ids) set) (without_interfaces ids (without_interface id set)) (ordered_without (id ∷ ids) set sorted) (ordered_without ids (without_interface id set) (ordered_without_one id set sorted))
    (λ p.
    at_without (id ∷ ids) set p
    ∙ twice (id_eq p id) (is_one_of ids p) (interface_at p set)
    ∙ ap (cond (is_one_of ids p) None) (sym (gone_interface id p set (without_interface id set) sorted refl))
    ∙ sym (at_without ids (without_interface id set) p)) in
    let a : sum_by f (without_interfaces (id ∷ ids) set) ≡ sum_by f (without_interfaces ids (without_interface id set)) = ap (sum_by f) same in
    let b = sum_without_all f ids (without_interface id set) (ordered_without_one id set sorted) apart.1 in
    let d = same_found f id set sorted ids apart.0 in
    let e = sum_without f id set in
    let g = sum_by-cons (λ k. unwrap_or (option_map f (interface_at k set)) 0) id ids in
    omega (arith, a, b, d, e, g)
  where
    twice : (b c : Bool) (o : Option Interface) → cond (b || c) None o ≡ cond c None (cond b None o)
    twice true true o = refl
    twice true false o = refl
    twice false c o = refl

-- ---- records and interfaces
bytes_same : (o : Option Interface) (e : Option Record) → RecordOf o e → bytes_at e ≡ bytes_in o
bytes_same None None h = refl
bytes_same None (Some r) h = absurd h
bytes_same (Some i) None h = absurd h
bytes_same (Some i) (Some r) h = h.bytes

pub sum_map : {X Y : Type 0} (f : Y → ℕ) (g : X → Y) (xs : List X) → sum_by f (map g xs) ≡ sum_by (λ x. f (g x)) xs
sum_map f g [] = refl
sum_map f g (x ∷ xs) = sum_by-cons f (g x) (map g xs) ∙ ap (λ n. f (g x) + n) (sum_map f g xs) ∙ sym (sum_by-cons (λ y. f (g y)) x xs)

module _ (set : List Interface) (es : List (Identifier × Record)) (records : AreRecorded set es) where
  pub recorded_is : (ids : List Identifier) → recorded es ids ≡ bytes_of set ids
  recorded_is ids = sum_same (λ id. bytes_at (record_at id es)) (λ id. bytes_in (interface_at id set)) ids (λ id c. bytes_same (interface_at id set) (record_at id es) (records id))

  -- the texts of the ancestors that were found
  pub line_recorded : (i : Interface) (xs : List (Bor Interface)) → map (λ x. x.now) xs ≡ ancestors_in set i → sum_by (λ x. bytes_at (record_at x.now.id es)) xs ≡ line_of set i
  line_recorded i xs is =
      let now : Bor Interface → Interface = λ x. x.now in
      let id : Interface → Identifier = λ a. a.id in
      sym (sum_map (λ (a : Interface). bytes_at (record_at a.id es)) now xs)
      ∙ ap (sum_by (λ (a : Interface). bytes_at (record_at a.id es))) is
      ∙ sum_same (λ (a : Interface). bytes_at (record_at a.id es)) (λ (a : Interface). bytes_in (interface_at a.id set)) (ancestors_in set i) (λ a c. bytes_same (interface_at a.id set) (record_at a.id es) (records a.id))
      ∙ sym (sum_map (λ k. bytes_in (interface_at k set)) id (ancestors_in set i))

pub lines_found : (set : List Interface) (i : Interface) (xs : List (Bor Interface)) → map (λ x. x.now) xs ≡ parts_in set i → sum_by (λ x. line_of set x.now) xs ≡ sum_by (line_of set) (parts_in set i)
lines_found set i xs is = let now : Bor Interface → Interface = λ x. x.now in sym (sum_map (line_of set) now xs) ∙ ap (sum_by (line_of set)) is

-- lists of interfaces in order that have the same
pub one_list : (xs ys : List Interface) → InOrder xs → InOrder ys → ((a : Interface) → Contains xs a → Contains ys a) → ((a : Interface) → Contains ys a → Contains xs a) → xs ≡ ys
one_list xs ys sorted also f g = one_ascending (λ (i : Interface). i.id) dtmi_text xs ys sorted also f g

module _ (set : List Interface) (rules : BreaksNoRule set) (sorted : InOrder set) (i : Interface) (there : IsThere set i) (xs items : List (Bor Interface)) (slice : xs ≡ items) where
  pub found_line : ((a : Interface) → Contains (map (λ x. x.now) items) a ↔ IsAncestor set i a) → InOrder (map (λ x. x.now) items) → map (λ x. x.now) xs ≡ ancestors_in set i
  found_line each ordered =
      let are : (a : Interface) → Contains (ancestors_in set i) a ↔ IsAncestor set i a = ancestors_are_in set rules sorted i there in
      ap (map (λ (x : Bor Interface). x.now)) slice
      ∙ one_list (map (λ x. x.now) items) (ancestors_in set i) ordered (ancestors_ordered set rules sorted i) (λ a c. (are a).1 ((each a).0 c)) (λ a c. (each a).1 ((are a).0 c))

  pub found_parts : ((q : Interface) → Contains (map (λ x. x.now) items) q ↔ HasPart set i q) → InOrder (map (λ x. x.now) items) → map (λ x. x.now) xs ≡ parts_in set i
  found_parts each ordered =
      let are : (q : Interface) → Contains (parts_in set i) q ↔ HasPart set i q = parts_are_in set rules sorted i there in
      ap (map (λ (x : Bor Interface). x.now)) slice
      ∙ one_list (map (λ x. x.now) items) (parts_in set i) ordered (parts_ordered set rules sorted i) (λ q c. (are q).1 ((each q).0 c)) (λ q c. (each q).1 ((are q).0 c))

-- ---- what interfaces take in a set and in a larger one
module _ (small large : List Interface) (within : IsWithin small large) (rules : BreaksNoRule small) (sorted : InOrder small) (more : BreaksNoRule large) (wider : InOrder large) where
  whole : LacksNone small
  whole = lacks_none small rules

  same_up : (i : Interface) → IsThere small i → ancestors_in small i ≡ ancestors_in large i
  same_up i there =
      let low : (a : Interface) → Contains (ancestors_in small i) a ↔ IsAncestor small i a = ancestors_are_in small rules sorted i there in
      let high : (a : Interface) → Contains (ancestors_in large i) a ↔ IsAncestor large i a = ancestors_are_in large more wider i (within i.id i there) in
      one_list (ancestors_in small i) (ancestors_in large i) (ancestors_ordered small rules sorted i) (ancestors_ordered large more wider i)
      (λ a c. (high a).1 ((same_ancestors small large within whole i a there).0 ((low a).0 c)))
      (λ a c. (low a).1 ((same_ancestors small large within whole i a there).1 ((high a).0 c)))

  same_part : (i : Interface) → IsThere small i → parts_in small i ≡ parts_in large i
  same_part i there =
      let low : (q : Interface) → Contains (parts_in small i) q ↔ HasPart small i q = parts_are_in small rules sorted i there in
      let high : (q : Interface) → Contains (parts_in large i) q ↔ HasPart large i q = parts_are_in large more wider i (within i.id i there) in
      one_list (parts_in small i) (parts_in large i) (parts_ordered small rules sorted i) (parts_ordered large more wider i)
      (λ q c. (high q).1 ((same_parts small large within whole i q there).0 ((low q).0 c)))
      (λ q c. (low q).1 ((same_parts small large within whole i q there).1 ((high q).0 c)))

  line_same : (i : Interface) → IsThere small i → line_of small i ≡ line_of large i
  line_same i there =
      let id : Interface → Identifier = λ a. a.id in
      sum_map (λ k. bytes_in (interface_at k small)) id (ancestors_in small i)
      ∙ sum_same (λ (a : Interface). bytes_in (interface_at a.id small)) (λ (a : Interface). bytes_in (interface_at a.id large)) (ancestors_in small i)
      (λ a c.
      let here : IsThere small a = ancestors_there small i a there ((ancestors_are_in small rules sorted i there a).0 c) in
      ap bytes_in here ∙ sym (ap bytes_in (within a.id a here)))
      ∙ sym (sum_map (λ k. bytes_in (interface_at k large)) id (ancestors_in small i))
      ∙ ap (λ (is : List Interface). bytes_of large (map id is)) (same_up i there)

  pub share_same : (i : Interface) → IsThere small i → share_of small i ≡ share_of large i
  share_same i there =
      ap (λ n. n + sum_by (line_of small) (parts_in small i)) (line_same i there)
      ∙ ap (λ n. line_of large i + n)
      (sum_same (line_of small) (line_of large) (parts_in small i) (λ q c. let part = (parts_are_in small rules sorted i there q).0 c in line_same q (stands small part.1 q part.4))
      ∙ ap (sum_by (line_of large)) (same_part i there))

-- ---- one number for each set
pub one_line : (set : List Interface) (i : Interface) (m n : ℕ) → LineTakes set i m → LineTakes set i n → m ≡ n
one_line set i m n (r, is, sum) (s, also, total) = sym sum ∙ ap (λ (x : Resolved). bytes_of set x.ancestors) (one_resolved set i r s is also) ∙ total

one_resolved_sum : (set : List Interface) (i : Interface) (m n : ℕ) → ResolvedTakes set i m → ResolvedTakes set i n → m ≡ n
one_resolved_sum set i m n h g =
    let same : h.resolved ≡ g.resolved = one_resolved set i h.resolved g.resolved h.is g.is in
    let parts : sum_by (λ (part : PartOf). h.line_of part.of) h.resolved.parts ≡ sum_by (λ (part : PartOf). g.line_of part.of) h.resolved.parts =
    sum_same (λ (part : PartOf). h.line_of part.of) (λ (part : PartOf). g.line_of part.of) h.resolved.parts
    (λ part c.
    let q = h.is.parts.each part c in
    ap h.line_of q.2 ∙ one_line set q.0 (h.line_of q.0.id) (g.line_of q.0.id) (h.lines q.0 q.1) (g.lines q.0 q.1) ∙ sym (ap g.line_of q.2)) in
    sym h.sum
    ∙ ap (λ k. bytes_of set h.resolved.ancestors + k) parts
    ∙ ap (λ (r : Resolved). bytes_of set r.ancestors + sum_by (λ (part : PartOf). g.line_of part.of) r.parts) same
    ∙ g.sum

pub one_sum : (set : List Interface) (m n : ℕ) → AllTake set m → AllTake set n → m ≡ n
one_sum set m n h g =
    sym h.sum ∙ sum_same h.bytes_for g.bytes_for set (λ i c. one_resolved_sum set i (h.bytes_for i) (g.bytes_for i) (h.each i c) (g.each i c)) ∙ g.sum

-- these are the numbers of the definitions
module _ (set : List Interface) (rules : BreaksNoRule set) (declared : AllByRecursion HasDeclaration set) (sorted : InOrder set) where
  line_takes : (i : Interface) → IsThere set i → LineTakes set i (line_of set i)
  line_takes i there = (resolved_in set i, is_resolved_in set rules declared sorted i there, refl)

  takes : (i : Interface) → IsThere set i → ResolvedTakes set i (share_of set i)
  takes i there = record {
    resolved = resolved_in set i;
    is = is_resolved_in set rules declared sorted i there;
    line_of = λ id. line_in set (interface_at id set);
    lines = λ q part. let own : IsThere set q = stands set part.1 q part.4 in subst (LineTakes set q) (sym (ap (line_in set) own)) (line_takes q own);
    sum = ap (λ n. line_of set i + n)
        (sum_map (λ (part : PartOf). line_in set (interface_at part.of set)) (part_in set) (parts_in set i)
        ∙ sum_same (λ (q : Interface). line_in set (interface_at q.id set)) (line_of set) (parts_in set i)
        (λ q c. let part = (parts_are_in set rules sorted i there q).0 c in ap (line_in set) (stands set part.1 q part.4)));
  }

  pub all_take : AllTake set (sum_by (share_of set) set)
  all_take = record { bytes_for = share_of set; each = λ i c. takes i ((listed set sorted i).0 c); sum = refl }

pub found_share : (set : List Interface) (o : Option Interface) → unwrap_or (option_map (share_of set) o) 0 ≡ share_in set o
found_share set None = refl
found_share set (Some i) = refl

-- ---- sums that fit
small_cap : (s m : ℕ) → s ≤ m → min s m ≡ s
small_cap s m low = omega arith

pub exact : (s most n : ℕ) → n ≡ capped s → s ≤ most → most ≤ 268435456 → n ≡ s
exact s most n is low bound = let fits : 268435456 ≤ 2 ^ 64 - 1 = lit≤ tt in is ∙ small_cap s (2 ^ 64 - 1) (omega (arith, low, bound, fits))

-- a sum that is not past a limit is exact, and one that is past it is past it
pub exact_sum : (a s x sum : ℕ) → x ≡ capped s → sum ≡ min (a + x) (2 ^ 64 - 1) → sum ≤ 268435456 → sum ≡ a + s
exact_sum a s x sum f is low =
    let fits : 268435456 < 2 ^ 64 - 1 = lit< tt in
    unsaturated a s x sum (2 ^ 64 - 1) f is (omega (arith, low, fits))
  where
    unsaturated : (a s x sum m : ℕ) → x ≡ min s m → sum ≡ min (a + x) m → sum < m → sum ≡ a + s
    unsaturated a s x sum m f is low = omega arith

pub past_sum : (a s x sum limit : ℕ) → x ≡ capped s → sum ≡ min (a + x) (2 ^ 64 - 1) → limit < sum → limit < a + s
past_sum a s x sum limit f is high = past a s x sum limit (2 ^ 64 - 1) f is high
  where
    past : (a s x sum limit m : ℕ) → x ≡ min s m → sum ≡ min (a + x) m → limit < sum → limit < a + s
    past a s x sum limit m f is high = omega arith
