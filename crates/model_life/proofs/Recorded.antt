-- Interfaces and records that come and go.
use Rattle.std.proofs.Common.{◌≡◌, ◌≢◌, ℕ, ◌++◌, List, [], ◌∷◌, map, Bool, true, false, cond, ◌||◌, length, Option, Some, None, refl, sym, ap, ◌∙◌, true≢false, is_eq}
use Rattle.std.specs.List.{AllByRecursion}
use Rattle.std.specs.List.Sorted.{IsStrictlySortedBy}
use Rattle.std.specs.Map.{lookup, remove_entry, keys_of}
use Rattle.std.specs.BTreeMap.{is_at, insert_entry}
use Rattle.dt_base.specs.names.Grammar.{Identifier, dtmi_text, id_cmp, id_eq}
use Rattle.dtdl_terms.specs.Sets.{InOrder, interface_at, with_interface, without_interface}
use Rattle.dtdl_terms.specs.declared.interface.Interface.{Interface}
use Rattle.dtdl_terms.specs.declared.uploaded.Uploaded.{Uploaded}
use Rattle.model_life.proofs.resolution.ByKey.{same_spelling, alike, lookup-insert}
use Rattle.model_life.proofs.resolution.Changes.{left, taken_out}
use Rattle.canon_text.specs.Canonical.{interface_text}
use Rattle.model_life.specs.sets.Changing.{with_uploads, is_one_of, HaveDistinctIds}
use Rattle.model_life.proofs.sets.Apart.{unlike, text}
use Rattle.model_life.proofs.sets.Looking.{AreAbsent, absent_more, at_with, ordered_with, eq_tests, turned}
use Rattle.model_life.specs.Sums.{text_bytes}
use Rattle.model_life.specs.Machinery.Keeping.{record_at, fresh_record, Written, record_number, written_at}
use Rattle.model_life.specs.declared.records.Record.{Record}

-- ---- one that goes
gone_twice : {A : Type 0} (z : A) (a b : Bool) (o m n : A) → m ≡ cond a z o → n ≡ cond b z m → n ≡ cond (a || b) z o
gone_twice z true true o m n f g = g
gone_twice z true false o m n f g = g ∙ f
gone_twice z false true o m n f g = g
gone_twice z false false o m n f g = g ∙ f

pub gone_next : {A : Type 0} (a b : Bool) (o m n : Option A) → m ≡ cond a None o → n ≡ cond b None m → n ≡ cond (a || b) None o
gone_next a b o m n f g = gone_twice None a b o m n f g

pub gone_next_number : (a b : Bool) (o m n : ℕ) → m ≡ cond a 0 o → n ≡ cond b 0 m → n ≡ cond (a || b) 0 o
gone_next_number a b o m n f g = gone_twice 0 a b o m n f g

tests : (id q : Identifier) → is_eq (id_cmp id q) ≡ id_eq q id
tests id q = eq_tests id q ∙ turned id q

pub gone_interface : (id q : Identifier) (set new : List Interface) → InOrder set → new ≡ without_interface id set → interface_at q new ≡ cond (id_eq q id) None (interface_at q set)
gone_interface id q set new sorted is = ap (interface_at q) is ∙ left id q set sorted ∙ ap (λ b. cond b None (interface_at q set)) (tests id q)

pub gone_entry : {V : Type 0} (id q : Identifier) (es new : List (Identifier × V)) → IsStrictlySortedBy id_cmp (keys_of es) → new ≡ remove_entry (is_at (id_cmp id)) es
    → lookup (is_at (id_cmp q)) new ≡ cond (id_eq q id) None (lookup (is_at (id_cmp q)) es)
gone_entry id q es new sorted is = ap (lookup (is_at (id_cmp q))) is ∙ taken_out id q es sorted ∙ ap (λ b. cond b None (lookup (is_at (id_cmp q)) es)) (tests id q)

pub gone_number : (id q : Identifier) (ws new : Written) → IsStrictlySortedBy id_cmp (keys_of ws) → new ≡ remove_entry (is_at (id_cmp id)) ws → written_at q new ≡ cond (id_eq q id) 0 (written_at q ws)
gone_number id q ws new sorted is = ap record_number (gone_entry id q ws new sorted is) ∙ turned_in (id_eq q id) (lookup (is_at (id_cmp q)) ws)
  where
    turned_in : (b : Bool) (o : Option ℕ) → record_number (cond b None o) ≡ cond b 0 (record_number o)
    turned_in true o = refl
    turned_in false o = refl

-- ---- a number that is written
pub put_number : (id k q : Identifier) (m n : ℕ) (ws new : Written) → new ≡ insert_entry id_cmp ws k n → k ≡ id → n ≡ m → written_at q new ≡ cond (is_eq (id_cmp q id)) m (written_at q ws)
put_number id k q m n ws new is same number =
    ap (written_at q) (is ∙ ap (λ x. insert_entry id_cmp ws x n) same ∙ ap (insert_entry id_cmp ws id) number)
    ∙ ap record_number (lookup-insert dtmi_text (dtmi_text q) id m ws)
    ∙ put_in (is_eq (id_cmp q id)) (lookup (is_at (id_cmp q)) ws)
  where
    put_in : (b : Bool) (o : Option ℕ) → record_number (cond b (Some m) o) ≡ cond b m (record_number o)
    put_in true o = refl
    put_in false o = refl

-- with it all but the rest of the identifiers are written
pub written_next : (f : Identifier → ℕ) (id q : Identifier) (rest : List Identifier) (m : ℕ) (ws new : Written) → ((p : Identifier) → dtmi_text p ≡ dtmi_text id → f p ≡ f id) → m ≡ f id → written_at q new ≡ cond (is_eq (id_cmp q id)) m (written_at q ws)
    → (is_one_of (id ∷ rest) q ≡ false → written_at q ws ≡ f q) → is_one_of rest q ≡ false → written_at q new ≡ f q
written_next f id q rest m ws new same number put before off =
    elim (is_eq (id_cmp q id)) as (λ b. is_eq (id_cmp q id) ≡ b → written_at q new ≡ cond b m (written_at q ws) → written_at q new ≡ f q) [
      | true ↦ λ e p. p ∙ number ∙ sym (same q (same_spelling (dtmi_text q) (dtmi_text id) e))
      | false ↦ λ e p. p ∙ before (ap (λ b. b || is_one_of rest q) (sym (eq_tests q id) ∙ e) ∙ off)
    ] refl put

-- ---- one that comes
pub fresh_is : (i : Interface) (t bytes : List ℕ) (n : ℕ) (r : Record) → r ≡ record { text = t; decommissioned = false; bytes = n } → t ≡ dtmi_text i.id → bytes ≡ interface_text i → n ≡ length bytes → r ≡ fresh_record i
unfolding text_bytes
fresh_is i t bytes n r is same printed len =
    is
    ∙ ap (λ (x : List ℕ). let s : Record = record { text = x; decommissioned = false; bytes = n } in s) same
    ∙ ap (λ (m : ℕ). let s : Record = record { text = dtmi_text i.id; decommissioned = false; bytes = m } in s) (len ∙ ap length printed)

pub put_record : (i : Interface) (id : Identifier) (r : Record) (es new : List (Identifier × Record)) → new ≡ insert_entry id_cmp es id r → id ≡ i.id → r ≡ fresh_record i → (q : Identifier) → record_at q new ≡ cond (is_eq (id_cmp q i.id)) (Some (fresh_record i)) (record_at q es)
put_record i id r es new is same one q =
    ap (record_at q) (is ∙ ap (λ k. insert_entry id_cmp es k r) same ∙ ap (insert_entry id_cmp es i.id) one)
    ∙ lookup-insert dtmi_text (dtmi_text q) i.id (fresh_record i) es

pub kept_record : (i : Interface) (es new : List (Identifier × Record)) → ((q : Identifier) → record_at q new ≡ cond (is_eq (id_cmp q i.id)) (Some (fresh_record i)) (record_at q es)) → (q : Identifier) → is_eq (id_cmp q i.id) ≡ false → record_at q new ≡ record_at q es
kept_record i es new put q e = put q ∙ ap (λ b. cond b (Some (fresh_record i)) (record_at q es)) e

-- ---- several that come
abbrev interface_of : Uploaded → Interface
interface_of u = u.interface

abbrev id_of : Uploaded → Identifier
id_of u = u.interface.id

pub absent_next : (ys : List Uploaded) (u : Uploaded) (zs : List Uploaded) (set : List Interface) → AreAbsent set (ys ++ u ∷ zs) → HaveDistinctIds (map interface_of (ys ++ u ∷ zs)) → interface_at u.interface.id (with_uploads ys set) ≡ None
absent_next [] u zs set absent apart = absent.0
absent_next (y ∷ ys) u zs set absent apart = absent_next ys u zs (with_interface y.interface set) (absent_more y.interface set (ys ++ u ∷ zs) absent.0 absent.1 apart.0) apart.1

pub with_more : (ys : List Uploaded) (u : Uploaded) (set : List Interface) → with_uploads (ys ++ u ∷ []) set ≡ with_interface u.interface (with_uploads ys set)
with_more [] u set = refl
with_more (y ∷ ys) u set = with_more ys u (with_interface y.interface set)

-- an identifier that none of them has
none_of : (us : List Uploaded) (q : Identifier) (u : Uploaded) (zs : List Uploaded) → is_one_of (map id_of (us ++ u ∷ zs)) q ≡ false → (is_one_of (map id_of us) q ≡ false) × (id_eq q u.interface.id ≡ false)
none_of [] q u zs h = (refl, first (id_eq q u.interface.id) h)
  where
    first : (b : Bool) → (b || is_one_of (map id_of zs) q) ≡ false → b ≡ false
    first true h = h
    first false h = refl
none_of (y ∷ ys) q u zs h =
    elim (id_eq q y.interface.id) as (λ b. (b || is_one_of (map id_of (ys ++ u ∷ zs)) q) ≡ false → ((b || is_one_of (map id_of ys) q) ≡ false) × (id_eq q u.interface.id ≡ false)) [
      | true ↦ λ g. absurd (true≢false g)
      | false ↦ λ g. none_of ys q u zs g
    ] h

pub others_next : (ys : List Uploaded) (u : Uploaded) (zs : List Uploaded) (q : Identifier) → is_one_of (map id_of (ys ++ u ∷ zs)) q ≡ false → (is_one_of (map id_of ys) q ≡ false) × (is_eq (id_cmp q u.interface.id) ≡ false)
others_next ys u zs q h = let both = none_of ys q u zs h in (both.0, eq_tests q u.interface.id ∙ both.1)

-- the records of those before stay
pub records_next : (ys : List Uploaded) (u : Uploaded) (zs : List Uploaded) (old new : List (Identifier × Record)) → HaveDistinctIds (map interface_of (ys ++ u ∷ zs)) → ((q : Identifier) → record_at q new ≡ cond (is_eq (id_cmp q u.interface.id)) (Some (fresh_record u.interface)) (record_at q old))
    → AllByRecursion (λ v. record_at v.interface.id old ≡ Some (fresh_record v.interface)) ys → AllByRecursion (λ v. record_at v.interface.id new ≡ Some (fresh_record v.interface)) (ys ++ u ∷ [])
records_next [] u zs old new apart put all = (put u.interface.id ∙ ap (λ b. cond b (Some (fresh_record u.interface)) (record_at u.interface.id old)) (ap is_eq (alike (dtmi_text u.interface.id))), tt)
records_next (y ∷ ys) u zs old new apart put all = (
  kept_record u.interface old new put y.interface.id (unlike y.interface.id u.interface.id (apart_from ys apart.0)) ∙ all.0,
  records_next ys u zs old new apart.1 put all.1,
)
  where
    apart_from : (xs : List Uploaded) → AllByRecursion (λ t. text y.interface ≢ t) (map text (map interface_of (xs ++ u ∷ zs))) → text y.interface ≢ text u.interface
    apart_from [] h = h.0
    apart_from (x ∷ xs) h = apart_from xs h.1

-- what is under another identifier stays, and the set stays in order
pub interfaces_kept : (ys zs : List Uploaded) (set : List Interface) → AreAbsent set (ys ++ zs) → HaveDistinctIds (map interface_of (ys ++ zs)) → (q : Identifier) → is_one_of (map id_of (ys ++ zs)) q ≡ false → interface_at q (with_uploads ys set) ≡ interface_at q set
interfaces_kept [] zs set absent apart q off = refl
interfaces_kept (y ∷ ys) zs set absent apart q off =
    let both = none_of [] q y (ys ++ zs) off in
    let rest : is_one_of (map id_of (ys ++ zs)) q ≡ false = tail (id_eq q y.interface.id) off in
    interfaces_kept ys zs (with_interface y.interface set) (absent_more y.interface set (ys ++ zs) absent.0 absent.1 apart.0) apart.1 q rest
    ∙ at_with y.interface set absent.0 q
    ∙ ap (λ b. cond b (Some y.interface) (interface_at q set)) (eq_tests q y.interface.id ∙ both.1)
  where
    tail : (b : Bool) → (b || is_one_of (map id_of (ys ++ zs)) q) ≡ false → is_one_of (map id_of (ys ++ zs)) q ≡ false
    tail true h = absurd (true≢false h)
    tail false h = h

pub ordered_kept : (ys zs : List Uploaded) (set : List Interface) → InOrder set → AreAbsent set (ys ++ zs) → HaveDistinctIds (map interface_of (ys ++ zs)) → InOrder (with_uploads ys set)
ordered_kept [] zs set sorted absent apart = sorted
ordered_kept (y ∷ ys) zs set sorted absent apart =
    ordered_kept ys zs (with_interface y.interface set) (ordered_with y.interface set absent.0 sorted) (absent_more y.interface set (ys ++ zs) absent.0 absent.1 apart.0) apart.1
