-- What is kept where models go that no other uses.
use Rattle.std.proofs.Common.{◌≡◌, ℕ, ◌+◌, ◌-◌, ◌≤◌, List, [], ◌∷◌, map, Bool, true, false, not, cond, length, Option, Some, None, refl, sym, ap, ◌∙◌, arith}
use Rattle.std.specs.Prelude.{unwrap_or}
use Rattle.std.specs.Option.{option_map}
use Rattle.std.specs.List.{AllByRecursion, filter, sum_by}
use Rattle.dt_base.specs.names.Grammar.{Identifier, dtmi_text}
use Rattle.dtdl_terms.specs.Distinct.{AreDistinct, HasDeclaration}
use Rattle.dtdl_terms.specs.Sets.{InOrder, interface_at}
use Rattle.dtdl_terms.specs.declared.interface.Interface.{Interface}
use Rattle.extend_resolve.specs.Breaches.{BreaksNoRule}
use Rattle.model_life.proofs.resolution.Families.{listed, stands}
use Rattle.model_life.specs.sets.Changing.{is_one_of, without_interfaces, AreFree}
use Rattle.model_life.proofs.sets.Looking.{at_without, ordered_without}
use Rattle.model_life.proofs.sets.Sound.{rest_within, rest_sound}
use Rattle.model_life.specs.Sums.{text_bytes, bytes_in, bytes_of}
use Rattle.model_life.specs.Machinery.Keeping.{record_at, capped, recorded, share_of, share_in, share_at, Written, written_at, AreWritten, Users, user_at, IsKept}
use Rattle.model_life.proofs.Seen.{Records}
use Rattle.model_life.proofs.Taking.{sum_same, sum_without_all, recorded_is, share_same, found_share, exact}
use Rattle.model_life.proofs.Growing.{left_fits}

pub all_filter : {X : Type 0} (P : X → Type 0) (p : X → Bool) (xs : List X) → AllByRecursion P xs → AllByRecursion P (filter p xs)
all_filter P p [] all = tt
all_filter P p (x ∷ xs) all =
    elim (p x) as (λ b. AllByRecursion P (cond b (x ∷ filter p xs) (filter p xs))) [
      | true ↦ (all.0, all_filter P p xs all.1)
      | false ↦ all_filter P p xs all.1
    ]

filter_shorter : {X : Type 0} (p : X → Bool) (xs : List X) → length (filter p xs) ≤ length xs
filter_shorter p [] = omega arith
filter_shorter p (x ∷ xs) =
    let less = filter_shorter p xs in
    elim (p x) as (λ b. length (cond b (x ∷ filter p xs) (filter p xs)) ≤ length (x ∷ xs)) [
      | true ↦ omega (arith, less)
      | false ↦ omega (arith, less)
    ]

found_bytes : (o : Option Interface) → unwrap_or (option_map text_bytes o) 0 ≡ bytes_in o
found_bytes None = refl
found_bytes (Some i) = refl

pub left_bytes : (ids : List Identifier) (set : List Interface) → InOrder set → AreDistinct (map (λ id. dtmi_text id) ids) → sum_by text_bytes (without_interfaces ids set) + bytes_of set ids ≡ sum_by text_bytes set
left_bytes ids set sorted apart =
    ap (λ n. sum_by text_bytes (without_interfaces ids set) + n) (sum_same (λ id. bytes_in (interface_at id set)) (λ id. unwrap_or (option_map text_bytes (interface_at id set)) 0) ids (λ id c. sym (found_bytes (interface_at id set))))
    ∙ sum_without_all text_bytes ids set sorted apart

pub left_shares : (ids : List Identifier) (set : List Interface) → InOrder set → AreDistinct (map (λ id. dtmi_text id) ids) → sum_by (share_of set) (without_interfaces ids set) + sum_by (share_at set) ids ≡ sum_by (share_of set) set
left_shares ids set sorted apart =
    ap (λ n. sum_by (share_of set) (without_interfaces ids set) + n)
    (sum_same (share_at set) (λ id. unwrap_or (option_map (share_of set) (interface_at id set)) 0) ids (λ id c. sym (found_share set (interface_at id set))))
    ∙ sum_without_all (share_of set) ids set sorted apart

-- what was counted of those that go
pub counted_bytes : (ids : List Identifier) (set : List Interface) (es : Records) (us : Users) (ws : Written) (bytes resolved n : ℕ) → IsKept set es us ws bytes resolved → AreDistinct (map (λ id. dtmi_text id) ids) → n ≡ capped (recorded es ids)
    → (n ≡ bytes_of set ids) × (n ≤ bytes)
counted_bytes ids set es us ws bytes resolved n kept apart is =
    let whole = left_bytes ids set kept.ordered apart in
    let sum = kept.sum in
    let low : bytes_of set ids ≤ bytes = omega (arith, whole, sum) in
    let small = kept.small in
    let same : n ≡ bytes_of set ids = exact (bytes_of set ids) bytes n (is ∙ ap capped (recorded_is set es kept.fits.records ids)) low (omega (arith, small)) in
    (same, omega (arith, same, low))

pub counted_shares : (ids : List Identifier) (set : List Interface) (es : Records) (us : Users) (ws : Written) (bytes resolved n : ℕ) → IsKept set es us ws bytes resolved → AreDistinct (map (λ id. dtmi_text id) ids)
    → n ≡ capped (sum_by (λ id. written_at id ws) ids) → (n ≡ sum_by (share_at set) ids) × (n ≤ resolved)
counted_shares ids set es us ws bytes resolved n kept apart is =
    let whole = left_shares ids set kept.ordered apart in
    let total = kept.total in
    let low : sum_by (share_at set) ids ≤ resolved = omega (arith, whole, total) in
    let same : n ≡ sum_by (share_at set) ids =
    exact (sum_by (share_at set) ids) resolved n (is ∙ ap capped (sum_same (λ id. written_at id ws) (share_at set) ids (λ id c. kept.written id))) low kept.bounded in
    (same, omega (arith, same, low))

-- what is written of the rest
pub left_written : (ids : List Identifier) (set : List Interface) (ws new : Written) → InOrder set → BreaksNoRule set → AreFree set ids → AreWritten set ws → ((q : Identifier) → written_at q new ≡ cond (is_one_of ids q) 0 (written_at q ws)) → AreWritten (without_interfaces ids set) new
left_written ids set ws new sorted rules free all gone q =
    gone q ∙ by (is_one_of ids q) refl ∙ sym (ap (share_in (without_interfaces ids set)) (at_without ids set q))
  where
    rest : (o : Option Interface) → interface_at q set ≡ o → is_one_of ids q ≡ false → share_in set o ≡ share_in (without_interfaces ids set) o
    rest None e off = refl
    rest (Some i) e off =
        sym (share_same (without_interfaces ids set) set (rest_within set ids sorted rules free) (rest_sound set ids sorted rules free) (ordered_without ids set sorted) rules sorted i
        (stands (without_interfaces ids set) q i (at_without ids set q ∙ ap (λ b. cond b None (interface_at q set)) off ∙ e)))

    by : (b : Bool) → is_one_of ids q ≡ b → cond b 0 (written_at q ws) ≡ share_in (without_interfaces ids set) (cond b None (interface_at q set))
    by true e = refl
    by false e = all q ∙ rest (interface_at q set) refl e

pub left_kept : (ids : List Identifier) (set : List Interface) (es es' : Records) (us us' : Users) (ws new : Written) (bytes resolved m n : ℕ) → IsKept set es us ws bytes resolved → AreDistinct (map (λ id. dtmi_text id) ids) → AreFree set ids
    → ((q : Identifier) → record_at q es' ≡ cond (is_one_of ids q) None (record_at q es)) → ((t u : Identifier) → user_at t u us' ≡ cond (is_one_of ids u) None (user_at t u us)) → ((q : Identifier) → written_at q new ≡ cond (is_one_of ids q) 0 (written_at q ws))
    → m ≡ bytes_of set ids → n ≡ sum_by (share_at set) ids → IsKept (without_interfaces ids set) es' us' new (bytes - m) (resolved - n)
left_kept ids set es es' us us' ws new bytes resolved m n kept apart free records users written f g =
    let whole = left_bytes ids set kept.ordered apart in
    let sum = kept.sum in
    let all = left_shares ids set kept.ordered apart in
    let total = kept.total in
    let same : sum_by (share_of (without_interfaces ids set)) (without_interfaces ids set) ≡ sum_by (share_of set) (without_interfaces ids set) =
    sum_same (share_of (without_interfaces ids set)) (share_of set) (without_interfaces ids set)
    (λ i c. share_same (without_interfaces ids set) set (rest_within set ids kept.ordered kept.rules free) (rest_sound set ids kept.ordered kept.rules free) (ordered_without ids set kept.ordered) kept.rules kept.ordered i ((listed (without_interfaces ids set) (ordered_without ids set kept.ordered) i).0 c)) in
    let few = kept.few in
    let less = filter_shorter (λ (i : Interface). not (is_one_of ids i.id)) set in
    let small = kept.small in
    let bounded = kept.bounded in
    record {
      rules = rest_sound set ids kept.ordered kept.rules free;
      ordered = ordered_without ids set kept.ordered;
      declared = all_filter HasDeclaration (λ i. not (is_one_of ids i.id)) set kept.declared;
      fits = left_fits ids set es es' us us' records users kept.fits;
      written = left_written ids set ws new kept.ordered kept.rules free kept.written written;
      sum = omega (arith, whole, sum, f);
      total = omega (arith, all, total, same, g);
      few = omega (arith, few, less);
      small = omega (arith, small);
      bounded = omega (arith, bounded);
    }
