-- Keys that begin with no `$` are none of the words that do.
use Rattle.std.proofs.Common.{◌≡◌, ℕ, List, [], ◌∷◌, ◌&&◌, Bool, false, codes, bytes_eq, true, refl, sym, ap, ◌∙◌}
use Rattle.std.specs.Prelude.{if◌then◌else◌}
use Rattle.twin_value.specs.Machinery.Dollar.{begins_with_dollar}

no_word : (key word : List ℕ) → begins_with_dollar key ≡ false → bytes_eq key (36 ∷ word) ≡ false
no_word [] word e = refl
no_word (b ∷ key) word e = ap (λ (first : Bool). first && bytes_eq key word) e

pub no_metadata : (key : List ℕ) → begins_with_dollar key ≡ false → bytes_eq key (codes "$metadata") ≡ false
no_metadata key e = no_word key (codes "metadata") e

pub no_twin_id : (key : List ℕ) → begins_with_dollar key ≡ false → bytes_eq key (codes "$dtId") ≡ false
no_twin_id key e = no_word key (codes "dtId") e

pub no_etag : (key : List ℕ) → begins_with_dollar key ≡ false → bytes_eq key (codes "$etag") ≡ false
no_etag key e = no_word key (codes "etag") e

pub no_target : (key : List ℕ) → begins_with_dollar key ≡ false → bytes_eq key (codes "$targetId") ≡ false
no_target key e = no_word key (codes "targetId") e

pub no_name : (key : List ℕ) → begins_with_dollar key ≡ false → bytes_eq key (codes "$relationshipName") ≡ false
no_name key e = no_word key (codes "relationshipName") e

pub no_link_id : (key : List ℕ) → begins_with_dollar key ≡ false → bytes_eq key (codes "$relationshipId") ≡ false
no_link_id key e = no_word key (codes "relationshipId") e

pub no_source : (key : List ℕ) → begins_with_dollar key ≡ false → bytes_eq key (codes "$sourceId") ≡ false
no_source key e = no_word key (codes "sourceId") e

pub ruleset unmarked = (no_metadata, no_twin_id, no_etag, no_target, no_name, no_link_id, no_source)

-- ---- what words stand for, one after another
pub by_word : {X : Type 0} (b : Bool) (x y : X) → b ≡ true → x ≡ (if b then x else y)
by_word b x y e = ap (λ (c : Bool). if c then x else y) (sym e)

pub by_later : {X : Type 0} (b : Bool) (w x y : X) → b ≡ false → w ≡ y → w ≡ (if b then x else y)
by_later b w x y e h = h ∙ ap (λ (c : Bool). if c then x else y) (sym e)
