-- The numbers of interfaces, as they are given one by one.
use Rattle.std.proofs.Common.{◌≡◌, ℕ, suc, ◌+◌, List, [], ◌∷◌, ◌++◌, Bool, true, false, cond, length, Option, Some, None, refl, sym, ap, ◌∙◌, true≢false, Ordering, Less, Equal, Greater, is_eq, arith}
use Rattle.std.specs.List.{position_from}
use Rattle.std.specs.Option.{option_or, is_some, unwrap_or}
use Rattle.std.specs.Ordering.{nat_cmp, ordering_reverse}
use Rattle.std.specs.Cmp.Lexicographic.{slice_cmp}
use Rattle.std.specs.Map.{lookup}
use Rattle.std.proofs.lemmas.Cmp.{nat_list_cmp_total}
use Rattle.std.proofs.lemmas.Map.Lookups.{exact_bytes}
use Rattle.dt_base.specs.names.Grammar.{Identifier, dtmi_text, id_cmp}
use Rattle.dtdl_terms.specs.declared.interface.Interface.{Interface}
use Rattle.extend_resolve.specs.Machinery.Numbers.{number_at, kept_at, number_for}

pub equal_order : (o : Ordering) → is_eq o ≡ true → o ≡ Equal
equal_order Less h = absurd (true≢false (sym h))
equal_order Equal h = refl
equal_order Greater h = absurd (true≢false (sym h))

pub same_text : (q id : Identifier) → is_eq (id_cmp q id) ≡ true → dtmi_text q ≡ dtmi_text id
same_text q id h = exact_bytes (dtmi_text q) (dtmi_text id) (equal_order (id_cmp q id) h)

-- equal identifiers have one number
one_kept : (q id : Identifier) (es : List (Identifier × ℕ)) → is_eq (id_cmp q id) ≡ true → kept_at q es ≡ kept_at id es
one_kept q id es h = ap (λ t. lookup (λ (k : Identifier). is_eq (slice_cmp nat_cmp t (dtmi_text k))) es) (same_text q id h)

or_none : (o : Option ℕ) → o ≡ option_or o None
or_none None = refl
or_none (Some n) = refl

turned : (o : Ordering) → is_eq (ordering_reverse o) ≡ is_eq o
turned Less = refl
turned Equal = refl
turned Greater = refl

-- the order of two identifiers tells whether they are equal, whichever comes first
both_ways : (q id : Identifier) → is_eq (id_cmp id q) ≡ is_eq (id_cmp q id)
both_ways q id = ap is_eq (nat_list_cmp_total.antisymm (dtmi_text id) (dtmi_text q)) ∙ turned (id_cmp q id)

or_number : (o : Option ℕ) (n : ℕ) → Some (unwrap_or o n) ≡ option_or o (Some n)
or_number None n = refl
or_number (Some m) n = refl

-- where an identifier gets its own number again, or a new one where it has none, others keep theirs
pub number_entered : (id : Identifier) (number w : ℕ) (es fs : List (Identifier × ℕ)) → w ≡ unwrap_or (kept_at id es) number
    → ((q : Identifier) → kept_at q fs ≡ cond (is_eq (id_cmp id q)) (Some w) (kept_at q es))
    → (q : Identifier) → kept_at q fs ≡ option_or (kept_at q es) (number_for id number q)
number_entered id number w es fs is put q =
    put q
    ∙ ap (λ b. cond b (Some w) (kept_at q es)) (both_ways q id)
    ∙ elim (is_eq (id_cmp q id)) as (λ b. is_eq (id_cmp q id) ≡ b → cond b (Some w) (kept_at q es) ≡ option_or (kept_at q es) (cond b (Some number) None)) [
      | true ↦ λ e. ap Some is ∙ or_number (kept_at id es) number ∙ ap (λ o. option_or o (Some number)) (sym (one_kept q id es e))
      | false ↦ λ e. or_none (kept_at q es)
    ] refl

-- ---- positions in a list with one more
module _ (p : Interface → Bool) where
  push_from : (n : ℕ) (is : List Interface) (i : Interface) → position_from p n (is ++ i ∷ []) ≡ option_or (position_from p n is) (cond (p i) (Some (n + length is)) None)
  push_from n [] i = let e : n ≡ n + 0 = omega arith in ap (λ m. cond (p i) (Some m) None) e
  push_from n (j ∷ js) i =
      let e : n + 1 + length js ≡ n + suc (length js) = omega arith in
      elim (p j) as (λ b. cond b (Some n) (position_from p (n + 1) (js ++ i ∷ [])) ≡ option_or (cond b (Some n) (position_from p (n + 1) js)) (cond (p i) (Some (n + suc (length js))) None)) [
        | true ↦ refl
        | false ↦ push_from (n + 1) js i ∙ ap (λ m. option_or (position_from p (n + 1) js) (cond (p i) (Some m) None)) e
      ]

pub number-push : (q : Identifier) (is : List Interface) (i : Interface) → number_at q (is ++ i ∷ []) ≡ option_or (number_at q is) (number_for i.id (length is) q)
number-push q is i =
    let e : 0 + length is ≡ length is = omega arith in
    push_from (λ j. is_eq (id_cmp q j.id)) 0 is i ∙ ap (λ m. option_or (number_at q is) (number_for i.id m q)) e

pub some_of : (o : Option ℕ) → is_some o ≡ true → (n : ℕ) × (o ≡ Some n)
some_of None h = absurd (true≢false (sym h))
some_of (Some n) h = (n, refl)

pub none_of : (o : Option ℕ) → is_some o ≡ false → o ≡ None
none_of None h = refl
none_of (Some n) h = absurd (true≢false h)
