-- Interfaces that become users, and that are users no more.
use Rattle.std.proofs.Common.{◌≡◌, List, [], ◌∷◌, Bool, true, false, cond, ◌||◌, ◌&&◌, Some, None, refl, sym, ap, ◌∙◌, subst}
use Rattle.std.specs.Prelude.{bytes_eq}
use Rattle.std.specs.Option.{IsSomeAnd}
use Rattle.std.specs.List.{AllByRecursion, list_any}
use Rattle.std.proofs.lemmas.Option.{none-some}
use Rattle.std.proofs.lemmas.Slice.Eq.{bytes_eq-Decides}
use Rattle.dt_base.specs.names.Grammar.{Identifier, dtmi_text, id_eq}
use Rattle.dtdl_terms.specs.Sets.{interface_at}
use Rattle.dtdl_terms.specs.declared.interface.Interface.{Interface}
use Rattle.model_life.proofs.resolution.Families.{spelled}
use Rattle.model_life.specs.sets.Changing.{is_one_of}
use Rattle.model_life.proofs.sets.Looking.{at_text}
use Rattle.model_life.specs.Models.{uses}
use Rattle.model_life.specs.Machinery.Keeping.{record_at, HasText, Users, UsersAreWithin, user_at, use_of}
use Rattle.model_life.specs.declared.records.Record.{Record}
use Rattle.model_life.proofs.Using.{itself}

pub text_of : (es : List (Identifier × Record)) (id : Identifier) (r : Record) → record_at id es ≡ Some r → HasText es id → r.text ≡ dtmi_text id
text_of es id r found h = subst (λ o. IsSomeAnd o (λ (s : Record). s.text ≡ dtmi_text id)) found h

pub all_named : (P : Identifier → Type 0) (ids : List Identifier) → ((t : Identifier) → list_any (id_eq t) ids ≡ true → P t) → AllByRecursion P ids
all_named P [] h = tt
all_named P (id ∷ ids) h = (h id (ap (λ b. b || list_any (id_eq id) ids) (itself id)), all_named P ids (λ t e. h t (or_right (id_eq t id) (list_any (id_eq t) ids) e)))
  where
    or_right : (a b : Bool) → b ≡ true → (a || b) ≡ true
    or_right true b h = refl
    or_right false b h = h

and_false : (a : Bool) → (a && false) ≡ false
and_false true = refl
and_false false = refl

-- ---- one interface of the set
module _ (set : List Interface) (id : Identifier) (i : Interface) (found : interface_at id set ≡ Some i) where
  pub same_id : (user : Identifier) → id_eq user i.id ≡ id_eq user id
  same_id user = ap (λ t. bytes_eq (dtmi_text user) t) (sym (spelled set id i found))

  pub user_is : (user : Identifier) → id_eq user id ≡ true → interface_at user set ≡ Some i
  user_is user e = at_text user id set ((bytes_eq-Decides (dtmi_text user) (dtmi_text id)).0 e) ∙ found

  use_is : (t user : Identifier) (a : Bool) → uses t i ≡ a → id_eq user id ≡ true → use_of t (interface_at user set) ≡ cond a (Some tt) None
  use_is t user a f e = ap (use_of t) (user_is user e) ∙ ap (λ b. cond b (Some tt) None) f

  pair_is : (t user : Identifier) (a b : Bool) → uses t i ≡ a → id_eq user id ≡ b → (uses t i && id_eq user i.id) ≡ (a && b)
  pair_is t user a b f e = ap (λ x. x && id_eq user i.id) f ∙ ap (λ y. a && y) (same_id user ∙ e)

  pub others_apart : (t user : Identifier) → id_eq user id ≡ false → (uses t i && id_eq user i.id) ≡ false
  others_apart t user e = ap (λ y. uses t i && y) (same_id user ∙ e) ∙ and_false (uses t i)

  pub within_step : (old new : Users) → UsersAreWithin set old → ((t u : Identifier) → (uses t i && id_eq u i.id) ≡ false → user_at t u new ≡ user_at t u old) → UsersAreWithin set new
  within_step old new within same t u none = by (uses t i) refl (id_eq u id) refl
    where
      by : (a : Bool) → uses t i ≡ a → (b : Bool) → id_eq u id ≡ b → user_at t u new ≡ None
      by true f true e = absurd (none-some tt (sym none ∙ use_is t u true f e))
      by true f false e = same t u (pair_is t u true false f e) ∙ within t u none
      by false f b e = same t u (pair_is t u false b f e) ∙ within t u none

  pub linked_step : (old new : Users) (rest : List Identifier) → UsersAreWithin set old → ((t u : Identifier) → user_at t u new ≡ cond (uses t i && id_eq u i.id) (Some tt) (user_at t u old))
      → ((t u : Identifier) → is_one_of (id ∷ rest) u ≡ false → user_at t u old ≡ use_of t (interface_at u set)) → (t u : Identifier) → is_one_of rest u ≡ false → user_at t u new ≡ use_of t (interface_at u set)
  linked_step old new rest within put so_far t u off = by (uses t i) refl (id_eq u id) refl
    where
      by : (a : Bool) → uses t i ≡ a → (b : Bool) → id_eq u id ≡ b → user_at t u new ≡ use_of t (interface_at u set)
      by true f true e = put t u ∙ ap (λ p. cond p (Some tt) (user_at t u old)) (pair_is t u true true f e) ∙ sym (use_is t u true f e)
      by false f true e =
          put t u ∙ ap (λ p. cond p (Some tt) (user_at t u old)) (pair_is t u false true f e) ∙ within t u (use_is t u false f e) ∙ sym (use_is t u false f e)
      by a f false e = put t u ∙ ap (λ p. cond p (Some tt) (user_at t u old)) (others_apart t u e) ∙ so_far t u (ap (λ x. x || is_one_of rest u) e ∙ off)

  pub unlinked_step : (first old new : Users) (one : Identifier → Bool) → UsersAreWithin set first → ((t u : Identifier) → user_at t u old ≡ cond (one u) None (user_at t u first))
      → ((t u : Identifier) → user_at t u new ≡ cond (uses t i && id_eq u i.id) None (user_at t u old)) → (t u : Identifier) → user_at t u new ≡ cond (one u || id_eq u id) None (user_at t u first)
  unlinked_step first old new one within so_far put t u = by (one u) refl (uses t i) refl (id_eq u id) refl
    where
      either : (p : Bool) → user_at t u old ≡ None → cond p None (user_at t u old) ≡ None
      either true h = refl
      either false h = h

      goes : (o : Bool) → one u ≡ o → user_at t u old ≡ cond o None (user_at t u first)
      goes o g = so_far t u ∙ ap (λ x. cond x None (user_at t u first)) g

      to : (o b : Bool) → one u ≡ o → id_eq u id ≡ b → cond (o || b) None (user_at t u first) ≡ cond (one u || id_eq u id) None (user_at t u first)
      to o b g e = ap (λ x. cond x None (user_at t u first)) (ap (λ x. x || b) (sym g) ∙ ap (λ y. one u || y) (sym e))

      by : (o : Bool) → one u ≡ o → (a : Bool) → uses t i ≡ a → (b : Bool) → id_eq u id ≡ b → user_at t u new ≡ cond (one u || id_eq u id) None (user_at t u first)
      by true g a f b e = put t u ∙ either (uses t i && id_eq u i.id) (goes true g) ∙ to true b g e
      by false g true f true e = put t u ∙ ap (λ p. cond p None (user_at t u old)) (pair_is t u true true f e) ∙ to false true g e
      by false g false f true e =
          put t u ∙ either (uses t i && id_eq u i.id) (goes false g ∙ within t u (use_is t u false f e)) ∙ to false true g e
      by false g a f false e = put t u ∙ ap (λ p. cond p None (user_at t u old)) (others_apart t u e) ∙ goes false g ∙ to false false g e

-- ---- none of the identifier
module _ (set : List Interface) (id : Identifier) (none : interface_at id set ≡ None) where
  use_none : (t u : Identifier) → id_eq u id ≡ true → use_of t (interface_at u set) ≡ None
  use_none t u e = ap (use_of t) (at_text u id set ((bytes_eq-Decides (dtmi_text u) (dtmi_text id)).0 e) ∙ none)

  pub linked_over : (old : Users) (rest : List Identifier) → UsersAreWithin set old → ((t u : Identifier) → is_one_of (id ∷ rest) u ≡ false → user_at t u old ≡ use_of t (interface_at u set))
      → (t u : Identifier) → is_one_of rest u ≡ false → user_at t u old ≡ use_of t (interface_at u set)
  linked_over old rest within so_far t u off = by (id_eq u id) refl
    where
      by : (b : Bool) → id_eq u id ≡ b → user_at t u old ≡ use_of t (interface_at u set)
      by true e = within t u (use_none t u e) ∙ sym (use_none t u e)
      by false e = so_far t u (ap (λ x. x || is_one_of rest u) e ∙ off)

  pub unlinked_over : (first old : Users) (one : Identifier → Bool) → UsersAreWithin set first → ((t u : Identifier) → user_at t u old ≡ cond (one u) None (user_at t u first)) → (t u : Identifier) → user_at t u old ≡ cond (one u || id_eq u id) None (user_at t u first)
  unlinked_over first old one within so_far t u = by (one u) refl (id_eq u id) refl
    where
      goes : (o : Bool) → one u ≡ o → user_at t u old ≡ cond o None (user_at t u first)
      goes o g = so_far t u ∙ ap (λ x. cond x None (user_at t u first)) g

      to : (o b : Bool) → one u ≡ o → id_eq u id ≡ b → cond (o || b) None (user_at t u first) ≡ cond (one u || id_eq u id) None (user_at t u first)
      to o b g e = ap (λ x. cond x None (user_at t u first)) (ap (λ x. x || b) (sym g) ∙ ap (λ y. one u || y) (sym e))

      by : (o : Bool) → one u ≡ o → (b : Bool) → id_eq u id ≡ b → user_at t u old ≡ cond (one u || id_eq u id) None (user_at t u first)
      by true g b e = goes true g ∙ to true b g e
      by false g true e = goes false g ∙ within t u (use_none t u e) ∙ to false true g e
      by false g false e = goes false g ∙ to false false g e
