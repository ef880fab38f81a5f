-- A set of one interface that names no other breaks no rule.
use Rattle.std.proofs.Common.{◌≡◌, ℕ, zero, suc, ◌<◌, List, [], ◌∷◌, map, sum, length, Bool, true, false, cond, ◌||◌, Some, None, refl, sym, ap, ◌∙◌, subst, true≢false, arith}
use Rattle.std.specs.Prelude.{slice_get, IsSome}
use Rattle.std.specs.Option.{is_some}
use Rattle.std.specs.List.{AllByRecursion}
use Rattle.std.specs.Ordering.{is_eq}
use Rattle.std.proofs.lemmas.Option.{same_Some, none-some}
use Rattle.std.proofs.lemmas.Slice.Eq.{bytes_eq-Decides}
use Rattle.dt_base.specs.names.Grammar.{Identifier, dtmi_text, id_eq}
use Rattle.dtdl_terms.specs.Distinct.{AreDistinct, ContentIsDistinct, SchemaIsDistinct, schema_id, HasDeclaration}
use Rattle.dtdl_terms.specs.TermViews.{schema_term, content_term}
use Rattle.dtdl_terms.specs.declared.common.Entry.{Entry}
use Rattle.dtdl_terms.specs.declared.schema.Schema.{Schema}
use Rattle.dtdl_terms.specs.Sets.{interface_at}
use Rattle.dtdl_terms.specs.declared.content.Content.{Content}
use Rattle.dtdl_terms.specs.declared.interface.Interface.{Interface}
use Rattle.dtdl_terms.specs.declared.spot.Spot.{Spot}
use Rattle.dtdl_terms.specs.declared.spot.Spot.TheVariants as spots
use Rattle.extend_resolve.specs.declared.rule.SetRule.{SetRule}
use Rattle.extend_resolve.specs.declared.rule.SetRule.TheVariants as rules
use Rattle.extend_resolve.specs.Chains.{IsParent, IsChain, chain_end}
use Rattle.extend_resolve.specs.SetRules.{NamesParent, HasTooManyContents}
use Rattle.extend_resolve.specs.Breaches.{BreaksSetRule, BreaksNoRule}
use Rattle.model_life.specs.resolution.Resolving.{EntryOf}
use Rattle.resolved_table.specs.Tables.{ResolvesOthers}
use Rattle.set_tests.specs.Lone.{IsLone}
use Rattle.model_life.proofs.resolution.ByKey.{C, same_spelling, alike}

module _ (i : Interface) (parentless : i.parents ≡ []) (empty : i.contents ≡ []) where
  no_parent : (k : ℕ) (p : Identifier) → NamesParent i k p → ⊥
  no_parent k p h = none-some p (sym (ap (λ xs. slice_get xs k) parentless) ∙ h)

  no_content : (k : ℕ) (c : Content) → slice_get i.contents k ≡ Some c → ⊥
  no_content k c h = none-some c (sym (ap (λ xs. slice_get xs k) empty) ∙ h)

  no_step : (set : List Interface) (j : Interface) → IsParent set i j → ⊥
  no_step set j (p, (k, low, is), found) = let none : k < 0 = subst (λ xs. k < length xs) parentless low in omega (arith, none)

  no_chain : (set : List Interface) (js : List Interface) → IsChain set i js → length js ≡ 11 → ⊥
  no_chain set [] chain long = omega (arith, long)
  no_chain set (j ∷ js) (step, chain) long = no_step set j step

  itself : (set : List Interface) (a : Interface) (js : List Interface) → IsChain set i js → chain_end i js ≡ a → i ≡ a
  itself set a [] chain is = is
  itself set a (j ∷ js) (step, chain) is = absurd (no_step set j step)

  not_many : (set : List Interface) → HasTooManyContents set i → ⊥
  not_many set ([], all, apart, many) =
      let none : 3000 < sum (0 ∷ []) = subst (λ (cs : List Content). 3000 < sum (length cs ∷ [])) empty many in omega (arith, none)
  not_many set (a ∷ others, ((js, chain, is), all), (apart, rest), many) = apart.0 (ap (λ (x : Interface). dtmi_text x.id) (itself set a js chain is))

  never : (rule : SetRule) (spot : Spot) → BreaksSetRule (i ∷ []) [] i rule spot → ⊥
  never rules.RepeatedId spots.Whole h = h
  never rules.RepeatedId spots.Id (e, (k, low, is), same) = omega (arith, low)
  never rules.RepeatedId spots.Parents h = h
  never rules.RepeatedId (spots.Parent k) h = h
  never rules.RepeatedId (spots.ContentSchema k) h = h
  never rules.AbsentReference spots.Whole h = h
  never rules.AbsentReference spots.Id h = h
  never rules.AbsentReference spots.Parents h = h
  never rules.AbsentReference (spots.Parent k) h = no_parent k h.0 h.1
  never rules.AbsentReference (spots.ContentSchema k) h = no_content k h.1.0 h.1.1
  never rules.Cycle spots.Whole h = h
  never rules.Cycle spots.Id h = h
  never rules.Cycle spots.Parents h = h
  never rules.Cycle (spots.Parent k) h = no_parent k h.1.0 h.1.1
  never rules.Cycle (spots.ContentSchema k) h = h
  never rules.LongChain spots.Whole h = h
  never rules.LongChain spots.Id h = h
  never rules.LongChain spots.Parents h = no_chain (i ∷ []) h.long.0 h.long.1 h.long.2
  never rules.LongChain (spots.Parent k) h = h
  never rules.LongChain (spots.ContentSchema k) h = h
  never rules.NameClash spots.Whole h = h
  never rules.NameClash spots.Id h = h
  never rules.NameClash spots.Parents h = h
  never rules.NameClash (spots.Parent k) h = no_parent k h.3.0 h.3.1
  never rules.NameClash (spots.ContentSchema k) h = h
  never rules.ComponentInComponent spots.Whole h = h
  never rules.ComponentInComponent spots.Id h = h
  never rules.ComponentInComponent spots.Parents h = h
  never rules.ComponentInComponent (spots.Parent k) h = h
  never rules.ComponentInComponent (spots.ContentSchema k) h = no_content k h.2.1.0 h.2.1.1
  never rules.TooManyResolved spots.Whole h = not_many (i ∷ []) h
  never rules.TooManyResolved spots.Id h = h
  never rules.TooManyResolved spots.Parents h = h
  never rules.TooManyResolved (spots.Parent k) h = h
  never rules.TooManyResolved (spots.ContentSchema k) h = h

  pub lone_sound : BreaksNoRule (i ∷ [])
  lone_sound zero j rule spot is h = never rule spot (subst (λ x. BreaksSetRule (i ∷ []) [] x rule spot) (sym (same_Some i j is)) h)
  lone_sound (suc k) j rule spot is h = none-some j is

pub lone_declared : (i : Interface) → i.description.entries ≡ [] → i.display_name.entries ≡ [] → i.parents ≡ [] → i.contents ≡ [] → i.schemas ≡ [] → HasDeclaration i
lone_declared i description display parents contents schemas = record {
  description = subst (λ (es : List Entry). AreDistinct (map (λ e. e.language) es)) (sym description) tt;
  display_name = subst (λ (es : List Entry). AreDistinct (map (λ e. e.language) es)) (sym display) tt;
  parents = subst (λ (ids : List Identifier). AreDistinct ids) (sym parents) tt;
  names = subst (λ (cs : List Content). AreDistinct (map (λ c. c.name) cs)) (sym contents) tt;
  contents = subst (λ (cs : List Content). AllByRecursion (λ c. ContentIsDistinct (content_term c)) cs) (sym contents) tt;
  identified = subst (λ (ss : List Schema). AllByRecursion (λ s. IsSome (schema_id (schema_term s))) ss) (sym schemas) tt;
  ids = subst (λ (ss : List Schema). AreDistinct (map (λ s. schema_id (schema_term s)) ss)) (sym schemas) tt;
  schemas = subst (λ (ss : List Schema). AllByRecursion (λ s. SchemaIsDistinct (schema_term s)) ss) (sym schemas) tt;
}

-- ---- the set
pub lone_breaks : (set : List Interface) (id : Identifier) → IsLone set id → BreaksNoRule set
lone_breaks set id (i, is, same, sound, declared) = subst BreaksNoRule (sym is) sound

pub lone_all : (set : List Interface) (id : Identifier) → IsLone set id → AllByRecursion HasDeclaration set
lone_all set id (i, is, same, sound, declared) = subst (AllByRecursion HasDeclaration) (sym is) (declared, tt)

at_lone : (i : Interface) (id : Identifier) → i.id ≡ id → interface_at id (i ∷ []) ≡ Some i
at_lone i id same = ap (λ b. cond b (Some i) None) (ap is_eq (ap (λ (j : Identifier). C (dtmi_text id) (dtmi_text j)) same ∙ alike (dtmi_text id)))

pub lone_there : (set : List Interface) (id : Identifier) → IsLone set id → IsSome (interface_at id set)
lone_there set id (i, is, same, sound, declared) = ap is_some (ap (interface_at id) is ∙ at_lone i id same)

other : (i : Interface) (id q : Identifier) → i.id ≡ id → id_eq q id ≡ false → interface_at q (i ∷ []) ≡ None
other i id q same unlike =
    elim (is_eq (C (dtmi_text q) (dtmi_text i.id))) as (λ b. is_eq (C (dtmi_text q) (dtmi_text i.id)) ≡ b → cond b (Some i) None ≡ None) [
      | true ↦ λ e. absurd (true≢false (sym ((bytes_eq-Decides (dtmi_text q) (dtmi_text id)).1 (same_spelling (dtmi_text q) (dtmi_text i.id) e ∙ ap dtmi_text same)) ∙ unlike))
      | false ↦ λ _. refl
    ] refl

or_false : (b : Bool) → (b || false) ≡ false → b ≡ false
or_false true h = h
or_false false h = refl

pub lone_others : (set : List Interface) (id : Identifier) → IsLone set id → ResolvesOthers set (id ∷ []) []
lone_others set id lone = record {
  new = ((lone_there set id lone, refl), tt);
  others = λ q none. subst (λ o. EntryOf set o None) (sym (ap (interface_at q) lone.1 ∙ other lone.0 id q lone.2 (or_false (id_eq q id) none))) tt;
}
