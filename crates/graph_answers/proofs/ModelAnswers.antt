-- An ask on models has at most one answer.
use Rattle.std.proofs.Common.{◌≡◌, ℕ, zero, suc, ◌<◌, ◌++◌, List, [], ◌∷◌, take, Option, Some, None, IsSome, refl, sym, ap, ◌∙◌, subst, Ordering, Less, Equal, Greater, true≢false, arith}
use Rattle.std.specs.Prelude.{slice_get, IsTrue}
use Rattle.std.specs.Ordering.{nat_cmp, is_lt, ordering_reverse}
use Rattle.std.specs.Cmp.Lexicographic.{slice_cmp}
use Rattle.std.specs.List.{AllByRecursion}
use Rattle.std.proofs.lemmas.Cmp.{nat_list_cmp_total}
use Rattle.std.proofs.lemmas.Option.{same_Some, none-some}
use Rattle.std.proofs.lemmas.Map.Lookups.{exact_bytes}
use Rattle.dt_base.specs.names.Grammar.{Identifier, dtmi_text}
use Rattle.dtdl_terms.specs.Spots.{spot_text}
use Rattle.dtdl_terms.specs.declared.limit.Limit.{Limit}
use Rattle.dtdl_terms.specs.declared.limit.Limit.TheVariants as limits
use Rattle.dtdl_terms.specs.declared.uploaded.Uploaded.{Uploaded}
use Rattle.extend_resolve.specs.Breaches.{Breach, HasOrdinals, set_rule_code}
use Rattle.extend_resolve.proofs.FirstBreaches.{one_first}
use Rattle.graph_asks.specs.Answers.{Answer, body}
use Rattle.graph_asks.specs.declared.refusal.At.TheVariants as places
use Rattle.graph_asks.specs.declared.refusal.Refusal.{Refusal}
use Rattle.graph_asks.specs.declared.refusal.Refusal.TheVariants as refusals
use Rattle.model_life.specs.Models.{Model, model_at}
use Rattle.model_life.specs.Refusals.{AreNew, IsFirstThere, PassesFirst}
use Rattle.graph_steps.specs.Refusals.{or_refuse}
use Rattle.graph_steps.specs.States.{State, set_of}
use Rattle.graph_steps.specs.ModelAsks.{ModelExists, ModelFault, ModelsFull, TwinDoesNotFit, RefusesPutModels, ModelNotFound, ModelInUse, RefusesDropModel, GivesModel, model_value}
use Rattle.graph_steps.specs.Soundness.{IsSoundUpload, AreSoundUploads}
use Rattle.graph_answers.proofs.Refusals.{One, both, one_when}

-- ---- models that come
new_before : (ms : List Model) (us : List Uploaded) (j i : ℕ) (v : Uploaded) → AreNew ms (take j us) → i < j → slice_get us i ≡ Some v → model_at v.interface.id ms ≡ None
new_before ms [] j i v new low is = absurd (none-some v is)
new_before ms (u ∷ us) zero i v new low is = absurd (omega (arith, low))
new_before ms (u ∷ us) (suc j) zero v new low is = let same : u ≡ v = same_Some u v is in subst (λ (w : Uploaded). model_at w.interface.id ms ≡ None) same new.0
new_before ms (u ∷ us) (suc j) (suc i) v new low is = new_before ms us j i v new.1 (omega (arith, low)) is

some_none : {X : Type 0} (o : Option X) → IsSome o → o ≡ None → ⊥
some_none None h e = true≢false (sym h)
some_none (Some x) h e = none-some x (sym e)

not_later : (ms : List Model) (us : List Uploaded) (i j : ℕ) → IsFirstThere ms us i → IsFirstThere ms us j → i < j → ⊥
not_later ms us i j (u, at, there, before) (v, is, known, new) low = some_none (model_at u.interface.id ms) there (new_before ms us j i u new low at)

neither : (i j : ℕ) → (i < j → ⊥) → (j < i → ⊥) → i ≡ j
neither i j f g = omega (arith, f, g)

one_exists : (s : State) (us : List Uploaded) → One (ModelExists s us)
one_exists s us r q (i, u, first, at, e) (j, v, fore, is, d) =
    let same : i ≡ j = neither i j (not_later s.models us i j first fore) (not_later s.models us j i fore first) in
    let one : u ≡ v = same_Some u v (sym at ∙ ap (slice_get us) same ∙ is) in
    e ∙ ap (λ (w : Uploaded). refusals.ModelExists (dtmi_text w.interface.id)) one ∙ sym d

all_weaker : {X : Type 0} (P Q : X → Type 0) → ((x : X) → P x → Q x) → (xs : List X) → AllByRecursion P xs → AllByRecursion Q xs
all_weaker P Q f [] all = tt
all_weaker P Q f (x ∷ xs) all = (f x all.0, all_weaker P Q f xs all.1)

fault : Uploaded → Breach → Refusal
fault u b = refusals.ModelFault (places.Pointer (u.base ++ spot_text u.parents_as_text b.spot)) (set_rule_code b.rule)

one_fault : (s : State) (us : List Uploaded) → AreSoundUploads us → One (ModelFault s us)
unfolding fault
one_fault s us sound r q (b, u, first, at, e) (c, v, fore, is, d) =
    let same : b ≡ c = one_first (set_of s) us (all_weaker IsSoundUpload HasOrdinals (λ w h. h.ordinals) us sound.each) b c first fore in
    let one : u ≡ v = same_Some u v (sym at ∙ ap (λ (x : Breach). slice_get us x.index) same ∙ is) in
    e ∙ ap (λ w. fault w b) one ∙ ap (fault v) same ∙ sym d

one_limit : (ms : List Model) (l k : Limit) → PassesFirst ms l → PassesFirst ms k → l ≡ k
one_limit ms limits.Models limits.Models g h = refl
one_limit ms limits.Models limits.ModelBytes g h = absurd (h.0 g)
one_limit ms limits.Models limits.ResolvedBytes g h = absurd (h.0 g)
one_limit ms limits.ModelBytes limits.Models g h = absurd (g.0 h)
one_limit ms limits.ModelBytes limits.ModelBytes g h = refl
one_limit ms limits.ModelBytes limits.ResolvedBytes g h = absurd (h.1 g.1)
one_limit ms limits.ResolvedBytes limits.Models g h = absurd (g.0 h)
one_limit ms limits.ResolvedBytes limits.ModelBytes g h = absurd (g.1 h.1)
one_limit ms limits.ResolvedBytes limits.ResolvedBytes g h = refl
one_limit ms limits.TwinBytes k g h = absurd g
one_limit ms limits.RelationshipBytes k g h = absurd g
one_limit ms limits.Twins k g h = absurd g
one_limit ms limits.Relationships k g h = absurd g
one_limit ms limits.GraphBytes k g h = absurd g
one_limit ms l limits.TwinBytes g h = absurd h
one_limit ms l limits.RelationshipBytes g h = absurd h
one_limit ms l limits.Twins g h = absurd h
one_limit ms l limits.Relationships g h = absurd h
one_limit ms l limits.GraphBytes g h = absurd h

one_full : (s : State) (us : List Uploaded) → One (ModelsFull s us)
one_full s us r q (l, g, e) (k, h, d) = e ∙ ap refusals.Full (one_limit _ l k g h) ∙ sym d

least_one : (x y : List ℕ) → (IsTrue (is_lt (slice_cmp nat_cmp y x)) → ⊥) → (IsTrue (is_lt (slice_cmp nat_cmp x y)) → ⊥) → x ≡ y
least_one x y f g = by (slice_cmp nat_cmp x y) refl
  where
    by : (o : Ordering) → slice_cmp nat_cmp x y ≡ o → x ≡ y
    by Less e = absurd (g (ap is_lt e))
    by Equal e = exact_bytes x y e
    by Greater e = absurd (f (ap is_lt (nat_list_cmp_total.antisymm y x ∙ ap ordering_reverse e)))

one_unfit : (s : State) (us : List Uploaded) → One (TwinDoesNotFit s us)
one_unfit s us r q (t, wrong, least, e) (u, ill, first, d) = e ∙ ap refusals.TwinDoesNotFit (least_one t.id u.id (least u ill) (first t wrong)) ∙ sym d

pub one_put : (s : State) (us : List Uploaded) → AreSoundUploads us → One (RefusesPutModels s us)
one_put s us sound =
    both (ModelExists s us) (or_refuse (ModelFault s us) (or_refuse (ModelsFull s us) (TwinDoesNotFit s us))) (one_exists s us)
    (both (ModelFault s us) (or_refuse (ModelsFull s us) (TwinDoesNotFit s us)) (one_fault s us sound)
    (both (ModelsFull s us) (TwinDoesNotFit s us) (one_full s us) (one_unfit s us)))

-- ---- one model
pub one_unknown : (s : State) (id : Identifier) → One (ModelNotFound s id)
one_unknown s id = one_when (model_at id s.models ≡ None) (refusals.ModelNotFound (dtmi_text id))

one_user : (s : State) (id : Identifier) → One (ModelInUse s id)
one_user s id r q (by, used, e) (other, uses, d) = e ∙ ap (λ (k : Identifier). refusals.ModelInUse (dtmi_text k)) (same_Some by other (sym used ∙ uses)) ∙ sym d

pub one_drop_model : (s : State) (id : Identifier) → One (RefusesDropModel s id)
one_drop_model s id = both (ModelNotFound s id) (ModelInUse s id) (one_unknown s id) (one_user s id)

pub one_model : (s : State) (id : Identifier) (x y : Answer) → GivesModel s id x → GivesModel s id y → x ≡ y
one_model s id x y (m, is, e) (n, also, d) = e ∙ ap (λ (k : Model). body (model_value k)) (same_Some m n (sym is ∙ also)) ∙ sym d
