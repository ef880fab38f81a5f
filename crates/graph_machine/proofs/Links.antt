-- What the asks on relationships are answered, from what is known of them.
use Rattle.std.proofs.Common.{◌≡◌, ℕ, List, true, false, true≢false, Option, Some, None, refl, sym, ap, inl, inr}
use Rattle.std.specs.Option.{is_some}
use Rattle.std.proofs.lemmas.Option.{none-some}
use Rattle.graph_asks.specs.Answers.{Answer, body, done, refused}
use Rattle.graph_asks.specs.declared.ask.Ask.TheVariants as asks
use Rattle.graph_asks.specs.declared.refusal.Refusal.{Refusal}
use Rattle.graph_asks.specs.declared.refusal.Refusal.TheVariants as refusals
use Rattle.graph_steps.specs.LinkAsks.{link_at, LinkNotFound}
use Rattle.graph_steps.specs.ListAsks.{listed_out, listed_in}
use Rattle.graph_steps.specs.States.{State, Link, twin_at, link_value}
use Rattle.graph_steps.specs.Steps.{Answers}

pub is_there : {X : Type 0} (o : Option X) → is_some o ≡ true → o ≡ None → ⊥
is_there None h e = true≢false (sym h)
is_there (Some x) h e = none-some x (sym e)

pub not_there : {X : Type 0} (o : Option X) → is_some o ≡ false → o ≡ None
not_there None h = refl
not_there (Some x) h = absurd (true≢false h)

module _ (s : State) (source id : List ℕ) where
  -- both are there
  pub link_free : is_some (twin_at source s) ≡ true → is_some (link_at source id s) ≡ true → (r : Refusal) → LinkNotFound s source id r → ⊥
  link_free twin link r (inl h) = is_there (twin_at source s) twin h.0
  link_free twin link r (inr h) = is_there (link_at source id s) link h.1.0

  no_twin : is_some (twin_at source s) ≡ false → LinkNotFound s source id (refusals.TwinNotFound source)
  no_twin none = inl (not_there (twin_at source s) none, refl)

  no_link : is_some (twin_at source s) ≡ true → is_some (link_at source id s) ≡ false → LinkNotFound s source id (refusals.RelationshipNotFound id)
  no_link twin none = inr ((λ q h. is_there (twin_at source s) twin h.0), (not_there (link_at source id s) none, refl))

  -- ---- one relationship
  pub link_found : (l : Link) → is_some (twin_at source s) ≡ true → Some l ≡ link_at source id s → Answers s (asks.GetRel source id) (body (link_value l))
  link_found l twin is = inr (link_free twin (ap is_some (sym is)), (l, sym is, refl))

  pub link_missing : is_some (twin_at source s) ≡ true → None ≡ link_at source id s → Answers s (asks.GetRel source id) (refused (refusals.RelationshipNotFound id))
  link_missing twin none = inl (refusals.RelationshipNotFound id, no_link twin (ap is_some (sym none)), refl)

  pub source_missing : None ≡ twin_at source s → Answers s (asks.GetRel source id) (refused (refusals.TwinNotFound source))
  source_missing none = inl (refusals.TwinNotFound source, no_twin (ap is_some (sym none)), refl)

  -- ---- one that goes
  pub link_dropped : is_some (twin_at source s) ≡ true → is_some (link_at source id s) ≡ true → Answers s (asks.DropRel source id) done
  link_dropped twin link = inr (link_free twin link, refl)

  pub no_link_to_drop : is_some (twin_at source s) ≡ true → is_some (link_at source id s) ≡ false → Answers s (asks.DropRel source id) (refused (refusals.RelationshipNotFound id))
  no_link_to_drop twin none = inl (refusals.RelationshipNotFound id, no_link twin none, refl)

  pub no_twin_to_drop : is_some (twin_at source s) ≡ false → Answers s (asks.DropRel source id) (refused (refusals.TwinNotFound source))
  no_twin_to_drop none = inl (refusals.TwinNotFound source, no_twin none, refl)

  -- Where it is done, both are there.
  pub drop_told : Answers s (asks.DropRel source id) done → (r : Refusal) → LinkNotFound s source id r → ⊥
  drop_told (inl (r, h, e)) = absurd cc
  drop_told (inr (free, e)) = free

  pub had_twin : Answers s (asks.DropRel source id) done → is_some (twin_at source s) ≡ false → ⊥
  had_twin told none = drop_told told (refusals.TwinNotFound source) (no_twin none)

  pub had_link : Answers s (asks.DropRel source id) done → is_some (twin_at source s) ≡ true → is_some (link_at source id s) ≡ false → ⊥
  had_link told twin none = drop_told told (refusals.RelationshipNotFound id) (no_link twin none)

-- ---- those of a twin
pub out_listed : (s : State) (source : List ℕ) (name past : Option (List ℕ)) (answer : Answer) → is_some (twin_at source s) ≡ true → answer ≡ listed_out s source name past → Answers s (asks.ListOut source name past) answer
out_listed s source name past answer twin is = inr ((λ r h. is_there (twin_at source s) twin h.0), is)

pub out_missing : (s : State) (source : List ℕ) (name past : Option (List ℕ)) → is_some (twin_at source s) ≡ false → Answers s (asks.ListOut source name past) (refused (refusals.TwinNotFound source))
out_missing s source name past none = inl (refusals.TwinNotFound source, (not_there (twin_at source s) none, refl), refl)

pub into_listed : (s : State) (target : List ℕ) (past : Option (List ℕ × List ℕ)) (answer : Answer) → is_some (twin_at target s) ≡ true → answer ≡ listed_in s target past → Answers s (asks.ListIn target past) answer
into_listed s target past answer twin is = inr ((λ r h. is_there (twin_at target s) twin h.0), is)

pub into_missing : (s : State) (target : List ℕ) (past : Option (List ℕ × List ℕ)) → is_some (twin_at target s) ≡ false → Answers s (asks.ListIn target past) (refused (refusals.TwinNotFound target))
into_missing s target past none = inl (refusals.TwinNotFound target, (not_there (twin_at target s) none, refl), refl)
