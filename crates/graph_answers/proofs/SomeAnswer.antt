-- Each ask has an answer.
use Rattle.std.proofs.Common.{◌≡◌, ℕ, ◌⊎◌, inl, inr, List, cond, Option, Some, None, refl, ap, ◌∙◌}
use Rattle.std.specs.Ordering.{is_eq}
use Rattle.std.proofs.lemmas.Cmp.{tied_itself}
use Rattle.dt_base.specs.Existence.{IsThere}
use Rattle.dt_base.proofs.Existence.{from_there, holds_or_not, is_there}
use Rattle.dt_base.specs.names.Grammar.{Identifier, dtmi_text}
use Rattle.json_tree.specs.Values.{Json}
use Rattle.json_tree.specs.View.{view}
use Rattle.dtdl_terms.specs.declared.interface.Interface.{Interface}
use Rattle.model_life.specs.Models.{model_at}
use Rattle.query_terms.specs.Queries.{asked}
use Rattle.rel_graph.specs.Edges.{key}
use Rattle.rel_graph.proofs.Tallies.{keys_total}
use Rattle.graph_asks.specs.Answers.{Answer, body, done, refused}
use Rattle.graph_asks.specs.declared.ask.Ask.{Ask}
use Rattle.graph_asks.specs.declared.ask.Ask.TheVariants as asks
use Rattle.graph_asks.specs.declared.refusal.Refusal.{Refusal}
use Rattle.graph_asks.specs.declared.refusal.Refusal.TheVariants as refusals
use Rattle.graph_steps.specs.States.{State, Twin, Link, interface_of, twin_at, twin_value, part_value, link_value}
use Rattle.graph_steps.specs.Steps.{Refuses, Gives, Answers}
use Rattle.graph_steps.specs.ModelAsks.{ModelNotFound, GivesModel, model_value, created_models, listed_models, canonical_models}
use Rattle.graph_steps.specs.TwinAsks.{TwinNotFound, Frozen, ComponentNotFound, component_at, twin_for, with_body, RefusesBody, RefusesPutTwin, RefusesGetPart, GivesTwin, GivesPart, after_put_twin}
use Rattle.graph_steps.specs.LinkAsks.{link_at, RelationshipNotFound, link_for, with_link, RefusesPutRel, LinkNotFound, GivesLink, after_put_rel}
use Rattle.graph_steps.specs.ListAsks.{listed_out, listed_in}
use Rattle.graph_steps.specs.QueryAsks.{answer_page}
use Rattle.graph_steps.proofs.invariants.Edges.{edge-with}
use Rattle.graph_steps.proofs.invariants.Rels.{live_one, from_twin}
use Rattle.graph_steps.proofs.invariants.Twins.{twin_own}
use Rattle.graph_steps.proofs.invariants.Unrefused.{not_first, not_second, not_when, some_there}

-- Nothing refuses.
abbrev Free : (Refusal → Type 0) → Type 0
Free Refuse = (r : Refusal) → Refuse r → ⊥

abbrev Given : (Answer → Type 0) → Type 0
Given Give = (answer : Answer) × Give answer

-- ---- models and twins
model_given : (s : State) (id : Identifier) → Free (ModelNotFound s id) → Given (GivesModel s id)
model_given s id free =
    let m = some_there (model_at id s.models) (not_when (model_at id s.models ≡ None) (refusals.ModelNotFound (dtmi_text id)) free) in
    (body (model_value m.0), (m.0, m.1, refl))

found : (s : State) (id : List ℕ) → Free (TwinNotFound s id) → (t : Twin) × (twin_at id s ≡ Some t)
found s id free = some_there (twin_at id s) (not_when (twin_at id s ≡ None) (refusals.TwinNotFound id) free)

twin_given : (s : State) (id : List ℕ) → Free (TwinNotFound s id) → Given (GivesTwin s id)
twin_given s id free = let t = found s id free in (body (twin_value t.0), (t.0, t.1, refl))

came : (s : State) (id model : List ℕ) (v : Json) (o : Option Interface) → Free (RefusesBody s id model v o) → Given (GivesTwin (with_body s id o v) id)
came s id model v None free = absurd (free (refusals.ModelNotFound model) refl)
came s id model v (Some i) free = (body (twin_value (twin_for s id i v)), (twin_for s id i v, twin_own (twin_for s id i v) s, refl))

put_given : (s : State) (id : List ℕ) (model : Identifier) (v : Json) → Free (RefusesPutTwin s id model v) → Given (GivesTwin (after_put_twin s id model v) id)
put_given s id model v free = came s id (dtmi_text model) v (interface_of s model) (not_second (Frozen s id) _ free)

part_given : (s : State) (id name : List ℕ) → Free (RefusesGetPart s id name) → Given (GivesPart s id name)
part_given s id name free =
    let t = found s id (not_first (TwinNotFound s id) (ComponentNotFound s id name) free) in
    let v = some_there (component_at name t.0) (λ none. not_second (TwinNotFound s id) (ComponentNotFound s id name) free (refusals.ComponentNotFound name) (t.0, t.1, none, refl)) in
    (body (part_value v.0), (t.0, v.0, t.1, v.1, refl))

-- ---- relationships
link_given : (s : State) (source id : List ℕ) → Free (LinkNotFound s source id) → Given (GivesLink s source id)
link_given s source id free =
    let l = some_there (link_at source id s) (not_when (link_at source id s ≡ None) (refusals.RelationshipNotFound id) (not_second (TwinNotFound s source) (RelationshipNotFound s source id) free)) in
    (body (link_value l.0), (l.0, l.1, refl))

link_own : (s : State) (l : Link) → link_at l.source l.id (with_link l s) ≡ Some l
link_own s l = edge-with l s.links l.source l.id ∙ ap (λ b. cond b (Some l) (link_at l.source l.id s)) (ap is_eq (tied_itself keys_total (key l)))

put_link_given : (s : State) (source id name target : List ℕ) (v : Json) → Free (RefusesPutRel s source id name target v)
    → Given (GivesLink (after_put_rel s source id name target v) source id)
put_link_given s source id name target v free =
    let u = found s source (not_first (TwinNotFound s source) _ free) in
    let i = live_one s source u.0 u.1 (not_first (Frozen s source) _ (not_second (TwinNotFound s source) _ free)) in
    let l = link_for s i.0 source id name target v in
    let own : link_at source id (with_link l s) ≡ Some l = link_own s l in
    (body (link_value l), (l, rw (from_twin s source u.0 i.0 u.1 i.1) own, refl))

-- ---- all
given : (s : State) (ask : Ask) → Free (Refuses s ask) → Given (Gives s ask)
given s (asks.PutModels models) free = (created_models s models, refl)
given s (asks.GetModel id) free = model_given s id free
given s asks.ListModels free = (listed_models s, refl)
given s (asks.Mark id on) free = (done, refl)
given s (asks.DropModel id) free = (done, refl)
given s asks.Canon free = (canonical_models s, refl)
given s (asks.PutTwin id model tree) free = put_given s id model (view tree) free
given s (asks.GetTwin id) free = twin_given s id free
given s (asks.PatchTwin id patch) free = (done, refl)
given s (asks.DropTwin id) free = (done, refl)
given s (asks.GetPart id name) free = part_given s id name free
given s (asks.PatchPart id name patch) free = (done, refl)
given s (asks.PutRel source id name target tree) free = put_link_given s source id name target (view tree) free
given s (asks.GetRel source id) free = link_given s source id free
given s (asks.PatchRel source id patch) free = (done, refl)
given s (asks.DropRel source id) free = (done, refl)
given s (asks.ListOut source name after) free = (listed_out s source name after, refl)
given s (asks.ListIn target after) free = (listed_in s target after, refl)
given s (asks.Query query after) free = (answer_page s (asked query) after, refl)

abbrev IsRefused : State → Ask → Type 0
IsRefused s ask = (r : Refusal) × Refuses s ask r

pub some_answer : (s : State) (ask : Ask) → IsThere ((answer : Answer) × Answers s ask answer)
some_answer s ask = from_there (holds_or_not (IsRefused s ask)) decided
  where
    decided : IsRefused s ask ⊎ (IsRefused s ask → ⊥) → IsThere ((answer : Answer) × Answers s ask answer)
    decided (inl (r, h)) = is_there (refused r, inl (r, h, refl))
    decided (inr none) =
        let free = λ (r : Refusal) (h : Refuses s ask r). none (r, h) in
        let g = given s ask free in
        is_there (g.0, inr (free, g.1))
