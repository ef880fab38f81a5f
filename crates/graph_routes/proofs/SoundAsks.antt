-- The ask that a request makes is sound, and a refusal that its bytes decide lists the methods of a path.
use Rattle.std.proofs.Common.{◌≡◌, ◌≤◌, ℕ, List, length, true, refl, sym, subst, inl, inr}
use Rattle.dt_base.specs.names.Grammar.{Identifier, OwnDtmiText, dtmi_text}
use Rattle.json_tree.specs.Values.{Json}
use Rattle.json_tree.specs.Grammar.{Spells}
use Rattle.http_ends.specs.declared.request.Request.{Request}
use Rattle.percent_encoding.specs.Percent.{percent_decode}
use Rattle.graph_asks.specs.declared.ask.Ask as ask_type
use Rattle.graph_asks.specs.declared.ask.Ask.TheVariants as asks
use Rattle.graph_asks.specs.declared.refusal.Refusal.{Refusal}
use Rattle.graph_asks.specs.declared.refusal.Refusal.TheVariants as refusals
use Rattle.graph_steps.specs.Soundness.{IsModelOf, IsSoundAsk}
use Rattle.graph_routes.specs.Methods.{allow_text, methods}
use Rattle.graph_routes.specs.Parts.{NamesModel, part_at}
use Rattle.graph_routes.specs.Bodies.{most_models}
use Rattle.graph_routes.specs.ModelRequests.{AsksCanon, AsksModel, AsksModels, Marks, PutsModels}
use Rattle.graph_routes.specs.Outcomes.{WithBody}
use Rattle.graph_routes.specs.Prepared.{Asks, IsPrepared, LacksMethod}
use Rattle.graph_routes.specs.Responses.{ListsMethods}
use Rattle.graph_routes.specs.declared.method.Method.{Method}
use Rattle.graph_routes.specs.declared.method.Method.TheVariants as method
use Rattle.graph_routes.specs.declared.prepared.Prepared.{Prepared}
use Rattle.graph_routes.specs.declared.prepared.Prepared.TheVariants.{Ask, Own}
use Rattle.graph_routes.specs.declared.route.Route.{Route}
use Rattle.graph_routes.specs.declared.route.Route.TheVariants as route
use Rattle.graph_routes.proofs.Listed.{has, listed_method}
use Rattle.graph_routes.proofs.SoundModels.{sound_models}
use Rattle.graph_routes.proofs.SoundOutcome.{IsDecided, IsRight, right_body, right_by, right_named}
use Rattle.graph_routes.proofs.SoundQueries.{right_query}
use Rattle.graph_routes.proofs.SoundTwins.{right_incoming, right_link, right_links, right_part, right_twin}

listed : (r : Route) → ListsMethods (refusals.BadMethod (allow_text r))
listed route.Models = (refl, refl)
listed route.Model = (refl, refl)
listed route.Canon = (refl, refl)
listed route.Twin = (refl, refl)
listed route.Component = (refl, refl)
listed route.Relationships = (refl, refl)
listed route.Relationship = (refl, refl)
listed route.IncomingRelationships = (refl, refl)
listed route.Query = (refl, refl)

marked : (id : Identifier) → IsModelOf id → (v : Json) (p : Prepared) → Marks id v p → IsRight p
marked id is v p (inl (r, (index, code, h, x), e)) = right_by p (Own r) e (subst IsDecided (sym x) tt)
marked id is v p (inr (on, h, e)) = right_by p (Ask (asks.Mark id on)) e is

model_of : (part : List ℕ) (id : Identifier) → NamesModel part id → IsModelOf id
model_of part id h =
    let spelled : percent_decode part ≡ dtmi_text id = h.text.text.form.spelled in
    (subst (λ (t : List ℕ). OwnDtmiText t id) spelled h.text, subst (λ (t : List ℕ). length t ≤ 128) spelled h.short)

put : (body : List ℕ) (v : Json) (p : Prepared) → Spells body v → PutsModels v p → IsRight p
put body v p spelled (inl (many, e)) = right_by p (Own (refusals.TooManyModels most_models)) e tt
put body v p spelled (inr (inl (few, (r, (place, broken, pointer, first, is, x), e)))) = right_by p (Own r) e (subst IsDecided (sym x) tt)
put body v p spelled (inr (inr (few, (models, h, e)))) = right_by p (Ask (asks.PutModels models)) e (sound_models body v models spelled h)

right_models : (m : Method) (body : List ℕ) (p : Prepared) → AsksModels m body p → has (methods route.Models) m ≡ true → IsRight p
right_models method.Get body p e there = right_by p (Ask asks.ListModels) e tt
right_models method.Post body p h there = right_body body PutsModels p (λ v spelled. put body v p spelled) h
right_models method.Delete body p e there = absurd cc
right_models method.Patch body p e there = absurd cc
right_models method.Put body p e there = absurd cc

right_model : (m : Method) (part body : List ℕ) (p : Prepared) → AsksModel m part body p → has (methods route.Model) m ≡ true → IsRight p
right_model method.Get part body p h there =
    right_named (NamesModel part) (refusals.BadId 0) (λ id given. given ≡ Ask (asks.GetModel id)) p tt (λ id is e. right_by p (Ask (asks.GetModel id)) e (model_of part id is)) h
right_model method.Delete part body p h there =
    right_named (NamesModel part) (refusals.BadId 0) (λ id given. given ≡ Ask (asks.DropModel id)) p tt (λ id is e. right_by p (Ask (asks.DropModel id)) e (model_of part id is)) h
right_model method.Patch part body p h there =
    right_named (NamesModel part) (refusals.BadId 0) (λ id. WithBody body (Marks id)) p tt
    (λ id is. right_body body (Marks id) p (λ v spelled. marked id (model_of part id is) v p)) h
right_model method.Post part body p e there = absurd cc
right_model method.Put part body p e there = absurd cc

right_canon : (m : Method) (p : Prepared) → AsksCanon m p → has (methods route.Canon) m ≡ true → IsRight p
right_canon method.Get p e there = right_by p (Ask asks.Canon) e tt
right_canon method.Delete p e there = absurd cc
right_canon method.Patch p e there = absurd cc
right_canon method.Post p e there = absurd cc
right_canon method.Put p e there = absurd cc

asked : (r : Route) (m : Method) (parts : List (List ℕ)) (request : Request) (p : Prepared) → Asks r m parts request p → has (methods r) m ≡ true → IsRight p
asked route.Models m parts request p h there = right_models m request.body p h there
asked route.Model m parts request p h there = right_model m (part_at 0 parts) request.body p h there
asked route.Canon m parts request p h there = right_canon m p h there
asked route.Twin m parts request p h there = right_twin m (part_at 0 parts) request.body p h there
asked route.Component m parts request p h there = right_part m (part_at 0 parts) (part_at 1 parts) request.body p h there
asked route.Relationships m parts request p h there = right_links m (part_at 0 parts) request.query p h there
asked route.Relationship m parts request p h there = right_link m (part_at 0 parts) (part_at 1 parts) request.body p h there
asked route.IncomingRelationships m parts request p h there = right_incoming m (part_at 0 parts) request.query p h there
asked route.Query m parts request p h there = right_query m request.body p h there

-- What is made of a request can be used.
abbrev IsUsable : Prepared → Type 0
IsUsable (Ask ask) = IsSoundAsk ask
IsUsable (Own refusal) = ListsMethods refusal

lists : (r : Refusal) → IsDecided r → ListsMethods r
lists (refusals.BadMethod allow) h = absurd h
lists other h = tt

usable : (p : Prepared) → IsRight p → IsUsable p
usable (Ask ask) h = h
usable (Own refusal) h = lists refusal h

all_usable : (request : Request) (p : Prepared) → IsPrepared request p → IsUsable p
unfolding IsPrepared
all_usable request p (inl (none, e)) = subst IsUsable (sym e) tt
all_usable request p (inr (r, parts, m, inl (none, e))) = subst IsUsable (sym e) (listed r)
all_usable request p (inr (r, parts, m, inr (n, is, h))) = usable p (asked r n parts request p h (listed_method (methods r) n is.1))

pub sound_ask : (request : Request) (ask : ask_type.Ask) → IsPrepared request (Ask ask) → IsSoundAsk ask
sound_ask request ask h = all_usable request (Ask ask) h

pub lists_methods : (request : Request) (refusal : Refusal) → IsPrepared request (Own refusal) → ListsMethods refusal
lists_methods request refusal h = all_usable request (Own refusal) h

-- a method is refused of a path that does not have it
pub lacks_method : (request : Request) (allow : List ℕ) → IsPrepared request (Own (refusals.BadMethod allow)) → LacksMethod request
unfolding IsPrepared
lacks_method request allow (inl (none, e)) = absurd (subst IsRight (sym e) tt)
lacks_method request allow (inr (r, parts, m, inl (none, e))) = (r, parts, m, none)
lacks_method request allow (inr (r, parts, m, inr (n, is, h))) = absurd (asked r n parts request (Own (refusals.BadMethod allow)) h (listed_method (methods r) n is.1))
