-- Requests that lead from one graph to another.
use Rattle.std.proofs.Common.{◌≡◌, ℕ, suc, ◌<◌, Bool, true, if◌then◌else◌, nat_lt, List, [], ◌∷◌, ◌++◌, Some, None, refl, sym, subst, arith}
use Rattle.std.proofs.lemmas.Bool.Decides.{nat_tests}
use Rattle.http_ends.specs.declared.request.Request.{Request}
use Rattle.graph_asks.specs.Answers.{answer_of}
use Rattle.graph_asks.specs.declared.ask.Ask.{Ask}
use Rattle.graph_asks.specs.declared.refusal.Refusal.{Refusal}
use Rattle.graph_asks.specs.declared.reply.Reply.{Reply}
use Rattle.graph_steps.specs.Soundness.{IsSoundAsk}
use Rattle.graph_steps.specs.States.{State}
use Rattle.graph_steps.specs.Steps.{Allows, follows}
use Rattle.graph_routes.specs.Prepared.{IsPrepared}
use Rattle.graph_routes.specs.Responses.{response_for, response_to}
use Rattle.graph_routes.specs.declared.prepared.Prepared.TheVariants as prepared
use Rattle.graph_server.specs.Entries.{entry}
use Rattle.dtdl_cmd.specs.making.Made.{IsMadeStep, RequestsLead}
use Rattle.dtdl_cmd.specs.making.Requests.{link_requests, next_requests, put_contains, put_has, put_room, put_sensor, twin_requests}

is_less : (k n : ℕ) → k < n → nat_lt k n ≡ true
is_less k n h = grind (arith, nat_tests)

-- ---- one request
pub refused : (s t : State) (request : Request) (refusal : Refusal) → IsPrepared request (prepared.Own refusal) → t ≡ s → IsMadeStep s request t
refused s t request refusal is same = (None, response_to refusal, (refusal, is, refl), same)

pub asked : (s t : State) (request : Request) (ask : Ask) (reply : Reply) → IsPrepared request (prepared.Ask ask) → IsSoundAsk ask → Allows s ask reply → t ≡ follows s ask reply
    → IsMadeStep s request t
asked s t request ask reply is sound allowed leads =
    (Some (entry ask (answer_of reply)), response_for reply, (is, (reply, refl, refl)), ((sound, allowed), leads))

pub one : (s t : State) (r : Request) → IsMadeStep s r t → RequestsLead s (r ∷ []) t
one s t r step = (t, step, refl)

pub one_of : (s t : State) (r q : Request) → r ≡ q → IsMadeStep s r t → IsMadeStep s q t
one_of s t r q e h = subst (λ (x : Request). IsMadeStep s x t) e h

pub next : (s t : State) (n k : ℕ) → k < n → RequestsLead s (put_contains k ∷ []) t → RequestsLead s (next_requests n k) t
next s t n k less h = subst (λ (b : Bool). RequestsLead s (if b then put_contains k ∷ [] else []) t) (sym (is_less k n less)) h

-- ---- one after another
pub leads_on : (s m t : State) (rs qs : List Request) → RequestsLead s rs m → RequestsLead m qs t → RequestsLead s (rs ++ qs) t
leads_on s m t [] qs h k = subst (λ (x : State). RequestsLead x qs t) h k
leads_on s m t (r ∷ rs) qs (n, step, h) k = (n, step, leads_on n m t rs qs h k)

-- ---- one room more
pub more_twins : (s m t : State) (k n : ℕ) → n ≡ suc k → RequestsLead s (twin_requests k) m → RequestsLead m (put_room n ∷ put_sensor n ∷ []) t → RequestsLead s (twin_requests n) t
more_twins s m t k n e h next =
    subst (λ (j : ℕ). RequestsLead s (twin_requests j) t) (sym e)
    (leads_on s m t (twin_requests k) (put_room (suc k) ∷ put_sensor (suc k) ∷ []) h
    (subst (λ (j : ℕ). RequestsLead m (put_room j ∷ put_sensor j ∷ []) t) e next))

pub more_links : (s m t : State) (rooms k n : ℕ) → n ≡ suc k → RequestsLead s (link_requests rooms k) m → RequestsLead m (put_has n ∷ next_requests rooms n) t → RequestsLead s (link_requests rooms n) t
more_links s m t rooms k n e h next =
    subst (λ (j : ℕ). RequestsLead s (link_requests rooms j) t) (sym e)
    (leads_on s m t (link_requests rooms k) (put_has (suc k) ∷ next_requests rooms (suc k)) h
    (subst (λ (j : ℕ). RequestsLead m (put_has j ∷ next_requests rooms j) t) e next))
