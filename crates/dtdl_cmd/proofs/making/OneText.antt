-- So many rooms have one text.
use Rattle.std.proofs.Common.{◌≡◌, ℕ, List, [], ◌∷◌, length, Some, None, sym, ap, subst, ◌∙◌}
use Rattle.http_ends.specs.declared.request.Request.{Request}
use Rattle.http_session.specs.Uniqueness.{AreFunctions}
use Rattle.query_terms.specs.Queries.{Asked}
use Rattle.query_grammar.specs.Spelled.{SpellsQuery}
use Rattle.graph_steps.specs.QueryAsks.{kept_rows}
use Rattle.graph_steps.specs.States.{State, empty}
use Rattle.graph_server.specs.Entries.{AreOneEntry, allows, enters, follows_entry, own_response}
use Rattle.dtdl_cmd.specs.making.Made.{Counts, HasCount, IsMade, IsMadeStep, RequestsLead, hot_text, lines, relationships_text, spaces_text, twins_text}
use Rattle.dtdl_cmd.specs.making.Requests.{requests}

module _ (one_answer : AreFunctions own_response enters allows follows_entry AreOneEntry) where
  one_step : (s t u : State) (r : Request) → IsMadeStep s r t → IsMadeStep s r u → t ≡ u
  one_step s t u r (None, a, is, h) (None, b, has, k) = h ∙ sym k
  one_step s t u r (None, a, is, h) (Some f, b, has, k) = absurd (one_answer.apart r f a b is has)
  one_step s t u r (Some e, a, is, h) (None, b, has, k) = absurd (one_answer.apart r e b a has is)
  one_step s t u r (Some e, a, is, h) (Some f, b, has, k) =
      let same = one_answer.one_entry s r e f a b is has h.0 k.0 in
      h.1 ∙ one_answer.one_state s e f same.0 ∙ sym k.1

  one_graph : (s t u : State) (rs : List Request) → RequestsLead s rs t → RequestsLead s rs u → t ≡ u
  one_graph s t u [] h k = h ∙ sym k
  one_graph s t u (r ∷ rs) (m, first, h) (n, other, k) =
      let same : m ≡ n = one_step s m n r first other in
      one_graph n t u rs (subst (λ (x : State). RequestsLead x rs t) same h) k

  module _ (one_query : (text : List ℕ) (one other : Asked) → SpellsQuery text one → SpellsQuery text other → one ≡ other) where
    one_count : (s : State) (text : List ℕ) (n m : ℕ) → HasCount s text n → HasCount s text m → n ≡ m
    one_count s text n m (q, is, h) (p, has, k) = h ∙ ap (λ (x : Asked). length (kept_rows s x)) (one_query text q p is has) ∙ sym k

    one_counts : (s : State) (text other : List ℕ) → Counts s text → Counts s other → text ≡ other
    one_counts s text other h k =
        h.is
        ∙ ap (λ n. lines n h.relationships h.spaces h.hot) (one_count s twins_text h.twins k.twins h.of_twins k.of_twins)
        ∙ ap (λ n. lines k.twins n h.spaces h.hot) (one_count s relationships_text h.relationships k.relationships h.of_relationships k.of_relationships)
        ∙ ap (λ n. lines k.twins k.relationships n h.hot) (one_count s spaces_text h.spaces k.spaces h.of_spaces k.of_spaces)
        ∙ ap (λ n. lines k.twins k.relationships k.spaces n) (one_count s hot_text h.hot k.hot h.of_hot k.of_hot)
        ∙ sym k.is

    pub one_text : (n : ℕ) (text other : List ℕ) → IsMade n text → IsMade n other → text ≡ other
    one_text n text other (s, leads, h) (t, also, k) =
        let same : s ≡ t = one_graph empty s t (requests n) leads also in
        one_counts t text other (subst (λ (x : State). Counts x text) same h) k
