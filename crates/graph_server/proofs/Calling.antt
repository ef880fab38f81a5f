-- What one call is to a pass, and what a session is to it.
use Rattle.std.proofs.Common.{◌≡◌, ℕ, List, [], ◌∷◌, ◌++◌, Option, refl, ap, sym, subst, ◌∙◌, append_assoc}
use Rattle.std.specs.Prelude.{map}
use Rattle.std.specs.Io.KnownBytes.{Appends}
use Rattle.http_session.specs.Sessions.{Session}
use Rattle.http_session.specs.declared.ends.SessionEnd.{SessionEnd}
use Rattle.one_history.specs.Histories.{IsHistory, GrowsByCall, own, entry as call}
use Rattle.one_history.specs.Passes.{seen, number, IsPassOf, IsSamePass}
use Rattle.one_history.specs.declared.shared.Pass.{Pass}
use Rattle.one_history.specs.declared.shared.Shared.{Shared}
use Rattle.one_history.proofs.Growth.{own_append, own_mine}
use Rattle.graph_asks.specs.Answers.{answer_of}
use Rattle.graph_asks.specs.declared.ask.Ask.{Ask}
use Rattle.graph_asks.specs.declared.reply.Reply.{Reply}
use Rattle.graph_server.specs.Entries.{Entry, entry, own_response, enters}
use Rattle.graph_server.specs.Links.{called, IsLinkSession}
use Rattle.graph_server.specs.Machinery.Calling.{GoesOn}

module _ {O S : Type 0} (state : O → S) (sound : Ask → Type 0) (allowed : S → Ask → Reply → Type 0) (follows : S → Ask → Reply → S) where
  pub call_goes : (first : O) (p q : Pass O Ask Reply) (ask : Ask) (reply : Reply) → IsSamePass p q → GrowsByCall (number p) ask reply (seen p) (seen q)
      → IsHistory sound allowed follows (state first) (seen q) → GoesOn state sound allowed follows first p (entry ask (answer_of reply) ∷ []) q
  call_goes first p q ask reply same grows legal =
      let one = call ask reply (number p) ∷ [] in record {
        same = same;
        gained = grows.0 ++ one;
        grows = grows.1 ∙ append_assoc (seen p) grows.0 one;
        entries = ap (map called) (own_append (number p) grows.0 one ∙ ap (λ xs. xs ++ own (number p) one) grows.2 ∙ own_mine (number p) (call ask reply (number p)) [] refl);
        legal = λ _. legal;
      }

  -- What is known of the pass at the end of a session, where it is handed back as it was left.
  module _ (s t : Shared O Ask Reply) (first : O) (p q r : Pass O Ask Reply) (es : List Entry) (back : r ≡ q) (went : GoesOn state sound allowed follows first p es q) where
    pub own_after : t ≡ s → IsPassOf t q → IsPassOf s r × IsSamePass p r
    own_after same own = subst (λ z. IsPassOf s z × IsSamePass p z) (sym back) (subst (λ z. IsPassOf z q) same own, went.same)

    pub session_after : (rose : Type 0) (end : SessionEnd) (stream left taken now : Option (List ℕ)) (out : List ℕ) → Session own_response enters rose end stream left es out → Appends taken now out
        → IsLinkSession rose end (number p) (seen p) (seen r) stream left taken now
    session_after rose end stream left taken now out session written = record {
      gained = went.gained;
      out = out;
      grows = ap seen back ∙ went.grows;
      session = subst (λ xs. Session own_response enters rose end stream left xs out) (sym went.entries) session;
      written = written;
    }

    pub history_after : IsHistory sound allowed follows (state first) (seen p) → IsHistory sound allowed follows (state first) (seen r)
    history_after legal = subst (λ z. IsHistory sound allowed follows (state first) (seen z)) (sym back) (went.legal legal)
