-- What a pass goes through while the requests of a link are answered.
use Rattle.std.specs.Prelude.{◌≡◌, List, [], ◌++◌, map, refl}
use Rattle.std.proofs.Common.{append-nil, append_assoc, ap, sym, ◌∙◌, subst}
use Rattle.std.proofs.lemmas.List.{map-append}
use Rattle.one_history.specs.Histories.{IsHistory, own}
use Rattle.one_history.specs.Passes.{seen, number, opening, IsSamePass}
use Rattle.one_history.specs.declared.history.Entry.{Entry as Called}
use Rattle.one_history.specs.declared.shared.Pass.{Pass}
use Rattle.one_history.proofs.Growth.{own_append}
use Rattle.graph_asks.specs.declared.ask.Ask.{Ask}
use Rattle.graph_asks.specs.declared.reply.Reply.{Reply}
use Rattle.graph_server.specs.Entries.{Entry}
use Rattle.graph_server.specs.Links.{called}
use Rattle.graph_server.specs.declared.desk.Desk.{Desk}

-- The pass has seen more of the history, and these are its own calls in it.
pub record GoesOn {O S : Type 0} (state : O → S) (sound : Ask → Type 0) (allowed : S → Ask → Reply → Type 0) (follows : S → Ask → Reply → S)
    (first : O) (before : Pass O Ask Reply) (es : List Entry) (after : Pass O Ask Reply) : Type 0 where
  pub same : IsSamePass before after
  pub gained : List (Called Ask Reply)
  pub grows : seen after ≡ seen before ++ gained
  pub entries : map called (own (number before) gained) ≡ es
  pub legal : IsHistory sound allowed follows (state first) (seen before) → IsHistory sound allowed follows (state first) (seen after)

-- The desk keeps its graph and its pass, and the pass goes on.
pub record DeskGoesOn {R O G S : Type 0} (state : O → S) (sound : Ask → Type 0) (allowed : S → Ask → Reply → Type 0) (follows : S → Ask → Reply → S)
    (s : Desk R O G Ask Reply) (es : List Entry) (t : Desk R O G Ask Reply) : Type 0 where
  pub shared : t.shared.now ≡ s.shared.now
  pub place : t.pass.ghost_name ≡ s.pass.ghost_name
  pub pass : GoesOn state sound allowed follows (opening s.shared.now) s.pass.now es t.pass.now

-- The laws of the service rest on what follows.
module _ {O S : Type 0} (state : O → S) (sound : Ask → Type 0) (allowed : S → Ask → Reply → Type 0) (follows : S → Ask → Reply → S) where
  pass_stays : (first : O) (p : Pass O Ask Reply) → GoesOn state sound allowed follows first p [] p
  pass_stays first p = record { same = (refl, refl); gained = []; grows = sym (append-nil (seen p)); entries = refl; legal = λ h. h }

  pass_trans : (first : O) (p q r : Pass O Ask Reply) (es fs : List Entry) → GoesOn state sound allowed follows first p es q
      → GoesOn state sound allowed follows first q fs r → GoesOn state sound allowed follows first p (es ++ fs) r
  pass_trans first p q r es fs a b =
      let here : own (number q) b.gained ≡ own (number p) b.gained = ap (λ n. own n b.gained) a.same.0 in record {
        same = (b.same.0 ∙ a.same.0, b.same.1 ∙ a.same.1);
        gained = a.gained ++ b.gained;
        grows = b.grows ∙ ap (λ xs. xs ++ b.gained) a.grows ∙ append_assoc (seen p) a.gained b.gained;
        entries = ap (map called) (own_append (number p) a.gained b.gained) ∙ map-append called (own (number p) a.gained) (own (number p) b.gained)
            ∙ ap (λ xs. xs ++ map called (own (number p) b.gained)) a.entries ∙ ap (λ xs. es ++ xs) (ap (map called) (sym here) ∙ b.entries);
        legal = λ h. b.legal (a.legal h);
      }

module _ {R O G S : Type 0} (state : O → S) (sound : Ask → Type 0) (allowed : S → Ask → Reply → Type 0) (follows : S → Ask → Reply → S) where
  pub desk_stays : (s : Desk R O G Ask Reply) → DeskGoesOn state sound allowed follows s [] s
  desk_stays s = record { shared = refl; place = refl; pass = pass_stays state sound allowed follows (opening s.shared.now) s.pass.now }

  pub desk_trans : (s t u : Desk R O G Ask Reply) (es fs : List Entry) → DeskGoesOn state sound allowed follows s es t
      → DeskGoesOn state sound allowed follows t fs u → DeskGoesOn state sound allowed follows s (es ++ fs) u
  desk_trans s t u es fs a b = record {
    shared = b.shared ∙ a.shared;
    place = b.place ∙ a.place;
    pass = pass_trans state sound allowed follows (opening s.shared.now) s.pass.now t.pass.now u.pass.now es fs a.pass
        (subst (λ first. GoesOn state sound allowed follows first t.pass.now fs u.pass.now) (ap opening a.shared) b.pass);
  }
