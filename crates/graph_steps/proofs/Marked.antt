-- A state in which a model was marked is well typed.
use Rattle.std.proofs.Common.{◌≡◌, ℕ, suc, ◌+◌, ◌≤◌, List, [], ◌∷◌, length, Bool, cond, true, false, Option, Some, None, refl, sym, ap, ◌∙◌, subst}
use Rattle.std.specs.Prelude.{IsTrue}
use Rattle.std.specs.List.{AllByRecursion, sum_by}
use Rattle.std.proofs.lemmas.List.Sums.{sum_by-cons}
use Rattle.dt_base.specs.names.Grammar.{Identifier, id_eq}
use Rattle.dtdl_terms.specs.declared.interface.Interface.{Interface}
use Rattle.dtdl_terms.specs.TermViews.{kind_term}
use Rattle.dtdl_terms.specs.Sets.{interface_at, InOrder}
use Rattle.extend_resolve.specs.Breaches.{BreaksNoRule}
use Rattle.twin_value.specs.Breaches.{HasNoBreach, IsLinkBreach, link_called}
use Rattle.model_life.specs.Models.{Model, model_of, interfaces_of, mark_one, with_mark}
use Rattle.model_life.specs.Sums.{text_bytes, model_bytes, AllTake, AreWithinLimits}
use Rattle.graph_steps.specs.Inherited.{contents, inherited, is_a}
use Rattle.graph_steps.specs.States.{State, Twin, Link, link_value, with_models}
use Rattle.local_rules.specs.Soundness.{IsSoundInterface}
use Rattle.graph_steps.specs.Typed.{AreSound, FitsModel, SuitsTarget, target_of, FitsSource, LinkIsTyped, WellTyped}

-- ---- the interfaces stay
same_one : (id : Identifier) (on : Bool) (m : Model) → (mark_one id on m).interface ≡ m.interface
same_one id on m = elim (id_eq id m.interface.id) as (λ b. (cond b (model_of m.interface on) m).interface ≡ m.interface) [ true ↦ refl | false ↦ refl ]

same_interfaces : (id : Identifier) (on : Bool) (ms : List Model) → interfaces_of (with_mark id on ms) ≡ interfaces_of ms
same_interfaces id on [] = refl
same_interfaces id on (m ∷ ms) = ap (λ i. i ∷ interfaces_of (with_mark id on ms)) (same_one id on m) ∙ ap (λ is. m.interface ∷ is) (same_interfaces id on ms)

by_interfaces : (ms : List Model) → length ms ≡ length (interfaces_of ms)
by_interfaces [] = refl
by_interfaces (m ∷ ms) = ap suc (by_interfaces ms)

bytes_by_interfaces : (ms : List Model) → model_bytes ms ≡ sum_by text_bytes (interfaces_of ms)
bytes_by_interfaces [] = refl
bytes_by_interfaces (m ∷ ms) =
    sum_by-cons (λ (n : Model). text_bytes n.interface) m ms
    ∙ ap (λ n. text_bytes m.interface + n) (bytes_by_interfaces ms)
    ∙ sym (sum_by-cons text_bytes m.interface (interfaces_of ms))

module _ (old new : List Model) (same : interfaces_of old ≡ interfaces_of new) where
  still_within : AreWithinLimits old → AreWithinLimits new
  still_within within = record {
    models = subst (λ n. n ≤ 10000) (by_interfaces old ∙ ap length same ∙ sym (by_interfaces new)) within.models;
    bytes = subst (λ n. n ≤ 67108864) (bytes_by_interfaces old ∙ ap (sum_by text_bytes) same ∙ sym (bytes_by_interfaces new)) within.bytes;
    resolved = subst (λ is. (n : ℕ) × AllTake is n × (n ≤ 268435456)) same within.resolved;
  }

  still_sound : AreSound old → AreSound new
  still_sound sound = record {
    rules = subst BreaksNoRule same sound.rules;
    each = subst (AllByRecursion IsSoundInterface) same sound.each;
    ordered = subst InOrder same sound.ordered;
  }

-- ---- twins and relationships
all_weaker : {X : Type 0} (P Q : X → Type 0) → ((x : X) → P x → Q x) → (xs : List X) → AllByRecursion P xs → AllByRecursion Q xs
all_weaker P Q f [] all = tt
all_weaker P Q f (x ∷ xs) all = (f x all.0, all_weaker P Q f xs all.1)

module _ (s : State) (new : List Model) (same : interfaces_of s.models ≡ interfaces_of new) where
  suits : (o : Option Identifier) (x : Twin) → SuitsTarget s o x → SuitsTarget (with_models new s) o x
  suits None x h = tt
  suits (Some id) x h = subst (λ set. (i : Interface) → interface_at x.model set ≡ Some i → IsTrue (is_a set i id)) same h

  source : (i : Interface) (l : Link) → FitsSource s i l → FitsSource (with_models new s) i l
  source i l h = record {
    content = h.content;
    declared = subst (λ set. link_called l.name (contents set i) ≡ Some h.content) same h.declared;
    unbroken = subst (λ set. HasNoBreach (IsLinkBreach (inherited set i) (link_value l))) same h.unbroken;
    target = λ x found. suits (target_of (kind_term h.content.content.kind)) x (h.target x found);
    few = h.few;
  }

  link : (l : Link) → LinkIsTyped s l → LinkIsTyped (with_models new s) l
  link l h = λ x i found at. source i l (h x i found (subst (λ set. interface_at x.model set ≡ Some i) (sym same) at))

  pub still_typed : WellTyped s → WellTyped (with_models new s)
  still_typed w = record {
    models = still_sound s.models new same w.models;
    twins = w.twins;
    links = w.links;
    ends = w.ends;
    fit = subst (λ set. AllByRecursion (λ (x : Twin). (i : Interface) → interface_at x.model set ≡ Some i → FitsModel set i x) s.twins) same w.fit;
    links_fit = all_weaker (LinkIsTyped s) (LinkIsTyped (with_models new s)) link s.links w.links_fit;
    limits = record {
      models = still_within s.models new same w.limits.models;
      twin_bytes = w.limits.twin_bytes;
      link_bytes = w.limits.link_bytes;
      twins = w.limits.twins;
      links = w.limits.links;
      graph_bytes = w.limits.graph_bytes;
    };
  }
