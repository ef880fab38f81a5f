-- Targets that are what a content declares, or are not.
use Rattle.std.proofs.Common.{◌≡◌, ℕ, List, true, false, true≢false, Some, None, refl, sym, ap, ◌∙◌}
use Rattle.std.proofs.lemmas.Option.{same_Some, none-some}
use Rattle.dt_base.specs.names.Grammar.{Identifier, dtmi_text}
use Rattle.dtdl_terms.specs.TermViews.{kind_term}
use Rattle.dtdl_terms.specs.declared.interface.Interface.{Interface}
use Rattle.dtdl_terms.specs.declared.resolved.ResolvedContent.{ResolvedContent}
use Rattle.model_life.proofs.resolution.Families.{stands}
use Rattle.graph_asks.specs.declared.refusal.Refusal.TheVariants as refusals
use Rattle.graph_steps.specs.LinkAsks.{WrongTarget, misses}
use Rattle.graph_steps.specs.States.{State, Twin, set_of, interface_of, twin_at}
use Rattle.graph_steps.specs.Typed.{target_of}
use Rattle.graph_steps.specs.held.Judged.{Unrefused}

-- an interface that stands for an identifier stands for its own
pub own_there : (s : State) (id : Identifier) (i : Interface) → interface_of s id ≡ Some i → interface_of s i.id ≡ Some i
own_there s id i found = stands (set_of s) id i found

module _ (s : State) (c : ResolvedContent) (target : List ℕ) (t : Twin) (found : twin_at target s ≡ Some t) where
  pub no_target : target_of (kind_term c.content.kind) ≡ None → Unrefused (WrongTarget s (Some c) target)
  no_target none r h = none-some h.0 (sym none ∙ h.2)

  module _ (d : Identifier) (declared : target_of (kind_term c.content.kind) ≡ Some d) where
    pub missed : misses s d t (interface_of s t.model) ≡ true → WrongTarget s (Some c) target (refusals.WrongTarget (dtmi_text t.model))
    missed h = (d, t, declared, found, h, refl)

    pub suits : misses s d t (interface_of s t.model) ≡ false → Unrefused (WrongTarget s (Some c) target)
    suits h r wrong =
        let one : wrong.0 ≡ d = same_Some wrong.0 d (sym wrong.2 ∙ declared) in
        let it : wrong.1 ≡ t = same_Some wrong.1 t (sym wrong.3 ∙ found) in
        true≢false (sym wrong.4 ∙ ap (λ (x : Identifier). misses s x wrong.1 (interface_of s wrong.1.model)) one ∙ ap (λ (x : Twin). misses s d x (interface_of s x.model)) it ∙ h)
