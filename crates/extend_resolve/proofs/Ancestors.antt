-- Chains of extension, one behind another.
use Rattle.std.proofs.Common.{◌≡◌, List, [], ◌∷◌, ◌++◌, refl, sym, ◌∙◌, subst}
use Rattle.dtdl_terms.specs.declared.interface.Interface.{Interface}
use Rattle.extend_resolve.specs.Chains.{IsParent, IsChain, chain_end, IsAncestor}

module _ (set : List Interface) where
  chain-append : (i : Interface) (js ks : List Interface) → IsChain set i js → IsChain set (chain_end i js) ks → IsChain set i (js ++ ks)
  chain-append i [] ks c d = d
  chain-append i (j ∷ js) ks c d = (c.0, chain-append j js ks c.1 d)

  end-append : (i : Interface) (js ks : List Interface) → chain_end i (js ++ ks) ≡ chain_end (chain_end i js) ks
  end-append i [] ks = refl
  end-append i (j ∷ js) ks = end-append j js ks

  pub ancestor-trans : (i a b : Interface) → IsAncestor set i a → IsAncestor set a b → IsAncestor set i b
  ancestor-trans i a b (js, c, e) (ks, d, f) = (
    js ++ ks,
    chain-append i js ks c (subst (λ x. IsChain set x ks) (sym e) d),
    end-append i js ks ∙ subst (λ x. chain_end x ks ≡ b) (sym e) f,
  )

  -- a parent of an ancestor is an ancestor
  pub ancestor-parent : (i a b : Interface) → IsAncestor set i a → IsParent set a b → IsAncestor set i b
  ancestor-parent i a b up step = ancestor-trans i a b up (b ∷ [], (step, tt), refl)
