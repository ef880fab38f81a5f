-- What is asked of twins and relationships, in two states with other models.
use Rattle.std.proofs.Common.{◌≡◌, List, Option, Some, None, subst}
use Rattle.std.specs.Prelude.{IsTrue}
use Rattle.dt_base.specs.names.Grammar.{Identifier}
use Rattle.dtdl_terms.specs.TermViews.{kind_term}
use Rattle.dtdl_terms.specs.declared.interface.Interface.{Interface}
use Rattle.dtdl_terms.specs.declared.resolved.Resolved.{Resolved}
use Rattle.dtdl_terms.specs.declared.resolved.ResolvedContent.{ResolvedContent}
use Rattle.twin_value.specs.Breaches.{HasNoBreach, IsTwinBreach, IsLinkBreach, link_called, twin_role_of}
use Rattle.twin_value.specs.Roles.{body_member_role}
use Rattle.twin_value.specs.Twins.{is_value_role, is_part_role}
use Rattle.json_tree.specs.Members.{members_in}
use Rattle.model_life.specs.Models.{Model}
use Rattle.graph_steps.specs.Inherited.{contents, inherited, is_a}
use Rattle.graph_steps.specs.States.{State, Twin, Link, set_of, interface_of, twin_at, twin_value, link_value, with_models}
use Rattle.graph_steps.specs.Typed.{AllKeys, FitsModel, target_of, SuitsTarget, FitsSource}

-- ---- twins
pub fits_by : (set other : List Interface) (i : Interface) (t : Twin) → inherited set i ≡ inherited other i → FitsModel set i t → FitsModel other i t
fits_by set other i t same f = record {
  unbroken = subst (λ (r : Resolved). HasNoBreach (IsTwinBreach r (twin_value t))) same f.unbroken;
  values = subst (λ (r : Resolved). AllKeys (λ key. IsTrue (is_value_role (body_member_role (twin_role_of r) key))) (members_in t.values)) same f.values;
  parts = subst (λ (r : Resolved). AllKeys (λ key. IsTrue (is_part_role (body_member_role (twin_role_of r) key))) (members_in t.parts)) same f.parts;
}

-- ---- relationships
pub source_by : (s : State) (ms : List Model) (i : Interface) (l : Link) → contents (set_of s) i ≡ contents (set_of (with_models ms s)) i → inherited (set_of s) i ≡ inherited (set_of (with_models ms s)) i
    → ((o : Option Identifier) (t : Twin) → twin_at l.target s ≡ Some t → SuitsTarget s o t → SuitsTarget (with_models ms s) o t) → FitsSource s i l → FitsSource (with_models ms s) i l
source_by s ms i l same_contents same suits f = record {
  content = f.content;
  declared = subst (λ (cs : List ResolvedContent). link_called l.name cs ≡ Some f.content) same_contents f.declared;
  unbroken = subst (λ (r : Resolved). HasNoBreach (IsLinkBreach r (link_value l))) same f.unbroken;
  target = λ t at. suits (target_of (kind_term f.content.content.kind)) t at (f.target t at);
  few = f.few;
}

-- A target suits where its model, if it is there afterwards, was there before and has the same ancestors.
pub suits_by : (s : State) (ms : List Model) (t : Twin)
    → ((j : Interface) → interface_of (with_models ms s) t.model ≡ Some j → (interface_of s t.model ≡ Some j) × ((d : Identifier) → is_a (set_of s) j d ≡ is_a (set_of (with_models ms s)) j d))
    → (o : Option Identifier) → SuitsTarget s o t → SuitsTarget (with_models ms s) o t
suits_by s ms t was None h = tt
suits_by s ms t was (Some d) h = λ j live. let before = was j live in subst (λ b. IsTrue b) (before.1 d) (h j before.0)
