-- Asks that are one take one step.
use Rattle.std.proofs.Common.{◌≡◌, ℕ, List, Option, refl, subst}
use Rattle.dt_base.specs.names.Grammar.{Identifier}
use Rattle.json_tree.specs.Values.{Json}
use Rattle.json_tree.specs.View.{view}
use Rattle.query_terms.specs.Queries.{Asked, asked}
use Rattle.twin_patch.specs.Operations.{Operation, operations_of}
use Rattle.graph_asks.specs.Answers.{Answer, done}
use Rattle.graph_asks.specs.Asks.{AreOneAsk}
use Rattle.graph_asks.specs.declared.ask.Ask.{Ask}
use Rattle.graph_asks.specs.declared.ask.Ask.TheVariants as asks
use Rattle.graph_asks.specs.declared.refusal.Refusal.{Refusal}
use Rattle.graph_steps.specs.Refusals.{never}
use Rattle.graph_steps.specs.States.{State}
use Rattle.graph_steps.specs.Steps.{Refuses, Gives, changed}
use Rattle.graph_steps.specs.TwinAsks.{RefusesPutTwin, RefusesPatchTwin, RefusesPatchPart, GivesTwin, after_put_twin, after_patch_twin, after_patch_part}
use Rattle.graph_steps.specs.LinkAsks.{RefusesPutRel, RefusesPatchRel, GivesLink, after_put_rel, after_patch_rel}
use Rattle.graph_steps.specs.QueryAsks.{answer_page}

-- Of two asks what refuses the one refuses the other, what the second gives the first gives, and both lead to one state.
pub record Alike (refuses others : Refusal → Type 0) (gives answers : Answer → Type 0) (state next : State) : Type 0 where
  pub there : (r : Refusal) → refuses r → others r
  pub back : (r : Refusal) → others r → refuses r
  pub given : (a : Answer) → answers a → gives a
  pub one : state ≡ next

abbrev pub SameStep : State → Ask → Ask → Type 0
SameStep s ask other = Alike (Refuses s ask) (Refuses s other) (Gives s ask) (Gives s other) (changed s ask) (changed s other)

itself : (refuses : Refusal → Type 0) (gives : Answer → Type 0) (state : State) → Alike refuses refuses gives gives state state
itself refuses gives state = record { there = λ r h. h; back = λ r h. h; given = λ a h. h; one = refl }

equal : (s : State) (ask other : Ask) → ask ≡ other → SameStep s ask other
equal s ask other e = subst (λ (z : Ask). SameStep s ask z) e (itself (Refuses s ask) (Gives s ask) (changed s ask))

abbrev IsDone : Answer → Type 0
IsDone a = a ≡ done

-- ---- twins
abbrev PutTwins : State → List ℕ → List ℕ → Identifier → Identifier → Json → Json → Type 0
PutTwins s id other model another v w =
    Alike (RefusesPutTwin s id model v) (RefusesPutTwin s other another w) (GivesTwin (after_put_twin s id model v) id) (GivesTwin (after_put_twin s other another w) other)
    (after_put_twin s id model v) (after_put_twin s other another w)

put_twins : (s : State) (id other : List ℕ) (model another : Identifier) (v w : Json) → id ≡ other → model ≡ another → v ≡ w → PutTwins s id other model another v w
put_twins s id other model another v w e d f =
    subst (λ (z : Json). PutTwins s id other model another v z) f
    (subst (λ (m : Identifier). PutTwins s id other model m v v) d
    (subst (λ (i : List ℕ). PutTwins s id i model model v v) e
    (itself (RefusesPutTwin s id model v) (GivesTwin (after_put_twin s id model v) id) (after_put_twin s id model v))))

abbrev PatchTwins : State → List ℕ → List ℕ → List Operation → List Operation → Type 0
PatchTwins s id other os ps = Alike (RefusesPatchTwin s id os) (RefusesPatchTwin s other ps) IsDone IsDone (after_patch_twin s id os) (after_patch_twin s other ps)

patch_twins : (s : State) (id other : List ℕ) (os ps : List Operation) → id ≡ other → os ≡ ps → PatchTwins s id other os ps
patch_twins s id other os ps e f =
    subst (λ (z : List Operation). PatchTwins s id other os z) f
    (subst (λ (i : List ℕ). PatchTwins s id i os os) e (itself (RefusesPatchTwin s id os) IsDone (after_patch_twin s id os)))

abbrev PatchParts : State → List ℕ → List ℕ → List ℕ → List ℕ → List Operation → List Operation → Type 0
PatchParts s id other name named os ps =
    Alike (RefusesPatchPart s id name os) (RefusesPatchPart s other named ps) IsDone IsDone (after_patch_part s id name os) (after_patch_part s other named ps)

patch_parts : (s : State) (id other name named : List ℕ) (os ps : List Operation) → id ≡ other → name ≡ named → os ≡ ps → PatchParts s id other name named os ps
patch_parts s id other name named os ps e d f =
    subst (λ (z : List Operation). PatchParts s id other name named os z) f
    (subst (λ (n : List ℕ). PatchParts s id other name n os os) d
    (subst (λ (i : List ℕ). PatchParts s id i name name os os) e (itself (RefusesPatchPart s id name os) IsDone (after_patch_part s id name os))))

-- ---- relationships
abbrev PutLinks : State → List ℕ → List ℕ → List ℕ → List ℕ → List ℕ → List ℕ → List ℕ → List ℕ → Json → Json → Type 0
PutLinks s source from id other name named target to v w =
    Alike (RefusesPutRel s source id name target v) (RefusesPutRel s from other named to w)
    (GivesLink (after_put_rel s source id name target v) source id) (GivesLink (after_put_rel s from other named to w) from other)
    (after_put_rel s source id name target v) (after_put_rel s from other named to w)

put_links : (s : State) (source from id other name named target to : List ℕ) (v w : Json) → source ≡ from → id ≡ other → name ≡ named → target ≡ to → v ≡ w
    → PutLinks s source from id other name named target to v w
put_links s source from id other name named target to v w a b c d e =
    subst (λ (z : Json). PutLinks s source from id other name named target to v z) e
    (subst (λ (t : List ℕ). PutLinks s source from id other name named target t v v) d
    (subst (λ (n : List ℕ). PutLinks s source from id other name n target target v v) c
    (subst (λ (i : List ℕ). PutLinks s source from id i name name target target v v) b
    (subst (λ (f : List ℕ). PutLinks s source f id id name name target target v v) a
    (itself (RefusesPutRel s source id name target v) (GivesLink (after_put_rel s source id name target v) source id) (after_put_rel s source id name target v))))))

abbrev PatchLinks : State → List ℕ → List ℕ → List ℕ → List ℕ → List Operation → List Operation → Type 0
PatchLinks s source from id other os ps =
    Alike (RefusesPatchRel s source id os) (RefusesPatchRel s from other ps) IsDone IsDone (after_patch_rel s source id os) (after_patch_rel s from other ps)

patch_links : (s : State) (source from id other : List ℕ) (os ps : List Operation) → source ≡ from → id ≡ other → os ≡ ps → PatchLinks s source from id other os ps
patch_links s source from id other os ps a b f =
    subst (λ (z : List Operation). PatchLinks s source from id other os z) f
    (subst (λ (i : List ℕ). PatchLinks s source from id i os os) b
    (subst (λ (z : List ℕ). PatchLinks s source z id id os os) a (itself (RefusesPatchRel s source id os) IsDone (after_patch_rel s source id os))))

-- ---- queries
abbrev IsPage : State → Asked → Option (List (List ℕ)) → Answer → Type 0
IsPage s q after a = a ≡ answer_page s q after

abbrev Queries : State → Asked → Asked → Option (List (List ℕ)) → Option (List (List ℕ)) → Type 0
Queries s q r after past = Alike never never (IsPage s q after) (IsPage s r past) s s

queries : (s : State) (q r : Asked) (after past : Option (List (List ℕ))) → q ≡ r → after ≡ past → Queries s q r after past
queries s q r after past e f =
    subst (λ (z : Option (List (List ℕ))). Queries s q r after z) f (subst (λ (z : Asked). Queries s q z after after) e (itself never (IsPage s q after) s))

-- ---- all
pub same_step : (s : State) (ask other : Ask) → AreOneAsk ask other → SameStep s ask other
same_step s (asks.PutTwin id model body) (asks.PutTwin other another tree) h = put_twins s id other model another (view body) (view tree) h.0 h.1 h.2
same_step s (asks.PatchTwin id patch) (asks.PatchTwin other change) h = patch_twins s id other (operations_of patch.ops) (operations_of change.ops) h.0 h.1
same_step s (asks.PatchPart id name patch) (asks.PatchPart other named change) h =
    patch_parts s id other name named (operations_of patch.ops) (operations_of change.ops) h.0 h.1 h.2
same_step s (asks.PutRel source id name target body) (asks.PutRel from other named to tree) h =
    put_links s source from id other name named target to (view body) (view tree) h.0 h.1 h.2 h.3 h.4
same_step s (asks.PatchRel source id patch) (asks.PatchRel from other change) h =
    patch_links s source from id other (operations_of patch.ops) (operations_of change.ops) h.0 h.1 h.2
same_step s (asks.Query query after) (asks.Query other past) h = queries s (asked query) (asked other) after past h.0 h.1
same_step s ask other h = equal s ask other h
