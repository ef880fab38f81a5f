-- No answer of a graph lists methods.
use Rattle.std.proofs.Common.{◌≡◌, ℕ, List, Option, Some, None, Result, Ok, Err, inl, inr, sym, subst}
use Rattle.dt_base.specs.names.Grammar.{Identifier, dtmi_text}
use Rattle.json_tree.specs.Values.{Json}
use Rattle.json_tree.specs.View.{view}
use Rattle.dtdl_terms.specs.declared.interface.Interface.{Interface}
use Rattle.dtdl_terms.specs.declared.resolved.ResolvedContent.{ResolvedContent}
use Rattle.dtdl_terms.specs.declared.uploaded.Uploaded.{Uploaded}
use Rattle.twin_patch.specs.Operations.{Operation, operations_of}
use Rattle.twin_patch.specs.Patched.{patched_from}
use Rattle.twin_value.specs.declared.code.BodyCode.{BodyCode}
use Rattle.graph_asks.specs.Answers.{Answer, refused}
use Rattle.graph_asks.specs.declared.ask.Ask.{Ask}
use Rattle.graph_asks.specs.declared.ask.Ask.TheVariants as asks
use Rattle.graph_asks.specs.declared.refusal.Refusal.{Refusal}
use Rattle.graph_asks.specs.declared.reply.Reply.{Reply}
use Rattle.graph_asks.specs.declared.reply.Reply.TheVariants as replies
use Rattle.graph_steps.specs.States.{State, Twin, Link, interface_of, twin_value, part_value, link_value, with_twin}
use Rattle.graph_steps.specs.ModelAsks.{RefusesPutModels, RefusesDropModel}
use Rattle.graph_steps.specs.TwinAsks.{Frozen, BodyFault, TwinFull, RefusesBody, RefusesPutTwin, RefusesPatched, RefusesPatchTwin, RefusesDropTwin, RefusesGetPart, RefusesNewPart, RefusesPatchPart, interface_in, twin_for, with_body, with_part}
use Rattle.graph_steps.specs.LinkAsks.{Multiplicity, WrongTarget, LinkFull, RefusesLink, RefusesPutRel, LinkNotFound, RefusesNewLink, RefusesPatchRel, link_for, with_link, with_payload}
use Rattle.graph_steps.specs.Steps.{Allows, Gives, Refuses}
use Rattle.graph_routes.specs.Responses.{AnswersMethods, ListsMethods}

lists_as : (r q : Refusal) → r ≡ q → ListsMethods q → ListsMethods r
lists_as r q e h = subst ListsMethods (sym e) h

-- ---- models
put_lists : (s : State) (us : List Uploaded) (r : Refusal) → RefusesPutModels s us r → ListsMethods r
put_lists s us r (inl h) = lists_as r _ h.4 tt
put_lists s us r (inr (other, inl h)) = lists_as r _ h.4 tt
put_lists s us r (inr (other, inr (more, inl h))) = lists_as r _ h.2 tt
put_lists s us r (inr (other, inr (more, inr (still, h)))) = lists_as r _ h.3 tt

drop_lists : (s : State) (id : Identifier) (r : Refusal) → RefusesDropModel s id r → ListsMethods r
drop_lists s id r (inl h) = lists_as r _ h.1 tt
drop_lists s id r (inr (other, h)) = lists_as r _ h.2 tt

-- ---- what several asks are refused for
fault_lists : (Broken : List ℕ → BodyCode → Type 0) (v : Json) (r : Refusal) → BodyFault Broken v r → ListsMethods r
fault_lists Broken v r h = lists_as r _ h.5 tt

frozen_lists : (s : State) (id : List ℕ) (r : Refusal) → Frozen s id r → ListsMethods r
frozen_lists s id r h = lists_as r _ h.3 tt

full_lists : (new : State) (t : Twin) (r : Refusal) → TwinFull new t r → ListsMethods r
full_lists new t r (inl h) = lists_as r _ h.1 tt
full_lists new t r (inr (other, inl h)) = lists_as r _ h.1 tt
full_lists new t r (inr (other, inr (more, h))) = lists_as r _ h.1 tt

link_full_lists : (new : State) (l : Link) (r : Refusal) → LinkFull new l r → ListsMethods r
link_full_lists new l r (inl h) = lists_as r _ h.1 tt
link_full_lists new l r (inr (other, inl h)) = lists_as r _ h.1 tt
link_full_lists new l r (inr (other, inr (more, h))) = lists_as r _ h.1 tt

-- ---- twins
body_lists : (s : State) (id model : List ℕ) (v : Json) (o : Option Interface) (r : Refusal) → RefusesBody s id model v o r → ListsMethods r
body_lists s id model v None r h = lists_as r _ h tt
body_lists s id model v (Some i) r (inl h) = lists_as r _ h.5 tt
body_lists s id model v (Some i) r (inr (a, inl h)) = fault_lists _ v r h
body_lists s id model v (Some i) r (inr (a, inr (b, inl h))) = lists_as r _ h.3 tt
body_lists s id model v (Some i) r (inr (a, inr (b, inr (c, h)))) = full_lists (with_body s id (Some i) v) (twin_for s id i v) r h

put_twin_lists : (s : State) (id : List ℕ) (model : Identifier) (v : Json) (r : Refusal) → RefusesPutTwin s id model v r → ListsMethods r
put_twin_lists s id model v r (inl h) = frozen_lists s id r h
put_twin_lists s id model v r (inr (other, h)) = body_lists s id (dtmi_text model) v (interface_of s model) r h

patched_lists : (s : State) (id : List ℕ) (result : Result Json ℕ) (r : Refusal) → RefusesPatched s id result r → ListsMethods r
patched_lists s id (Err index) r h = lists_as r _ h tt
patched_lists s id (Ok v) r (inl h) = fault_lists _ v r h
patched_lists s id (Ok v) r (inr (other, (model, named, h))) = body_lists s id model v (interface_in s v) r h

patch_twin_lists : (s : State) (id : List ℕ) (os : List Operation) (r : Refusal) → RefusesPatchTwin s id os r → ListsMethods r
patch_twin_lists s id os r (inl h) = lists_as r _ h.1 tt
patch_twin_lists s id os r (inr (other, inl h)) = frozen_lists s id r h
patch_twin_lists s id os r (inr (other, inr (more, (t, at, h)))) = patched_lists s t.id (patched_from 0 os (twin_value t)) r h

drop_twin_lists : (s : State) (id : List ℕ) (r : Refusal) → RefusesDropTwin s id r → ListsMethods r
drop_twin_lists s id r (inl h) = lists_as r _ h.1 tt
drop_twin_lists s id r (inr (other, h)) = lists_as r _ h.2 tt

-- ---- components
get_part_lists : (s : State) (id name : List ℕ) (r : Refusal) → RefusesGetPart s id name r → ListsMethods r
get_part_lists s id name r (inl h) = lists_as r _ h.1 tt
get_part_lists s id name r (inr (other, h)) = lists_as r _ h.3 tt

new_part_lists : (s : State) (name : List ℕ) (i : Interface) (t : Twin) (result : Result Json ℕ) (r : Refusal) → RefusesNewPart s name i t result r → ListsMethods r
new_part_lists s name i t (Err index) r h = lists_as r _ h tt
new_part_lists s name i t (Ok v) r (inl h) = fault_lists _ v r h
new_part_lists s name i t (Ok v) r (inr (other, h)) = full_lists (with_twin (with_part name v t) s) (with_part name v t) r h

patch_part_lists : (s : State) (id name : List ℕ) (os : List Operation) (r : Refusal) → RefusesPatchPart s id name os r → ListsMethods r
patch_part_lists s id name os r (inl h) = lists_as r _ h.1 tt
patch_part_lists s id name os r (inr (a, inl h)) = frozen_lists s id r h
patch_part_lists s id name os r (inr (a, inr (b, inl h))) = lists_as r _ h.3 tt
patch_part_lists s id name os r (inr (a, inr (b, inr (c, h)))) = new_part_lists s name h.interface h.twin (patched_from 0 os (part_value h.part)) r h.refuses

-- ---- relationships
target_lists : (s : State) (o : Option ResolvedContent) (target : List ℕ) (r : Refusal) → WrongTarget s o target r → ListsMethods r
target_lists s None target r h = absurd h
target_lists s (Some c) target r h = lists_as r _ h.5 tt

count_lists : (s : State) (o : Option ResolvedContent) (source id name : List ℕ) (r : Refusal) → Multiplicity s o source id name r → ListsMethods r
count_lists s None source id name r h = absurd h
count_lists s (Some c) source id name r h = lists_as r _ h.3 tt

link_lists : (s : State) (i : Interface) (source id name target : List ℕ) (v : Json) (r : Refusal) → RefusesLink s i source id name target v r → ListsMethods r
link_lists s i source id name target v r (inl h) = fault_lists _ v r h
link_lists s i source id name target v r (inr (a, inl h)) = lists_as r _ h.1 tt
link_lists s i source id name target v r (inr (a, inr (b, inl h))) = target_lists s _ target r h
link_lists s i source id name target v r (inr (a, inr (b, inr (c, inl h)))) = count_lists s _ source id name r h
link_lists s i source id name target v r (inr (a, inr (b, inr (c, inr (d, h))))) =
    link_full_lists (with_link (link_for s i source id name target v) s) (link_for s i source id name target v) r h

put_rel_lists : (s : State) (source id name target : List ℕ) (v : Json) (r : Refusal) → RefusesPutRel s source id name target v r → ListsMethods r
put_rel_lists s source id name target v r (inl h) = lists_as r _ h.1 tt
put_rel_lists s source id name target v r (inr (other, inl h)) = frozen_lists s source r h
put_rel_lists s source id name target v r (inr (other, inr (more, (i, from, h)))) = link_lists s i source id name target v r h

absent_lists : (s : State) (source id : List ℕ) (r : Refusal) → LinkNotFound s source id r → ListsMethods r
absent_lists s source id r (inl h) = lists_as r _ h.1 tt
absent_lists s source id r (inr (other, h)) = lists_as r _ h.1 tt

new_link_lists : (s : State) (i : Interface) (l : Link) (result : Result Json ℕ) (r : Refusal) → RefusesNewLink s i l result r → ListsMethods r
new_link_lists s i l (Err index) r h = lists_as r _ h tt
new_link_lists s i l (Ok v) r (inl h) = fault_lists _ v r h
new_link_lists s i l (Ok v) r (inr (other, h)) = link_full_lists (with_link (with_payload s i v l) s) (with_payload s i v l) r h

patch_rel_lists : (s : State) (source id : List ℕ) (os : List Operation) (r : Refusal) → RefusesPatchRel s source id os r → ListsMethods r
patch_rel_lists s source id os r (inl h) = absent_lists s source id r h
patch_rel_lists s source id os r (inr (other, inl h)) = frozen_lists s source r h
patch_rel_lists s source id os r (inr (other, inr (more, h))) = new_link_lists s h.interface h.link (patched_from 0 os (link_value h.link)) r h.refuses

-- ---- all
refuses : (s : State) (a : Ask) (r : Refusal) → Refuses s a r → ListsMethods r
refuses s (asks.PutModels us) r h = put_lists s us r h
refuses s (asks.GetModel id) r h = lists_as r _ h.1 tt
refuses s asks.ListModels r h = absurd h
refuses s (asks.Mark id on) r h = lists_as r _ h.1 tt
refuses s (asks.DropModel id) r h = drop_lists s id r h
refuses s asks.Canon r h = absurd h
refuses s (asks.PutTwin id model tree) r h = put_twin_lists s id model (view tree) r h
refuses s (asks.GetTwin id) r h = lists_as r _ h.1 tt
refuses s (asks.PatchTwin id patch) r h = patch_twin_lists s id (operations_of patch.ops) r h
refuses s (asks.DropTwin id) r h = drop_twin_lists s id r h
refuses s (asks.GetPart id name) r h = get_part_lists s id name r h
refuses s (asks.PatchPart id name patch) r h = patch_part_lists s id name (operations_of patch.ops) r h
refuses s (asks.PutRel source id name target tree) r h = put_rel_lists s source id name target (view tree) r h
refuses s (asks.GetRel source id) r h = absent_lists s source id r h
refuses s (asks.PatchRel source id patch) r h = patch_rel_lists s source id (operations_of patch.ops) r h
refuses s (asks.DropRel source id) r h = absent_lists s source id r h
refuses s (asks.ListOut source name after) r h = lists_as r _ h.1 tt
refuses s (asks.ListIn target after) r h = lists_as r _ h.1 tt
refuses s (asks.Query query after) r h = absurd h

abbrev none : Refusal → Answer
none r = refused r

not_given : (s : State) (a : Ask) (r : Refusal) → Gives s a (none r) → ⊥
not_given s (asks.PutModels us) r e = cc
not_given s (asks.GetModel id) r h = let e = h.2 in cc
not_given s asks.ListModels r e = cc
not_given s (asks.Mark id on) r e = cc
not_given s (asks.DropModel id) r e = cc
not_given s asks.Canon r e = cc
not_given s (asks.PutTwin id model tree) r h = let e = h.2 in cc
not_given s (asks.GetTwin id) r h = let e = h.2 in cc
not_given s (asks.PatchTwin id patch) r e = cc
not_given s (asks.DropTwin id) r e = cc
not_given s (asks.GetPart id name) r h = let e = h.4 in cc
not_given s (asks.PatchPart id name patch) r e = cc
not_given s (asks.PutRel source id name target tree) r h = let e = h.2 in cc
not_given s (asks.GetRel source id) r h = let e = h.2 in cc
not_given s (asks.PatchRel source id patch) r e = cc
not_given s (asks.DropRel source id) r e = cc
not_given s (asks.ListOut source name after) r e = cc
not_given s (asks.ListIn target after) r e = cc
not_given s (asks.Query query after) r e = cc

same_refusal : (r q : Refusal) → none r ≡ none q → r ≡ q
same_refusal r q e = cc

pub reply_lists : (s : State) (a : Ask) (reply : Reply) → Allows s a reply → AnswersMethods reply
reply_lists s a (replies.Body tree) h = tt
reply_lists s a (replies.Created tree) h = tt
reply_lists s a (replies.Canon bytes) h = tt
reply_lists s a replies.Done h = tt
reply_lists s a (replies.Refused r) (inl (q, h, e)) = lists_as r q (same_refusal r q e) (refuses s a q h)
reply_lists s a (replies.Refused r) (inr h) = absurd (not_given s a r h.1)
