-- Well typed at every step.
use Rattle.std.proofs.Common.{◌≡◌, List, [], ◌∷◌, sym, subst}
use Rattle.std.specs.List.{AllByRecursion}
use Rattle.json_decimal.specs.Number.{Number}
use Rattle.json_tree.specs.Values.{Elements, no_elements, element}
use Rattle.json_tree.specs.View.{view}
use Rattle.dtdl_terms.specs.declared.uploaded.Uploaded.{Uploaded}
use Rattle.twin_patch.specs.Operations.{Operation, operations_of}
use Rattle.twin_patch.specs.Reading.{AreOperations}
use Rattle.twin_patch.specs.declared.entry.PatchOf.TheVariants as patches
use Rattle.model_life.specs.Models.{with_mark}
use Rattle.graph_asks.specs.Answers.{Answer}
use Rattle.graph_asks.specs.declared.ask.Ask.{Ask}
use Rattle.graph_asks.specs.declared.ask.Ask.TheVariants as asks
use Rattle.graph_asks.specs.declared.refusal.Refusal.{Refusal}
use Rattle.graph_steps.specs.Soundness.{IsSoundUpload, IsSoundAsk}
use Rattle.graph_steps.specs.States.{State}
use Rattle.graph_steps.specs.Steps.{Refuses, Answers, changed, followed}
use Rattle.local_rules.specs.Soundness.{IsSoundInterface}
use Rattle.graph_steps.specs.Typed.{WellTyped}
use Rattle.graph_steps.proofs.Marked.{still_typed}
use Rattle.graph_steps.proofs.invariants.Followed.{after}
use Rattle.graph_steps.proofs.invariants.Patches.{IsPlain}
use Rattle.graph_steps.proofs.invariants.Drops.{rel_dropped, twin_dropped}
use Rattle.graph_steps.proofs.invariants.Rels.{rel_put, rel_patched}
use Rattle.graph_steps.proofs.invariants.Puts.{twin_came, twin_patched}
use Rattle.graph_steps.proofs.invariants.Parts.{part_patched}
use Rattle.graph_steps.proofs.invariants.ModelDrops.{model_dropped}
use Rattle.graph_steps.proofs.invariants.ModelPuts.{models_put}
use Rattle.graph_steps.proofs.invariants.Stays.{same_marked}

-- ---- what sound asks bring
all_interfaces : (us : List Uploaded) → AllByRecursion IsSoundUpload us → AllByRecursion (λ u. IsSoundInterface u.interface) us
all_interfaces [] all = tt
all_interfaces (u ∷ us) all = (all.0.interface, all_interfaces us all.1)

other_of : patches.Rel ≡ patches.Twin → ⊥
other_of e = cc

all_plain : (entries : Elements Number) (os : List Operation) → AreOperations patches.Rel entries os → AllByRecursion IsPlain os
all_plain no_elements os e = subst (AllByRecursion IsPlain) (sym e) tt
all_plain (element entry entries) os (o, rest, e, is, more) =
    subst (AllByRecursion IsPlain) (sym e) (λ first keys path. is.3 ((first, keys, path), λ move. other_of move.0), all_plain entries rest more)

-- ---- asks that are not refused
pub changed_typed : (s : State) (ask : Ask) → WellTyped s → IsSoundAsk ask → ((r : Refusal) → Refuses s ask r → ⊥) → WellTyped (changed s ask)
changed_typed s (asks.PutModels models) w sound free = models_put s models w (all_interfaces models sound.each) free
changed_typed s (asks.GetModel id) w sound free = w
changed_typed s asks.ListModels w sound free = w
changed_typed s (asks.Mark id on) w sound free = still_typed s (with_mark id on s.models) (sym (same_marked id on s.models)) w
changed_typed s (asks.DropModel id) w sound free = model_dropped s id w free
changed_typed s asks.Canon w sound free = w
changed_typed s (asks.PutTwin id model tree) w sound free = twin_came s id model (view tree) w sound.2.names free
changed_typed s (asks.GetTwin id) w sound free = w
changed_typed s (asks.PatchTwin id patch) w sound free = twin_patched s id (operations_of patch.ops) w free
changed_typed s (asks.DropTwin id) w sound free = twin_dropped s id w free
changed_typed s (asks.GetPart id name) w sound free = w
changed_typed s (asks.PatchPart id name patch) w sound free = part_patched s id name (operations_of patch.ops) w free
changed_typed s (asks.PutRel source id name target tree) w sound free = rel_put s source id name target (view tree) w sound.2 sound.4.named sound.4.leads free
changed_typed s (asks.GetRel source id) w sound free = w
changed_typed s (asks.PatchRel source id patch) w sound free =
    let read = sound.2.2 in
    rel_patched s source id (operations_of patch.ops) w (all_plain read.0 (operations_of patch.ops) read.2) free
changed_typed s (asks.DropRel source id) w sound free = rel_dropped s source id w
changed_typed s (asks.ListOut source name past) w sound free = w
changed_typed s (asks.ListIn target past) w sound free = w
changed_typed s (asks.Query query past) w sound free = w

pub keeps_typed : (s : State) (ask : Ask) (answer : Answer) → WellTyped s → IsSoundAsk ask → Answers s ask answer → WellTyped (followed s ask answer)
keeps_typed s ask answer w sound answers = after WellTyped s ask w (changed_typed s ask w sound) answer answers
