-- What a worker made of the turns so far.
use Rattle.std.specs.Prelude.{◌≡◌, ℕ, List, ◌++◌, map, length, Option, Some, None, ⊤, option_to_list}
use Rattle.std.specs.List.{AllByRecursion, flat_map, sum_by}
use Rattle.connections.specs.Records.{LinkRecord, Gains}
use Rattle.one_history.specs.Histories.{own}
use Rattle.one_history.specs.declared.history.Entry.{Entry as Called}
use Rattle.http_session.specs.declared.ends.SessionEnd.{SessionEnd}
use Rattle.graph_asks.specs.declared.ask.Ask.{Ask}
use Rattle.graph_asks.specs.declared.reply.Reply.{Reply}
use Rattle.graph_server.specs.Works.{Visit, IsServed, GainsAll, broken_at, short_at, failed_at}

-- Told turns begin with these, and lose them.
abbrev pub TakesAll : Option (List (Option LinkRecord)) → Option (List (Option LinkRecord)) → List (Option LinkRecord) → Type 0
TakesAll None now turns = ⊤
TakesAll (Some before) None turns = ⊥
TakesAll (Some before) (Some now) turns = before ≡ turns ++ now

-- A link that came with this record was served, so that the session ended so, and handed back.
pub record IsVisit (number : List ℕ) (before after : List (Called Ask Reply)) (came : LinkRecord) (gone now : Option (List LinkRecord)) (end : SessionEnd) : Type 0 where
  pub visit : Visit
  pub gained : List (Called Ask Reply)
  pub is_end : visit.end ≡ end
  pub is_come : visit.came ≡ came
  pub served : IsServed visit
  pub grows : after ≡ before ++ gained
  pub calls : own number gained ≡ visit.calls
  pub handed_back : Gains gone now visit.went

-- The turns that are passed by.
pub record Works (number : List ℕ) (before after : List (Called Ask Reply)) (ahead left : Option (List (Option LinkRecord))) (gone now : Option (List LinkRecord))
    (links faults broken short : ℕ) : Type 0 where
  pub turns : List (Option LinkRecord)
  pub visits : List Visit
  pub gained : List (Called Ask Reply)
  pub passed : TakesAll ahead left turns
  pub served : AllByRecursion IsServed visits
  pub taken : flat_map option_to_list turns ≡ map (λ v. v.came) visits
  pub failed : faults ≡ sum_by failed_at turns
  pub handed_back : GainsAll gone now (map (λ v. v.went) visits)
  pub grows : after ≡ before ++ gained
  pub calls : own number gained ≡ flat_map (λ v. v.calls) visits
  pub all_links : links ≡ length visits
  pub all_broken : broken ≡ sum_by (λ v. broken_at v.end) visits
  pub all_short : short ≡ sum_by (λ v. short_at v.end) visits
