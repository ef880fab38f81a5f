-- The links that a worker takes at its door.
use Rattle.std.specs.Prelude.{◌≡◌, ◌≢◌, ℕ, List, ◌++◌, map, length, Option, Some, None, IfSome, ⊤, option_to_list}
use Rattle.std.specs.List.{AllByRecursion, flat_map, sum_by}
use Rattle.std.specs.Io.KnownBytes.{Appends}
use Rattle.dt_base.specs.Faults.{Rose}
use Rattle.connections.specs.Records.{LinkRecord}
use Rattle.http_session.specs.Sessions.{Session}
use Rattle.http_session.specs.declared.ends.SessionEnd.{SessionEnd}
use Rattle.http_session.specs.declared.ends.SessionEnd.TheVariants.{ReadFault, WriteFault, OutOfMemory}
use Rattle.one_history.specs.Histories.{own}
use Rattle.one_history.specs.declared.history.Entry.{Entry as Called}
use Rattle.graph_asks.specs.declared.ask.Ask.{Ask}
use Rattle.graph_asks.specs.declared.reply.Reply.{Reply}
use Rattle.graph_server.specs.Entries.{own_response, enters}
use Rattle.graph_server.specs.Links.{called}

-- A link that was taken: its record when it came and when it was handed back, why its session ended, and its calls.
pub record Visit : Type 0 where
  pub came : LinkRecord
  pub went : LinkRecord
  pub end : SessionEnd
  pub calls : List (Called Ask Reply)

-- 1 where a fault of the link ended the session.
abbrev pub broken_at : SessionEnd → ℕ
broken_at ReadFault = 1
broken_at WriteFault = 1
broken_at other = 0

-- 1 where want of memory ended it.
abbrev pub short_at : SessionEnd → ℕ
short_at OutOfMemory = 1
short_at other = 0

-- 1 where a turn fails.
abbrev pub failed_at : Option LinkRecord → ℕ
failed_at None = 1
failed_at (Some link) = 0

-- The link had its session, in which its calls were made. A fault ended it only where the link has one.
pub record IsServed (v : Visit) : Type 0 where
  pub out : List ℕ
  pub session : Session own_response enters (Rose v.came.faults v.went.faults) v.end v.came.left v.went.left (map called v.calls) out
  pub written : Appends v.came.taken v.went.taken out
  pub cause : broken_at v.end ≡ 1 → v.went.faults ≢ 0

-- Told records gain these, as the last.
abbrev pub GainsAll : Option (List LinkRecord) → Option (List LinkRecord) → List LinkRecord → Type 0
GainsAll None now more = ⊤
GainsAll (Some before) None more = ⊥
GainsAll (Some before) (Some now) more = now ≡ before ++ more

-- What was made of the turns that were `ahead`: each link was served and handed back, in the order of the turns, and the history
-- that was seen gained of this number the calls of these links alone. The counts are those of the links, of the turns that failed,
-- and of the sessions that a fault or want of memory ended.
pub record IsWork (number : List ℕ) (before after : List (Called Ask Reply)) (ahead : Option (List (Option LinkRecord))) (gone now : Option (List LinkRecord))
    (links faults broken short : ℕ) : Type 0 where
  pub visits : List Visit
  pub gained : List (Called Ask Reply)
  pub served : AllByRecursion IsServed visits
  pub taken : IfSome ahead (λ turns. flat_map option_to_list turns ≡ map (λ v. v.came) visits)
  pub failed : IfSome ahead (λ turns. faults ≡ sum_by failed_at turns)
  pub handed_back : GainsAll gone now (map (λ v. v.went) visits)
  pub grows : after ≡ before ++ gained
  pub calls : own number gained ≡ flat_map (λ v. v.calls) visits
  pub all_links : links ≡ length visits
  pub all_broken : broken ≡ sum_by (λ v. broken_at v.end) visits
  pub all_short : short ≡ sum_by (λ v. short_at v.end) visits
