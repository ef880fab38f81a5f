-- How an ask over a dial ends: without a link, or with one that is handed back after the exchange.
use Rattle.std.specs.Prelude.{◌≡◌, ◌≢◌, ℕ, ◌⊎◌, List, Option, Some, None, Result, Err, IfSome}
use Rattle.dt_base.specs.Faults.{Rose}
use Rattle.connections.specs.Records.{LinkRecord, Gains}
use Rattle.http_ends.specs.declared.response.Response.{Response}
use Rattle.http_client.specs.declared.ends.AskEnd.{AskEnd}
use Rattle.http_client.specs.declared.ends.AskEnd.TheVariants.{DialFault, OutOfMemory}
use Rattle.http_client.specs.Exchanges.{Exchanged}

-- The record of a dial: that of the link which it gives, or none where it fails, and those of the links that were handed
-- back, where they are told, and how many of these had a fault.
pub record DialRecord : Type 0 where
  pub ahead : Option (Option LinkRecord)
  pub gone : Option (List LinkRecord)
  pub lost : ℕ

-- Its record at one moment.
abbrev pub dial_record : {D : Type 0} → (D → Option (Option LinkRecord)) → (D → Option (List LinkRecord)) → (D → ℕ) → D → DialRecord
dial_record ahead gone lost dial = record { ahead = ahead dial; gone = gone dial; lost = lost dial }

-- The dial gave its link, a request was exchanged over it, and it was handed back as it was then. It counts as lost exactly
-- where it had a fault.
pub record HandsBack (request : List ℕ) (before after : DialRecord) (result : Result Response AskEnd) : Type 0 where
  pub first : LinkRecord
  pub last : LinkRecord
  pub given : IfSome before.ahead (λ turn. turn ≡ Some first)
  pub fresh : first.faults ≡ 0
  pub exchanged : Exchanged request first last result
  pub handed : Gains before.gone after.gone last
  pub sound : last.faults ≡ 0 → after.lost ≡ before.lost
  pub broken : last.faults ≢ 0 → Rose before.lost after.lost

-- The dial gave no link, and none was handed back.
abbrev pub GivesNone : DialRecord → DialRecord → Type 0
GivesNone before after = (after.gone ≡ before.gone) × (after.lost ≡ before.lost)

-- How the ask ended. The dial failed only where it had no link ahead.
abbrev pub Ends : List ℕ → DialRecord → DialRecord → Result Response AskEnd → Type 0
Ends request before after (Err DialFault) = IfSome before.ahead (λ turn. turn ≡ None) × GivesNone before after
Ends request before after (Err OutOfMemory) =
    GivesNone before after ⊎ HandsBack request before after (Err OutOfMemory)
Ends request before after result = HandsBack request before after result
