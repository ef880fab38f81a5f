-- How an ask ends whose link was handed back.
use Rattle.std.proofs.Common.{ℕ, List, Result, Ok, Err, inr}
use Rattle.http_ends.specs.declared.response.Response.{Response}
use Rattle.http_client.specs.declared.ends.AskEnd.{AskEnd}
use Rattle.http_client.specs.declared.ends.AskEnd.TheVariants.{DialFault, ReadFault, WriteFault, BadReply, OutOfMemory}
use Rattle.http_client.specs.Ends.{DialRecord, HandsBack, Ends}

-- an exchange never ends with a dial that failed
pub handed_back : (request : List ℕ) (before after : DialRecord) (result : Result Response AskEnd) → HandsBack request before after result → Ends request before after result
handed_back request before after (Ok response) h = h
handed_back request before after (Err DialFault) h = absurd h.exchanged
handed_back request before after (Err ReadFault) h = h
handed_back request before after (Err WriteFault) h = h
handed_back request before after (Err BadReply) h = h
handed_back request before after (Err OutOfMemory) h = inr h
