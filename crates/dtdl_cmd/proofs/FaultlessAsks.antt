-- An ask in which no call failed ends with the reply that its link tells, or for want of memory.
use Rattle.std.proofs.Common.{◌≡◌, ℕ, ◌<◌, ◌≤◌, Bool, true, false, List, [], ◌∷◌, Option, Some, None, Result, Ok, Err, String, length, get_or, refl, sym, ap, ◌∙◌, subst, inl, inr, arith}
use Rattle.std.specs.Prelude.{IfSome}
use Rattle.std.specs.declared.alloc.Global.{Global}
use Rattle.std.specs.Io.KnownBytes.{Appends}
use Rattle.dt_base.specs.Faults.{Rose}
use Rattle.connections.specs.Records.{LinkRecord}
use Rattle.http_ends.specs.Laws.{OneReply}
use Rattle.http_ends.specs.ReplyReading.{AnswersReply}
use Rattle.http_ends.specs.Streams.{OnStreams, stream_of}
use Rattle.http_ends.specs.declared.response.ReplyEnd.{ReplyEnd}
use Rattle.http_ends.specs.declared.response.ReplyEnd.TheVariants as replies
use Rattle.http_ends.specs.declared.response.Response.{Response}
use Rattle.http_client.specs.Ends.{Ends}
use Rattle.http_client.specs.Exchanges.{Reads}
use Rattle.http_client.specs.declared.ends.AskEnd.{AskEnd}
use Rattle.http_client.specs.declared.ends.AskEnd.TheVariants as causes
use Rattle.dtdl_cmd.specs.Clients.{Client, IsAsk, IsMethod}
use Rattle.dtdl_cmd.specs.ClientRuns.{AskRunEnds, DialChange, EndsUnread, IsReplyStatus, MAX_BODY, Says, Tells}
use Rattle.dtdl_cmd.specs.Documents.{StreamChange}
use Rattle.dtdl_cmd.specs.FaultlessAsks.{AskMeetsNoFault, EndsWithReply}
use Rattle.dtdl_cmd.specs.declared.status.Status.{Status}

-- ---- whether a method has a body
first_letter : (method : List ℕ) → ℕ
first_letter method = get_or method 0 0

with_body : (method : List ℕ) → IsMethod method true → first_letter method ≡ 80
unfolding first_letter
with_body method (inl is) = ap first_letter is
with_body method (inr (inl is)) = ap first_letter is
with_body method (inr (inr is)) = ap first_letter is

without : (method : List ℕ) → IsMethod method false → first_letter method < 80
unfolding first_letter
without method (inl is) =
    let g : first_letter method ≡ 71 = ap first_letter is in
    omega (arith, g)
without method (inr is) =
    let d : first_letter method ≡ 68 = ap first_letter is in
    omega (arith, d)

same_body : (a b : Bool) (method : List ℕ) → IsMethod method a → IsMethod method b → a ≡ b
same_body true true method is has = refl
same_body false false method is has = refl
same_body true false method is has =
    let some = with_body method is in
    let none = without method has in
    absurd (omega (arith, some, none))
same_body false true method is has =
    let none = without method is in
    let some = with_body method has in
    absurd (omega (arith, some, none))

fourth : (a b c d e f g h i j : List ℕ) → a ∷ b ∷ c ∷ d ∷ e ∷ [] ≡ f ∷ g ∷ h ∷ i ∷ j ∷ [] → d ≡ i
fourth a b c d e f g h i j is = cc

same_client : (words : List (String Global)) (one other : Client) → IsAsk words one → IsAsk words other → one.has_body ≡ other.has_body
same_client words one other is has =
    let same : one.method ≡ other.method = fourth _ _ _ _ _ _ _ _ _ _ (sym is.are ∙ has.are) in
    same_body one.has_body other.has_body one.method is.method (subst (λ m. IsMethod m other.has_body) (sym same) has.method)

-- ---- what was read
read_of : (bytes : List ℕ) (after : Option (List ℕ)) (answer : Result Response ReplyEnd) → OnStreams (Some bytes) after (AnswersReply answer) → (rest : List ℕ) × AnswersReply answer bytes rest
read_of bytes None answer h = absurd h
read_of bytes (Some rest) answer h = (rest, h)

reads : (first last : LinkRecord) (bytes : List ℕ) (answer : Result Response ReplyEnd) → first.left ≡ Some bytes → Reads first last answer → (rest : List ℕ) × AnswersReply answer bytes rest
reads first last bytes answer told (along, h) =
    read_of bytes (stream_of along last.left) answer (subst (λ before. OnStreams before (stream_of along last.left) (AnswersReply answer)) told h)

same_link : (link first : LinkRecord) (ahead : Option (Option LinkRecord)) → ahead ≡ Some (Some link) → IfSome ahead (λ turn. turn ≡ Some first) → first ≡ link
same_link link first ahead is given =
    let same : Some link ≡ Some first = subst (λ a. IfSome a (λ turn. turn ≡ Some first)) is given in
    cc

module _ (one_reply : OneReply) (words : List (String Global)) (input : StreamChange) (dial : DialChange) (output : StreamChange) (response : Response) (met : AskMeetsNoFault words input dial output response) where
  left_of : (first : LinkRecord) → IfSome dial.before.ahead (λ turn. turn ≡ Some first) → first.left ≡ Some met.bytes
  left_of first given = ap (λ (l : LinkRecord). l.left) (same_link met.link first dial.before.ahead met.ahead given) ∙ met.left

  said : (r : Response) (told s : Status) → r ≡ response → IsReplyStatus r.status told → Says output told r.body s → EndsWithReply response output s
  said r told s is number (inl (same, appended)) =
      inl (subst (λ t. IsReplyStatus response.status t) (sym same) (subst (λ (q : Response). IsReplyStatus q.status told) is number), subst (λ (q : Response). Appends output.before output.after q.body) is appended)
  said r told s is number (inr (wrong, rose, written)) = absurd (met.taken rose)

  asked : (request : List ℕ) (s : Status) (answer : Result Response AskEnd) → Ends request dial.before dial.after answer → Tells answer output s
      → (answer ≡ Err causes.DialFault → Rose dial.faults_before dial.faults_after) → (answer ≡ Err causes.ReadFault → Rose dial.before.lost dial.after.lost)
      → (answer ≡ Err causes.WriteFault → Rose dial.before.lost dial.after.lost) → EndsWithReply response output s
  asked request s (Ok r) ends (told, number, says) dialled read written =
      let (rest, begins) = reads ends.first ends.last met.bytes (Ok r) (left_of ends.first ends.given) ends.exchanged.1 in
      said r told s (one_reply met.bytes r response rest met.rest begins met.begins).0 number says
  asked request s (Err causes.BadReply) ends tells dialled read written =
      let (rest, none) = reads ends.first ends.last met.bytes (Err replies.BadReply) (left_of ends.first ends.given) ends.exchanged.1 in
      absurd (none.0 response met.rest met.begins)
  asked request s (Err causes.DialFault) ends tells dialled read written = absurd (met.dialled (dialled refl))
  asked request s (Err causes.ReadFault) ends tells dialled read written = absurd (met.linked (read refl))
  asked request s (Err causes.WriteFault) ends tells dialled read written = absurd (met.linked (written refl))
  asked request s (Err causes.OutOfMemory) ends tells dialled read written = inr tells

  unread : (s : Status) → ((all : List ℕ) × (input.before ≡ Some all) × (length all ≤ MAX_BODY)) → EndsUnread input output s → EndsWithReply response output s
  unread s (all, told, short) (inl (long, says)) =
      let past : MAX_BODY < length all = subst (λ before. IfSome before (λ bytes. MAX_BODY < length bytes)) told long in
      absurd (omega (arith, past, short))
  unread s body (inr (inl (is, rose, kept))) = absurd (met.read rose)
  unread s body (inr (inr none)) = inr none

  pub ask_ends : (s : Status) → AskRunEnds words input dial output s → EndsWithReply response output s
  ask_ends s (inl (none, says)) = absurd (none met.client met.are)
  ask_ends s (inr (client, are, inl (some, ends, undialled))) = unread s (met.body (same_client words met.client client met.are are ∙ some)) ends
  ask_ends s (inr (client, are, inr (body, is, asks))) = asked _ s asks.answer asks.ends asks.tells asks.dial_cause asks.read_cause asks.write_cause
