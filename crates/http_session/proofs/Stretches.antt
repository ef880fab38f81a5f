-- Exchanges, one after the other.
use Rattle.std.proofs.Common.{◌≡◌, ℕ, ◌+◌, ◌<◌, ◌≤◌, ◌==◌, Bool, false, List, [], ◌∷◌, ◌++◌, length, Option, Some, None, Result, Ok, Err, true, is_some, inl, inr, refl, sym, ap, ◌∙◌, append_assoc, append-nil, arith, length-append, option_to_list}
use Rattle.std.specs.List.{AllByRecursion}
use Rattle.std.proofs.lemmas.Bool.Decides.{nat_tests}
use Rattle.std.specs.Io.KnownBytes.{Appends, Consumes}
use Rattle.std.proofs.KnownBytes.{Appends-trans, Appends-nil, Consumes-trans, Consumes-nil}
use Rattle.dt_base.specs.Faults.{Rose}
use Rattle.httparse.specs.Grammar.{print_request}
use Rattle.http_ends.specs.declared.request.Request.{Request}
use Rattle.http_ends.specs.declared.request.HttpEnd.{HttpEnd}
use Rattle.http_ends.specs.declared.response.Response.{Response}
use Rattle.http_ends.specs.declared.request.HttpEnd.TheVariants as causes
use Rattle.http_ends.specs.Messages.{Holds}
use Rattle.http_ends.specs.Streams.{stream_of, OnStreams, ReadsNext}
use Rattle.http_session.specs.Refusals.{refusal_of}
use Rattle.http_session.specs.declared.ends.SessionEnd.{SessionEnd}
use Rattle.http_session.specs.declared.ends.SessionEnd.TheVariants.{Closed, Refused, Full, ReadFault, WriteFault, OutOfMemory}
use Rattle.http_session.specs.Answers.{IsAnswered, answer_text}
use Rattle.http_session.specs.Sessions.{Exchange, entries_of, texts_of, IsMessage, AreRead, IsWritten, IsCause, EndsFor, EndsWith, Ends, IsOpen, Session}
use Rattle.http_session.specs.Turns.{World, world, RefusesSession, Moves, Responds, Turns, Going, Serves}

-- a stream of which nothing was read
pub stream_of-nil : (left : Option (List ℕ)) → stream_of [] left ≡ left
stream_of-nil None = refl
stream_of-nil (Some bytes) = refl

-- a rise in the last turn is a rise in the whole session
pub rose_before : (a b c : ℕ) → a ≤ b → Rose b c → Rose a c
rose_before a b c h k = omega arith

module _ {E : Type 0} where
  read_more : (stream mid after : Option (List ℕ)) (xs : List (Exchange E)) (x : Exchange E) → AreRead stream xs mid → IsMessage mid x.request after → AreRead stream (xs ++ x ∷ []) after
  read_more stream mid after [] x h k = (after, rw h at k, refl)
  read_more stream mid after (y ∷ ys) x h k = (h.0, h.1, read_more h.0 mid after ys x h.2 k)

  all_more : (P : Exchange E → Type 0) (xs : List (Exchange E)) (x : Exchange E) → AllByRecursion P xs → P x → AllByRecursion P (xs ++ x ∷ [])
  all_more P [] x h k = (k, tt)
  all_more P (y ∷ ys) x h k = (h.0, all_more P ys x h.1 k)

  entries_more : (xs : List (Exchange E)) (x : Exchange E) → entries_of (xs ++ x ∷ []) ≡ entries_of xs ++ option_to_list x.entry
  entries_more [] x = append-nil (option_to_list x.entry)
  entries_more (y ∷ ys) x = ap (λ (es : List E). option_to_list y.entry ++ es) (entries_more ys x) ∙ sym (append_assoc (option_to_list y.entry) (entries_of ys) (option_to_list x.entry))

  texts_more : (xs : List (Exchange E)) (x : Exchange E) → texts_of (xs ++ x ∷ []) ≡ texts_of xs ++ answer_text x.request x.response false
  texts_more [] x = append-nil (answer_text x.request x.response false)
  texts_more (y ∷ ys) x =
      ap (λ (bs : List ℕ). answer_text y.request y.response false ++ bs) (texts_more ys x)
      ∙ sym (append_assoc (answer_text y.request y.response false) (texts_of ys) (answer_text x.request x.response false))

written_weaker : (r s : Type 0) (text out : List ℕ) → (r → s) → IsWritten r text out → IsWritten s text out
written_weaker r s text out f (inl h) = inl h
written_weaker r s text out f (inr h) = inr (h.0, f h.1)

for_weaker : (r s : Type 0) (end : SessionEnd) (cause : HttpEnd) (out : List ℕ) → (r → s) → EndsFor r end cause out → EndsFor s end cause out
for_weaker r s Closed cause out f h = h
for_weaker r s Refused cause out f h = h
for_weaker r s Full cause out f h = h
for_weaker r s ReadFault cause out f h = h
for_weaker r s WriteFault cause out f h = h
for_weaker r s OutOfMemory cause out f h = written_weaker r s _ out f h

-- what became of a closing refusal is what became of its cause
pub refused : (rose : Type 0) (before after : Option (List ℕ)) (response : Response) (cause : HttpEnd) (end : SessionEnd) → refusal_of cause ≡ Some response → RefusesSession rose before after response end
    → (out : List ℕ) × Appends before after out × EndsFor rose end cause out
refused rose before after response cause Closed e h = absurd h.2
refused rose before after response cause Refused e h = (h.0, h.1, (response, e, h.2))
refused rose before after response cause Full e h = absurd h.2
refused rose before after response cause ReadFault e h = absurd h.2
refused rose before after response cause WriteFault e h = (h.0, h.1, (response, e, h.2))
refused rose before after response cause OutOfMemory e h = (h.0, h.1, h.2)

-- what was read tells the cause
cause_of : (stream left : Option (List ℕ)) (read : List ℕ) (cause : HttpEnd) → OnStreams stream (stream_of read left) (ReadsNext (Err cause)) → (cause ≡ causes.ReadFault → Holds read → ⊥) → IsCause stream left cause
cause_of stream left read causes.OutOfMemory h none = tt
cause_of None left read causes.ReadFault h none = tt
cause_of None left read causes.Closed h none = tt
cause_of None left read causes.BadHead h none = tt
cause_of None left read causes.BodyTooLong h none = tt
cause_of None left read causes.TransferCoding h none = tt
cause_of None left read causes.CutOff h none = tt
cause_of (Some bytes) None read causes.ReadFault h none = absurd h
cause_of (Some bytes) None read causes.Closed h none = absurd h
cause_of (Some bytes) None read causes.BadHead h none = absurd h
cause_of (Some bytes) None read causes.BodyTooLong h none = absurd h
cause_of (Some bytes) None read causes.TransferCoding h none = absurd h
cause_of (Some bytes) None read causes.CutOff h none = absurd h
cause_of (Some bytes) (Some rest) read causes.ReadFault h none = (read, sym h, none refl)
cause_of (Some bytes) (Some rest) read causes.Closed h none = (h.0, refl)
cause_of (Some bytes) (Some rest) read causes.BadHead h none = (h.0, h.1, refl)
cause_of (Some bytes) (Some rest) read causes.BodyTooLong h none = (h.0, refl)
cause_of (Some bytes) (Some rest) read causes.TransferCoding h none = (h.0, refl)
cause_of (Some bytes) (Some rest) read causes.CutOff h none = (h.0, refl)

-- where no request was read, all that was read is still there
unread : (stream left : Option (List ℕ)) (read : List ℕ) (cause : HttpEnd) → OnStreams stream (stream_of read left) (ReadsNext (Err cause)) → Consumes stream left read
unread None left read cause h = tt
unread (Some bytes) None read cause h = absurd h
unread (Some bytes) (Some rest) read causes.Closed h = sym h.1
unread (Some bytes) (Some rest) read causes.BadHead h = sym h.2
unread (Some bytes) (Some rest) read causes.BodyTooLong h = sym h.1
unread (Some bytes) (Some rest) read causes.TransferCoding h = sym h.1
unread (Some bytes) (Some rest) read causes.CutOff h = sym h.1
unread (Some bytes) (Some rest) read causes.ReadFault h = sym h
unread (Some bytes) (Some rest) read causes.OutOfMemory h = sym h

-- a message is the front of its stream
message : (stream after : Option (List ℕ)) (request : Request) → IsMessage stream request after → (took : List ℕ) × Consumes stream after took
message None after request h = ([], tt)
message (Some bytes) None request h = absurd h
message (Some bytes) (Some rest) request h =
    (print_request h.head ++ request.body, h.begins.reads.1 ∙ sym (append_assoc (print_request h.head) request.body rest))

messages : {E : Type 0} (stream after : Option (List ℕ)) (xs : List (Exchange E)) → AreRead stream xs after → (took : List ℕ) × Consumes stream after took
messages stream after [] h = ([], rw h (Consumes-nil stream))
messages stream after (x ∷ xs) h =
    let first = message stream h.0 x.request h.1 in
    let more = messages h.0 after xs h.2 in
    (first.0 ++ more.0, Consumes-trans stream h.0 after first.0 more.0 first.1 more.1)

-- the bytes of a stream that are read are its front
pub held : (left : Option (List ℕ)) (read : List ℕ) → Consumes (stream_of read left) left read
held None read = tt
held (Some rest) read = refl

module _ {D E : Type 0} (goes : D → List E → D → Type 0) (own : Request → Response → Type 0) (enters : Request → E → Response → Type 0) where
  pub with_weaker : (r s : Type 0) (last : Bool) (end : SessionEnd) (request : Request) (es : List E) (out : List ℕ) → (r → s) → EndsWith own enters r last end request es out → EndsWith own enters s last end request es out
  with_weaker r s last Closed request es out f h = h
  with_weaker r s last Refused request es out f h = h
  with_weaker r s last Full request es out f h = h
  with_weaker r s last ReadFault request es out f h = h
  with_weaker r s last WriteFault request es out f h = h
  with_weaker r s last OutOfMemory request es out f (inl h) = inl (h.0, written_weaker r s _ out f h.1)
  with_weaker r s last OutOfMemory request es out f (inr h) = inr h

  pub ends_weaker : (r s : Type 0) (last : Bool) (end : SessionEnd) (stream left : Option (List ℕ)) (es : List E) (out : List ℕ) → (r → s) → Ends own enters r last end stream left es out → Ends own enters s last end stream left es out
  ends_weaker r s last end stream left es out f (inl h) = inl (h.0, h.1, h.2, with_weaker r s last end h.0 es out f h.3)
  ends_weaker r s last end stream left es out f (inr h) = inr (h.0, h.1, h.2, for_weaker r s end h.0 out f h.3)

  -- a session whose sink's count rose is one of which that is not told
  pub session_weaker : (r s : Type 0) (end : SessionEnd) (stream left : Option (List ℕ)) (es : List E) (out : List ℕ) → (r → s) → Session own enters r end stream left es out → Session own enters s end stream left es out
  session_weaker r s end stream left es out f h = record {
    took = h.took;
    exchanges = h.exchanges;
    rest = h.rest;
    last_es = h.last_es;
    last_out = h.last_out;
    consumed = h.consumed;
    read = h.read;
    open_all = h.open_all;
    few = h.few;
    last = ends_weaker r s (length h.exchanges + 1 == 1000000) end h.rest left h.last_es h.last_out f h.last;
    all_es = h.all_es;
    all_out = h.all_out;
  }

  pub moves_trans : ((s t u : D) (es fs : List E) → goes s es t → goes t fs u → goes s (es ++ fs) u)
      → (a b c : World D) (es fs : List E) (out text : List ℕ) → Moves goes a b es out → Moves goes b c fs text → Moves goes a c (es ++ fs) (out ++ text)
  moves_trans on a b c es fs out text m n = record {
    goes_by = on a.service b.service c.service es fs m.goes_by n.goes_by;
    appended = Appends-trans a.taken b.taken c.taken out text m.appended n.appended;
  }

  -- an entry is in hand
  pub in_hand : (request : Request) (entry : Option E) (response : Response) → is_some entry ≡ true → IsAnswered own enters request entry response
      → (e : E) × (r : Response) × enters request e r × (option_to_list entry ≡ e ∷ [])
  in_hand request None response e h = cc
  in_hand request (Some entry) response e h = (entry, response, h, refl)

  -- a turn is what came next and what became of it
  pub one_turn : (rose : Type 0) (last : Bool) (stream left : Option (List ℕ)) (read : List ℕ) (next : Result Request HttpEnd) (end : Option SessionEnd) (before after : Option (List ℕ)) (s t : D)
      → OnStreams stream (stream_of read left) (ReadsNext next) → (next ≡ Err causes.ReadFault → Holds read → ⊥)
      → Responds goes own enters rose last next (world None before s) (world None after t) end
      → Turns goes own enters rose last (world stream before s) (world (stream_of read left) after t) left end
  one_turn rose last stream left read (Ok request) None before after s t h none k =
      let answer = k.3 in
      let moves = rw (answer.3, answer.4) at k.2 in (
        record { request = request; entry = answer.0; response = answer.1 },
        h,
        (answer.2, k.4),
        k.5,
        record { goes_by = moves.goes_by; appended = moves.appended },
      )
  one_turn rose last stream left read (Ok request) (Some end) before after s t h none k =
      let first = message stream (stream_of read left) request h in (
        k.0,
        k.1,
        record { goes_by = k.2.goes_by; appended = k.2.appended },
        inl (request, stream_of read left, h, k.3),
        (first.0 ++ read, Consumes-trans stream (stream_of read left) left first.0 read first.1 (held left read)),
      )
  one_turn rose last stream left read (Err cause) None before after s t h none k = absurd k
  one_turn rose last stream left read (Err cause) (Some end) before after s t h none k = (
    [],
    k.0,
    record { goes_by = k.1.goes_by; appended = k.1.appended },
    inr (cause, cause_of stream left read cause h (λ is. none (ap Err is)), refl, k.2),
    (read, unread stream left read cause h),
  )

  pub turn_weaker : (r s : Type 0) (last : Bool) (a b : World D) (left : Option (List ℕ)) (end : Option SessionEnd) → (r → s) → Turns goes own enters r last a b left end → Turns goes own enters s last a b left end
  turn_weaker r s last a b left None f h = h
  turn_weaker r s last a b left (Some end) f h = (h.0, h.1, h.2, ends_weaker r s last end a.bytes left h.0 h.1 f h.3, h.4)

  -- no turn yet
  pub none_yet : ((s : D) → goes s [] s) → (a b : World D) → b.bytes ≡ a.bytes → b.taken ≡ a.taken → b.service ≡ a.service → Going goes own enters 0 a b
  none_yet stays a b bytes taken service = record {
    exchanges = [];
    read = bytes;
    open_all = tt;
    count = refl;
    moves = record { goes_by = rw service (stays a.service); appended = rw taken (Appends-nil a.taken) };
  }

  -- one more turn
  pub one_more : ((s t u : D) (es fs : List E) → goes s es t → goes t fs u → goes s (es ++ fs) u)
      → (n : ℕ) (rose : Type 0) (last : Bool) (a b c : World D) (left : Option (List ℕ)) → Going goes own enters n a b → Turns goes own enters rose last b c left None → Going goes own enters (n + 1) a c
  one_more on n rose last a b c left g t = record {
    exchanges = g.exchanges ++ t.0 ∷ [];
    read = read_more a.bytes b.bytes c.bytes g.exchanges t.0 g.read t.1;
    open_all = all_more (IsOpen own enters) g.exchanges t.0 g.open_all t.2;
    count = length-append g.exchanges (t.0 ∷ []) ∙ ap (λ k. k + 1) g.count;
    moves = rw (entries_more g.exchanges t.0, texts_more g.exchanges t.0) (moves_trans on a b c _ _ _ _ g.moves t.4);
  }

  -- the last turn
  pub last_turn : ((s t u : D) (es fs : List E) → goes s es t → goes t fs u → goes s (es ++ fs) u)
      → (n : ℕ) (r rose : Type 0) (end : SessionEnd) (a b c : World D) (left : Option (List ℕ)) → (r → rose) → n < 1000000 → Going goes own enters n a b
      → Turns goes own enters r (n + 1 == 1000000) b c left (Some end) → Serves goes own enters rose a (world left c.taken c.service) end
  last_turn on n r rose end a b c left f few g t =
      let both = moves_trans on a b c _ t.0 _ t.1 g.moves t.2 in
      let first = messages a.bytes b.bytes g.exchanges g.read in (
        entries_of g.exchanges ++ t.0,
        texts_of g.exchanges ++ t.1,
        record { goes_by = both.goes_by; appended = both.appended },
        record {
          took = first.0 ++ t.4.0;
          exchanges = g.exchanges;
          rest = b.bytes;
          last_es = t.0;
          last_out = t.1;
          consumed = Consumes-trans a.bytes b.bytes left first.0 t.4.0 first.1 t.4.1;
          read = g.read;
          open_all = g.open_all;
          few = rw g.count few;
          last = rw g.count (ends_weaker r rose (n + 1 == 1000000) end b.bytes left t.0 t.1 f t.3);
          all_es = refl;
          all_out = refl;
        },
      )

pub not_yet_last : (n : ℕ) → n < 1000000 → (n + 1 == 1000000) ≡ false → n + 1 < 1000000
not_yet_last n few other = grind (arith, nat_tests)
