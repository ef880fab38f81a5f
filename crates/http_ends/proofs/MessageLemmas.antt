-- From what was kept of a head and what has come to the request that is next in the stream.
use Rattle.std.proofs.Common.{◌≡◌, ◌≢◌, ℕ, ◌+◌, ◌-◌, ◌<◌, ◌≤◌, true, false, List, [], ◌∷◌, ◌++◌, length, take, drop, slice_range, Option, Err, refl, sym, ap, ◌∙◌, subst, arith, append-nil, append_assoc, length-append, length-drop, length-take, take-append-drop}
use Rattle.std.specs.Prelude.{IfSome, IsUtf8, ◌==◌}
use Rattle.std.specs.List.{before_first, after_first}
use Rattle.std.specs.Io.KnownBytes.{Consumes, IsAtEnd}
use Rattle.std.proofs.lemmas.Bool.Decides.{nat_tests}
use Rattle.std.proofs.lemmas.List.{take-append-le, drop-append-le, drop-drop}
use Rattle.std.proofs.lemmas.List.Elements.{All-weaker}
use Rattle.std.proofs.lemmas.Str.{IsUtf8-from_ascii}
use Rattle.std.proofs.lemmas.Str.Ascii.{IsAscii-from_all}
use Rattle.httparse.specs.declared.spans.Span.{Span}
use Rattle.httparse.specs.Grammar.{RequestHead, print_request, is_token_byte, IsToken}
use Rattle.httparse.specs.Spans.{span_bytes, IsWithin}
use Rattle.httparse.proofs.GrammarLemmas.{request_unique, ReadsRequest-append}
use Rattle.httparse.proofs.RunLemmas.{length-slice_range}
use Rattle.http_ends.specs.declared.request.Request.{Request}
use Rattle.http_ends.specs.declared.request.HttpEnd.{HttpEnd}
use Rattle.http_ends.specs.declared.request.HttpEnd.TheVariants.{Closed, BadHead, BodyTooLong, TransferCoding, CutOff, ReadFault, OutOfMemory}
use Rattle.http_ends.specs.declared.request_head.Head.{Head}
use Rattle.http_ends.specs.Fields.{codings}
use Rattle.http_ends.specs.Heads.{fields_of, BeginsWith, body_length}
use Rattle.http_ends.specs.Messages.{BeginsWithMessage, IsCoded, IsTooLong, IsCutOff, HasNoHead, Holds, message, coded, too_long}
use Rattle.http_ends.specs.Streams.{stream_of, OnStreams, ReadsNext}
use Rattle.http_ends.specs.reading.Judging.{is_some_list, IsHeadAt, HeadEnds}
use Rattle.http_ends.specs.reading.Reads.{IsUnread}
use Rattle.http_ends.proofs.SliceLemmas.{slice_range-front}
use Rattle.http_ends.proofs.ReadingLemmas.{on_streams}

-- ---- what follows

pub BeginsWith-append : (bytes more : List ℕ) (h : RequestHead) (after : List ℕ) → BeginsWith bytes h after → BeginsWith (bytes ++ more) h (after ++ more)
BeginsWith-append bytes more h after begins = record { reads = ReadsRequest-append bytes h after more begins.reads; within = begins.within }

pub span-append : (bytes more : List ℕ) (len : ℕ) (s : Span) → len ≤ length bytes → IsWithin len s → span_bytes (bytes ++ more) s ≡ span_bytes bytes s
span-append bytes more len s fits within =
    slice_range-front (bytes ++ more) bytes s.start s.end (length bytes) (omega (arith, within.1)) (take-append-le (length bytes) bytes more (omega arith))

pub IsHeadAt-append : (bytes more new : List ℕ) (head : Head) (h : RequestHead) → new ≡ bytes ++ more → IsHeadAt bytes head h → IsHeadAt new head h
IsHeadAt-append bytes more new head h grown at =
    let behind = BeginsWith-append bytes more h (drop head.len bytes) at.begins in
    let whole : IsHeadAt (bytes ++ more) head h = record {
      begins = subst (λ after. BeginsWith (bytes ++ more) h after) (sym (drop-append-le head.len bytes more at.fits)) behind;
      fits = omega (arith, at.fits, length-append bytes more);
      method_within = at.method_within;
      target_within = at.target_within;
      method = span-append bytes more head.len head.method at.fits at.method_within ∙ at.method;
      target = span-append bytes more head.len head.target at.fits at.target_within ∙ at.target;
      body = at.body;
      coded = at.coded;
      close = at.close;
    } in
    subst (λ bs. IsHeadAt bs head h) (sym grown) whole

-- ---- heads that are refused for what they say of the body

no_codings : (values : List (List ℕ)) → is_some_list values ≡ false → values ≡ []
no_codings [] none = refl
no_codings (value ∷ values) none = cc

some_codings : (values : List (List ℕ)) → is_some_list values ≡ true → values ≢ []
some_codings [] some = cc
some_codings (value ∷ values) some = λ none. cc

pub uncoded : {bytes : List ℕ} {head : Head} {h : RequestHead} → IsHeadAt bytes head h → head.coded ≡ false → codings (fields_of h) ≡ []
uncoded {h} at none = no_codings (codings (fields_of h)) (sym at.coded ∙ none)

pub is_coded : (bytes more : List ℕ) (head : Head) (h : RequestHead) → IsHeadAt bytes head h → head.coded ≡ true → IsCoded (bytes ++ more)
is_coded bytes more head h at some = (h, _, BeginsWith-append bytes more h _ at.begins, some_codings (codings (fields_of h)) (sym at.coded ∙ some))

pub is_too_long : (bytes more : List ℕ) (head : Head) (h : RequestHead) → IsHeadAt bytes head h → head.coded ≡ false → 4194304 < head.body → IsTooLong (bytes ++ more)
is_too_long bytes more head h at none large = (h, _, BeginsWith-append bytes more h _ at.begins, uncoded at none, omega (arith, at.body))

pub is_cut_off : (bytes more : List ℕ) (head : Head) (h : RequestHead) → IsHeadAt bytes head h → head.coded ≡ false → head.body ≤ 4194304 → length bytes < head.len + head.body → more ≡ []
    → IsCutOff (bytes ++ more)
is_cut_off bytes more head h at none small short end =
    let cut : IsCutOff bytes = (h, drop head.len bytes, at.begins, uncoded at none, omega (arith, at.body), omega (arith, at.body, at.fits, length-drop head.len bytes)) in
    subst IsCutOff (sym (ap (λ bs. bytes ++ bs) end ∙ append-nil bytes)) cut

-- ---- a message

pub body_and_rest : (bytes more : List ℕ) (len body : ℕ) → drop len bytes ++ more ≡ slice_range bytes len (len + body) ++ (drop (len + body) bytes ++ more)
body_and_rest bytes more len body =
    let size : len + body - len ≡ body = omega arith in
    ap (λ bs. bs ++ more) (sym (take-append-drop body (drop len bytes)) ∙ λ i. take (sym size i) (drop len bytes) ++ drop-drop body len bytes i)
    ∙ append_assoc (slice_range bytes len (len + body)) (drop (len + body) bytes) more

-- what the request was made of
pub record IsMadeOf (r : Request) (bytes : List ℕ) (head : Head) : Type 0 where
  pub method : r.method ≡ span_bytes bytes head.method
  pub path : r.path ≡ before_first (λ b. b == 63) (span_bytes bytes head.target)
  pub query : r.query ≡ after_first (λ b. b == 63) (span_bytes bytes head.target)
  pub body : r.body ≡ slice_range bytes head.len (head.len + head.body)
  pub close : r.close ≡ head.close

pub is_message : (bytes more : List ℕ) (head : Head) (h : RequestHead) (r : Request) → IsHeadAt bytes head h → head.coded ≡ false → head.body ≤ 4194304 → head.len + head.body ≤ length bytes
    → IsMadeOf r bytes head → BeginsWithMessage (bytes ++ more) r (drop (head.len + head.body) bytes ++ more)
is_message bytes more head h r at none small room made =
    let rest = drop (head.len + head.body) bytes ++ more in
    let behind : drop head.len bytes ++ more ≡ r.body ++ rest = body_and_rest bytes more head.len head.body ∙ ap (λ bs. bs ++ rest) (sym made.body) in
    record {
      head = h;
      begins = subst (λ after. BeginsWith (bytes ++ more) h after) behind (BeginsWith-append bytes more h _ at.begins);
      uncoded = uncoded at none;
      small = omega (arith, at.body);
      size = omega (arith, ap length made.body, length-slice_range bytes head.len (head.len + head.body) (omega arith) room, at.body);
      parts = record {
        method = made.method ∙ at.method;
        path = made.path ∙ ap (before_first (λ b. b == 63)) at.target;
        query = made.query ∙ ap (after_first (λ b. b == 63)) at.target;
        close = made.close ∙ at.close;
      };
    }

-- ---- what the bytes hold

pub holds_head : {bytes : List ℕ} → Holds bytes → (h : RequestHead) × (after : List ℕ) × BeginsWith bytes h after
holds_head (message r rest whole) = (whole.head, _, whole.begins)
holds_head (coded some) = (some.0, some.1, some.2)
holds_head (too_long some) = (some.0, some.1, some.2)

-- the length of the head that stands there
head_len : {bytes : List ℕ} {head : Head} {h : RequestHead} → IsHeadAt bytes head h → head.len ≡ length (print_request h)
head_len {bytes} {head} {h} at =
    omega (arith, at.fits, ap length at.begins.reads.1, length-append (print_request h) (drop head.len bytes), length-drop head.len bytes)

-- bytes that hold a message hold all that its head says
pub held : (bytes : List ℕ) (head : Head) (h : RequestHead) → IsHeadAt bytes head h → head.coded ≡ false → head.body ≤ 4194304 → Holds bytes → head.len + head.body ≤ length bytes
held bytes head h at none small (message r rest whole) =
    let same = request_unique bytes h whole.head _ _ at.begins.reads whole.begins.reads in
    omega (arith, at.body, at.fits, whole.size, ap (λ k. body_length k) same.0, ap length same.1, length-append r.body rest, length-drop head.len bytes)
held bytes head h at none small (coded some) =
    let same = request_unique bytes h some.0 _ _ at.begins.reads some.2.reads in
    absurd (some.3 (ap (λ k. codings (fields_of k)) (sym same.0) ∙ uncoded at none))
held bytes head h at none small (too_long some) =
    let same = request_unique bytes h some.0 _ _ at.begins.reads some.2.reads in
    omega (arith, some.4, at.body, ap (λ k. body_length k) same.0)

-- ---- an answer about the head alone

pub head_ends : (old : List ℕ) (before : Option (List ℕ)) (mid : List ℕ) (after : Option (List ℕ)) (bytes : List ℕ) (e : HttpEnd) → mid ≡ old ++ bytes → Consumes before after bytes → HeadEnds mid after e
    → OnStreams (stream_of old before) (stream_of mid after) (ReadsNext (Err e))
head_ends old before mid after bytes Closed grown taken ends =
    on_streams old before mid mid after bytes (ReadsNext (Err Closed)) grown taken
    (λ more is. (ap (λ bs. bs ++ more) ends.0 ∙ subst IsAtEnd is ends.1, refl))
head_ends old before mid after bytes BadHead grown taken ends =
    on_streams old before mid mid after bytes (ReadsNext (Err BadHead)) grown taken
    (λ more is. (λ none. ends.0 (nil_front mid more none), subst (λ left. IfSome left (λ bs. HasNoHead (mid ++ bs))) is ends.1, refl))
  where
    nil_front : (xs ys : List ℕ) → xs ++ ys ≡ [] → xs ≡ []
    nil_front [] ys none = refl
    nil_front (x ∷ xs) ys none = cc
head_ends old before mid after bytes BodyTooLong grown taken ends = absurd ends
head_ends old before mid after bytes TransferCoding grown taken ends = absurd ends
head_ends old before mid after bytes CutOff grown taken ends = absurd ends
head_ends old before mid after bytes ReadFault grown taken ends = on_streams old before mid mid after bytes (ReadsNext (Err ReadFault)) grown taken (λ more is. refl)
head_ends old before mid after bytes OutOfMemory grown taken ends = on_streams old before mid mid after bytes (ReadsNext (Err OutOfMemory)) grown taken (λ more is. refl)

-- ---- texts and limits

token_is_ascii : (b : ℕ) → is_token_byte b ≡ true → b < 128
unfolding is_token_byte
token_is_ascii b token = grind (arith, nat_tests)

pub token_text : (bytes : List ℕ) → IsToken bytes → IsUtf8 bytes
token_text bytes token =
    IsUtf8-from_ascii bytes (IsAscii-from_all bytes (All-weaker (λ b. is_token_byte b ≡ true) (λ b. b < 128) token_is_ascii bytes token.1))

-- the path and the query are shorter than the head
pub target_within : (bytes : List ℕ) (head : Head) (h : RequestHead) (r : Request) → IsHeadAt bytes head h → IsMadeOf r bytes head → length r.path + length r.query ≤ 16384
target_within bytes head h r at made =
    let target = span_bytes bytes head.target in
    let size = length-slice_range bytes head.target.start head.target.end at.target_within.0 (omega (arith, at.fits, at.target_within.1)) in
    omega (arith, ap length made.path, ap length made.query, split_within target, size, at.target_within.1, head_len at, at.begins.within.size)
  where
    split_within : (bs : List ℕ) → length (before_first (λ b. b == 63) bs) + length (after_first (λ b. b == 63) bs) ≤ length bs
    split_within bs = omega (arith, length-take {A = ℕ}, length-drop {A = ℕ})

-- where the bytes held a message at first, nothing was read
pub unread : {S X : Type 0} (before mid after : S) (old now new : List ℕ) (head : Head) → ((h : RequestHead) × IsHeadAt now head h) → head.coded ≡ false → head.body ≤ 4194304
    → ((h : RequestHead) (behind : List ℕ) → BeginsWith old h behind → IsUnread before mid old now) → (head.len + head.body ≤ length now → IsUnread mid after now new × X)
    → Holds old → after ≡ before
unread before mid after old now new head found none small first second holds =
    let begins = holds_head holds in
    let still = first begins.0 begins.1 begins.2 in
    let room = held old head found.0 (subst (λ bs. IsHeadAt bs head found.0) still.bytes found.1) none small holds in
    (second (omega (arith, room, ap length still.bytes))).0.link ∙ still.link
