-- From what the parser found of a reply's head, and what has come, to the reply that the stream begins with.
use Rattle.std.proofs.Common.{◌≡◌, ℕ, ◌+◌, ◌<◌, ◌≤◌, Bool, true, false, ◌&&◌, List, [], ◌∷◌, ◌++◌, length, take, drop, map, slice_range, Option, Some, None, Err, cond, refl, sym, ap, ◌∙◌, subst, arith, append-nil, length-append, length-drop, length-take-le}
use Rattle.std.specs.Prelude.{nat_le, ◌==◌, unwrap_or, IsTrue, IfSome, codes, if◌then◌else◌}
use Rattle.std.specs.Io.KnownBytes.{Consumes}
use Rattle.std.proofs.lemmas.Bool.{and_parts, leb-true}
use Rattle.std.proofs.lemmas.List.{length-map, drop-append-le}
use Rattle.httparse.specs.declared.spans.Span.{Span}
use Rattle.httparse.specs.declared.spans.HeaderSpan.{HeaderSpan}
use Rattle.httparse.specs.declared.spans.ResponseSpans.{ResponseSpans}
use Rattle.httparse.specs.Grammar.{ResponseHead, print_response, ReadsResponse, HasNoResponse, status_code}
use Rattle.httparse.specs.Spans.{header_bytes, IsResponseAt, IsResponseWithin, IsWithin}
use Rattle.httparse.proofs.GrammarLemmas.{response_unique, response_prefix_free, ReadsResponse-append}
use Rattle.httparse.proofs.RunLemmas.{length-slice_range}
use Rattle.http_ends.specs.declared.fields.Found.{Found}
use Rattle.http_ends.specs.declared.reply_head.ReplyHead.{ReplyHead}
use Rattle.http_ends.specs.declared.response.Response.{Response}
use Rattle.http_ends.specs.declared.response.ReplyEnd.{ReplyEnd}
use Rattle.http_ends.specs.declared.response.ReplyEnd.TheVariants.{BadReply, ReadFault, OutOfMemory}
use Rattle.http_ends.specs.Fields.{values_named, is_framed, length_said, lengths}
use Rattle.http_ends.specs.ReplyReading.{reply_fields, reply_length, IsAllow, BeginsWithReply, HasNoReply, AnswersReply}
use Rattle.http_ends.specs.Streams.{stream_of, OnStreams}
use Rattle.http_ends.specs.reading.Finding.{FindsValue, Finds}
use Rattle.http_ends.specs.reading.JudgingReplies.{reply_size, FindsFirstValue, AllowIs, IsReplyHeadAt, ReplyEnds}
use Rattle.http_ends.proofs.HeadLemmas.{front_within}
use Rattle.http_ends.proofs.MessageLemmas.{span-append, body_and_rest}
use Rattle.http_ends.proofs.ReadingLemmas.{on_streams}

-- ---- the size of the body

record IsSized (spans : ResponseSpans) (fields : List (List ℕ × List ℕ)) (size : Option ℕ) : Type 0 where
  short : spans.len ≤ 16384
  framed : IsTrue (is_framed (lengths fields))
  small : unwrap_or (length_said (lengths fields)) 0 ≤ 134217728
  is : size ≡ (if spans.code == 204 then Some 0 else length_said (lengths fields))

sized : (spans : ResponseSpans) (fields : List (List ℕ × List ℕ)) (size : ℕ) → reply_size spans fields ≡ Some size → IsSized spans fields (Some size)
sized spans fields size is = by_test (nat_le spans.len 16384 && (is_framed (lengths fields) && nat_le (unwrap_or (length_said (lengths fields)) 0) 134217728)) refl is
  where
    by_test : (t : Bool) → (nat_le spans.len 16384 && (is_framed (lengths fields) && nat_le (unwrap_or (length_said (lengths fields)) 0) 134217728)) ≡ t
        → cond t (if spans.code == 204 then Some 0 else length_said (lengths fields)) None ≡ Some size → IsSized spans fields (Some size)
    by_test true all some =
        let first = and_parts (nat_le spans.len 16384) _ all in
        let second = and_parts (is_framed (lengths fields)) _ first.1 in
        record { short = leb-true spans.len 16384 first.0; framed = second.0; small = leb-true _ 134217728 second.1; is = sym some }
    by_test false none some = cc

-- where the size is not there, none of these heads has a body that is said
unsized : (spans : ResponseSpans) (fields : List (List ℕ × List ℕ)) (size : ℕ) → reply_size spans fields ≡ None → spans.len ≤ 16384 → IsTrue (is_framed (lengths fields))
    → unwrap_or (length_said (lengths fields)) 0 ≤ 134217728 → (if spans.code == 204 then Some 0 else length_said (lengths fields)) ≡ Some size → ⊥
unsized spans fields size none short framed small some = grind arith

-- ---- the parser's answer

fields_fit : (bytes : List ℕ) (headers : List HeaderSpan) (spans : ResponseSpans) (h : ResponseHead) → IsResponseWithin bytes headers spans → IsResponseAt bytes headers spans h
    → length headers ≡ 64 → length h.fields ≤ 64
fields_fit bytes headers spans h inside at room =
    let count = ap length at.fields in
    omega (arith, simp length-map at count, length-take-le spans.headers headers inside.section.count_fits, inside.section.count_fits)

no_larger : (said : Option ℕ) (size : ℕ) (code : ℕ) → unwrap_or said 0 ≤ 134217728 → Some size ≡ (if code == 204 then Some 0 else said) → size ≤ 134217728
no_larger said size code small is = by_test (code == 204) is
  where
    by_test : (t : Bool) → Some size ≡ cond t (Some 0) said → size ≤ 134217728
    by_test true is = let none : size ≡ 0 = cc in omega arith
    by_test false is = omega (arith, small, ap (λ o. unwrap_or o 0) is)

allow_found : (bytes : List ℕ) (first : Option Span) (again : Bool) (values : List (List ℕ)) → FindsValue bytes first again values → FindsFirstValue bytes (length bytes) first values
allow_found bytes None again values finds = finds
allow_found bytes (Some s) false values finds = (finds.0, ([], finds.1))
allow_found bytes (Some s) true values finds = (finds.0, (finds.1.0 ∷ finds.1.1, finds.1.2))

pub reply_found : (bytes : List ℕ) (headers : List HeaderSpan) (spans : ResponseSpans) (size : ℕ) (found : Found) → IsResponseWithin bytes headers spans → ((h : ResponseHead) × IsResponseAt bytes headers spans h)
    → length headers ≡ 64 → reply_size spans (map (header_bytes bytes) (take spans.headers headers)) ≡ Some size
    → Finds bytes found (values_named (codes "allow") (map (header_bytes bytes) (take spans.headers headers)))
    → (h : ResponseHead) × IsReplyHeadAt bytes (record { status = spans.code; allow = found.first; len = spans.len; body = size }) h
reply_found bytes headers spans size found inside head room some finds =
    let h = head.0 in
    let at = head.1 in
    let k = sized spans (map (header_bytes bytes) (take spans.headers headers)) size some in (
      h,
      record {
        reads = at.reads;
        within = record {
          size = omega (arith, at.len, k.short);
          few = fields_fit bytes headers spans h inside at room;
          framed = subst (λ fs. IsTrue (is_framed (lengths fs))) at.fields k.framed;
          small = subst (λ fs. unwrap_or (length_said (lengths fs)) 0 ≤ 134217728) at.fields k.small;
        };
        fits = inside.section.len_fits;
        size = sym (k.is ∙ ap (λ fs. if spans.code == 204 then Some 0 else length_said (lengths fs)) at.fields ∙ ap (λ code. if code == 204 then Some 0 else length_said (lengths (reply_fields h))) at.code);
        small = no_larger _ size spans.code k.small k.is;
        status = at.code;
        allow = subst (λ fs. FindsFirstValue bytes (length bytes) found.first (values_named (codes "allow") fs)) at.fields (allow_found bytes found.first found.again _ finds);
      },
    )

pub reply_refused : (bytes : List ℕ) (headers : List HeaderSpan) (spans : ResponseSpans) → ((h : ResponseHead) × IsResponseAt bytes headers spans h)
    → reply_size spans (map (header_bytes bytes) (take spans.headers headers)) ≡ None → (more : List ℕ) → HasNoReply (bytes ++ more)
reply_refused bytes headers spans found none more r rest whole =
    let at = found.1 in
    let same = (response_prefix_free bytes more found.0 whole.head _ (r.body ++ rest) at.reads whole.reads).0 in
    let fields : map (header_bytes bytes) (take spans.headers headers) ≡ reply_fields whole.head = at.fields ∙ ap reply_fields same in
    let code : spans.code ≡ status_code whole.head = at.code ∙ ap (λ k. status_code k) same in
    unsized spans (map (header_bytes bytes) (take spans.headers headers)) (length r.body) none
    (omega (arith, at.len, ap (λ k. length (print_response k)) same, whole.within.size))
    (subst (λ fs. IsTrue (is_framed (lengths fs))) (sym fields) whole.within.framed)
    (subst (λ fs. unwrap_or (length_said (lengths fs)) 0 ≤ 134217728) (sym fields) whole.within.small)
    (ap (λ fs. if spans.code == 204 then Some 0 else length_said (lengths fs)) fields ∙ ap (λ n. if n == 204 then Some 0 else length_said (lengths (reply_fields whole.head))) code ∙ whole.size)

-- an error of the parser says that each head has too many fields
pub reply_never : (bytes : List ℕ) → ((more : List ℕ) (h : ResponseHead) (rest : List ℕ) → ReadsResponse (bytes ++ more) h rest → 64 < length h.fields) → (more : List ℕ) → HasNoReply (bytes ++ more)
reply_never bytes over more r rest whole = omega (arith, over more whole.head (r.body ++ rest) whole.reads, whole.within.few)

-- where so many bytes hold no head, none follows that is within the limits
pub no_longer_reply : (bytes more : List ℕ) → HasNoResponse bytes → 16384 ≤ length bytes → HasNoReply (bytes ++ more)
no_longer_reply bytes more none many r rest whole =
    none whole.head _ (whole.reads.0, front_within bytes more (print_response whole.head) (r.body ++ rest) whole.reads.1 (omega (arith, whole.within.size)))

-- ---- what follows

FindsFirst-append : (bytes more : List ℕ) (first : Option Span) (values : List (List ℕ)) → FindsFirstValue bytes (length bytes) first values → FindsFirstValue (bytes ++ more) (length (bytes ++ more)) first values
FindsFirst-append bytes more None values finds = finds
FindsFirst-append bytes more (Some s) values finds =
    let same = span-append bytes more (length bytes) s (omega arith) finds.0 in
    ((finds.0.0, omega (arith, finds.0.1, length-append bytes more)), (finds.1.0, finds.1.1 ∙ ap (λ v. v ∷ finds.1.0) (sym same)))

pub IsReplyHeadAt-append : (bytes more new : List ℕ) (head : ReplyHead) (h : ResponseHead) → new ≡ bytes ++ more → IsReplyHeadAt bytes head h → IsReplyHeadAt new head h
IsReplyHeadAt-append bytes more new head h grown at =
    let behind = ReadsResponse-append bytes h (drop head.len bytes) more at.reads in
    let whole : IsReplyHeadAt (bytes ++ more) head h = record {
      reads = subst (λ after. ReadsResponse (bytes ++ more) h after) (sym (drop-append-le head.len bytes more at.fits)) behind;
      within = at.within;
      fits = omega (arith, at.fits, length-append bytes more);
      size = at.size;
      small = at.small;
      status = at.status;
      allow = FindsFirst-append bytes more head.allow _ at.allow;
    } in
    subst (λ bs. IsReplyHeadAt bs head h) (sym grown) whole

-- ---- a reply

allow_is : (bytes : List ℕ) (first : Option Span) (values : List (List ℕ)) (allow : Option (List ℕ)) → FindsFirstValue bytes (length bytes) first values → AllowIs bytes first allow → IsAllow values allow
allow_is bytes None values allow finds is = rw finds is
allow_is bytes (Some s) values None finds is = rw finds.1.1 is
allow_is bytes (Some s) values (Some allow) finds is = rw finds.1.1 is

pub allow_within : (bytes : List ℕ) (first : Option Span) (values : List (List ℕ)) → FindsFirstValue bytes (length bytes) first values → IfSome first (IsWithin (length bytes))
allow_within bytes None values finds = tt
allow_within bytes (Some s) values finds = finds.0

-- what the reply was made of
pub record IsReplyOf (r : Response) (bytes : List ℕ) (head : ReplyHead) : Type 0 where
  pub status : r.status ≡ head.status
  pub allow : AllowIs bytes head.allow r.allow
  pub body : r.body ≡ slice_range bytes head.len (head.len + head.body)

pub is_reply : (bytes more : List ℕ) (head : ReplyHead) (h : ResponseHead) (r : Response) → IsReplyHeadAt bytes head h → head.len + head.body ≤ length bytes → IsReplyOf r bytes head
    → BeginsWithReply (bytes ++ more) r (drop (head.len + head.body) bytes ++ more)
is_reply bytes more head h r at room made =
    let rest = drop (head.len + head.body) bytes ++ more in
    let behind : drop head.len bytes ++ more ≡ r.body ++ rest = body_and_rest bytes more head.len head.body ∙ ap (λ bs. bs ++ rest) (sym made.body) in
    let size : length r.body ≡ head.body = omega (arith, ap length made.body, length-slice_range bytes head.len (head.len + head.body) (omega arith) room) in
    record {
      head = h;
      reads = subst (λ after. ReadsResponse (bytes ++ more) h after) behind (ReadsResponse-append bytes h (drop head.len bytes) more at.reads);
      within = at.within;
      size = at.size ∙ ap Some (sym size);
      status = made.status ∙ at.status;
      allow = allow_is bytes head.allow _ r.allow at.allow made.allow;
    }

-- a stream that ends inside the body is no reply
pub no_reply_cut_off : (bytes more : List ℕ) (head : ReplyHead) (h : ResponseHead) → IsReplyHeadAt bytes head h → length bytes < head.len + head.body → more ≡ [] → HasNoReply (bytes ++ more)
no_reply_cut_off bytes more head h at short end = subst HasNoReply (sym (ap (λ bs. bytes ++ bs) end ∙ append-nil bytes)) λ r rest whole.
    let same = response_unique bytes h whole.head _ _ at.reads whole.reads in
    let size : Some head.body ≡ Some (length r.body) = sym at.size ∙ ap reply_length same.0 ∙ whole.size in
    let sizes : head.body ≡ length r.body = cc in
    omega (arith, sizes, at.fits, ap length same.1, length-append r.body rest, length-drop head.len bytes)

-- ---- an answer about the head alone

pub reply_ends : (old : List ℕ) (before : Option (List ℕ)) (mid : List ℕ) (after : Option (List ℕ)) (bytes : List ℕ) (e : ReplyEnd) → mid ≡ old ++ bytes → Consumes before after bytes → ReplyEnds mid after e
    → OnStreams (stream_of old before) (stream_of mid after) (AnswersReply (Err e))
reply_ends old before mid after bytes BadReply grown taken ends =
    on_streams old before mid mid after bytes (AnswersReply (Err BadReply)) grown taken (λ more is. (subst (λ left. IfSome left (λ bs. HasNoReply (mid ++ bs))) is ends, refl))
reply_ends old before mid after bytes ReadFault grown taken ends = on_streams old before mid mid after bytes (AnswersReply (Err ReadFault)) grown taken (λ more is. refl)
reply_ends old before mid after bytes OutOfMemory grown taken ends = on_streams old before mid mid after bytes (AnswersReply (Err OutOfMemory)) grown taken (λ more is. refl)
