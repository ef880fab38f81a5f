-- What comes next in a stream is one answer.
use Rattle.std.proofs.Common.{◌≡◌, ◌≢◌, ℕ, true, false, List, [], ◌∷◌, ◌++◌, length, take, drop, Option, Some, None, Result, Ok, Err, cond, inl, inr, refl, sym, ap, ◌∙◌, subst, arith, ltb, length-append}
use Rattle.std.specs.Prelude.{◌⊎◌, codes}
use Rattle.std.proofs.lemmas.Bool.{cond-true, cond-false, lt-ltb, le-ltb}
use Rattle.std.proofs.lemmas.List.{take_at, drop_at}
use Rattle.httparse.specs.Grammar.{RequestHead, ReadsRequest, status_code}
use Rattle.httparse.proofs.GrammarLemmas.{request_unique, response_unique}
use Rattle.http_ends.specs.declared.request.Request.{Request}
use Rattle.http_ends.specs.declared.request.HttpEnd.{HttpEnd}
use Rattle.http_ends.specs.declared.request.HttpEnd.TheVariants.{Closed, BadHead, BodyTooLong, TransferCoding, CutOff, ReadFault, OutOfMemory}
use Rattle.http_ends.specs.Fields.{codings, values_named}
use Rattle.http_ends.specs.Heads.{fields_of, BeginsWith, body_length, path_of, query_of, asks_to_close}
use Rattle.http_ends.specs.Messages.{HasNoHead, IsNext}
use Rattle.http_ends.specs.ReplyReading.{reply_fields, reply_length, IsAllow}
use Rattle.http_ends.specs.Laws.{OneNext, OneReply}
use Rattle.http_ends.specs.reading.Judging.{is_some_list}
use Rattle.http_ends.proofs.HeadLemmas.{no_head_in_nothing}

-- the answer by the head at the front and what follows it
request_by : RequestHead → List ℕ → Request
request_by h after = record { method = h.method; path = path_of h; query = query_of h; body = take (body_length h) after; close = asks_to_close h }

answer_by : RequestHead → List ℕ → Result Request HttpEnd
answer_by h after =
    cond (is_some_list (codings (fields_of h))) (Err TransferCoding) (cond (ltb 4194304 (body_length h)) (Err BodyTooLong) (cond (ltb (length after) (body_length h)) (Err CutOff) (Ok (request_by h after))))

rest_by : List ℕ → RequestHead → List ℕ → List ℕ
rest_by stream h after =
    cond (is_some_list (codings (fields_of h))) stream (cond (ltb 4194304 (body_length h)) stream (cond (ltb (length after) (body_length h)) stream (drop (body_length h) after)))

-- the answer where there is no head
answer_without : List ℕ → Result Request HttpEnd
answer_without [] = Err Closed
answer_without (b ∷ stream) = Err BadHead

record ByHead (stream : List ℕ) (answer : Result Request HttpEnd) (rest : List ℕ) : Type 0 where
  head : RequestHead
  after : List ℕ
  begins : BeginsWith stream head after
  is : answer ≡ answer_by head after
  left : rest ≡ rest_by stream head after

record WithoutHead (stream : List ℕ) (answer : Result Request HttpEnd) (rest : List ℕ) : Type 0 where
  none : HasNoHead stream
  is : answer ≡ answer_without stream
  left : rest ≡ stream

none_listed : (values : List (List ℕ)) → values ≡ [] → is_some_list values ≡ false
none_listed values none = ap is_some_list none

some_listed : (values : List (List ℕ)) → values ≢ [] → is_some_list values ≡ true
some_listed [] some = absurd (some refl)
some_listed (value ∷ values) some = refl

decided : (stream : List ℕ) (answer : Result Request HttpEnd) (rest : List ℕ) → IsNext stream answer rest → ByHead stream answer rest ⊎ WithoutHead stream answer rest
unfolding answer_by rest_by request_by answer_without
decided stream (Ok r) rest next =
    let h = next.head in
    let after = r.body ++ rest in
    let no_code = none_listed (codings (fields_of h)) next.uncoded in
    let small = le-ltb 4194304 (body_length h) next.small in
    let whole = le-ltb (length after) (body_length h) (omega (arith, next.size, length-append r.body rest)) in
    let body : take (body_length h) after ≡ r.body = take_at r.body rest (body_length h) next.size in
    let behind : drop (body_length h) after ≡ rest = drop_at r.body rest (body_length h) next.size in
    let same : Ok r ≡ Ok (request_by h after) = λ i. Ok (record { method = next.parts.method i; path = next.parts.path i; query = next.parts.query i; body = sym body i; close = next.parts.close i }) in
    inl (record {
      head = h;
      after = after;
      begins = next.begins;
      is = same ∙ sym (cond-false _ _ _ no_code ∙ cond-false _ _ _ small ∙ cond-false _ _ _ whole);
      left = sym behind ∙ sym (cond-false _ _ _ no_code ∙ cond-false _ _ _ small ∙ cond-false _ _ _ whole);
    })
decided stream (Err Closed) rest next =
    inr (record { none = λ h after begins. no_head_in_nothing h after (subst (λ bs. ReadsRequest bs h after) next.0 begins.reads); is = ap answer_without (sym next.0); left = next.1 })
decided [] (Err BadHead) rest next = absurd (next.0 refl)
decided (b ∷ stream) (Err BadHead) rest next = inr (record { none = next.1; is = refl; left = next.2 })
decided stream (Err TransferCoding) rest next =
    let coded = some_listed (codings (fields_of next.0.0)) next.0.3 in
    inl (record { head = next.0.0; after = next.0.1; begins = next.0.2; is = sym (cond-true _ _ _ coded); left = next.1 ∙ sym (cond-true _ _ _ coded) })
decided stream (Err BodyTooLong) rest next =
    let no_code = none_listed (codings (fields_of next.0.0)) next.0.3 in
    let large = lt-ltb 4194304 (body_length next.0.0) next.0.4 in
    inl (record {
      head = next.0.0;
      after = next.0.1;
      begins = next.0.2;
      is = sym (cond-false _ _ _ no_code ∙ cond-true _ _ _ large);
      left = next.1 ∙ sym (cond-false _ _ _ no_code ∙ cond-true _ _ _ large);
    })
decided stream (Err CutOff) rest next =
    let no_code = none_listed (codings (fields_of next.0.0)) next.0.3 in
    let small = le-ltb 4194304 (body_length next.0.0) next.0.4 in
    let short = lt-ltb (length next.0.1) (body_length next.0.0) next.0.5 in
    inl (record {
      head = next.0.0;
      after = next.0.1;
      begins = next.0.2;
      is = sym (cond-false _ _ _ no_code ∙ cond-false _ _ _ small ∙ cond-true _ _ _ short);
      left = next.1 ∙ sym (cond-false _ _ _ no_code ∙ cond-false _ _ _ small ∙ cond-true _ _ _ short);
    })
decided stream (Err ReadFault) rest next = absurd next
decided stream (Err OutOfMemory) rest next = absurd next

pub one_next : OneNext
one_next stream a b r q x y =
    elim (decided stream a r x) [
      | inl first ↦ elim (decided stream b q y) [
        | inl second ↦
            let same = request_unique stream first.head second.head first.after second.after first.begins.reads second.begins.reads in
            (first.is ∙ (λ i. answer_by (same.0 i) (same.1 i)) ∙ sym second.is, first.left ∙ (λ i. rest_by stream (same.0 i) (same.1 i)) ∙ sym second.left)
        | inr second ↦ absurd (second.none first.head first.after first.begins)
      ]
      | inr first ↦ elim (decided stream b q y) [
        | inl second ↦ absurd (first.none second.head second.after second.begins)
        | inr second ↦ (first.is ∙ sym second.is, first.left ∙ sym second.left)
      ]
    ]

one_allow : (values : List (List ℕ)) (a b : Option (List ℕ)) → IsAllow values a → IsAllow values b → a ≡ b
one_allow [] a b x y = x ∙ sym y
one_allow (value ∷ values) None None x y = refl
one_allow (value ∷ values) None (Some b) x y = absurd (x y.0)
one_allow (value ∷ values) (Some a) None x y = absurd (y x.0)
one_allow (value ∷ values) (Some a) (Some b) x y = ap Some (x.1 ∙ sym y.1)

some_same : (m n : ℕ) → Some m ≡ Some n → m ≡ n
some_same m n e = cc

pub one_reply : OneReply
one_reply stream a b r q x y =
    let same = response_unique stream x.head y.head (a.body ++ r) (b.body ++ q) x.reads y.reads in
    let size : length a.body ≡ length b.body = some_same _ _ (sym x.size ∙ ap reply_length same.0 ∙ y.size) in
    let body : a.body ≡ b.body = sym (take_at a.body r (length a.body) refl) ∙ ap (take (length a.body)) same.1 ∙ take_at b.body q (length a.body) (sym size) in
    let rest : r ≡ q = sym (drop_at a.body r (length a.body) refl) ∙ ap (drop (length a.body)) same.1 ∙ drop_at b.body q (length a.body) (sym size) in
    let status : a.status ≡ b.status = x.status ∙ ap status_code same.0 ∙ sym y.status in
    let allow : a.allow ≡ b.allow = one_allow (values_named (codes "allow") (reply_fields y.head)) a.allow b.allow (subst (λ h. IsAllow (values_named (codes "allow") (reply_fields h)) a.allow) same.0 x.allow) y.allow in
    (λ i. record { status = status i; allow = allow i; body = body i }, rest)
