-- What the parser's answer says of heads within the limits.
use Rattle.std.proofs.Common.{◌≡◌, ℕ, ◌<◌, ◌≤◌, Bool, true, false, ◌&&◌, ◌||◌, List, [], ◌++◌, length, take, drop, map, Option, Some, None, cond, refl, sym, ap, ◌∙◌, subst, arith, append-nil, length-append, length-take-le}
use Rattle.std.specs.Prelude.{nat_le, ◌==◌, unwrap_or, IsTrue, IfSome}
use Rattle.std.specs.List.{list_any}
use Rattle.std.proofs.lemmas.Bool.{and_parts, leb-true}
use Rattle.std.proofs.lemmas.List.{length-map, take-append-le, take_at, take-append-drop}
use Rattle.httparse.specs.declared.spans.HeaderSpan.{HeaderSpan}
use Rattle.httparse.specs.declared.spans.RequestSpans.{RequestSpans}
use Rattle.httparse.specs.Grammar.{RequestHead, print_request, HasNoRequest}
use Rattle.httparse.specs.Spans.{header_bytes, IsRequestAt, IsRequestWithin}
use Rattle.httparse.proofs.GrammarLemmas.{request_prefix_free, print_request-append}
use Rattle.http_ends.specs.declared.request_head.Head.{Head}
use Rattle.http_ends.specs.Fields.{is_framed, length_said, lengths, codings, says_close}
use Rattle.http_ends.specs.Heads.{fields_of, HeadIsWithinLimits}
use Rattle.http_ends.specs.Messages.{HasNoHead}
use Rattle.http_ends.specs.reading.Judging.{is_some_list, head_from, IsHeadAt, NeverHasHead}

pub head_has_bytes : (h : RequestHead) → 0 < length (print_request h)
head_has_bytes h =
    let parts = ap length (sym (append-nil (print_request h)) ∙ print_request-append h []) in
    omega (arith, simp length-append at parts)

pub no_head_in_nothing : HasNoRequest []
no_head_in_nothing h rest reads = omega (arith, head_has_bytes h, ap length reads.1, length-append (print_request h) rest)

-- what is kept of a head, where something is
abbrev head_facts : RequestSpans → List (List ℕ × List ℕ) → Head
head_facts spans fields = record {
  method = spans.method;
  target = spans.path;
  len = spans.len;
  body = unwrap_or (length_said (lengths fields)) 0;
  coded = is_some_list (codings fields);
  close = (spans.version == 0) || list_any says_close fields;
}

record IsKept (spans : RequestSpans) (fields : List (List ℕ × List ℕ)) (head : Head) : Type 0 where
  size : spans.len ≤ 16384
  framed : IsTrue (is_framed (lengths fields))
  is : head ≡ head_facts spans fields

kept : (spans : RequestSpans) (fields : List (List ℕ × List ℕ)) (head : Head) → head_from spans fields ≡ Some head → IsKept spans fields head
kept spans fields head is = by_test (nat_le spans.len 16384 && is_framed (lengths fields)) refl is
  where
    by_test : (t : Bool) → (nat_le spans.len 16384 && is_framed (lengths fields)) ≡ t → cond t (Some (head_facts spans fields)) None ≡ Some head → IsKept spans fields head
    by_test true both some =
        let parts = and_parts (nat_le spans.len 16384) _ both in
        record { size = leb-true spans.len 16384 parts.0; framed = parts.1; is = cc }
    by_test false neither some = cc

not_kept : (spans : RequestSpans) (fields : List (List ℕ × List ℕ)) → head_from spans fields ≡ None → spans.len ≤ 16384 → IsTrue (is_framed (lengths fields)) → ⊥
not_kept spans fields none size framed = grind arith

-- the head of the grammar that the parser found
fields_fit : (bytes : List ℕ) (headers : List HeaderSpan) (spans : RequestSpans) (h : RequestHead) → IsRequestWithin bytes headers spans → IsRequestAt bytes headers spans h
    → length headers ≡ 64 → length h.fields ≤ 64
fields_fit bytes headers spans h inside at room =
    let count = ap length at.fields in
    omega (arith, simp length-map at count, length-take-le spans.headers headers inside.section.count_fits, inside.section.count_fits)

within_limits : (bytes : List ℕ) (headers : List HeaderSpan) (spans : RequestSpans) (h : RequestHead) → IsRequestWithin bytes headers spans → IsRequestAt bytes headers spans h
    → length headers ≡ 64 → spans.len ≤ 16384 → IsTrue (is_framed (lengths (map (header_bytes bytes) (take spans.headers headers)))) → HeadIsWithinLimits h
within_limits bytes headers spans h inside at room size framed = record {
  size = omega (arith, at.len);
  few = fields_fit bytes headers spans h inside at room;
  framed = subst (λ fs. IsTrue (is_framed (lengths fs))) at.fields framed;
}

pub head_found : (bytes : List ℕ) (headers : List HeaderSpan) (spans : RequestSpans) (head : Head) → IsRequestWithin bytes headers spans → ((h : RequestHead) × IsRequestAt bytes headers spans h)
    → length headers ≡ 64 → head_from spans (map (header_bytes bytes) (take spans.headers headers)) ≡ Some head → (h : RequestHead) × IsHeadAt bytes head h
head_found bytes headers spans head inside found room some =
    let h = found.0 in
    let at = found.1 in
    let k = kept spans (map (header_bytes bytes) (take spans.headers headers)) head some in
    let facts : IsHeadAt bytes (head_facts spans (map (header_bytes bytes) (take spans.headers headers))) h = record {
      begins = record { reads = at.reads; within = within_limits bytes headers spans h inside at room k.size k.framed };
      fits = inside.section.len_fits;
      method_within = inside.method;
      target_within = inside.path;
      method = at.method;
      target = at.path;
      body = ap (λ fs. unwrap_or (length_said (lengths fs)) 0) at.fields;
      coded = ap (λ fs. is_some_list (codings fs)) at.fields;
      close = ap (λ fs. (spans.version == 0) || list_any says_close fs) at.fields ∙ ap (λ v. (v == 0) || list_any says_close (fields_of h)) at.version;
    } in
    (h, subst (λ k. IsHeadAt bytes k h) (sym k.is) facts)

pub head_refused : (bytes : List ℕ) (headers : List HeaderSpan) (spans : RequestSpans) → IsRequestWithin bytes headers spans → ((h : RequestHead) × IsRequestAt bytes headers spans h)
    → head_from spans (map (header_bytes bytes) (take spans.headers headers)) ≡ None → NeverHasHead bytes
head_refused bytes headers spans inside found none more h after begins =
    let at = found.1 in
    let same = (request_prefix_free bytes more found.0 h _ after at.reads begins.reads).0 in
    not_kept spans (map (header_bytes bytes) (take spans.headers headers)) none
    (omega (arith, at.len, ap (λ k. length (print_request k)) same, begins.within.size))
    (subst (λ fs. IsTrue (is_framed (lengths fs))) (sym (at.fields ∙ ap fields_of same)) begins.within.framed)

-- the front of two equal lists
pub front_within : (xs ys zs ws : List ℕ) → xs ++ ys ≡ zs ++ ws → length zs ≤ length xs → xs ≡ zs ++ drop (length zs) xs
front_within xs ys zs ws same short =
    let front : take (length zs) xs ≡ zs = sym (take-append-le (length zs) xs ys short) ∙ ap (take (length zs)) same ∙ take_at zs ws (length zs) refl in
    sym (take-append-drop (length zs) xs) ∙ ap (λ bs. bs ++ drop (length zs) xs) front

-- where so many bytes hold no head, none follows that is within the limits
pub no_longer_head : (bytes more : List ℕ) → HasNoRequest bytes → 16384 ≤ length bytes → HasNoHead (bytes ++ more)
no_longer_head bytes more none many h after begins =
    none h _ (begins.reads.0, front_within bytes more (print_request h) after begins.reads.1 (omega (arith, begins.within.size)))

pub whatever_follows : (left : Option (List ℕ)) (P : List ℕ → Type 0) → ((more : List ℕ) → P more) → IfSome left P
whatever_follows None P fact = tt
whatever_follows (Some more) P fact = fact more
