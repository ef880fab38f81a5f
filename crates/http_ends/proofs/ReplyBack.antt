-- The text of a reply reads back.
use Rattle.std.proofs.Common.{◌≡◌, ℕ, ◌+◌, ◌^◌, ◌<◌, ◌≤◌, Bool, true, false, ◌&&◌, ◌||◌, List, [], ◌∷◌, ◌++◌, length, map, Option, Some, None, cond, refl, sym, ap, ◌∙◌, subst, arith, append_assoc, length-append, flat_map, lit≤}
use Rattle.std.specs.Prelude.{codes, decimal, bytes_eq, IsTrue, IsSome, IfSome, if◌then◌else◌, nat_le, nat_lt, ◌==◌, unwrap_or}
use Rattle.std.specs.Fmt.{digits}
use Rattle.std.specs.Char.{is_ascii_digit}
use Rattle.std.specs.List.{list_all, list_any}
use Rattle.std.specs.Str.Parse.{digits_value}
use Rattle.std.proofs.lemmas.Bool.{and_parts, and_from, eqb-true, ltb-true, leb-true, lt-ltb, le-leb}
use Rattle.std.proofs.lemmas.Fmt.{length-decimal-le}
use Rattle.std.proofs.lemmas.List.Elements.{All-weaker}
use Rattle.std.proofs.lemmas.List.Sums.{AllPass-from_list_all}
use Rattle.std.proofs.lemmas.Slice.Eq.{bytes_eq-Decides}
use Rattle.std.proofs.lemmas.Str.{IsUtf8-from_ascii}
use Rattle.std.proofs.lemmas.Str.Ascii.{IsAscii-from_all}
use Rattle.httparse.specs.Grammar.{is_value_byte, crlf, print_field, ResponseHead, print_response, is_token_byte}
use Rattle.httparse.proofs.GrammarLemmas.{print_response-append}
use Rattle.http_ends.specs.declared.response.Response.{Response}
use Rattle.http_ends.specs.Fields.{values_named, is_content_length, is_framed, length_said, lengths}
use Rattle.http_ends.specs.Laws.{RepliesReadBack}
use Rattle.http_ends.specs.Lines.{field_line, fields_text}
use Rattle.http_ends.specs.Replies.{phrases, phrase_in, phrase_of, method_lists, IsAllowed, content_fields, allow_fields, close_fields, status_line, reply_text}
use Rattle.http_ends.specs.ReplyReading.{reply_fields, IsAllow}
use Rattle.http_ends.proofs.WrittenLemmas.{field_of, is_plain_value, is_plain_field, ReadsBack, plain_fields, graphic_value, decimal_is}

-- ---- the tables

abbrev pub is_fine : ℕ × List ℕ → Bool
is_fine e = (length (decimal e.0) == 3) && (list_all is_ascii_digit (decimal e.0) && ((digits_value 10 (decimal e.0) == e.0) && (list_all is_value_byte e.1 && nat_le (length e.1) 32)))

all_fine : list_all is_fine phrases ≡ true
unfolding digits
all_fine = refl

entry_fine : (entries : List (ℕ × List ℕ)) (status : ℕ) (phrase : List ℕ) → phrase_in entries status ≡ Some phrase → list_all is_fine entries ≡ true → is_fine (status, phrase) ≡ true
entry_fine [] status phrase found fine = cc
entry_fine (e ∷ entries) status phrase found fine =
    let parts = and_parts (is_fine e) (list_all is_fine entries) fine in
    by_test parts.0 (λ some. entry_fine entries status phrase some parts.1) (e.0 == status) refl found
  where
    by_test : is_fine e ≡ true → (phrase_in entries status ≡ Some phrase → is_fine (status, phrase) ≡ true) → (t : Bool) → (e.0 == status) ≡ t → cond t (Some e.1) (phrase_in entries status) ≡ Some phrase → is_fine (status, phrase) ≡ true
    by_test here later true same some =
        let number : e.0 ≡ status = eqb-true e.0 status same in
        let text : e.1 ≡ phrase = cc in
        subst (λ (p : ℕ × List ℕ). is_fine p ≡ true) (λ i. (number i, text i)) here
    by_test here later false other some = later some

record IsStatus (status : ℕ) (phrase : List ℕ) : Type 0 where
  three : length (decimal status) ≡ 3
  digits : list_all is_ascii_digit (decimal status) ≡ true
  value : digits_value 10 (decimal status) ≡ status
  bytes : list_all is_value_byte phrase ≡ true
  short : length phrase ≤ 32

is_status : (status : ℕ) (phrase : List ℕ) → phrase_of status ≡ Some phrase → IsStatus status phrase
is_status status phrase found =
    let a = and_parts (length (decimal status) == 3) _ (entry_fine phrases status phrase found all_fine) in
    let b = and_parts (list_all is_ascii_digit (decimal status)) _ a.1 in
    let c = and_parts (digits_value 10 (decimal status) == status) _ b.1 in
    let d = and_parts (list_all is_value_byte phrase) _ c.1 in
    record { three = eqb-true _ _ a.0; digits = b.0; value = eqb-true _ _ c.0; bytes = d.0; short = leb-true _ _ d.1 }

phrase_there : (phrase : Option (List ℕ)) → IsSome phrase → phrase ≡ Some (unwrap_or phrase [])
phrase_there None some = cc
phrase_there (Some phrase) some = refl

abbrev pub is_ascii_byte : ℕ → Bool
is_ascii_byte b = nat_lt b 128

abbrev pub is_list_of_methods : List ℕ → Bool
is_list_of_methods m = is_plain_value m && (list_all is_ascii_byte m && nat_le (length m) 24)

all_lists : list_all is_list_of_methods method_lists ≡ true
all_lists = refl

listed : (p : List ℕ → Bool) (m : List ℕ) (ms : List (List ℕ)) → list_any (bytes_eq m) ms ≡ true → list_all p ms ≡ true → p m ≡ true
listed p m [] any all = cc
listed p m (x ∷ ms) any all =
    let parts = and_parts (p x) (list_all p ms) all in
    by_test parts.0 (λ later. listed p m ms later parts.1) (bytes_eq m x) refl any
  where
    by_test : p x ≡ true → (list_any (bytes_eq m) ms ≡ true → p m ≡ true) → (t : Bool) → bytes_eq m x ≡ t → (t || list_any (bytes_eq m) ms) ≡ true → p m ≡ true
    by_test here later true same one = let is : m ≡ x = (bytes_eq-Decides m x).0 same in rw is here
    by_test here later false other one = later one

-- ---- the fields

abbrev pub written : Bool → ℕ → Option (List ℕ) → Bool → List (List ℕ × List ℕ)
written none size allow close = cond none [] ((codes "Content-Length", decimal size) ∷ (codes "Content-Type", codes "application/json") ∷ []) ++ (allow_fields allow ++ close_fields close)

lengths_written : (none : Bool) (size : ℕ) (allow : Option (List ℕ)) (close : Bool) → lengths (written none size allow close) ≡ cond none [] (decimal size ∷ [])
lengths_written true size None true = refl
lengths_written true size None false = refl
lengths_written true size (Some m) true = refl
lengths_written true size (Some m) false = refl
lengths_written false size None true = refl
lengths_written false size None false = refl
lengths_written false size (Some m) true = refl
lengths_written false size (Some m) false = refl

abbrev pub option_values : Option (List ℕ) → List (List ℕ)
option_values None = []
option_values (Some m) = m ∷ []

pub allow_written : (none : Bool) (size : ℕ) (allow : Option (List ℕ)) (close : Bool) → values_named (codes "allow") (written none size allow close) ≡ option_values allow
allow_written true size None true = refl
allow_written true size None false = refl
allow_written true size (Some m) true = refl
allow_written true size (Some m) false = refl
allow_written false size None true = refl
allow_written false size None false = refl
allow_written false size (Some m) true = refl
allow_written false size (Some m) false = refl

pub fields_text-append : (xs ys : List (List ℕ × List ℕ)) → fields_text (xs ++ ys) ≡ fields_text xs ++ fields_text ys
fields_text-append [] ys = refl
fields_text-append (f ∷ xs) ys = ap (λ bs. field_line f.0 f.1 ++ bs) (fields_text-append xs ys) ∙ sym (append_assoc (field_line f.0 f.1) (fields_text xs) (fields_text ys))

content_plain : (none : Bool) (size : ℕ) → size < 2 ^ 64 → list_all is_plain_field (cond none [] ((codes "Content-Length", decimal size) ∷ (codes "Content-Type", codes "application/json") ∷ [])) ≡ true
unfolding is_token_byte
content_plain true size fits = refl
content_plain false size fits = and_from _ _ (graphic_value (decimal size) (decimal_is size fits).visible) refl

allow_plain : (allow : Option (List ℕ)) → (IfSome allow (λ m. is_list_of_methods m ≡ true)) → list_all is_plain_field (allow_fields allow) ≡ true
unfolding is_token_byte
allow_plain None listed = refl
allow_plain (Some m) listed = and_from _ _ (and_parts (is_plain_value m) _ listed).0 refl

close_plain : (close : Bool) → list_all is_plain_field (close_fields close) ≡ true
unfolding is_token_byte
close_plain true = refl
close_plain false = refl

pub list_all-join : {X : Type 0} (p : X → Bool) (xs ys : List X) → list_all p xs ≡ true → list_all p ys ≡ true → list_all p (xs ++ ys) ≡ true
list_all-join p [] ys first second = second
list_all-join p (x ∷ xs) ys first second =
    let parts = and_parts (p x) (list_all p xs) first in
    and_from _ _ parts.0 (list_all-join p xs ys parts.1 second)

pub written_plain : (none : Bool) (size : ℕ) (allow : Option (List ℕ)) (close : Bool) → size < 2 ^ 64 → (IfSome allow (λ m. is_list_of_methods m ≡ true)) → list_all is_plain_field (written none size allow close) ≡ true
written_plain none size allow close fits listed =
    list_all-join is_plain_field (cond none [] ((codes "Content-Length", decimal size) ∷ (codes "Content-Type", codes "application/json") ∷ [])) (allow_fields allow ++ close_fields close)
    (content_plain none size fits) (list_all-join is_plain_field (allow_fields allow) (close_fields close) (allow_plain allow listed) (close_plain close))

-- ---- the head

abbrev pub reply_tree : ℕ → List ℕ → List (List ℕ × List ℕ) → ResponseHead
reply_tree status phrase fields = record { blank = []; minor = 1; digits = decimal status; reason = Some phrase; line_end = crlf; fields = map field_of fields; last = crlf }

-- the text of a head is that of its tree
pub head_text : (status : ℕ) (phrase : List ℕ) (fields : List (List ℕ × List ℕ)) (rest : List ℕ) → ReadsBack fields
    → status_line status phrase ++ (fields_text fields ++ (codes "\r\n" ++ rest)) ≡ print_response (reply_tree status phrase fields) ++ rest
head_text status phrase fields rest back =
    let lines = flat_map print_field (map field_of fields) in
    ap (λ bs. status_line status phrase ++ bs) (back.text (codes "\r\n" ++ rest))
    ∙ regroup (codes "HTTP/1.1 ") (decimal status) (codes " ") phrase (codes "\r\n") (lines ++ (codes "\r\n" ++ rest))
    ∙ ap (λ bs. codes "HTTP/1.1 " ++ (decimal status ++ (codes " " ++ (phrase ++ (codes "\r\n" ++ bs))))) (sym (append_assoc lines (codes "\r\n") rest))
    ∙ sym (print_response-append (reply_tree status phrase fields) rest)
  where
    regroup : (a b c d e f : List ℕ) → ((((a ++ b) ++ c) ++ d) ++ e) ++ f ≡ a ++ (b ++ (c ++ (d ++ (e ++ f))))
    regroup a b c d e f = simp append_assoc

-- ---- what the head says

pub decimal_number : (size : ℕ) → size < 10 ^ 18 → is_content_length (decimal size) ≡ true
decimal_number size small =
    let d = decimal_is size (omega arith) in
    and_from _ _ (lt-ltb 0 (length (decimal size)) d.some) (and_from _ _ (le-leb (length (decimal size)) 18 (length-decimal-le 18 size (omega arith) small (omega arith))) d.digits)

framed_written : (none : Bool) (size : ℕ) → size < 10 ^ 18 → IsTrue (is_framed (cond none [] (decimal size ∷ [])))
framed_written true size small = refl
framed_written false size small = decimal_number size small

said_written : (none : Bool) (size : ℕ) → size < 10 ^ 18 → unwrap_or (length_said (cond none [] (decimal size ∷ []))) 0 ≤ size
said_written true size small = omega arith
said_written false size small = omega (arith, (decimal_is size (omega arith)).value)

size_written : (status size : ℕ) → size < 10 ^ 18 → (status ≡ 204 → size ≡ 0) → (if status == 204 then Some 0 else length_said (cond (status == 204) [] (decimal size ∷ []))) ≡ Some size
size_written status size small none = by_test (status == 204) refl
  where
    by_test : (t : Bool) → (status == 204) ≡ t → cond t (Some 0) (length_said (cond t [] (decimal size ∷ []))) ≡ Some size
    by_test true same = ap Some (sym (none (eqb-true status 204 same)))
    by_test false other = ap Some (decimal_is size (omega arith)).value

few_written : (none : Bool) (size : ℕ) (allow : Option (List ℕ)) (close : Bool) → length (map field_of (written none size allow close)) ≤ 64
few_written true size None true = lit≤ tt
few_written true size None false = lit≤ tt
few_written true size (Some m) true = lit≤ tt
few_written true size (Some m) false = lit≤ tt
few_written false size None true = lit≤ tt
few_written false size None false = lit≤ tt
few_written false size (Some m) true = lit≤ tt
few_written false size (Some m) false = lit≤ tt

line_size : (name value : List ℕ) → length (field_line name value) ≡ length name + length value + 4
line_size name value = simp length-append (omega arith)

short_written : (none : Bool) (size : ℕ) (allow : Option (List ℕ)) (close : Bool) → size < 10 ^ 18 → (IfSome allow (λ m. is_list_of_methods m ≡ true)) → length (fields_text (written none size allow close)) ≤ 1000
short_written none size allow close small listed =
    omega (
      arith,
      ap length (fields_text-append (cond none [] ((codes "Content-Length", decimal size) ∷ (codes "Content-Type", codes "application/json") ∷ [])) (allow_fields allow ++ close_fields close)),
      ap length (fields_text-append (allow_fields allow) (close_fields close)),
      content_short none,
      allow_short allow listed,
      close_short close,
      length-append (fields_text (cond none [] ((codes "Content-Length", decimal size) ∷ (codes "Content-Type", codes "application/json") ∷ []))) (fields_text (allow_fields allow ++ close_fields close)),
      length-append (fields_text (allow_fields allow)) (fields_text (close_fields close)),
    )
  where
    content_short : (none : Bool) → length (fields_text (cond none [] ((codes "Content-Length", decimal size) ∷ (codes "Content-Type", codes "application/json") ∷ []))) ≤ 200
    content_short true = lit≤ tt
    content_short false = simp length-append (omega (arith, length-decimal-le 18 size (omega arith) small (omega arith)))

    allow_short : (allow : Option (List ℕ)) → (IfSome allow (λ m. is_list_of_methods m ≡ true)) → length (fields_text (allow_fields allow)) ≤ 200
    allow_short None listed = lit≤ tt
    allow_short (Some m) listed =
        let parts = and_parts (list_all is_ascii_byte m) _ (and_parts (is_plain_value m) _ listed).1 in
        simp length-append (omega (arith, leb-true (length m) 24 parts.1))

    close_short : (close : Bool) → length (fields_text (close_fields close)) ≤ 200
    close_short true = lit≤ tt
    close_short false = lit≤ tt

is_allow : (allow : Option (List ℕ)) → (IfSome allow (λ m. is_list_of_methods m ≡ true)) → IsAllow (option_values allow) allow
is_allow None listed = refl
is_allow (Some m) listed =
    let parts = and_parts (list_all is_ascii_byte m) _ (and_parts (is_plain_value m) _ listed).1 in
    let ascii = All-weaker (λ b. nat_lt b 128 ≡ true) (λ b. b < 128) (λ b low. ltb-true b 128 low) m (AllPass-from_list_all is_ascii_byte m parts.0) in
    (IsUtf8-from_ascii m (IsAscii-from_all m ascii), refl)

lists_allowed : (status : ℕ) (allow : Option (List ℕ)) → IsAllowed status allow → IfSome allow (λ m. is_list_of_methods m ≡ true)
lists_allowed status None allowed = tt
lists_allowed status (Some m) allowed = listed is_list_of_methods m method_lists allowed.1 all_lists

-- ---- the law

-- the head reads back as the tree of its fields
back_of : (r : Response) (close : Bool) → IsAllowed r.status r.allow → length r.body ≤ 134217728 → ReadsBack (written (r.status == 204) (length r.body) r.allow close)
back_of r close allowed small =
    plain_fields _ (written_plain (r.status == 204) (length r.body) r.allow close (omega arith) (lists_allowed r.status r.allow allowed))

-- the text of the reply by its tree
text_is : (r : Response) (close : Bool) (phrase rest : List ℕ) → phrase_of r.status ≡ Some phrase → ReadsBack (written (r.status == 204) (length r.body) r.allow close)
    → reply_text r close false ++ rest ≡ print_response (reply_tree r.status phrase (written (r.status == 204) (length r.body) r.allow close)) ++ (r.body ++ rest)
text_is r close phrase rest known back =
    let content = content_fields r.status (length r.body) in
    let line = status_line r.status phrase in
    let is : reply_text r close false ≡ ((((line ++ fields_text content) ++ fields_text (allow_fields r.allow)) ++ fields_text (close_fields close)) ++ codes "\r\n") ++ r.body
    = ap (λ o. ((((status_line r.status (unwrap_or o []) ++ fields_text content) ++ fields_text (allow_fields r.allow)) ++ fields_text (close_fields close)) ++ codes "\r\n") ++ r.body) known in
    ap (λ bs. bs ++ rest) is
    ∙ regroup line (fields_text content) (fields_text (allow_fields r.allow)) (fields_text (close_fields close)) (codes "\r\n") r.body rest
    ∙ ap (λ bs. line ++ (bs ++ (codes "\r\n" ++ (r.body ++ rest)))) (sym (fields_text-append content (allow_fields r.allow ++ close_fields close) ∙ ap (λ bs. fields_text content ++ bs) (fields_text-append (allow_fields r.allow) (close_fields close))))
    ∙ head_text r.status phrase (content ++ (allow_fields r.allow ++ close_fields close)) (r.body ++ rest) back
  where
    regroup : (a b c d e f g : List ℕ) → (((((a ++ b) ++ c) ++ d) ++ e) ++ f) ++ g ≡ a ++ ((b ++ (c ++ d)) ++ (e ++ (f ++ g)))
    regroup a b c d e f g = simp append_assoc

pub replies_read_back : RepliesReadBack
replies_read_back r close rest known allowed empty small =
    let phrase = unwrap_or (phrase_of r.status) [] in
    let is : phrase_of r.status ≡ Some phrase = phrase_there (phrase_of r.status) known in
    let status = is_status r.status phrase is in
    let listed = lists_allowed r.status r.allow allowed in
    let none = r.status == 204 in
    let size = length r.body in
    let fields = written none size r.allow close in
    let back = back_of r close allowed small in
    let head = reply_tree r.status phrase fields in
    let text = text_is r close phrase rest is back in
    let bare = head_text r.status phrase fields [] back in
    let no_size : r.status ≡ 204 → size ≡ 0 = λ e. ap length (empty e) in
    record {
      head = head;
      reads = (
        record {
          minor = omega arith;
          digits = (status.three, AllPass-from_list_all is_ascii_digit (decimal r.status) status.digits);
          reason = AllPass-from_list_all is_value_byte phrase status.bytes;
          fields = back.each;
        },
        text,
      );
      within = record {
        size = omega (arith, simp length-append at (ap length bare), short_written none size r.allow close (omega arith) listed, status.three, status.short);
        few = few_written none size r.allow close;
        framed = subst (λ fs. IsTrue (is_framed (lengths fs))) (sym back.same) (rw (lengths_written none size r.allow close) (framed_written none size (omega arith)));
        small = subst (λ fs. unwrap_or (length_said (lengths fs)) 0 ≤ 134217728) (sym back.same) (rw (lengths_written none size r.allow close) (omega (arith, small, said_written none size (omega arith))));
      };
      size = ap (λ n. if n == 204 then Some 0 else length_said (lengths (reply_fields head))) status.value
          ∙ ap (λ vs. if r.status == 204 then Some 0 else length_said vs) (ap lengths back.same ∙ lengths_written none size r.allow close) ∙ size_written r.status size (omega arith) no_size;
      status = sym status.value;
      allow = subst (λ fs. IsAllow (values_named (codes "allow") fs) r.allow) (sym back.same) (rw (allow_written none size r.allow close) (is_allow r.allow listed));
    }
