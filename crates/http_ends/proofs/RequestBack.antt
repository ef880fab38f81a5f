-- The text of a request reads back.
use Rattle.std.proofs.Common.{◌≡◌, ℕ, ◌+◌, ◌^◌, ◌<◌, ◌≤◌, true, List, [], ◌++◌, length, map, Option, Some, None, refl, sym, ap, ◌∙◌, subst, arith, append_assoc, length-append, flat_map, lit≤}
use Rattle.std.specs.Prelude.{codes, decimal, IsTrue, unwrap_or}
use Rattle.std.specs.Char.{is_ascii_graphic}
use Rattle.std.specs.List.{list_all, list_any}
use Rattle.std.proofs.lemmas.Bool.{and_from}
use Rattle.std.proofs.lemmas.Bool.Decides.{nat_tests}
use Rattle.std.proofs.lemmas.Fmt.{length-decimal-le}
use Rattle.std.proofs.lemmas.List.Elements.{All-weaker}
use Rattle.std.proofs.lemmas.List.Sums.{AllPass-from_list_all}
use Rattle.std.proofs.lemmas.Str.{IsUtf8-from_ascii}
use Rattle.std.proofs.lemmas.Str.Ascii.{IsAscii-from_all}
use Rattle.httparse.specs.Grammar.{is_token_byte, is_uri_byte, trim_ows, crlf, print_field, RequestHead, print_request}
use Rattle.httparse.specs.Spans.{name_and_value}
use Rattle.httparse.proofs.GrammarLemmas.{print_request-append}
use Rattle.http_ends.specs.Fields.{is_framed, length_said, lengths, codings, says_close}
use Rattle.http_ends.specs.Laws.{RequestsReadBack}
use Rattle.http_ends.specs.Lines.{fields_text}
use Rattle.http_ends.specs.Requests.{request_line, host_fields, body_fields, body_bytes, request_text}
use Rattle.http_ends.proofs.WrittenLemmas.{field_of, is_plain_field, ReadsBack, plain_fields, graphic_value, decimal_is}
use Rattle.http_ends.proofs.ReplyBack.{fields_text-append, list_all-join, decimal_number}

abbrev pub sent : List ℕ → ℕ → Option (List ℕ) → List (List ℕ × List ℕ)
sent host port body = host_fields host port ++ body_fields body

-- ---- the fields

host_plain : (host : List ℕ) (port : ℕ) → list_all is_ascii_graphic host ≡ true → port < 2 ^ 16 → list_all is_plain_field (host_fields host port) ≡ true
unfolding is_token_byte
host_plain host port visible fits =
    let value : list_all is_ascii_graphic ((host ++ codes ":") ++ decimal port) ≡ true =
    list_all-join is_ascii_graphic (host ++ codes ":") (decimal port) (list_all-join is_ascii_graphic host (codes ":") visible refl) (decimal_is port (omega arith)).visible in
    and_from _ _ (graphic_value ((host ++ codes ":") ++ decimal port) value) refl

body_plain : (body : Option (List ℕ)) → length (body_bytes body) ≤ 4194304 → list_all is_plain_field (body_fields body) ≡ true
unfolding is_token_byte
body_plain None small = refl
body_plain (Some body) small = and_from _ _ (graphic_value (decimal (length body)) (decimal_is (length body) (omega arith)).visible) refl

lengths_sent : (host : List ℕ) (port : ℕ) (body : Option (List ℕ)) → length (body_bytes body) ≤ 4194304
    → (IsTrue (is_framed (lengths (sent host port body)))) × (unwrap_or (length_said (lengths (sent host port body))) 0 ≡ length (body_bytes body))
lengths_sent host port None small = (refl, refl)
lengths_sent host port (Some body) small = (decimal_number (length body) (omega arith), (decimal_is (length body) (omega arith)).value)

codings_sent : (host : List ℕ) (port : ℕ) (body : Option (List ℕ)) → codings (sent host port body) ≡ []
codings_sent host port None = refl
codings_sent host port (Some body) = refl

close_sent : (host : List ℕ) (port : ℕ) (body : Option (List ℕ)) → list_any says_close (sent host port body) ≡ true
unfolding trim_ows
close_sent host port body = refl

few_sent : (host : List ℕ) (port : ℕ) (body : Option (List ℕ)) → length (map field_of (sent host port body)) ≤ 64
few_sent host port None = lit≤ tt
few_sent host port (Some body) = lit≤ tt

short_sent : (host : List ℕ) (port : ℕ) (body : Option (List ℕ)) → port < 2 ^ 16 → length (body_bytes body) ≤ 4194304 → length (fields_text (sent host port body)) ≤ length host + 300
short_sent host port body fits small =
    omega (arith, ap length (fields_text-append (host_fields host port) (body_fields body)), length-append (fields_text (host_fields host port)) (fields_text (body_fields body)), hosts, bodies body small)
  where
    hosts : length (fields_text (host_fields host port)) ≤ length host + 100
    hosts = simp length-append (omega (arith, length-decimal-le 18 port (omega arith) (omega arith) (omega arith)))

    bodies : (body : Option (List ℕ)) → length (body_bytes body) ≤ 4194304 → length (fields_text (body_fields body)) ≤ 200
    bodies None small = lit≤ tt
    bodies (Some body) small = simp length-append (omega (arith, length-decimal-le 18 (length body) (omega arith) (omega arith) (omega arith)))

-- ---- the head

abbrev pub request_tree : List ℕ → List ℕ → List (List ℕ × List ℕ) → RequestHead
request_tree method target fields = record { blank = []; method = method; target = target; minor = 1; line_end = crlf; fields = map field_of fields; last = crlf }

head_text : (method target : List ℕ) (fields : List (List ℕ × List ℕ)) (rest : List ℕ) → ReadsBack fields
    → request_line method target ++ (fields_text fields ++ (codes "\r\n" ++ rest)) ≡ print_request (request_tree method target fields) ++ rest
head_text method target fields rest back =
    let lines = flat_map print_field (map field_of fields) in
    ap (λ bs. request_line method target ++ bs) (back.text (codes "\r\n" ++ rest))
    ∙ regroup method (codes " ") target (codes " HTTP/1.1\r\n") (lines ++ (codes "\r\n" ++ rest))
    ∙ ap (λ bs. method ++ (codes " " ++ (target ++ (codes " HTTP/1.1\r\n" ++ bs)))) (sym (append_assoc lines (codes "\r\n") rest))
    ∙ sym (print_request-append (request_tree method target fields) rest)
  where
    regroup : (a b c d e : List ℕ) → (((a ++ b) ++ c) ++ d) ++ e ≡ a ++ (b ++ (c ++ (d ++ e)))
    regroup a b c d e = simp append_assoc

head_size : (method target : List ℕ) (fields : List (List ℕ × List ℕ)) → ReadsBack fields → length (print_request (request_tree method target fields)) ≡ length method + length target + length (fields_text fields) + 14
head_size method target fields back = omega (arith, simp length-append at (ap length (head_text method target fields [] back)))

text_is : (host : List ℕ) (port : ℕ) (method target : List ℕ) (body : Option (List ℕ)) (rest : List ℕ) → ReadsBack (sent host port body)
    → request_text host port method target body ++ rest ≡ print_request (request_tree method target (sent host port body)) ++ (body_bytes body ++ rest)
text_is host port method target body rest back =
    regroup (request_line method target) (fields_text (host_fields host port)) (fields_text (body_fields body)) (codes "\r\n") (body_bytes body) rest
    ∙ ap (λ bs. request_line method target ++ (bs ++ (codes "\r\n" ++ (body_bytes body ++ rest)))) (sym (fields_text-append (host_fields host port) (body_fields body)))
    ∙ head_text method target (sent host port body) (body_bytes body ++ rest) back
  where
    regroup : (a b c d e f : List ℕ) → ((((a ++ b) ++ c) ++ d) ++ e) ++ f ≡ a ++ ((b ++ c) ++ (d ++ (e ++ f)))
    regroup a b c d e f = simp append_assoc

-- ---- the law

graphic_uri : (b : ℕ) → is_ascii_graphic b ≡ true → is_uri_byte b ≡ true
graphic_uri b graphic = grind (arith, nat_tests)

graphic_ascii : (b : ℕ) → is_ascii_graphic b ≡ true → b < 128
graphic_ascii b graphic = grind (arith, nat_tests)

pub requests_read_back : RequestsReadBack
requests_read_back host port method target body rest words small =
    let fields = sent host port body in
    let plain = list_all-join is_plain_field (host_fields host port) (body_fields body) (host_plain host port words.host_visible words.port_fits) (body_plain body small) in
    let back = plain_fields fields plain in
    let head = request_tree method target fields in
    let visible = AllPass-from_list_all is_ascii_graphic target words.target_visible in
    let said = lengths_sent host port body small in
    let length_is : unwrap_or (length_said (lengths (map name_and_value (map field_of fields)))) 0 ≡ length (body_bytes body) = subst (λ fs. unwrap_or (length_said (lengths fs)) 0 ≡ length (body_bytes body)) (sym back.same) said.1 in
    record {
      head = head;
      begins = record {
        reads = (
          record {
            method = words.method_token;
            target = (words.some_target, All-weaker (λ b. is_ascii_graphic b ≡ true) (λ b. is_uri_byte b ≡ true) graphic_uri target visible);
            target_text = IsUtf8-from_ascii target (IsAscii-from_all target (All-weaker (λ b. is_ascii_graphic b ≡ true) (λ b. b < 128) graphic_ascii target visible));
            minor = omega arith;
            fields = back.each;
          },
          text_is host port method target body rest back,
        );
        within = record {
          size = omega (arith, head_size method target fields back, short_sent host port body words.port_fits small, words.size);
          few = few_sent host port body;
          framed = subst (λ fs. IsTrue (is_framed (lengths fs))) (sym back.same) said.0;
        };
      };
      uncoded = subst (λ fs. codings fs ≡ []) (sym back.same) (codings_sent host port body);
      small = omega (arith, length_is, small);
      size = sym length_is;
      parts = record {
        method = refl;
        path = refl;
        query = refl;
        close = sym (subst (λ fs. list_any says_close fs ≡ true) (sym back.same) (close_sent host port body));
      };
    }
