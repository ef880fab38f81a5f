-- There is one session of a stream.
use Rattle.std.proofs.Common.{◌≡◌, ℕ, ◌+◌, ◌<◌, ◌==◌, Bool, true, false, List, [], ◌∷◌, ◌++◌, length, Option, Some, None, Result, Ok, Err, inl, inr, refl, sym, ap, subst, ◌∙◌, append_assoc, append-nil, arith, option_to_list}
use Rattle.std.specs.List.{AllByRecursion, AllZip}
use Rattle.std.proofs.lemmas.Bool.Decides.{nat_tests}
use Rattle.http_ends.specs.declared.request.Request.{Request}
use Rattle.http_ends.specs.declared.request.HttpEnd.{HttpEnd}
use Rattle.http_ends.specs.declared.request.HttpEnd.TheVariants as causes
use Rattle.http_ends.specs.declared.response.Response.{Response}
use Rattle.http_ends.specs.Messages.{IsNext}
use Rattle.http_ends.proofs.OneLemmas.{one_next}
use Rattle.http_session.specs.declared.ends.SessionEnd.{SessionEnd}
use Rattle.http_session.specs.declared.ends.SessionEnd.TheVariants.{Closed, Refused, Full, ReadFault, WriteFault, OutOfMemory}
use Rattle.http_session.specs.Answers.{IsAnswered, answer_text}
use Rattle.http_session.specs.Refusals.{refusal_of, refusal_text}
use Rattle.http_session.specs.Sessions.{Exchange, entries_of, texts_of, IsMessage, AreRead, IsCause, EndsFor, Replies, EndsWith, Ends, IsOpen}
use Rattle.http_session.specs.Legal.{AreLegal}
use Rattle.http_session.specs.Uniqueness.{IsDecided, AreFunctions, OneSession}

abbrev ok : Request → Result Request HttpEnd
ok request = Ok request

abbrev err : HttpEnd → Result Request HttpEnd
err cause = Err cause

ok_same : (a b : Request) → ok a ≡ ok b → a ≡ b
ok_same a b e = cc

err_same : (a b : HttpEnd) → err a ≡ err b → a ≡ b
err_same a b e = cc

ok_not_err : (a : Request) (b : HttpEnd) → ok a ≡ err b → ⊥
ok_not_err a b e = cc

some_same : (a b : Response) → Some a ≡ Some b → a ≡ b
some_same a b e = cc

not_both : (b : Bool) → b ≡ true → b ≡ false → ⊥
not_both b h k = cc

-- one message comes next
pub record OneMessage (request other : Request) (mid after : Option (List ℕ)) : Type 0 where
  pub request_is : request ≡ other
  pub mid_is : mid ≡ after
  pub bytes : List ℕ
  pub told : mid ≡ Some bytes

one_message : (bytes : List ℕ) (request other : Request) (mid after : Option (List ℕ)) → IsMessage (Some bytes) request mid → IsMessage (Some bytes) other after → OneMessage request other mid after
one_message bytes request other None after h k = absurd h
one_message bytes request other (Some m) None h k = absurd k
one_message bytes request other (Some m) (Some a) h k =
    let one = one_next bytes (Ok request) (Ok other) m a h k in
    record { request_is = ok_same request other one.0; mid_is = ap Some one.1; bytes = m; told = refl }

-- the cause of a decided end is in the stream
refused_next : (bytes : List ℕ) (left : Option (List ℕ)) (cause : HttpEnd) (response : Response) → refusal_of cause ≡ Some response → IsCause (Some bytes) left cause → IsNext bytes (Err cause) bytes
refused_next bytes left causes.Closed response e h = h
refused_next bytes left causes.BadHead response e h = h
refused_next bytes left causes.BodyTooLong response e h = h
refused_next bytes left causes.TransferCoding response e h = h
refused_next bytes left causes.CutOff response e h = h
refused_next bytes left causes.ReadFault response e h = cc
refused_next bytes left causes.OutOfMemory response e h = cc

cause_next : (bytes : List ℕ) (left : Option (List ℕ)) (end : SessionEnd) (cause : HttpEnd) (out : List ℕ) → IsDecided end → EndsFor (Unit {0}) end cause out → IsCause (Some bytes) left cause → IsNext bytes (Err cause) bytes
cause_next bytes left Closed cause out d e h = let at = rw e.0 at h in rw e.0 at
cause_next bytes left Refused cause out d e h = refused_next bytes left cause e.0 e.1 h
cause_next bytes left Full cause out d e h = absurd e
cause_next bytes left ReadFault cause out d e h = absurd d
cause_next bytes left WriteFault cause out d e h = absurd d
cause_next bytes left OutOfMemory cause out d e h = absurd d

-- where a request comes next there is no such cause
no_message : (bytes : List ℕ) (left after : Option (List ℕ)) (end : SessionEnd) (cause : HttpEnd) (request : Request) (out : List ℕ) → IsDecided end → EndsFor (Unit {0}) end cause out → IsCause (Some bytes) left cause → IsMessage (Some bytes) request after → ⊥
no_message bytes left None end cause request out d e h k = k
no_message bytes left (Some rest) end cause request out d e h k =
    ok_not_err request cause (one_next bytes (Ok request) (Err cause) rest bytes k (cause_next bytes left end cause out d e h)).0

-- one cause has one end
one_cause : (end other : SessionEnd) (cause : HttpEnd) (out text : List ℕ) → IsDecided end → IsDecided other → EndsFor (Unit {0}) end cause out → EndsFor (Unit {0}) other cause text → (end ≡ other) × (out ≡ text)
one_cause Closed Closed cause out text d e h k = (refl, h.1 ∙ sym k.1)
one_cause Closed Refused cause out text d e h k = let none : refusal_of cause ≡ None = ap refusal_of h.0 in absurd (cc (none, k.1))
one_cause Refused Closed cause out text d e h k = let none : refusal_of cause ≡ None = ap refusal_of k.0 in absurd (cc (none, h.1))
one_cause Refused Refused cause out text d e h k = (refl, h.2 ∙ ap refusal_text (some_same h.0 k.0 (sym h.1 ∙ k.1)) ∙ sym k.2)
one_cause Full other cause out text d e h k = absurd h
one_cause Closed Full cause out text d e h k = absurd k
one_cause Refused Full cause out text d e h k = absurd k
one_cause ReadFault other cause out text d e h k = absurd d
one_cause WriteFault other cause out text d e h k = absurd d
one_cause OutOfMemory other cause out text d e h k = absurd d
one_cause Closed ReadFault cause out text d e h k = absurd e
one_cause Closed WriteFault cause out text d e h k = absurd e
one_cause Closed OutOfMemory cause out text d e h k = absurd e
one_cause Refused ReadFault cause out text d e h k = absurd e
one_cause Refused WriteFault cause out text d e h k = absurd e
one_cause Refused OutOfMemory cause out text d e h k = absurd e

zipped : {E : Type 0} (same : E → E → Type 0) (es ds fs gs : List E) → es ≡ ds → fs ≡ gs → AllZip same ds gs → AllZip same es fs
zipped same es ds fs gs d g h = rw (d, g) h

zip_more : {E : Type 0} (same : E → E → Type 0) (a b es fs : List E) → AllZip same a b → AllZip same es fs → AllZip same (a ++ es) (b ++ fs)
zip_more same [] [] es fs h k = k
zip_more same [] (y ∷ b) es fs h k = absurd h
zip_more same (x ∷ a) [] es fs h k = absurd h
zip_more same (x ∷ a) (y ∷ b) es fs h k = (h.0, zip_more same a b es fs h.1 k)

module _ {S E : Type 0} (own : Request → Response → Type 0) (enters : Request → E → Response → Type 0) (allowed : S → E → Type 0) (follows : S → E → S) (same : E → E → Type 0) where
  -- one request has one answer, and both go on from one state
  pub record OneAnswer (a b : Option E) (p q : Response) (es fs : List E) (t u : S) : Type 0 where
    pub entry : AllZip same (option_to_list a) (option_to_list b)
    pub response : p ≡ q
    pub state : S
    pub left : AreLegal allowed follows state es t
    pub right : AreLegal allowed follows state fs u

  one_answer : AreFunctions own enters allowed follows same → (s t u : S) (request : Request) (a b : Option E) (p q : Response) (es fs : List E)
      → IsAnswered own enters request a p → IsAnswered own enters request b q → AreLegal allowed follows s (option_to_list a ++ es) t → AreLegal allowed follows s (option_to_list b ++ fs) u
      → OneAnswer a b p q es fs t u
  one_answer d s t u request None None p q es fs h k l m = record { entry = tt; response = d.one_own request p q h k; state = s; left = l; right = m }
  one_answer d s t u request None (Some f) p q es fs h k l m = absurd (d.apart request f p q h k)
  one_answer d s t u request (Some e) None p q es fs h k l m = absurd (d.apart request e q p k h)
  one_answer d s t u request (Some e) (Some f) p q es fs h k l m =
      let one = d.one_entry s request e f p q h k l.0 m.0 in
      record {
        entry = (one.0, tt);
        response = one.1;
        state = follows s e;
        left = l.1;
        right = subst (λ (z : S). AreLegal allowed follows z fs u) (sym (d.one_state s e f one.0)) m.1;
      }

  one_reply : AreFunctions own enters allowed follows same → (s t u : S) (request : Request) (es fs : List E) (out text : List ℕ)
      → Replies own enters request true es out → Replies own enters request true fs text → AreLegal allowed follows s es t → AreLegal allowed follows s fs u → AllZip same es fs × (out ≡ text)
  one_reply d s t u request es fs out text h k l m =
      let legal : AreLegal allowed follows s (option_to_list h.0 ++ []) t = rw (append-nil, ← h.3) l in
      let lawful : AreLegal allowed follows s (option_to_list k.0 ++ []) u = rw (append-nil, ← k.3) m in
      let one = one_answer d s t u request h.0 k.0 h.1 k.1 [] [] h.2 k.2 legal lawful in
      (zipped same es (option_to_list h.0) fs (option_to_list k.0) h.3 k.3 one.entry, h.4 ∙ ap (λ r. answer_text request r true) one.response ∙ sym k.4)

  one_with : AreFunctions own enters allowed follows same → (s t u : S) (last : Bool) (end other : SessionEnd) (request : Request) (es fs : List E) (out text : List ℕ)
      → IsDecided end → IsDecided other → EndsWith own enters (Unit {0}) last end request es out → EndsWith own enters (Unit {0}) last other request fs text
      → AreLegal allowed follows s es t → AreLegal allowed follows s fs u → (end ≡ other) × AllZip same es fs × (out ≡ text)
  one_with d s t u last Closed Closed request es fs out text x y h k l m = let one = one_reply d s t u request es fs out text h.0 k.0 l m in (refl, one.0, one.1)
  one_with d s t u last Full Full request es fs out text x y h k l m = let one = one_reply d s t u request es fs out text h.0 k.0 l m in (refl, one.0, one.1)
  one_with d s t u last Closed Full request es fs out text x y h k l m = absurd (not_both request.close h.1 k.1)
  one_with d s t u last Full Closed request es fs out text x y h k l m = absurd (not_both request.close k.1 h.1)
  one_with d s t u last Refused other request es fs out text x y h k l m = absurd h
  one_with d s t u last ReadFault other request es fs out text x y h k l m = absurd h
  one_with d s t u last WriteFault other request es fs out text x y h k l m = absurd x
  one_with d s t u last OutOfMemory other request es fs out text x y h k l m = absurd x
  one_with d s t u last Closed Refused request es fs out text x y h k l m = absurd k
  one_with d s t u last Full Refused request es fs out text x y h k l m = absurd k
  one_with d s t u last Closed ReadFault request es fs out text x y h k l m = absurd k
  one_with d s t u last Full ReadFault request es fs out text x y h k l m = absurd k
  one_with d s t u last Closed WriteFault request es fs out text x y h k l m = absurd y
  one_with d s t u last Full WriteFault request es fs out text x y h k l m = absurd y
  one_with d s t u last Closed OutOfMemory request es fs out text x y h k l m = absurd y
  one_with d s t u last Full OutOfMemory request es fs out text x y h k l m = absurd y

  one_end : AreFunctions own enters allowed follows same → (s t u : S) (bytes : List ℕ) (left unread : Option (List ℕ)) (last : Bool) (end other : SessionEnd) (es fs : List E) (out text : List ℕ)
      → IsDecided end → IsDecided other → Ends own enters (Unit {0}) last end (Some bytes) left es out → Ends own enters (Unit {0}) last other (Some bytes) unread fs text
      → AreLegal allowed follows s es t → AreLegal allowed follows s fs u → (end ≡ other) × AllZip same es fs × (out ≡ text)
  one_end d s t u bytes left unread last end other es fs out text x y (inl h) (inl k) l m =
      let one = (one_message bytes h.0 k.0 h.1 k.1 h.2 k.2).request_is in
      one_with d s t u last end other k.0 es fs out text x y (rw one at h.3) k.3 l m
  one_end d s t u bytes left unread last end other es fs out text x y (inl h) (inr k) l m = absurd (no_message bytes unread h.1 other k.0 h.0 text y k.3 k.1 h.2)
  one_end d s t u bytes left unread last end other es fs out text x y (inr h) (inl k) l m = absurd (no_message bytes left k.1 end h.0 k.0 out x h.3 h.1 k.2)
  one_end d s t u bytes left unread last end other es fs out text x y (inr h) (inr k) l m =
      let cause = err_same h.0 k.0 (one_next bytes (Err h.0) (Err k.0) bytes bytes (cause_next bytes left end h.0 out x h.3 h.1) (cause_next bytes unread other k.0 text y k.3 k.1)).0 in
      let one = one_cause end other k.0 out text x y (rw cause at h.3) k.3 in
      (one.0, zipped same es [] fs [] h.2 k.2 tt, one.1)

  -- a session does not end where another one goes on
  no_end : (bytes : List ℕ) (left after : Option (List ℕ)) (last : Bool) (end : SessionEnd) (es : List E) (out : List ℕ) (request : Request)
      → IsDecided end → Ends own enters (Unit {0}) last end (Some bytes) left es out → IsMessage (Some bytes) request after → request.close ≡ false → (last ≡ true → ⊥) → ⊥
  no_end bytes left after last Closed es out request x (inl h) k stays_open more = not_both request.close (sym (ap (λ r. r.close) (one_message bytes h.0 request h.1 after h.2 k).request_is) ∙ h.3.1) stays_open
  no_end bytes left after last Full es out request x (inl h) k stays_open more = more h.3.2
  no_end bytes left after last Refused es out request x (inl h) k stays_open more = h.3
  no_end bytes left after last ReadFault es out request x (inl h) k stays_open more = x
  no_end bytes left after last WriteFault es out request x (inl h) k stays_open more = x
  no_end bytes left after last OutOfMemory es out request x (inl h) k stays_open more = x
  no_end bytes left after last end es out request x (inr h) k stays_open more = no_message bytes left after end h.0 request out x h.3 h.1 k

  not_last : (n k : ℕ) → n < k → (n == k) ≡ true → ⊥
  not_last n k h e =
      let same : n ≡ k = grind (arith, nat_tests) in
      omega (arith, h, same)

  pub one_run : AreFunctions own enters allowed follows same → (s t u : S) (n : ℕ) (bytes : List ℕ) (xs ys : List (Exchange E)) (rest after left unread : Option (List ℕ)) (end other : SessionEnd) (es fs : List E) (out text : List ℕ) (j k : ℕ)
      → IsDecided end → IsDecided other
      → AreRead (Some bytes) xs rest → AreRead (Some bytes) ys after
      → AllByRecursion (IsOpen own enters) xs → AllByRecursion (IsOpen own enters) ys
      → j ≡ n + length xs → k ≡ n + length ys → j < 1000000 → k < 1000000
      → Ends own enters (Unit {0}) (j + 1 == 1000000) end rest left es out → Ends own enters (Unit {0}) (k + 1 == 1000000) other after unread fs text
      → AreLegal allowed follows s (entries_of xs ++ es) t → AreLegal allowed follows s (entries_of ys ++ fs) u
      → (end ≡ other) × AllZip same (entries_of xs ++ es) (entries_of ys ++ fs) × (texts_of xs ++ out ≡ texts_of ys ++ text)
  one_run d s t u n bytes [] [] rest after left unread end other es fs out text j k x y a b p q jn kn jm km h i l m =
      let long : k ≡ j = omega (arith, jn, kn) in
      one_end d s t u bytes left unread (j + 1 == 1000000) end other es fs out text x y (rw a at h) (rw (b, long) at i) l m
  one_run d s t u n bytes [] (y ∷ ys) rest after left unread end other es fs out text j k dx dy a b p q jn kn jm km h i l m =
      absurd (no_end bytes left b.0 (j + 1 == 1000000) end es out y.request dx (rw a at h) b.1 q.0.1 (not_last (j + 1) 1000000 (omega (arith, jn, kn, km))))
  one_run d s t u n bytes (x ∷ xs) [] rest after left unread end other es fs out text j k dx dy a b p q jn kn jm km h i l m =
      absurd (no_end bytes unread a.0 (k + 1 == 1000000) other fs text x.request dy (rw b at i) a.1 p.0.1 (not_last (k + 1) 1000000 (omega (arith, jn, kn, jm))))
  one_run d s t u n bytes (x ∷ xs) (y ∷ ys) rest after left unread end other es fs out text j k dx dy a b p q jn kn jm km h i l m =
      let next = one_message bytes x.request y.request a.0 b.0 a.1 b.1 in
      let first : IsAnswered own enters y.request x.entry x.response = rw next.request_is at p.0.0 in
      let legal : AreLegal allowed follows s (option_to_list x.entry ++ (entries_of xs ++ es)) t = rw (← append_assoc) l in
      let lawful : AreLegal allowed follows s (option_to_list y.entry ++ (entries_of ys ++ fs)) u = rw (← append_assoc) m in
      let one = one_answer d s t u y.request x.entry y.entry x.response y.response (entries_of xs ++ es) (entries_of ys ++ fs) first q.0.0 legal lawful in
      let left_read : AreRead (Some next.bytes) xs rest = rw next.told at a.2 in
      let right_read : AreRead (Some next.bytes) ys after = rw (sym next.mid_is ∙ next.told) at b.2 in
      let more = one_run d one.state t u (n + 1) next.bytes xs ys rest after left unread end other es fs out text j k dx dy left_read right_read p.1 q.1 (omega (arith, jn)) (omega (arith, kn)) jm km h i one.left one.right in (
        more.0,
        zipped same ((option_to_list x.entry ++ entries_of xs) ++ es) (option_to_list x.entry ++ (entries_of xs ++ es)) ((option_to_list y.entry ++ entries_of ys) ++ fs) (option_to_list y.entry ++ (entries_of ys ++ fs))
            (append_assoc (option_to_list x.entry) (entries_of xs) es) (append_assoc (option_to_list y.entry) (entries_of ys) fs)
            (zip_more same (option_to_list x.entry) (option_to_list y.entry) (entries_of xs ++ es) (entries_of ys ++ fs) one.entry more.1),
        append_assoc (answer_text x.request x.response false) (texts_of xs) out
            ∙ ap (λ (r : Request). answer_text r x.response false ++ (texts_of xs ++ out)) next.request_is
            ∙ ap (λ (r : Response). answer_text y.request r false ++ (texts_of xs ++ out)) one.response
            ∙ ap (λ (z : List ℕ). answer_text y.request y.response false ++ z) more.2
            ∙ sym (append_assoc (answer_text y.request y.response false) (texts_of ys) text),
      )

pub one_session : {S E : Type 0} (own : Request → Response → Type 0) (enters : Request → E → Response → Type 0) (allowed : S → E → Type 0) (follows : S → E → S) (same : E → E → Type 0) → OneSession own enters allowed follows same
one_session own enters allowed follows same d stream left unread s t u end other es fs out text x y p q l m =
    let one = one_run own enters allowed follows same d s t u 0 stream p.exchanges q.exchanges p.rest q.rest left unread end other p.last_es q.last_es p.last_out q.last_out (length p.exchanges) (length q.exchanges) x y p.read q.read p.open_all q.open_all (omega arith) (omega arith) p.few q.few p.last q.last (rw p.all_es at l) (rw q.all_es at m) in
    (one.0, zipped same es (entries_of p.exchanges ++ p.last_es) fs (entries_of q.exchanges ++ q.last_es) p.all_es q.all_es one.1, p.all_out ∙ one.2 ∙ sym q.all_out)
