-- A text has one answer.
use Rattle.std.proofs.Common.{◌≡◌, ℕ, ◌-◌, ◌⊎◌, inl, inr, List, [], ◌∷◌, ◌++◌, length, get_or, false, append_assoc, refl, sym, ap, ◌∙◌, subst}
use Rattle.std.specs.List.{AllByRecursion}
use Rattle.query_terms.specs.Queries.{Asked}
use Rattle.query_terms.specs.declared.tokens.token.Token.{Token}
use Rattle.query_terms.specs.tokens.Spellings.{is_space, IsLongest, BeginsNone, SkipsSpaces, IsSpelling}
use Rattle.query_lexer.proofs.FirstBytes.{spelled_some}
use Rattle.query_lexer.proofs.Unique.{one_longest, no_space, same_spaces}
use Rattle.query_grammar.specs.declared.names.Notes.{Notes}
use Rattle.query_grammar.specs.Phrases.{Placed}
use Rattle.query_grammar.specs.Grammar.{IsQuery}
use Rattle.query_grammar.proofs.Asks.{one_query}
use Rattle.query_grammar.specs.Texts.{AreTokens, IsQueryText, IsToken, BeginTokensOfQuery, IsWrongToken, IsNoToken, IsCutShortQuery, IsFirstWrongToken}

-- ---- two runs of tokens from one place
-- the second goes on behind the first
record GoesOn (text : List ℕ) (ts : List Placed) (a : List ℕ) (us : List Placed) (b : List ℕ) : Type 0 where
  more : List Placed
  same : us ≡ ts ++ more
  are : AreTokens text a more b

starts : (start next : List ℕ) (t : Token) → IsLongest start t next → is_space (get_or start 0 0) ≡ false
starts start next t l = no_space t start l.bytes next l.spelled l.parts

one_first : (text from : List ℕ) (t u : Placed) (s n v m : List ℕ) → SkipsSpaces from s → t.0 ≡ length text - length s → IsLongest s t.1 n
    → SkipsSpaces from v → u.0 ≡ length text - length v → IsLongest v u.1 m → (t ≡ u) × (n ≡ m)
one_first text from t u s n v m p a l q b k =
    let same : s ≡ v = same_spaces from s v p q (starts s n t.1 l) (starts v m u.1 k) in
    let both = one_longest v n m t.1 u.1 (subst (λ (x : List ℕ). IsLongest x t.1 n) same l) k in
    let places : t.0 ≡ u.0 = a ∙ ap (λ (x : List ℕ). length text - length x) same ∙ sym b in
    (ap (λ (x : ℕ). (x, t.1)) places ∙ ap (λ (x : Token). (u.0, x)) both.0, both.1)

longer : (text : List ℕ) (t u : Placed) (ts us : List Placed) (a b : List ℕ) → t ≡ u → GoesOn text ts a us b → GoesOn text (t ∷ ts) a (u ∷ us) b
longer text t u ts us a b e g = record {
  more = g.more;
  same = ap (λ (l : List Placed). u ∷ l) g.same ∙ ap (λ (x : Placed). x ∷ (ts ++ g.more)) (sym e);
  are = g.are;
}

compared : (text from : List ℕ) (ts us : List Placed) (a b : List ℕ) → AreTokens text from ts a → AreTokens text from us b
    → GoesOn text ts a us b ⊎ GoesOn text us b ts a
compared text from [] us a b p q = inl (record { more = us; same = refl; are = subst (λ (l : List ℕ). AreTokens text l us b) p q })
compared text from (t ∷ ts) [] a b p q = inr (record { more = t ∷ ts; same = refl; are = subst (λ (l : List ℕ). AreTokens text l (t ∷ ts) a) q p })
compared text from (t ∷ ts) (u ∷ us) a b p q =
    let x = p.1 in
    let y = q.1 in
    let one = one_first text from t u p.0 x.0 q.0 y.0 x.1 x.2 x.3 y.1 y.2 y.3 in
    elim (compared text y.0 ts us a b (subst (λ (l : List ℕ). AreTokens text l ts a) one.1 x.4) y.4) [
      | inl g ↦ inl (longer text t u ts us a b one.0 g)
      | inr g ↦ inr (longer text u t us ts b a (sym one.0) g)
    ]

-- ---- what cannot go on
nothing_stops : is_space (get_or [] 0 0) ≡ false
nothing_stops = refl

front_none : (xs ys : List ℕ) → [] ≡ xs ++ ys → xs ≡ []
front_none [] ys e = refl
front_none (x ∷ xs) ys e = absurd cc

nonempty : (start next : List ℕ) (t : Token) → IsLongest start t next → start ≡ [] → ⊥
nonempty start next t l e = spelled_some t (subst (λ (x : List ℕ). IsSpelling t x) (front_none l.bytes next (sym e ∙ l.parts)) l.spelled)

-- no token stands in white space at the end
none_at_end : (text a : List ℕ) (t : Placed) (more : List Placed) (b : List ℕ) → SkipsSpaces a [] → AreTokens text a (t ∷ more) b → ⊥
none_at_end text a t more b spaces are =
    let x = are.1 in
    nonempty are.0 x.0 t.1 x.3 (same_spaces a are.0 [] x.1 spaces (starts are.0 x.0 t.1 x.3) nothing_stops)

-- no token stands where none begins
none_begins : (text a : List ℕ) (t : Placed) (more : List Placed) (b : List ℕ) (first : ℕ) (rest : List ℕ) → SkipsSpaces a (first ∷ rest)
    → is_space first ≡ false → BeginsNone (first ∷ rest) → AreTokens text a (t ∷ more) b → ⊥
none_begins text a t more b first rest spaces byte none are =
    let x = are.1 in
    let same = same_spaces a are.0 (first ∷ rest) x.1 spaces (starts are.0 x.0 t.1 x.3) byte in
    none t.1 x.3.bytes x.0 x.3.spelled (sym same ∙ x.3.parts)

-- ---- viable fronts
tokens_spelled : (text from : List ℕ) (ts : List Placed) (a : List ℕ) → AreTokens text from ts a → AllByRecursion IsToken ts
tokens_spelled text from [] a are = tt
tokens_spelled text from (t ∷ ts) a are = let x = are.1 in ((x.3.bytes, x.3.spelled), tokens_spelled text x.0 ts a x.4)

both_spelled : (xs ys : List Placed) → AllByRecursion IsToken xs → AllByRecursion IsToken ys → AllByRecursion IsToken (xs ++ ys)
both_spelled [] ys p q = q
both_spelled (x ∷ xs) ys p q = (p.0, both_spelled xs ys p.1 q)

front_viable : (xs ys : List Placed) → AllByRecursion IsToken ys → BeginTokensOfQuery (xs ++ ys) → BeginTokensOfQuery xs
front_viable xs ys spelled v =
    (ys ++ v.0, both_spelled ys v.0 spelled v.1, (v.2.0, subst (λ (l : List Placed). IsQuery l v.2.0) (append_assoc xs ys v.0) v.2.1))

without_end : (xs : List Placed) → xs ++ [] ≡ xs
without_end [] = refl
without_end (x ∷ xs) = ap (λ (l : List Placed). x ∷ l) (without_end xs)

query_viable : (ts : List Placed) (w : Asked × Notes) → IsQuery ts w → BeginTokensOfQuery ts
query_viable ts w q = ([], tt, (w, subst (λ (l : List Placed). IsQuery l w) (sym (without_end ts)) q))

-- ---- runs that go on nowhere
-- The tokens of some query begin with these, and no others of which that holds begin with them in this text.
record Stop (text : List ℕ) (ts : List Placed) (a : List ℕ) : Type 0 where
  viable : BeginTokensOfQuery ts
  are : AreTokens text text ts a
  stops : (us : List Placed) (b : List ℕ) → BeginTokensOfQuery us → GoesOn text ts a us b → (us ≡ ts) × (a ≡ b)

meet : (text : List ℕ) (ts us : List Placed) (a b : List ℕ) → Stop text ts a → Stop text us b → (ts ≡ us) × (a ≡ b)
meet text ts us a b p q = elim (compared text text ts us a b p.are q.are) [
  | inl g ↦ (let s = p.stops us b q.viable g in (sym s.0, s.1))
  | inr g ↦ (let s = q.stops ts a p.viable g in (s.0, sym s.1))
]

at_end_by : (text : List ℕ) (ts us more : List Placed) (a b : List ℕ) → SkipsSpaces a [] → us ≡ ts ++ more → AreTokens text a more b → (us ≡ ts) × (a ≡ b)
at_end_by text ts us [] a b spaces e are = (e ∙ without_end ts, are)
at_end_by text ts us (t ∷ more) a b spaces e are = absurd (none_at_end text a t more b spaces are)

stop_at_end : (text : List ℕ) (ts : List Placed) (a : List ℕ) → BeginTokensOfQuery ts → AreTokens text text ts a → SkipsSpaces a [] → Stop text ts a
stop_at_end text ts a v are spaces = record { viable = v; are = are; stops = λ us b w g. at_end_by text ts us g.more a b spaces g.same g.are }

none_by : (text : List ℕ) (ts us more : List Placed) (a b : List ℕ) (first : ℕ) (rest : List ℕ) → SkipsSpaces a (first ∷ rest) → is_space first ≡ false
    → BeginsNone (first ∷ rest) → us ≡ ts ++ more → AreTokens text a more b → (us ≡ ts) × (a ≡ b)
none_by text ts us [] a b first rest spaces byte none e are = (e ∙ without_end ts, are)
none_by text ts us (t ∷ more) a b first rest spaces byte none e are = absurd (none_begins text a t more b first rest spaces byte none are)

stop_at_none : (text : List ℕ) (at : ℕ) (r : IsNoToken text at) → Stop text r.before r.behind
stop_at_none text at r = record {
  viable = r.viable;
  are = r.are;
  stops = λ us b w g. none_by text r.before us g.more r.behind b r.first r.rest r.spaces r.byte r.none g.same g.are;
}

-- the place behind the tokens before the last
record Cut (text from : List ℕ) (ts : List Placed) (t : Placed) (b : List ℕ) : Type 0 where
  mid : List ℕ
  are : AreTokens text from ts mid
  last : AreTokens text mid (t ∷ []) b

cut : (text from : List ℕ) (ts : List Placed) (t : Placed) (b : List ℕ) → AreTokens text from (ts ++ t ∷ []) b → Cut text from ts t b
cut text from [] t b are = record { mid = from; are = refl; last = are }
cut text from (p ∷ ts) t b are =
    let x = are.1 in
    let c = cut text x.0 ts t b x.4 in
    record { mid = c.mid; are = (are.0, (x.0, x.1, x.2, x.3, c.are)); last = c.last }

wrong_by : (text : List ℕ) (ts us more : List Placed) (t : Placed) (a b rest : List ℕ) → AreTokens text a (t ∷ []) rest
    → (BeginTokensOfQuery (ts ++ t ∷ []) → ⊥) → BeginTokensOfQuery us → us ≡ ts ++ more → AreTokens text a more b → (us ≡ ts) × (a ≡ b)
wrong_by text ts us [] t a b rest last dead v e are = (e ∙ without_end ts, are)
wrong_by text ts us (x ∷ more) t a b rest last dead v e are =
    let l = last.1 in
    let m = are.1 in
    let one = one_first text a x t are.0 m.0 last.0 l.0 m.1 m.2 m.3 l.1 l.2 l.3 in
    let same : us ≡ (ts ++ t ∷ []) ++ more = e ∙ ap (λ (y : Placed). ts ++ y ∷ more) one.0 ∙ sym (append_assoc ts (t ∷ []) more) in
    absurd (dead (front_viable (ts ++ t ∷ []) more (tokens_spelled text m.0 more b m.4) (subst (λ (k : List Placed). BeginTokensOfQuery k) same v)))

wrong_cut : (text : List ℕ) (at : ℕ) (r : IsWrongToken text at) → Cut text text r.before (at, r.token) r.rest
wrong_cut text at r = cut text text r.before (at, r.token) r.rest r.are

stop_at_wrong : (text : List ℕ) (at : ℕ) (r : IsWrongToken text at) (c : Cut text text r.before (at, r.token) r.rest) → Stop text r.before c.mid
stop_at_wrong text at r c = record {
  viable = r.viable;
  are = c.are;
  stops = λ us b v g. wrong_by text r.before us g.more (at, r.token) c.mid b r.rest c.last r.dead v g.same g.are;
}

-- ---- one query, and none where a byte is wrong
query_stop : (text : List ℕ) (w : Asked × Notes) (q : IsQueryText text w) → Stop text q.0 q.1.0
query_stop text w q = let y = q.1 in stop_at_end text q.0 y.0 (query_viable q.0 w y.3) y.1 y.2

pub one_text : (text : List ℕ) (w v : Asked × Notes) → IsQueryText text w → IsQueryText text v → w ≡ v
one_text text w v p q =
    let same = meet text p.0 q.0 p.1.0 q.1.0 (query_stop text w p) (query_stop text v q) in
    one_query q.0 w v (subst (λ (l : List Placed). IsQuery l w) same.0 p.1.3) q.1.3

no_both : (a : List ℕ) (first : ℕ) (rest : List ℕ) → SkipsSpaces a (first ∷ rest) → is_space first ≡ false → SkipsSpaces a [] → ⊥
no_both a first rest p byte q = let same = same_spaces a (first ∷ rest) [] p q byte nothing_stops in cc

no_token_ends : (text : List ℕ) (at : ℕ) (r : IsWrongToken text at) (c : Cut text text r.before (at, r.token) r.rest) (a : List ℕ) → c.mid ≡ a → SkipsSpaces a [] → ⊥
no_token_ends text at r c a same spaces =
    none_at_end text a (at, r.token) [] r.rest spaces (subst (λ (l : List ℕ). AreTokens text l ((at, r.token) ∷ []) r.rest) same c.last)

pub byte_no_query : (text : List ℕ) (at : ℕ) (w : Asked × Notes) → IsFirstWrongToken text at → IsQueryText text w → ⊥
byte_no_query text at w (inl r) q =
    let c = wrong_cut text at r in
    let same = meet text r.before q.0 c.mid q.1.0 (stop_at_wrong text at r c) (query_stop text w q) in
    no_token_ends text at r c q.1.0 same.1 q.1.2
byte_no_query text at w (inr (inl r)) q =
    let same = meet text r.before q.0 r.behind q.1.0 (stop_at_none text at r) (query_stop text w q) in
    no_both r.behind r.first r.rest r.spaces r.byte (subst (λ (l : List ℕ). SkipsSpaces l []) (sym same.1) q.1.2)
byte_no_query text at w (inr (inr r)) q =
    let same = meet text r.all q.0 r.behind q.1.0 (stop_at_end text r.all r.behind r.viable r.are r.spaces) (query_stop text w q) in
    r.none w (subst (λ (l : List Placed). IsQuery l w) (sym same.0) q.1.3)

-- ---- one byte
wrong_wrong : (text : List ℕ) (a b : ℕ) → IsWrongToken text a → IsWrongToken text b → a ≡ b
wrong_wrong text a b r s =
    let c = wrong_cut text a r in
    let d = wrong_cut text b s in
    let same = meet text r.before s.before c.mid d.mid (stop_at_wrong text a r c) (stop_at_wrong text b s d) in
    let last = subst (λ (l : List ℕ). AreTokens text l ((a, r.token) ∷ []) r.rest) same.1 c.last in
    let x = last.1 in
    let y = d.last.1 in
    let one = one_first text d.mid (a, r.token) (b, s.token) last.0 x.0 d.last.0 y.0 x.1 x.2 x.3 y.1 y.2 y.3 in
    ap (λ (p : Placed). p.0) one.0

wrong_none : (text : List ℕ) (a b : ℕ) → IsWrongToken text a → IsNoToken text b → ⊥
wrong_none text a b r s =
    let c = wrong_cut text a r in
    let same = meet text r.before s.before c.mid s.behind (stop_at_wrong text a r c) (stop_at_none text b s) in
    none_begins text s.behind (a, r.token) [] r.rest s.first s.rest s.spaces s.byte s.none
    (subst (λ (l : List ℕ). AreTokens text l ((a, r.token) ∷ []) r.rest) same.1 c.last)

wrong_short : (text : List ℕ) (a b : ℕ) → IsWrongToken text a → IsCutShortQuery text b → ⊥
wrong_short text a b r s =
    let c = wrong_cut text a r in
    let same = meet text r.before s.all c.mid s.behind (stop_at_wrong text a r c) (stop_at_end text s.all s.behind s.viable s.are s.spaces) in
    no_token_ends text a r c s.behind same.1 s.spaces

none_none : (text : List ℕ) (a b : ℕ) → IsNoToken text a → IsNoToken text b → a ≡ b
none_none text a b r s =
    let same = meet text r.before s.before r.behind s.behind (stop_at_none text a r) (stop_at_none text b s) in
    let spaces = subst (λ (l : List ℕ). SkipsSpaces l (r.first ∷ r.rest)) same.1 r.spaces in
    let rests = same_spaces s.behind (r.first ∷ r.rest) (s.first ∷ s.rest) spaces s.spaces r.byte s.byte in
    r.place ∙ ap (λ (l : List ℕ). length text - length l) rests ∙ sym s.place

none_short : (text : List ℕ) (a b : ℕ) → IsNoToken text a → IsCutShortQuery text b → ⊥
none_short text a b r s =
    let same = meet text r.before s.all r.behind s.behind (stop_at_none text a r) (stop_at_end text s.all s.behind s.viable s.are s.spaces) in
    no_both r.behind r.first r.rest r.spaces r.byte (subst (λ (l : List ℕ). SkipsSpaces l []) (sym same.1) s.spaces)

pub one_byte : (text : List ℕ) (a b : ℕ) → IsFirstWrongToken text a → IsFirstWrongToken text b → a ≡ b
one_byte text a b (inl r) (inl s) = wrong_wrong text a b r s
one_byte text a b (inl r) (inr (inl s)) = absurd (wrong_none text a b r s)
one_byte text a b (inl r) (inr (inr s)) = absurd (wrong_short text a b r s)
one_byte text a b (inr (inl r)) (inl s) = absurd (wrong_none text b a s r)
one_byte text a b (inr (inl r)) (inr (inl s)) = none_none text a b r s
one_byte text a b (inr (inl r)) (inr (inr s)) = absurd (none_short text a b r s)
one_byte text a b (inr (inr r)) (inl s) = absurd (wrong_short text b a s r)
one_byte text a b (inr (inr r)) (inr (inl s)) = absurd (none_short text b a s r)
one_byte text a b (inr (inr r)) (inr (inr s)) = r.place ∙ sym s.place
