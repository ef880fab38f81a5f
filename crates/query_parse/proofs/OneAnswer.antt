-- A text has one answer.
use Rattle.std.proofs.Common.{◌≡◌, ℕ, ◌<◌, ◌≤◌, ◌⊎◌, inl, inr, List, [], length, refl, sym, ap, ◌∙◌, subst, arith}
use Rattle.query_terms.specs.Queries.{Asked}
use Rattle.query_grammar.specs.declared.names.Notes.{Notes}
use Rattle.query_parse.specs.declared.fault.QueryFault.{QueryFault}
use Rattle.query_parse.specs.declared.fault.QueryFault.TheVariants as faults
use Rattle.query_grammar.specs.Bindings.{repeated_places, unbound, IsLeastPlace}
use Rattle.query_grammar.specs.Spelled.{IsStarWithJoin, ReadsQuery, SpellsQuery}
use Rattle.query_parse.specs.Faults.{RefusesQuery}
use Rattle.query_parse.proofs.Unique.{one_text, byte_no_query, one_byte}

both : (text : List ℕ) (P Q : Asked → Notes → Type 0) → ReadsQuery text P → ReadsQuery text Q → (q : Asked) × ((n : Notes) × P q n × Q q n)
both text P Q p r =
    let same : (p.1.0, p.1.1.0) ≡ (r.1.0, r.1.1.0) = one_text text (p.1.0, p.1.1.0) (r.1.0, r.1.1.0) p.1.1.1 r.1.1.1 in
    (r.1.0, (r.1.1.0, subst (λ (w : Asked × Notes). P w.0 w.1) same p.1.1.2, r.1.1.2))

no_least : (xs : List ℕ) (at : ℕ) → xs ≡ [] → IsLeastPlace xs at → ⊥
no_least xs at e h = let one = (subst (λ (l : List ℕ). IsLeastPlace l at) e h).one in let lt = one.1 in omega (arith, lt)

same_least : (xs : List ℕ) (a b : ℕ) → IsLeastPlace xs a → IsLeastPlace xs b → a ≡ b
same_least xs a b p q = let up = p.least b q.one in let down = q.least a p.one in omega (arith, up, down)

-- what each fault says of a query
abbrev Says : QueryFault → Asked → Notes → Type 0
Says faults.TooLong q n = ⊥
Says (faults.Byte at) q n = ⊥
Says faults.TooManyJoins q n = 5 < length q.joins
Says faults.StarWithJoin q n = (length q.joins ≤ 5) × IsStarWithJoin q
Says (faults.TwiceAlias at) q n = (length q.joins ≤ 5) × (IsStarWithJoin q → ⊥) × IsLeastPlace (repeated_places n) at
Says (faults.UnknownAlias at) q n = (length q.joins ≤ 5) × (IsStarWithJoin q → ⊥) × (repeated_places n ≡ []) × IsLeastPlace (unbound q n) at
Says faults.OutOfMemory q n = ⊥

abbrev IsAsked : Asked → Asked → Notes → Type 0
IsAsked asked q n = (length q.joins ≤ 5) × (IsStarWithJoin q → ⊥) × (repeated_places n ≡ []) × (unbound q n ≡ []) × (q ≡ asked)

pub one_asked : (text : List ℕ) (a b : Asked) → SpellsQuery text a → SpellsQuery text b → a ≡ b
one_asked text a b p r = let h = both text (IsAsked a) (IsAsked b) p r in sym h.1.1.4 ∙ h.1.2.4

no_fault : (f : QueryFault) (asked q : Asked) (n : Notes) → IsAsked asked q n → Says f q n → ⊥
no_fault faults.TooLong asked q n a h = h
no_fault (faults.Byte at) asked q n a h = h
no_fault faults.TooManyJoins asked q n a h = let few = a.0 in omega (arith, few, h)
no_fault faults.StarWithJoin asked q n a h = a.1 h.1
no_fault (faults.TwiceAlias at) asked q n a h = no_least (repeated_places n) at a.2 h.2
no_fault (faults.UnknownAlias at) asked q n a h = no_least (unbound q n) at a.3 h.3
no_fault faults.OutOfMemory asked q n a h = h

no_both : (text : List ℕ) (asked : Asked) (f : QueryFault) → SpellsQuery text asked → ReadsQuery text (Says f) → ⊥
no_both text asked f p r = let h = both text (IsAsked asked) (Says f) p r in no_fault f asked h.0 h.1.0 h.1.1 h.1.2

pub refused_for_memory : (text : List ℕ) (asked : Asked) (f : QueryFault) → SpellsQuery text asked → RefusesQuery text f → f ≡ faults.OutOfMemory
refused_for_memory text asked faults.TooLong p r = let short = p.0 in absurd (omega (arith, short, r))
refused_for_memory text asked (faults.Byte at) p r = absurd (byte_no_query text at (p.1.0, p.1.1.0) r.1 p.1.1.1)
refused_for_memory text asked faults.TooManyJoins p r = absurd (no_both text asked faults.TooManyJoins p r)
refused_for_memory text asked faults.StarWithJoin p r = absurd (no_both text asked faults.StarWithJoin p r)
refused_for_memory text asked (faults.TwiceAlias at) p r = absurd (no_both text asked (faults.TwiceAlias at) p r)
refused_for_memory text asked (faults.UnknownAlias at) p r = absurd (no_both text asked (faults.UnknownAlias at) p r)
refused_for_memory text asked faults.OutOfMemory p r = refl

same_says : (f g : QueryFault) (q : Asked) (n : Notes) → Says f q n → Says g q n → f ≡ g
same_says faults.TooManyJoins faults.TooManyJoins q n h k = refl
same_says faults.TooManyJoins faults.StarWithJoin q n h k = let few = k.0 in absurd (omega (arith, few, h))
same_says faults.TooManyJoins (faults.TwiceAlias by) q n h k = let few = k.0 in absurd (omega (arith, few, h))
same_says faults.TooManyJoins (faults.UnknownAlias by) q n h k = let few = k.0 in absurd (omega (arith, few, h))
same_says faults.StarWithJoin faults.TooManyJoins q n h k = let few = h.0 in absurd (omega (arith, few, k))
same_says faults.StarWithJoin faults.StarWithJoin q n h k = refl
same_says faults.StarWithJoin (faults.TwiceAlias by) q n h k = absurd (k.1 h.1)
same_says faults.StarWithJoin (faults.UnknownAlias by) q n h k = absurd (k.1 h.1)
same_says (faults.TwiceAlias at) faults.TooManyJoins q n h k = let few = h.0 in absurd (omega (arith, few, k))
same_says (faults.TwiceAlias at) faults.StarWithJoin q n h k = absurd (h.1 k.1)
same_says (faults.TwiceAlias at) (faults.TwiceAlias by) q n h k = ap (λ (x : ℕ). faults.TwiceAlias x) (same_least (repeated_places n) at by h.2 k.2)
same_says (faults.TwiceAlias at) (faults.UnknownAlias by) q n h k = absurd (no_least (repeated_places n) at k.2 h.2)
same_says (faults.UnknownAlias at) faults.TooManyJoins q n h k = let few = h.0 in absurd (omega (arith, few, k))
same_says (faults.UnknownAlias at) faults.StarWithJoin q n h k = absurd (h.1 k.1)
same_says (faults.UnknownAlias at) (faults.TwiceAlias by) q n h k = absurd (no_least (repeated_places n) by h.2 k.2)
same_says (faults.UnknownAlias at) (faults.UnknownAlias by) q n h k = ap (λ (x : ℕ). faults.UnknownAlias x) (same_least (unbound q n) at by h.3 k.3)
same_says faults.TooLong g q n h k = absurd h
same_says (faults.Byte at) g q n h k = absurd h
same_says faults.OutOfMemory g q n h k = absurd h
same_says faults.TooManyJoins faults.TooLong q n h k = absurd k
same_says faults.TooManyJoins (faults.Byte by) q n h k = absurd k
same_says faults.TooManyJoins faults.OutOfMemory q n h k = absurd k
same_says faults.StarWithJoin faults.TooLong q n h k = absurd k
same_says faults.StarWithJoin (faults.Byte by) q n h k = absurd k
same_says faults.StarWithJoin faults.OutOfMemory q n h k = absurd k
same_says (faults.TwiceAlias at) faults.TooLong q n h k = absurd k
same_says (faults.TwiceAlias at) (faults.Byte by) q n h k = absurd k
same_says (faults.TwiceAlias at) faults.OutOfMemory q n h k = absurd k
same_says (faults.UnknownAlias at) faults.TooLong q n h k = absurd k
same_says (faults.UnknownAlias at) (faults.Byte by) q n h k = absurd k
same_says (faults.UnknownAlias at) faults.OutOfMemory q n h k = absurd k

abbrev OneFault : QueryFault → QueryFault → Type 0
OneFault f g = (f ≡ g) ⊎ ((f ≡ faults.OutOfMemory) ⊎ (g ≡ faults.OutOfMemory))

same_read : (text : List ℕ) (f g : QueryFault) → ReadsQuery text (Says f) → ReadsQuery text (Says g) → OneFault f g
same_read text f g p r = let h = both text (Says f) (Says g) p r in inl (same_says f g h.0 h.1.0 h.1.1 h.1.2)

pub one_refusal : (text : List ℕ) (f g : QueryFault) → RefusesQuery text f → RefusesQuery text g → OneFault f g
one_refusal text faults.OutOfMemory g p r = inr (inl refl)
one_refusal text faults.TooLong faults.TooLong p r = inl refl
one_refusal text faults.TooLong (faults.Byte by) p r = let short = r.0 in absurd (omega (arith, short, p))
one_refusal text faults.TooLong faults.TooManyJoins p r = let short = r.0 in absurd (omega (arith, short, p))
one_refusal text faults.TooLong faults.StarWithJoin p r = let short = r.0 in absurd (omega (arith, short, p))
one_refusal text faults.TooLong (faults.TwiceAlias by) p r = let short = r.0 in absurd (omega (arith, short, p))
one_refusal text faults.TooLong (faults.UnknownAlias by) p r = let short = r.0 in absurd (omega (arith, short, p))
one_refusal text faults.TooLong faults.OutOfMemory p r = inr (inr refl)
one_refusal text (faults.Byte at) faults.TooLong p r = let short = p.0 in absurd (omega (arith, short, r))
one_refusal text (faults.Byte at) (faults.Byte by) p r = inl (ap (λ (x : ℕ). faults.Byte x) (one_byte text at by p.1 r.1))
one_refusal text (faults.Byte at) faults.TooManyJoins p r = absurd (byte_no_query text at (r.1.0, r.1.1.0) p.1 r.1.1.1)
one_refusal text (faults.Byte at) faults.StarWithJoin p r = absurd (byte_no_query text at (r.1.0, r.1.1.0) p.1 r.1.1.1)
one_refusal text (faults.Byte at) (faults.TwiceAlias by) p r = absurd (byte_no_query text at (r.1.0, r.1.1.0) p.1 r.1.1.1)
one_refusal text (faults.Byte at) (faults.UnknownAlias by) p r = absurd (byte_no_query text at (r.1.0, r.1.1.0) p.1 r.1.1.1)
one_refusal text (faults.Byte at) faults.OutOfMemory p r = inr (inr refl)
one_refusal text faults.TooManyJoins faults.TooLong p r = let short = p.0 in absurd (omega (arith, short, r))
one_refusal text faults.TooManyJoins (faults.Byte by) p r = absurd (byte_no_query text by (p.1.0, p.1.1.0) r.1 p.1.1.1)
one_refusal text faults.TooManyJoins faults.TooManyJoins p r = same_read text faults.TooManyJoins faults.TooManyJoins p r
one_refusal text faults.TooManyJoins faults.StarWithJoin p r = same_read text faults.TooManyJoins faults.StarWithJoin p r
one_refusal text faults.TooManyJoins (faults.TwiceAlias by) p r = same_read text faults.TooManyJoins (faults.TwiceAlias by) p r
one_refusal text faults.TooManyJoins (faults.UnknownAlias by) p r = same_read text faults.TooManyJoins (faults.UnknownAlias by) p r
one_refusal text faults.TooManyJoins faults.OutOfMemory p r = inr (inr refl)
one_refusal text faults.StarWithJoin faults.TooLong p r = let short = p.0 in absurd (omega (arith, short, r))
one_refusal text faults.StarWithJoin (faults.Byte by) p r = absurd (byte_no_query text by (p.1.0, p.1.1.0) r.1 p.1.1.1)
one_refusal text faults.StarWithJoin faults.TooManyJoins p r = same_read text faults.StarWithJoin faults.TooManyJoins p r
one_refusal text faults.StarWithJoin faults.StarWithJoin p r = same_read text faults.StarWithJoin faults.StarWithJoin p r
one_refusal text faults.StarWithJoin (faults.TwiceAlias by) p r = same_read text faults.StarWithJoin (faults.TwiceAlias by) p r
one_refusal text faults.StarWithJoin (faults.UnknownAlias by) p r = same_read text faults.StarWithJoin (faults.UnknownAlias by) p r
one_refusal text faults.StarWithJoin faults.OutOfMemory p r = inr (inr refl)
one_refusal text (faults.TwiceAlias at) faults.TooLong p r = let short = p.0 in absurd (omega (arith, short, r))
one_refusal text (faults.TwiceAlias at) (faults.Byte by) p r = absurd (byte_no_query text by (p.1.0, p.1.1.0) r.1 p.1.1.1)
one_refusal text (faults.TwiceAlias at) faults.TooManyJoins p r = same_read text (faults.TwiceAlias at) faults.TooManyJoins p r
one_refusal text (faults.TwiceAlias at) faults.StarWithJoin p r = same_read text (faults.TwiceAlias at) faults.StarWithJoin p r
one_refusal text (faults.TwiceAlias at) (faults.TwiceAlias by) p r = same_read text (faults.TwiceAlias at) (faults.TwiceAlias by) p r
one_refusal text (faults.TwiceAlias at) (faults.UnknownAlias by) p r = same_read text (faults.TwiceAlias at) (faults.UnknownAlias by) p r
one_refusal text (faults.TwiceAlias at) faults.OutOfMemory p r = inr (inr refl)
one_refusal text (faults.UnknownAlias at) faults.TooLong p r = let short = p.0 in absurd (omega (arith, short, r))
one_refusal text (faults.UnknownAlias at) (faults.Byte by) p r = absurd (byte_no_query text by (p.1.0, p.1.1.0) r.1 p.1.1.1)
one_refusal text (faults.UnknownAlias at) faults.TooManyJoins p r = same_read text (faults.UnknownAlias at) faults.TooManyJoins p r
one_refusal text (faults.UnknownAlias at) faults.StarWithJoin p r = same_read text (faults.UnknownAlias at) faults.StarWithJoin p r
one_refusal text (faults.UnknownAlias at) (faults.TwiceAlias by) p r = same_read text (faults.UnknownAlias at) (faults.TwiceAlias by) p r
one_refusal text (faults.UnknownAlias at) (faults.UnknownAlias by) p r = same_read text (faults.UnknownAlias at) (faults.UnknownAlias by) p r
one_refusal text (faults.UnknownAlias at) faults.OutOfMemory p r = inr (inr refl)
