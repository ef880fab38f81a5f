-- What `read` answers.
use Rattle.std.proofs.Common.{◌≡◌, ℕ, ◌<◌, ◌≤◌, List, [], length, Bool, true, false, refl, arith}
use Rattle.query_terms.specs.Queries.{Asked}
use Rattle.query_grammar.specs.declared.names.Notes.{Notes}
use Rattle.query_parse.specs.declared.fault.QueryFault.{QueryFault}
use Rattle.query_parse.specs.declared.fault.QueryFault.TheVariants as faults
use Rattle.query_grammar.specs.Texts.{IsQueryText}
use Rattle.query_grammar.specs.Bindings.{repeated_places, unbound, IsLeastPlace}
use Rattle.query_grammar.specs.Spelled.{is_star, IsStarWithJoin, SpellsQuery}
use Rattle.query_parse.specs.Faults.{RefusesQuery}
use Rattle.query_parse.specs.Machinery.Reached.{RefusesByte}

-- ---- rows given whole
pub star_joined : (q : Asked) → is_star q.select ≡ true → 0 < length q.joins → IsStarWithJoin q
star_joined q star some = (star, some)

true_or_false : (b : Bool) → b ≡ true → b ≡ false → ⊥
true_or_false b p q = cc

pub no_star : (q : Asked) → is_star q.select ≡ false → IsStarWithJoin q → ⊥
no_star q other h = true_or_false (is_star q.select) h.0 other

pub no_join : (q : Asked) → length q.joins ≤ 0 → IsStarWithJoin q → ⊥
no_join q none h = let some = h.1 in omega (arith, none, some)

-- ---- each answer
pub byte_refused : (text : List ℕ) (f : QueryFault) → length text ≤ 8192 → RefusesByte text f → RefusesQuery text f
byte_refused text (faults.Byte at) short h = (short, h)
byte_refused text faults.OutOfMemory short h = tt
byte_refused text faults.TooLong short h = absurd h
byte_refused text faults.TooManyJoins short h = absurd h
byte_refused text faults.StarWithJoin short h = absurd h
byte_refused text (faults.TwiceAlias at) short h = absurd h
byte_refused text (faults.UnknownAlias at) short h = absurd h

pub many_joins : (text : List ℕ) (q : Asked) (n : Notes) → length text ≤ 8192 → IsQueryText text (q, n) → 5 < length q.joins → RefusesQuery text faults.TooManyJoins
many_joins text q n short is many = (short, (q, (n, is, many)))

pub star_refused : (text : List ℕ) (q : Asked) (n : Notes) → length text ≤ 8192 → IsQueryText text (q, n) → length q.joins ≤ 5 → IsStarWithJoin q
    → RefusesQuery text faults.StarWithJoin
star_refused text q n short is few star = (short, (q, (n, is, (few, star))))

pub twice_refused : (text : List ℕ) (q : Asked) (n : Notes) (at : ℕ) → length text ≤ 8192 → IsQueryText text (q, n) → length q.joins ≤ 5
    → (IsStarWithJoin q → ⊥) → IsLeastPlace (repeated_places n) at → RefusesQuery text (faults.TwiceAlias at)
twice_refused text q n at short is few star least = (short, (q, (n, is, (few, star, least))))

pub unknown_refused : (text : List ℕ) (q : Asked) (n : Notes) (at : ℕ) → length text ≤ 8192 → IsQueryText text (q, n) → length q.joins ≤ 5
    → (IsStarWithJoin q → ⊥) → repeated_places n ≡ [] → IsLeastPlace (unbound q n) at → RefusesQuery text (faults.UnknownAlias at)
unknown_refused text q n at short is few star once least = (short, (q, (n, is, (few, star, once, least))))

pub spelled : (text : List ℕ) (q : Asked) (n : Notes) → length text ≤ 8192 → IsQueryText text (q, n) → length q.joins ≤ 5
    → (IsStarWithJoin q → ⊥) → repeated_places n ≡ [] → unbound q n ≡ [] → SpellsQuery text q
spelled text q n short is few star once bound = (short, (q, (n, is, (few, star, once, bound, refl))))
