-- The turns of a worker, one by one.
use Rattle.std.proofs.Common.{◌≡◌, ◌≢◌, ◌⊎◌, ⊎_elim, inl, inr, zero, suc, ℕ, ◌+◌, ◌≤◌, ◌<◌, List, [], ◌∷◌, ◌++◌, length, Option, Some, None, refl, ap, sym, subst, ◌∙◌, append_assoc, append-nil, arith}
use Rattle.std.specs.Prelude.{map, IfSome, option_to_list}
use Rattle.std.specs.List.{AllByRecursion, flat_map, sum_by}
use Rattle.std.proofs.lemmas.List.{map-append, length-append}
use Rattle.std.proofs.lemmas.List.Sums.{sum_by-append}
use Rattle.std.proofs.lemmas.Grind.{flat_map-append}
use Rattle.dt_base.specs.Faults.{Rose}
use Rattle.connections.specs.Records.{LinkRecord, Gains, Takes}
use Rattle.one_history.specs.Histories.{own}
use Rattle.one_history.specs.declared.history.Entry.{Entry as Called}
use Rattle.one_history.proofs.Growth.{own_append}
use Rattle.http_session.specs.declared.ends.SessionEnd.{SessionEnd}
use Rattle.graph_asks.specs.declared.ask.Ask.{Ask}
use Rattle.graph_asks.specs.declared.reply.Reply.{Reply}
use Rattle.http_session.specs.Sessions.{Session}
use Rattle.http_session.specs.declared.ends.SessionEnd.TheVariants.{Closed, Refused, Full, ReadFault, WriteFault, OutOfMemory}
use Rattle.graph_server.specs.Entries.{own_response, enters}
use Rattle.graph_server.specs.Links.{called, IsLinkSession}
use Rattle.graph_server.specs.Works.{Visit, IsServed, GainsAll, IsWork, broken_at, short_at, failed_at}
use Rattle.graph_server.specs.Machinery.Turns.{TakesAll, IsVisit, Works}

takes_none : (ahead : Option (List (Option LinkRecord))) → TakesAll ahead ahead []
takes_none None = tt
takes_none (Some turns) = refl

takes_more : (ahead mid now : Option (List (Option LinkRecord))) (turns : List (Option LinkRecord)) (turn : Option LinkRecord)
    → TakesAll ahead mid turns → Takes mid now turn → TakesAll ahead now (turns ++ turn ∷ [])
takes_more None mid now turns turn h k = tt
takes_more (Some a) None now turns turn h k = absurd h
takes_more (Some a) (Some m) None turns turn h k = absurd k
takes_more (Some a) (Some m) (Some n) turns turn h k = h ∙ ap (λ z. turns ++ z) k ∙ sym (append_assoc turns (turn ∷ []) n)

gains_none : (gone : Option (List LinkRecord)) → GainsAll gone gone []
gains_none None = tt
gains_none (Some links) = sym (append-nil links)

gains_more : (gone mid now : Option (List LinkRecord)) (links : List LinkRecord) (link : LinkRecord)
    → GainsAll gone mid links → Gains mid now link → GainsAll gone now (links ++ link ∷ [])
gains_more None mid now links link h k = tt
gains_more (Some a) None now links link h k = absurd h
gains_more (Some a) (Some m) None links link h k = absurd k
gains_more (Some a) (Some m) (Some n) links link h k = k ∙ ap (λ z. z ++ link ∷ []) h ∙ append_assoc a links (link ∷ [])

all_more : (vs : List Visit) (v : Visit) → AllByRecursion IsServed vs → IsServed v → AllByRecursion IsServed (vs ++ v ∷ [])
all_more [] v h k = (k, tt)
all_more (w ∷ vs) v h k = (h.0, all_more vs v h.1 k)

pub rose_more : (a b c : ℕ) → Rose a b → b ≤ c → Rose a c
rose_more a b c h k = omega (arith, h, k)

pub rose_later : (a b c : ℕ) → a ≤ b → Rose b c → Rose a c
rose_later a b c h k = omega (arith, h, k)

zero_or : (n : ℕ) → (0 < n) ⊎ (n ≡ 0)
zero_or zero = inr refl
zero_or (suc n) = inl (omega arith)

-- a session that a fault ended leaves one
faulty : (end : SessionEnd) (a b : ℕ) → a ≡ 0 → (end ≡ ReadFault → Rose a b) → (end ≡ WriteFault → Rose a b) → broken_at end ≡ 1 → b ≢ 0
faulty Closed a b fresh read write is = λ none. omega (arith, is)
faulty Refused a b fresh read write is = λ none. omega (arith, is)
faulty Full a b fresh read write is = λ none. omega (arith, is)
faulty OutOfMemory a b fresh read write is = λ none. omega (arith, is)
faulty ReadFault a b fresh read write is = let rose : Rose a b = read refl in λ none. omega (arith, rose, fresh, none)
faulty WriteFault a b fresh read write is = let rose : Rose a b = write refl in λ none. omega (arith, rose, fresh, none)

-- a link that is served and handed back, whose counts of faults are one number
pub visited : (number : List ℕ) (before after : List (Called Ask Reply)) (came went : LinkRecord) (held now : Option (List LinkRecord)) (end : SessionEnd) (a b : ℕ)
    → IsLinkSession (Rose a b) end number before after came.left went.left came.taken went.taken → came.faults ≡ a → went.faults ≡ b → came.faults ≡ 0
    → (end ≡ ReadFault → Rose came.faults went.faults) → (end ≡ WriteFault → Rose a b) → Gains held now went → IsVisit number before after came held now end
visited number before after came went held now end a b s is_a is_b fresh read write handed =
    let same : Rose a b → Rose came.faults went.faults = λ rose. subst (λ x. Rose x went.faults) (sym is_a) (subst (λ y. Rose a y) (sym is_b) rose) in
    let es = map called (own number s.gained) in record {
      visit = record { came = came; went = went; end = end; calls = own number s.gained };
      gained = s.gained;
      is_end = refl;
      is_come = refl;
      served = record {
        out = s.out;
        session = subst (λ x. Session own_response enters (Rose x went.faults) end came.left went.left es s.out) (sym is_a)
            (subst (λ y. Session own_response enters (Rose a y) end came.left went.left es s.out) (sym is_b) s.session);
        written = s.written;
        cause = faulty end came.faults went.faults fresh read (λ is. same (write is));
      };
      grows = s.grows;
      calls = refl;
      handed_back = handed;
    }

-- an end is counted once at most
pub once : (end : SessionEnd) → (broken_at end ≤ 1) × (short_at end ≤ 1)
once Closed = (omega arith, omega arith)
once Refused = (omega arith, omega arith)
once Full = (omega arith, omega arith)
once ReadFault = (omega arith, omega arith)
once WriteFault = (omega arith, omega arith)
once OutOfMemory = (omega arith, omega arith)

-- the count rose at an earlier end or at this one
pub broke : (end : SessionEnd) (old new a b c : ℕ) → new ≡ old + broken_at end → (0 < old → Rose a b) → b ≤ c → (broken_at end ≡ 1 → Rose b c) → a ≤ b → 0 < new → Rose a c
broke end old new a b c is before rising now count some =
    let bound = (once end).0 in
    ⊎_elim (λ (some_before : 0 < old). rose_more a b c (before some_before) rising) (λ (none : old ≡ 0). rose_later a b c count (now (omega (arith, none, is, some, bound)))) (zero_or old)

module _ (number : List ℕ) (before : List (Called Ask Reply)) (ahead : Option (List (Option LinkRecord))) (gone : Option (List LinkRecord)) where
  pub none_yet : Works number before before ahead ahead gone gone 0 0 0 0
  none_yet = record {
    turns = [];
    visits = [];
    gained = [];
    passed = takes_none ahead;
    served = tt;
    taken = refl;
    failed = refl;
    handed_back = gains_none gone;
    grows = sym (append-nil before);
    calls = refl;
    all_links = refl;
    all_broken = refl;
    all_short = refl;
  }

  module _ (after : List (Called Ask Reply)) (mid left : Option (List (Option LinkRecord))) (held : Option (List LinkRecord)) (links faults broken short : ℕ)
      (w : Works number before after ahead mid gone held links faults broken short) where
    pub one_failed : (kept : Option (List LinkRecord)) → kept ≡ held → Takes mid left None → Works number before after ahead left gone kept links (faults + 1) broken short
    one_failed kept same took = record {
      turns = w.turns ++ None ∷ [];
      visits = w.visits;
      gained = w.gained;
      passed = takes_more ahead mid left w.turns None w.passed took;
      served = w.served;
      taken = flat_map-append option_to_list w.turns (None ∷ []) ∙ append-nil (flat_map option_to_list w.turns) ∙ w.taken;
      failed = omega (arith, w.failed, sum_by-append failed_at w.turns (None ∷ []));
      handed_back = subst (λ z. GainsAll gone z (map (λ v. v.went) w.visits)) (sym same) w.handed_back;
      grows = w.grows;
      calls = w.calls;
      all_links = w.all_links;
      all_broken = w.all_broken;
      all_short = w.all_short;
    }

    pub one_served : (now : List (Called Ask Reply)) (came : LinkRecord) (then : Option (List (Option LinkRecord))) (lent kept : Option (List LinkRecord)) (end : SessionEnd) (links' faults' broken' short' : ℕ)
        → left ≡ then → lent ≡ held → Takes mid then (Some came) → IsVisit number after now came lent kept end
        → links' ≡ links + 1 → faults' ≡ faults → broken' ≡ broken + broken_at end → short' ≡ short + short_at end
        → Works number before now ahead left gone kept links' faults' broken' short'
    one_served now came then lent kept end links' faults' broken' short' same_left same_held took v is_links is_faults is_broken is_short =
        let turn = Some came in
        let took' : Takes mid left turn = subst (λ z. Takes mid z turn) (sym same_left) took in
        let gains : Gains held kept v.visit.went = subst (λ z. Gains z kept v.visit.went) same_held v.handed_back in
        let more = map-append (λ (u : Visit). u.went) w.visits (v.visit ∷ []) in record {
          turns = w.turns ++ turn ∷ [];
          visits = w.visits ++ v.visit ∷ [];
          gained = w.gained ++ v.gained;
          passed = takes_more ahead mid left w.turns turn w.passed took';
          served = all_more w.visits v.visit w.served v.served;
          taken = flat_map-append option_to_list w.turns (turn ∷ []) ∙ ap (λ z. z ++ came ∷ []) w.taken
              ∙ ap (λ z. map (λ (u : Visit). u.came) w.visits ++ z ∷ []) (sym v.is_come) ∙ sym (map-append (λ (u : Visit). u.came) w.visits (v.visit ∷ []));
          failed = omega (arith, w.failed, is_faults, sum_by-append failed_at w.turns (turn ∷ []));
          handed_back = subst (GainsAll gone kept) (sym more) (gains_more gone held kept (map (λ (u : Visit). u.went) w.visits) v.visit.went w.handed_back gains);
          grows = v.grows ∙ ap (λ z. z ++ v.gained) w.grows ∙ append_assoc before w.gained v.gained;
          calls = own_append number w.gained v.gained ∙ ap (λ z. z ++ own number v.gained) w.calls
              ∙ ap (λ z. flat_map (λ (u : Visit). u.calls) w.visits ++ z) (v.calls ∙ sym (append-nil v.visit.calls)) ∙ sym (flat_map-append (λ (u : Visit). u.calls) w.visits (v.visit ∷ []));
          all_links = omega (arith, is_links, w.all_links, length-append w.visits (v.visit ∷ []));
          all_broken = omega (arith, is_broken, w.all_broken, sum_by-append (λ (u : Visit). broken_at u.end) w.visits (v.visit ∷ []), ap broken_at v.is_end);
          all_short = omega (arith, is_short, w.all_short, sum_by-append (λ (u : Visit). short_at u.end) w.visits (v.visit ∷ []), ap short_at v.is_end);
        }

    -- no turn is left
    whole : (told : Option (List (Option LinkRecord))) (rest : Option (List (Option LinkRecord))) (turns : List (Option LinkRecord)) → TakesAll told rest turns → IfSome rest (λ ts. length ts ≡ 0)
        → IfSome told (λ ts. ts ≡ turns)
    whole None rest turns h none_left = tt
    whole (Some a) None turns h none_left = absurd h
    whole (Some a) (Some []) turns h none_left = h ∙ append-nil turns
    whole (Some a) (Some (t ∷ ts)) turns h none_left = absurd (omega (arith, none_left))

    as_told : (told : Option (List (Option LinkRecord))) (P : List (Option LinkRecord) → Type 0) → IfSome told (λ ts. ts ≡ w.turns) → P w.turns → IfSome told P
    as_told None P h k = tt
    as_told (Some a) P h k = subst P (sym h) k

    pub all_done : (kept : Option (List LinkRecord)) (n : ℕ) → kept ≡ held → IfSome mid (λ ts. length ts ≡ n) → n ≡ 0 → IsWork number before after ahead gone kept links faults broken short
    all_done kept n same each none_left =
        let is = whole ahead mid w.turns w.passed (subst (λ z. IfSome mid (λ ts. length ts ≡ z)) none_left each) in record {
          visits = w.visits;
          gained = w.gained;
          served = w.served;
          taken = as_told ahead (λ ts. flat_map option_to_list ts ≡ map (λ v. v.came) w.visits) is w.taken;
          failed = as_told ahead (λ ts. faults ≡ sum_by failed_at ts) is w.failed;
          handed_back = subst (λ z. GainsAll gone z (map (λ v. v.went) w.visits)) (sym same) w.handed_back;
          grows = w.grows;
          calls = w.calls;
          all_links = w.all_links;
          all_broken = w.all_broken;
          all_short = w.all_short;
        }
