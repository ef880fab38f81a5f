-- The tickets and the slot, over each kind of step.
use Rattle.std.proofs.Common.{◌≡◌, ◌≢◌, ℕ, ◌+◌, ◌<◌, ◌⊎◌, List, [], ◌∷◌, set, sym, refl, ◌∙◌, subst, inl, inr, ⊎_elim, arith}
use Rattle.std.specs.Prelude.{Some}
use Rattle.std.specs.declared.option.Option.{Option}
use mathlib.Core.Option.{Option as Home, none, some}
use lib.ListN.{get_elem?}
use Rattle.atomic_table.proofs.Lists.{at_set, set_else}
use Rattle.one_history.specs.declared.history.Entry.{Entry}
use Rattle.one_history.specs.declared.history.Member.{Member}
use Rattle.one_history.specs.declared.history.Turn.{Turn}
use Rattle.one_history.specs.declared.history.Turn.TheVariants.{Idle, Waits, Serves}
use Rattle.one_history.specs.declared.history.View.{View}
use Rattle.one_history.specs.Histories.{state_after}
use Rattle.one_history.specs.Machinery.Rules.{HasTicket, IsServed, IsInTurn, Queue}
use Rattle.one_history.proofs.Places.{put_at, at_once}

module _ {O A R : Type 0} where
  in_later : (drawn serving : ℕ) (log : List (Entry A R)) (ms : List (Member O A R)) (turn : Turn) → IsInTurn drawn serving log ms turn → IsInTurn (drawn + 1) serving log ms turn
  in_later drawn serving log ms Idle i = tt
  in_later drawn serving log ms (Waits t) i = let a = i.0 in let b = i.1 in (a, omega arith)
  in_later drawn serving log ms (Serves t) i = let b = i.1 in (i.0, omega arith, i.2)

  in_next : (drawn serving : ℕ) (log log' : List (Entry A R)) (ms : List (Member O A R)) (turn : Turn) → (HasTicket serving turn → ⊥) → IsInTurn drawn serving log ms turn → IsInTurn drawn (serving + 1) log' ms turn
  in_next drawn serving log log' ms Idle other i = tt
  in_next drawn serving log log' ms (Waits t) other i = let a = i.0 in let b = i.1 in let c : t ≢ serving = other in (omega arith, b)
  in_next drawn serving log log' ms (Serves t) other i = absurd (other i.0)

  ticket_below : (drawn serving t : ℕ) (log : List (Entry A R)) (ms : List (Member O A R)) (turn : Turn) → IsInTurn drawn serving log ms turn → HasTicket t turn → t < drawn
  ticket_below drawn serving t log ms Idle i h = absurd h
  ticket_below drawn serving t log ms (Waits u) i h = let b = i.1 in let e : u ≡ t = h in omega arith
  ticket_below drawn serving t log ms (Serves u) i h = let b = i.1 in let e : u ≡ t = h in omega arith

  served_ticket : (drawn serving : ℕ) (log : List (Entry A R)) (ms : List (Member O A R)) (turn : Turn) → IsInTurn drawn serving log ms turn → IsServed turn → HasTicket serving turn
  served_ticket drawn serving log ms Idle i h = absurd h
  served_ticket drawn serving log ms (Waits u) i h = absurd h
  served_ticket drawn serving log ms (Serves u) i h = i.0

no_ticket : (t : ℕ) (turn : Turn) → turn ≡ Idle → HasTicket t turn → ⊥
no_ticket t turn e h = subst (HasTicket t) e h

not_served : (turn : Turn) → turn ≡ Idle → IsServed turn → ⊥
not_served turn e h = subst IsServed e h

module _ {O S A R : Type 0} (state : O → S) (sound : A → Type 0) (allowed : S → A → R → Type 0) (follows : S → A → R → S) (key : O) where
  abbrev V : Type 0
  V = View O A R

  abbrev At : List V → ℕ → V → Type 0
  At views j d = get_elem? views j ≡ some d

  abbrev Q : ℕ → ℕ → Home (Option O) → List (Entry A R) → (ℕ → V → Type 0) → Type 0
  Q drawn serving slot log at = Queue state sound allowed follows key drawn serving slot log at

  -- the views that changed call nothing, before and after
  pub queue_calm : (drawn serving : ℕ) (slot : Home (Option O)) (log : List (Entry A R)) (at at' : ℕ → V → Type 0)
      → ((j : ℕ) (d : V) → at' j d → (d.turn ≡ Idle) ⊎ at j d)
      → ((j : ℕ) (d : V) → at j d → (d.turn ≡ Idle) ⊎ at' j d)
      → Q drawn serving slot log at → Q drawn serving slot log at'
  queue_calm drawn serving slot log at at' back forth q = record {
    order = q.order;
    small = q.small;
    turns = λ j d h. ⊎_elim (λ (e : d.turn ≡ Idle). subst (IsInTurn drawn serving log d.members) (sym e) tt) (λ (a : at j d). q.turns j d a) (back j d h);
    lone = λ i j t d e h k a b. ⊎_elim (λ (z : d.turn ≡ Idle). absurd (no_ticket t d.turn z a))
        (λ (x : at i d). ⊎_elim (λ (z : e.turn ≡ Idle). absurd (no_ticket t e.turn z b)) (λ (y : at j e). q.lone i j t d e x y a b) (back j e k)) (back i d h);
    home = ⊎_elim (λ (h : (o : O) × (slot ≡ some (Some o)) × (state o ≡ state_after follows (state key) log)). inl h)
        (λ (h : (j : ℕ) × (d : V) × at j d × IsServed d.turn). ⊎_elim (λ (z : h.1.turn ≡ Idle). absurd (not_served h.1.turn z h.3)) (λ (a : at' h.0 h.1). inr (h.0, h.1, a, h.3)) (forth h.0 h.1 h.2)) q.home;
  }

  pub queue_draw : (drawn serving : ℕ) (slot : Home (Option O)) (log : List (Entry A R)) (views : List V) (id : ℕ) (v w : V)
      → At views id v → v.turn ≡ Idle → w.turn ≡ Waits drawn → drawn + 1 < 18446744073709551616
      → Q drawn serving slot log (At views) → Q (drawn + 1) serving slot log (At (set views id w))
  queue_draw drawn serving slot log views id v w at idle waits room q =
      let order = q.order in
      let mine : (t : ℕ) (d : V) → w ≡ d → HasTicket t d.turn → drawn ≡ t = λ t d e h. subst (HasTicket t) waits (subst (λ (z : V). HasTicket t z.turn) (sym e) h) in
      let older : (j t : ℕ) (d : V) → At views j d → HasTicket t d.turn → t < drawn = λ j t d a h. ticket_below drawn serving t log d.members d.turn (q.turns j d a) h in
      record {
        order = omega arith;
        small = room;
        turns = λ j d h. ⊎_elim (λ (t : (j ≡ id) × (w ≡ d)). subst (λ (z : V). IsInTurn (drawn + 1) serving log z.members z.turn) t.1 (subst (IsInTurn (drawn + 1) serving log w.members) (sym waits) (order, omega arith)))
            (λ (t : (j ≢ id) × At views j d). in_later drawn serving log d.members d.turn (q.turns j d t.1)) (at_set views id j w d h);
        lone = λ i j t d e h k a b. ⊎_elim
            (λ (x : (i ≡ id) × (w ≡ d)). ⊎_elim (λ (y : (j ≡ id) × (w ≡ e)). x.0 ∙ sym y.0)
            (λ (y : (j ≢ id) × At views j e). let p = mine t d x.1 a in let r = older j t e y.1 b in absurd (omega arith)) (at_set views id j w e k))
            (λ (x : (i ≢ id) × At views i d). ⊎_elim (λ (y : (j ≡ id) × (w ≡ e)). let p = mine t e y.1 b in let r = older i t d x.1 a in absurd (omega arith))
            (λ (y : (j ≢ id) × At views j e). q.lone i j t d e x.1 y.1 a b) (at_set views id j w e k))
            (at_set views id i w d h);
        home = ⊎_elim (λ (h : (o : O) × (slot ≡ some (Some o)) × (state o ≡ state_after follows (state key) log)). inl h)
            (λ (h : (j : ℕ) × (d : V) × At views j d × IsServed d.turn). inr (
              h.0,
              h.1,
              set_else views id h.0 w (λ e. not_served v.turn idle
                  (subst (λ (z : V). IsServed z.turn) (at_once views h.1 v id (subst (λ (z : ℕ). At views z h.1) e h.2) at) h.3)) ∙ h.2,
              h.3,
            )) q.home;
      }

  -- the seat whose ticket is served takes the object
  pub queue_take : (drawn serving : ℕ) (slot : Home (Option O)) (log : List (Entry A R)) (views : List V) (id : ℕ) (v w : V) (m : Member O A R)
      → At views id v → v.turn ≡ Waits serving → w.turn ≡ Serves serving → w.members ≡ m ∷ [] → m.seen ≡ log
      → Q drawn serving slot log (At views)
      → (o : O) × (slot ≡ some (Some o)) × (state o ≡ state_after follows (state key) log) × Q drawn serving none log (At (set views id w))
  queue_take drawn serving slot log views id v w m at waits serves one all q =
      let mine : HasTicket serving v.turn = subst (HasTicket serving) (sym waits) refl in
      let below : serving < drawn = ticket_below drawn serving serving log v.members v.turn (q.turns id v at) mine in
      let here : ((o : O) × (slot ≡ some (Some o)) × (state o ≡ state_after follows (state key) log)) = ⊎_elim
      (λ (h : (o : O) × (slot ≡ some (Some o)) × (state o ≡ state_after follows (state key) log)). h)
      (λ (h : (j : ℕ) × (d : V) × At views j d × IsServed d.turn).
      let place : h.0 ≡ id = q.lone h.0 id serving h.1 v h.2 at (served_ticket drawn serving log h.1.members h.1.turn (q.turns h.0 h.1 h.2) h.3) mine in
      let same : h.1 ≡ v = at_once views h.1 v id (subst (λ (z : ℕ). At views z h.1) place h.2) at in
      absurd (subst IsServed waits (subst (λ (z : V). IsServed z.turn) same h.3)))
      q.home in
      let was : (t : ℕ) (d : V) → w ≡ d → HasTicket t d.turn → HasTicket t v.turn = λ t d e h. subst (HasTicket t) (sym waits) (subst (HasTicket t) serves (subst (λ (z : V). HasTicket t z.turn) (sym e) h)) in (
        here.0,
        here.1,
        here.2,
        record {
          order = q.order;
          small = q.small;
          turns = λ j d h. ⊎_elim (λ (t : (j ≡ id) × (w ≡ d)). subst (λ (z : V). IsInTurn drawn serving log z.members z.turn) t.1 (subst (IsInTurn drawn serving log w.members) (sym serves) (refl, below, (m, one, all))))
              (λ (t : (j ≢ id) × At views j d). q.turns j d t.1) (at_set views id j w d h);
          lone = λ i j t d e h k a b. ⊎_elim
              (λ (x : (i ≡ id) × (w ≡ d)). ⊎_elim (λ (y : (j ≡ id) × (w ≡ e)). x.0 ∙ sym y.0)
              (λ (y : (j ≢ id) × At views j e). x.0 ∙ q.lone id j t v e at y.1 (was t d x.1 a) b) (at_set views id j w e k))
              (λ (x : (i ≢ id) × At views i d). ⊎_elim (λ (y : (j ≡ id) × (w ≡ e)). q.lone i id t d v x.1 at a (was t e y.1 b) ∙ sym y.0)
              (λ (y : (j ≢ id) × At views j e). q.lone i j t d e x.1 y.1 a b) (at_set views id j w e k))
              (at_set views id i w d h);
          home = inr (id, w, put_at views id v w at, subst IsServed (sym serves) tt);
        },
      )

  -- the seat that is served gives the object back, and the next ticket is served
  pub queue_move : (drawn serving t : ℕ) (slot : Home (Option O)) (log log' : List (Entry A R)) (views : List V) (id : ℕ) (v w : V) (o : O)
      → At views id v → v.turn ≡ Serves t → w.turn ≡ Idle → state o ≡ state_after follows (state key) log'
      → Q drawn serving slot log (At views)
      → (t ≡ serving) × (serving < drawn) × Q drawn (serving + 1) (some (Some o)) log' (At (set views id w))
  queue_move drawn serving t slot log log' views id v w o at serves idle right q =
      let in_turn = subst (IsInTurn drawn serving log v.members) serves (q.turns id v at) in
      let now : t ≡ serving = in_turn.0 in
      let mine : HasTicket serving v.turn = subst (HasTicket serving) (sym serves) now in
      let below : serving < drawn = ticket_below drawn serving serving log v.members v.turn (q.turns id v at) mine in (
        now,
        below,
        record {
          order = omega arith;
          small = q.small;
          turns = λ j d h. ⊎_elim (λ (t : (j ≡ id) × (w ≡ d)). subst (λ (z : V). IsInTurn drawn (serving + 1) log' z.members z.turn) t.1 (subst (IsInTurn drawn (serving + 1) log' w.members) (sym idle) tt))
              (λ (t : (j ≢ id) × At views j d). in_next drawn serving log log' d.members d.turn (λ h. t.0 (q.lone j id serving d v t.1 at h mine)) (q.turns j d t.1)) (at_set views id j w d h);
          lone = λ i j t d e h k a b. ⊎_elim
              (λ (x : (i ≡ id) × (w ≡ d)). absurd (no_ticket t w.turn idle (subst (λ (z : V). HasTicket t z.turn) (sym x.1) a)))
              (λ (x : (i ≢ id) × At views i d). ⊎_elim (λ (y : (j ≡ id) × (w ≡ e)). absurd (no_ticket t w.turn idle (subst (λ (z : V). HasTicket t z.turn) (sym y.1) b)))
              (λ (y : (j ≢ id) × At views j e). q.lone i j t d e x.1 y.1 a b) (at_set views id j w e k))
              (at_set views id i w d h);
          home = inl (o, refl, right);
        },
      )
