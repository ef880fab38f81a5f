-- The fields of the twins after one was put in, put over another, handed back or taken out.
use Rattle.std.proofs.Common.{◌≡◌, ℕ, ◌+◌, ◌-◌, List, Bool, true, false, ◌&&◌, cond, Option, Some, None, length, unwrap_or, refl, sym, ap, ◌∙◌, subst, is_eq, arith, ⊎_elim}
use Rattle.std.specs.Option.{option_map}
use Rattle.std.specs.List.Sorted.{IsStrictlySortedBy}
use Rattle.std.specs.Map.{remove_entry, keys_of, values_of}
use Rattle.std.specs.BTreeMap.{is_at, insert_entry}
use Rattle.std.proofs.lemmas.Bool.{cases_Bool}
use Rattle.std.proofs.lemmas.Cmp.{tied_itself}
use Rattle.std.proofs.lemmas.Map.Lookups.{exact_bytes}
use Rattle.dt_base.specs.names.Grammar.{Identifier, id_cmp}
use Rattle.ordered_table.proofs.Flat.{C, c_total}
use Rattle.ordered_table.proofs.Ordered.{unlike, lookup-insert}
use Rattle.ordered_table.proofs.Kept.{sorted-insert, sorted-remove, lookup-removed}
use Rattle.graph_steps.specs.declared.twins.held.Held.{Held}
use Rattle.graph_steps.specs.twins.Held.{id_of, twins_by_id, is_twin_of, total_bytes}
use Rattle.graph_steps.specs.twins.Machinery.Rows.{Rows, holds_id}
use Rattle.graph_steps.specs.twins.Machinery.Keeping.{held_under, is_there_of, KeepsTwins}
use Rattle.graph_steps.proofs.twins.Keyed.{insert-keyed, remove-keyed, length-over}
use Rattle.graph_steps.proofs.twins.Kept.{own_id, total-inserted, total-removed}

tied : (id : List ℕ) → is_eq (C id id) ≡ true
tied id = ap is_eq (tied_itself c_total id)

-- ---- the index at an id, and at others
and_true : (b : Bool) → (b && true) ≡ b
and_true true = refl
and_true false = refl

and_false : (b : Bool) → (b && false) ≡ false
and_false true = refl
and_false false = refl

module _ (rows rows' : Rows) (model : Identifier) (id : List ℕ) (b : Bool) (changed : (m : Identifier) (q : List ℕ) → holds_id m q rows' ≡ cond (is_eq (id_cmp m model) && is_eq (C q id)) b (holds_id m q rows)) where
  pub has_here : (m : Identifier) → holds_id m id rows' ≡ cond (is_eq (id_cmp m model)) b (holds_id m id rows)
  has_here m = changed m id ∙ ap (λ t. cond (is_eq (id_cmp m model) && t) b (holds_id m id rows)) (tied id) ∙ ap (λ t. cond t b (holds_id m id rows)) (and_true (is_eq (id_cmp m model)))

  pub has_else : (m : Identifier) (q : List ℕ) → is_eq (C q id) ≡ false → holds_id m q rows' ≡ holds_id m q rows
  has_else m q h = changed m q ∙ ap (λ t. cond (is_eq (id_cmp m model) && t) b (holds_id m q rows)) h ∙ ap (λ t. cond t b (holds_id m q rows)) (and_false (is_eq (id_cmp m model)))

-- entries and rows that changed at one id
module _ (entries entries' : List (List ℕ × Held)) (rows rows' : Rows) (id : List ℕ) (now : Option Held)
    (moved : (q : List ℕ) → held_under entries' q ≡ cond (is_eq (C q id)) now (held_under entries q))
    (here : (m : Identifier) → holds_id m id rows' ≡ is_there_of m now)
    (else_where : (m : Identifier) (q : List ℕ) → is_eq (C q id) ≡ false → holds_id m q rows' ≡ holds_id m q rows)
    (indexed : (m : Identifier) (q : List ℕ) → holds_id m q rows ≡ is_there_of m (held_under entries q)) where
  pub indexed-step : (m : Identifier) (q : List ℕ) → holds_id m q rows' ≡ is_there_of m (held_under entries' q)
  indexed-step m q =
      ⊎_elim
      (λ t. ap (λ k. holds_id m k rows') (exact_bytes q id (unlike (C q id) t)) ∙ here m ∙ ap (is_there_of m) (sym (moved q ∙ ap (λ b. cond b now (held_under entries q)) t)))
      (λ t. else_where m q t ∙ indexed m q ∙ ap (is_there_of m) (sym (moved q ∙ ap (λ b. cond b now (held_under entries q)) t)))
      (cases_Bool (is_eq (C q id)))

left : (n : Bool) → cond n false n ≡ false
left true = refl
left false = refl

or_false : (n : Bool) → cond n true false ≡ n
or_false true = refl
or_false false = refl

module _ (entries : List (List ℕ × Held)) (rows : Rows) (len bytes : ℕ) (kept : KeepsTwins entries rows len bytes) where
  -- the same twins, and an index that says the same
  pub kept-same : (entries' : List (List ℕ × Held)) → entries' ≡ entries → (rows' : Rows) → ((m : Identifier) (q : List ℕ) → holds_id m q rows' ≡ holds_id m q rows) → KeepsTwins entries' rows' len bytes
  kept-same entries' same rows' h = subst (λ es. KeepsTwins es rows' len bytes) (sym same) (record {
    sorted = kept.sorted;
    own = kept.own;
    indexed = λ m q. h m q ∙ kept.indexed m q;
    counted = kept.counted;
    summed = kept.summed;
  })

  -- ---- with a twin at its place
  module _ (h : Held) (entries' : List (List ℕ × Held)) (put : entries' ≡ insert_entry C entries (id_of h) h) where
    sorted1 : IsStrictlySortedBy C (keys_of entries')
    sorted1 = subst (λ es. IsStrictlySortedBy C (keys_of es)) (sym put) (sorted-insert c_total (id_of h) h entries kept.sorted)

    own1 : entries' ≡ twins_by_id (values_of entries')
    own1 = put ∙ ap (λ es. insert_entry C es (id_of h) h) kept.own ∙ insert-keyed id_of h (values_of entries)
        ∙ ap (λ es. twins_by_id (values_of (insert_entry C es (id_of h) h))) (sym kept.own) ∙ ap (λ es. twins_by_id (values_of es)) (sym put)

    moved1 : (q : List ℕ) → held_under entries' q ≡ cond (is_eq (C q (id_of h))) (Some h) (held_under entries q)
    moved1 q = ap (λ es. held_under es q) put ∙ lookup-insert c_total q (id_of h) h entries

    -- where another had its id
    module _ (old : Held) (there : held_under entries (id_of h) ≡ Some old) where
      summed1 : bytes + h.bytes - old.bytes ≡ total_bytes (values_of entries')
      summed1 =
          let a = total-inserted entries (id_of h) h kept.sorted in
          let b : unwrap_or (option_map (λ (x : Held). x.bytes) (held_under entries (id_of h))) 0 ≡ old.bytes = ap (λ o. unwrap_or (option_map (λ (x : Held). x.bytes) o) 0) there in
          let d : total_bytes (values_of entries') ≡ total_bytes (values_of (insert_entry C entries (id_of h) h)) = ap (λ es. total_bytes (values_of es)) put in
          let e = kept.summed in
          omega arith

      pub kept-over : (rows2 : Rows) → ((m : Identifier) (q : List ℕ) → holds_id m q rows2 ≡ cond (is_eq (C q (id_of h))) (is_twin_of m h) (holds_id m q rows))
          → KeepsTwins entries' rows2 len (bytes + h.bytes - old.bytes)
      kept-over rows2 shifted = record {
        sorted = sorted1;
        own = own1;
        indexed = indexed-step entries entries' rows rows2 (id_of h) (Some h) moved1
            (λ m. shifted m (id_of h) ∙ ap (λ b. cond b (is_twin_of m h) (holds_id m (id_of h) rows)) (tied (id_of h)))
            (λ m q t. shifted m q ∙ ap (λ b. cond b (is_twin_of m h) (holds_id m q rows)) t) kept.indexed;
        counted = kept.counted ∙ sym (ap length put ∙ length-over (id_of h) old h entries kept.sorted there);
        summed = summed1;
      }

  -- ---- with a twin that is entered
  module _ (h : Held) (rows1 : Rows) (entered : (m : Identifier) (q : List ℕ) → holds_id m q rows1 ≡ cond (is_eq (id_cmp m h.twin.model) && is_eq (C q (id_of h))) true (holds_id m q rows)) where
    entered_here : (m : Identifier) (o : Option Held) → held_under entries (id_of h) ≡ o → holds_id m (id_of h) rows1 ≡ cond (is_twin_of m h) true (is_there_of m o)
    entered_here m o e = has_here rows rows1 h.twin.model (id_of h) true entered m ∙ ap (cond (is_twin_of m h) true) (kept.indexed m (id_of h) ∙ ap (is_there_of m) e)

    entered_else : (m : Identifier) (q : List ℕ) → is_eq (C q (id_of h)) ≡ false → holds_id m q rows1 ≡ holds_id m q rows
    entered_else = has_else rows rows1 h.twin.model (id_of h) true entered

    -- ---- put at its place
    module _ (entries' : List (List ℕ × Held)) (put : entries' ≡ insert_entry C entries (id_of h) h) where
      -- where none had its id
      pub kept-new : held_under entries (id_of h) ≡ None → length entries' ≡ len + 1 → KeepsTwins entries' rows1 (len + 1) (bytes + h.bytes)
      kept-new absent longer = record {
        sorted = sorted1 h entries' put;
        own = own1 h entries' put;
        indexed = indexed-step entries entries' rows rows1 (id_of h) (Some h) (moved1 h entries' put) (λ m. entered_here m None absent ∙ or_false (is_twin_of m h)) entered_else kept.indexed;
        counted = sym longer;
        summed =
            let a = total-inserted entries (id_of h) h kept.sorted in
            let b : unwrap_or (option_map (λ (x : Held). x.bytes) (held_under entries (id_of h))) 0 ≡ 0 = ap (λ o. unwrap_or (option_map (λ (x : Held). x.bytes) o) 0) absent in
            let d : total_bytes (values_of entries') ≡ total_bytes (values_of (insert_entry C entries (id_of h) h)) = ap (λ es. total_bytes (values_of es)) put in
            let e = kept.summed in
            omega arith;
      }

  -- ---- without a twin
  module _ (id : List ℕ) (entries' : List (List ℕ × Held)) (taken : entries' ≡ remove_entry (is_at (C id)) entries) where
    sorted2 : IsStrictlySortedBy C (keys_of entries')
    sorted2 = subst (λ es. IsStrictlySortedBy C (keys_of es)) (sym taken) (sorted-remove c_total (is_at (C id)) entries kept.sorted)

    own2 : entries' ≡ twins_by_id (values_of entries')
    own2 = taken ∙ ap (remove_entry (is_at (C id))) kept.own ∙ remove-keyed id_of (is_at (C id)) (values_of entries)
        ∙ ap (λ es. twins_by_id (values_of (remove_entry (is_at (C id)) es))) (sym kept.own) ∙ ap (λ es. twins_by_id (values_of es)) (sym taken)

    moved2 : (q : List ℕ) → held_under entries' q ≡ cond (is_eq (C q id)) None (held_under entries q)
    moved2 q = ap (λ es. held_under es q) taken ∙ lookup-removed c_total q id entries kept.sorted

    -- there was none
    pub kept-none : held_under entries id ≡ None → length entries' ≡ len → KeepsTwins entries' rows len bytes
    kept-none absent as_long = record {
      sorted = sorted2;
      own = own2;
      indexed = indexed-step entries entries' rows rows id None moved2 (λ m. kept.indexed m id ∙ ap (is_there_of m) absent) (λ m q t. refl) kept.indexed;
      counted = sym as_long;
      summed =
          let a = total-removed entries id in
          let b : unwrap_or (option_map (λ (x : Held). x.bytes) (held_under entries id)) 0 ≡ 0 = ap (λ o. unwrap_or (option_map (λ (x : Held). x.bytes) o) 0) absent in
          let d : total_bytes (values_of entries') ≡ total_bytes (values_of (remove_entry (is_at (C id)) entries)) = ap (λ es. total_bytes (values_of es)) taken in
          let e = kept.summed in
          omega arith;
    }

    pub kept-out : (old : Held) → held_under entries id ≡ Some old → length entries' + 1 ≡ len → (rows2 : Rows)
        → ((m : Identifier) (q : List ℕ) → holds_id m q rows2 ≡ cond (is_eq (id_cmp m old.twin.model) && is_eq (C q (id_of old))) false (holds_id m q rows))
        → KeepsTwins entries' rows2 (len - 1) (bytes - old.bytes)
    kept-out old there shorter rows2 leaves =
        let own_old : id_of old ≡ id = own_id entries kept.own id old there in
        let leaves_id : (m : Identifier) (q : List ℕ) → holds_id m q rows2 ≡ cond (is_eq (id_cmp m old.twin.model) && is_eq (C q id)) false (holds_id m q rows) =
        λ m q. leaves m q ∙ ap (λ k. cond (is_eq (id_cmp m old.twin.model) && is_eq (C q k)) false (holds_id m q rows)) own_old in
        record {
          sorted = sorted2;
          own = own2;
          indexed = indexed-step entries entries' rows rows2 id None moved2
              (λ m. has_here rows rows2 old.twin.model id false leaves_id m ∙ ap (cond (is_twin_of m old) false) (kept.indexed m id ∙ ap (is_there_of m) there) ∙ left (is_twin_of m old))
              (has_else rows rows2 old.twin.model id false leaves_id) kept.indexed;
          counted = omega arith;
          summed =
              let a = total-removed entries id in
              let b : unwrap_or (option_map (λ (x : Held). x.bytes) (held_under entries id)) 0 ≡ old.bytes = ap (λ o. unwrap_or (option_map (λ (x : Held). x.bytes) o) 0) there in
              let d : total_bytes (values_of entries') ≡ total_bytes (values_of (remove_entry (is_at (C id)) entries)) = ap (λ es. total_bytes (values_of es)) taken in
              let e = kept.summed in
              omega arith;
        }
