-- Refusals in order, of which each is decided.
use Rattle.std.proofs.Common.{◌≡◌, ℕ, ◌⊎◌, inl, inr, List, Option, Some, None, refl, sym, ap, ap₂, ◌∙◌, subst, Ordering, Less, Equal, Greater}
use Rattle.std.specs.Prelude.{IsTrue}
use Rattle.std.specs.Ordering.{is_lt, ordering_reverse}
use Rattle.std.proofs.lemmas.Option.{same_Some}
use Rattle.dt_base.specs.names.Grammar.{dtmi_text}
use Rattle.json_tree.specs.Values.{Json}
use Rattle.json_tree.specs.Pointers.{IsPointerOf}
use Rattle.json_tree.proofs.OnePointer.{one_pointer}
use Rattle.rel_graph.specs.Edges.{key, key_cmp}
use Rattle.rel_graph.proofs.Tallies.{exact_keys, keys_total}
use Rattle.twin_value.specs.Codes.{code_name}
use Rattle.twin_value.specs.declared.code.BodyCode.{BodyCode}
use Rattle.twin_value.proofs.OneBreach.{one_first}
use Rattle.graph_asks.specs.Answers.{Answer, refused}
use Rattle.graph_asks.specs.declared.refusal.At.TheVariants as places
use Rattle.graph_asks.specs.declared.refusal.Refusal.{Refusal}
use Rattle.graph_asks.specs.declared.refusal.Refusal.TheVariants as refusals
use Rattle.graph_steps.specs.Refusals.{or_refuse, refuse_when}
use Rattle.graph_steps.specs.States.{State, Twin, twin_at}
use Rattle.graph_steps.specs.TwinAsks.{BodyFault, DoesNotFit, Frozen, TwinNotFound}

-- There is one such refusal at most.
abbrev pub One : (Refusal → Type 0) → Type 0
One Refuse = (r q : Refusal) → Refuse r → Refuse q → r ≡ q

pub both : (First Second : Refusal → Type 0) → One First → One Second → One (or_refuse First Second)
both First Second f g r q (inl h) (inl k) = f r q h k
both First Second f g r q (inl h) (inr (lacks, k)) = absurd (lacks r h)
both First Second f g r q (inr (lacks, h)) (inl k) = absurd (lacks q k)
both First Second f g r q (inr (lacks, h)) (inr (none, k)) = g r q h k

pub one_when : (Condition : Type 0) (refusal : Refusal) → One (refuse_when Condition refusal)
one_when Condition refusal r q h k = h.1 ∙ sym k.1

pub one_is : (refusal : Refusal) → One (λ r. r ≡ refusal)
one_is refusal r q h k = h ∙ sym k

pub one_never : One (λ r. ⊥)
one_never r q h k = absurd h

-- a refusal that depends on what an option holds
pub one_held : {A : Type 0} (o : Option A) (Refuse : A → Refusal → Type 0) → ((x : A) → One (Refuse x)) → One (λ r. (x : A) × (o ≡ Some x) × Refuse x r)
one_held {A} o Refuse one r q (x, is, h) (y, also, k) =
    let same : x ≡ y = same_Some x y (sym is ∙ also) in
    one y r q (subst (λ (z : A). Refuse z r) same h) k

-- ---- answers
abbrev pub Of : (Refusal → Type 0) → (Answer → Type 0) → Answer → Type 0
Of Refuse Give a = ((r : Refusal) × Refuse r × (a ≡ refused r)) ⊎ (((r : Refusal) → Refuse r → ⊥) × Give a)

pub one_of : (Refuse : Refusal → Type 0) (Give : Answer → Type 0) → One Refuse → ((x y : Answer) → Give x → Give y → x ≡ y) → (a b : Answer) → Of Refuse Give a → Of Refuse Give b → a ≡ b
one_of Refuse Give f g a b (inl (r, h, e)) (inl (q, k, d)) = e ∙ ap refused (f r q h k) ∙ sym d
one_of Refuse Give f g a b (inl (r, h, e)) (inr (none, k)) = absurd (none r h)
one_of Refuse Give f g a b (inr (none, h)) (inl (q, k, d)) = absurd (none q k)
one_of Refuse Give f g a b (inr (none, h)) (inr (free, k)) = g a b h k

pub given : (v : Answer) (x y : Answer) → x ≡ v → y ≡ v → x ≡ y
given v x y h k = h ∙ sym k

-- ---- conditions that several asks have
pub one_missing : (s : State) (id : List ℕ) → One (TwinNotFound s id)
one_missing s id = one_when (twin_at id s ≡ None) (refusals.TwinNotFound id)

pub one_frozen : (s : State) (id : List ℕ) → One (Frozen s id)
one_frozen s id r q (t, at, dead, e) (u, is, also, d) = e ∙ ap (λ (z : Twin). refusals.Frozen (dtmi_text z.model)) (same_Some t u (sym at ∙ is)) ∙ sym d

pub one_fault : (Broken : List ℕ → BodyCode → Type 0) (v : Json) → One (BodyFault Broken v)
one_fault Broken v r q (place, pointer, code, first, leads, x) (other, points, another, least, goes, y) =
    let same = one_first Broken place other code another first least in
    let e : pointer ≡ points = one_pointer v place pointer points leads (subst (λ (p : List ℕ). IsPointerOf v p points) (sym same.0) goes) in
    x ∙ ap₂ (λ (p : List ℕ) (c : BodyCode). refusals.BodyFault (places.Pointer p) (code_name c)) e same.1 ∙ sym y

-- two keys of which neither comes before the other are one
least_key : (k q : List ℕ × List ℕ) → (IsTrue (is_lt (key_cmp q k)) → ⊥) → (IsTrue (is_lt (key_cmp k q)) → ⊥) → k ≡ q
least_key k q f g = by (key_cmp k q) refl
  where
    by : (o : Ordering) → key_cmp k q ≡ o → k ≡ q
    by Less e = absurd (g (ap is_lt e))
    by Equal e = exact_keys k q e
    by Greater e = absurd (f (ap is_lt (keys_total.antisymm q k ∙ ap ordering_reverse e)))

pub one_ill : (new : State) (id : List ℕ) → One (DoesNotFit new id)
one_ill new id r q (l, wrong, least, e) (k, ill, first, d) =
    e ∙ ap (λ (z : List ℕ × List ℕ). refusals.DoesNotFit z.1 z.0) (least_key (key l) (key k) (least k ill) (first l wrong)) ∙ sym d
