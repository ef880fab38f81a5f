-- What the walk tells of a value without breach, part by part.
use Rattle.std.proofs.Common.{◌≡◌, ℕ, ◌+◌, ◌<◌, ◌≤◌, List, length, get_or, take, Option, None, Result, Ok, Err, sym, subst}
use Rattle.std.specs.Result.{IfOk}
use Rattle.std.proofs.lemmas.List.{take_all}
use Rattle.json_tree.specs.Values.{Json, array, object}
use Rattle.json_tree.specs.View.{view, elements_view, members_view}
use Rattle.json_tree.specs.declared.tree.Tree.{Tree}
use Rattle.json_tree.specs.declared.tree.Member.{Member}
use Rattle.twin_value.specs.Roles.{Role, element_role, body_member_role}
use Rattle.twin_value.specs.Breaches.{IsBodyBreach}
use Rattle.twin_value.specs.Machinery.Walks.{JudgesBody, FindsFirstBodyBreach, FindsClear}
use Rattle.twin_value.specs.Machinery.Sound.{Sound, SoundAlone, ElementsSound, MembersSound}
use Rattle.twin_value.specs.declared.code.BodyCode.{BodyCode}
use Rattle.twin_value.specs.declared.walk.Found.{Found}
use Rattle.twin_value.proofs.Walked.{parts_after}
use Rattle.twin_value.proofs.Fitting.{array_sound, object_sound, elements_more, members_more}
use Rattle.twin_value.proofs.Enumerated.{take-more}

-- ---- where the parts are walked over
pub first_of_parts : {E : Type 0} (r : Role) (v w : Json) (o : Option BodyCode) (res : Result (Option Found) E) → JudgesBody r v o → o ≡ None → v ≡ w
    → IfOk res (FindsClear r w) → IfOk res (FindsFirstBodyBreach (IsBodyBreach r v))
first_of_parts r v w o (Ok found) j none e h = parts_after r v w o found j none e h
first_of_parts r v w o (Err x) j none e h = tt

pub sound_of_parts : {E : Type 0} (r : Role) (v w : Json) (res : Result (Option Found) E) → SoundAlone r v → v ≡ w
    → IfOk res (λ found. found ≡ None → SoundAlone r w → Sound r w) → IfOk res (λ found. found ≡ None → Sound r v)
sound_of_parts r v w (Ok found) alone e h = λ none. subst (λ (x : Json). Sound r x) (sym e) (h none (subst (λ (x : Json). SoundAlone r x) e alone))
sound_of_parts r v w (Err x) alone e h = tt

-- ---- in the loops
pub elements_next : (r s : Role) (ts : List Tree) (i : ℕ) (t : Tree) → i < length ts → t ≡ get_or ts i t → s ≡ element_role r → ElementsSound (element_role r) (elements_view (take i ts)) → Sound s (view t)
    → ElementsSound (element_role r) (elements_view (take (i + 1) ts))
elements_next r s ts i t within is e h k =
    subst (λ (l : List Tree). ElementsSound (element_role r) (elements_view l)) (sym (take-more ts i t within is))
    (elements_more (element_role r) (take i ts) t h (subst (λ (q : Role). Sound q (view t)) e k))

pub members_next : (r s : Role) (ms : List Member) (i : ℕ) (m : Member) → i < length ms → m ≡ get_or ms i m → body_member_role r m.key ≡ s → MembersSound (body_member_role r) (members_view (take i ms)) → Sound s (view m.value)
    → MembersSound (body_member_role r) (members_view (take (i + 1) ms))
members_next r s ms i m within is e h k =
    subst (λ (l : List Member). MembersSound (body_member_role r) (members_view l)) (sym (take-more ms i m within is))
    (members_more (body_member_role r) (take i ms) m h (subst (λ (q : Role). Sound q (view m.value)) (sym e) k))

pub elements_done : (r : Role) (ts : List Tree) (i : ℕ) → length ts ≤ i → ElementsSound (element_role r) (elements_view (take i ts)) → SoundAlone r (array (elements_view ts)) → Sound r (array (elements_view ts))
elements_done r ts i past h alone =
    array_sound r (elements_view ts) alone (subst (λ (l : List Tree). ElementsSound (element_role r) (elements_view l)) (take_all i ts past) h)

pub members_done : (r : Role) (ms : List Member) (i : ℕ) → length ms ≤ i → MembersSound (body_member_role r) (members_view (take i ms)) → SoundAlone r (object (members_view ms)) → Sound r (object (members_view ms))
members_done r ms i past h alone =
    object_sound r (members_view ms) alone (subst (λ (l : List Member). MembersSound (body_member_role r) (members_view l)) (take_all i ms past) h)
