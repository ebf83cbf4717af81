-- In a report that the audit finds sound, passes tell one content of the frames at one offset of a lane.
use Rattle.std.proofs.Common.{◌≡◌, ℕ, zero, suc, ◌+◌, ◌<◌, Bool, true, false, ◌&&◌, ◌||◌, cond, eqb, List, [], ◌∷◌, take, Option, Some, None, refl, sym, ap, ◌∙◌, subst, arith, inl, inr}
use Rattle.std.specs.Prelude.{slice_get, nat_lt}
use Rattle.std.specs.List.{list_any, list_all, cons_option}
use Rattle.std.proofs.lemmas.Bool.Decides.{nat_tests}
use Rattle.std.proofs.lemmas.Bool.{cases_Bool, and_parts, and_from, eq-eqb, eqb-true}
use Rattle.qkd_base.specs.declared.lane.Lane.{Lane}
use Rattle.qkd_base.specs.Lane.{lane_eq}
use Rattle.qkd_base.specs.Name.{Name, name_eq}
use Rattle.run_types.specs.declared.payload_kind.PayloadKind.{PayloadKind}
use Rattle.run_types.specs.declared.payload_kind.PayloadKind.TheVariants as payloads
use Rattle.run_types.specs.declared.frame_result.FrameResult.{FrameResult}
use Rattle.run_types.specs.declared.frame_result.FrameResult.TheVariants as results
use Rattle.run_types.specs.declared.scenario.Scenario.{Scenario}
use Rattle.run_types.specs.declared.item.Item.{Item}
use Rattle.run_types.specs.declared.item.Item.TheVariants as items
use Rattle.run_types.specs.declared.item.NumberedItem.{NumberedItem}
use Rattle.run_audit.specs.declared.verdict.Verdict.TheVariants as verdicts
use Rattle.run_audit.specs.declared.frames.Frame.{Frame}
use Rattle.run_audit.specs.declared.contents.Content.{Content}
use Rattle.run_audit.specs.Frames.{frame_of, frames, sent_on, was_sent}
use Rattle.run_audit.specs.Contents.{told_by, offset_of, content_with, content_at, content_of, contents, payload_number, is_like, matches}
use Rattle.run_audit.specs.Tellings.{onto}
use Rattle.run_audit.specs.Rules.{keeps_apart, carries_one, verdict_from, verdict_of}
use Rattle.run_audit.specs.Kept.{AreNumbered}
use Rattle.run_audit.specs.Laws.{IsSound, FramesCarryOne}
use Rattle.run_audit.proofs.Apart.{lane_same, lane_self}
use Rattle.run_audit.proofs.Summing.{sent_below}
use Rattle.run_audit.proofs.Recording.{numbered_more}
use Rattle.run_audit.proofs.Telling.{name_same}
use Rattle.run_audit.proofs.Sound.{In, first, later, sound_step, rules_hold, holds_at, in_taken}

-- ---- kinds of payload

abbrev kind_numbered : ℕ → PayloadKind
kind_numbered k = cond (eqb k 1) payloads.Key (cond (eqb k 2) payloads.Stored (cond (eqb k 3) payloads.Ack (cond (eqb k 4) payloads.Open (cond (eqb k 5) payloads.Joined (cond (eqb k 6) payloads.Chunk payloads.Part)))))

kind_back : (k : PayloadKind) → kind_numbered (payload_number k) ≡ k
kind_back payloads.Key = refl
kind_back payloads.Stored = refl
kind_back payloads.Ack = refl
kind_back payloads.Open = refl
kind_back payloads.Joined = refl
kind_back payloads.Chunk = refl
kind_back payloads.Part = refl

kinds_same : (a b : PayloadKind) → eqb (payload_number a) (payload_number b) ≡ true → a ≡ b
kinds_same a b h = sym (kind_back a) ∙ ap kind_numbered (eqb-true (payload_number a) (payload_number b) h) ∙ kind_back b

-- ---- the offset of a frame by its number

any_in : {X : Type 0} (test : X → Bool) {x : X} {xs : List X} → In x xs → test x ≡ true → list_any test xs ≡ true
any_in test (first {xs = xs}) h = rw h refl
any_in test (later {y = y} {xs = xs} m) h = or_true (test y) (list_any test xs) (any_in test m h)
  where
    or_true : (a b : Bool) → b ≡ true → (a || b) ≡ true
    or_true true b h = refl
    or_true false b h = h

in_frames : {x : NumberedItem} {f : Frame} {xs : List NumberedItem} → In x xs → frame_of x.item ≡ Some f → In f (frames xs)
in_frames (first {xs = xs}) e = rw e first
in_frames (later {y = y} {xs = xs} m) e = behind_one (frame_of y.item) (in_frames m e)
  where
    behind_one : {f : Frame} {fs : List Frame} (o : Option Frame) → In f fs → In f (cons_option o fs)
    behind_one None i = i
    behind_one (Some g) i = later i

not_below : (a b : ℕ) → a ≡ b → nat_lt a b ≡ true → ⊥
not_below a b same below = grind (arith, nat_tests, same, below)

was_in : (f : Frame) {fs : List Frame} → In f fs → was_sent f.lane f.number fs ≡ true
was_in f i = any_in (λ (g : Frame). lane_eq g.lane f.lane && eqb g.number f.number) i (and_from (lane_eq f.lane f.lane) (eqb f.number f.number) (lane_self f.lane) (eq-eqb f.number f.number refl))

offset_found : (f : Frame) {fs : List Frame} → In f fs → AreNumbered fs → offset_of f.lane f.number fs ≡ Some f.offset
offset_found f (first {xs = xs}) h = rw (lane_self f.lane, eq-eqb f.number f.number refl) refl
offset_found f (later {y = g} {xs = gs} i) h = elim (cases_Bool (lane_eq g.lane f.lane && eqb g.number f.number)) [
  | inl same ↦ absurd (not_next same)
  | inr other ↦ rw other (offset_found f i h.1)
]
  where
    not_next : (lane_eq g.lane f.lane && eqb g.number f.number) ≡ true → ⊥
    not_next same =
        let parts = and_parts (lane_eq g.lane f.lane) (eqb g.number f.number) same in
        let next : f.number ≡ sent_on f.lane gs = sym (eqb-true g.number f.number parts.1) ∙ h.0 ∙ ap (λ (k : Lane). sent_on k gs) (lane_same g.lane f.lane parts.0) in
        let below : nat_lt f.number (sent_on f.lane gs) ≡ true = sent_below f.lane f.number gs h.1 ∙ was_in f i in
        not_below f.number (sent_on f.lane gs) next below

-- ---- what is true of the items before a place

module _ (s : Scenario) (f d l : ℕ) where
  numbered_from : (before : List NumberedItem) (line : ℕ) (told : List NumberedItem) (i : ℕ) → verdict_from s before line told ≡ verdicts.Yes f d l → AreNumbered (frames before) → AreNumbered (frames (onto before (take i told)))
  numbered_from before line [] zero h n = n
  numbered_from before line [] (suc i) h n = n
  numbered_from before line (t ∷ told) zero h n = n
  numbered_from before line (t ∷ told) (suc i) h n =
      let step = sound_step s f d l before line t told h in
      numbered_from (t ∷ before) (line + 1) told i step.1 (numbered_more (frame_of t.item) (frames before) (rules_hold s before t step.0).next n)

numbered_at : (s : Scenario) (told : List NumberedItem) → IsSound s told → (i : ℕ) → AreNumbered (frames (onto [] (take i told)))
unfolding verdict_of
numbered_at s told sound i = numbered_from s sound.frames sound.deliveries sound.ledgers [] sound.first told i sound.verdict tt

in_contents_onto : {c : Content} (xs before : List NumberedItem) → In c (contents before) → In c (contents (onto before xs))
in_contents_onto [] before m = m
in_contents_onto (y ∷ ys) before m = in_contents_onto ys (y ∷ before) (behind_one (content_of y.item (frames before)) m)
  where
    behind_one : {c : Content} {cs : List Content} (o : Option Content) → In c cs → In c (cons_option o cs)
    behind_one None i = i
    behind_one (Some e) i = later i

in_contents : (xs before : List NumberedItem) (i j : ℕ) (n : NumberedItem) (c : Content) → i < j → slice_get xs i ≡ Some n → content_of n.item (frames (onto before (take i xs))) ≡ Some c → In c (contents (onto before (take j xs)))
in_contents [] before i j n c lt at h = absurd (let u : ⊥ = cc in u)
in_contents (y ∷ ys) before i zero n c lt at h = absurd (omega arith)
in_contents (y ∷ ys) before zero (suc j) n c lt at h =
    let e : y ≡ n = cc in
    let told : content_of y.item (frames before) ≡ Some c = subst (λ (m : NumberedItem). content_of m.item (frames before) ≡ Some c) (sym e) h in
    in_contents_onto (take j ys) (y ∷ before) (rw told first)
in_contents (y ∷ ys) before (suc i) (suc j) n c lt at h = in_contents ys (y ∷ before) i j n c (omega arith) at h

all_in : {X : Type 0} (test : X → Bool) {x : X} {xs : List X} → In x xs → list_all test xs ≡ true → test x ≡ true
all_in test (first {xs = xs}) h = (and_parts _ (list_all test xs) h).0
all_in test (later {y = y} {xs = xs} m) h = all_in test m (and_parts (test y) (list_all test xs) h).1

-- ---- the law

content_told : (l : Lane) (offset : ℕ) (r : FrameResult) (kind : PayloadKind) (name : Name) → told_by r ≡ Some (kind, name) → content_at l (Some offset) r ≡ Some (record { lane = l; offset = offset; kind = kind; name = name })
content_told l offset r kind name h = ap (content_with l offset) h

pub frames_carry_one : FramesCarryOne
frames_carry_one s told sound a i b j l m n o x y r q kind name kind2 name2 ai bj ij one pass_one two pass_two tells_one tells_two =
    let earlier_one = onto [] (take i told) in
    let earlier_two = onto [] (take j told) in
    let offset_one : offset_of l m (frames earlier_one) ≡ Some o = offset_found (record { lane = l; number = m; offset = o; length = x }) (in_frames (in_taken told [] a i one.0 ai one.1) (ap frame_of one.2)) (numbered_at s told sound i) in
    let offset_two : offset_of l n (frames earlier_two) ≡ Some o = offset_found (record { lane = l; number = n; offset = o; length = y }) (in_frames (in_taken told [] b j two.0 bj two.1) (ap frame_of two.2)) (numbered_at s told sound j) in
    let c : Content = record { lane = l; offset = o; kind = kind; name = name } in
    let e : Content = record { lane = l; offset = o; kind = kind2; name = name2 } in
    let content_one : content_of pass_one.0.item (frames earlier_one) ≡ Some c = ap (λ (it : Item). content_of it (frames earlier_one)) pass_one.2 ∙ ap (λ (k : Option ℕ). content_at l k r) offset_one ∙ content_told l o r kind name tells_one in
    let content_two : content_of pass_two.0.item (frames earlier_two) ≡ Some e = ap (λ (it : Item). content_of it (frames earlier_two)) pass_two.2 ∙ ap (λ (k : Option ℕ). content_at l k q) offset_two ∙ content_told l o q kind2 name2 tells_two in
    let held = holds_at s told sound j pass_two.0 pass_two.1 in
    let carries : carries_one (content_of pass_two.0.item (frames earlier_two)) (contents earlier_two) ≡ true = (and_parts (keeps_apart (frame_of pass_two.0.item) (frames earlier_two)) _ held.apart).1 in
    let all : list_all (matches e) (contents earlier_two) ≡ true = subst (λ (k : Option Content). carries_one k (contents earlier_two) ≡ true) content_two carries in
    let own : matches e c ≡ true = all_in (matches e) (in_contents told [] i j pass_one.0 c ij pass_one.1 content_one) all in
    let like : is_like e c ≡ true = rw (lane_self l, eq-eqb o o refl) at own in
    let parts = and_parts (eqb (payload_number kind) (payload_number kind2)) (name_eq name name2) like in
    (kinds_same kind kind2 parts.0, name_same name name2 parts.1)
