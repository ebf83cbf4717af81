-- What is true of a report that the audit finds sound.
use Rattle.std.proofs.Common.{◌≡◌, ℕ, zero, suc, ◌+◌, ◌<◌, ◌≤◌, Bool, true, false, not, ◌&&◌, cond, eqb, List, [], ◌∷◌, take, Option, Some, None, refl, sym, ap, ◌∙◌, subst, arith, ◌⊎◌, inl, inr}
use Rattle.std.specs.Prelude.{slice_get}
use Rattle.std.specs.List.{list_any, list_all, filter_map, cons_option}
use Rattle.std.specs.Str.{bytes_eq}
use Rattle.std.proofs.lemmas.Bool.{and_parts, or_parts, not-true, eq-eqb, eqb-true}
use Rattle.std.proofs.lemmas.Slice.Eq.{bytes_eq-Decides}
use Rattle.qkd_base.specs.declared.key_name.NameKind.{NameKind}
use Rattle.qkd_base.specs.declared.key_name.NameKind.TheVariants.{Key, Stream, Note}
use Rattle.qkd_base.specs.Name.{Name, name_eq, kind_eq}
use Rattle.sae_entitlements.specs.Grants.{Grants}
use Rattle.run_types.specs.declared.scenario.Scenario.{Scenario}
use Rattle.run_types.specs.declared.item.Item.{Item}
use Rattle.run_types.specs.declared.item.Item.TheVariants as items
use Rattle.run_types.specs.declared.item.NumberedItem.{NumberedItem}
use Rattle.run_audit.specs.declared.verdict.Verdict.{Verdict}
use Rattle.run_audit.specs.declared.verdict.Verdict.TheVariants as verdicts
use Rattle.run_audit.specs.declared.subject.Subject.{Subject}
use Rattle.run_audit.specs.declared.subject.Subject.TheVariants as subjects
use Rattle.run_audit.specs.declared.frames.Frame.{Frame}
use Rattle.run_audit.specs.declared.takings.Taking.{Taking}
use Rattle.run_audit.specs.Rows.{same}
use Rattle.run_audit.specs.Kinds.{kind_at}
use Rattle.run_audit.specs.Frames.{frame_of, frames, agrees}
use Rattle.run_audit.specs.Tellings.{Telling, subject_eq, is_same, may_be_same, fits_with, may_have, fits, all_fit, onto, tellings_of, tellings}
use Rattle.run_audit.specs.Takings.{taking_of, takings, taking_eq, is_first, was_there}
use Rattle.run_audit.specs.Ledgers.{is_true_ledger}
use Rattle.run_audit.specs.Rules.{is_of_line, is_next, keeps_apart, masks_once, hands_out, takes_new, balances, broken, judged, verdict_from, verdict_of}
use Rattle.run_audit.specs.Kept.{AreFitting}
use Rattle.run_audit.specs.Laws.{IsSound, FramesAreDisjoint, NamesAreTakenOnce, all_told, KeysAreHandedOnce, LedgersAreTrue}
use Rattle.run_audit.proofs.Apart.{Clear, same_place, before as ends_first, behind as begins_last, clear_from, lane_self}

pub no : {A : Type 0} (b : Bool) → b ≡ true → b ≡ false → A
no b h k = absurd (let e : true ≡ false = sym h ∙ k in let u : ⊥ = cc in u)

-- ---- each rule holds at each item

pub record AllHold (s : Scenario) (before : List NumberedItem) (n : NumberedItem) : Type 0 where
  pub next : is_next (frame_of n.item) (frames before) ≡ true
  pub apart : masks_once before n.item ≡ true
  pub hands : hands_out s before n ≡ true
  pub takes : takes_new s before n ≡ true
  pub counts : balances before n.item ≡ true

none_broken : (a b c d e f : Bool) → ◌≡◌ {A = Option ℕ} (cond (not a) (Some 1) (cond (not b) (Some 2) (cond (not c) (Some 3) (cond (not d) (Some 4) (cond (not e) (Some 5) (cond (not f) (Some 6) None)))))) None
    → (b ≡ true) × (c ≡ true) × (d ≡ true) × (e ≡ true) × (f ≡ true)
none_broken false b c d e f h = absurd (let u : ⊥ = cc in u)
none_broken true false c d e f h = absurd (let u : ⊥ = cc in u)
none_broken true true false d e f h = absurd (let u : ⊥ = cc in u)
none_broken true true true false e f h = absurd (let u : ⊥ = cc in u)
none_broken true true true true false f h = absurd (let u : ⊥ = cc in u)
none_broken true true true true true false h = absurd (let u : ⊥ = cc in u)
none_broken true true true true true true h = (refl, refl, refl, refl, refl)

pub rules_hold : (s : Scenario) (before : List NumberedItem) (n : NumberedItem) → broken s before n ≡ None → AllHold s before n
rules_hold s before n h =
    let parts = none_broken (is_of_line s n) (is_next (frame_of n.item) (frames before)) (masks_once before n.item) (hands_out s before n) (takes_new s before n) (balances before n.item) h in
    record { next = parts.0; apart = parts.1; hands = parts.2; takes = parts.3; counts = parts.4 }

module _ (s : Scenario) (f d l : ℕ) where
  pub sound_step : (before : List NumberedItem) (line : ℕ) (t : NumberedItem) (told : List NumberedItem) → verdict_from s before line (t ∷ told) ≡ verdicts.Yes f d l → (broken s before t ≡ None) × (verdict_from s (t ∷ before) (line + 1) told ≡ verdicts.Yes f d l)
  sound_step before line t told h = by_rule (broken s before t) (verdict_from s (t ∷ before) (line + 1) told) h
    where
      by_rule : (o : Option ℕ) (v : Verdict) → judged line o v ≡ verdicts.Yes f d l → (o ≡ None) × (v ≡ verdicts.Yes f d l)
      by_rule None v e = (refl, e)
      by_rule (Some rule) v e = absurd (let u : ⊥ = cc in u)

  sound_at : (before : List NumberedItem) (line : ℕ) (told : List NumberedItem) (i : ℕ) (n : NumberedItem) → verdict_from s before line told ≡ verdicts.Yes f d l → slice_get told i ≡ Some n → AllHold s (onto before (take i told)) n
  sound_at before line [] i n h at = absurd (let u : ⊥ = cc in u)
  sound_at before line (t ∷ told) zero n h at =
      let e : t ≡ n = cc in
      subst (λ (m : NumberedItem). AllHold s before m) e (rules_hold s before t (sound_step before line t told h).0)
  sound_at before line (t ∷ told) (suc i) n h at = sound_at (t ∷ before) (line + 1) told i n (sound_step before line t told h).1 at

pub holds_at : (s : Scenario) (told : List NumberedItem) → IsSound s told → (i : ℕ) (n : NumberedItem) → slice_get told i ≡ Some n → AllHold s (onto [] (take i told)) n
unfolding verdict_of
holds_at s told sound i n at = sound_at s sound.frames sound.deliveries sound.ledgers [] sound.first told i n sound.verdict at

-- ---- earlier items

pub data In {X : Type 0} (x : X) : List X → Type 0 where
  first : {xs : List X} → In x (x ∷ xs)
  later : {y : X} {xs : List X} → In x xs → In x (y ∷ xs)

in_onto : {X : Type 0} {x : X} (xs before : List X) → In x before → In x (onto before xs)
in_onto [] before m = m
in_onto (y ∷ ys) before m = in_onto ys (y ∷ before) (later m)

pub in_taken : {X : Type 0} (xs before : List X) (i j : ℕ) (x : X) → i < j → slice_get xs i ≡ Some x → In x (onto before (take j xs))
in_taken [] before i j x lt at = absurd (let u : ⊥ = cc in u)
in_taken (y ∷ ys) before i zero x lt at = absurd (omega arith)
in_taken (y ∷ ys) before zero (suc j) x lt at = let e : y ≡ x = cc in in_onto (take j ys) (y ∷ before) (subst (λ z. In z (y ∷ before)) e first)
in_taken (y ∷ ys) before (suc i) (suc j) x lt at = in_taken ys (y ∷ before) i j x (omega arith) at

all_mapped : {X Y : Type 0} (h : X → Option Y) (P : Y → Bool) (x : X) (y : Y) {xs : List X} → In x xs → h x ≡ Some y → list_all P (filter_map h xs) ≡ true → P y ≡ true
all_mapped h P x y (first {xs = xs}) e all = (and_parts (P y) (list_all P (filter_map h xs)) (rw e at all)).0
all_mapped h P x y (later {y = z} {xs = xs} m) e all = all_mapped h P x y m e (behind_one (h z) (filter_map h xs) all)
  where
    behind_one : (o : Option _) (ys : List _) → list_all P (cons_option o ys) ≡ true → list_all P ys ≡ true
    behind_one None ys k = k
    behind_one (Some w) ys k = (and_parts (P w) (list_all P ys) k).1

none_mapped : {X Y : Type 0} (h : X → Option Y) (P : Y → Bool) (x : X) (y : Y) {xs : List X} → In x xs → h x ≡ Some y → list_any P (filter_map h xs) ≡ false → P y ≡ false
none_mapped h P x y (first {xs = xs}) e none = (or_parts (P y) (list_any P (filter_map h xs)) (rw e at none)).0
none_mapped h P x y (later {y = z} {xs = xs} m) e none = none_mapped h P x y m e (behind_one (h z) (filter_map h xs) none)
  where
    behind_one : (o : Option _) (ys : List _) → list_any P (cons_option o ys) ≡ false → list_any P ys ≡ false
    behind_one None ys k = k
    behind_one (Some w) ys k = (or_parts (P w) (list_any P ys) k).1

-- ---- frames

pub frames_are_disjoint : FramesAreDisjoint
frames_are_disjoint s told sound i j l m n o p x y lt one two =
    let f : Frame = record { lane = l; number = m; offset = o; length = x } in
    let g : Frame = record { lane = l; number = n; offset = p; length = y } in
    let held = holds_at s told sound j two.0 two.1 in
    let own : keeps_apart (frame_of two.0.item) (frames (onto [] (take j told))) ≡ true = (and_parts (keeps_apart (frame_of two.0.item) (frames (onto [] (take j told)))) _ held.apart).0 in
    let apart : keeps_apart (Some g) (frames (onto [] (take j told))) ≡ true = subst (λ (it : Item). keeps_apart (frame_of it) (frames (onto [] (take j told))) ≡ true) two.2 own in
    let all : list_all (agrees g) (frames (onto [] (take j told))) ≡ true = (and_parts _ (list_all (agrees g) (frames (onto [] (take j told)))) apart).1 in
    let agreed : agrees g f ≡ true = all_mapped (λ (t : NumberedItem). frame_of t.item) (agrees g) one.0 f (in_taken told [] i j one.0 lt one.1) (ap frame_of one.2) all in
    said (clear_from g f agreed (lane_self l))
  where
    said : Clear p y o x → ((p ≡ o) × (y ≡ x)) ⊎ ((o + x + 8 ≤ p) ⊎ (p + y + 8 ≤ o))
    said (same_place a b) = inl (sym a, sym b)
    said (ends_first a) = inr (inr a)
    said (begins_last a) = inr (inl a)

-- ---- names that nodes took

kind_self : (k : NameKind) → kind_eq k k ≡ true
kind_self Key = refl
kind_self Stream = refl
kind_self Note = refl

same_self : (b : Bool) → same b b ≡ true
same_self true = refl
same_self false = refl

name_self : (n : Name) → name_eq n n ≡ true
name_self n = rw (eq-eqb n.node n.node refl, kind_self n.kind, eq-eqb n.count n.count refl) refl

taking_self : (t : Taking) → taking_eq t t ≡ true
taking_self t = rw (eq-eqb t.node t.node refl, same_self t.is_ack, name_self t.name) refl

pub names_are_taken_once : NamesAreTakenOnce
names_are_taken_once s told sound i j a b t lt one two ta tb =
    let routes = s.site.routes in
    let earlier = onto [] (take j told) in
    let held = holds_at s told sound j two.0 two.1 in
    let takes : (was_there two.0.item (frames earlier) && is_first (taking_of routes two.0.item) (takings routes earlier)) ≡ true = held.takes in
    let is_new : is_first (taking_of routes two.0.item) (takings routes earlier) ≡ true = (and_parts (was_there two.0.item (frames earlier)) (is_first (taking_of routes two.0.item) (takings routes earlier)) takes).1 in
    let new : not (list_any (λ e. taking_eq e t) (takings routes earlier)) ≡ true = subst (λ (o : Option Taking). is_first o (takings routes earlier) ≡ true) (ap (taking_of routes) two.2 ∙ tb) is_new in
    let none : list_any (λ e. taking_eq e t) (takings routes earlier) ≡ false = not-true (list_any (λ e. taking_eq e t) (takings routes earlier)) new in
    no (taking_eq t t) (taking_self t)
    (none_mapped (λ (n : NumberedItem). taking_of routes n.item) (λ e. taking_eq e t) one.0 t (in_taken told [] i j one.0 lt one.1) (ap (taking_of routes) one.2 ∙ ta) none)

-- ---- bytes of keys and chunks

abbrev EachHas : Grants → List Telling → Type 0
EachHas g [] = Unit {0}
EachHas g (t ∷ ts) = (may_have g t.caller t.master ≡ true) × EachHas g ts

fitting_onto : (g : Grants) (ts before : List Telling) → AreFitting before → EachHas g before → all_fit g before ts ≡ true → AreFitting (onto before ts) × EachHas g (onto before ts)
fitting_onto g [] before fit has all = (fit, has)
fitting_onto g (t ∷ ts) before fit has all =
    let parts = and_parts (fits g before t) (all_fit g (t ∷ before) ts) all in
    let own = and_parts (list_all (fits_with t) before) (may_have g t.caller t.master) parts.0 in
    fitting_onto g ts (t ∷ before) (own.0, fit) (own.1, has) parts.1

module _ (s : Scenario) (f d l : ℕ) where
  all_fitting : (told before : List NumberedItem) (line : ℕ) → verdict_from s before line told ≡ verdicts.Yes f d l → AreFitting (tellings s before) → EachHas s.site.entitlements (tellings s before)
      → AreFitting (tellings s (onto before told)) × EachHas s.site.entitlements (tellings s (onto before told))
  all_fitting [] before line h fit has = (fit, has)
  all_fitting (t ∷ told) before line h fit has =
      let step = sound_step s f d l before line t told h in
      let more = fitting_onto s.site.entitlements (tellings_of (kind_at s t.number) t.item) (tellings s before) fit has (rules_hold s before t step.0).hands in
      all_fitting told (t ∷ before) (line + 1) step.1 more.0 more.1

all_at : (t u : Telling) (ts : List Telling) (j : ℕ) → list_all (fits_with t) ts ≡ true → slice_get ts j ≡ Some u → fits_with t u ≡ true
all_at t u [] j all at = absurd (let c : ⊥ = cc in c)
all_at t u (e ∷ es) zero all at = let same_one : e ≡ u = cc in subst (λ (x : Telling). fits_with t x ≡ true) same_one (and_parts (fits_with t e) (list_all (fits_with t) es) all).0
all_at t u (e ∷ es) (suc j) all at = all_at t u es j (and_parts (fits_with t e) (list_all (fits_with t) es) all).1 at

fit_at : (ts : List Telling) (i j : ℕ) (t u : Telling) → AreFitting ts → i < j → slice_get ts i ≡ Some t → slice_get ts j ≡ Some u → fits_with t u ≡ true
fit_at [] i j t u fit lt one two = absurd (let c : ⊥ = cc in c)
fit_at (e ∷ es) i zero t u fit lt one two = absurd (omega arith)
fit_at (e ∷ es) zero (suc j) t u fit lt one two = let same_one : e ≡ t = cc in all_at t u es j (subst (λ (x : Telling). list_all (fits_with x) es ≡ true) same_one fit.0) two
fit_at (e ∷ es) (suc i) (suc j) t u fit lt one two = fit_at es i j t u fit.1 (omega arith) one two

has_at : (g : Grants) (ts : List Telling) (i : ℕ) (t : Telling) → EachHas g ts → slice_get ts i ≡ Some t → may_have g t.caller t.master ≡ true
has_at g [] i t has at = absurd (let c : ⊥ = cc in c)
has_at g (e ∷ es) zero t has at = let same_one : e ≡ t = cc in subst (λ (x : Telling). may_have g x.caller x.master ≡ true) same_one has.0
has_at g (e ∷ es) (suc i) t has at = has_at g es i t has.1 at

subject_self : (s : Subject) → subject_eq s s ≡ true
subject_self (subjects.Key n) = name_self n
subject_self (subjects.Chunk r i) = rw (name_self r, eq-eqb i i refl) refl

-- If two tellings of one subject fit, their bytes are equal, their callers differ, and their masters don't contradict each other.
fit_parts : (t u : Telling) → t.subject ≡ u.subject → fits_with t u ≡ true → (bytes_eq u.bytes t.bytes ≡ true) × (is_same u.caller t.caller ≡ false) × (may_be_same u.master t.master ≡ true)
fit_parts t u e h =
    let own : subject_eq u.subject t.subject ≡ true = subst (λ (x : Subject). subject_eq u.subject x ≡ true) (sym e) (subject_self u.subject) in
    let all : (bytes_eq u.bytes t.bytes && not (is_same u.caller t.caller) && may_be_same u.master t.master) ≡ true = rw own at h in
    let first_two = and_parts (bytes_eq u.bytes t.bytes && not (is_same u.caller t.caller)) (may_be_same u.master t.master) all in
    let one = and_parts (bytes_eq u.bytes t.bytes) (not (is_same u.caller t.caller)) first_two.0 in
    (one.0, not-true (is_same u.caller t.caller) one.1, first_two.1)

pub keys_are_handed_once : KeysAreHandedOnce
unfolding verdict_of
keys_are_handed_once s told sound = record {
  bytes = λ i j t u lt one two e. sym ((bytes_eq-Decides u.bytes t.bytes).0 (fit_parts t u e (fit_at ts i j t u all.0 lt one two)).0);
  callers = λ i j t u a lt one two e ta ua. no (is_same u.caller t.caller) (rw (ta, ua) (eq-eqb a a refl)) (fit_parts t u e (fit_at ts i j t u all.0 lt one two)).1;
  masters = λ i j t u a b lt one two e ta ub. sym (eqb-true b a (rw (ta, ub) at (fit_parts t u e (fit_at ts i j t u all.0 lt one two)).2));
  entitled = λ i t at. has_at s.site.entitlements ts i t all.1 at;
}
  where
    ts : List Telling
    ts = all_told s told

    all : AreFitting ts × EachHas s.site.entitlements ts
    all = all_fitting s sound.frames sound.deliveries sound.ledgers told [] sound.first sound.verdict tt tt

-- ---- ledgers

pub ledgers_are_true : LedgersAreTrue
ledgers_are_true s told sound i l c at =
    let earlier = onto [] (take i told) in
    let held = holds_at s told sound i at.0 at.1 in
    let true_one : is_true_ledger earlier l c ≡ true = subst (λ (it : Item). balances earlier it ≡ true) at.2 held.counts in
    let front = and_parts _ _ true_one in
    let sums = and_parts (eqb c.received (c.unused + c.spent + c.burnt)) _ front.0 in
    (eqb-true c.received (c.unused + c.spent + c.burnt) sums.0, true_one)
