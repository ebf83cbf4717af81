-- The head of a journal's disk: 16 octets before the first gate.
use Rattle.std.proofs.Common.{◌≡◌, ◌≢◌, ◌≤◌, ◌<◌, ◌⊎◌, inl, inr, ℕ, zero, suc, min, Bool, true, false, not, ◌&&◌, ◌==◌, nat_le, List, [], ◌∷◌, ◌++◌, length, get_or, take, drop, refl, sym, ◌∙◌, ap, subst, arith, take-append-drop}
use Rattle.std.specs.Prelude.{slice_index, Result, Ok, Err, IfOk, IfErr, IsTrue}
use Rattle.std.specs.Str.{bytes_eq}
use Rattle.std.proofs.lemmas.Bool.{cases_eq, cases_lt, cases_Bool, false≢true}
use Rattle.std.proofs.lemmas.Bool.Decides.{nat_tests}
use Rattle.std.proofs.lemmas.Slice.Eq.{bytes_eq-Decides}
use Rattle.std.proofs.lemmas.List.{take_all, drop_all, drop_more, get_or-take}
use Rattle.disk_model.specs.Images.{Torn, StandsStill, AtEachMoment}
use Rattle.disk_model.proofs.Moments.{started, stands, joined, weaker}
use Rattle.range_journal.specs.Header.{magic, new_header, is_new, is_blank, IsHeaded, HasOtherHead, StandsFor}
use Rattle.range_journal.specs.Journal.{JournalForm}
use Rattle.range_journal.specs.Opening.{IsOpening, IsMadeNew, Refuses, disk_in}
use Rattle.range_journal.proofs.Once.{headed_front}
use Rattle.range_journal.specs.Reading.{StopsReading, IsForeign}
use Rattle.range_journal.specs.declared.refusal.JournalRefusal.{JournalRefusal}
use Rattle.range_journal.specs.declared.refusal.JournalRefusal.TheVariants.{JournalFull, Memory, Disk, Foreign}

new_name : (g k : ℕ) → k < 7 → slice_index (new_header ++ g ∷ []) k ≡ slice_index magic k
new_name g zero lt = refl
new_name g (suc zero) lt = refl
new_name g (suc (suc zero)) lt = refl
new_name g (suc (suc (suc zero))) lt = refl
new_name g (suc (suc (suc (suc zero)))) lt = refl
new_name g (suc (suc (suc (suc (suc zero))))) lt = refl
new_name g (suc (suc (suc (suc (suc (suc zero)))))) lt = refl
new_name g (suc (suc (suc (suc (suc (suc (suc k))))))) lt = absurd (omega (arith, lt))

-- A disk with the new head and a gate that isn't open has no batches.
new_stands : (g : ℕ) → g ≢ 1 → StandsFor (new_header ++ g ∷ []) []
new_stands g shut = inr (
  refl,
  record { name = new_name g; version = inr refl },
  record { gate = g; rest = []; is = refl; shut = shut; short = λ k d lt. absurd (omega (arith, lt)) },
)

new_is : (i : List ℕ) → is_new i ≡ true → (g : ℕ) × (i ≡ new_header ++ g ∷ [])
new_is i sure =
    let both : ((length i == 17) ≡ true) × (bytes_eq (take 16 i) new_header ≡ true) = and_parts (length i == 17) (bytes_eq (take 16 i) new_header) sure in
    let long : length i ≡ 17 = grind (arith, nat_tests) in
    let same : take 16 i ≡ new_header = (bytes_eq-Decides (take 16 i) new_header).0 both.1 in
    let back : drop 16 i ≡ get_or i 16 0 ∷ [] = drop_more i 16 0 (omega (arith, long)) ∙ ap (λ (l : List ℕ). get_or i 16 0 ∷ l) (drop_all 17 i (omega (arith, long))) in
    (get_or i 16 0, sym (take-append-drop 16 i) ∙ ap (λ (l : List ℕ). l ++ drop 16 i) same ∙ ap (λ (l : List ℕ). new_header ++ l) back)
  where
    and_parts : (a b : Bool) → (a && b) ≡ true → (a ≡ true) × (b ≡ true)
    and_parts true true e = (refl, refl)
    and_parts true false e = absurd (cc e)
    and_parts false b e = absurd (cc e)

-- ---- the images of a blank disk that gets a new head

pub made_new_head : (c i : List ℕ) → IsMadeNew c i → (is_blank i ≡ true) ⊎ ((gate : ℕ) × (i ≡ new_header ++ gate ∷ []))
made_new_head c i made = elim (cases_Bool (is_new i)) [
  | inl sure ↦ inr (new_is i sure)
  | inr isnt ↦
      let few : length i ≤ 17 = made.short in
      let within : nat_le (length i) 17 ≡ true = grind (arith, nat_tests) in
      inl (ap (λ b. b && not (is_new i)) within ∙ ap (λ b. not b) isnt)
]

pub made_new_stands : (c i : List ℕ) → IsMadeNew c i → StandsFor i [] ⊎ (i ≡ new_header ++ 1 ∷ [])
made_new_stands c i made = elim (made_new_head c i made) [
  | inl blank ↦ inl (inl (blank, refl))
  | inr n ↦ elim (cases_eq n.0 1) [
    | inl open_gate ↦ inr (n.1 ∙ ap (λ (g : ℕ). new_header ++ g ∷ []) open_gate)
    | inr shut ↦ inl (subst (λ (c : List ℕ). StandsFor c []) (sym n.1) (new_stands n.0 shut))
  ]
]

pub blank_image : (c i : List ℕ) → is_blank c ≡ true → Torn 0 17 c i → IsMadeNew c i
blank_image c i blank torn = record { blank = blank; short = omega (arith, torn.no_longer, few) }
  where
    front : (a b : Bool) → (a && b) ≡ true → a ≡ true
    front true b e = refl
    front false b e = absurd (cc e)

    few : length c ≤ 17
    few = let le : nat_le (length c) 17 ≡ true = front (nat_le (length c) 17) (not (is_new c)) blank in grind (arith, nat_tests)

pub if_ok : {T E : Type 0} (r : Result T E) (P Q : T → Type 0) → ((x : T) → P x → Q x) → IfOk r P → IfOk r Q
if_ok (Ok x) P Q f p = f x p
if_ok (Err e) P Q f p = p

pub if_err : {T E : Type 0} (r : Result T E) (P Q : E → Type 0) → ((x : E) → P x → Q x) → IfErr r P → IfErr r Q
if_err (Ok x) P Q f p = p
if_err (Err e) P Q f p = f e p

-- If a disk is opened and its first 16 octets stay, it still has a journal's head.
pub headed_ok : {K : Type 0} (is_honest : K → Bool) (content : K → List ℕ) (read : List ℕ) (later : Bool) (r : Result (JournalForm K) (JournalRefusal × K)) → is_honest (disk_in r) ≡ later
    → IfOk r (λ j. IsTrue (is_honest j.disk) → take 16 (content j.disk) ≡ take 16 read) → (IsTrue later → IsHeaded read) → IfOk r (λ j. IsTrue (is_honest j.disk) → IsHeaded (take 16 (content j.disk)))
headed_ok is_honest content read later (Ok j) e front head = λ h. subst IsHeaded (sym (front h)) (headed_front read (head (subst (λ (b : Bool). IsTrue b) e h)))
headed_ok is_honest content read later (Err x) e front head = front

-- the octets that were read from the front of the disk
module _ (content h : List ℕ) (size : ℕ) (long : size ≡ length content) (seventeen : length h ≡ 17) (front : take (min size 17) h ≡ take (min size 17) content)
    (looks : (nat_le size 17 && not (is_new (take (min size 17) h))) ≡ false) where
  pub not_blank : is_blank content ≡ false
  not_blank = elim (cases_lt 17 size) [
    | inl more ↦ let over : nat_le (length content) 17 ≡ false = grind (arith, nat_tests) in ap (λ b. b && not (is_new content)) over
    | inr few ↦
        let whole : take (min size 17) h ≡ content = front ∙ take_all (min size 17) content (omega (arith, long, few)) in
        ap (λ n. nat_le n 17 && not (is_new content)) (sym long) ∙ ap (λ (l : List ℕ). nat_le size 17 && not (is_new l)) (sym whole) ∙ looks
  ]

  enough : 17 ≤ size
  enough = elim (cases_lt size 17) [
    | inl less ↦
        let le : nat_le (length content) 17 ≡ true = grind (arith, nat_tests) in
        let other : (length content == 17) ≡ false = grind (arith, nat_tests) in
        let plain : is_blank content ≡ true = ap (λ b. b && not (is_new content)) le ∙ ap (λ b. not (b && bytes_eq (take 16 content) new_header)) other in
        absurd (false≢true (sym not_blank ∙ plain))
    | inr more ↦ more
  ]

  head_is : h ≡ take 17 content
  head_is =
      let n : min size 17 ≡ 17 = omega (arith, enough) in
      sym (take_all 17 h (omega (arith, seventeen))) ∙ ap (λ (k : ℕ). take k h) (sym n) ∙ front ∙ ap (λ (k : ℕ). take k content) n

  same_at : (k : ℕ) → k < 17 → slice_index h k ≡ slice_index content k
  same_at k lt = ap (λ (l : List ℕ). slice_index l k) head_is ∙ get_or-take 17 content k 0 lt

  pub head_there : IsHeaded h → IsHeaded content
  head_there is = record {
    name = λ k lt. sym (same_at k (omega (arith, lt))) ∙ is.name k lt;
    version = version_at is.version;
  }
    where
      version_at : (slice_index h 7 ≡ 1) ⊎ (slice_index h 7 ≡ 2) → (slice_index content 7 ≡ 1) ⊎ (slice_index content 7 ≡ 2)
      version_at (inl one) = inl (sym (same_at 7 (omega arith)) ∙ one)
      version_at (inr two) = inr (sym (same_at 7 (omega arith)) ∙ two)

  pub other_there : (place : ℕ) → HasOtherHead h place → HasOtherHead content place
  other_there place (inl misnamed) = inl (record {
    here = misnamed.here;
    other = λ e. misnamed.other (same_at place (omega (arith, misnamed.here)) ∙ e);
    before = λ k lt. sym (same_at k (omega (arith, lt, misnamed.here))) ∙ misnamed.before k lt;
  })
  other_there place (inr misversed) = inr (record {
    here = misversed.here;
    name = λ k lt. sym (same_at k (omega (arith, lt))) ∙ misversed.name k lt;
    one = λ e. misversed.one (same_at 7 (omega arith) ∙ e);
    two = λ e. misversed.two (same_at 7 (omega arith) ∙ e);
  })

pub refuses_later : (honest later : Bool) (content mid : List ℕ) (before between now : ℕ) (why : JournalRefusal) → later ≡ honest → mid ≡ content → before ≤ between
    → (IsTrue honest → (is_blank content ≡ false) × IsHeaded content) → StopsReading later mid 16 between now why → Refuses honest content before now why
refuses_later honest later content mid before between now Disk is same le head stops = omega (arith, le, stops)
refuses_later honest later content mid before between now Memory is same le head stops = tt
refuses_later honest later content mid before between now (JournalFull size need) is same le head stops = stops
refuses_later honest later content mid before between now (Foreign place) is same le head stops =
    λ h. let f = stops (subst (λ (b : Bool). IsTrue b) (sym is) h) in ((head h).0, inr ((head h).1, subst (λ (o : List ℕ). IsForeign o 16 place) same f))

pub refuses_on : (honest later : Bool) (content : List ℕ) (before between now : ℕ) (why : JournalRefusal) → later ≡ honest → before ≤ between → Refuses later content between now why → Refuses honest content before now why
refuses_on honest later content before between now Disk is le stops = omega (arith, le, stops)
refuses_on honest later content before between now Memory is le stops = tt
refuses_on honest later content before between now (JournalFull size need) is le stops = stops
refuses_on honest later content before between now (Foreign place) is le stops = λ h. stops (subst (λ (b : Bool). IsTrue b) (sym is) h)

module _ {D : Type 0} (is_honest : D → Bool) (moment : D → ℕ) (image : D → ℕ → List ℕ → Type 0) (old mid new last : D) (read : List ℕ) (still : StandsStill (moment old) (moment mid) (image old) (image mid))
    (later : is_honest new ≡ is_honest old) where
  pub image_before : (i : List ℕ) → image mid (moment mid) i → image old (moment old) i
  image_before i im = (still.stays (moment old) i (omega arith)).0 (subst (λ (t : ℕ). image mid t i) still.same im)

  pub opening_run : AtEachMoment moment image mid new (λ i. image mid (moment mid) i) → AtEachMoment moment image new last (λ i. IsTrue (is_honest new) → IsOpening read i)
      → AtEachMoment moment image old last (λ i. IsTrue (is_honest old) → image old (moment old) i ⊎ IsOpening read i)
  opening_run settling opening =
      let P : List ℕ → Type 0 = λ i. IsTrue (is_honest old) → image old (moment old) i ⊎ IsOpening read i in
      let first = stands moment image old old mid P (started moment image old P (λ i now h. inl now)) still in
      let second = weaker moment image mid new _ P settling (λ i im h. inl (image_before i im)) in
      let third = weaker moment image new last _ P opening (λ i o h. inr (o (subst (λ (b : Bool). IsTrue b) (sym later) h))) in
      joined moment image old new last P (joined moment image old mid new P first second) third

pub both_ok : {T E : Type 0} (r : Result T E) (P Q R : T → Type 0) → ((x : T) → P x → Q x → R x) → IfOk r P → IfOk r Q → IfOk r R
both_ok (Ok x) P Q R f p q = f x p q
both_ok (Err e) P Q R f p q = p
