-- What an opening reads from the first octets, and what it leaves.
use Rattle.std.proofs.Common.{◌≡◌, ◌≤◌, ◌<◌, ◌⊎◌, inl, inr, ℕ, ◌+◌, ◌-◌, min, Bool, true, false, List, ◌++◌, length, take, drop, replicate, sym, ◌∙◌, ap, subst, arith, IsTrue}
use Rattle.std.specs.Prelude.{slice_index, nat_le, not, ◌&&◌, Result, Ok, Err, IfErr}
use Rattle.std.proofs.lemmas.Bool.{cases_lt}
use Rattle.std.proofs.lemmas.Bool.Decides.{nat_tests}
use Rattle.std.proofs.lemmas.List.{take_all, ext_get_or, get_or-take, get_or-drop, get_or-replicate, get_or_past, get_or_append_left, get_or-append_right, length-take-le}
use Rattle.disk_model.specs.Images.{StandsStill, AtEachMoment}
use Rattle.disk_model.proofs.Moments.{started, stands, joined, weaker}
use Rattle.range_journal.specs.Batches.{Stands, IsSettled}
use Rattle.range_journal.specs.Closing.{IsReadOrClosing}
use Rattle.range_journal.specs.Header.{is_new, is_blank, IsHeaded, HasOtherHead}
use Rattle.range_journal.specs.Reading.{IsForeign, StopsReading}
use Rattle.range_journal.specs.declared.refusal.JournalRefusal.{JournalRefusal}
use Rattle.range_journal.specs.declared.refusal.JournalRefusal.TheVariants.{JournalFull, Memory, Disk, Foreign}
use Rattle.journal_snapshot.specs.declared.live.Live.{Live}
use Rattle.journal_snapshot.specs.Layout.{area_of, live_of, is_placed, version_place, has_open_mark}
use Rattle.journal_snapshot.specs.Standing.{HasBatches, IsKept}
use Rattle.journal_snapshot.specs.Opening.{IsOpened, IsOpening, IsRefusedAt, Refuses, LeavesOneKind, disk_in}
use Rattle.journal_snapshot.specs.Snapshots.{SnapshotForm}
use Rattle.journal_snapshot.proofs.Fronts.{Agrees, fewer, SaysSame, says_same, same_head}
use Rattle.journal_snapshot.proofs.Plain.{plain_on, head_in}
use Rattle.journal_snapshot.proofs.Standings.{start_behind, kept_behind, mark_behind, closing}

-- The first 50 octets are those that were read, and zeros after them.
pub head_read : (content into : List ℕ) (size count n : ℕ) → size ≡ length content → count ≡ min size 50 → n ≡ count → into ≡ take n content
    → (k : ℕ) → k < 50 → slice_index (into ++ drop count (replicate 50 0)) k ≡ slice_index content k
head_read content into size count n long count_is n_is into_is k lt = elim (cases_lt k count) [
  | inl inside ↦
      let few : count ≤ length content = omega (arith, long, count_is) in
      let all : length into ≡ count = ap length into_is ∙ length-take-le n content (omega (arith, few, n_is)) ∙ n_is in
      get_or_append_left into (drop count (replicate 50 0)) 0 k (omega (arith, inside, all))
      ∙ ap (λ (l : List ℕ). slice_index l k) into_is
      ∙ get_or-take n content k 0 (omega (arith, inside, n_is))
  | inr past ↦
      let few : count ≤ length content = omega (arith, long, count_is) in
      let all : length into ≡ count = ap length into_is ∙ length-take-le n content (omega (arith, few, n_is)) ∙ n_is in
      let there : count + (k - count) ≡ k = omega (arith, past) in
      get_or-append_right into (drop count (replicate 50 0)) count k 0 all past
      ∙ get_or-drop count (replicate 50 0) (k - count) 0
      ∙ get_or-replicate 50 (count + (k - count)) 0 0 (omega (arith, there, lt))
      ∙ sym (get_or_past content k 0 (omega (arith, past, long, count_is, lt)))
]

-- whether a disk looks blank
module _ (content head : List ℕ) (size count : ℕ) (fifty : length head ≡ 50) (long : size ≡ length content) (agrees : Agrees 50 content head) (count_is : count ≡ min size 17) where
  front_same : take count head ≡ take count content
  front_same =
      let here : length (take count head) ≡ count = length-take-le count head (omega (arith, fifty, count_is)) in
      let there : length (take count content) ≡ count = length-take-le count content (omega (arith, long, count_is)) in
      ext_get_or 0 (take count head) (take count content) (here ∙ sym there) (λ k lt.
      let below : k < count = omega (arith, lt, here) in
      get_or-take count head k 0 below ∙ agrees k (omega (arith, below, count_is)) ∙ sym (get_or-take count content k 0 below))

  pub looks : (nat_le size 17 && not (is_new (take count head))) ≡ is_blank content
  looks = elim (cases_lt 17 size) [
    | inl more ↦
        let over : nat_le size 17 ≡ false = grind (arith, nat_tests) in
        let too : nat_le (length content) 17 ≡ false = ap (λ (n : ℕ). nat_le n 17) (sym long) ∙ over in
        ap (λ (b : Bool). b && not (is_new (take count head))) over ∙ sym (ap (λ (b : Bool). b && not (is_new content)) too)
    | inr few ↦
        let whole : take count head ≡ content = front_same ∙ take_all count content (omega (arith, long, few, count_is)) in
        ap (λ (n : ℕ). nat_le n 17 && not (is_new (take count head))) long ∙ ap (λ (l : List ℕ). nat_le (length content) 17 && not (is_new l)) whole
  ]

-- A head that isn't a journal's is found in the first 50 octets.
pub other_head : (content head : List ℕ) (place : ℕ) → Agrees 50 content head → HasOtherHead head place → HasOtherHead content place
other_head content head place same (inl misnamed) = inl (record {
  here = misnamed.here;
  other = λ e. misnamed.other (same place (omega (arith, misnamed.here)) ∙ e);
  before = λ k lt. sym (same k (omega (arith, lt, misnamed.here))) ∙ misnamed.before k lt;
})
other_head content head place same (inr misversed) = inr (record {
  here = misversed.here;
  name = λ k lt. sym (same k (omega (arith, lt))) ∙ misversed.name k lt;
  one = λ e. misversed.one (same 7 (omega arith) ∙ e);
  two = λ e. misversed.two (same 7 (omega arith) ∙ e);
})

backwards : (n : ℕ) (c i : List ℕ) → Agrees n c i → Agrees n i c
backwards n c i same k lt = sym (same k lt)

pub named_there : (content head : List ℕ) → Agrees 50 content head → IsHeaded head → IsHeaded content
named_there content head same is = same_head head content (fewer 50 8 head content (omega arith) (backwards 50 content head same)) is

-- the live area that the first octets say
module _ (content head : List ℕ) (live : Live) (size : ℕ) (same : Agrees 50 content head) (is : live ≡ live_of head) (long : size ≡ length content) where
  says : SaysSame content head
  says = says_same content head (fewer 50 16 content head (omega arith) same, λ moved. same)

  pub live_there : live ≡ live_of content
  live_there = is ∙ says.live

  pub placed_there : (b : Bool) → is_placed head size ≡ b → is_placed content (length content) ≡ b
  placed_there b e = ap (λ (n : ℕ). is_placed content n) (sym long) ∙ sym (says.placed size) ∙ e

  pub holds_there : (batches : List (List ℕ)) → IsHeaded content → is_placed head size ≡ true → Stands (take live.start content) batches content → HasBatches live batches content
  holds_there batches head_is placed s = record { head = head_is; says = sym live_there; placed = placed_there true placed; stands = s }

  pub opened_there : (batches : List (List ℕ)) → is_blank content ≡ false → IsHeaded content → is_placed head size ≡ true → Stands (take live.start content) batches content → IsOpened content live batches
  opened_there batches plain head_is placed s = inr (plain, live_there, holds_there batches head_is placed s)

  pub kept_there : (new : List ℕ) (images : List ℕ → Type 0) (batches : List (List ℕ)) → is_blank content ≡ false → IsHeaded content → is_placed head size ≡ true → Stands (take live.start content) batches content
      → take live.start new ≡ take live.start content → length new ≡ length content → IsSettled new images live.start batches → IsKept live batches new images
  kept_there new images batches plain head_is placed s front size_is settled =
      let has = holds_there batches head_is placed s in
      kept_behind live batches batches content new images has
      (plain_on content new (omega (arith, size_is)) (head_in live.start content new (start_behind live batches content has) front) plain)
      front s.short settled

  pub mark_there : (new : List ℕ) (batches : List (List ℕ)) → IsHeaded content → is_placed head size ≡ true → Stands (take live.start content) batches content
      → take live.start new ≡ take live.start content → has_open_mark new live.area ≡ has_open_mark head live.area
  mark_there new batches head_is placed s front =
      mark_behind live batches content new (holds_there batches head_is placed s) front
      ∙ sym (subst (λ (l : Live). has_open_mark head l.area ≡ has_open_mark content l.area) (sym live_there) says.mark)

  pub field_there : (place : ℕ) → is_blank content ≡ false → IsHeaded content → is_placed head size ≡ false → place ≡ version_place (area_of head) → IsRefusedAt content place
  field_there place plain head_is placed at = (plain, inr (head_is, inl (placed_there false placed, at ∙ ap version_place says.area)))

  pub closing_there : (i : List ℕ) → is_blank content ≡ false → IsHeaded content → is_placed head size ≡ true → IsReadOrClosing live.start content i → IsOpening content i
  closing_there i plain head_is placed c =
      closing content i plain head_is (placed_there true placed) (subst (λ (l : Live). IsReadOrClosing l.start content i) live_there c)

  foreign_there : (place : ℕ) → is_blank content ≡ false → IsHeaded content → is_placed head size ≡ true → IsForeign content live.start place → IsRefusedAt content place
  foreign_there place plain head_is placed f = (plain, inr (head_is, inr (placed_there true placed, subst (λ (l : Live). IsForeign content l.start place) live_there f)))

-- why the batches could not be read
pub stopped_there : (honest : Bool) (content head : List ℕ) (live : Live) (size : ℕ) → (IsTrue honest → Agrees 50 content head) → live ≡ live_of head → (IsTrue honest → size ≡ length content) → (before now : ℕ) (why : JournalRefusal)
    → (IsTrue honest → (is_blank content ≡ false) × IsHeaded content) → is_placed head size ≡ true → StopsReading honest content live.start before now why → Refuses honest content before now why
stopped_there honest content head live size same is long before now Disk there placed stops = stops
stopped_there honest content head live size same is long before now Memory there placed stops = tt
stopped_there honest content head live size same is long before now (JournalFull some need) there placed stops = stops
stopped_there honest content head live size same is long before now (Foreign place) there placed stops =
    λ h. foreign_there content head live size (same h) is (long h) place (there h).0 (there h).1 placed (stops h)

pub refuses_on : (honest later : Bool) (content : List ℕ) (before between now : ℕ) (why : JournalRefusal) → later ≡ honest → before ≤ between → Refuses later content between now why → Refuses honest content before now why
refuses_on honest later content before between now Disk is le stops = omega (arith, le, stops)
refuses_on honest later content before between now Memory is le stops = tt
refuses_on honest later content before between now (JournalFull size need) is le stops = stops
refuses_on honest later content before between now (Foreign place) is le stops = λ h. stops (subst (λ (b : Bool). IsTrue b) (sym is) h)

module _ {D : Type 0} (is_honest : D → Bool) (moment : D → ℕ) (image : D → ℕ → List ℕ → Type 0) (old mid new last : D) (read : List ℕ) (still : StandsStill (moment old) (moment mid) (image old) (image mid))
    (later : is_honest new ≡ is_honest old) where
  image_before : (i : List ℕ) → image mid (moment mid) i → image old (moment old) i
  image_before i im = (still.stays (moment old) i (omega arith)).0 (subst (λ (t : ℕ). image mid t i) still.same im)

  pub opening_run : AtEachMoment moment image mid new (λ i. image mid (moment mid) i) → AtEachMoment moment image new last (λ i. IsTrue (is_honest new) → IsOpening read i)
      → AtEachMoment moment image old last (λ i. IsTrue (is_honest old) → image old (moment old) i ⊎ IsOpening read i)
  opening_run settling opening =
      let P : List ℕ → Type 0 = λ i. IsTrue (is_honest old) → image old (moment old) i ⊎ IsOpening read i in
      let first = stands moment image old old mid P (started moment image old P (λ i now h. inl now)) still in
      let second = weaker moment image mid new _ P settling (λ i im h. inl (image_before i im)) in
      let third = weaker moment image new last _ P opening (λ i o h. inr (o (subst (λ (b : Bool). IsTrue b) (sym later) h))) in
      joined moment image old new last P (joined moment image old mid new P first second) third

-- What a refusal leaves of a synced disk is what a crash during its opening leaves.
pub refusal_leaves : {K : Type 0} (moment : K → ℕ) (image : K → ℕ → List ℕ → Type 0) (settled : K) (result : Result (SnapshotForm K) (JournalRefusal × K)) (before : List ℕ → Type 0) (read : List ℕ) (honest : Type 0)
    → AtEachMoment moment image settled (disk_in result) (λ i. honest → IsOpening read i) → IfErr result (λ e. honest → LeavesOneKind before (image e.1 (moment e.1)) read)
refusal_leaves moment image settled (Ok s) before read honest run = tt
refusal_leaves moment image settled (Err e) before read honest run = λ h. inr (λ i is. run.each (moment e.1) i run.later (omega arith) is h)
