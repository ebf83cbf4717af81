-- Which batches a disk holds when its octets after the front change.
use Rattle.std.proofs.Common.{◌≡◌, ◌≤◌, ◌<◌, ◌⊎◌, inl, inr, ℕ, zero, suc, true, false, List, [], ◌∷◌, ◌++◌, length, take, drop, refl, sym, ◌∙◌, ap, subst, arith, append_assoc, length-append, length-take}
use Rattle.std.specs.Prelude.{slice_index, ◌==◌}
use Rattle.std.specs.Int.{w32, to_be_bytes}
use Rattle.std.proofs.lemmas.List.{take_at, length-take-le}
use Rattle.range_journal.specs.Batches.{spelled, AreShort, Stands, StandsBefore, IsOldOrOneMore, IsOldOrDoubt, IsSettled, length_of}
use Rattle.range_journal.specs.Closing.{HasOtherGate, IsReadOrClosing}
use Rattle.range_journal.specs.Header.{magic, new_header, is_blank, IsHeaded, StandsFor as StandsForOld}
use Rattle.range_journal.specs.Opening.{IsMadeNew}
use Rattle.range_journal.proofs.Heads.{made_new_stands}
use Rattle.range_journal.proofs.Once.{before_stands, before_any, closed_over}
use Rattle.journal_snapshot.specs.declared.area.Area.{Area}
use Rattle.journal_snapshot.specs.declared.area.Area.TheVariants.{Header}
use Rattle.journal_snapshot.specs.declared.live.Live.{Live}
use Rattle.journal_snapshot.specs.Layout.{live_in, live_of, is_placed_in, is_placed, has_open_mark}
use Rattle.journal_snapshot.specs.Standing.{HasBatches, Holds, StandsFor, HoldsOldOrOneMore, HoldsOldOrDoubt, IsKept, new_live}
use Rattle.journal_snapshot.specs.Opening.{IsClosing, IsOpening}
use Rattle.journal_snapshot.proofs.Fronts.{Agrees, agrees_front, AgreesEnough, says_same, same_head, start_least, longer, enough, at_header}
use Rattle.journal_snapshot.proofs.Plain.{new_plain, short_new, plain_on, head_in}

-- The start of the batches lies before the end of the image.
pub stands_long : (start : ℕ) (image : List ℕ) (batches : List (List ℕ)) → Stands (take start image) batches image → start < length image
stands_long start image batches s =
    omega (
      arith,
      ap length s.is,
      length-append (take start image ++ spelled batches) (s.gate ∷ s.rest),
      length-append (take start image) (spelled batches),
      length-take start image,
    )

-- A front as long as the start is what the image has before the start.
pub front_is : (front image : List ℕ) (batches : List (List ℕ)) (start : ℕ) → length front ≡ start → Stands front batches image → take start image ≡ front
front_is front image batches start long s =
    ap (λ (l : List ℕ). take start l) (s.is ∙ append_assoc front (spelled batches) (s.gate ∷ s.rest)) ∙ take_at front (spelled batches ++ s.gate ∷ s.rest) start long

pub settled_stands : (content : List ℕ) (images : List ℕ → Type 0) (start : ℕ) (batches : List (List ℕ)) → AreShort batches → IsSettled content images start batches → Stands (take start content) batches content
settled_stands content images start batches short s = record { gate = 0; rest = s.rest; is = s.is; shut = λ z. absurd (omega (arith, z)); short = short }

-- The content is at least as long as the journal with its closed gate.
pub settled_long : (content : List ℕ) (images : List ℕ → Type 0) (start : ℕ) (batches : List (List ℕ)) → IsSettled content images start batches → length_of start batches ≤ length content
settled_long content images start batches s =
    omega (
      arith,
      ap length s.is,
      length-append (take start content ++ spelled batches) (0 ∷ s.rest),
      length-append (take start content) (spelled batches),
      length-take-le start content s.place,
    )

pub settled_before : (content : List ℕ) (images : List ℕ → Type 0) (start : ℕ) (batches doubt : List (List ℕ)) → AreShort batches → IsSettled content images start batches
    → StandsBefore (take start content) batches doubt content
settled_before content images start batches doubt short s =
    record { gate = 0; rest = s.rest; is = s.is; shut = λ z. absurd (omega (arith, z)); short = short; closed = inl refl }

-- Batches that an image holds, with or without one in doubt, can be read.
pub batches_of : (live : Live) (batches doubt : List (List ℕ)) (image : List ℕ) → Holds live batches doubt image → HasBatches live batches image
batches_of live batches doubt image h = record { head = h.head; says = h.says; placed = h.placed; stands = before_stands (take live.start image) image batches doubt h.stands }

-- Batches held with none in doubt are also held with any batch in doubt.
pub holds_any : (live : Live) (batches doubt : List (List ℕ)) (image : List ℕ) → Holds live batches [] image → Holds live batches doubt image
holds_any live batches doubt image h = record { head = h.head; says = h.says; placed = h.placed; stands = before_any (take live.start image) image batches doubt h.stands }

-- Batches that can be read and stand before a batch in doubt are held.
pub held_before : (live : Live) (batches doubt : List (List ℕ)) (image : List ℕ) → HasBatches live batches image → StandsBefore (take live.start image) batches doubt image → Holds live batches doubt image
held_before live batches doubt image h s = record { head = h.head; says = h.says; placed = h.placed; stands = s }

-- With the same front and these batches after it, the image has these batches in the same live area.
pub holds_kept : (live : Live) (batches more : List (List ℕ)) (c i : List ℕ) → HasBatches live batches c → AgreesEnough c i → Stands (take live.start i) more i → HasBatches live more i
holds_kept live batches more c i h agrees s =
    let says = says_same c i agrees in
    let lt : (live_of i).start < length i = subst (λ (l : Live). l.start < length i) (sym (says.live ∙ h.says)) (stands_long live.start i more s) in
    record {
      head = same_head c i (λ k below. agrees.0 k (omega (arith, below))) h.head;
      says = says.live ∙ h.says;
      placed = longer i (length c) (length i) (says.placed (length c) ∙ h.placed) lt;
      stands = s;
    }

-- Disks with the same octets before the live start say the same live area.
pub holds_enough : (live : Live) (batches : List (List ℕ)) (c i : List ℕ) → HasBatches live batches c → Agrees live.start c i → AgreesEnough c i
holds_enough live batches c i h same = enough c i (length c) h.placed (subst (λ (l : Live). Agrees l.start c i) (sym h.says) same)

-- The image has the same front as the disk.
behind_front : (live : Live) (batches more doubt : List (List ℕ)) (c i : List ℕ) → HasBatches live batches c → StandsBefore (take live.start c) more doubt i → take live.start i ≡ take live.start c
behind_front live batches more doubt c i h s =
    let there : Stands (take live.start c) more i = before_stands (take live.start c) i more doubt s in
    let long : length (take live.start c) ≡ live.start = length-take-le live.start c (omega (arith, stands_long live.start c batches h.stands)) in
    front_is (take live.start c) i more live.start long there

pub holds_behind : (live : Live) (batches more doubt : List (List ℕ)) (c i : List ℕ) → HasBatches live batches c → StandsBefore (take live.start c) more doubt i → Holds live more doubt i
holds_behind live batches more doubt c i h s =
    let there : Stands (take live.start c) more i = before_stands (take live.start c) i more doubt s in
    let front = behind_front live batches more doubt c i h s in
    held_before live more doubt i
    (holds_kept live batches more c i h (holds_enough live batches c i h (agrees_front live.start c i front)) (subst (λ (f : List ℕ). Stands f more i) (sym front) there))
    (subst (λ (f : List ℕ). StandsBefore f more doubt i) (sym front) s)

-- The live start is after the head of 16 octets.
pub start_behind : (live : Live) (batches : List (List ℕ)) (c : List ℕ) → HasBatches live batches c → 16 ≤ live.start
start_behind live batches c h = subst (λ (l : Live). 16 ≤ l.start) h.says (start_least c (length c) h.placed)

-- Such an image isn't blank if it is no shorter than the disk.
plain_behind : (live : Live) (batches more doubt : List (List ℕ)) (c i : List ℕ) → HasBatches live batches c → is_blank c ≡ false → length c ≤ length i → StandsBefore (take live.start c) more doubt i → is_blank i ≡ false
plain_behind live batches more doubt c i h plain le s = plain_on c i le (head_in live.start c i (start_behind live batches c h) (behind_front live batches more doubt c i h s)) plain

pub old_or_one_more : (live : Live) (batches : List (List ℕ)) (batch : List ℕ) (c i : List ℕ) → HasBatches live batches c → is_blank c ≡ false → length c ≤ length i → IsOldOrOneMore (take live.start c) batches batch i
    → (is_blank i ≡ false) × HoldsOldOrOneMore live batches batch i
old_or_one_more live batches batch c i h plain le (inl old) =
    (plain_behind live batches batches (batch ∷ []) c i h plain le old, inl (holds_behind live batches batches (batch ∷ []) c i h old))
old_or_one_more live batches batch c i h plain le (inr more) =
    (plain_behind live batches (batches ++ batch ∷ []) [] c i h plain le more, inr (holds_behind live batches (batches ++ batch ∷ []) [] c i h more))

old_or_doubt : (live : Live) (batches doubt : List (List ℕ)) (c i : List ℕ) → HasBatches live batches c → IsOldOrDoubt (take live.start c) batches doubt i → HoldsOldOrDoubt live batches doubt i
old_or_doubt live batches doubt c i h (inl old) = inl (holds_behind live batches batches doubt c i h old)
old_or_doubt live batches doubt c i h (inr d) = inr (d.0, d.1, holds_behind live batches (batches ++ d.0 ∷ []) [] c i h d.2)

-- the gate after the batches is being closed
pub closing_holds : (live : Live) (batches doubt : List (List ℕ)) (c i : List ℕ) → Holds live batches doubt c → IsClosing c i → HoldsOldOrDoubt live batches doubt i
closing_holds live batches doubt c i h closing =
    let has = batches_of live batches doubt c h in
    let long : length (take live.start c) ≡ live.start = length-take-le live.start c (omega (arith, stands_long live.start c batches has.stands)) in
    let start : (live_of c).start ≡ length (take live.start c) = ap (λ (l : Live). l.start) h.says ∙ sym long in
    old_or_doubt live batches doubt c i has (closed_over (take live.start c) c i batches doubt h.stands (subst (λ (n : ℕ). HasOtherGate n c i) start closing.gate))

-- A disk with the same front and settled batches after it keeps these batches.
pub kept_behind : (live : Live) (batches more : List (List ℕ)) (c new : List ℕ) (images : List ℕ → Type 0) → HasBatches live batches c → is_blank new ≡ false → take live.start new ≡ take live.start c → AreShort more
    → IsSettled new images live.start more → IsKept live more new images
kept_behind live batches more c new images h plain front short s = record {
  plain = plain;
  holds = held_before live more [] new
      (holds_kept live batches more c new h (holds_enough live batches c new h (agrees_front live.start c new front)) (settled_stands new images live.start more short s))
      (settled_before new images live.start more [] short s);
  settled = s;
}

-- The mark of the slot that isn't live stays the same.
pub mark_behind : (live : Live) (batches : List (List ℕ)) (c new : List ℕ) → HasBatches live batches c → take live.start new ≡ take live.start c → has_open_mark new live.area ≡ has_open_mark c live.area
mark_behind live batches c new h front =
    let says = says_same c new (holds_enough live batches c new h (agrees_front live.start c new front)) in
    subst (λ (l : Live). has_open_mark new l.area ≡ has_open_mark c l.area) h.says says.mark

-- Another value of the gate changes neither the front nor the number of octets.
gate_beside : (start : ℕ) (c i : List ℕ) → HasOtherGate start c i → (length i ≡ length c) × (take start i ≡ take start c)
gate_beside start c i other =
    let back : c ≡ take start c ++ (spelled other.batches ++ other.gate ∷ other.rest) = other.was ∙ append_assoc (take start c) (spelled other.batches) (other.gate ∷ other.rest) in
    let is : i ≡ take start c ++ (spelled other.batches ++ other.other ∷ other.rest) = other.is ∙ append_assoc (take start c) (spelled other.batches) (other.other ∷ other.rest) in
    let tail = length-append (spelled other.batches) (other.gate ∷ other.rest) in
    let tail_too = length-append (spelled other.batches) (other.other ∷ other.rest) in
    let here = length-append (take start c) (spelled other.batches ++ other.gate ∷ other.rest) in
    let there = length-append (take start c) (spelled other.batches ++ other.other ∷ other.rest) in
    let size : length i ≡ length c = omega (arith, ap length back, ap length is, tail, tail_too, here, there) in
    let long : length (take start c) ≡ start = length-take-le start c (omega (arith, ap length back, here, tail, length-take start c)) in
    (size, ap (λ (l : List ℕ). take start l) is ∙ take_at (take start c) (spelled other.batches ++ other.other ∷ other.rest) start long)

-- the gate after the batches is being closed while the disk is opened
pub closing : (c i : List ℕ) → is_blank c ≡ false → IsHeaded c → is_placed c (length c) ≡ true → IsReadOrClosing (live_of c).start c i → IsOpening c i
closing c i plain head placed (inl same) = inl same
closing c i plain head placed (inr other) =
    let start = (live_of c).start in
    let beside = gate_beside start c i other in
    let agrees = enough c i (length c) placed (agrees_front start c i beside.1) in
    let says = says_same c i agrees in
    inr (inl (record {
      plain = plain;
      head = same_head c i (λ k below. agrees.0 k (omega (arith, below))) head;
      says = says.live;
      placed = ap (λ (n : ℕ). is_placed i n) beside.0 ∙ says.placed (length c) ∙ placed;
      gate = other;
    }))

pub closing_plain : (c i : List ℕ) → IsClosing c i → is_blank i ≡ false
closing_plain c i closing =
    let start = (live_of c).start in
    let beside = gate_beside start c i closing.gate in
    let some : 16 ≤ start = subst (λ (l : Live). 16 ≤ l.start) closing.says (start_least i (length i) closing.placed) in
    plain_on c i (omega (arith, beside.0)) (head_in start c i some beside.1) closing.plain

-- a new disk

new_name : (k : ℕ) → k < 7 → slice_index new_header k ≡ slice_index magic k
new_name zero lt = refl
new_name (suc zero) lt = refl
new_name (suc (suc zero)) lt = refl
new_name (suc (suc (suc zero))) lt = refl
new_name (suc (suc (suc (suc zero)))) lt = refl
new_name (suc (suc (suc (suc (suc zero))))) lt = refl
new_name (suc (suc (suc (suc (suc (suc zero)))))) lt = refl
new_name (suc (suc (suc (suc (suc (suc (suc k))))))) lt = absurd (omega (arith, lt))

new_head : IsHeaded new_header
new_head = record { name = new_name; version = inr refl }

pub new_says : (c : List ℕ) → take 16 c ≡ new_header → live_of c ≡ new_live
new_says c head =
    let agrees = agrees_front 16 new_header c head in
    let area = at_header c (ap (λ (o : ℕ). o == 1) (agrees 8 (omega arith))) in
    let v : slice_index c 7 ≡ 2 = agrees 7 (omega arith) in
    let made : live_in c Header ≡ new_live = λ j. record { area = Header; start = 16; generation = 0; version = v j } in
    ap (λ (a : Area). live_in c a) area ∙ made

pub new_holds : (c : List ℕ) → take 16 c ≡ new_header → Stands (take 16 c) [] c → HasBatches new_live [] c
new_holds c head s =
    let agrees = agrees_front 16 new_header c head in
    let area = at_header c (ap (λ (o : ℕ). o == 1) (agrees 8 (omega arith))) in
    record {
      head = same_head new_header c (λ k below. agrees k (omega (arith, below))) new_head;
      says = new_says c head;
      placed = ap (λ (a : Area). is_placed_in c a (length c)) area;
      stands = s;
    }

no_batches : AreShort []
no_batches k d lt = absurd (omega (arith, lt))

pub new_kept : (c : List ℕ) (images : List ℕ → Type 0) (batches : List (List ℕ)) → take 16 c ≡ new_header → batches ≡ [] → IsSettled c images 16 batches → IsKept new_live batches c images
new_kept c images batches head none s =
    subst (λ (l : List (List ℕ)). IsSettled c images 16 l → IsKept new_live l c images) (sym none)
    (λ t. record {
      plain = new_plain c (settled_long c images 16 [] t) head;
      holds = held_before new_live [] [] c (new_holds c head (settled_stands c images 16 [] no_batches t)) (settled_before c images 16 [] [] no_batches t);
      settled = t;
    }) s

new_stands : (i : List ℕ) → length i ≤ 17 → StandsForOld i [] → StandsFor i []
new_stands i few (inl blank) = inl blank
new_stands i few (inr s) =
    let head = (short_new i few s.0).1 in
    inr (s.0, subst (λ (l : Live). HasBatches l [] i) (sym (new_says i head)) (new_holds i head s.2))

pub made_new : (c i : List ℕ) → IsMadeNew c i → StandsFor i [] ⊎ (i ≡ new_header ++ 1 ∷ [])
made_new c i made = by_octets (made_new_stands c i made)
  where
    by_octets : StandsForOld i [] ⊎ (i ≡ new_header ++ 1 ∷ []) → StandsFor i [] ⊎ (i ≡ new_header ++ 1 ∷ [])
    by_octets (inl stands) = inl (new_stands i made.short stands)
    by_octets (inr open_gate) = inr open_gate

pub new_closed : Holds new_live [] [] (new_header ++ 0 ∷ [])
new_closed =
    let c = new_header ++ 0 ∷ [] in
    let s : StandsBefore (take 16 c) [] [] c = record { gate = 0; rest = []; is = refl; shut = λ z. absurd (omega (arith, z)); short = no_batches; closed = inl refl } in
    held_before new_live [] [] c (new_holds c refl (before_stands (take 16 c) c [] [] s)) s

-- After the head of a new journal there is no batch.
none_behind : (batches : List (List ℕ)) (gate g : ℕ) (rest : List ℕ) → g ∷ [] ≡ spelled batches ++ gate ∷ rest → (spelled batches ≡ []) × (rest ≡ [])
none_behind [] gate g rest e = (refl, let r : [] ≡ rest = cc in sym r)
none_behind (b ∷ batches) gate g rest e =
    absurd (omega (arith, ap length e, length-append (spelled (b ∷ batches)) (gate ∷ rest), length-append (to_be_bytes w32 (length b) ++ b) (spelled batches), length-append (to_be_bytes w32 (length b)) b))

pub new_closing : (gate : ℕ) (i : List ℕ) → IsClosing (new_header ++ gate ∷ []) i → (other : ℕ) × (i ≡ new_header ++ other ∷ [])
new_closing gate i closing =
    let c = new_header ++ gate ∷ [] in
    let h : HasOtherGate 16 c i = subst (λ (l : Live). HasOtherGate l.start c i) (new_says c refl) closing.gate in
    let back : gate ∷ [] ≡ spelled h.batches ++ h.gate ∷ h.rest = ap (λ (l : List ℕ). drop 16 l) (h.was ∙ append_assoc new_header (spelled h.batches) (h.gate ∷ h.rest)) in
    let none = none_behind h.batches h.gate gate h.rest back in
    (h.other, h.is ∙ ap (λ (l : List ℕ). new_header ++ l ++ h.other ∷ h.rest) none.0 ∙ ap (λ (l : List ℕ). new_header ++ h.other ∷ l) none.1)
