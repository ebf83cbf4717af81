-- The mark and the fields of the next area.
use Rattle.std.proofs.Common.{◌≡◌, ◌≤◌, ◌<◌, ℕ, ◌+◌, ◌^◌, true, false, List, [], ◌∷◌, length, refl, ◌∙◌, ap, arith, length-append}
use Rattle.std.specs.Prelude.{slice_index, nat_lt, ◌==◌, if◌then◌else◌}
use Rattle.std.specs.Int.{byte_at}
use Rattle.std.proofs.lemmas.Bool.Decides.{nat_tests}
use Rattle.range_journal.specs.Batches.{spelled, length_of}
use Rattle.journal_snapshot.specs.declared.area.Area.{Area}
use Rattle.journal_snapshot.specs.declared.area.Area.TheVariants.{Header, Field, First, Second}
use Rattle.journal_snapshot.specs.Layout.{word, area_of, next_area, is_moved, mark_place, open_mark, fields_place, fields_of, has_open_mark}
use Rattle.journal_snapshot.proofs.Marks.{front_len, fields_len, HasNoMarks, chosen_off}
use Rattle.journal_snapshot.proofs.Areas.{area, IsArea}

pub fields_long : (t : Area) (g p : ℕ) → length (fields_of t g p) ≡ fields_len t
unfolding fields_of
fields_long Header g p = refl
fields_long Field g p = refl
fields_long First g p = refl
fields_long Second g p = refl

-- The fields of the next area have the same octets with either generation, since octets 9 to 15 have none.
pub fields_same : (b : Area) (n p : ℕ) → fields_of (next_area b) (n + 1) p ≡ fields_of (next_area b) (if is_moved b then n + 1 else 0) p
unfolding fields_of
fields_same Header n p = refl
fields_same Field n p = refl
fields_same First n p = refl
fields_same Second n p = refl

pub mark_low : (a : Area) → mark_place (next_area a) + 1 ≤ front_len (next_area a)
mark_low Header = omega arith
mark_low Field = omega arith
mark_low First = omega arith
mark_low Second = omega arith

pub fields_low : (a : Area) → fields_place (next_area a) + fields_len (next_area a) ≤ front_len (next_area a)
fields_low Header = omega arith
fields_low Field = omega arith
fields_low First = omega arith
fields_low Second = omega arith

-- The mark stands before the fields.
pub mark_first : (a : Area) → mark_place (next_area a) + 1 ≤ fields_place (next_area a)
mark_first Header = omega arith
mark_first Field = omega arith
mark_first First = omega arith
mark_first Second = omega arith

pub front_moved : (a : Area) → is_moved a ≡ true → front_len (next_area a) ≡ 50
front_moved Header e = absurd cc
front_moved Field e = refl
front_moved First e = refl
front_moved Second e = refl

pub front_plain : (a : Area) → is_moved a ≡ false → front_len (next_area a) ≡ 16
front_plain Header e = refl
front_plain Field e = absurd cc
front_plain First e = absurd cc
front_plain Second e = absurd cc

-- A mark that needn't be cleared is closed.
pub shut_mark : (c : List ℕ) (a : Area) → area_of c ≡ a → has_open_mark c a ≡ false → (slice_index c (mark_place (next_area a)) == open_mark (next_area a)) ≡ false
shut_mark c Header there e = chosen_off (slice_index c 8 == 1) (slice_index c 16 == 3) (slice_index c 17 == 3) (nat_lt (word c 18) (word c 34)) there
shut_mark c Field there e = e
shut_mark c First there e = e
shut_mark c Second there e = e

-- A mark that must be cleared is open.
pub open_there : (c : List ℕ) (a : Area) → has_open_mark c a ≡ true → (is_moved a ≡ true) × (slice_index c (mark_place (next_area a)) ≡ 3) × (open_mark (next_area a) ≡ 3)
open_there c Header e = absurd cc
open_there c Field e = (refl, (let s : slice_index c 16 ≡ 3 = grind (arith, nat_tests) in s), refl)
open_there c First e = (refl, (let s : slice_index c 17 ≡ 3 = grind (arith, nat_tests) in s), refl)
open_there c Second e = (refl, (let s : slice_index c 16 ≡ 3 = grind (arith, nat_tests) in s), refl)

pub closed_octet : (a : Area) → (0 == open_mark (next_area a)) ≡ false
closed_octet Header = refl
closed_octet Field = refl
closed_octet First = refl
closed_octet Second = refl

pub equal_is : (m n : ℕ) → (m == n) ≡ true → m ≡ n
equal_is m n e = grind (arith, nat_tests)

-- On a disk without a checkpoint octet 16 is a gate, and octet 17 is 0 or the first octet of a length below 2^25. So neither is
-- an open mark.
pub no_marks : (batches : List (List ℕ)) (i : List ℕ) → IsArea 16 batches i → length_of 16 batches ≤ 2 ^ 25 → (batches ≡ [] → slice_index i 17 ≡ 0) → HasNoMarks Header i
no_marks [] i w few zero_there = (ap (λ (o : ℕ). o == 3) (w.written 0 (omega arith)), ap (λ (o : ℕ). o == 3) (zero_there refl))
no_marks (b ∷ batches) i w few zero_there =
    let size = spelled_is b batches in
    let high : byte_at 3 (length b) < 3 = omega (arith, few, size) in
    let isnt : (byte_at 3 (length b) == 3) ≡ false = grind (arith, nat_tests) in
    (ap (λ (o : ℕ). o == 3) (w.written 0 (omega (arith, size, area_size (b ∷ batches)))), ap (λ (o : ℕ). o == 3) (w.written 1 (omega (arith, size, area_size (b ∷ batches)))) ∙ isnt)
  where
    spelled_is : (x : List ℕ) (xs : List (List ℕ)) → length (spelled (x ∷ xs)) ≡ 5 + length x + length (spelled xs)
    spelled_is x xs = omega (arith, length-append x (spelled xs))

    area_size : (xs : List (List ℕ)) → length (area xs) ≡ length (spelled xs) + 1
    area_size xs = length-append (spelled xs) (0 ∷ [])
