-- Which area is live when the mark and the fields of the next one change.
use Rattle.std.proofs.Common.{◌≡◌, ◌≢◌, ◌≤◌, ◌<◌, ◌⊎◌, inl, inr, ℕ, ◌+◌, ◌-◌, ◌^◌, Bool, true, false, List, [], ◌∷◌, ◌++◌, length, drop, refl, sym, ◌∙◌, ap, arith}
use Rattle.std.specs.Prelude.{slice_index, nat_le, nat_lt, ◌==◌, ◌&&◌}
use Rattle.std.specs.Int.{w64, from_be_bytes, to_be_bytes, byte_at}
use Rattle.std.proofs.lemmas.Nat.{from_be_bytes-to_be_bytes_8}
use Rattle.std.proofs.lemmas.Bool.Decides.{nat_tests}
use Rattle.journal_snapshot.specs.declared.area.Area.{Area}
use Rattle.journal_snapshot.specs.declared.area.Area.TheVariants.{Header, Field, First, Second}
use Rattle.journal_snapshot.specs.Layout.{word, tail_word, field_word, chosen, area_of, next_area, is_moved, is_slot, mark_place, open_mark, fields_place, fields_of, generation_of, spelled_version, live_in, live_of, is_version, is_field, is_placed_in, is_placed, has_open_mark}
use Rattle.journal_snapshot.specs.Snapshots.{moved_to}
use Rattle.journal_snapshot.proofs.Fronts.{at_header}

-- how many octets say which area is live, and how many octets the fields have
abbrev pub front_len : Area → ℕ
front_len Header = 16
front_len Field = 16
front_len First = 50
front_len Second = 50

abbrev pub fields_len : Area → ℕ
fields_len Header = 7
fields_len Field = 7
fields_len First = 16
fields_len Second = 16

-- The first octets are the same except for the mark and the fields of one area.
abbrev pub AgreesBut : Area → List ℕ → List ℕ → Type 0
AgreesBut t c i = (k : ℕ) → k < front_len t → k ≢ mark_place t → (k < fields_place t) ⊎ (fields_place t + fields_len t ≤ k) → slice_index i k ≡ slice_index c k

abbrev pub Written : ℕ → List ℕ → List ℕ → Type 0
Written at bytes i = (k : ℕ) → k < length bytes → slice_index i (at + k) ≡ slice_index bytes k

-- what the choice of an area says of the marks

pub chosen_second : (m f s n : Bool) → chosen m f s n ≡ Second → s ≡ true
chosen_second false f s n e = absurd cc
chosen_second true f true n e = refl
chosen_second true true false n e = absurd cc
chosen_second true false false n e = absurd cc

pub chosen_first : (m f s n : Bool) → chosen m f s n ≡ First → f ≡ true
chosen_first false f s n e = absurd cc
chosen_first true true s n e = refl
chosen_first true false true n e = absurd cc
chosen_first true false false n e = absurd cc

pub chosen_field : (m f s n : Bool) → chosen m f s n ≡ Field → (f ≡ false) × (s ≡ false)
chosen_field false f s n e = absurd cc
chosen_field true true true true e = absurd cc
chosen_field true true true false e = absurd cc
chosen_field true true false n e = absurd cc
chosen_field true false true n e = absurd cc
chosen_field true false false n e = (refl, refl)

pub chosen_on : (m f s n : Bool) → is_moved (chosen m f s n) ≡ true → m ≡ true
chosen_on false f s n e = absurd cc
chosen_on true f s n e = refl

pub chosen_off : (m f s n : Bool) → chosen m f s n ≡ Header → m ≡ false
chosen_off false f s n e = refl
chosen_off true true true true e = absurd cc
chosen_off true true true false e = absurd cc
chosen_off true true false n e = absurd cc
chosen_off true false true n e = absurd cc
chosen_off true false false n e = absurd cc

-- Numbers with the same octets are equal.

word_within : (c i : List ℕ) (at : ℕ) → ((k : ℕ) → at ≤ k → k < at + 8 → slice_index i k ≡ slice_index c k) → word i at ≡ word c at
unfolding word
word_within c i at same =
    let a0 = same at (omega arith) (omega arith) in
    let a1 = same (at + 1) (omega arith) (omega arith) in
    let a2 = same (at + 2) (omega arith) (omega arith) in
    let a3 = same (at + 3) (omega arith) (omega arith) in
    let a4 = same (at + 4) (omega arith) (omega arith) in
    let a5 = same (at + 5) (omega arith) (omega arith) in
    let a6 = same (at + 6) (omega arith) (omega arith) in
    let a7 = same (at + 7) (omega arith) (omega arith) in
    λ j. from_be_bytes w64 (a0 j ∷ a1 j ∷ a2 j ∷ a3 j ∷ a4 j ∷ a5 j ∷ a6 j ∷ a7 j ∷ [])

tail_within : (c i : List ℕ) (at : ℕ) → ((k : ℕ) → at ≤ k → k < at + 8 → slice_index i k ≡ slice_index c k) → tail_word i at ≡ tail_word c at
unfolding tail_word
tail_within c i at same =
    let a1 = same (at + 1) (omega arith) (omega arith) in
    let a2 = same (at + 2) (omega arith) (omega arith) in
    let a3 = same (at + 3) (omega arith) (omega arith) in
    let a4 = same (at + 4) (omega arith) (omega arith) in
    let a5 = same (at + 5) (omega arith) (omega arith) in
    let a6 = same (at + 6) (omega arith) (omega arith) in
    let a7 = same (at + 7) (omega arith) (omega arith) in
    λ j. from_be_bytes w64 (0 ∷ a1 j ∷ a2 j ∷ a3 j ∷ a4 j ∷ a5 j ∷ a6 j ∷ a7 j ∷ [])

field_within : (c i : List ℕ) → ((k : ℕ) → 9 ≤ k → k < 16 → slice_index i k ≡ slice_index c k) → field_word i ≡ field_word c
unfolding field_word
field_within c i same =
    let a0 = same 10 (omega arith) (omega arith) in
    let a1 = same 11 (omega arith) (omega arith) in
    let a2 = same 12 (omega arith) (omega arith) in
    let a3 = same 13 (omega arith) (omega arith) in
    let a4 = same 14 (omega arith) (omega arith) in
    let a5 = same 15 (omega arith) (omega arith) in
    λ j. from_be_bytes w64 (0 ∷ 0 ∷ a0 j ∷ a1 j ∷ a2 j ∷ a3 j ∷ a4 j ∷ a5 j ∷ [])

-- numbers that were written

top_byte : (p : ℕ) → p < 2 ^ 25 → byte_at 7 p ≡ 0
top_byte p lt = omega (arith, lt)

next_byte : (p : ℕ) → p < 2 ^ 25 → byte_at 6 p ≡ 0
next_byte p lt = omega (arith, lt)

eight : (b0 b1 b2 b3 b4 b5 b6 b7 g : ℕ) → g < 2 ^ 64 → b0 ≡ byte_at 7 g → b1 ≡ byte_at 6 g → b2 ≡ byte_at 5 g → b3 ≡ byte_at 4 g → b4 ≡ byte_at 3 g → b5 ≡ byte_at 2 g → b6 ≡ byte_at 1 g → b7 ≡ byte_at 0 g
    → from_be_bytes w64 (b0 ∷ b1 ∷ b2 ∷ b3 ∷ b4 ∷ b5 ∷ b6 ∷ b7 ∷ []) ≡ g
eight b0 b1 b2 b3 b4 b5 b6 b7 g lt a0 a1 a2 a3 a4 a5 a6 a7 =
    let same : from_be_bytes w64 (b0 ∷ b1 ∷ b2 ∷ b3 ∷ b4 ∷ b5 ∷ b6 ∷ b7 ∷ []) ≡ from_be_bytes w64 (to_be_bytes w64 g) =
    λ j. from_be_bytes w64 (a0 j ∷ a1 j ∷ a2 j ∷ a3 j ∷ a4 j ∷ a5 j ∷ a6 j ∷ a7 j ∷ []) in
    same ∙ from_be_bytes-to_be_bytes_8 g lt

word_written : (i : List ℕ) (at g p : ℕ) → g < 2 ^ 64 → Written at (to_be_bytes w64 g ++ 2 ∷ drop 1 (to_be_bytes w64 p)) i → word i at ≡ g
unfolding word
word_written i at g p lt w =
    let zeroth : slice_index i at ≡ byte_at 7 g = ap (λ (k : ℕ). slice_index i k) (let e : at ≡ at + 0 = omega arith in e) ∙ w 0 (omega arith) in
    eight (slice_index i at) (slice_index i (at + 1)) (slice_index i (at + 2)) (slice_index i (at + 3)) (slice_index i (at + 4)) (slice_index i (at + 5)) (slice_index i (at + 6)) (slice_index i (at + 7)) g lt
    zeroth (w 1 (omega arith)) (w 2 (omega arith)) (w 3 (omega arith)) (w 4 (omega arith)) (w 5 (omega arith)) (w 6 (omega arith)) (w 7 (omega arith))

tail_written : (i : List ℕ) (at g p : ℕ) → p < 2 ^ 25 → Written at (to_be_bytes w64 g ++ 2 ∷ drop 1 (to_be_bytes w64 p)) i → tail_word i (at + 8) ≡ p
unfolding tail_word
tail_written i at g p lt w =
    let there : (k : ℕ) → slice_index i (at + 8 + k) ≡ slice_index i (at + (8 + k)) = λ k. ap (λ (n : ℕ). slice_index i n) (let e : at + 8 + k ≡ at + (8 + k) = omega arith in e) in
    eight 0 (slice_index i (at + 8 + 1)) (slice_index i (at + 8 + 2)) (slice_index i (at + 8 + 3)) (slice_index i (at + 8 + 4)) (slice_index i (at + 8 + 5)) (slice_index i (at + 8 + 6)) (slice_index i (at + 8 + 7)) p (omega (arith, lt))
    (sym (top_byte p lt)) (there 1 ∙ w 9 (omega arith)) (there 2 ∙ w 10 (omega arith)) (there 3 ∙ w 11 (omega arith)) (there 4 ∙ w 12 (omega arith)) (there 5 ∙ w 13 (omega arith)) (there 6 ∙ w 14 (omega arith)) (there 7 ∙ w 15 (omega arith))

field_written : (i : List ℕ) (p : ℕ) → p < 2 ^ 25 → Written 9 (2 ∷ drop 2 (to_be_bytes w64 p)) i → field_word i ≡ p
unfolding field_word
field_written i p lt w =
    eight 0 0 (slice_index i 10) (slice_index i 11) (slice_index i 12) (slice_index i 13) (slice_index i 14) (slice_index i 15) p (omega (arith, lt))
    (sym (top_byte p lt)) (sym (next_byte p lt)) (w 1 (omega arith)) (w 2 (omega arith)) (w 3 (omega arith)) (w 4 (omega arith)) (w 5 (omega arith)) (w 6 (omega arith))

-- the old area stays live

-- The image tells the same live area.
pub record Stays (c i : List ℕ) : Type 0 where
  pub live : live_of i ≡ live_of c
  pub placed : (n : ℕ) → is_placed i n ≡ is_placed c n

says_in : (c i : List ℕ) (a : Area) → area_of c ≡ a → area_of i ≡ a → live_in i a ≡ live_in c a → ((n : ℕ) → is_placed_in i a n ≡ is_placed_in c a n) → Stays c i
says_in c i a there here same placed = record {
  live = ap (λ (b : Area). live_in i b) here ∙ same ∙ ap (λ (b : Area). live_in c b) (sym there);
  placed = λ n. ap (λ (b : Area). is_placed_in i b n) here ∙ placed n ∙ ap (λ (b : Area). is_placed_in c b n) (sym there);
}

not_equal : (m n : ℕ) → m < n → m ≢ n
not_equal m n lt e = absurd (omega (arith, lt, e))

not_equal_too : (m n : ℕ) → n < m → m ≢ n
not_equal_too m n lt e = absurd (omega (arith, lt, e))

pub stays : (a : Area) (c i : List ℕ) → area_of c ≡ a → AgreesBut (next_area a) c i → (slice_index i (mark_place (next_area a)) == open_mark (next_area a)) ≡ false → Stays c i
stays Header c i there same shut =
    let v = same 7 (omega arith) (not_equal 7 8 (omega arith)) (inl (omega arith)) in
    says_in c i Header there (at_header i shut) (λ j. record { area = Header; start = 16; generation = 0; version = v j }) (λ n. refl)
stays Field c i there same shut =
    let off = chosen_field (slice_index c 8 == 1) (slice_index c 16 == 3) (slice_index c 17 == 3) (nat_lt (word c 18) (word c 34)) there in
    let on = chosen_on (slice_index c 8 == 1) (slice_index c 16 == 3) (slice_index c 17 == 3) (nat_lt (word c 18) (word c 34)) (ap is_moved there) in
    let low : (k : ℕ) → k < 16 → slice_index i k ≡ slice_index c k = λ k lt. same k (omega (arith, lt)) (not_equal k 16 lt) (inl (omega (arith, lt))) in
    let e8 : (slice_index i 8 == 1) ≡ true = ap (λ (o : ℕ). o == 1) (low 8 (omega arith)) ∙ on in
    let e17 : (slice_index i 17 == 3) ≡ false = ap (λ (o : ℕ). o == 3) (same 17 (omega arith) (not_equal_too 17 16 (omega arith)) (inl (omega arith))) ∙ off.1 in
    let here : area_of i ≡ Field = λ j. chosen (e8 j) (shut j) (e17 j) (nat_lt (word i 18) (word i 34)) in
    let s : field_word i ≡ field_word c = field_within c i (λ k from to. low k to) in
    let v = low 9 (omega arith) in
    says_in c i Field there here (λ j. record { area = Field; start = s j; generation = 0; version = spelled_version (v j) }) (λ n j. is_field (v j) (s j) n)
stays First c i there same shut =
    let f = chosen_first (slice_index c 8 == 1) (slice_index c 16 == 3) (slice_index c 17 == 3) (nat_lt (word c 18) (word c 34)) there in
    let on = chosen_on (slice_index c 8 == 1) (slice_index c 16 == 3) (slice_index c 17 == 3) (nat_lt (word c 18) (word c 34)) (ap is_moved there) in
    let own : (k : ℕ) → 18 ≤ k → k < 34 → slice_index i k ≡ slice_index c k = λ k from to. same k (omega (arith, to)) (not_equal_too k 17 (omega (arith, from))) (inl to) in
    let e8 : (slice_index i 8 == 1) ≡ true = ap (λ (o : ℕ). o == 1) (same 8 (omega arith) (not_equal 8 17 (omega arith)) (inl (omega arith))) ∙ on in
    let e16 : (slice_index i 16 == 3) ≡ true = ap (λ (o : ℕ). o == 3) (same 16 (omega arith) (not_equal 16 17 (omega arith)) (inl (omega arith))) ∙ f in
    let here : area_of i ≡ First = λ j. chosen (e8 j) (e16 j) (shut j) (nat_lt (word i 18) (word i 34)) in
    let s : tail_word i 26 ≡ tail_word c 26 = tail_within c i 26 (λ k from to. own k (omega (arith, from)) (omega (arith, to))) in
    let g : word i 18 ≡ word c 18 = word_within c i 18 (λ k from to. own k from (omega (arith, to))) in
    let v = own 26 (omega arith) (omega arith) in
    says_in c i First there here (λ j. record { area = First; start = s j; generation = g j; version = spelled_version (v j) }) (λ n j. is_field (v j) (s j) n)
stays Second c i there same shut =
    let f = chosen_second (slice_index c 8 == 1) (slice_index c 16 == 3) (slice_index c 17 == 3) (nat_lt (word c 18) (word c 34)) there in
    let on = chosen_on (slice_index c 8 == 1) (slice_index c 16 == 3) (slice_index c 17 == 3) (nat_lt (word c 18) (word c 34)) (ap is_moved there) in
    let own : (k : ℕ) → 34 ≤ k → k < 50 → slice_index i k ≡ slice_index c k = λ k from to. same k to (not_equal_too k 16 (omega (arith, from))) (inr from) in
    let e8 : (slice_index i 8 == 1) ≡ true = ap (λ (o : ℕ). o == 1) (same 8 (omega arith) (not_equal 8 16 (omega arith)) (inl (omega arith))) ∙ on in
    let e17 : (slice_index i 17 == 3) ≡ true = ap (λ (o : ℕ). o == 3) (same 17 (omega arith) (not_equal_too 17 16 (omega arith)) (inl (omega arith))) ∙ f in
    let here : area_of i ≡ Second = λ j. chosen (e8 j) (shut j) (e17 j) (nat_lt (word i 18) (word i 34)) in
    let s : tail_word i 42 ≡ tail_word c 42 = tail_within c i 42 (λ k from to. own k (omega (arith, from)) (omega (arith, to))) in
    let g : word i 34 ≡ word c 34 = word_within c i 34 (λ k from to. own k from (omega (arith, to))) in
    let v = own 42 (omega arith) (omega arith) in
    says_in c i Second there here (λ j. record { area = Second; start = s j; generation = g j; version = spelled_version (v j) }) (λ n j. is_field (v j) (s j) n)

-- The next area is the live one.

pub record Turns (c i : List ℕ) (place : ℕ) : Type 0 where
  pub live : live_of i ≡ moved_to (live_of c) place
  pub placed : (n : ℕ) → place < n → is_placed i n ≡ true
  pub mark : has_open_mark i (next_area (area_of c)) ≡ is_slot (area_of c)

-- On a disk without a checkpoint the octets of both marks are not 3.
abbrev pub HasNoMarks : Area → List ℕ → Type 0
HasNoMarks Header i = ((slice_index i 16 == 3) ≡ false) × ((slice_index i 17 == 3) ≡ false)
HasNoMarks Field i = Unit {0}
HasNoMarks First i = Unit {0}
HasNoMarks Second i = Unit {0}

field_fits : (v s n : ℕ) → v ≡ 2 → 50 ≤ s → s < n → is_field v s n ≡ true
field_fits v s n v_is above below =
    let a : nat_le 50 s ≡ true = grind (arith, nat_tests) in
    let b : nat_lt s n ≡ true = grind (arith, nat_tests) in
    λ j. (is_version (v_is j) && a j) && b j

turned : (c i : List ℕ) (a : Area) (place : ℕ) → area_of c ≡ a → area_of i ≡ next_area a → live_in i (next_area a) ≡ moved_to (live_in c a) place → ((n : ℕ) → place < n → is_placed_in i (next_area a) n ≡ true)
    → has_open_mark i (next_area a) ≡ is_slot a → Turns c i place
turned c i a place there here live placed mark = record {
  live = ap (λ (b : Area). live_in i b) here ∙ live ∙ ap (λ (b : Area). moved_to (live_in c b) place) (sym there);
  placed = λ n lt. ap (λ (b : Area). is_placed_in i b n) here ∙ placed n lt;
  mark = ap (λ (b : Area). has_open_mark i (next_area b)) there ∙ mark ∙ ap is_slot (sym there);
}

equal_is : (m n : ℕ) → m ≡ n → (m == n) ≡ true
equal_is m n e = grind (arith, nat_tests)

pub turns : (a : Area) (c i : List ℕ) (place : ℕ) → area_of c ≡ a → AgreesBut (next_area a) c i → slice_index i (mark_place (next_area a)) ≡ open_mark (next_area a) → HasNoMarks a i
    → 50 ≤ place → place < 2 ^ 25 → generation_of c a < 2 ^ 64 - 1 → Written (fields_place (next_area a)) (fields_of (next_area a) (generation_of c a + 1) place) i → Turns c i place
unfolding fields_of
turns Header c i place there same mark none above below small w =
    let e8 : (slice_index i 8 == 1) ≡ true = equal_is (slice_index i 8) 1 mark in
    let e16 = none.0 in
    let e17 = none.1 in
    let here : area_of i ≡ Field = λ j. chosen (e8 j) (e16 j) (e17 j) (nat_lt (word i 18) (word i 34)) in
    let s : field_word i ≡ place = field_written i place below w in
    let v : slice_index i 9 ≡ 2 = w 0 (omega arith) in
    turned c i Header place there here (λ j. record { area = Field; start = s j; generation = 0; version = spelled_version (v j) })
    (λ n lt. field_fits (slice_index i 9) (field_word i) n v (omega (arith, s, above)) (omega (arith, s, lt))) e16
turns Field c i place there same mark none above below small w =
    let off = chosen_field (slice_index c 8 == 1) (slice_index c 16 == 3) (slice_index c 17 == 3) (nat_lt (word c 18) (word c 34)) there in
    let on = chosen_on (slice_index c 8 == 1) (slice_index c 16 == 3) (slice_index c 17 == 3) (nat_lt (word c 18) (word c 34)) (ap is_moved there) in
    let e8 : (slice_index i 8 == 1) ≡ true = ap (λ (o : ℕ). o == 1) (same 8 (omega arith) (not_equal 8 16 (omega arith)) (inl (omega arith))) ∙ on in
    let e16 : (slice_index i 16 == 3) ≡ true = equal_is (slice_index i 16) 3 mark in
    let e17 : (slice_index i 17 == 3) ≡ false = ap (λ (o : ℕ). o == 3) (same 17 (omega arith) (not_equal_too 17 16 (omega arith)) (inl (omega arith))) ∙ off.1 in
    let here : area_of i ≡ First = λ j. chosen (e8 j) (e16 j) (e17 j) (nat_lt (word i 18) (word i 34)) in
    let s : tail_word i 26 ≡ place = tail_written i 18 1 place below w in
    let g : word i 18 ≡ 1 = word_written i 18 1 place (omega arith) w in
    let v : slice_index i 26 ≡ 2 = w 8 (omega arith) in
    turned c i Field place there here (λ j. record { area = First; start = s j; generation = g j; version = spelled_version (v j) })
    (λ n lt. field_fits (slice_index i 26) (tail_word i 26) n v (omega (arith, s, above)) (omega (arith, s, lt))) e17
turns First c i place there same mark none above below small w =
    let f = chosen_first (slice_index c 8 == 1) (slice_index c 16 == 3) (slice_index c 17 == 3) (nat_lt (word c 18) (word c 34)) there in
    let on = chosen_on (slice_index c 8 == 1) (slice_index c 16 == 3) (slice_index c 17 == 3) (nat_lt (word c 18) (word c 34)) (ap is_moved there) in
    let own : (k : ℕ) → 18 ≤ k → k < 34 → slice_index i k ≡ slice_index c k = λ k from to. same k (omega (arith, to)) (not_equal_too k 17 (omega (arith, from))) (inl to) in
    let e8 : (slice_index i 8 == 1) ≡ true = ap (λ (o : ℕ). o == 1) (same 8 (omega arith) (not_equal 8 17 (omega arith)) (inl (omega arith))) ∙ on in
    let e16 : (slice_index i 16 == 3) ≡ true = ap (λ (o : ℕ). o == 3) (same 16 (omega arith) (not_equal 16 17 (omega arith)) (inl (omega arith))) ∙ f in
    let e17 : (slice_index i 17 == 3) ≡ true = equal_is (slice_index i 17) 3 mark in
    let old : word i 18 ≡ word c 18 = word_within c i 18 (λ k from to. own k from (omega (arith, to))) in
    let g : word i 34 ≡ word c 18 + 1 = word_written i 34 (word c 18 + 1) place (omega (arith, small)) w in
    let newer : nat_lt (word i 18) (word i 34) ≡ true = grind (arith, nat_tests) in
    let here : area_of i ≡ Second = λ j. chosen (e8 j) (e16 j) (e17 j) (newer j) in
    let s : tail_word i 42 ≡ place = tail_written i 34 (word c 18 + 1) place below w in
    let v : slice_index i 42 ≡ 2 = w 8 (omega arith) in
    turned c i First place there here (λ j. record { area = Second; start = s j; generation = g j; version = spelled_version (v j) })
    (λ n lt. field_fits (slice_index i 42) (tail_word i 42) n v (omega (arith, s, above)) (omega (arith, s, lt))) e16
turns Second c i place there same mark none above below small w =
    let f = chosen_second (slice_index c 8 == 1) (slice_index c 16 == 3) (slice_index c 17 == 3) (nat_lt (word c 18) (word c 34)) there in
    let on = chosen_on (slice_index c 8 == 1) (slice_index c 16 == 3) (slice_index c 17 == 3) (nat_lt (word c 18) (word c 34)) (ap is_moved there) in
    let own : (k : ℕ) → 34 ≤ k → k < 50 → slice_index i k ≡ slice_index c k = λ k from to. same k to (not_equal_too k 16 (omega (arith, from))) (inr from) in
    let e8 : (slice_index i 8 == 1) ≡ true = ap (λ (o : ℕ). o == 1) (same 8 (omega arith) (not_equal 8 16 (omega arith)) (inl (omega arith))) ∙ on in
    let e16 : (slice_index i 16 == 3) ≡ true = equal_is (slice_index i 16) 3 mark in
    let e17 : (slice_index i 17 == 3) ≡ true = ap (λ (o : ℕ). o == 3) (same 17 (omega arith) (not_equal_too 17 16 (omega arith)) (inl (omega arith))) ∙ f in
    let old : word i 34 ≡ word c 34 = word_within c i 34 (λ k from to. own k from (omega (arith, to))) in
    let g : word i 18 ≡ word c 34 + 1 = word_written i 18 (word c 34 + 1) place (omega (arith, small)) w in
    let newer : nat_lt (word i 18) (word i 34) ≡ false = grind (arith, nat_tests) in
    let here : area_of i ≡ First = λ j. chosen (e8 j) (e16 j) (e17 j) (newer j) in
    let s : tail_word i 26 ≡ place = tail_written i 18 (word c 34 + 1) place below w in
    let v : slice_index i 26 ≡ 2 = w 8 (omega arith) in
    turned c i Second place there here (λ j. record { area = First; start = s j; generation = g j; version = spelled_version (v j) })
    (λ n lt. field_fits (slice_index i 26) (tail_word i 26) n v (omega (arith, s, above)) (omega (arith, s, lt))) e17
