-- Disks with the same first octets say the same live area.
use Rattle.std.proofs.Common.{◌≡◌, ◌≤◌, ◌<◌, ◌⊎◌, inl, inr, ℕ, ◌+◌, Bool, true, false, List, [], ◌∷◌, take, refl, sym, ◌∙◌, ap, arith}
use Rattle.std.specs.Prelude.{slice_index, nat_le, nat_lt, ◌==◌, ◌&&◌}
use Rattle.std.specs.Int.{w64, from_be_bytes}
use Rattle.std.proofs.lemmas.Bool.{cases_Bool}
use Rattle.std.proofs.lemmas.Bool.Decides.{nat_tests}
use Rattle.std.proofs.lemmas.List.{get_or-take}
use Rattle.range_journal.specs.Header.{IsHeaded}
use Rattle.journal_snapshot.specs.declared.area.Area.{Area}
use Rattle.journal_snapshot.specs.declared.area.Area.TheVariants.{Header, Field, First, Second}
use Rattle.journal_snapshot.specs.Layout.{word, tail_word, field_word, chosen, area_of, is_moved, start_of, generation_of, version_of, spelled_version, live_in, live_of, is_version, is_field, is_placed_in, is_placed, has_open_mark}

-- The first n octets are the same.
abbrev pub Agrees : ℕ → List ℕ → List ℕ → Type 0
Agrees n c i = (k : ℕ) → k < n → slice_index i k ≡ slice_index c k

pub agrees_front : (n : ℕ) (c i : List ℕ) → take n i ≡ take n c → Agrees n c i
agrees_front n c i same k lt = sym (get_or-take n i k 0 lt) ∙ ap (λ (l : List ℕ). slice_index l k) same ∙ get_or-take n c k 0 lt

pub fewer : (n m : ℕ) (c i : List ℕ) → m ≤ n → Agrees n c i → Agrees m c i
fewer n m c i le same k lt = same k (omega (arith, lt, le))

pub same_word : (c i : List ℕ) (at : ℕ) → at + 8 ≤ 50 → Agrees 50 c i → word i at ≡ word c at
unfolding word
same_word c i at le same =
    let a0 = same at (omega (arith, le)) in
    let a1 = same (at + 1) (omega (arith, le)) in
    let a2 = same (at + 2) (omega (arith, le)) in
    let a3 = same (at + 3) (omega (arith, le)) in
    let a4 = same (at + 4) (omega (arith, le)) in
    let a5 = same (at + 5) (omega (arith, le)) in
    let a6 = same (at + 6) (omega (arith, le)) in
    let a7 = same (at + 7) (omega (arith, le)) in
    λ j. from_be_bytes w64 (a0 j ∷ a1 j ∷ a2 j ∷ a3 j ∷ a4 j ∷ a5 j ∷ a6 j ∷ a7 j ∷ [])

pub same_tail : (c i : List ℕ) (at : ℕ) → at + 8 ≤ 50 → Agrees 50 c i → tail_word i at ≡ tail_word c at
unfolding tail_word
same_tail c i at le same =
    let a1 = same (at + 1) (omega (arith, le)) in
    let a2 = same (at + 2) (omega (arith, le)) in
    let a3 = same (at + 3) (omega (arith, le)) in
    let a4 = same (at + 4) (omega (arith, le)) in
    let a5 = same (at + 5) (omega (arith, le)) in
    let a6 = same (at + 6) (omega (arith, le)) in
    let a7 = same (at + 7) (omega (arith, le)) in
    λ j. from_be_bytes w64 (0 ∷ a1 j ∷ a2 j ∷ a3 j ∷ a4 j ∷ a5 j ∷ a6 j ∷ a7 j ∷ [])

pub same_field : (c i : List ℕ) → Agrees 50 c i → field_word i ≡ field_word c
unfolding field_word
same_field c i same =
    let a0 = same 10 (omega arith) in
    let a1 = same 11 (omega arith) in
    let a2 = same 12 (omega arith) in
    let a3 = same 13 (omega arith) in
    let a4 = same 14 (omega arith) in
    let a5 = same 15 (omega arith) in
    λ j. from_be_bytes w64 (0 ∷ 0 ∷ a0 j ∷ a1 j ∷ a2 j ∷ a3 j ∷ a4 j ∷ a5 j ∷ [])

pub same_start : (c i : List ℕ) → Agrees 50 c i → (a : Area) → start_of i a ≡ start_of c a
same_start c i same Header = refl
same_start c i same Field = same_field c i same
same_start c i same First = same_tail c i 26 (omega arith) same
same_start c i same Second = same_tail c i 42 (omega arith) same

pub same_generation : (c i : List ℕ) → Agrees 50 c i → (a : Area) → generation_of i a ≡ generation_of c a
same_generation c i same Header = refl
same_generation c i same Field = refl
same_generation c i same First = same_word c i 18 (omega arith) same
same_generation c i same Second = same_word c i 34 (omega arith) same

pub same_version : (c i : List ℕ) → Agrees 50 c i → (a : Area) → version_of i a ≡ version_of c a
same_version c i same Header = same 7 (omega arith)
same_version c i same Field = ap spelled_version (same 9 (omega arith))
same_version c i same First = ap spelled_version (same 26 (omega arith))
same_version c i same Second = ap spelled_version (same 42 (omega arith))

pub same_area : (c i : List ℕ) → Agrees 50 c i → area_of i ≡ area_of c
same_area c i same =
    let a8 = same 8 (omega arith) in
    let a16 = same 16 (omega arith) in
    let a17 = same 17 (omega arith) in
    let first = same_word c i 18 (omega arith) same in
    let second = same_word c i 34 (omega arith) same in
    λ j. chosen (a8 j == 1) (a16 j == 3) (a17 j == 3) (nat_lt (first j) (second j))

pub same_in : (c i : List ℕ) → Agrees 50 c i → (a : Area) → live_in i a ≡ live_in c a
same_in c i same a =
    let s = same_start c i same a in
    let g = same_generation c i same a in
    let v = same_version c i same a in
    λ j. record { area = a; start = s j; generation = g j; version = v j }

pub same_placed_in : (c i : List ℕ) → Agrees 50 c i → (a : Area) (n : ℕ) → is_placed_in i a n ≡ is_placed_in c a n
same_placed_in c i same Header n = refl
same_placed_in c i same Field n =
    let v = same 9 (omega arith) in
    let s = same_start c i same Field in
    λ j. is_field (v j) (s j) n
same_placed_in c i same First n =
    let v = same 26 (omega arith) in
    let s = same_start c i same First in
    λ j. is_field (v j) (s j) n
same_placed_in c i same Second n =
    let v = same 42 (omega arith) in
    let s = same_start c i same Second in
    λ j. is_field (v j) (s j) n

pub same_open_mark : (c i : List ℕ) → Agrees 50 c i → (a : Area) → has_open_mark i a ≡ has_open_mark c a
same_open_mark c i same Header = refl
same_open_mark c i same Field = ap (λ (o : ℕ). o == 3) (same 16 (omega arith))
same_open_mark c i same First = ap (λ (o : ℕ). o == 3) (same 17 (omega arith))
same_open_mark c i same Second = ap (λ (o : ℕ). o == 3) (same 16 (omega arith))

-- a disk on which no checkpoint was made
pub at_header : (c : List ℕ) → (slice_index c 8 == 1) ≡ false → area_of c ≡ Header
at_header c e = ap (λ (b : Bool). chosen b (slice_index c 16 == 3) (slice_index c 17 == 3) (nat_lt (word c 18) (word c 34))) e

chosen_moved : (f s n : Bool) → is_moved (chosen true f s n) ≡ true
chosen_moved true true true = refl
chosen_moved true true false = refl
chosen_moved true false n = refl
chosen_moved false true n = refl
chosen_moved false false n = refl

pub when_moved : (c : List ℕ) → (slice_index c 8 == 1) ≡ true → is_moved (area_of c) ≡ true
when_moved c e =
    ap (λ (b : Bool). is_moved (chosen b (slice_index c 16 == 3) (slice_index c 17 == 3) (nat_lt (word c 18) (word c 34)))) e
    ∙ chosen_moved (slice_index c 16 == 3) (slice_index c 17 == 3) (nat_lt (word c 18) (word c 34))

-- The front of another disk says the same live area.
pub record SaysSame (c i : List ℕ) : Type 0 where
  pub area : area_of i ≡ area_of c
  pub live : live_of i ≡ live_of c
  pub placed : (n : ℕ) → is_placed i n ≡ is_placed c n
  pub mark : has_open_mark i (area_of c) ≡ has_open_mark c (area_of c)

abbrev pub AgreesEnough : List ℕ → List ℕ → Type 0
AgreesEnough c i = Agrees 16 c i × (is_moved (area_of c) ≡ true → Agrees 50 c i)

pub says_same : (c i : List ℕ) → AgreesEnough c i → SaysSame c i
says_same c i agrees = elim (cases_Bool (slice_index c 8 == 1)) [
  | inl moved ↦
      let same = agrees.1 (when_moved c moved) in
      let area = same_area c i same in
      record {
        area = area;
        live = ap (λ (a : Area). live_in i a) area ∙ same_in c i same (area_of c);
        placed = λ n. ap (λ (a : Area). is_placed_in i a n) area ∙ same_placed_in c i same (area_of c) n;
        mark = same_open_mark c i same (area_of c);
      }
  | inr plain ↦
      let there = at_header c plain in
      let here = at_header i (ap (λ (o : ℕ). o == 1) (agrees.0 8 (omega arith)) ∙ plain) in
      let v = agrees.0 7 (omega arith) in
      let between : live_in i Header ≡ live_in c Header = λ j. record { area = Header; start = 16; generation = 0; version = v j } in
      record {
        area = here ∙ sym there;
        live = ap (λ (a : Area). live_in i a) here ∙ between ∙ ap (λ (a : Area). live_in c a) (sym there);
        placed = λ n. ap (λ (a : Area). is_placed_in i a n) here ∙ ap (λ (a : Area). is_placed_in c a n) (sym there);
        mark = ap (λ (a : Area). has_open_mark i a) there ∙ ap (λ (a : Area). has_open_mark c a) (sym there);
      }
]

pub same_head : (c i : List ℕ) → Agrees 8 c i → IsHeaded c → IsHeaded i
same_head c i same is = record {
  name = λ k lt. same k (omega (arith, lt)) ∙ is.name k lt;
  version = version is.version;
}
  where
    version : (slice_index c 7 ≡ 1) ⊎ (slice_index c 7 ≡ 2) → (slice_index i 7 ≡ 1) ⊎ (slice_index i 7 ≡ 2)
    version (inl one) = inl (same 7 (omega arith) ∙ one)
    version (inr two) = inr (same 7 (omega arith) ∙ two)

-- where the live area can be

and_first : (a b : Bool) → (a && b) ≡ true → a ≡ true
and_first true b e = refl
and_first false b e = absurd cc

and_second : (a b : Bool) → (a && b) ≡ true → b ≡ true
and_second true b e = e
and_second false b e = absurd cc

field_floor : (o s n : ℕ) → is_field o s n ≡ true → (50 ≤ s) × (s < n)
field_floor o s n e =
    let above : nat_le 50 s ≡ true = and_second (is_version o) (nat_le 50 s) (and_first (is_version o && nat_le 50 s) (nat_lt s n) e) in
    let below : nat_lt s n ≡ true = and_second (is_version o && nat_le 50 s) (nat_lt s n) e in
    (grind (arith, nat_tests), grind (arith, nat_tests))

field_longer : (o s n m : ℕ) → is_field o s n ≡ true → s < m → is_field o s m ≡ true
field_longer o s n m e lt =
    let both : (is_version o && nat_le 50 s) ≡ true = and_first (is_version o && nat_le 50 s) (nat_lt s n) e in
    let below : nat_lt s m ≡ true = grind (arith, nat_tests) in
    ap (λ (b : Bool). b && nat_lt s m) both ∙ below

placed_floor : (c : List ℕ) (a : Area) (n : ℕ) → is_placed_in c a n ≡ true → is_moved a ≡ true → (50 ≤ start_of c a) × (start_of c a < n)
placed_floor c Header n e moved = absurd cc
placed_floor c Field n e moved = field_floor (slice_index c 9) (start_of c Field) n e
placed_floor c First n e moved = field_floor (slice_index c 26) (start_of c First) n e
placed_floor c Second n e moved = field_floor (slice_index c 42) (start_of c Second) n e

placed_longer : (c : List ℕ) (a : Area) (n m : ℕ) → is_placed_in c a n ≡ true → start_of c a < m → is_placed_in c a m ≡ true
placed_longer c Header n m e lt = refl
placed_longer c Field n m e lt = field_longer (slice_index c 9) (start_of c Field) n m e lt
placed_longer c First n m e lt = field_longer (slice_index c 26) (start_of c First) n m e lt
placed_longer c Second n m e lt = field_longer (slice_index c 42) (start_of c Second) n m e lt

header_start : (c : List ℕ) (a : Area) → is_moved a ≡ false → start_of c a ≡ 16
header_start c Header e = refl
header_start c Field e = absurd cc
header_start c First e = absurd cc
header_start c Second e = absurd cc

pub start_floor : (c : List ℕ) (n : ℕ) → is_placed c n ≡ true → is_moved (area_of c) ≡ true → 50 ≤ (live_of c).start
start_floor c n e moved = (placed_floor c (area_of c) n e moved).0

pub start_least : (c : List ℕ) (n : ℕ) → is_placed c n ≡ true → 16 ≤ (live_of c).start
start_least c n e = elim (cases_Bool (is_moved (area_of c))) [
  | inl moved ↦ omega (arith, start_floor c n e moved)
  | inr plain ↦ omega (arith, header_start c (area_of c) plain)
]

pub start_plain : (c : List ℕ) → is_moved (area_of c) ≡ false → (live_of c).start ≡ 16
start_plain c e = header_start c (area_of c) e

pub longer : (c : List ℕ) (n m : ℕ) → is_placed c n ≡ true → (live_of c).start < m → is_placed c m ≡ true
longer c n m e lt = placed_longer c (area_of c) n m e lt

-- Disks with the same octets before the live start say the same live area.
pub enough : (c i : List ℕ) (n : ℕ) → is_placed c n ≡ true → Agrees (live_of c).start c i → AgreesEnough c i
enough c i n e same = (
  fewer (live_of c).start 16 c i (start_least c n e) same,
  λ moved. fewer (live_of c).start 50 c i (start_floor c n e moved) same,
)
