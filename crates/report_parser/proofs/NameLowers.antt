-- The lower bound for names of keys: some name shares with a word as many leading octets as the fit says.
use Rattle.std.proofs.Common.{◌≡◌, ℕ, zero, suc, ◌+◌, ◌-◌, ◌*◌, ◌/◌, ◌%◌, ◌^◌, ◌≤◌, ◌<◌, Bool, true, false, ◌&&◌, cond, eqb, List, [], ◌∷◌, ◌++◌, length, get_or, take, drop, Option, Some, None, refl, sym, ap, ◌∙◌, arith}
use Rattle.std.specs.Prelude.{nat_le, nat_lt, is_some}
use Rattle.std.specs.Option.{option_and_then}
use Rattle.std.specs.Str.{bytes_eq}
use Rattle.std.proofs.lemmas.List.Sums.{common_prefix_len-le}
use Rattle.std.proofs.lemmas.Slice.Eq.{bytes_eq-Decides}
use borrow.Author.Tests.{eqb-true}
use lib.Chars.{codes}
use Rattle.uuid.specs.Text.{by_index, hex_digit, lower, parsed, hyphenated_text}
use Rattle.qkd_base.specs.declared.key_name.NameKind.{NameKind}
use Rattle.qkd_base.specs.declared.key_name.NameKind.TheVariants.{Key, Stream, Note}
use Rattle.qkd_base.specs.Name.{Name, IsName, is_name, kind_number, octets_of, candidate, name_at}
use Rattle.qkd_base.proofs.Names.{IsName-of}
use Rattle.scenario_text.specs.Words.{Word}
use Rattle.scenario_text.specs.Fields.{name_of}
use Rattle.run_types.specs.Words.{name_text}
use Rattle.report_parser.specs.declared.part.Part.TheVariants as parts
use Rattle.report_parser.specs.Runs.{common, is_figure, may_stand, pattern_fit}
use Rattle.report_parser.specs.Fits.{fit, is_text, name_fit}
use Rattle.report_parser.proofs.NameUppers.{pattern, same_front, last_part, name_long}
use Rattle.report_parser.proofs.Lower.{Known}

-- ---- hexadecimal digits

figure_value : ℕ → ℕ
figure_value c = cond (nat_le c 57) (c - 48) (c - 87)

small_at : (c : ℕ) (b : Bool) → nat_le c 57 ≡ b → is_figure c ≡ true → (cond b (c - 48) (c - 87) < 16) × (hex_digit lower (cond b (c - 48) (c - 87)) ≡ c)
small_at c true e h = let low : 48 ≤ c = grind (arith, e, h) in let high : c ≤ 57 = grind (arith, e) in (omega arith, (let d : c - 48 < 10 = omega arith in decimal_digit (c - 48) c d (omega arith)))
  where
    decimal_digit : (v c : ℕ) → v < 10 → 48 + v ≡ c → hex_digit lower v ≡ c
    decimal_digit v c lt s = grind (arith, lt, s)
small_at c false e h = let low : 97 ≤ c = grind (arith, e, h) in let high : c ≤ 102 = grind (arith, e, h) in (omega arith, (let d : 10 ≤ c - 87 = omega arith in letter_digit (c - 87) c d (omega arith)))
  where
    letter_digit : (v c : ℕ) → 10 ≤ v → 87 + v ≡ c → hex_digit lower v ≡ c
    letter_digit v c le s = grind (arith, le, s)

figure_small : (c : ℕ) → is_figure c ≡ true → figure_value c < 16
unfolding figure_value
figure_small c h = (small_at c (nat_le c 57) refl h).0

figure_back : (c : ℕ) → is_figure c ≡ true → hex_digit lower (figure_value c) ≡ c
unfolding figure_value
figure_back c h = (small_at c (nat_le c 57) refl h).1

figure_there : (c : ℕ) → may_stand 110 c ≡ true → is_figure c ≡ true
figure_there c h = h

-- ---- the digits of a word up to a place, and other digits behind it

place_at : Bool → (w : Word) (i other : ℕ) → ℕ
place_at true w i other = figure_value (get_or w i 0)
place_at false w i other = other

place : (k : ℕ) (w : Word) (i other : ℕ) → ℕ
place k w i other = place_at (nat_lt i k) w i other

kept_at : (b : Bool) (w : Word) (i other : ℕ) → b ≡ true → place_at b w i other ≡ figure_value (get_or w i 0)
unfolding place_at
kept_at true w i other e = refl
kept_at false w i other e = absurd cc

below : (i k : ℕ) → i < k → nat_lt i k ≡ true
below i k h = grind arith

above : (i k : ℕ) → k ≤ i → nat_lt i k ≡ false
above i k h = grind arith

kept : (k : ℕ) (w : Word) (i other : ℕ) → i < k → place k w i other ≡ figure_value (get_or w i 0)
unfolding place
kept k w i other h = kept_at (nat_lt i k) w i other (below i k h)

left_at : (b : Bool) (w : Word) (i other : ℕ) → b ≡ false → place_at b w i other ≡ other
unfolding place_at
left_at true w i other e = absurd cc
left_at false w i other e = refl

left : (k : ℕ) (w : Word) (i other : ℕ) → k ≤ i → place k w i other ≡ other
unfolding place
left k w i other h = left_at (nat_lt i k) w i other (above i k h)

place_small_at : (b : Bool) (w : Word) (i other : ℕ) → other < 16 → (b ≡ true → is_figure (get_or w i 0) ≡ true) → place_at b w i other < 16
unfolding place_at
place_small_at true w i other lt h = figure_small (get_or w i 0) (h refl)
place_small_at false w i other lt h = lt

place_small : (k : ℕ) (w : Word) (i other : ℕ) → other < 16 → (i < k → is_figure (get_or w i 0) ≡ true) → place k w i other < 16
unfolding place
place_small k w i other lt h = place_small_at (nat_lt i k) w i other lt (λ e. h (grind (arith, e)))

-- ---- kinds of names

kind_by : Bool → (c : ℕ) → NameKind
kind_by true c = cond (eqb c 48) Key (cond (eqb c 49) Stream Note)
kind_by false c = Key

kind_at : (k : ℕ) (w : Word) → NameKind
kind_at k w = kind_by (nat_lt 22 k) (get_or w 22 0)

kind_high : (k : NameKind) → hex_digit lower (kind_number k / 16 % 16) ≡ 48
kind_high Key = refl
kind_high Stream = refl
kind_high Note = refl

kind_char : (c : ℕ) (a b : Bool) → eqb c 48 ≡ a → eqb c 49 ≡ b → may_stand 107 c ≡ true → hex_digit lower (kind_number (cond a Key (cond b Stream Note)) % 16) ≡ c
kind_char c true b e f h = sym (eqb-true c 48 e)
kind_char c false true e f h = sym (eqb-true c 49 f)
kind_char c false false e f h = let g : c ≡ 50 = grind (arith, e, f, h) in sym g

kind_same_at : (b : Bool) (c : ℕ) → b ≡ true → may_stand 107 c ≡ true → hex_digit lower (kind_number (kind_by b c) % 16) ≡ c
unfolding kind_by
kind_same_at true c e h = kind_char c (eqb c 48) (eqb c 49) refl refl h
kind_same_at false c e h = absurd cc

kind_same : (k : ℕ) (w : Word) → 22 < k → may_stand 107 (get_or w 22 0) ≡ true → hex_digit lower (kind_number (kind_at k w) % 16) ≡ get_or w 22 0
unfolding kind_at
kind_same k w lt h = kind_same_at (nat_lt 22 k) (get_or w 22 0) (below 22 k lt) h

-- ---- the octets of a name's count

abbrev count_of : (b0 b1 b2 b3 b4 b5 : ℕ) → ℕ
count_of b0 b1 b2 b3 b4 b5 = b0 * 1099511627776 + b1 * 4294967296 + b2 * 16777216 + b3 * 65536 + b4 * 256 + b5

byte0 : (b0 b1 b2 b3 b4 b5 : ℕ) → b0 < 256 → b1 < 256 → b2 < 256 → b3 < 256 → b4 < 256 → b5 < 256 → (count_of b0 b1 b2 b3 b4 b5) / 1099511627776 % 256 ≡ b0
byte0 b0 b1 b2 b3 b4 b5 h0 h1 h2 h3 h4 h5 = omega arith

byte1 : (b0 b1 b2 b3 b4 b5 : ℕ) → b0 < 256 → b1 < 256 → b2 < 256 → b3 < 256 → b4 < 256 → b5 < 256 → (count_of b0 b1 b2 b3 b4 b5) / 4294967296 % 256 ≡ b1
byte1 b0 b1 b2 b3 b4 b5 h0 h1 h2 h3 h4 h5 = omega arith

byte2 : (b0 b1 b2 b3 b4 b5 : ℕ) → b0 < 256 → b1 < 256 → b2 < 256 → b3 < 256 → b4 < 256 → b5 < 256 → (count_of b0 b1 b2 b3 b4 b5) / 16777216 % 256 ≡ b2
byte2 b0 b1 b2 b3 b4 b5 h0 h1 h2 h3 h4 h5 = omega arith

byte3 : (b0 b1 b2 b3 b4 b5 : ℕ) → b0 < 256 → b1 < 256 → b2 < 256 → b3 < 256 → b4 < 256 → b5 < 256 → (count_of b0 b1 b2 b3 b4 b5) / 65536 % 256 ≡ b3
byte3 b0 b1 b2 b3 b4 b5 h0 h1 h2 h3 h4 h5 = omega arith

byte4 : (b0 b1 b2 b3 b4 b5 : ℕ) → b0 < 256 → b1 < 256 → b2 < 256 → b3 < 256 → b4 < 256 → b5 < 256 → (count_of b0 b1 b2 b3 b4 b5) / 256 % 256 ≡ b4
byte4 b0 b1 b2 b3 b4 b5 h0 h1 h2 h3 h4 h5 = omega arith

byte5 : (b0 b1 b2 b3 b4 b5 : ℕ) → b0 < 256 → b1 < 256 → b2 < 256 → b3 < 256 → b4 < 256 → b5 < 256 → (count_of b0 b1 b2 b3 b4 b5) % 256 ≡ b5
byte5 b0 b1 b2 b3 b4 b5 h0 h1 h2 h3 h4 h5 = omega arith

abbrev byte : (k : ℕ) (w : Word) (i : ℕ) → ℕ
byte k w i = 16 * place k w i 0 + place k w (i + 1) 0

abbrev byte_end : (k : ℕ) (w : Word) → ℕ
byte_end k w = 16 * place k w 34 0 + place k w 35 1

abbrev near : (k : ℕ) (w : Word) → Name
near k w = record { node = place k w 17 0; kind = kind_at k w; count = count_of (byte k w 24) (byte k w 26) (byte k w 28) (byte k w 30) (byte k w 32) (byte_end k w) }

record Small (k : ℕ) (w : Word) : Type 0 where
  node : place k w 17 0 < 16
  p24 : place k w 24 0 < 16
  p25 : place k w 25 0 < 16
  p26 : place k w 26 0 < 16
  p27 : place k w 27 0 < 16
  p28 : place k w 28 0 < 16
  p29 : place k w 29 0 < 16
  p30 : place k w 30 0 < 16
  p31 : place k w 31 0 < 16
  p32 : place k w 32 0 < 16
  p33 : place k w 33 0 < 16
  p34 : place k w 34 0 < 16
  p35 : place k w 35 1 < 16
  b0 : byte k w 24 < 256
  b1 : byte k w 26 < 256
  b2 : byte k w 28 < 256
  b3 : byte k w 30 < 256
  b4 : byte k w 32 < 256
  b5 : byte_end k w < 256

byte_small : (x y : ℕ) → x < 16 → y < 16 → 16 * x + y < 256
byte_small x y h k = omega arith

abbrev Marks : (k : ℕ) (w : Word) → Type 0
Marks k w = (i : ℕ) → i < k → may_stand (get_or pattern i 0) (get_or w i 0) ≡ true

small : (k : ℕ) (w : Word) → Marks k w → Small k w
small k w m =
    let n = place_small k w 17 0 (omega arith) (m 17) in
    let p24 = place_small k w 24 0 (omega arith) (m 24) in
    let p25 = place_small k w 25 0 (omega arith) (m 25) in
    let p26 = place_small k w 26 0 (omega arith) (m 26) in
    let p27 = place_small k w 27 0 (omega arith) (m 27) in
    let p28 = place_small k w 28 0 (omega arith) (m 28) in
    let p29 = place_small k w 29 0 (omega arith) (m 29) in
    let p30 = place_small k w 30 0 (omega arith) (m 30) in
    let p31 = place_small k w 31 0 (omega arith) (m 31) in
    let p32 = place_small k w 32 0 (omega arith) (m 32) in
    let p33 = place_small k w 33 0 (omega arith) (m 33) in
    let p34 = place_small k w 34 0 (omega arith) (m 34) in
    let p35 = place_small k w 35 1 (omega arith) (m 35) in
    record {
      node = n;
      p24 = p24;
      p25 = p25;
      p26 = p26;
      p27 = p27;
      p28 = p28;
      p29 = p29;
      p30 = p30;
      p31 = p31;
      p32 = p32;
      p33 = p33;
      p34 = p34;
      p35 = p35;
      b0 = byte_small _ _ p24 p25;
      b1 = byte_small _ _ p26 p27;
      b2 = byte_small _ _ p28 p29;
      b3 = byte_small _ _ p30 p31;
      b4 = byte_small _ _ p32 p33;
      b5 = byte_small _ _ p34 p35;
    }

zero_high : (x : ℕ) → x < 16 → hex_digit lower (x / 16 % 16) ≡ 48
zero_high x h = let e : x / 16 % 16 ≡ 0 = omega arith in rw e refl

figure_same : (x c : ℕ) → x < 16 → x ≡ figure_value c → is_figure c ≡ true → hex_digit lower (x % 16) ≡ c
figure_same x c h e f = let s : x % 16 ≡ x = omega arith in ap (hex_digit lower) (s ∙ e) ∙ figure_back c f

high_same : (x y c : ℕ) → x < 16 → y < 16 → x ≡ figure_value c → is_figure c ≡ true → hex_digit lower ((16 * x + y) / 16 % 16) ≡ c
high_same x y c h k e f = let s : (16 * x + y) / 16 % 16 ≡ x = omega arith in ap (hex_digit lower) (s ∙ e) ∙ figure_back c f

low_same : (x y c : ℕ) → x < 16 → y < 16 → y ≡ figure_value c → is_figure c ≡ true → hex_digit lower ((16 * x + y) % 16) ≡ c
low_same x y c h k e f = let s : (16 * x + y) % 16 ≡ y = omega arith in ap (hex_digit lower) (s ∙ e) ∙ figure_back c f

-- Up to place k the name's text and the word have the same octets.
same_at : (k : ℕ) (w : Word) → Small k w → Marks k w → k ≤ 36 → (i : ℕ) → i < k → get_or (name_text (near k w)) i 0 ≡ get_or w i 0
unfolding by_index
same_at k w c mark most zero below_k = eqb-true 48 (get_or w 0 0) (mark 0 below_k)
same_at k w c mark most (suc zero) below_k = eqb-true 48 (get_or w 1 0) (mark 1 below_k)
same_at k w c mark most (suc (suc zero)) below_k = eqb-true 48 (get_or w 2 0) (mark 2 below_k)
same_at k w c mark most (suc (suc (suc zero))) below_k = eqb-true 48 (get_or w 3 0) (mark 3 below_k)
same_at k w c mark most (suc (suc (suc (suc zero)))) below_k = eqb-true 48 (get_or w 4 0) (mark 4 below_k)
same_at k w c mark most (suc (suc (suc (suc (suc zero))))) below_k = eqb-true 48 (get_or w 5 0) (mark 5 below_k)
same_at k w c mark most (suc (suc (suc (suc (suc (suc zero)))))) below_k = eqb-true 48 (get_or w 6 0) (mark 6 below_k)
same_at k w c mark most (suc (suc (suc (suc (suc (suc (suc zero))))))) below_k = eqb-true 48 (get_or w 7 0) (mark 7 below_k)
same_at k w c mark most (suc (suc (suc (suc (suc (suc (suc (suc zero)))))))) below_k = eqb-true 45 (get_or w 8 0) (mark 8 below_k)
same_at k w c mark most (suc (suc (suc (suc (suc (suc (suc (suc (suc zero))))))))) below_k = eqb-true 48 (get_or w 9 0) (mark 9 below_k)
same_at k w c mark most (suc (suc (suc (suc (suc (suc (suc (suc (suc (suc zero)))))))))) below_k = eqb-true 48 (get_or w 10 0) (mark 10 below_k)
same_at k w c mark most (suc (suc (suc (suc (suc (suc (suc (suc (suc (suc (suc zero))))))))))) below_k = eqb-true 48 (get_or w 11 0) (mark 11 below_k)
same_at k w c mark most (suc (suc (suc (suc (suc (suc (suc (suc (suc (suc (suc (suc zero)))))))))))) below_k = eqb-true 48 (get_or w 12 0) (mark 12 below_k)
same_at k w c mark most (suc (suc (suc (suc (suc (suc (suc (suc (suc (suc (suc (suc (suc zero))))))))))))) below_k = eqb-true 45 (get_or w 13 0) (mark 13 below_k)
same_at k w c mark most (suc (suc (suc (suc (suc (suc (suc (suc (suc (suc (suc (suc (suc (suc zero)))))))))))))) below_k = eqb-true 56 (get_or w 14 0) (mark 14 below_k)
same_at k w c mark most (suc (suc (suc (suc (suc (suc (suc (suc (suc (suc (suc (suc (suc (suc (suc zero))))))))))))))) below_k = eqb-true 48 (get_or w 15 0) (mark 15 below_k)
same_at k w c mark most (suc (suc (suc (suc (suc (suc (suc (suc (suc (suc (suc (suc (suc (suc (suc (suc zero)))))))))))))))) below_k = let m = mark 16 below_k in zero_high (place k w 17 0) c.node ∙ eqb-true 48 (get_or w 16 0) m
same_at k w c mark most (suc (suc (suc (suc (suc (suc (suc (suc (suc (suc (suc (suc (suc (suc (suc (suc (suc zero))))))))))))))))) below_k = figure_same (place k w 17 0) (get_or w 17 0) c.node (kept k w 17 0 below_k) (figure_there (get_or w 17 0) (mark 17 below_k))
same_at k w c mark most (suc (suc (suc (suc (suc (suc (suc (suc (suc (suc (suc (suc (suc (suc (suc (suc (suc (suc zero)))))))))))))))))) below_k = eqb-true 45 (get_or w 18 0) (mark 18 below_k)
same_at k w c mark most (suc (suc (suc (suc (suc (suc (suc (suc (suc (suc (suc (suc (suc (suc (suc (suc (suc (suc (suc zero))))))))))))))))))) below_k = eqb-true 56 (get_or w 19 0) (mark 19 below_k)
same_at k w c mark most (suc (suc (suc (suc (suc (suc (suc (suc (suc (suc (suc (suc (suc (suc (suc (suc (suc (suc (suc (suc zero)))))))))))))))))))) below_k = eqb-true 48 (get_or w 20 0) (mark 20 below_k)
same_at k w c mark most (suc (suc (suc (suc (suc (suc (suc (suc (suc (suc (suc (suc (suc (suc (suc (suc (suc (suc (suc (suc (suc zero))))))))))))))))))))) below_k = kind_high (kind_at k w) ∙ eqb-true 48 (get_or w 21 0) (mark 21 below_k)
same_at k w c mark most (suc (suc (suc (suc (suc (suc (suc (suc (suc (suc (suc (suc (suc (suc (suc (suc (suc (suc (suc (suc (suc (suc zero)))))))))))))))))))))) below_k = kind_same k w below_k (mark 22 below_k)
same_at k w c mark most (suc (suc (suc (suc (suc (suc (suc (suc (suc (suc (suc (suc (suc (suc (suc (suc (suc (suc (suc (suc (suc (suc (suc zero))))))))))))))))))))))) below_k = eqb-true 45 (get_or w 23 0) (mark 23 below_k)
same_at k w c mark most (suc (suc (suc (suc (suc (suc (suc (suc (suc (suc (suc (suc (suc (suc (suc (suc (suc (suc (suc (suc (suc (suc (suc (suc zero)))))))))))))))))))))))) below_k = ap (λ (b : ℕ). hex_digit lower (b / 16 % 16)) (byte0 (byte k w 24) (byte k w 26) (byte k w 28) (byte k w 30) (byte k w 32) (byte_end k w) c.b0 c.b1 c.b2 c.b3 c.b4 c.b5) ∙ high_same (place k w 24 0) (place k w 25 0) (get_or w 24 0) c.p24 c.p25 (kept k w 24 0 below_k) (figure_there (get_or w 24 0) (mark 24 below_k))
same_at k w c mark most (suc (suc (suc (suc (suc (suc (suc (suc (suc (suc (suc (suc (suc (suc (suc (suc (suc (suc (suc (suc (suc (suc (suc (suc (suc zero))))))))))))))))))))))))) below_k = ap (λ (b : ℕ). hex_digit lower (b % 16)) (byte0 (byte k w 24) (byte k w 26) (byte k w 28) (byte k w 30) (byte k w 32) (byte_end k w) c.b0 c.b1 c.b2 c.b3 c.b4 c.b5) ∙ low_same (place k w 24 0) (place k w 25 0) (get_or w 25 0) c.p24 c.p25 (kept k w 25 0 below_k) (figure_there (get_or w 25 0) (mark 25 below_k))
same_at k w c mark most (suc (suc (suc (suc (suc (suc (suc (suc (suc (suc (suc (suc (suc (suc (suc (suc (suc (suc (suc (suc (suc (suc (suc (suc (suc (suc zero)))))))))))))))))))))))))) below_k = ap (λ (b : ℕ). hex_digit lower (b / 16 % 16)) (byte1 (byte k w 24) (byte k w 26) (byte k w 28) (byte k w 30) (byte k w 32) (byte_end k w) c.b0 c.b1 c.b2 c.b3 c.b4 c.b5) ∙ high_same (place k w 26 0) (place k w 27 0) (get_or w 26 0) c.p26 c.p27 (kept k w 26 0 below_k) (figure_there (get_or w 26 0) (mark 26 below_k))
same_at k w c mark most (suc (suc (suc (suc (suc (suc (suc (suc (suc (suc (suc (suc (suc (suc (suc (suc (suc (suc (suc (suc (suc (suc (suc (suc (suc (suc (suc zero))))))))))))))))))))))))))) below_k = ap (λ (b : ℕ). hex_digit lower (b % 16)) (byte1 (byte k w 24) (byte k w 26) (byte k w 28) (byte k w 30) (byte k w 32) (byte_end k w) c.b0 c.b1 c.b2 c.b3 c.b4 c.b5) ∙ low_same (place k w 26 0) (place k w 27 0) (get_or w 27 0) c.p26 c.p27 (kept k w 27 0 below_k) (figure_there (get_or w 27 0) (mark 27 below_k))
same_at k w c mark most (suc (suc (suc (suc (suc (suc (suc (suc (suc (suc (suc (suc (suc (suc (suc (suc (suc (suc (suc (suc (suc (suc (suc (suc (suc (suc (suc (suc zero)))))))))))))))))))))))))))) below_k = ap (λ (b : ℕ). hex_digit lower (b / 16 % 16)) (byte2 (byte k w 24) (byte k w 26) (byte k w 28) (byte k w 30) (byte k w 32) (byte_end k w) c.b0 c.b1 c.b2 c.b3 c.b4 c.b5) ∙ high_same (place k w 28 0) (place k w 29 0) (get_or w 28 0) c.p28 c.p29 (kept k w 28 0 below_k) (figure_there (get_or w 28 0) (mark 28 below_k))
same_at k w c mark most (suc (suc (suc (suc (suc (suc (suc (suc (suc (suc (suc (suc (suc (suc (suc (suc (suc (suc (suc (suc (suc (suc (suc (suc (suc (suc (suc (suc (suc zero))))))))))))))))))))))))))))) below_k = ap (λ (b : ℕ). hex_digit lower (b % 16)) (byte2 (byte k w 24) (byte k w 26) (byte k w 28) (byte k w 30) (byte k w 32) (byte_end k w) c.b0 c.b1 c.b2 c.b3 c.b4 c.b5) ∙ low_same (place k w 28 0) (place k w 29 0) (get_or w 29 0) c.p28 c.p29 (kept k w 29 0 below_k) (figure_there (get_or w 29 0) (mark 29 below_k))
same_at k w c mark most (suc (suc (suc (suc (suc (suc (suc (suc (suc (suc (suc (suc (suc (suc (suc (suc (suc (suc (suc (suc (suc (suc (suc (suc (suc (suc (suc (suc (suc (suc zero)))))))))))))))))))))))))))))) below_k = ap (λ (b : ℕ). hex_digit lower (b / 16 % 16)) (byte3 (byte k w 24) (byte k w 26) (byte k w 28) (byte k w 30) (byte k w 32) (byte_end k w) c.b0 c.b1 c.b2 c.b3 c.b4 c.b5) ∙ high_same (place k w 30 0) (place k w 31 0) (get_or w 30 0) c.p30 c.p31 (kept k w 30 0 below_k) (figure_there (get_or w 30 0) (mark 30 below_k))
same_at k w c mark most (suc (suc (suc (suc (suc (suc (suc (suc (suc (suc (suc (suc (suc (suc (suc (suc (suc (suc (suc (suc (suc (suc (suc (suc (suc (suc (suc (suc (suc (suc (suc zero))))))))))))))))))))))))))))))) below_k = ap (λ (b : ℕ). hex_digit lower (b % 16)) (byte3 (byte k w 24) (byte k w 26) (byte k w 28) (byte k w 30) (byte k w 32) (byte_end k w) c.b0 c.b1 c.b2 c.b3 c.b4 c.b5) ∙ low_same (place k w 30 0) (place k w 31 0) (get_or w 31 0) c.p30 c.p31 (kept k w 31 0 below_k) (figure_there (get_or w 31 0) (mark 31 below_k))
same_at k w c mark most (suc (suc (suc (suc (suc (suc (suc (suc (suc (suc (suc (suc (suc (suc (suc (suc (suc (suc (suc (suc (suc (suc (suc (suc (suc (suc (suc (suc (suc (suc (suc (suc zero)))))))))))))))))))))))))))))))) below_k = ap (λ (b : ℕ). hex_digit lower (b / 16 % 16)) (byte4 (byte k w 24) (byte k w 26) (byte k w 28) (byte k w 30) (byte k w 32) (byte_end k w) c.b0 c.b1 c.b2 c.b3 c.b4 c.b5) ∙ high_same (place k w 32 0) (place k w 33 0) (get_or w 32 0) c.p32 c.p33 (kept k w 32 0 below_k) (figure_there (get_or w 32 0) (mark 32 below_k))
same_at k w c mark most (suc (suc (suc (suc (suc (suc (suc (suc (suc (suc (suc (suc (suc (suc (suc (suc (suc (suc (suc (suc (suc (suc (suc (suc (suc (suc (suc (suc (suc (suc (suc (suc (suc zero))))))))))))))))))))))))))))))))) below_k = ap (λ (b : ℕ). hex_digit lower (b % 16)) (byte4 (byte k w 24) (byte k w 26) (byte k w 28) (byte k w 30) (byte k w 32) (byte_end k w) c.b0 c.b1 c.b2 c.b3 c.b4 c.b5) ∙ low_same (place k w 32 0) (place k w 33 0) (get_or w 33 0) c.p32 c.p33 (kept k w 33 0 below_k) (figure_there (get_or w 33 0) (mark 33 below_k))
same_at k w c mark most (suc (suc (suc (suc (suc (suc (suc (suc (suc (suc (suc (suc (suc (suc (suc (suc (suc (suc (suc (suc (suc (suc (suc (suc (suc (suc (suc (suc (suc (suc (suc (suc (suc (suc zero)))))))))))))))))))))))))))))))))) below_k = ap (λ (b : ℕ). hex_digit lower (b / 16 % 16)) (byte5 (byte k w 24) (byte k w 26) (byte k w 28) (byte k w 30) (byte k w 32) (byte_end k w) c.b0 c.b1 c.b2 c.b3 c.b4 c.b5) ∙ high_same (place k w 34 0) (place k w 35 1) (get_or w 34 0) c.p34 c.p35 (kept k w 34 0 below_k) (figure_there (get_or w 34 0) (mark 34 below_k))
same_at k w c mark most (suc (suc (suc (suc (suc (suc (suc (suc (suc (suc (suc (suc (suc (suc (suc (suc (suc (suc (suc (suc (suc (suc (suc (suc (suc (suc (suc (suc (suc (suc (suc (suc (suc (suc (suc zero))))))))))))))))))))))))))))))))))) below_k = ap (λ (b : ℕ). hex_digit lower (b % 16)) (byte5 (byte k w 24) (byte k w 26) (byte k w 28) (byte k w 30) (byte k w 32) (byte_end k w) c.b0 c.b1 c.b2 c.b3 c.b4 c.b5) ∙ low_same (place k w 34 0) (place k w 35 1) (get_or w 35 0) c.p34 c.p35 (kept k w 35 1 below_k) (figure_there (get_or w 35 0) (mark 35 below_k))
same_at k w c mark most (suc (suc (suc (suc (suc (suc (suc (suc (suc (suc (suc (suc (suc (suc (suc (suc (suc (suc (suc (suc (suc (suc (suc (suc (suc (suc (suc (suc (suc (suc (suc (suc (suc (suc (suc (suc i)))))))))))))))))))))))))))))))))))) below_k = absurd (omega arith)

-- ---- the count of a name is at least 1

near_at : (a b : ℕ) (t w : Word) (k : ℕ) → a ≡ b → k ≤ common t w → suc k ≤ common (a ∷ t) (b ∷ w)
near_at a b t w k e h = at (eqb a b) (grind (arith, e))
  where
    at : (c : Bool) → c ≡ true → suc k ≤ cond c (1 + common t w) 0
    at true f = omega arith
    at false f = absurd cc

by_places : (t w : Word) (k : ℕ) → k ≤ length t → k ≤ length w → ((i : ℕ) → i < k → get_or t i 0 ≡ get_or w i 0) → k ≤ common t w
by_places t w zero h g same = omega arith
by_places [] w (suc k) h g same = absurd (omega arith)
by_places (a ∷ t) [] (suc k) h g same = absurd (omega arith)
by_places (a ∷ t) (b ∷ w) (suc k) h g same = near_at a b t w k (same 0 (omega arith)) (by_places t w k (omega arith) (omega arith) (λ i lt. same (suc i) (omega arith)))

mark_at : (p c : ℕ) (ps cs : List ℕ) (b : Bool) (i : ℕ) → may_stand p c ≡ b → suc i < cond b (1 + pattern_fit ps cs) 0 → i < pattern_fit ps cs
mark_at p c ps cs true i e h = omega arith
mark_at p c ps cs false i e h = absurd (omega arith)

mark_first : (p c : ℕ) (n : ℕ) (b : Bool) → may_stand p c ≡ b → 0 < cond b (1 + n) 0 → may_stand p c ≡ true
mark_first p c n true e h = e
mark_first p c n false e h = absurd (omega arith)

marks : (ps w : List ℕ) (i : ℕ) → i < pattern_fit ps w → may_stand (get_or ps i 0) (get_or w i 0) ≡ true
marks [] w i h = absurd (omega arith)
marks (p ∷ ps) [] i h = absurd (omega arith)
marks (p ∷ ps) (c ∷ cs) zero h = mark_first p c (pattern_fit ps cs) (may_stand p c) refl h
marks (p ∷ ps) (c ∷ cs) (suc i) h = marks ps cs i (mark_at p c ps cs (may_stand p c) i refl h)

-- The fit of a word with names. No name has only zeros in its count, so a word with such a count fits up to its last digit.
record Fits (w : Word) : Type 0 where
  within : name_fit w ≤ pattern_fit pattern w
  short : name_fit w ≤ 36
  zeros : name_fit w ≡ 36 → bytes_eq (take 12 (drop 24 w)) (codes "000000000000") ≡ true → ⊥

fits_by : (w : Word) (a z : Bool) → eqb (pattern_fit pattern w) 36 ≡ a → bytes_eq (take 12 (drop 24 w)) (codes "000000000000") ≡ z → pattern_fit pattern w ≤ 36 → cond (a && z) 35 (pattern_fit pattern w) ≡ name_fit w → Fits w
fits_by w true true e f le g = let x = eqb-true _ _ e in record { within = omega arith; short = omega arith; zeros = λ h y. omega arith }
fits_by w true false e f le g = record { within = omega arith; short = omega arith; zeros = λ h y. let k : true ≡ false = sym y ∙ f in cc }
fits_by w false z e f le g = record { within = omega arith; short = omega arith; zeros = λ h y. let k : pattern_fit pattern w ≡ 36 = g ∙ h in let l : eqb (pattern_fit pattern w) 36 ≡ true = grind (arith, k) in let m : true ≡ false = sym l ∙ e in cc }

fits_of : (w : Word) → Fits w
unfolding name_fit
fits_of w = fits_by w (eqb (pattern_fit pattern w) 36) (bytes_eq (take 12 (drop 24 w)) (codes "000000000000")) refl refl (common_prefix_len-le may_stand pattern w).0 refl

near_common : (w : Word) → name_fit w ≤ common (name_text (near (name_fit w) w)) w
near_common w =
    let f = fits_of w in
    let within : name_fit w ≤ pattern_fit pattern w = f.within in
    let short : name_fit w ≤ 36 = f.short in
    let m : Marks (name_fit w) w = λ i lt. marks pattern w i (omega arith) in
    let long = name_long (near (name_fit w) w) in
    let room = (common_prefix_len-le may_stand pattern w).1 in
    by_places (name_text (near (name_fit w) w)) w (name_fit w) (omega arith) (omega arith) (same_at (name_fit w) w (small (name_fit w) w m) m short)

-- the last twelve digits of a name whose count is zero
no_count : (node : ℕ) (kind : NameKind) (count : ℕ) → count ≡ 0 → drop 24 (name_text (record { node = node; kind = kind; count = count })) ≡ codes "000000000000"
unfolding by_index
no_count node kind count e = rw e refl

whole_zero : (w : Word) → name_fit w ≡ 36 → (near (name_fit w) w).count ≡ 0 → ⊥
whole_zero w e none =
    let n = near (name_fit w) w in
    let c = near_common w in
    let long = name_long n in
    let most = (common_prefix_len-le (λ a b. eqb a b) (name_text n) w).0 in
    let same : common (name_text n) w ≡ length (name_text n) = omega arith in
    let front : w ≡ name_text n ++ drop (length (name_text n)) w = same_front (name_text n) w same in
    let last : take 12 (drop 24 w) ≡ codes "000000000000" = ap (λ (x : List ℕ). take 12 (drop 24 x)) front ∙ last_part n (drop (length (name_text n)) w) ∙ no_count n.node n.kind n.count none in
    let z : bytes_eq (take 12 (drop 24 w)) (codes "000000000000") ≡ true = (bytes_eq-Decides (take 12 (drop 24 w)) (codes "000000000000")).1 last in
    (fits_of w).zeros e z

some_count : (w : Word) → Small (name_fit w) w → (a b : Bool) → eqb (name_fit w) 36 ≡ a → eqb (near (name_fit w) w).count 0 ≡ b → 1 ≤ (near (name_fit w) w).count
some_count w s a false e f = grind (arith, f)
some_count w s true true e f = absurd (whole_zero w (eqb-true _ _ e) (eqb-true _ _ f))
some_count w s false true e f =
    let short : name_fit w ≤ 36 = (fits_of w).short in
    let less : name_fit w ≤ 35 = grind (arith, e, short) in
    let one : place (name_fit w) w 35 1 ≡ 1 = left (name_fit w) w 35 1 less in
    omega arith

count_small : (b0 b1 b2 b3 b4 b5 : ℕ) → b0 < 256 → b1 < 256 → b2 < 256 → b3 < 256 → b4 < 256 → b5 < 256 → count_of b0 b1 b2 b3 b4 b5 < 2 ^ 48
count_small b0 b1 b2 b3 b4 b5 h0 h1 h2 h3 h4 h5 = omega arith

near_name : (w : Word) → IsName (near (name_fit w) w)
near_name w =
    let f = fits_of w in
    let within : name_fit w ≤ pattern_fit pattern w = f.within in
    let m : Marks (name_fit w) w = λ i lt. marks pattern w i (omega arith) in
    let s = small (name_fit w) w m in
    record { node = s.node; positive = some_count w s _ _ refl refl; count = count_small _ _ _ _ _ _ s.b0 s.b1 s.b2 s.b3 s.b4 s.b5 }

-- ---- a word that is a name's text

named_by : (os : List ℕ) (n : Name) (a b : Bool) → is_name (candidate os) ≡ a → bytes_eq os (octets_of (candidate os)) ≡ b → cond (a && b) (Some (candidate os)) None ≡ Some n → IsName n
named_by os n true true e f h = let s : candidate os ≡ n = cc in IsName-of n (ap is_name (sym s) ∙ e)
named_by os n true false e f h = absurd cc
named_by os n false b e f h = absurd cc

named : (os : List ℕ) (n : Name) → name_at os ≡ Some n → IsName n
unfolding name_at
named os n h = named_by os n (is_name (candidate os)) (bytes_eq os (octets_of (candidate os))) refl refl h

abbrev Text : Word → Type 0
Text w = (n : Name) × IsName n × (w ≡ name_text n)

text_by : (w : Word) (n : Name) (b : Bool) → bytes_eq w (hyphenated_text lower (octets_of n)) ≡ b → IsName n → is_some (cond b (Some n) None) ≡ true → Text w
text_by w n true e h k = (n, h, (bytes_eq-Decides w (hyphenated_text lower (octets_of n))).0 e)
text_by w n false e h k = absurd cc

exact_name : (w : Word) (p : Option (List ℕ)) → parsed w ≡ p → is_some (name_of w) ≡ true → Text w
unfolding name_of
exact_name w None e h = let g : false ≡ true = rw e at h in absurd cc
exact_name w (Some os) e h = at (name_at os) refl (rw e at h)
  where
    at : (o : Option Name) → name_at os ≡ o → is_some (option_and_then (λ (n : Name). cond (bytes_eq w (hyphenated_text lower (octets_of n))) (Some n) None) (name_at os)) ≡ true → Text w
    at None f g = let k : false ≡ true = rw f at g in absurd cc
    at (Some n) f g = text_by w n (bytes_eq w (hyphenated_text lower (octets_of n))) refl (named os n f) (rw f at g)

pub name_known : (nodes : List (List ℕ)) → Known nodes parts.Name
unfolding fit is_text
name_known nodes = record { closest = λ w. (near (name_fit w) w, near_name w, near_common w); exact = λ w e. exact_name w (parsed w) refl e }
