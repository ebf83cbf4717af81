-- The upper bound for names of keys: no name shares with a word more leading octets than the fit says.
use Rattle.std.proofs.Common.{◌≡◌, ℕ, suc, ◌+◌, ◌/◌, ◌%◌, ◌^◌, ◌≤◌, ◌<◌, Bool, true, false, ◌&&◌, cond, eqb, List, [], ◌∷◌, ◌++◌, length, get_or, take, drop, refl, sym, ap, ◌∙◌, arith}
use Rattle.std.specs.List.{list_all}
use Rattle.std.specs.Str.{bytes_eq}
use Rattle.std.proofs.lemmas.List.Sums.{common_prefix_len-le}
use Rattle.std.proofs.lemmas.Slice.Eq.{bytes_eq-Decides}
use borrow.Author.Tests.{eqb-true}
use lib.Chars.{codes}
use Rattle.uuid.specs.Text.{by_index, hex_digit, lower}
use Rattle.uuid.proofs.TextLemmas.{by_index_length}
use Rattle.qkd_base.specs.declared.key_name.NameKind.{NameKind}
use Rattle.qkd_base.specs.declared.key_name.NameKind.TheVariants.{Key, Stream, Note}
use Rattle.qkd_base.specs.Name.{Name, IsName, kind_number}
use Rattle.scenario_text.specs.Words.{Word}
use Rattle.scenario_format.proofs.Clean.{is_inner, inner_all, and_left, and_right, and_both}
use Rattle.scenario_format.proofs.Names.{name_is, name_clean}
use Rattle.run_types.specs.Words.{name_text}
use Rattle.report_parser.specs.declared.part.Part.TheVariants as parts
use Rattle.report_parser.specs.Runs.{common, is_plain, may_stand, pattern_fit}
use Rattle.report_parser.specs.Fits.{fit, is_text, name_fit}
use Rattle.report_parser.proofs.Upper.{Fit}

abbrev pub pattern : List ℕ
pattern = codes "00000000-0000-800n-800k-nnnnnnnnnnnn"

-- The word is as long as the pattern, and the pattern allows each octet of the word at its place.
abbrev AllStand : List ℕ → Word → Type 0
AllStand [] [] = Unit {0}
AllStand [] (c ∷ cs) = ⊥
AllStand (p ∷ ps) [] = ⊥
AllStand (p ∷ ps) (c ∷ cs) = (may_stand p c ≡ true) × AllStand ps cs

stand_at : (p d c m n : ℕ) (b : Bool) → eqb d c ≡ b → may_stand p d ≡ true → m ≤ n → cond (eqb d c) (1 + m) 0 ≤ cond (may_stand p c) (1 + n) 0
stand_at p d c m n true e h le =
    let same : d ≡ c = eqb-true d c e in
    let there : may_stand p c ≡ true = ap (may_stand p) (sym same) ∙ h in both_stand (eqb d c) (may_stand p c) m n there le
  where
    both_stand : (x y : Bool) (m n : ℕ) → y ≡ true → m ≤ n → cond x (1 + m) 0 ≤ cond y (1 + n) 0
    both_stand true true m n e h = omega arith
    both_stand false true m n e h = omega arith
    both_stand x false m n e h = absurd cc
stand_at p d c m n false e h le = rw e (omega arith)

stand_upper : (ps : List ℕ) (t w : Word) → AllStand ps t → common t w ≤ pattern_fit ps w
stand_upper [] [] w h = omega arith
stand_upper [] (d ∷ ds) w h = absurd h
stand_upper (p ∷ ps) [] w h = omega arith
stand_upper (p ∷ ps) (d ∷ ds) [] h = omega arith
stand_upper (p ∷ ps) (d ∷ ds) (c ∷ cs) h = stand_at p d c (common ds cs) (pattern_fit ps cs) (eqb d c) refl h.0 (stand_upper ps ds cs h.1)

-- ---- a name's text matches the pattern

low : (b : ℕ) → b % 16 < 16
low b = omega arith

figure_mark : (d : ℕ) → d < 16 → may_stand 110 (hex_digit lower d) ≡ true
figure_mark d h = grind arith

zero_mark : (b : ℕ) → b < 16 → may_stand 48 (hex_digit lower (b / 16 % 16)) ≡ true
zero_mark b h = let e : b / 16 % 16 ≡ 0 = omega arith in rw e refl

kind_zero : (k : NameKind) → may_stand 48 (hex_digit lower (kind_number k / 16 % 16)) ≡ true
kind_zero Key = refl
kind_zero Stream = refl
kind_zero Note = refl

kind_mark : (k : NameKind) → may_stand 107 (hex_digit lower (kind_number k % 16)) ≡ true
kind_mark Key = refl
kind_mark Stream = refl
kind_mark Note = refl

name_stands : (n : Name) → IsName n → AllStand pattern (name_text n)
unfolding by_index
name_stands n h =
    (refl, (refl, (refl, (refl, (refl, (refl, (refl, (refl, (refl, (refl, (refl, (refl, (refl, (refl, (refl, (refl, (zero_mark n.node h.node, (figure_mark (n.node % 16) (low n.node), (refl, (refl, (refl, (kind_zero n.kind, (kind_mark n.kind, (refl, (figure_mark ((n.count / 1099511627776 % 256) / 16 % 16) (low ((n.count / 1099511627776 % 256) / 16)), (figure_mark ((n.count / 1099511627776 % 256) % 16) (low (n.count / 1099511627776 % 256)), (figure_mark ((n.count / 4294967296 % 256) / 16 % 16) (low ((n.count / 4294967296 % 256) / 16)), (figure_mark ((n.count / 4294967296 % 256) % 16) (low (n.count / 4294967296 % 256)), (figure_mark ((n.count / 16777216 % 256) / 16 % 16) (low ((n.count / 16777216 % 256) / 16)), (figure_mark ((n.count / 16777216 % 256) % 16) (low (n.count / 16777216 % 256)), (figure_mark ((n.count / 65536 % 256) / 16 % 16) (low ((n.count / 65536 % 256) / 16)), (figure_mark ((n.count / 65536 % 256) % 16) (low (n.count / 65536 % 256)), (figure_mark ((n.count / 256 % 256) / 16 % 16) (low ((n.count / 256 % 256) / 16)), (figure_mark ((n.count / 256 % 256) % 16) (low (n.count / 256 % 256)), (figure_mark ((n.count % 256) / 16 % 16) (low ((n.count % 256) / 16)), (figure_mark ((n.count % 256) % 16) (low (n.count % 256)), tt))))))))))))))))))))))))))))))))))))

-- ---- the count of a name is not zero

digit_zero : (d : ℕ) → d < 16 → hex_digit lower d ≡ 48 → d ≡ 0
digit_zero d h e = grind arith

rest_small : (b : ℕ) → b % 256 < 256
rest_small b = omega arith

both_zero : (b : ℕ) → b < 256 → hex_digit lower (b / 16 % 16) ≡ 48 → hex_digit lower (b % 16) ≡ 48 → b ≡ 0
both_zero b h high low_one = let x = digit_zero (b / 16 % 16) (low (b / 16)) high in let y = digit_zero (b % 16) (low b) low_one in omega arith

all_zero : (c : ℕ) → c < 2 ^ 48 → c / 1099511627776 % 256 ≡ 0 → c / 4294967296 % 256 ≡ 0 → c / 16777216 % 256 ≡ 0 → c / 65536 % 256 ≡ 0 → c / 256 % 256 ≡ 0 → c % 256 ≡ 0 → c ≡ 0
all_zero c h a b d e f g = omega arith

count_there : (n : Name) → IsName n → drop 24 (name_text n) ≡ codes "000000000000" → ⊥
unfolding by_index
count_there n h e =
    let d0 : hex_digit lower ((n.count / 1099511627776 % 256) / 16 % 16) ≡ 48 = ap (λ (x : List ℕ). get_or x 0 0) e in
    let d1 : hex_digit lower ((n.count / 1099511627776 % 256) % 16) ≡ 48 = ap (λ (x : List ℕ). get_or x 1 0) e in
    let d2 : hex_digit lower ((n.count / 4294967296 % 256) / 16 % 16) ≡ 48 = ap (λ (x : List ℕ). get_or x 2 0) e in
    let d3 : hex_digit lower ((n.count / 4294967296 % 256) % 16) ≡ 48 = ap (λ (x : List ℕ). get_or x 3 0) e in
    let d4 : hex_digit lower ((n.count / 16777216 % 256) / 16 % 16) ≡ 48 = ap (λ (x : List ℕ). get_or x 4 0) e in
    let d5 : hex_digit lower ((n.count / 16777216 % 256) % 16) ≡ 48 = ap (λ (x : List ℕ). get_or x 5 0) e in
    let d6 : hex_digit lower ((n.count / 65536 % 256) / 16 % 16) ≡ 48 = ap (λ (x : List ℕ). get_or x 6 0) e in
    let d7 : hex_digit lower ((n.count / 65536 % 256) % 16) ≡ 48 = ap (λ (x : List ℕ). get_or x 7 0) e in
    let d8 : hex_digit lower ((n.count / 256 % 256) / 16 % 16) ≡ 48 = ap (λ (x : List ℕ). get_or x 8 0) e in
    let d9 : hex_digit lower ((n.count / 256 % 256) % 16) ≡ 48 = ap (λ (x : List ℕ). get_or x 9 0) e in
    let d10 : hex_digit lower ((n.count % 256) / 16 % 16) ≡ 48 = ap (λ (x : List ℕ). get_or x 10 0) e in
    let d11 : hex_digit lower ((n.count % 256) % 16) ≡ 48 = ap (λ (x : List ℕ). get_or x 11 0) e in
    let b0 : (n.count / 1099511627776 % 256) ≡ 0 = both_zero (n.count / 1099511627776 % 256) (rest_small _) d0 d1 in
    let b1 : (n.count / 4294967296 % 256) ≡ 0 = both_zero (n.count / 4294967296 % 256) (rest_small _) d2 d3 in
    let b2 : (n.count / 16777216 % 256) ≡ 0 = both_zero (n.count / 16777216 % 256) (rest_small _) d4 d5 in
    let b3 : (n.count / 65536 % 256) ≡ 0 = both_zero (n.count / 65536 % 256) (rest_small _) d6 d7 in
    let b4 : (n.count / 256 % 256) ≡ 0 = both_zero (n.count / 256 % 256) (rest_small _) d8 d9 in
    let b5 : (n.count % 256) ≡ 0 = both_zero (n.count % 256) (rest_small _) d10 d11 in
    let none = all_zero n.count h.count b0 b1 b2 b3 b4 b5 in
    let some = h.positive in omega arith

-- ---- the bound for names

front_at : (d c : ℕ) (ds cs : Word) (b : Bool) → eqb d c ≡ b → cond (eqb d c) (1 + common ds cs) 0 ≡ suc (length ds) → (common ds cs ≡ length ds → cs ≡ ds ++ drop (length ds) cs) → c ∷ cs ≡ d ∷ (ds ++ drop (length ds) cs)
front_at d c ds cs true s f rest =
    let same : d ≡ c = eqb-true d c s in
    let g : 1 + common ds cs ≡ suc (length ds) = rw s at f in
    ap (λ (x : ℕ). x ∷ cs) (sym same) ∙ ap (λ (x : List ℕ). d ∷ x) (rest (omega arith))
front_at d c ds cs false s f rest = let g : 0 ≡ suc (length ds) = rw s at f in absurd (omega arith)

pub same_front : (t w : Word) → common t w ≡ length t → w ≡ t ++ drop (length t) w
same_front [] w e = refl
same_front (d ∷ ds) [] e = absurd (omega arith)
same_front (d ∷ ds) (c ∷ cs) e = front_at d c ds cs (eqb d c) refl e (same_front ds cs)

pub last_part : (n : Name) (rest : List ℕ) → take 12 (drop 24 (name_text n ++ rest)) ≡ drop 24 (name_text n)
unfolding by_index
last_part n rest = refl

pub name_long : (n : Name) → length (name_text n) ≡ 36
name_long n = by_index_length 36 _

not_whole : (n : Name) (w : Word) → IsName n → bytes_eq (take 12 (drop 24 w)) (codes "000000000000") ≡ true → common (name_text n) w ≡ 36 → ⊥
not_whole n w h zeros whole =
    let t = name_text n in
    let front : w ≡ t ++ drop (length t) w = same_front t w (whole ∙ sym (name_long n)) in
    let same : take 12 (drop 24 w) ≡ codes "000000000000" = (bytes_eq-Decides (take 12 (drop 24 w)) (codes "000000000000")).0 zeros in
    count_there n h (sym (last_part n (drop (length t) w)) ∙ ap (λ (x : List ℕ). take 12 (drop 24 x)) (sym front) ∙ same)

short_of : (b : Bool) (total : ℕ) → eqb total 36 ≡ b → total ≤ 36 → (total ≡ 36 → ⊥) → total ≤ 35
short_of true total e k never = absurd (never (eqb-true total 36 e))
short_of false total e k never = grind (arith, e)

by_rule : (a z : Bool) (total fit : ℕ) → total ≤ fit → total ≤ 36 → (z ≡ true → total ≡ 36 → ⊥) → total ≤ cond (a && z) 35 fit
by_rule false z total fit h k never = h
by_rule true false total fit h k never = h
by_rule true true total fit h k never = short_of (eqb total 36) total refl k (never refl)

name_upper : (n : Name) → IsName n → (w : Word) → common (name_text n) w ≤ name_fit w
unfolding name_fit
name_upper n h w =
    by_rule (eqb (pattern_fit pattern w) 36) (bytes_eq (take 12 (drop 24 w)) (codes "000000000000")) (common (name_text n) w) (pattern_fit pattern w) (stand_upper pattern (name_text n) w (name_stands n h))
    (let l = name_long n in let s = (common_prefix_len-le (λ a b. eqb a b) (name_text n) w).0 in omega arith) (not_whole n w h)

inner_plain : (b : ℕ) → is_inner b ≡ true → is_plain b ≡ true
inner_plain b h = grind arith

all_plain : (w : Word) → list_all is_inner w ≡ true → list_all is_plain w ≡ true
all_plain [] h = refl
all_plain (b ∷ bs) h = and_both (is_plain b) (list_all is_plain bs) (inner_plain b (and_left (is_inner b) (list_all is_inner bs) h)) (all_plain bs (and_right (is_inner b) (list_all is_inner bs) h))

pub name_fits : (nodes : List (List ℕ)) (n : Name) → IsName n → Fit nodes parts.Name (name_text n)
unfolding fit is_text
name_fits nodes n h = record { plain = all_plain (name_text n) (inner_all (name_text n) (name_clean n)); text = rw (name_is n h) refl; upper = name_upper n h }
