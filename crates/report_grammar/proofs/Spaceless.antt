-- A text of words without spaces, joined by single spaces, is cut into the same words again.
use Rattle.std.proofs.Common.{◌≡◌, ℕ, zero, suc, ◌<◌, ◌/◌, ◌%◌, ◌^◌, Bool, true, false, not, ◌&&◌, List, [], ◌∷◌, ◌++◌, refl, ap, ◌∙◌, append_assoc, arith}
use Rattle.std.specs.Prelude.{slice_index}
use Rattle.std.specs.List.{list_all, slice_split, flat_map, All}
use Rattle.std.specs.Fmt.{decimal}
use Rattle.std.proofs.lemmas.List.Splits.{slice_split_at, slice_split_none}
use lib.Chars.{codes}
use Rattle.hex.specs.Hex.{encode_lower, encode_with, lower_digits}
use Rattle.qkd_base.specs.declared.lane.Way.{Way}
use Rattle.qkd_base.specs.declared.lane.Way.TheVariants.{Up, Down}
use Rattle.qkd_base.specs.declared.lane.Lane.{Lane}
use Rattle.qkd_base.specs.Name.{Name}
use Rattle.scenario_text.specs.Words.{Word, is_space}
use Rattle.scenario_format.proofs.Clean.{is_inner, is_clean, inner_all, and_left, and_right, and_both}
use Rattle.scenario_format.proofs.Numerals.{number_clean}
use Rattle.scenario_format.proofs.Names.{name_clean}
use Rattle.run_types.specs.Words.{words, way_text, lane_text, name_text, tag_text}
use Rattle.run_types.specs.Texts.{key_words}

abbrev pub is_spaceless : Word → Bool
is_spaceless w = list_all (λ b. not (is_space b)) w

abbrev pub are_spaceless : List Word → Bool
are_spaceless ws = list_all is_spaceless ws

no_space : (b : Bool) → not b ≡ true → b ≡ false
no_space true h = cc
no_space false h = refl

no_spaces : (w : Word) → is_spaceless w ≡ true → All (λ b. is_space b ≡ false) w
no_spaces [] h k d lt = absurd (omega arith)
no_spaces (b ∷ bs) h zero d lt = no_space (is_space b) (and_left (not (is_space b)) (is_spaceless bs) h)
no_spaces (b ∷ bs) h (suc k) d lt = no_spaces bs (and_right (not (is_space b)) (is_spaceless bs) h) k d (omega arith)

-- ---- words in order

pub split_at : (w : Word) (rest : List ℕ) → is_spaceless w ≡ true → slice_split is_space (w ++ codes " " ++ rest) ≡ w ∷ slice_split is_space rest
split_at w rest h = ap (slice_split is_space) (append_assoc w (codes " ") rest) ∙ slice_split_at is_space w 32 rest (no_spaces w h) refl

-- Some words and a text behind them are cut into these words and the words of the text.
pub split_behind : (ws : List Word) (text : List ℕ) → are_spaceless ws ≡ true → slice_split is_space (words (ws ++ text ∷ [])) ≡ ws ++ slice_split is_space text
split_behind [] text h = refl
split_behind (w ∷ []) text h = split_at w text (and_left (is_spaceless w) true h)
split_behind (w ∷ v ∷ ws) text h =
    split_at w (words ((v ∷ ws) ++ text ∷ [])) (and_left (is_spaceless w) (are_spaceless (v ∷ ws)) h)
    ∙ ap (λ (rest : List Word). w ∷ rest) (split_behind (v ∷ ws) text (and_right (is_spaceless w) (are_spaceless (v ∷ ws)) h))

-- A text of words alone is cut into these words.
pub split_all : (w : Word) (ws : List Word) → are_spaceless (w ∷ ws) ≡ true → slice_split is_space (words (w ∷ ws)) ≡ w ∷ ws
split_all w [] h = slice_split_none is_space w (no_spaces w (and_left (is_spaceless w) true h))
split_all w (v ∷ ws) h =
    split_at w (words (v ∷ ws)) (and_left (is_spaceless w) (are_spaceless (v ∷ ws)) h)
    ∙ ap (λ (rest : List Word). w ∷ rest) (split_all v ws (and_right (is_spaceless w) (are_spaceless (v ∷ ws)) h))

-- The text of a lane is two words.
pub lane_apart : (w v : Word) (l : Lane) (ws : List Word) → words (w ∷ lane_text l ∷ v ∷ ws) ≡ words (w ∷ decimal l.link ∷ way_text l.way ∷ v ∷ ws)
lane_apart w v l ws = simp append_assoc

-- ---- which words have no space

inner_other : (b : ℕ) → is_inner b ≡ true → not (is_space b) ≡ true
inner_other b h = grind arith

inner_spaceless : (bs : List ℕ) → list_all is_inner bs ≡ true → is_spaceless bs ≡ true
inner_spaceless [] h = refl
inner_spaceless (b ∷ bs) h = and_both (not (is_space b)) (is_spaceless bs) (inner_other b (and_left (is_inner b) (list_all is_inner bs) h)) (inner_spaceless bs (and_right (is_inner b) (list_all is_inner bs) h))

clean_spaceless : (w : Word) → is_clean w ≡ true → is_spaceless w ≡ true
clean_spaceless w h = inner_spaceless w (inner_all w h)

pub long_spaceless : (n : ℕ) → n < 2 ^ 64 → is_spaceless (decimal n) ≡ true
long_spaceless n h = clean_spaceless (decimal n) (number_clean n h)

pub digits_spaceless : (n : ℕ) → n < 2 ^ 32 → is_spaceless (decimal n) ≡ true
digits_spaceless n h = long_spaceless n (omega arith)

pub name_spaceless : (n : Name) → is_spaceless (name_text n) ≡ true
name_spaceless n = clean_spaceless (name_text n) (name_clean n)

pub way_spaceless : (w : Way) → is_spaceless (way_text w) ≡ true
way_spaceless Up = refl
way_spaceless Down = refl

digit_spaceless : (k : ℕ) → not (is_space (slice_index lower_digits k)) ≡ true
digit_spaceless zero = refl
digit_spaceless (suc zero) = refl
digit_spaceless (suc (suc zero)) = refl
digit_spaceless (suc (suc (suc zero))) = refl
digit_spaceless (suc (suc (suc (suc zero)))) = refl
digit_spaceless (suc (suc (suc (suc (suc zero))))) = refl
digit_spaceless (suc (suc (suc (suc (suc (suc zero)))))) = refl
digit_spaceless (suc (suc (suc (suc (suc (suc (suc zero))))))) = refl
digit_spaceless (suc (suc (suc (suc (suc (suc (suc (suc zero)))))))) = refl
digit_spaceless (suc (suc (suc (suc (suc (suc (suc (suc (suc zero))))))))) = refl
digit_spaceless (suc (suc (suc (suc (suc (suc (suc (suc (suc (suc zero)))))))))) = refl
digit_spaceless (suc (suc (suc (suc (suc (suc (suc (suc (suc (suc (suc zero))))))))))) = refl
digit_spaceless (suc (suc (suc (suc (suc (suc (suc (suc (suc (suc (suc (suc zero)))))))))))) = refl
digit_spaceless (suc (suc (suc (suc (suc (suc (suc (suc (suc (suc (suc (suc (suc zero))))))))))))) = refl
digit_spaceless (suc (suc (suc (suc (suc (suc (suc (suc (suc (suc (suc (suc (suc (suc zero)))))))))))))) = refl
digit_spaceless (suc (suc (suc (suc (suc (suc (suc (suc (suc (suc (suc (suc (suc (suc (suc zero))))))))))))))) = refl
digit_spaceless (suc (suc (suc (suc (suc (suc (suc (suc (suc (suc (suc (suc (suc (suc (suc (suc k)))))))))))))))) = refl

pub hex_spaceless : (bs : List ℕ) → is_spaceless (encode_lower bs) ≡ true
unfolding encode_with
hex_spaceless [] = refl
hex_spaceless (b ∷ bs) =
    and_both (not (is_space (slice_index lower_digits (b / 16)))) (not (is_space (slice_index lower_digits (b % 16))) && is_spaceless (encode_lower bs)) (digit_spaceless (b / 16))
    (and_both (not (is_space (slice_index lower_digits (b % 16)))) (is_spaceless (encode_lower bs)) (digit_spaceless (b % 16)) (hex_spaceless bs))

pub tag_spaceless : (t : ℕ) → is_spaceless (tag_text t) ≡ true
tag_spaceless t = hex_spaceless _

pub keys_spaceless : (keys : List (Name × List ℕ)) → are_spaceless (flat_map key_words keys) ≡ true
keys_spaceless [] = refl
keys_spaceless (k ∷ ks) = rw (name_spaceless k.0, hex_spaceless k.1) (keys_spaceless ks)
