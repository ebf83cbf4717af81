-- Upper bounds for parts: no text of a part shares with a word more leading octets than the fit says.
use Rattle.std.proofs.Common.{◌≡◌, ℕ, zero, suc, ◌+◌, ◌-◌, ◌*◌, ◌/◌, ◌%◌, ◌^◌, ◌≤◌, ◌<◌, Bool, true, false, not, ◌&&◌, ◌||◌, cond, eqb, List, [], ◌∷◌, length, get_or, refl, sym, ap, ◌∙◌, arith, rules, inl, inr}
use Rattle.std.specs.Prelude.{◌⊎◌, nat_le, map, slice_index, slice_get, unwrap_or}
use Rattle.std.specs.List.{list_all}
use Rattle.std.specs.Fmt.{decimal}
use Rattle.std.proofs.lemmas.Fmt.{decimal_digit, decimal_nonempty, first_decimal}
use Rattle.std.proofs.lemmas.List.Sums.{common_prefix_len-le, prefix_len-le-length}
use borrow.Author.Tests.{eqb-true}
use lib.Chars.{codes}
use Rattle.hex.specs.Hex.{IsBytes, encode_lower, encode_with, lower_digits}
use Rattle.hex.proofs.HexLemmas.{length-encode_with}
use Rattle.qkd_base.specs.declared.lane.Way.{Way}
use Rattle.qkd_base.specs.declared.lane.Way.TheVariants.{Up, Down}
use Rattle.scenario_text.specs.Words.{Word, is_space, is_digit, number_on}
use Rattle.scenario_text.proofs.Numbers.{number_on-grows}
use Rattle.scenario_format.proofs.Clean.{and_left, and_right, and_both}
use Rattle.scenario_format.proofs.Numerals.{number_back, digits_back}
use Rattle.run_types.specs.declared.end.End.{End}
use Rattle.run_types.specs.declared.end.End.TheVariants as ends
use Rattle.run_types.specs.declared.payload_kind.PayloadKind.{PayloadKind}
use Rattle.run_types.specs.declared.payload_kind.PayloadKind.TheVariants as kinds
use Rattle.run_types.specs.declared.unsent_cause.UnsentCause.{UnsentCause}
use Rattle.run_types.specs.declared.unsent_cause.UnsentCause.TheVariants as causes
use Rattle.run_types.specs.Words.{node_text, tag_octets, tag_text, way_text, end_text, up_text, kind_text, cause_text, bytes_text}
use Rattle.report_grammar.proofs.FieldLaws.{node_is}
use Rattle.report_grammar.specs.Tellable.{HasName}
use Rattle.report_parser.specs.declared.part.Part.TheVariants as parts
use Rattle.report_parser.specs.Runs.{common, greatest, is_plain, is_figure, figures_fit, decimal_on, decimal_fit}
use Rattle.report_parser.specs.Fits.{fit, is_text, is_decimal, is_octets, node_fit}
use Rattle.report_parser.proofs.Upper.{Fit, nth, at_most}

-- ---- decimal numbers

no_more : (p q : Bool) (m n : ℕ) → (p ≡ true → q ≡ true) → m ≤ n → cond p (1 + m) 0 ≤ cond q (1 + n) 0
no_more true true m n e h = omega arith
no_more true false m n e h = let k : false ≡ true = e refl in absurd cc
no_more false q m n e h = omega arith

three : (a b c : Bool) → a ≡ true → b ≡ true → c ≡ true → (a && b && c) ≡ true
three a b c h k l = rw (h, k, l) refl

le_test : (n m : ℕ) → n ≤ m → nat_le n m ≡ true
le_test n m h = grind arith

not_zero : (b : Bool) (v : ℕ) → 1 ≤ v → (b || not (eqb v 0)) ≡ true
not_zero true v h = refl
not_zero false v h = grind arith

digit_room : (most v d : ℕ) (ds : Word) → number_on v (d ∷ ds) ≤ most → 10 * v + (d - 48) ≤ most
digit_room most v d ds h = let g = number_on-grows (10 * v + (d - 48)) ds in omega arith

digit_step : (most v : ℕ) (first : Bool) (d c : ℕ) (ds cs : Word) (b : Bool) → eqb d c ≡ b → is_digit d ≡ true → (first || not (eqb v 0)) ≡ true → 10 * v + (d - 48) ≤ most → common ds cs ≤ decimal_on most (10 * v + (d - 48)) false cs
    → common (d ∷ ds) (c ∷ cs) ≤ decimal_on most v first (c ∷ cs)
digit_step most v first d c ds cs true e digit more room rest =
    let same : d ≡ c = eqb-true d c e in
    let test : (is_digit d && (first || not (eqb v 0)) && nat_le (10 * v + (d - 48)) most) ≡ true = three _ _ _ digit more (le_test _ _ room) in
    rw (← same) (no_more (eqb d d) _ (common ds cs) (decimal_on most (10 * v + (d - 48)) false cs) (λ _. test) rest)
digit_step most v first d c ds cs false e digit more room rest = rw e (omega arith)

digits_upper : (most v : ℕ) (ds cs : Word) → list_all is_digit ds ≡ true → number_on v ds ≤ most → 1 ≤ v → common ds cs ≤ decimal_on most v false cs
digits_upper most v [] cs all room some = omega arith
digits_upper most v (d ∷ ds) [] all room some = omega arith
digits_upper most v (d ∷ ds) (c ∷ cs) all room some =
    digit_step most v false d c ds cs (eqb d c) refl (and_left (is_digit d) (list_all is_digit ds) all) (not_zero false v some) (digit_room most v d ds room)
    (digits_upper most (10 * v + (d - 48)) ds cs (and_right (is_digit d) (list_all is_digit ds) all) room (omega arith))

-- The digits have no leading zero, or are one digit.
abbrev Starts : Word → Type 0
Starts ds = (length ds ≡ 1) ⊎ (48 < get_or ds 0 0)

behind_first : (most d : ℕ) (ds cs : Word) → list_all is_digit ds ≡ true → number_on (10 * 0 + (d - 48)) ds ≤ most → Starts (d ∷ ds) → common ds cs ≤ decimal_on most (10 * 0 + (d - 48)) false cs
behind_first most d [] cs all room starts = omega arith
behind_first most d (e ∷ ds) cs all room (inl one) = absurd (omega arith)
behind_first most d (e ∷ ds) cs all room (inr lt) = digits_upper most (10 * 0 + (d - 48)) (e ∷ ds) cs all room (omega arith)

number_upper : (most : ℕ) (ds cs : Word) → list_all is_digit ds ≡ true → number_on 0 ds ≤ most → Starts ds → common ds cs ≤ decimal_fit most cs
number_upper most [] cs all room starts = omega arith
number_upper most (d ∷ ds) [] all room starts = omega arith
number_upper most (d ∷ ds) (c ∷ cs) all room starts =
    digit_step most 0 true d c ds cs (eqb d c) refl (and_left (is_digit d) (list_all is_digit ds) all) refl (digit_room most 0 d ds room) (behind_first most d ds cs (and_right (is_digit d) (list_all is_digit ds) all) room starts)

starts_well : (n : ℕ) → n < 2 ^ 64 → Starts (decimal n)
starts_well zero h = inl (ap length (decimal_digit 0 (omega arith)))
starts_well (suc n) h = inr (first_decimal (suc n) (omega arith) h)

decimal_upper : (most n : ℕ) → n ≤ most → n < 2 ^ 64 → (w : Word) → common (decimal n) w ≤ decimal_fit most w
decimal_upper most n le h w = let e = number_back n h in number_upper most (decimal n) w (digits_back n h) (omega arith) (starts_well n h)

at_most_more : (p : Bool) (m n : ℕ) → m ≤ n → cond p (1 + m) 0 ≤ suc n
at_most_more true m n h = omega arith
at_most_more false m n h = omega arith

decimal_short : (most v : ℕ) (first : Bool) (cs : Word) → decimal_on most v first cs ≤ length cs
decimal_short most v first [] = omega arith
decimal_short most v first (c ∷ cs) = at_most_more _ (decimal_on most (10 * v + (c - 48)) false cs) (length cs) (decimal_short most (10 * v + (c - 48)) false cs)

same_octet : (a : ℕ) → eqb a a ≡ true
same_octet a = grind arith

own : (t : Word) → common t t ≡ length t
own [] = refl
own (c ∷ cs) = rw (same_octet c) (let e = own cs in omega arith)

eq_test : (n m : ℕ) → n ≡ m → eqb n m ≡ true
eq_test n m e = grind arith

some_octets : (t : Word) → 1 ≤ length t → not (eqb (length t) 0) ≡ true
some_octets [] h = absurd (omega arith)
some_octets (c ∷ cs) h = search rules

decimal_text : (most n : ℕ) → n ≤ most → n < 2 ^ 64 → is_decimal most (decimal n) ≡ true
decimal_text most n le h =
    let all : decimal_fit most (decimal n) ≡ length (decimal n) = let u = decimal_upper most n le h (decimal n) in let o = own (decimal n) in let s = decimal_short most 0 true (decimal n) in omega arith in
    and_both _ _ (some_octets (decimal n) (decimal_nonempty n h)) (eq_test _ _ all)

digit_plain : (b : ℕ) → is_digit b ≡ true → is_plain b ≡ true
digit_plain b h = grind arith

digits_plain : (ds : Word) → list_all is_digit ds ≡ true → list_all is_plain ds ≡ true
digits_plain [] h = refl
digits_plain (d ∷ ds) h = and_both (is_plain d) (list_all is_plain ds) (digit_plain d (and_left (is_digit d) (list_all is_digit ds) h)) (digits_plain ds (and_right (is_digit d) (list_all is_digit ds) h))

decimal_plain : (n : ℕ) → n < 2 ^ 64 → list_all is_plain (decimal n) ≡ true
decimal_plain n h = digits_plain (decimal n) (digits_back n h)

pub link_fits : (nodes : List (List ℕ)) (n : ℕ) → n < 32 → Fit nodes parts.Link (decimal n)
unfolding fit is_text
link_fits nodes n h = record { plain = decimal_plain n (omega arith); text = decimal_text 31 n (omega arith) (omega arith); upper = decimal_upper 31 n (omega arith) (omega arith) }

pub byte_fits : (nodes : List (List ℕ)) (n : ℕ) → n < 2 ^ 8 → Fit nodes parts.Byte (decimal n)
unfolding fit is_text
byte_fits nodes n h = record { plain = decimal_plain n (omega arith); text = decimal_text 255 n (omega arith) (omega arith); upper = decimal_upper 255 n (omega arith) (omega arith) }

pub short_fits : (nodes : List (List ℕ)) (n : ℕ) → n < 2 ^ 16 → Fit nodes parts.Short (decimal n)
unfolding fit is_text
short_fits nodes n h = record { plain = decimal_plain n (omega arith); text = decimal_text 65535 n (omega arith) (omega arith); upper = decimal_upper 65535 n (omega arith) (omega arith) }

pub number_fits : (nodes : List (List ℕ)) (n : ℕ) → n < 2 ^ 32 → Fit nodes parts.Number (decimal n)
unfolding fit is_text
number_fits nodes n h = record { plain = decimal_plain n (omega arith); text = decimal_text 4294967295 n (omega arith) (omega arith); upper = decimal_upper 4294967295 n (omega arith) (omega arith) }

pub long_fits : (nodes : List (List ℕ)) (n : ℕ) → n < 2 ^ 64 → Fit nodes parts.Long (decimal n)
unfolding fit is_text
long_fits nodes n h = record { plain = decimal_plain n h; text = decimal_text 18446744073709551615 n (omega arith) h; upper = decimal_upper 18446744073709551615 n (omega arith) h }

-- ---- words of a fixed choice

-- Some word of the list shares the most octets with w. The word at place i shares at most as many.
among : (words : List Word) (i : ℕ) (w : Word) → nth (map (λ x. common x w) words) i ≤ greatest (map (λ x. common x w) words)
among words i w = at_most (map (λ x. common x w) words) i

abbrev ways : List Word
ways = codes "up" ∷ codes "down" ∷ []

pub way_fits : (nodes : List (List ℕ)) (w : Way) → Fit nodes parts.Way (way_text w)
unfolding fit is_text
way_fits nodes Up = record { plain = refl; text = refl; upper = among ways zero }
way_fits nodes Down = record { plain = refl; text = refl; upper = among ways (suc zero) }

pub up_fits : (nodes : List (List ℕ)) (b : Bool) → Fit nodes parts.Up (up_text b)
unfolding fit is_text
up_fits nodes true = record { plain = refl; text = refl; upper = among ways zero }
up_fits nodes false = record { plain = refl; text = refl; upper = among ways (suc zero) }

abbrev ends_of : List Word
ends_of = codes "low" ∷ codes "high" ∷ []

pub end_fits : (nodes : List (List ℕ)) (e : End) → Fit nodes parts.End (end_text e)
unfolding fit is_text
end_fits nodes ends.Low = record { plain = refl; text = refl; upper = among ends_of zero }
end_fits nodes ends.High = record { plain = refl; text = refl; upper = among ends_of (suc zero) }

abbrev kind_words : List Word
kind_words = codes "key" ∷ codes "stored" ∷ codes "ack" ∷ codes "open" ∷ codes "joined" ∷ codes "chunk" ∷ codes "part" ∷ []

pub kind_fits : (nodes : List (List ℕ)) (k : PayloadKind) → Fit nodes parts.Kind (kind_text k)
unfolding fit is_text
kind_fits nodes kinds.Key = record { plain = refl; text = refl; upper = among kind_words zero }
kind_fits nodes kinds.Stored = record { plain = refl; text = refl; upper = among kind_words (suc zero) }
kind_fits nodes kinds.Ack = record { plain = refl; text = refl; upper = among kind_words (suc (suc zero)) }
kind_fits nodes kinds.Open = record { plain = refl; text = refl; upper = among kind_words (suc (suc (suc zero))) }
kind_fits nodes kinds.Joined = record { plain = refl; text = refl; upper = among kind_words (suc (suc (suc (suc zero)))) }
kind_fits nodes kinds.Chunk = record { plain = refl; text = refl; upper = among kind_words (suc (suc (suc (suc (suc zero))))) }
kind_fits nodes kinds.Part = record { plain = refl; text = refl; upper = among kind_words (suc (suc (suc (suc (suc (suc zero)))))) }

abbrev state_words : List Word
state_words = codes "given" ∷ codes "ready" ∷ codes "made" ∷ codes "kept" ∷ codes "relayed" ∷ []

pub given_fits : (nodes : List (List ℕ)) → Fit nodes parts.State (codes "given")
unfolding fit is_text
given_fits nodes = record { plain = refl; text = refl; upper = among state_words zero }

pub ready_fits : (nodes : List (List ℕ)) → Fit nodes parts.State (codes "ready")
unfolding fit is_text
ready_fits nodes = record { plain = refl; text = refl; upper = among state_words (suc zero) }

pub made_fits : (nodes : List (List ℕ)) → Fit nodes parts.State (codes "made")
unfolding fit is_text
made_fits nodes = record { plain = refl; text = refl; upper = among state_words (suc (suc zero)) }

pub kept_fits : (nodes : List (List ℕ)) → Fit nodes parts.State (codes "kept")
unfolding fit is_text
kept_fits nodes = record { plain = refl; text = refl; upper = among state_words (suc (suc (suc zero))) }

pub relayed_fits : (nodes : List (List ℕ)) → Fit nodes parts.State (codes "relayed")
unfolding fit is_text
relayed_fits nodes = record { plain = refl; text = refl; upper = among state_words (suc (suc (suc (suc zero)))) }

abbrev cause_words : List Word
cause_words = codes "wire-fault" ∷ codes "memory" ∷ []

pub cause_fits : (nodes : List (List ℕ)) (c : UnsentCause) → Fit nodes parts.Cause (cause_text c)
unfolding fit is_text
cause_fits nodes causes.WireFault = record { plain = refl; text = refl; upper = among cause_words zero }
cause_fits nodes causes.Memory = record { plain = refl; text = refl; upper = among cause_words (suc zero) }

-- ---- fixed words

itself : (t w : Word) → common t w ≤ common t w
itself t w = omega arith

pub absent_fits : (nodes : List (List ℕ)) → Fit nodes parts.Absent (codes "absent")
unfolding fit is_text
absent_fits nodes = record { plain = refl; text = refl; upper = itself (codes "absent") }

pub new_fits : (nodes : List (List ℕ)) → Fit nodes parts.New (codes "new")
unfolding fit is_text
new_fits nodes = record { plain = refl; text = refl; upper = itself (codes "new") }

pub again_fits : (nodes : List (List ℕ)) → Fit nodes parts.Again (codes "again")
unfolding fit is_text
again_fits nodes = record { plain = refl; text = refl; upper = itself (codes "again") }

pub received_fits : (nodes : List (List ℕ)) → Fit nodes parts.Received (codes "received")
unfolding fit is_text
received_fits nodes = record { plain = refl; text = refl; upper = itself (codes "received") }

pub unused_fits : (nodes : List (List ℕ)) → Fit nodes parts.Unused (codes "unused")
unfolding fit is_text
unused_fits nodes = record { plain = refl; text = refl; upper = itself (codes "unused") }

pub spent_fits : (nodes : List (List ℕ)) → Fit nodes parts.Spent (codes "spent")
unfolding fit is_text
spent_fits nodes = record { plain = refl; text = refl; upper = itself (codes "spent") }

pub burnt_fits : (nodes : List (List ℕ)) → Fit nodes parts.Burnt (codes "burnt")
unfolding fit is_text
burnt_fits nodes = record { plain = refl; text = refl; upper = itself (codes "burnt") }

-- ---- octets

figure_step : (d c m n : ℕ) → is_figure d ≡ true → m ≤ n → cond (eqb d c) (1 + m) 0 ≤ cond (is_figure c) (1 + n) 0
figure_step d c m n h le = no_more (eqb d c) (is_figure c) m n (λ e. ap is_figure (sym (eqb-true d c e)) ∙ h) le

figures_upper : (t w : Word) → list_all is_figure t ≡ true → common t w ≤ figures_fit w
figures_upper [] w h = omega arith
figures_upper (d ∷ ds) [] h = omega arith
figures_upper (d ∷ ds) (c ∷ cs) h = figure_step d c (common ds cs) (figures_fit cs) (and_left (is_figure d) (list_all is_figure ds) h) (figures_upper ds cs (and_right (is_figure d) (list_all is_figure ds) h))

table_figure : (k : ℕ) → k < 16 → is_figure (slice_index lower_digits k) ≡ true
table_figure zero h = refl
table_figure (suc zero) h = refl
table_figure (suc (suc zero)) h = refl
table_figure (suc (suc (suc zero))) h = refl
table_figure (suc (suc (suc (suc zero)))) h = refl
table_figure (suc (suc (suc (suc (suc zero))))) h = refl
table_figure (suc (suc (suc (suc (suc (suc zero)))))) h = refl
table_figure (suc (suc (suc (suc (suc (suc (suc zero))))))) h = refl
table_figure (suc (suc (suc (suc (suc (suc (suc (suc zero)))))))) h = refl
table_figure (suc (suc (suc (suc (suc (suc (suc (suc (suc zero))))))))) h = refl
table_figure (suc (suc (suc (suc (suc (suc (suc (suc (suc (suc zero)))))))))) h = refl
table_figure (suc (suc (suc (suc (suc (suc (suc (suc (suc (suc (suc zero))))))))))) h = refl
table_figure (suc (suc (suc (suc (suc (suc (suc (suc (suc (suc (suc (suc zero)))))))))))) h = refl
table_figure (suc (suc (suc (suc (suc (suc (suc (suc (suc (suc (suc (suc (suc zero))))))))))))) h = refl
table_figure (suc (suc (suc (suc (suc (suc (suc (suc (suc (suc (suc (suc (suc (suc zero)))))))))))))) h = refl
table_figure (suc (suc (suc (suc (suc (suc (suc (suc (suc (suc (suc (suc (suc (suc (suc zero))))))))))))))) h = refl
table_figure (suc (suc (suc (suc (suc (suc (suc (suc (suc (suc (suc (suc (suc (suc (suc (suc k)))))))))))))))) h = absurd (omega arith)

high : (b : ℕ) → b < 256 → b / 16 < 16
high b h = omega arith

low : (b : ℕ) → b % 16 < 16
low b = omega arith

hex_figures : (bs : List ℕ) → IsBytes bs → list_all is_figure (encode_lower bs) ≡ true
unfolding encode_with
hex_figures [] h = refl
hex_figures (b ∷ bs) h =
    and_both (is_figure (slice_index lower_digits (b / 16))) (is_figure (slice_index lower_digits (b % 16)) && list_all is_figure (encode_lower bs)) (table_figure (b / 16) (high b (h 0)))
    (and_both (is_figure (slice_index lower_digits (b % 16))) (list_all is_figure (encode_lower bs)) (table_figure (b % 16) (low b)) (hex_figures bs (λ i. h (suc i))))

figure_plain : (b : ℕ) → is_figure b ≡ true → is_plain b ≡ true
figure_plain b h = grind arith

figures_plain : (ds : Word) → list_all is_figure ds ≡ true → list_all is_plain ds ≡ true
figures_plain [] h = refl
figures_plain (d ∷ ds) h = and_both (is_plain d) (list_all is_plain ds) (figure_plain d (and_left (is_figure d) (list_all is_figure ds) h)) (figures_plain ds (and_right (is_figure d) (list_all is_figure ds) h))

twice_even : (n m : ℕ) → m ≡ 2 * n → m % 2 ≡ 0
twice_even n m e = omega arith

octets_text : (bs : List ℕ) → IsBytes bs → is_octets (encode_lower bs) ≡ true
octets_text bs h =
    let t = encode_lower bs in
    let all : figures_fit t ≡ length t = let u = figures_upper t t (hex_figures bs h) in let o = own t in let s = prefix_len-le-length is_figure t in omega arith in
    and_both _ _ (eq_test _ _ (twice_even (length bs) (length t) (length-encode_with lower_digits bs))) (eq_test _ _ all)

pub octets_fits : (nodes : List (List ℕ)) (bs : List ℕ) → IsBytes bs → Fit nodes parts.Octets (encode_lower bs)
unfolding fit is_text
octets_fits nodes bs h = record { plain = figures_plain (encode_lower bs) (hex_figures bs h); text = octets_text bs h; upper = λ w. figures_upper (encode_lower bs) w (hex_figures bs h) }

no_word : (b : ℕ) (bs : List ℕ) → not (eqb (length (encode_lower (b ∷ bs))) 0) ≡ true
no_word b bs = some_octets (encode_lower (b ∷ bs)) (let e = length-encode_with lower_digits (b ∷ bs) in omega arith)

either : (a b c : Bool) → b ≡ true → c ≡ true → (a || (b && c)) ≡ true
either true b c h k = refl
either false b c h k = rw (h, k) refl

pub bytes_fits : (nodes : List (List ℕ)) (bs : List ℕ) → IsBytes bs → Fit nodes parts.Bytes (bytes_text bs)
unfolding fit is_text
bytes_fits nodes [] h = record { plain = refl; text = refl; upper = λ w. at_most (common (codes "-") w ∷ figures_fit w ∷ []) zero }
bytes_fits nodes (b ∷ bs) h = record {
  plain = figures_plain (encode_lower (b ∷ bs)) (hex_figures (b ∷ bs) h);
  text = either _ _ _ (no_word b bs) (octets_text (b ∷ bs) h);
  upper = λ w. let u = figures_upper (encode_lower (b ∷ bs)) w (hex_figures (b ∷ bs) h) in let m = at_most (common (codes "-") w ∷ figures_fit w ∷ []) (suc zero) in omega (arith, u, m);
}

byte_small : (t n : ℕ) → IsBytes (tag_octets t n)
byte_small t zero i = omega arith
byte_small t (suc n) zero = omega arith
byte_small t (suc n) (suc i) = byte_small t n i

tag_long : (t : ℕ) → length (tag_text t) ≡ 16
tag_long t = length-encode_with lower_digits (tag_octets t 8)

pub tag_fits : (nodes : List (List ℕ)) (t : ℕ) → Fit nodes parts.Tag (tag_text t)
unfolding fit is_text
tag_fits nodes t = record {
  plain = figures_plain (tag_text t) (hex_figures (tag_octets t 8) (byte_small t 8));
  text = and_both _ _ (eq_test _ _ (tag_long t)) (octets_text (tag_octets t 8) (byte_small t 8));
  upper = λ w. let u = figures_upper (tag_text t) w (hex_figures (tag_octets t 8) (byte_small t 8)) in let s = (common_prefix_len-le (λ a b. eqb a b) (tag_text t) w).0 in let l = tag_long t in omega (arith, u, s, l);
}

-- ---- nodes

node_upper : (nodes : List (List ℕ)) (v : ℕ) (w : Word) → common (unwrap_or (slice_get nodes v) []) w ≤ greatest (map (λ name. common name w) nodes)
node_upper [] v w = omega arith
node_upper (n ∷ ns) zero w = omega arith
node_upper (n ∷ ns) (suc v) w = let h = node_upper ns v w in omega arith

plain_octet : (b : ℕ) → not (is_space b) ≡ true → not (eqb b 10) ≡ true → is_plain b ≡ true
plain_octet b h k = rw (h, k) refl

plain_word : (w : Word) → list_all (λ b. not (is_space b)) w ≡ true → list_all (λ b. not (eqb b 10)) w ≡ true → list_all is_plain w ≡ true
plain_word [] h k = refl
plain_word (b ∷ bs) h k =
    and_both (is_plain b) (list_all is_plain bs) (plain_octet b (and_left _ _ h) (and_left _ _ k)) (plain_word bs (and_right (not (is_space b)) (list_all (λ b. not (is_space b)) bs) h) (and_right (not (eqb b 10)) (list_all (λ b. not (eqb b 10)) bs) k))

pub node_fits : (nodes : List (List ℕ)) (v : ℕ) → HasName nodes v → Fit nodes parts.Node (node_text nodes v)
unfolding fit is_text node_fit
node_fits nodes v h = record { plain = plain_word (node_text nodes v) h.spaceless h.endless; text = rw (node_is nodes v h) refl; upper = node_upper nodes v }
