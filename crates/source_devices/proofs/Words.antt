-- A key stream that is read by whole words, and consecutive reads of it.
use Rattle.std.proofs.Common.{◌≡◌, ℕ, zero, suc, ◌+◌, ◌*◌, ◌/◌, ◌%◌, ◌^◌, ◌<◌, ◌≤◌, List, [], ◌∷◌, ◌++◌, length, take, refl, sym, ap, ap₂, ◌∙◌, arith, add-zero}
use Rattle.std.proofs.lemmas.List.{take_all}
use Rattle.std.specs.Int.{w32, to_le_bytes}
use Rattle.net_model.specs.OctetSequence.{octets_from}
use Rattle.rand_core.specs.Steps.{word_bytes, fill_via_u32, first_bytes}
use Rattle.rand_chacha.specs.ChaCha.{ChaCha, next_word, key_of}
use Rattle.source_devices.specs.KeyStream.{StreamForm, seed, stream_word, octet_of, octet_at, stream_octet, next_octets, moved}

length_from : (octet : ℕ → ℕ) (place n : ℕ) → length (octets_from octet place n) ≡ n
unfolding octets_from
length_from octet place zero = refl
length_from octet place (suc n) = ap suc (length_from octet (place + 1) n)

-- The first m octets and the n octets behind them are the first m + n octets.
joined : (octet : ℕ → ℕ) (place m n : ℕ) → octets_from octet place (m + n) ≡ octets_from octet place m ++ octets_from octet (place + m) n
unfolding octets_from
joined octet place zero n = let e : 0 + n ≡ n = omega arith in rw (e, add-zero) refl
joined octet place (suc m) n =
    let e : suc m + n ≡ suc (m + n) = omega arith in
    let f : place + suc m ≡ place + 1 + m = omega arith in
    rw (e, f) (ap (λ (r : List ℕ). octet place ∷ r) (joined octet (place + 1) m n))

-- Each octet of a word is an octet of the stream.
word_octet : (letter number pos k j : ℕ) → pos < 2 ^ 68 → j < 4 → octet_of (stream_word letter number ((pos + k) % 2 ^ 68)) j ≡ stream_octet letter number (4 * pos + 4 * k + j)
unfolding stream_octet
word_octet letter number pos k j small less =
    let word : (4 * pos + 4 * k + j) % 2 ^ 70 / 4 ≡ (pos + k) % 2 ^ 68 = omega arith in
    let within : (4 * pos + 4 * k + j) % 2 ^ 70 % 4 ≡ j = omega arith in
    ap₂ (λ (w i : ℕ). octet_of (stream_word letter number w) i) (sym word) (sym within)

-- The four octets of a word are consecutive octets of the stream.
four_octets : (letter number pos k : ℕ) → pos < 2 ^ 68 → to_le_bytes w32 (stream_word letter number ((pos + k) % 2 ^ 68)) ≡ octets_from (stream_octet letter number) (4 * pos + 4 * k) 4
unfolding octets_from
four_octets letter number pos k small =
    let more : ℕ → List ℕ → List ℕ = λ x xs. x ∷ xs in
    let octet = stream_octet letter number in
    let is : (j : ℕ) → j < 4 → octet_of (stream_word letter number ((pos + k) % 2 ^ 68)) j ≡ octet (4 * pos + 4 * k + j) = λ j less. word_octet letter number pos k j small less in
    ap₂ more (omega arith ∙ is 0 (omega arith) ∙ ap octet (omega arith))
    (ap₂ more (is 1 (omega arith)) (ap₂ more (is 2 (omega arith) ∙ ap octet (omega arith)) (ap₂ more (is 3 (omega arith) ∙ ap octet (omega arith)) refl)))

-- the generator with this seed, before its word `pos`
abbrev pub at_word : ℕ → ℕ → ℕ → ChaCha
at_word letter number pos = record { key = key_of (seed letter number); stream = 0; word_pos = pos }

no_octets : (octet : ℕ → ℕ) (place : ℕ) → [] ≡ octets_from octet place 0
unfolding octets_from
no_octets octet place = refl

-- k words are 4 * k octets of the stream, and the generator then stands k words further.
words_are : (letter number pos k : ℕ) → pos < 2 ^ 68 →
    word_bytes (to_le_bytes w32) (next_word 10) k (at_word letter number pos) ≡ (octets_from (stream_octet letter number) (4 * pos) (4 * k), at_word letter number ((pos + k) % 2 ^ 68))
unfolding word_bytes
words_are letter number pos zero small =
    ap₂ (λ (xs : List ℕ) (p : ℕ). (xs, at_word letter number p)) (no_octets _ _) (omega arith)
words_are letter number pos (suc k) small =
    let octet = stream_octet letter number in
    let before = words_are letter number pos k small in
    let four = ap (λ (xs : List ℕ). octets_from octet (4 * pos) (4 * k) ++ xs) (four_octets letter number pos k small) ∙ sym (joined octet (4 * pos) (4 * k) 4) in
    let count : 4 * k + 4 ≡ 4 * suc k = omega arith in
    let next : ((pos + k) % 2 ^ 68 + 1) % 2 ^ 68 ≡ (pos + suc k) % 2 ^ 68 = omega arith in
    ap (λ (p : List ℕ × ChaCha). (p.0 ++ to_le_bytes w32 (next_word 10 p.1).0, (next_word 10 p.1).1)) before
    ∙ ap₂ (λ (xs : List ℕ) (p : ℕ). (xs, at_word letter number p)) (four ∙ ap (octets_from octet (4 * pos)) count) next

-- Whole words were read: the n octets are the stream's, and the generator stands at the word behind them. t is the stream s as contracts see it.
pub record HaveRead (s t : StreamForm) (n : ℕ) (given : List ℕ) (after : ChaCha) : Type 0 where
  pub octets : given ≡ next_octets t n
  pub stands : after ≡ at_word s.letter s.number (((s.place + n) % 2 ^ 70 + 3) / 4 % 2 ^ 68)
  pub whole : (s.place + n) % 2 ^ 70 % 4 ≡ 0

pub words_read : (s t : StreamForm) (n : ℕ) (g h : ChaCha) (given : List ℕ) → s ≡ t → s.place < 2 ^ 70 → t.place % 4 ≡ 0 → n % 4 ≡ 0 →
    g ≡ at_word s.letter s.number ((s.place + 3) / 4 % 2 ^ 68) → (given, h) ≡ fill_via_u32 (next_word 10) n g → HaveRead s t n given h
words_read s t n g h given seen low began whole stands filled =
    let begun : s.place % 4 ≡ 0 = ap (λ (u : StreamForm). u.place % 4) seen ∙ began in
    let word = s.place / 4 in
    let first : (s.place + 3) / 4 % 2 ^ 68 ≡ word = omega arith in
    let count : (n + 3) / 4 ≡ n / 4 = omega arith in
    let from : 4 * word ≡ s.place = omega arith in
    let all : 4 * (n / 4) ≡ n = omega arith in
    let last : (word + n / 4) % 2 ^ 68 ≡ ((s.place + n) % 2 ^ 70 + 3) / 4 % 2 ^ 68 = omega arith in
    let words = ap₂ (word_bytes (to_le_bytes w32) (next_word 10)) count (stands ∙ ap (at_word s.letter s.number) first) ∙ words_are s.letter s.number word (n / 4) (omega arith) in
    let is = filled ∙ ap (first_bytes n) words in
    let octets = octets_from (stream_octet s.letter s.number) in
    let fits : length (octets s.place n) ≤ n = omega (arith, length_from (stream_octet s.letter s.number) s.place n) in
    record {
      octets = ap (λ (p : List ℕ × ChaCha). p.0) is ∙ ap (take n) (ap₂ octets from all) ∙ take_all n (octets s.place n) fits ∙ ap (λ (u : StreamForm). next_octets u n) seen;
      stands = ap (λ (p : List ℕ × ChaCha). p.1) is ∙ ap (at_word s.letter s.number) last;
      whole = omega arith;
    }

-- The stream repeats after 2^70 octets: places that are equal modulo 2^70 have equal octets.
again : (letter number place other n : ℕ) → place % 2 ^ 70 ≡ other % 2 ^ 70 → octets_from (stream_octet letter number) place n ≡ octets_from (stream_octet letter number) other n
unfolding octets_from stream_octet
again letter number place other zero same = refl
again letter number place other (suc n) same =
    ap₂ (λ (x : ℕ) (xs : List ℕ). x ∷ xs) (ap (octet_at letter number) same) (again letter number (place + 1) (other + 1) n (omega arith))

-- Two consecutive reads give what one read of both lengths gives.
pub read_on : (s t : StreamForm) (a b : List ℕ) (m n : ℕ) → t ≡ moved s m → a ≡ next_octets s m → b ≡ next_octets t n → a ++ b ≡ next_octets s (m + n)
read_on s t a b m n is first second =
    let same : (s.place + m) % 2 ^ 70 % 2 ^ 70 ≡ (s.place + m) % 2 ^ 70 = omega arith in
    ap₂ (λ (xs ys : List ℕ). xs ++ ys) first (second ∙ ap (λ (u : StreamForm). next_octets u n) is ∙ again s.letter s.number ((s.place + m) % 2 ^ 70) (s.place + m) n same)
    ∙ sym (joined (stream_octet s.letter s.number) s.place m n)
