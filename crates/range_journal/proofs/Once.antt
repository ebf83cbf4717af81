-- Octets stand for at most one list of batches.
use Rattle.std.proofs.Common.{◌≡◌, ◌≢◌, ◌≤◌, ◌<◌, ◌⊎◌, inl, inr, ℕ, suc, ◌+◌, ◌^◌, Bool, true, false, List, [], ◌∷◌, ◌++◌, length, take, drop, refl, sym, ◌∙◌, ap, subst, arith, append_assoc, length-append, take-append-drop}
use Rattle.std.specs.Prelude.{slice_index, nat_le, not, ◌&&◌}
use Rattle.std.specs.Int.{w32, to_be_bytes, from_be_bytes}
use Rattle.std.proofs.lemmas.Nat.{from_be_bytes-to_be_bytes_4}
use Rattle.std.proofs.lemmas.Bool.{cases_Bool, cases_eq, false≢true}
use Rattle.std.proofs.lemmas.Bool.Decides.{nat_tests}
use Rattle.std.proofs.lemmas.List.{take_at, drop_at, drop_all, get_or-take}
use Rattle.range_journal.specs.Batches.{spelled, block_of, AreShort, Stands, StandsBefore, IsOldOrDoubt, LacksBody, LacksBatch}
use Rattle.range_journal.specs.Closing.{HasOtherGate}
use Rattle.range_journal.specs.Header.{is_new, is_blank, IsHeaded, HasOtherHead, StandsFor}
use Rattle.range_journal.specs.Opening.{IsRefusedAt}
use Rattle.range_journal.specs.Reading.{IsForeign}
use Rattle.range_journal.proofs.Whole.{one_more_is, short_more}

-- Two lengths with the same four octets are equal.
word_once : (m n : ℕ) → m < 2 ^ 32 → n < 2 ^ 32 → to_be_bytes w32 m ≡ to_be_bytes w32 n → m ≡ n
word_once m n a b e = sym (from_be_bytes-to_be_bytes_4 m a) ∙ ap (from_be_bytes w32) e ∙ from_be_bytes-to_be_bytes_4 n b

-- Equal octets have equal octets behind an equal prefix.
behind_once : (x y z : List ℕ) → x ++ y ≡ x ++ z → y ≡ z
behind_once x y z e = sym (drop_at x y (length x) refl) ∙ ap (λ (l : List ℕ). drop (length x) l) e ∙ drop_at x z (length x) refl

words : (m n : ℕ) (r s : List ℕ) → m < 2 ^ 32 → n < 2 ^ 32 → to_be_bytes w32 m ++ r ≡ to_be_bytes w32 n ++ s → (m ≡ n) × (r ≡ s)
words m n r s a b e = (
  word_once m n a b (sym (take_at (to_be_bytes w32 m) r 4 refl) ∙ ap (λ (l : List ℕ). take 4 l) e ∙ take_at (to_be_bytes w32 n) s 4 refl),
  sym (drop_at (to_be_bytes w32 m) r 4 refl) ∙ ap (λ (l : List ℕ). drop 4 l) e ∙ drop_at (to_be_bytes w32 n) s 4 refl,
)

-- a batch behind its gate (length and body), and the octets behind it
abbrev batch_then : List ℕ → List ℕ → List ℕ
batch_then x r = to_be_bytes w32 (length x) ++ (x ++ r)

peeled : (x y r s : List ℕ) → length x < 2 ^ 32 → length y < 2 ^ 32 → batch_then x r ≡ batch_then y s → (x ≡ y) × (r ≡ s)
peeled x y r s a b e =
    let w = words (length x) (length y) (x ++ r) (y ++ s) a b e in
    let same : x ≡ y = sym (take_at x r (length x) refl) ∙ ap (λ (l : List ℕ). take (length x) l) w.1 ∙ take_at y s (length x) (sym w.0) in
    (same, behind_once x r s (w.1 ∙ ap (λ (l : List ℕ). l ++ s) (sym same)))

spelled_then : (body : List ℕ) (batches : List (List ℕ)) (t : List ℕ) → spelled (body ∷ batches) ++ t ≡ 1 ∷ batch_then body (spelled batches ++ t)
spelled_then body batches t =
    ap (λ (l : List ℕ). 1 ∷ l) (append_assoc (to_be_bytes w32 (length body) ++ body) (spelled batches) t ∙ append_assoc (to_be_bytes w32 (length body)) body (spelled batches ++ t))

first_short : (body : List ℕ) (batches : List (List ℕ)) → AreShort (body ∷ batches) → length body < 2 ^ 32
first_short body batches short = short 0 [] (omega arith)

later_short : (body : List ℕ) (batches : List (List ℕ)) → AreShort (body ∷ batches) → AreShort batches
later_short body batches short = λ k d lt. short (suc k) d (omega (arith, lt))

first_is : (x y : ℕ) (xs ys : List ℕ) → x ∷ xs ≡ y ∷ ys → x ≡ y
first_is x y xs ys e = cc

rest_is : (x y : ℕ) (xs ys : List ℕ) → x ∷ xs ≡ y ∷ ys → xs ≡ ys
rest_is x y xs ys e = cc

-- Two lists of batches are equal if they have the same octets, each up to a gate that isn't open.
same_batches : (a b : List (List ℕ)) (g h : ℕ) (r s : List ℕ) → AreShort a → AreShort b → g ≢ 1 → h ≢ 1 → spelled a ++ g ∷ r ≡ spelled b ++ h ∷ s → a ≡ b
same_batches [] [] g h r s sa sb ng nh e = refl
same_batches [] (y ∷ b) g h r s sa sb ng nh e = absurd (ng (first_is g 1 r _ (e ∙ spelled_then y b (h ∷ s))))
same_batches (x ∷ a) [] g h r s sa sb ng nh e = absurd (nh (first_is h 1 s _ (sym e ∙ spelled_then x a (g ∷ r))))
same_batches (x ∷ a) (y ∷ b) g h r s sa sb ng nh e =
    let p = peeled x y (spelled a ++ g ∷ r) (spelled b ++ h ∷ s) (first_short x a sa) (first_short y b sb)
    (rest_is 1 1 _ _ (sym (spelled_then x a (g ∷ r)) ∙ e ∙ spelled_then y b (h ∷ s))) in
    let later = same_batches a b g h r s (later_short x a sa) (later_short y b sb) ng nh p.1 in
    λ i. p.0 i ∷ later i

-- Two such lists have equal gates behind them, and equal octets behind the gates.
same_gate : (a b : List (List ℕ)) (g h : ℕ) (r s : List ℕ) → AreShort a → AreShort b → g ≢ 1 → h ≢ 1 → spelled a ++ g ∷ r ≡ spelled b ++ h ∷ s → (a ≡ b) × (g ≡ h) × (r ≡ s)
same_gate a b g h r s sa sb ng nh e =
    let same = same_batches a b g h r s sa sb ng nh e in
    let behind : g ∷ r ≡ h ∷ s = behind_once (spelled a) (g ∷ r) (h ∷ s) (e ∙ ap (λ (l : List (List ℕ)). spelled l ++ h ∷ s) (sym same)) in
    (same, first_is g h r s behind, rest_is g h r s behind)

split : (front : List ℕ) (batches : List (List ℕ)) (image : List ℕ) → (s : Stands front batches image) → image ≡ front ++ (spelled batches ++ s.gate ∷ s.rest)
split front batches image s = s.is ∙ append_assoc front (spelled batches) (s.gate ∷ s.rest)

pub stands_once : (front image : List ℕ) (one other : List (List ℕ)) → Stands front one image → Stands front other image → one ≡ other
stands_once front image one other a b =
    same_batches one other a.gate b.gate a.rest b.rest a.short b.short a.shut b.shut
    (behind_once front (spelled one ++ a.gate ∷ a.rest) (spelled other ++ b.gate ∷ b.rest) (sym (split front one image a) ∙ split front other image b))

pub before_stands : (front image : List ℕ) (batches doubt : List (List ℕ)) → StandsBefore front batches doubt image → Stands front batches image
before_stands front image batches doubt s = record { gate = s.gate; rest = s.rest; is = s.is; shut = s.shut; short = s.short }

-- If no batch is in doubt, the gate is closed. Then any batch may be taken to be in doubt.
pub before_any : (front image : List ℕ) (batches doubt : List (List ℕ)) → StandsBefore front batches [] image → StandsBefore front batches doubt image
before_any front image batches doubt s = record { gate = s.gate; rest = s.rest; is = s.is; shut = s.shut; short = s.short; closed = is_closed s.closed }
  where
    is_closed : (s.gate ≡ 0) ⊎ ((batch more : List ℕ) × ([] ≡ batch ∷ []) × (length batch < 2 ^ 32) × (s.rest ≡ block_of batch ++ more))
        → (s.gate ≡ 0) ⊎ ((batch more : List ℕ) × (doubt ≡ batch ∷ []) × (length batch < 2 ^ 32) × (s.rest ≡ block_of batch ++ more))
    is_closed (inl zero) = inl zero
    is_closed (inr d) = absurd (cc d.2)

-- The gate before a batch in doubt is overwritten when the journal is opened.
module _ (front content image : List ℕ) (batches doubt : List (List ℕ)) (s : StandsBefore front batches doubt content) (h : HasOtherGate (length front) content image) where
  whole : content ≡ front ++ (spelled batches ++ s.gate ∷ s.rest)
  whole = s.is ∙ append_assoc front (spelled batches) (s.gate ∷ s.rest)

  front_is : take (length front) content ≡ front
  front_is = ap (λ (l : List ℕ). take (length front) l) whole ∙ take_at front (spelled batches ++ s.gate ∷ s.rest) (length front) refl

  was : content ≡ front ++ (spelled h.batches ++ h.gate ∷ h.rest)
  was = h.was ∙ ap (λ (f : List ℕ). f ++ spelled h.batches ++ h.gate ∷ h.rest) front_is ∙ append_assoc front (spelled h.batches) (h.gate ∷ h.rest)

  same : (batches ≡ h.batches) × (s.gate ≡ h.gate) × (s.rest ≡ h.rest)
  same =
      same_gate batches h.batches s.gate h.gate s.rest h.rest s.short h.short s.shut h.shut
      (behind_once front (spelled batches ++ s.gate ∷ s.rest) (spelled h.batches ++ h.gate ∷ h.rest) (sym whole ∙ was))

  now : image ≡ front ++ spelled batches ++ h.other ∷ s.rest
  now =
      h.is ∙ ap (λ (f : List ℕ). f ++ spelled h.batches ++ h.other ∷ h.rest) front_is
      ∙ ap (λ (l : List (List ℕ)). front ++ spelled l ++ h.other ∷ h.rest) (sym same.0)
      ∙ ap (λ (l : List ℕ). front ++ spelled batches ++ h.other ∷ l) (sym same.2)

  made : (batch more : List ℕ) → doubt ≡ batch ∷ [] → length batch < 2 ^ 32 → s.rest ≡ block_of batch ++ more → IsOldOrDoubt front batches doubt image
  made batch more is small rest = elim (cases_eq h.other 1) [
    | inl open_gate ↦ inr (
      batch,
      is,
      record {
        gate = 0;
        rest = more;
        is = now ∙ ap (λ (g : ℕ). front ++ spelled batches ++ g ∷ s.rest) open_gate ∙ ap (λ (l : List ℕ). front ++ spelled batches ++ 1 ∷ l) rest ∙ one_more_is front batches batch more;
        shut = λ z. absurd (omega (arith, z));
        short = short_more batches batch s.short small;
        closed = inl refl;
      },
    )
    | inr shut ↦ inl (record { gate = h.other; rest = s.rest; is = now; shut = shut; short = s.short; closed = inr (batch, more, is, small, rest) })
  ]

  pub closed_over : IsOldOrDoubt front batches doubt image
  closed_over = by_gate s.closed
    where
      by_gate : (s.gate ≡ 0) ⊎ ((batch more : List ℕ) × (doubt ≡ batch ∷ []) × (length batch < 2 ^ 32) × (s.rest ≡ block_of batch ++ more)) → IsOldOrDoubt front batches doubt image
      by_gate (inl zero) = absurd (h.odd (sym same.1 ∙ zero))
      by_gate (inr d) = made d.0 d.1 d.2 d.3 d.4

pub stands_for_once : (content : List ℕ) (one other : List (List ℕ)) → StandsFor content one → StandsFor content other → one ≡ other
stands_for_once content one other (inl a) (inl b) = a.1 ∙ sym b.1
stands_for_once content one other (inl a) (inr b) = absurd (false≢true (sym b.0 ∙ a.0))
stands_for_once content one other (inr a) (inl b) = absurd (false≢true (sym a.0 ∙ b.0))
stands_for_once content one other (inr a) (inr b) = stands_once (take 16 content) content one other a.2 b.2

-- Octets that are too few for a batch don't begin with a whole batch.
no_whole : (x t r : List ℕ) → length x < 2 ^ 32 → r ≡ batch_then x t → (length r < 4) ⊎ LacksBody r → ⊥
no_whole x t r small e (inl few) = omega (arith, few, ap length e, length-append (to_be_bytes w32 (length x)) (x ++ t), four)
  where
    four : length (to_be_bytes w32 (length x)) ≡ 4
    four = refl
no_whole x t r small e (inr body) =
    let w = words body.size (length x) body.body (x ++ t) body.short small (sym body.is ∙ e) in
    omega (arith, w.0, ap length w.1, length-append x t, body.few)

-- Batches may end at a gate that isn't open, or else without a gate or with a batch cut off. The same octets can't do both.
no_stop : (a b : List (List ℕ)) (g : ℕ) (r u : List ℕ) → AreShort a → AreShort b → g ≢ 1 → (u ≡ []) ⊎ LacksBatch u → spelled a ++ g ∷ r ≡ spelled b ++ u → ⊥
no_stop [] [] g r u sa sb ng (inl none) e = elim_none (e ∙ none)
  where
    elim_none : g ∷ r ≡ [] → ⊥
    elim_none x = cc
no_stop [] [] g r u sa sb ng (inr lacks) e = ng (first_is g 1 r lacks.rest (e ∙ lacks.is))
no_stop [] (y ∷ b) g r u sa sb ng stop e = ng (first_is g 1 r _ (e ∙ spelled_then y b u))
no_stop (x ∷ a) [] g r u sa sb ng (inl none) e = elim_none (sym (spelled_then x a (g ∷ r)) ∙ e ∙ none)
  where
    elim_none : 1 ∷ batch_then x (spelled a ++ g ∷ r) ≡ [] → ⊥
    elim_none h = cc
no_stop (x ∷ a) [] g r u sa sb ng (inr lacks) e =
    no_whole x (spelled a ++ g ∷ r) lacks.rest (first_short x a sa) (rest_is 1 1 _ _ (sym lacks.is ∙ sym e ∙ spelled_then x a (g ∷ r))) lacks.lacks
no_stop (x ∷ a) (y ∷ b) g r u sa sb ng stop e =
    let p = peeled x y (spelled a ++ g ∷ r) (spelled b ++ u) (first_short x a sa) (first_short y b sb)
    (rest_is 1 1 _ _ (sym (spelled_then x a (g ∷ r)) ∙ e ∙ spelled_then y b u)) in
    no_stop a b g r u (later_short x a sa) (later_short y b sb) ng stop p.1

-- If a content stands for batches behind a start, no octet there is foreign.
pub not_foreign : (content : List ℕ) (start place : ℕ) (batches : List (List ℕ)) → Stands (take start content) batches content → IsForeign content start place → ⊥
not_foreign content start place batches s f =
    let back : drop start content ≡ spelled batches ++ s.gate ∷ s.rest =
    behind_once (take start content) (drop start content) (spelled batches ++ s.gate ∷ s.rest) (take-append-drop start content ∙ split (take start content) batches content s) in
    no_stop batches f.batches s.gate s.rest (drop (start + length (spelled f.batches)) content) s.short f.short s.shut (stop f.at) (sym back ∙ f.is)
  where
    stop : ((length content ≤ start + length (spelled f.batches)) × (place ≡ length content)) ⊎ (LacksBatch (drop (start + length (spelled f.batches)) content) × (place ≡ start + length (spelled f.batches)))
        → (drop (start + length (spelled f.batches)) content ≡ []) ⊎ LacksBatch (drop (start + length (spelled f.batches)) content)
    stop (inl past) = inl (drop_all (start + length (spelled f.batches)) content past.0)
    stop (inr lacks) = inr lacks.0

not_other : (content : List ℕ) (place : ℕ) → IsHeaded content → HasOtherHead content place → ⊥
not_other content place is (inl misnamed) = misnamed.other (is.name place misnamed.here)
not_other content place is (inr misversed) = version is.version
  where
    version : (slice_index content 7 ≡ 1) ⊎ (slice_index content 7 ≡ 2) → ⊥
    version (inl one) = misversed.one one
    version (inr two) = misversed.two two

pub not_refused : (content : List ℕ) (batches : List (List ℕ)) (place : ℕ) → StandsFor content batches → IsRefusedAt content place → ⊥
not_refused content batches place (inl blank) r = false≢true (sym r.0 ∙ blank.0)
not_refused content batches place (inr s) r = why r.1
  where
    why : HasOtherHead content place ⊎ (IsHeaded content × IsForeign content 16 place) → ⊥
    why (inl other) = not_other content place s.1 other
    why (inr foreign) = not_foreign content 16 place batches s.2 foreign.1

-- ---- batches behind a header

few_batches : (batches : List (List ℕ)) → length (spelled batches) ≤ 0 → batches ≡ []
few_batches [] few = refl
few_batches (b ∷ batches) few = absurd (omega (arith, few))

front_first : (a b : Bool) → (a && b) ≡ true → a ≡ true
front_first true b e = refl
front_first false b e = absurd cc

pub headed : (front image : List ℕ) → length front ≡ 16 → take 16 image ≡ front → IsHeaded front → IsHeaded image
headed front image long same is = record {
  name = λ k lt. at k (omega (arith, lt)) ∙ is.name k lt;
  version = version is.version;
}
  where
    at : (k : ℕ) → k < 16 → slice_index image k ≡ slice_index front k
    at k lt = sym (get_or-take 16 image k 0 lt) ∙ ap (λ (l : List ℕ). slice_index l k) same

    version : (slice_index front 7 ≡ 1) ⊎ (slice_index front 7 ≡ 2) → (slice_index image 7 ≡ 1) ⊎ (slice_index image 7 ≡ 2)
    version (inl one) = inl (at 7 (omega arith) ∙ one)
    version (inr two) = inr (at 7 (omega arith) ∙ two)

-- The first 16 octets of a content with a journal's head are such a head.
pub headed_front : (content : List ℕ) → IsHeaded content → IsHeaded (take 16 content)
headed_front content is = record {
  name = λ k lt. get_or-take 16 content k 0 (omega (arith, lt)) ∙ is.name k lt;
  version = version is.version;
}
  where
    version : (slice_index content 7 ≡ 1) ⊎ (slice_index content 7 ≡ 2) → (slice_index (take 16 content) 7 ≡ 1) ⊎ (slice_index (take 16 content) 7 ≡ 2)
    version (inl one) = inl (get_or-take 16 content 7 0 (omega arith) ∙ one)
    version (inr two) = inr (get_or-take 16 content 7 0 (omega arith) ∙ two)

pub stand_behind : (front image : List ℕ) (batches : List (List ℕ)) → length front ≡ 16 → IsHeaded front → Stands front batches image → StandsFor image batches
stand_behind front image batches long is s = elim (cases_Bool (is_blank image)) [
  | inl blank ↦
      let le : nat_le (length image) 17 ≡ true = front_first (nat_le (length image) 17) (not (is_new image)) blank in
      let few : length image ≤ 17 = grind (arith, nat_tests) in
      let sum = length-append front (spelled batches ++ s.gate ∷ s.rest) in
      let back = length-append (spelled batches) (s.gate ∷ s.rest) in
      inl (blank, few_batches batches (omega (arith, few, long, sum, back, ap length (split front batches image s))))
  | inr plain ↦
      let same : take 16 image ≡ front = ap (λ (l : List ℕ). take 16 l) (split front batches image s) ∙ take_at front (spelled batches ++ s.gate ∷ s.rest) 16 long in
      inr (plain, headed front image long same is, subst (λ (f : List ℕ). Stands f batches image) (sym same) s)
]
