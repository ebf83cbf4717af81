-- The bytes of a lane: their number follows from the number of blocks, and more blocks only append bytes.
use Rattle.std.proofs.Common.{◌≡◌, ℕ, zero, suc, ◌+◌, ◌-◌, ◌*◌, ◌<◌, ◌≤◌, List, [], ◌∷◌, ◌++◌, length, refl, sym, ◌∙◌, ap, arith, length-append, append-nil, append_assoc}
use Rattle.std.specs.Prelude.{nat_lt}
use Rattle.std.specs.List.{AllByRecursion, flat_map}
use Rattle.std.proofs.lemmas.List.Folds.{list_all-append}
use Rattle.std.proofs.lemmas.List.Concat.{flat_map-append}
use Rattle.std.proofs.lemmas.Bool.{lt-ltb}
use Rattle.qkd_base.specs.declared.lane.Way.{Way}
use Rattle.qkd_base.specs.declared.lane.Way.TheVariants.{Up, Down}
use Rattle.qkd_base.specs.LaneBytes.{even_places, odd_places, way_blocks, lane_octets, lane_len}
use Rattle.net_model.specs.OctetSequence.{OctetSequence, octets_from, block_at, first_blocks}
use Rattle.net_model.specs.Ranges.{IsOctets}
use Rattle.net_model.specs.Premises.{IsOctetSequence}
use Rattle.law_base.proofs.Base.{and_both}
use Rattle.law_base.proofs.Octets.{from_octets, length-octets_from}

-- Lemmas on the blocks of a device.

pub count_blocks : (t : OctetSequence) (n : ℕ) → length (first_blocks t n) ≡ n
unfolding first_blocks
count_blocks t zero = refl
count_blocks t (suc n) = omega (arith, length-append (first_blocks t n) (block_at t n ∷ []), count_blocks t n)

all_push : (P : List ℕ → Type 0) (bs : List (List ℕ)) (b : List ℕ) → AllByRecursion P bs → P b → AllByRecursion P (bs ++ b ∷ [])
all_push P [] b all p = (p, tt)
all_push P (x ∷ bs) b all p = (all.0, all_push P bs b all.1 p)

pub all_blocks : (P : List ℕ → Type 0) (t : OctetSequence) → ((n : ℕ) → P (block_at t n)) → (n : ℕ) → AllByRecursion P (first_blocks t n)
unfolding first_blocks
all_blocks P t h zero = tt
all_blocks P t h (suc n) = all_push P (first_blocks t n) (block_at t n) (all_blocks P t h n) (h n)

first_split : (t : OctetSequence) (a k : ℕ) → (rest : List (List ℕ)) × (first_blocks t (k + a) ≡ first_blocks t a ++ rest)
unfolding first_blocks
first_split t a zero = let e : 0 + a ≡ a = omega arith in ([], ap (first_blocks t) e ∙ sym (append-nil (first_blocks t a)))
first_split t a (suc k) =
    let e : suc k + a ≡ suc (k + a) = omega arith in
    let r = first_split t a k in
    let next : List (List ℕ) = block_at t (k + a) ∷ [] in
    (r.0 ++ next, ap (first_blocks t) e ∙ ap (λ (bs : List (List ℕ)). bs ++ next) r.1 ∙ append_assoc (first_blocks t a) r.0 next)

-- Lemmas on the blocks of one lane.

even_split : (bs cs : List (List ℕ)) → (rest : List (List ℕ)) × (even_places (bs ++ cs) ≡ even_places bs ++ rest)
even_split [] cs = (even_places cs, refl)
even_split (b ∷ []) [] = ([], refl)
even_split (b ∷ []) (c ∷ cs) = (even_places cs, refl)
even_split (b ∷ c ∷ bs) cs = let r = even_split bs cs in (r.0, ap (λ (l : List (List ℕ)). b ∷ l) r.1)

odd_split : (bs cs : List (List ℕ)) → (rest : List (List ℕ)) × (odd_places (bs ++ cs) ≡ odd_places bs ++ rest)
odd_split [] cs = (odd_places cs, refl)
odd_split (b ∷ []) [] = ([], refl)
odd_split (b ∷ []) (c ∷ cs) = (c ∷ odd_places cs, refl)
odd_split (b ∷ c ∷ bs) cs = let r = odd_split bs cs in (r.0, ap (λ (l : List (List ℕ)). c ∷ l) r.1)

way_split : (way : Way) (bs cs : List (List ℕ)) → (rest : List (List ℕ)) × (way_blocks way (bs ++ cs) ≡ way_blocks way bs ++ rest)
way_split Up bs cs = even_split bs cs
way_split Down bs cs = odd_split bs cs

lane_split : (way : Way) (bs cs : List (List ℕ)) → (more : List ℕ) × (lane_octets way (bs ++ cs) ≡ lane_octets way bs ++ more)
unfolding lane_octets
lane_split way bs cs =
    let r = way_split way bs cs in
    (flat_map (λ b. b) r.0, ap (flat_map (λ (b : List ℕ). b)) r.1 ∙ flat_map-append (λ b. b) (way_blocks way bs) r.0)

pub lane_grows : (way : Way) (t : OctetSequence) (a b : ℕ) → a ≤ b → (more : List ℕ) × (lane_octets way (first_blocks t b) ≡ lane_octets way (first_blocks t a) ++ more)
lane_grows way t a b le =
    let e : b ≡ (b - a) + a = omega arith in
    let r = first_split t a (b - a) in
    let s = lane_split way (first_blocks t a) r.0 in
    (s.0, ap (λ (n : ℕ). lane_octets way (first_blocks t n)) e ∙ ap (lane_octets way) r.1 ∙ s.1)

-- Lemmas on the lengths of blocks and lanes.

abbrev pub IsWhole : List ℕ → Type 0
IsWhole b = length b ≡ 1024

length_up : (bs : List (List ℕ)) → AllByRecursion IsWhole bs → length (lane_octets Up bs) ≡ lane_len Up (length bs)
unfolding lane_octets
length_up [] w = refl
length_up (b ∷ []) w = omega (arith, length-append b [], w.0)
length_up (b ∷ c ∷ bs) w =
    let rest : length (lane_octets Up bs) ≡ lane_len Up (length bs) = length_up bs w.1.1 in
    omega (arith, length-append b (lane_octets Up bs), w.0, rest)

length_down : (bs : List (List ℕ)) → AllByRecursion IsWhole bs → length (lane_octets Down bs) ≡ lane_len Down (length bs)
unfolding lane_octets
length_down [] w = refl
length_down (b ∷ []) w = refl
length_down (b ∷ c ∷ bs) w =
    let rest : length (lane_octets Down bs) ≡ lane_len Down (length bs) = length_down bs w.1.1 in
    omega (arith, length-append c (lane_octets Down bs), w.1.0, rest)

way_length : (way : Way) (bs : List (List ℕ)) → AllByRecursion IsWhole bs → length (lane_octets way bs) ≡ lane_len way (length bs)
way_length Up bs w = length_up bs w
way_length Down bs w = length_down bs w

pub lane_length : (way : Way) (t : OctetSequence) (n : ℕ) → length (lane_octets way (first_blocks t n)) ≡ lane_len way n
lane_length way t n =
    way_length way (first_blocks t n) (all_blocks IsWhole t (λ k. length-octets_from t.octet (1024 * k) 1024) n) ∙ ap (lane_len way) (count_blocks t n)

-- A lane has at most half of a link's 1,024 blocks.
pub lane_small : (way : Way) (n : ℕ) → n ≤ 1024 → lane_len way n ≤ 524288
lane_small Up n h = omega arith
lane_small Down n h = omega arith

-- All bytes of a lane are octets.

octets_both : (xs ys : List ℕ) → IsOctets xs → IsOctets ys → IsOctets (xs ++ ys)
octets_both xs ys h k = list_all-append (λ b. nat_lt b 256) xs ys ∙ and_both _ _ h k

even_octets : (bs : List (List ℕ)) → AllByRecursion IsOctets bs → IsOctets (flat_map (λ b. b) (even_places bs))
even_octets [] h = refl
even_octets (b ∷ []) h = octets_both b [] h.0 refl
even_octets (b ∷ c ∷ bs) h = octets_both b _ h.0 (even_octets bs h.1.1)

odd_octets : (bs : List (List ℕ)) → AllByRecursion IsOctets bs → IsOctets (flat_map (λ b. b) (odd_places bs))
odd_octets [] h = refl
odd_octets (b ∷ []) h = refl
odd_octets (b ∷ c ∷ bs) h = octets_both c _ h.1.0 (odd_octets bs h.1.1)

pub lane_are_octets : (way : Way) (t : OctetSequence) → IsOctetSequence t → (n : ℕ) → IsOctets (lane_octets way (first_blocks t n))
unfolding lane_octets
lane_are_octets Up t h n = even_octets (first_blocks t n) (all_blocks IsOctets t (λ k. from_octets t.octet h (1024 * k) 1024) n)
lane_are_octets Down t h n = odd_octets (first_blocks t n) (all_blocks IsOctets t (λ k. from_octets t.octet h (1024 * k) 1024) n)
