-- Each byte of a lane, found by its block and its place in the block.
use Rattle.std.proofs.Common.{◌≡◌, ℕ, zero, suc, ◌+◌, ◌-◌, ◌*◌, ◌/◌, ◌%◌, ◌<◌, ◌≤◌, List, [], ◌∷◌, ◌++◌, length, get_or, set, take, drop, refl, sym, ap, ◌∙◌, arith, length-append}
use Rattle.std.specs.List.{AllByRecursion}
use Rattle.std.proofs.lemmas.List.{get_or_append_left, get_or-append_right, get_or-drop, take_more, take_more_set, length-drop}
use Rattle.qkd_base.specs.declared.lane.Way.{Way}
use Rattle.qkd_base.specs.declared.lane.Way.TheVariants.{Up, Down}
use Rattle.qkd_base.specs.LaneBytes.{lane_octets, lane_len}
use Rattle.link_segments.specs.Lanes.{first_place, AreBlocks}

abbrev Whole : List (List ℕ) → Type 0
Whole bs = AllByRecursion (λ b. length b ≡ 1024) bs

-- two more blocks give each lane one more
half_more : (n : ℕ) → 1024 * ((2 + n) / 2) ≡ 1024 + 1024 * (n / 2)
half_more n = omega arith

len_up : (bs : List (List ℕ)) → Whole bs → length (lane_octets Up bs) ≡ lane_len Up (length bs)
unfolding lane_octets
len_up [] w = refl
len_up (b ∷ []) w = omega (arith, length-append b [], w.0)
len_up (b ∷ c ∷ bs) w =
    let ih : length (lane_octets Up bs) ≡ lane_len Up (length bs) = len_up bs w.1.1 in
    omega (arith, length-append b (lane_octets Up bs), w.0, ih)

len_down : (bs : List (List ℕ)) → Whole bs → length (lane_octets Down bs) ≡ lane_len Down (length bs)
unfolding lane_octets
len_down [] w = refl
len_down (b ∷ []) w = refl
len_down (b ∷ c ∷ bs) w =
    let ih : length (lane_octets Down bs) ≡ lane_len Down (length bs) = len_down bs w.1.1 in
    omega (arith, length-append c (lane_octets Down bs), w.1.0, ih)

pub lane_length : (way : Way) (bs : List (List ℕ)) → AreBlocks bs → length (lane_octets way bs) ≡ lane_len way (length bs)
lane_length Up bs w = len_up bs w.whole
lane_length Down bs w = len_down bs w.whole

-- block q of a lane comes after the lane's first q blocks, so it begins at byte 1024 * q
at_up : (bs : List (List ℕ)) (q r : ℕ) → Whole bs → r < 1024 → 2 * q < length bs → get_or (lane_octets Up bs) (1024 * q + r) 0 ≡ get_or (get_or bs (2 * q) []) r 0
unfolding lane_octets
at_up [] q r w small lt = absurd (omega arith)
at_up (b ∷ []) q r w small lt =
    let none : q ≡ 0 = omega arith in
    rw none (get_or_append_left b [] 0 (1024 * 0 + r) (omega (arith, w.0)) ∙ ap (λ (i : ℕ). get_or b i 0) (omega arith))
at_up (b ∷ c ∷ bs) zero r w small lt = get_or_append_left b (lane_octets Up bs) 0 (1024 * 0 + r) (omega (arith, w.0)) ∙ ap (λ (i : ℕ). get_or b i 0) (omega arith)
at_up (b ∷ c ∷ bs) (suc q) r w small lt =
    let after : 1024 * suc q + r - 1024 ≡ 1024 * q + r = omega arith in
    let double : 2 * suc q ≡ suc (suc (2 * q)) = omega arith in
    rw double (get_or-append_right b (lane_octets Up bs) 1024 (1024 * suc q + r) 0 w.0 (omega arith) ∙ ap (λ (i : ℕ). get_or (lane_octets Up bs) i 0) after ∙ at_up bs q r w.1.1 small (omega arith))

at_down : (bs : List (List ℕ)) (q r : ℕ) → Whole bs → r < 1024 → 2 * q + 1 < length bs → get_or (lane_octets Down bs) (1024 * q + r) 0 ≡ get_or (get_or bs (2 * q + 1) []) r 0
unfolding lane_octets
at_down [] q r w small lt = absurd (omega arith)
at_down (b ∷ []) q r w small lt = absurd (omega arith)
at_down (b ∷ c ∷ bs) zero r w small lt =
    get_or_append_left c (lane_octets Down bs) 0 (1024 * 0 + r) (omega (arith, w.1.0)) ∙ ap (λ (i : ℕ). get_or c i 0) (omega arith)
at_down (b ∷ c ∷ bs) (suc q) r w small lt =
    let after : 1024 * suc q + r - 1024 ≡ 1024 * q + r = omega arith in
    let double : 2 * suc q + 1 ≡ suc (suc (2 * q + 1)) = omega arith in
    rw double (get_or-append_right c (lane_octets Down bs) 1024 (1024 * suc q + r) 0 w.1.0 (omega arith) ∙ ap (λ (i : ℕ). get_or (lane_octets Down bs) i 0) after ∙ at_down bs q r w.1.1 small (omega arith))

pub lane_at : (way : Way) (bs : List (List ℕ)) (q r : ℕ) → AreBlocks bs → r < 1024 → 2 * q + first_place way < length bs → get_or (lane_octets way bs) (1024 * q + r) 0 ≡ get_or (get_or bs (2 * q + first_place way) []) r 0
lane_at Up bs q r w small lt =
    let e : 2 * q + 0 ≡ 2 * q = omega arith in
    rw e (at_up bs q r w.whole small (omega arith))
lane_at Down bs q r w small lt = at_down bs q r w.whole small lt

-- each received byte of a lane lies in a received block
pub block_there : (way : Way) (bs : List (List ℕ)) (place : ℕ) → AreBlocks bs → place < length (lane_octets way bs) → 2 * (place / 1024) + first_place way < length bs
block_there Up bs place w lt =
    let len : length (lane_octets Up bs) ≡ lane_len Up (length bs) = lane_length Up bs w in
    omega (arith, len)
block_there Down bs place w lt =
    let len : length (lane_octets Down bs) ≡ lane_len Down (length bs) = lane_length Down bs w in
    omega (arith, len)

pub lane_small : (way : Way) (bs : List (List ℕ)) → AreBlocks bs → length (lane_octets way bs) ≤ 524288
lane_small Up bs w = let len : length (lane_octets Up bs) ≡ lane_len Up (length bs) = lane_length Up bs w in omega (arith, len, w.number)
lane_small Down bs w = let len : length (lane_octets Down bs) ≡ lane_len Down (length bs) = lane_length Down bs w in omega (arith, len, w.number)

pub received_len : (way : Way) (bs : List (List ℕ)) (first : ℕ) → AreBlocks bs → first ≡ first_place way → 1024 * ((length bs + 1 - first) / 2) ≡ length (lane_octets way bs)
received_len Up bs first w e = let len : length (lane_octets Up bs) ≡ lane_len Up (length bs) = lane_length Up bs w in omega (arith, len, e)
received_len Down bs first w e = let len : length (lane_octets Down bs) ≡ lane_len Down (length bs) = lane_length Down bs w in omega (arith, len, e)

-- one more byte of a lane is copied
pub copy_more : (way : Way) (bs : List (List ℕ)) (into : List ℕ) (off i first : ℕ) → AreBlocks bs → first ≡ first_place way → i < length into → off + i < length (lane_octets way bs) → take i into ≡ take i (drop off (lane_octets way bs))
    → take (i + 1) (set into i (get_or (get_or bs (2 * ((off + i) / 1024) + first) []) ((off + i) % 1024) 0)) ≡ take (i + 1) (drop off (lane_octets way bs))
copy_more way bs into off i first w e lt reach so_far =
    let there = block_there way bs (off + i) w reach in
    let split : 1024 * ((off + i) / 1024) + (off + i) % 1024 ≡ off + i = omega arith in
    let octet : get_or (lane_octets way bs) (off + i) 0 ≡ get_or (get_or bs (2 * ((off + i) / 1024) + first) []) ((off + i) % 1024) 0 =
    ap (λ (k : ℕ). get_or (lane_octets way bs) k 0) (sym split) ∙ lane_at way bs ((off + i) / 1024) ((off + i) % 1024) w (omega arith) there
    ∙ ap (λ (f : ℕ). get_or (get_or bs (2 * ((off + i) / 1024) + f) []) ((off + i) % 1024) 0) (sym e) in
    take_more_set into i _ lt ∙ ap (λ (l : List ℕ). l ++ get_or (get_or bs (2 * ((off + i) / 1024) + first) []) ((off + i) % 1024) 0 ∷ []) so_far
    ∙ ap (λ (x : ℕ). take i (drop off (lane_octets way bs)) ++ x ∷ []) (sym octet ∙ sym (get_or-drop off (lane_octets way bs) i 0))
    ∙ sym (take_more (drop off (lane_octets way bs)) i 0 (omega (arith, length-drop off (lane_octets way bs), reach)))
