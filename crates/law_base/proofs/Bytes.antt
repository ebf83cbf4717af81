-- Each byte of a lane is an octet of the device's list, at a place that no other byte has.
use Rattle.std.proofs.Common.{◌≡◌, ℕ, zero, suc, ◌+◌, ◌*◌, ◌/◌, ◌%◌, ◌<◌, List, [], ◌∷◌, ◌++◌, length, refl, sym, ◌∙◌, ap, arith, Some, inl, inr}
use Rattle.std.specs.Prelude.{slice_get}
use Rattle.std.specs.List.{AllByRecursion, flat_map}
use Rattle.qkd_base.specs.declared.lane.Way.{Way}
use Rattle.qkd_base.specs.declared.lane.Way.TheVariants.{Up, Down}
use Rattle.qkd_base.specs.LaneBytes.{even_places, odd_places, lane_octets, lane_len}
use Rattle.net_model.specs.OctetSequence.{OctetSequence, octets_from, block_at, first_blocks}
use Rattle.law_base.proofs.Base.{split, slice_get-append_left, slice_get-append_right}
use Rattle.law_base.proofs.Octets.{length-octets_from}
use Rattle.law_base.specs.DevicePlace.{device_place}
use Rattle.law_base.proofs.LaneBlocks.{IsWhole, all_blocks, count_blocks}
use Rattle.law_base.proofs.Lists.{get_prefix, get_last}

-- Lemmas on the blocks of a device.

octet_at : (octet : ℕ → ℕ) (place n k : ℕ) → k < n → slice_get (octets_from octet place n) k ≡ Some (octet (place + k))
unfolding octets_from
octet_at octet place zero k h = absurd (omega arith)
octet_at octet place (suc n) zero h = let e : place ≡ place + 0 = omega arith in ap (λ (p : ℕ). Some (octet p)) e
octet_at octet place (suc n) (suc k) h =
    let e : (place + 1) + k ≡ place + suc k = omega arith in octet_at octet (place + 1) n k (omega arith) ∙ ap (λ (p : ℕ). Some (octet p)) e

block_of : (t : OctetSequence) (n k : ℕ) → k < n → slice_get (first_blocks t n) k ≡ Some (block_at t k)
unfolding first_blocks
block_of t zero k h = absurd (omega arith)
block_of t (suc n) k h = elim (split k n) [
  | inl less ↦ get_prefix (first_blocks t n) (block_at t n ∷ []) k (block_at t k) (block_of t n k less)
  | inr (m, e) ↦
      let is : k ≡ n = omega (arith, e, h) in
      ap (slice_get (first_blocks t n ++ block_at t n ∷ [])) (is ∙ sym (count_blocks t n)) ∙ get_last (first_blocks t n) (block_at t n) ∙ ap (λ (j : ℕ). Some (block_at t j)) (sym is)
]

-- A byte of a list of blocks stands in the block that its offset names.

in_first : (b rest : List ℕ) (r : ℕ) → IsWhole b → r < 1024 → slice_get (b ++ rest) (1024 * 0 + r) ≡ slice_get b r
in_first b rest r whole low =
    let e : 1024 * 0 + r ≡ r = omega arith in ap (slice_get (b ++ rest)) e ∙ slice_get-append_left b rest r (omega (arith, whole, low))

in_later : (b rest : List ℕ) (q r : ℕ) → IsWhole b → slice_get (b ++ rest) (1024 * suc q + r) ≡ slice_get rest (1024 * q + r)
in_later b rest q r whole =
    let e : 1024 * suc q + r ≡ length b + (1024 * q + r) = omega (arith, whole) in ap (slice_get (b ++ rest)) e ∙ slice_get-append_right b rest (1024 * q + r)

up_byte : (bs : List (List ℕ)) (q r : ℕ) (block : List ℕ) → AllByRecursion IsWhole bs → r < 1024 → slice_get bs (2 * q) ≡ Some block →
    slice_get (flat_map (λ b. b) (even_places bs)) (1024 * q + r) ≡ slice_get block r
up_byte [] zero r block whole low at = cc
up_byte [] (suc q) r block whole low at = cc
up_byte (b ∷ []) zero r block whole low at = let is : b ≡ block = cc in in_first b [] r whole.0 low ∙ ap (λ (x : List ℕ). slice_get x r) is
up_byte (b ∷ []) (suc q) r block whole low at =
    let e : 2 * suc q ≡ suc (suc (2 * q)) = omega arith in let none : slice_get (b ∷ []) (suc (suc (2 * q))) ≡ Some block = ap (slice_get (b ∷ [])) (sym e) ∙ at in cc
up_byte (b ∷ c ∷ bs) zero r block whole low at =
    let is : b ≡ block = cc in in_first b (flat_map (λ x. x) (even_places bs)) r whole.0 low ∙ ap (λ (x : List ℕ). slice_get x r) is
up_byte (b ∷ c ∷ bs) (suc q) r block whole low at =
    let e : 2 * suc q ≡ suc (suc (2 * q)) = omega arith in
    in_later b (flat_map (λ x. x) (even_places bs)) q r whole.0 ∙ up_byte bs q r block whole.1.1 low (ap (slice_get (b ∷ c ∷ bs)) (sym e) ∙ at)

down_byte : (bs : List (List ℕ)) (q r : ℕ) (block : List ℕ) → AllByRecursion IsWhole bs → r < 1024 → slice_get bs (2 * q + 1) ≡ Some block →
    slice_get (flat_map (λ b. b) (odd_places bs)) (1024 * q + r) ≡ slice_get block r
down_byte [] zero r block whole low at = cc
down_byte [] (suc q) r block whole low at = let none : slice_get {X = List ℕ} [] (2 * suc q + 1) ≡ Some block = at in cc
down_byte (b ∷ []) zero r block whole low at = cc
down_byte (b ∷ []) (suc q) r block whole low at =
    let e : 2 * suc q + 1 ≡ suc (suc (2 * q + 1)) = omega arith in let none : slice_get (b ∷ []) (suc (suc (2 * q + 1))) ≡ Some block = ap (slice_get (b ∷ [])) (sym e) ∙ at in cc
down_byte (b ∷ c ∷ bs) zero r block whole low at =
    let is : c ≡ block = cc in in_first c (flat_map (λ x. x) (odd_places bs)) r whole.1.0 low ∙ ap (λ (x : List ℕ). slice_get x r) is
down_byte (b ∷ c ∷ bs) (suc q) r block whole low at =
    let e : 2 * suc q + 1 ≡ suc (suc (2 * q + 1)) = omega arith in
    in_later c (flat_map (λ x. x) (odd_places bs)) q r whole.1.0 ∙ down_byte bs q r block whole.1.1 low (ap (slice_get (b ∷ c ∷ bs)) (sym e) ∙ at)

-- The byte of a lane is the device's octet at its place.

pub byte_of : (t : OctetSequence) (way : Way) (n offset : ℕ) → offset < lane_len way n → slice_get (lane_octets way (first_blocks t n)) offset ≡ Some (t.octet (device_place way offset))
unfolding lane_octets
byte_of t Up n offset h =
    let q : ℕ = offset / 1024 in
    let r : ℕ = offset % 1024 in
    let whole = all_blocks IsWhole t (λ k. length-octets_from t.octet (1024 * k) 1024) n in
    let is : offset ≡ 1024 * q + r = omega arith in
    let low : r < 1024 = omega arith in
    ap (slice_get (flat_map (λ b. b) (even_places (first_blocks t n)))) is ∙ up_byte (first_blocks t n) q r (block_at t (2 * q)) whole low (block_of t n (2 * q) (omega arith)) ∙
    octet_at t.octet (1024 * (2 * q)) 1024 r low
byte_of t Down n offset h =
    let q : ℕ = offset / 1024 in
    let r : ℕ = offset % 1024 in
    let whole = all_blocks IsWhole t (λ k. length-octets_from t.octet (1024 * k) 1024) n in
    let is : offset ≡ 1024 * q + r = omega arith in
    let low : r < 1024 = omega arith in
    ap (slice_get (flat_map (λ b. b) (odd_places (first_blocks t n)))) is ∙ down_byte (first_blocks t n) q r (block_at t (2 * q + 1)) whole low (block_of t n (2 * q + 1) (omega arith)) ∙
    octet_at t.octet (1024 * (2 * q + 1)) 1024 r low

pub places_within : (way : Way) (n offset : ℕ) → offset < lane_len way n → device_place way offset < 1024 * n
places_within Up n offset h = omega arith
places_within Down n offset h = omega arith

pub places_differ : (a b : Way) (i j : ℕ) → device_place a i ≡ device_place b j → (a ≡ b) × (i ≡ j)
places_differ Up Up i j h = (refl, omega arith)
places_differ Up Down i j h = absurd (omega arith)
places_differ Down Up i j h = absurd (omega arith)
places_differ Down Down i j h = (refl, omega arith)
