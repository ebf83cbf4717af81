-- The place of a fault in a frame fits in 32 bits.
use Rattle.std.proofs.Common.{◌≡◌, ℕ, suc, inl, inr, lit≤, ◌+◌, ◌-◌, ◌^◌, ◌<◌, ◌≤◌, Bool, true, false, not, ◌&&◌, ◌||◌, List, [], ◌∷◌, length, take, drop, get_or, refl, sym, ap, subst, ◌∙◌, arith, lit<}
use Rattle.std.specs.Prelude.{Result, Ok, Err, IfErr, ◌==◌, nat_lt, slice_index, if◌then◌else◌}
use Rattle.std.proofs.lemmas.Bool.Decides.{nat_tests}
use Rattle.std.proofs.lemmas.List.{length-take, get_or-take, get_or-drop}
use Rattle.qkd_base.specs.Lane.{way_number}
use Rattle.qkd_base.specs.declared.lane.Lane.{Lane}
use Rattle.net_model.specs.declared.payload.Payload.{Payload}
use Rattle.frame_codec.specs.Reading.{payload_of, payload_left, place_in}
use Rattle.hop_frames.specs.declared.header.Header.{Header}
use Rattle.hop_frames.specs.declared.opened.Opened.{Opened as OpenedFrame}
use Rattle.hop_frames.specs.declared.open_refusal.OpenRefusal.{OpenRefusal}
use Rattle.hop_frames.specs.declared.open_refusal.OpenRefusal.TheVariants.{WrongLane, NoBits, BadTag}
use Rattle.hop_frames.specs.Frame.{masked}
use Rattle.hop_frames.specs.Opening.{not_a_frame, fields_of, header_of, on_lane, given_tag, computed_tag, tagged, unmasked, opened_at, checked, open_of, Opens, ◌>>=◌}
use Rattle.kme_journal.specs.Frames.{IsNear}

-- a valid header has a size of 16 bits
abbrev Fine : Result Header OpenRefusal → Type 0
Fine (Ok h) = h.size < 2 ^ 16
Fine (Err why) = IsNear why

abbrev Near : Result OpenedFrame OpenRefusal → Type 0
Near (Ok opened) = Unit {0}
Near (Err why) = IsNear why

test : (b : Bool) (x y : Result Header OpenRefusal) → Fine x → Fine y → Fine (if b then x else y)
test true x y p q = p
test false x y p q = q

bound : (r : Result Header OpenRefusal) (f : Header → Result Header OpenRefusal) → Fine r → ((h : Header) → h.size < 2 ^ 16 → Fine (f h)) → Fine (r >>= f)
bound (Ok h) f p q = q h p
bound (Err why) f p q = p

refuse : (b : Bool) (place : ℕ) (r : Result Header OpenRefusal) → place < 2 ^ 32 → Fine r → Fine (not_a_frame b place r)
refuse true place r near fine = near
refuse false place r near fine = fine

few : (n : ℕ) → nat_lt n 24 ≡ true → n < 24
few n h = grind (arith, nat_tests)

-- the six tests of a header
six : (n : ℕ) (b c d e f : Bool) (h : Header) → h.size < 2 ^ 16 →
    Fine (not_a_frame (nat_lt n 24) n (not_a_frame b 0 (not_a_frame c 3 (not_a_frame d 4 (not_a_frame e 6 (not_a_frame f 8 (Ok h)))))))
six n b c d e f h small =
    let sixth : Result Header OpenRefusal = not_a_frame f 8 (Ok h) in
    let fifth : Result Header OpenRefusal = not_a_frame e 6 sixth in
    let fourth : Result Header OpenRefusal = not_a_frame d 4 fifth in
    let third : Result Header OpenRefusal = not_a_frame c 3 fourth in
    let second : Result Header OpenRefusal = not_a_frame b 0 third in
    let fine : Fine second =
    refuse b 0 third (lit< tt) (refuse c 3 fourth (lit< tt) (refuse d 4 fifth (lit< tt) (refuse e 6 sixth (lit< tt) (refuse f 8 (Ok h) (lit< tt) small)))) in
    elim (nat_lt n 24) as (λ t. nat_lt n 24 ≡ t → Fine (not_a_frame t n second)) [
      | true ↦ λ is. let less : n < 24 = few n is in let most : 24 < 2 ^ 32 = lit< tt in let near : n < 2 ^ 32 = omega (arith, less, most) in near
      | false ↦ λ is. fine
    ] refl

header : (frame : List ℕ) → (fields_of frame).size < 2 ^ 16 → Fine (header_of frame)
unfolding header_of
header frame small =
    let h : Header = fields_of frame in
    six (length frame) (not (slice_index frame 0 == 1)) (not (slice_index frame 3 == 0)) (h.size == 0 || not (length frame == 24 + h.size))
    (not (slice_index frame 6 == 0 && slice_index frame 7 == 0)) (nat_lt h.offset 8 || nat_lt (2 ^ 64 - 1) (h.offset + h.size + 8)) h small

lane_test : (lane : Lane) (h : Header) → h.size < 2 ^ 16 → Fine (on_lane lane h)
unfolding on_lane
lane_test lane h small = test (h.link == lane.link && h.way == way_number lane.way) (Ok h) (Err (WrongLane h.link h.way)) small tt

tag_test : (bytes frame : List ℕ) (h : Header) → h.size < 2 ^ 16 → Fine (tagged bytes frame h)
unfolding tagged
tag_test bytes frame h small =
    test (nat_lt (length bytes) (h.offset + h.size + 8)) (Err (NoBits (length bytes)))
    (if given_tag frame h == computed_tag bytes frame h then Ok h else Err (BadTag (given_tag frame h) (computed_tag bytes frame h))) tt
    (test (given_tag frame h == computed_tag bytes frame h) (Ok h) (Err (BadTag (given_tag frame h) (computed_tag bytes frame h))) small tt)

all_checked : (lane : Lane) (bytes frame : List ℕ) → (fields_of frame).size < 2 ^ 16 → Fine (checked lane bytes frame)
unfolding checked
all_checked lane bytes frame small =
    bound (header_of frame) (λ h. on_lane lane h >>= (λ here. tagged bytes frame here)) (header frame small)
    (λ h p. bound (on_lane lane h) (λ here. tagged bytes frame here) (lane_test lane h p) (λ here q. tag_test bytes frame here q))

masked_length : (payload pads : List ℕ) → length (masked payload pads) ≡ length payload
masked_length [] pads = refl
masked_length (p ∷ ps) [] = ap (λ (n : ℕ). suc n) (masked_length ps [])
masked_length (p ∷ ps) (l ∷ ls) = ap (λ (n : ℕ). suc n) (masked_length ps ls)

placed : (offset total : ℕ) (read : Result Payload ℕ) → total < 2 ^ 32 → Near (opened_at offset (place_in total read))
placed offset total (Ok payload) small = tt
placed offset total (Err left) small = let near : total - left < 2 ^ 32 = omega arith in near

payload : (offset : ℕ) (octets : List ℕ) → length octets < 2 ^ 32 → Near (opened_at offset (payload_of octets))
unfolding payload_of
payload offset octets small = placed offset (length octets) (payload_left octets) small

opening : (bytes frame : List ℕ) (h : Header) → h.size < 2 ^ 16 → Near (opened_at h.offset (payload_of (unmasked bytes frame h)))
opening bytes frame h small =
    let cut : List ℕ = take h.size (drop 16 frame) in
    let short : length cut ≤ h.size = omega (arith, length-take h.size (drop 16 frame)) in
    let same : length (unmasked bytes frame h) ≡ length cut = masked_length cut (drop h.offset bytes) in
    let most : 2 ^ 16 ≤ 2 ^ 32 = lit≤ tt in
    payload h.offset (unmasked bytes frame h) (omega (arith, small, short, same, most))

followed : (r : Result Header OpenRefusal) (f : Header → Result OpenedFrame OpenRefusal) → Fine r → ((h : Header) → h.size < 2 ^ 16 → Near (f h)) → Near (r >>= f)
followed (Ok h) f p q = q h p
followed (Err why) f p q = p

all_near : (lane : Lane) (bytes frame : List ℕ) → (fields_of frame).size < 2 ^ 16 → Near (open_of lane bytes frame)
unfolding open_of
all_near lane bytes frame small =
    followed (checked lane bytes frame) (λ h. opened_at h.offset (payload_of (unmasked bytes frame h))) (all_checked lane bytes frame small) (opening bytes frame)

if_err : (r : Result OpenedFrame OpenRefusal) → Near r → IfErr r IsNear
if_err (Ok opened) near = tt
if_err (Err why) near = near

near_of : (result read : Result OpenedFrame OpenRefusal) → Opens result read → Near read → IfErr result IsNear
near_of result read (inl same) near = subst (λ (r : Result OpenedFrame OpenRefusal). IfErr r IsNear) (sym same) (if_err read near)
near_of result read (inr wants) near = subst (λ (r : Result OpenedFrame OpenRefusal). IfErr r IsNear) (sym wants.0) tt

octet : (frame : List ℕ) → ((i : ℕ) → get_or frame i 0 < 256) → (i : ℕ) → i < 2 → get_or (take 2 (drop 4 frame)) i 0 < 256
octet frame ok i within = subst (λ (n : ℕ). n < 256) (sym (get_or-take 2 (drop 4 frame) i 0 within ∙ get_or-drop 4 frame i 0)) (ok (4 + i))

size : (frame : List ℕ) → ((i : ℕ) → get_or frame i 0 < 256) → (fields_of frame).size < 2 ^ 16
size frame ok = omega (arith, octet frame ok 0 (lit< tt), octet frame ok 1 (lit< tt))

pub opens_near : (lane : Lane) (bytes frame : List ℕ) (result : Result OpenedFrame OpenRefusal) → ((i : ℕ) → get_or frame i 0 < 256) → Opens result (open_of lane bytes frame) → IfErr result IsNear
opens_near lane bytes frame result ok opens = near_of result (open_of lane bytes frame) opens (all_near lane bytes frame (size frame ok))
