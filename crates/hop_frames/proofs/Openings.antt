-- A sealed frame opens as its payload.
use Rattle.std.proofs.Common.{◌≡◌, ℕ, ◌+◌, ◌-◌, ◌^◌, ◌<◌, ◌≤◌, true, false, eqb, ltb, List, ◌++◌, length, drop, length-append, Ok, Err, refl, sym, ap, ◌∙◌, arith}
use Rattle.std.specs.Int.{w16, w64, to_be_bytes, from_be_bytes}
use Rattle.std.proofs.lemmas.Bool.{le-ltb}
use Rattle.std.proofs.lemmas.List.{take_at, drop_at, drop-drop}
use Rattle.std.proofs.lemmas.Nat.{from_be_bytes-to_be_bytes_2, from_be_bytes-to_be_bytes_8}
use Rattle.qkd_base.specs.Lane.{way_number}
use Rattle.qkd_base.specs.declared.lane.Lane.{Lane}
use Rattle.net_model.specs.declared.payload.Payload.{Payload}
use Rattle.frame_codec.specs.Reading.{payload_of}
use Rattle.hop_frames.specs.declared.header.Header.{Header}
use Rattle.hop_frames.specs.declared.open_refusal.OpenRefusal.TheVariants.{NoBits}
use Rattle.hop_frames.specs.Frame.{header, masked, number_of, hash_key, text_of, tag_octets, framed, spell}
use Rattle.hop_frames.specs.Opening.{◌>>=◌, fields_of, tested, header_of, on_lane, given_tag, computed_tag, tagged, unmasked, checked, opened_at, open_of}
use Rattle.hop_frames.proofs.Masks.{length-masked, masked_twice}

-- the header of a frame on the lane
abbrev head : Lane → ℕ → ℕ → Header
head lane offset size = record { link = lane.link; way = way_number lane.way; size = size; offset = offset }

-- a frame, from its masked payload and the octets of its tag
abbrev parts : Lane → ℕ → ℕ → List ℕ → List ℕ → List ℕ
parts lane offset size middle end = (header lane offset size ++ middle) ++ end

parts_length : (lane : Lane) (offset size : ℕ) (middle end : List ℕ) → length middle ≡ size → length end ≡ 8 → length (parts lane offset size middle end) ≡ 24 + size
parts_length lane offset size middle end m e = omega (arith, length-append middle end, m, e)

tests_pass : (h : Header) → 0 < h.size → 8 ≤ h.offset → h.offset + h.size + 8 < 2 ^ 64 → tested (24 + h.size) 1 0 0 0 h ≡ Ok h
tests_pass h pos low high =
    let a : ltb (24 + h.size) 24 ≡ false = le-ltb _ _ (omega arith) in
    let b : eqb h.size 0 ≡ false = grind (arith, pos) in
    let c : eqb (24 + h.size) (24 + h.size) ≡ true = grind arith in
    let d : ltb h.offset 8 ≡ false = le-ltb _ _ low in
    let e : ltb (2 ^ 64 - 1) (h.offset + h.size + 8) ≡ false = le-ltb _ _ (omega (arith, high)) in
    rw (a, b, c, d, e) refl

header_again : (lane : Lane) (offset size : ℕ) (middle end : List ℕ) → length middle ≡ size → length end ≡ 8 → 0 < size → size < 2 ^ 16 → 8 ≤ offset → offset + size + 8 < 2 ^ 64
    → header_of (parts lane offset size middle end) ≡ Ok (head lane offset size)
unfolding header_of
header_again lane offset size middle end m e pos small low high =
    let size_is : from_be_bytes w16 (to_be_bytes w16 size) ≡ size = from_be_bytes-to_be_bytes_2 size small in
    let place_is : from_be_bytes w64 (to_be_bytes w64 offset) ≡ offset = from_be_bytes-to_be_bytes_8 offset (omega (arith, high)) in
    let fields_are : fields_of (parts lane offset size middle end) ≡ head lane offset size =
    ap (λ (n : ℕ). record { link = lane.link; way = way_number lane.way; size = n; offset = from_be_bytes w64 (to_be_bytes w64 offset) }) size_is
    ∙ ap (λ (o : ℕ). record { link = lane.link; way = way_number lane.way; size = size; offset = o }) place_is in
    ap (λ (h : Header). tested (length (parts lane offset size middle end)) 1 0 0 0 h) fields_are
    ∙ ap (λ (n : ℕ). tested n 1 0 0 0 (head lane offset size)) (parts_length lane offset size middle end m e)
    ∙ tests_pass (head lane offset size) pos low high

same_number : (n : ℕ) → eqb n n ≡ true
same_number n = grind arith

lane_again : (lane : Lane) (offset size : ℕ) → on_lane lane (head lane offset size) ≡ Ok (head lane offset size)
unfolding on_lane
lane_again lane offset size = rw (same_number lane.link, same_number (way_number lane.way)) refl

text_length : (lane : Lane) (offset size : ℕ) (middle : List ℕ) → length middle ≡ size → length (header lane offset size ++ middle) ≡ 16 + size
text_length lane offset size middle m = omega (arith, m)

-- The tag in a sealed frame is the one that the lane's bytes give.
tag_again : (lane : Lane) (bytes : List ℕ) (offset size : ℕ) (middle : List ℕ) → length middle ≡ size → offset + size + 8 ≤ length bytes
    → tagged bytes (parts lane offset size middle (tag_octets (hash_key bytes) (header lane offset size ++ middle) (number_of (drop (offset + size) bytes)))) (head lane offset size) ≡ Ok (head lane offset size)
unfolding tagged
tag_again lane bytes offset size middle m reach =
    let text = header lane offset size ++ middle in
    let end = tag_octets (hash_key bytes) text (number_of (drop (offset + size) bytes)) in
    let enough : ltb (length bytes) (offset + size + 8) ≡ false = le-ltb _ _ reach in
    let given : given_tag (text ++ end) (head lane offset size) ≡ number_of end = ap number_of (drop_at text end (16 + size) (text_length lane offset size middle m)) in
    let computed : computed_tag bytes (text ++ end) (head lane offset size) ≡ number_of end =
    ap (λ (t : List ℕ). number_of (tag_octets (hash_key bytes) t (number_of (drop (offset + size) bytes)))) (take_at text end (16 + size) (text_length lane offset size middle m)) in
    let same : eqb (given_tag (text ++ end) (head lane offset size)) (computed_tag bytes (text ++ end) (head lane offset size)) ≡ true =
    ap (λ (n : ℕ). eqb n (computed_tag bytes (text ++ end) (head lane offset size))) (given ∙ sym computed) ∙ same_number _ in
    rw (enough, same) refl

few_again : (lane : Lane) (bytes frame : List ℕ) (offset size : ℕ) → length bytes < offset + size + 8 → tagged bytes frame (head lane offset size) ≡ Err (NoBits (length bytes))
unfolding tagged
few_again lane bytes frame offset size lt =
    let few : ltb (length bytes) (offset + size + 8) ≡ true = grind (arith, lt) in
    rw few refl

-- ---- frames

-- A sealed frame is its header, its masked payload and its tag.
spell_parts : (lane : Lane) (offset : ℕ) (bytes payload : List ℕ) → spell lane offset bytes payload ≡ parts lane offset (length payload) (masked payload (drop offset bytes)) (tag_octets (hash_key bytes) (text_of lane offset (drop offset bytes) payload) (number_of (drop (length payload) (drop offset bytes))))
unfolding framed
spell_parts lane offset bytes payload = refl

drops : (a b : ℕ) (bytes : List ℕ) → drop b (drop a bytes) ≡ drop (a + b) bytes
drops a b bytes = drop-drop b a bytes

-- A sealed frame passes all tests but the payload's.
checked_again : (lane : Lane) (bytes : List ℕ) (offset : ℕ) (payload : List ℕ) → 0 < length payload → length payload < 2 ^ 16 → 8 ≤ offset → offset + length payload + 8 ≤ length bytes → length bytes < 2 ^ 63
    → checked lane bytes (spell lane offset bytes payload) ≡ Ok (head lane offset (length payload))
unfolding checked
checked_again lane bytes offset payload pos small low reach room =
    let m : length (masked payload (drop offset bytes)) ≡ length payload = length-masked payload (drop offset bytes) in
    let text = text_of lane offset (drop offset bytes) payload in
    let whole : spell lane offset bytes payload ≡ parts lane offset (length payload) (masked payload (drop offset bytes)) (tag_octets (hash_key bytes) text (number_of (drop (offset + length payload) bytes))) =
    spell_parts lane offset bytes payload ∙ ap (λ (l : List ℕ). text ++ tag_octets (hash_key bytes) text (number_of l)) (drops offset (length payload) bytes) in
    let end = tag_octets (hash_key bytes) text (number_of (drop (offset + length payload) bytes)) in
    ap (λ (f : List ℕ). header_of f >>= λ h. on_lane lane h >>= λ here. tagged bytes f here) whole
    ∙ rw (header_again lane offset (length payload) (masked payload (drop offset bytes)) end m refl pos small low (omega (arith, reach, room)), lane_again lane offset (length payload), tag_again lane bytes offset (length payload) (masked payload (drop offset bytes)) m reach) refl

checked_few : (lane : Lane) (bytes all : List ℕ) (offset : ℕ) (payload : List ℕ) → 0 < length payload → length payload < 2 ^ 16 → 8 ≤ offset → offset + length payload + 8 < 2 ^ 63 → length bytes < offset + length payload + 8
    → checked lane bytes (spell lane offset all payload) ≡ Err (NoBits (length bytes))
unfolding checked
checked_few lane bytes all offset payload pos small low high few =
    let m : length (masked payload (drop offset all)) ≡ length payload = length-masked payload (drop offset all) in
    let end = tag_octets (hash_key all) (text_of lane offset (drop offset all) payload) (number_of (drop (length payload) (drop offset all))) in
    ap (λ (f : List ℕ). header_of f >>= λ h. on_lane lane h >>= λ here. tagged bytes f here) (spell_parts lane offset all payload)
    ∙ rw (header_again lane offset (length payload) (masked payload (drop offset all)) end m refl pos small low (omega (arith, high)), lane_again lane offset (length payload), few_again lane bytes (parts lane offset (length payload) (masked payload (drop offset all)) end) offset (length payload) few) refl

unmasked_again : (lane : Lane) (bytes : List ℕ) (offset : ℕ) (payload : List ℕ) → unmasked bytes (spell lane offset bytes payload) (head lane offset (length payload)) ≡ payload
unfolding framed
unmasked_again lane bytes offset payload =
    let m : length (masked payload (drop offset bytes)) ≡ length payload = length-masked payload (drop offset bytes) in
    let end = tag_octets (hash_key bytes) (text_of lane offset (drop offset bytes) payload) (number_of (drop (length payload) (drop offset bytes))) in
    ap (λ (l : List ℕ). masked l (drop offset bytes)) (take_at (masked payload (drop offset bytes)) end (length payload) m) ∙ masked_twice payload (drop offset bytes)

pub spell_length : (lane : Lane) (bytes : List ℕ) (offset : ℕ) (payload : List ℕ) → length (spell lane offset bytes payload) ≡ 24 + length payload
spell_length lane bytes offset payload =
    ap length (spell_parts lane offset bytes payload) ∙ parts_length lane offset (length payload) (masked payload (drop offset bytes)) _ (length-masked payload (drop offset bytes)) refl

pub opened_again : (lane : Lane) (bytes : List ℕ) (offset : ℕ) (p : Payload) (octets : List ℕ) → 0 < length octets → length octets < 2 ^ 16 → 8 ≤ offset → offset + length octets + 8 ≤ length bytes → length bytes < 2 ^ 63 → payload_of octets ≡ Ok p
    → open_of lane bytes (spell lane offset bytes octets) ≡ Ok (record { offset = offset; payload = p })
unfolding open_of
opened_again lane bytes offset p octets pos small low reach room read =
    ap (λ r. r >>= λ h. opened_at h.offset (payload_of (unmasked bytes (spell lane offset bytes octets) h))) (checked_again lane bytes offset octets pos small low reach room)
    ∙ ap (λ (l : List ℕ). opened_at offset (payload_of l)) (unmasked_again lane bytes offset octets)
    ∙ ap (opened_at offset) read

pub few_opened : (lane : Lane) (bytes all : List ℕ) (offset : ℕ) (octets : List ℕ) → 0 < length octets → length octets < 2 ^ 16 → 8 ≤ offset → offset + length octets + 8 < 2 ^ 63 → length bytes < offset + length octets + 8
    → open_of lane bytes (spell lane offset all octets) ≡ Err (NoBits (length bytes))
unfolding open_of
few_opened lane bytes all offset octets pos small low high few =
    ap (λ r. r >>= λ h. opened_at h.offset (payload_of (unmasked bytes (spell lane offset all octets) h))) (checked_few lane bytes all offset octets pos small low high few)
