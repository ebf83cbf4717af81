-- A frame's header says where its payload is, and the lane's bytes remove its mask.
use Rattle.std.proofs.Common.{◌≡◌, ℕ, ◌+◌, ◌^◌, ◌<◌, List, ◌++◌, length, take, drop, refl, sym, ap, ◌∙◌, subst, arith, Some, None, Option}
use Rattle.std.specs.Prelude.{slice_get, is_some, option_map, true, Result, Ok, Err, IfOk}
use Rattle.std.proofs.lemmas.List.{take_at}
use Rattle.std.proofs.lemmas.Nat.{from_be_bytes-to_be_bytes_8}
use Rattle.qkd_base.specs.declared.lane.Lane.{Lane}
use Rattle.net_model.specs.declared.payload.Payload.{Payload}
use Rattle.net_model.specs.Facts.{payload_len}
use Rattle.net_model.specs.Item.{payload}
use Rattle.net_model.specs.Sealing.{Sealing}
use Rattle.net_model.specs.World.{Network, World}
use Rattle.net_model.specs.Frames.{octets_sent, sealed, frame_octets}
use Rattle.frame_codec.specs.Payload.{payload_octets}
use Rattle.hop_frames.specs.Frame.{header, masked, number_of, hash_key, text_of, tag_octets, framed, spell}
use Rattle.hop_frames.specs.Sealing.{hop_sealing}
use Rattle.hop_frames.proofs.Masks.{length-masked, masked_twice, masked_part}
use Rattle.hop_frames.proofs.Octets.{payload_is}
use Rattle.hop_frames.proofs.Openings.{spell_length}
use Rattle.lane_sender.specs.Lane.{LaneForm}
use Rattle.world_state.specs.Passed.{LaneStands, IsTold, IsSeen}
use Rattle.net_world.specs.Other.{octets_or_none, sealed_with}
use Rattle.net_world.specs.Veiled.{veiled_payload, veiled_facts}
use Rattle.net_world.proofs.Apart.{IsSent}
use Rattle.net_world.proofs.Tables.{payload_veiled}
use Rattle.net_world.specs.Frame.{IsFrame, veiled_frame}
use Rattle.source_devices.specs.declared.wire.Wire as Wire

-- ---- the parts of a frame

abbrev parts : Lane → ℕ → ℕ → List ℕ → List ℕ → List ℕ
parts lane offset size middle end = (header lane offset size ++ middle) ++ end

spell_parts : (lane : Lane) (offset : ℕ) (bytes payload : List ℕ) → spell lane offset bytes payload ≡
    parts lane offset (length payload) (masked payload (drop offset bytes)) (tag_octets (hash_key bytes) (text_of lane offset (drop offset bytes) payload) (number_of (drop (length payload) (drop offset bytes))))
unfolding framed
spell_parts lane offset bytes payload = refl

offset_again : (lane : Lane) (offset size : ℕ) (middle end : List ℕ) → offset < 2 ^ 64 → number_of (drop 8 (parts lane offset size middle end)) ≡ offset
offset_again lane offset size middle end small = from_be_bytes-to_be_bytes_8 offset small

pub offset_said : (lane : Lane) (offset : ℕ) (bytes payload : List ℕ) → offset < 2 ^ 64 → number_of (drop 8 (spell lane offset bytes payload)) ≡ offset
offset_said lane offset bytes payload small =
    let end : List ℕ = tag_octets (hash_key bytes) (text_of lane offset (drop offset bytes) payload) (number_of (drop (length payload) (drop offset bytes))) in
    ap (λ (f : List ℕ). number_of (drop 8 f)) (spell_parts lane offset bytes payload) ∙ offset_again lane offset (length payload) (masked payload (drop offset bytes)) end small

middle_again : (lane : Lane) (offset size : ℕ) (middle end : List ℕ) → length middle ≡ size → take size (drop 16 (parts lane offset size middle end)) ≡ middle
middle_again lane offset size middle end m = take_at middle end size m

pub middle_is : (lane : Lane) (offset : ℕ) (bytes payload : List ℕ) (size : ℕ) → size ≡ length payload → take size (drop 16 (spell lane offset bytes payload)) ≡ masked payload (drop offset bytes)
middle_is lane offset bytes payload size is =
    ap (λ (n : ℕ). take n (drop 16 (spell lane offset bytes payload))) is ∙ ap (λ (f : List ℕ). take (length payload) (drop 16 f)) (spell_parts lane offset bytes payload) ∙
    middle_again lane offset (length payload) (masked payload (drop offset bytes))
    (tag_octets (hash_key bytes) (text_of lane offset (drop offset bytes) payload) (number_of (drop (length payload) (drop offset bytes)))) (length-masked payload (drop offset bytes))

-- the mask is removed
unmasked : (payload bytes pads : List ℕ) (offset size : ℕ) → size ≡ length payload → pads ≡ take size (drop offset bytes) → masked (masked payload (drop offset bytes)) pads ≡ payload
unmasked payload bytes pads offset size is part =
    masked_part (masked payload (drop offset bytes)) pads (drop offset bytes) size part (omega (arith, is, length-masked payload (drop offset bytes))) ∙ masked_twice payload (drop offset bytes)

-- ---- what is read of the frame

module _ (len_law : (p : Payload) → length (payload_octets p) ≡ payload_len p) (l : Lane) (bytes : List ℕ) (offset : ℕ) (p : Payload) (frame : List ℕ) (h : IsFrame l bytes offset p frame) where
  pub frame_len : length frame ≡ 24 + payload_len p
  frame_len = ap length h.is ∙ spell_length l bytes offset (payload_octets p) ∙ ap (λ (n : ℕ). 24 + n) (len_law p)

  pub offset_read : number_of (drop 8 frame) ≡ offset
  offset_read = ap (λ (f : List ℕ). number_of (drop 8 f)) h.is ∙ offset_said l offset bytes (payload_octets p) (omega (arith, h.reach, h.size))

  pub payload_read : (size place : ℕ) → size ≡ payload_len p → place ≡ offset → masked (take size (drop 16 frame)) (take size (drop place bytes)) ≡ payload_octets p
  payload_read size place size_is place_is =
      let len : size ≡ length (payload_octets p) = size_is ∙ sym (len_law p) in
      ap (λ (f : List ℕ). masked (take size (drop 16 f)) (take size (drop place bytes))) h.is ∙
      ap (λ (m : List ℕ). masked m (take size (drop place bytes))) (middle_is l offset bytes (payload_octets p) size len) ∙
      ap (λ (o : ℕ). masked (masked (payload_octets p) (drop offset bytes)) (take size (drop o bytes))) place_is ∙
      unmasked (payload_octets p) bytes (take size (drop offset bytes)) offset size len refl

-- ---- each frame of a wire was sealed with hop sealing

sealed_hop : (net : Network) (w : World) (l : Lane) (offset : ℕ) (o : Option Payload) (p : Payload) → net.sealing ≡ hop_sealing → o ≡ Some p →
    sealed net w l offset o ≡ spell l offset (octets_sent net w l) (payload_octets p)
sealed_hop net w l offset o p hop is = ap (sealed net w l offset) is ∙ ap (λ (f : Sealing). f.seal l (octets_sent net w l) offset p) hop

pub frame_sent : (net : Network) (w : World) (l : Lane) (j : ℕ) (bytes octets : List ℕ) → net.sealing ≡ hop_sealing → (s : IsSent net w l j) → bytes ≡ octets_sent net w l →
    octets ≡ frame_octets net w l (slice_get (w.frames l) j) → IsFrame l bytes s.a.offset s.p octets
frame_sent net w l j bytes octets hop s are is =
    subst (λ (b : List ℕ). IsFrame l b s.a.offset s.p octets) (sym are)
    (record {
      formed = payload_is s.p s.seals.formed s.seals.ranged;
      reach = s.seals.reach;
      size = s.seals.size;
      is = is ∙ ap (frame_octets net w l) s.there ∙ sealed_hop net w l s.a.offset (payload w.durable.facts s.a.item) s.p hop s.is;
    })

told_is : (known : Option (List (List ℕ))) (given frame : List ℕ) → is_some known ≡ true → IsTold known given frame → given ≡ frame
told_is None given frame tells told = cc
told_is (Some all) given frame tells told = told

-- what a wire returned for a number is the frame with that number
pub seen_is : {X : Type 0} (wire_says : Wire.Ghosts X) (net : Network) (w : World) (side : LaneForm X) (number n : ℕ) (octets given : List ℕ) → LaneStands wire_says net w side.lane side →
    (s : IsSeen (wire_says.frames side.wire) net w side.lane number n octets) → given ≡ take n octets → given ≡ frame_octets net w side.lane (slice_get (w.frames side.lane) s.frame)
seen_is wire_says net w side number n octets given stands s is = is ∙ told_is (wire_says.frames side.wire) (take n octets) _ stands.wire.tells s.told

pub if_ok : {T E : Type 0} (P Q : T → Type 0) (r : Result T E) → ((x : T) → P x → Q x) → IfOk r P → IfOk r Q
if_ok P Q (Ok x) f h = f x h
if_ok P Q (Err e) f h = h

veiled_octets : (o : Option Payload) (p : Payload) → o ≡ Some p → octets_or_none (option_map veiled_payload o) ≡ payload_octets (veiled_payload p)
veiled_octets o p is = ap (λ (o : Option Payload). octets_or_none (option_map veiled_payload o)) is

pub frame_veiled : (net : Network) (w : World) (l : Lane) (j : ℕ) → (s : IsSent net w l j) → veiled_frame s.a.offset s.p ≡ sealed_with w.durable.facts (veiled_facts w) (slice_get (w.frames l) j)
frame_veiled net w l j s =
    let old : octets_or_none (payload w.durable.facts s.a.item) ≡ payload_octets s.p = ap octets_or_none s.is in
    let new : octets_or_none (payload (veiled_facts w) s.a.item) ≡ payload_octets (veiled_payload s.p) =
    ap octets_or_none (payload_veiled w.durable.facts s.a.item) ∙ veiled_octets (payload w.durable.facts s.a.item) s.p s.is in
    sym (ap (sealed_with w.durable.facts (veiled_facts w)) s.there ∙
    ap (λ (o : List ℕ). record { offset = s.a.offset; old = o; new = octets_or_none (payload (veiled_facts w) s.a.item) }) old ∙
    ap (λ (n : List ℕ). record { offset = s.a.offset; old = payload_octets s.p; new = n }) new)
