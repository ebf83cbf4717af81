-- The definition of opening never refuses a frame for lack of memory.
use Rattle.std.proofs.Common.{◌≡◌, ℕ, ◌+◌, ◌-◌, ◌^◌, Bool, true, false, not, ◌&&◌, ◌||◌, List, length, refl, sym, ap}
use Rattle.std.specs.Prelude.{Result, Ok, Err, ◌==◌, nat_lt, slice_index, if◌then◌else◌}
use Rattle.qkd_base.specs.Lane.{way_number}
use Rattle.qkd_base.specs.declared.lane.Lane.{Lane}
use Rattle.net_model.specs.declared.payload.Payload.{Payload}
use Rattle.net_model.specs.declared.reply.Reply.{Reply}
use Rattle.net_model.specs.declared.reply.Reply.TheVariants as replies
use Rattle.net_model.specs.Sealing.{Opened, Rejected, is_frame_refusal}
use Rattle.frame_codec.specs.Reading.{payload_of}
use Rattle.hop_frames.specs.declared.header.Header.{Header}
use Rattle.hop_frames.specs.declared.opened.Opened.{Opened as OpenedFrame}
use Rattle.hop_frames.specs.declared.open_refusal.OpenRefusal.{OpenRefusal}
use Rattle.hop_frames.specs.declared.open_refusal.OpenRefusal.TheVariants.{NotAFrame, WrongLane, NoBits, BadTag, NotAPayload, Memory}
use Rattle.hop_frames.specs.Opening.{not_a_frame, fields_of, header_of, on_lane, given_tag, computed_tag, tagged, unmasked, opened_at, checked, open_of, ◌>>=◌}
use Rattle.hop_frames.specs.Sealing.{answer_of}

abbrev is_of_the_frame : {A : Type 0} → Result A OpenRefusal → Bool
is_of_the_frame (Err Memory) = false
is_of_the_frame _ = true

test : {A : Type 0} (b : Bool) (x y : Result A OpenRefusal) → is_of_the_frame x ≡ true → is_of_the_frame y ≡ true → is_of_the_frame (if b then x else y) ≡ true
test true x y h k = h
test false x y h k = k

bound : {A B : Type 0} (r : Result A OpenRefusal) (f : A → Result B OpenRefusal) → is_of_the_frame r ≡ true → ((x : A) → is_of_the_frame (f x) ≡ true) → is_of_the_frame (r >>= f) ≡ true
bound (Ok x) f h k = k x
bound (Err (NotAFrame place)) f h k = refl
bound (Err (WrongLane link way)) f h k = refl
bound (Err (NoBits have)) f h k = refl
bound (Err (BadTag given computed)) f h k = refl
bound (Err (NotAPayload place)) f h k = refl
bound (Err Memory) f h k = h

-- The six tests of a header, in order, refuse it only as a frame of the wrong form.
six : (a b c d e f : Bool) (n : ℕ) (h : Header) →
    is_of_the_frame (not_a_frame a n (not_a_frame b 0 (not_a_frame c 3 (not_a_frame d 4 (not_a_frame e 6 (not_a_frame f 8 (Ok h))))))) ≡ true
six true b c d e f n h = refl
six false true c d e f n h = refl
six false false true d e f n h = refl
six false false false true e f n h = refl
six false false false false true f n h = refl
six false false false false false true n h = refl
six false false false false false false n h = refl

header : (frame : List ℕ) → is_of_the_frame (header_of frame) ≡ true
unfolding header_of
header frame =
    let h : Header = fields_of frame in
    six (nat_lt (length frame) 24) (not (slice_index frame 0 == 1)) (not (slice_index frame 3 == 0)) (h.size == 0 || not (length frame == 24 + h.size))
    (not (slice_index frame 6 == 0 && slice_index frame 7 == 0)) (nat_lt h.offset 8 || nat_lt (2 ^ 64 - 1) (h.offset + h.size + 8)) (length frame) h

lane_test : (lane : Lane) (h : Header) → is_of_the_frame (on_lane lane h) ≡ true
unfolding on_lane
lane_test lane h = test {A = Header} (h.link == lane.link && h.way == way_number lane.way) (Ok h) (Err (WrongLane h.link h.way)) refl refl

tag_test : (bytes frame : List ℕ) (h : Header) → is_of_the_frame (tagged bytes frame h) ≡ true
unfolding tagged
tag_test bytes frame h =
    test {A = Header} (nat_lt (length bytes) (h.offset + h.size + 8)) (Err (NoBits (length bytes)))
    (if given_tag frame h == computed_tag bytes frame h then Ok h else Err (BadTag (given_tag frame h) (computed_tag bytes frame h))) refl
    (test {A = Header} (given_tag frame h == computed_tag bytes frame h) (Ok h) (Err (BadTag (given_tag frame h) (computed_tag bytes frame h))) refl refl)

payload_test : (offset : ℕ) (read : Result Payload ℕ) → is_of_the_frame (opened_at offset read) ≡ true
payload_test offset (Ok payload) = refl
payload_test offset (Err place) = refl

all_checked : (lane : Lane) (bytes frame : List ℕ) → is_of_the_frame (checked lane bytes frame) ≡ true
unfolding checked
all_checked lane bytes frame =
    bound (header_of frame) (λ h. on_lane lane h >>= (λ here. tagged bytes frame here)) (header frame)
    (λ h. bound (on_lane lane h) (λ here. tagged bytes frame here) (lane_test lane h) (λ here. tag_test bytes frame here))

opening : (lane : Lane) (bytes frame : List ℕ) → is_of_the_frame (open_of lane bytes frame) ≡ true
unfolding open_of
opening lane bytes frame =
    bound (checked lane bytes frame) (λ h. opened_at h.offset (payload_of (unmasked bytes frame h))) (all_checked lane bytes frame)
    (λ h. payload_test h.offset (payload_of (unmasked bytes frame h)))

rejected : (r : Result OpenedFrame OpenRefusal) (reply : Reply) → is_of_the_frame r ≡ true → answer_of r ≡ Rejected reply → is_frame_refusal reply ≡ true
rejected (Ok opened) reply h e = cc
rejected (Err (NotAFrame place)) reply h e = let is : replies.BadFrame place ≡ reply = cc in ap is_frame_refusal (sym is)
rejected (Err (WrongLane link way)) reply h e = let is : replies.WrongLane link way ≡ reply = cc in ap is_frame_refusal (sym is)
rejected (Err (NoBits have)) reply h e = let is : replies.NoBits have ≡ reply = cc in ap is_frame_refusal (sym is)
rejected (Err (BadTag given computed)) reply h e = let is : replies.BadTag given computed ≡ reply = cc in ap is_frame_refusal (sym is)
rejected (Err (NotAPayload place)) reply h e = cc
rejected (Err Memory) reply h e = cc

pub rejects : (lane : Lane) (bytes frame : List ℕ) (reply : Reply) → answer_of (open_of lane bytes frame) ≡ Rejected reply → is_frame_refusal reply ≡ true
rejects lane bytes frame reply e = rejected (open_of lane bytes frame) reply (opening lane bytes frame) e
