-- The result of putting a frame on a wire.
use Rattle.std.specs.Prelude.{ℕ, nat_lt, List, take, length, Option, Bool, Some, None, Result, Ok, Err, true, false}
use Rattle.qkd_base.specs.declared.frame_octets.FrameOctets.{FrameOctets}
use Rattle.net_model.specs.declared.repeat.Repeat.{Repeat}
use Rattle.net_model.specs.Window.{room_octets}
use Rattle.source_devices.specs.declared.wire.WireFailed.{WireFailed}
use Rattle.source_devices.specs.Frames.{TakesFrame, TakesAgain}
use Rattle.lane_sender.specs.declared.sent.Sent.{Sent}
use Rattle.lane_sender.specs.declared.sent.Sent.TheVariants.{Placed, Unsent}

-- the result: the wire's answer, with the frame's offset, length and octets
abbrev pub sent : ℕ → ℕ → FrameOctets → Result ℕ WireFailed → Sent
sent offset length frame (Ok number) = Placed number offset length frame
sent offset length frame (Err cause) = Unsent cause offset length frame

abbrev pub answer_of : Sent → Result ℕ WireFailed
answer_of (Placed number offset length frame) = Ok number
answer_of (Unsent cause offset length frame) = Err cause

-- the frame's number on the wire, if the wire took it
abbrev pub number_of : Sent → Option ℕ
number_of (Placed number offset length frame) = Some number
number_of (Unsent cause offset length frame) = None

-- the result for a frame given as a list, which is copied into a buffer of fixed size
abbrev pub sent_frame : ℕ → List ℕ → Result ℕ WireFailed → Sent
sent_frame offset frame answer = sent offset (length frame) (room_octets frame) answer

-- The wire takes the frame with this number once more, or these octets as a new frame.
abbrev pub TakesEither : (has_number : Bool) → Option (List (List ℕ)) → Option (List (List ℕ)) → Result ℕ WireFailed → ℕ → List ℕ → Type 0
TakesEither true old new answer n own = TakesAgain old new answer n
TakesEither false old new answer n own = TakesFrame old new answer own

abbrev pub TakesNumbered : (count : ℕ) → Option (List (List ℕ)) → Option (List (List ℕ)) → Result ℕ WireFailed → Option ℕ → List ℕ → Type 0
TakesNumbered count old new answer None own = TakesFrame old new answer own
TakesNumbered count old new answer (Some n) own = TakesEither (nat_lt n count) old new answer n own

-- A repeat puts the frame with its number on the wire once more, if the wire has one. Otherwise it puts its own octets there.
abbrev pub TakesRepeat : (count : ℕ) → Option (List (List ℕ)) → Option (List (List ℕ)) → Result ℕ WireFailed → Repeat → Type 0
TakesRepeat count old new answer r = TakesNumbered count old new answer r.number (take r.length r.frame.octets)
