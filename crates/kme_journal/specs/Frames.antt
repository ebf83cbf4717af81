-- What a manager answers to octets that can't be opened as a frame.
use Rattle.std.specs.Prelude.{◌<◌, ◌^◌, Bool, true, false, Result, Ok, Err}
use Rattle.net_model.specs.declared.reply.Reply.{Reply}
use Rattle.net_model.specs.declared.reply.Reply.TheVariants as replies
use Rattle.hop_frames.specs.declared.opened.Opened.{Opened}
use Rattle.hop_frames.specs.declared.open_refusal.OpenRefusal.{OpenRefusal}
use Rattle.hop_frames.specs.declared.open_refusal.OpenRefusal.TheVariants.{NotAFrame, WrongLane, NoBits, BadTag, NotAPayload, Memory}

abbrev pub reply_to : OpenRefusal → Reply
reply_to (NotAFrame place) = replies.BadFrame place
reply_to (WrongLane link way) = replies.WrongLane link way
reply_to (NoBits have) = replies.NoBits have
reply_to (BadTag given computed) = replies.BadTag given computed
reply_to (NotAPayload place) = replies.BadFrame place
reply_to Memory = replies.Memory

-- the place of a fault fits in 32 bits
abbrev pub IsNear : OpenRefusal → Type 0
IsNear (NotAFrame place) = place < 2 ^ 32
IsNear (NotAPayload place) = place < 2 ^ 32
IsNear (WrongLane link way) = Unit {0}
IsNear (NoBits have) = Unit {0}
IsNear (BadTag given computed) = Unit {0}
IsNear Memory = Unit {0}

-- the tag is valid: the frame was opened, or only its payload is invalid
abbrev pub is_match : Result Opened OpenRefusal → Bool
is_match (Ok opened) = true
is_match (Err (NotAPayload place)) = true
is_match (Err (NotAFrame place)) = false
is_match (Err (WrongLane link way)) = false
is_match (Err (NoBits have)) = false
is_match (Err (BadTag given computed)) = false
is_match (Err Memory) = false
