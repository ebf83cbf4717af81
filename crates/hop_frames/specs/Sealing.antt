-- Frames in the terms of the network's model: how a payload becomes a frame, and how octets are opened as one.
use Rattle.std.specs.Prelude.{Result, Ok, Err}
use Rattle.net_model.specs.declared.reply.Reply.TheVariants as replies
use Rattle.net_model.specs.Sealing.{Sealing, Opened, Opens, Rejected, Forged}
use Rattle.frame_codec.specs.Payload.{payload_octets}
use Rattle.hop_frames.specs.declared.opened.Opened.{Opened as OpenedFrame}
use Rattle.hop_frames.specs.declared.open_refusal.OpenRefusal.{OpenRefusal}
use Rattle.hop_frames.specs.declared.open_refusal.OpenRefusal.TheVariants.{NotAFrame, WrongLane, NoBits, BadTag, NotAPayload, Memory}
use Rattle.hop_frames.specs.Frame.{spell}
use Rattle.hop_frames.specs.Opening.{open_of}

-- how a manager answers a frame that is opened or refused
abbrev pub answer_of : Result OpenedFrame OpenRefusal → Opened
answer_of (Ok opened) = Opens opened.offset opened.payload
answer_of (Err (NotAFrame place)) = Rejected (replies.BadFrame place)
answer_of (Err (WrongLane link way)) = Rejected (replies.WrongLane link way)
answer_of (Err (NoBits have)) = Rejected (replies.NoBits have)
answer_of (Err (BadTag given computed)) = Rejected (replies.BadTag given computed)
answer_of (Err (NotAPayload place)) = Forged place
answer_of (Err Memory) = Rejected replies.Memory

abbrev pub hop_sealing : Sealing
hop_sealing = record {
  seal = λ lane bytes offset payload. spell lane offset bytes (payload_octets payload);
  unseal = λ lane bytes octets. answer_of (open_of lane bytes octets);
}
