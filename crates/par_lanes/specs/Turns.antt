-- What a turn does to a lane.
use Rattle.std.specs.Prelude.{◌≡◌, ℕ, ◌+◌, ◌≤◌, List, take, drop, Option, Result, IsErrOf, MatchResult}
use Rattle.qkd_base.specs.Faults.{Rose}
use Rattle.source_devices.specs.declared.wire.WireFailed.{WireFailed}
use Rattle.source_devices.specs.declared.wire.WireFailed.TheVariants.{Fault}
use Rattle.source_devices.specs.Frames.{TakesFrame}
use Rattle.hop_frames.specs.Frame.{hash_key}
use Rattle.lane_shares.specs.declared.shares.Shares.{Shares}
use Rattle.lane_shares.specs.Names.{lane_cap}
use Rattle.lane_sender.specs.declared.claimed.Claimed.{Claimed}
use Rattle.lane_sender.specs.Lane.{LaneForm, claimed, reaching}
use Rattle.lane_sender.specs.Sending.{TakesNumbered}
use Rattle.par_lanes.specs.declared.ask.LaneAsk.{LaneAsk}
use Rattle.par_lanes.specs.declared.ask.LaneAsk.TheVariants.{Claim, Put, Again}
use Rattle.par_lanes.specs.declared.ask.LaneAnswer.{LaneAnswer}
use Rattle.par_lanes.specs.declared.ask.LaneAnswer.TheVariants as answers
use Rattle.par_lanes.specs.declared.charter.LaneCharter.{LaneCharter}
use Rattle.source_devices.specs.declared.wire.Wire as Wire

-- The next bytes were claimed, and are handed out unspent with the lane's hash key. Together with the bytes used before, they don't exceed the bytes
-- that may be issued. The wire stays as it was.
pub record Claims {X : Type 0} (cap : ℕ) (old new : LaneForm X) (need : ℕ) (c : Claimed) : Type 0 where
  pub range : c.range ≡ record { start = old.ledger.used; len = need }
  pub key : c.key ≡ hash_key old.bytes
  pub pads : take need c.pads.octets ≡ take need (drop old.ledger.used old.bytes)
  pub capped : old.ledger.used + need ≤ cap
  pub after : new ≡ record old { ledger = claimed need (reaching need old.ledger) }

module _ {X : Type 0} (wire_says : Wire.Ghosts X) where
  -- A frame was put on the wire or refused. No byte is claimed.
  pub record Puts (takes : Option (List (List ℕ)) → Option (List (List ℕ)) → Result ℕ WireFailed → Type 0) (old new : LaneForm X) (answer : Result ℕ WireFailed) : Type 0 where
    pub lane : (new.lane ≡ old.lane) × (new.bytes ≡ old.bytes) × (new.ledger ≡ old.ledger)
    pub taken : takes (wire_says.frames old.wire) (wire_says.frames new.wire) answer
    pub number : MatchResult answer (λ n. (n ≡ wire_says.counted old.wire) × (wire_says.counted new.wire ≡ wire_says.counted old.wire + 1)) (λ _. wire_says.counted new.wire ≡ wire_says.counted old.wire)
    pub cause : IsErrOf answer Fault → Rose (wire_says.faults old.wire) (wire_says.faults new.wire)
    pub later : wire_says.faults old.wire ≤ wire_says.faults new.wire
    pub calm : (IsErrOf answer Fault → ⊥) → wire_says.faults new.wire ≡ wire_says.faults old.wire

  -- A claim is answered with a range, a frame with the wire's answer.
  abbrev pub Turns : (cap : ℕ) → LaneForm X → LaneAsk → LaneAnswer → LaneForm X → Type 0
  Turns cap old (Claim need grant) (answers.Claimed claimed) new = Claims cap old new need claimed
  Turns cap old (Put frame length) (answers.Placed answer) new = Puts (λ f f' a. TakesFrame f f' a (take length frame.octets)) old new answer
  Turns cap old (Again number frame length) (answers.Placed answer) new = Puts (λ f f' a. TakesNumbered (wire_says.counted old.wire) f f' a number (take length frame.octets)) old new answer
  Turns cap old _ _ new = ⊥

-- the charter of a desk that has this lane and these shares
abbrev pub desk_charter : {D X : Type 0} → (D → LaneForm X) → (D → Shares) → D → LaneCharter
desk_charter side shares d = record { lane = (side d).lane; bytes = (side d).bytes; shares = shares d }

-- A turn of a desk is a turn of its lane, under the cap of what may be issued.
abbrev pub DeskTurns : {D X : Type 0} → (wire_says : Wire.Ghosts X) → (D → LaneForm X) → (D → Shares) → D → LaneAsk → LaneAnswer → D → Type 0
DeskTurns wire_says side shares d ask answer n = Turns wire_says (lane_cap (shares d)) (side d) ask answer (side n)
