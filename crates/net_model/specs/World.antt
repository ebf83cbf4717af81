-- The world: the state of all managers, lanes, wires and disks of a network at one moment.
use Rattle.std.specs.Prelude.{ℕ, ◌+◌, Bool, true, false, List, [], ◌∷◌, length, Option, None}
use Rattle.qkd_base.specs.Name.{Name}
use Rattle.qkd_base.specs.declared.lane.Lane.{Lane}
use Rattle.net_model.specs.declared.fact.Fact.{Fact}
use Rattle.net_model.specs.declared.record.Record.{Record}
use Rattle.net_model.specs.declared.placing.Placing.{Placing}
use Rattle.net_model.specs.Item.{Item, need}
use Rattle.net_model.specs.Site.{Site}
use Rattle.qkd_base.specs.Lane.{reverse_lane}
use Rattle.qkd_base.specs.LaneBytes.{lane_len}
use Rattle.net_model.specs.OctetSequence.{OctetSequence}
use Rattle.net_model.specs.Sealing.{Sealing}

-- what a network has from the start: its site, its frames, and what the device of each link and the entropy of each
-- node give
pub record Network : Type 0 where
  pub site : Site
  pub sealing : Sealing
  pub device : ℕ → OctetSequence
  pub entropy : ℕ → OctetSequence

-- the owner of a lane byte: the hash key, a frame by its number, or nobody, since it was burnt
pub data Owner : Type 0 where
  HashKey : Owner
  Frame : (number : ℕ) → Owner
  Burnt : Owner

-- where a frame is on its lane, and what it carries
pub record Allocation : Type 0 where
  pub offset : ℕ
  pub item : Item

-- what is sent on a lane; an acknowledgement has the offset at which its frame was received
pub record Transmission : Type 0 where
  pub lane : Lane
  pub item : Item
  pub received_offset : Option ℕ

-- a frame that was sent and may be sent again: its offset, its number on the wire if it has one, its age in ticks,
-- whether it is due, and its octets
pub record Entry : Type 0 where
  pub transmission : Transmission
  pub offset : ℕ
  pub number : Option ℕ
  pub age : ℕ
  pub due : Bool
  pub frame : List ℕ

-- an acknowledgement that was not sent yet: the lane and the offset at which its frame was received, and its fact's
-- name
pub record PendingAck : Type 0 where
  pub lane : Lane
  pub offset : ℕ
  pub name : Name

-- what one life of a manager keeps beside its lanes
pub record Volatile : Type 0 where
  pub window : List Entry
  pub pending_acks : List PendingAck
  -- the orders whose placing isn't noted yet
  pub awaiting : List Transmission

abbrev pub no_volatile : Volatile
no_volatile = record { window = []; pending_acks = []; awaiting = [] }

-- What records of batches and claims change. Each family is a field of its own, so an update of one doesn't touch the
-- others.
pub record Durable : Type 0 where
  -- for each lane: the blocks taken at its sender, the owners of its first bytes, and the end below which bytes may be
  -- claimed
  pub blocks : Lane → ℕ
  pub own : Lane → List Owner
  pub lease : Lane → ℕ
  -- for the whole network: all facts, and which application got which key
  pub facts : List Fact
  pub handed : List (Name × ℕ)
  -- for each node: the names that it knows, those that the next node acknowledged, and its closed ends of streams
  pub known : ℕ → List Name
  pub acked : ℕ → List Name
  pub closed : ℕ → List (Name × ℕ)

-- A node's journal: its length, which is 0 before the first start; the place and the generation of the live area;
-- whether a checkpoint ever moved this area; and the version of its records.
pub record Journal : Type 0 where
  pub length' : ℕ
  pub start : ℕ
  pub generation : ℕ
  pub moved : Bool
  pub version : ℕ

abbrev pub no_journal : Journal
no_journal = record { length' = 0; start = 0; generation = 0; moved = false; version = 2 }

-- The batch of a stopped event, which may or may not be durable. If a stopped start made a checkpoint, `checkpointed`
-- says whether this has the batch.
pub record InDoubt : Type 0 where
  pub batch : List Record
  pub checkpointed : Option Bool

abbrev pub no_doubt : InDoubt
no_doubt = record { batch = []; checkpointed = None }

-- a frame that may be put on its lane's wire: a new one or a repeat
pub record Outgoing : Type 0 where
  pub frame : ℕ
  pub transmission : Transmission
  pub fresh : Bool

pub record World : Type 0 where
  pub durable : Durable
  pub link_up : ℕ → Bool
  -- for each lane: all frames claimed so far, the numbers of those on the wire, the orders not yet claimed, the frames
  -- that may be put, and the lease at the sender's last start
  pub frames : Lane → List Allocation
  pub wire : Lane → List ℕ
  pub unclaimed : Lane → List Transmission
  pub outgoing : Lane → List Outgoing
  pub recovered : Lane → ℕ
  -- for each node: whether its manager is up, how many octets its entropy gave, its journal, whether a start was
  -- stopped and reported no checkpoint since the last start that succeeded, the batch in doubt, the state of its life,
  -- and the placings that it has not noted yet
  pub up : ℕ → Bool
  pub drawn : ℕ → ℕ
  pub journal : ℕ → Journal
  pub interrupted : ℕ → Bool
  pub in_doubt : ℕ → InDoubt
  pub volatile : ℕ → Volatile
  pub placings : ℕ → List Placing

-- how many bytes of a lane its sender has received, and how many its receiver has
abbrev pub received : Durable → Lane → ℕ
received d l = lane_len l.way (d.blocks l)

abbrev pub received_there : Durable → Lane → ℕ
received_there d l = lane_len l.way (d.blocks (reverse_lane l))

-- how many lane bytes these transmissions need
abbrev pub needs : List Fact → List Transmission → ℕ
needs facts [] = 0
needs facts (t ∷ ts) = need facts t.item + needs facts ts

-- how many bytes of a lane are claimed or ordered
abbrev pub planned : World → Lane → ℕ
planned w l = length (w.durable.own l) + needs w.durable.facts (w.unclaimed l)

-- the world before any start: nothing was received or made, all managers are down, and all links are up
unfoldable pub first : World
first =
    record {
      durable = record {
        blocks = λ l. 0;
        own = λ l. [];
        lease = λ l. 0;
        facts = [];
        handed = [];
        known = λ v. [];
        acked = λ v. [];
        closed = λ v. [];
      };
      link_up = λ l. true;
      frames = λ l. [];
      wire = λ l. [];
      unclaimed = λ l. [];
      outgoing = λ l. [];
      recovered = λ l. 0;
      up = λ v. false;
      drawn = λ v. 0;
      journal = λ v. no_journal;
      interrupted = λ v. false;
      in_doubt = λ v. no_doubt;
      volatile = λ v. no_volatile;
      placings = λ v. [];
    }
