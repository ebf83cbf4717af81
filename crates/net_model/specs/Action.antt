-- The actions of a network: what may happen, what the outside answers, and the outcome.
use Rattle.std.specs.Prelude.{ℕ, Bool, true, false, List, Option}
use Rattle.qkd_base.specs.declared.lane.Lane.{Lane}
use Rattle.net_model.specs.declared.event.Event.{Event}
use Rattle.net_model.specs.declared.reply.Reply.{Reply}
use Rattle.net_model.specs.declared.reply.Reply.TheVariants.{Memory, NoRandom, Stopped}
use Rattle.net_model.specs.World.{Transmission}

-- what the outside answers in an action: it did all that was asked; memory ran out; or there was a fault of the node's
-- entropy, of its disk or the lane's wire, or of the link's device
pub data Environment : Type 0 where
  Ok : Environment
  OutOfMemory : Environment
  EntropyFault : Environment
  IoFault : Environment
  DeviceFault : Environment

-- What the outside answers to a start. Recovers: the disk was read; `committed` says whether the batch in doubt was on
-- it. Resumes: the disk was read, and had the checkpoint of an earlier start that was stopped, with the batch in doubt
-- or without it. Interrupted: the disk failed; `checkpointed` says whether a checkpoint had been made, and whether it
-- had the batch. NoMemory: memory ran out. Foreign: the disk's first start was stopped while it wrote the header.
pub data Recovery : Type 0 where
  Recovers : (committed : Bool) → Recovery
  Resumes : (committed : Bool) → Recovery
  Interrupted : (checkpointed : Option Bool) → Recovery
  NoMemory : Recovery
  Foreign : Recovery

-- what a crash of a disk leaves of unsynced writes: the old octets, the new ones, or neither
pub data Image : Type 0 where
  Lost : Image
  Kept : Image
  Torn : Image

-- a fault with which a disk is armed: from this call on all calls fail, or only this call fails; calls are counted from
-- 1
pub data Fault : Type 0 where
  Cut : (call : ℕ) (image : Image) → Fault
  Fail : (call : ℕ) → Fault

pub data Action : Type 0 where
  -- the life of a manager
  Start : (node : ℕ) (recovery : Recovery) → Action
  Crash : (node : ℕ) → Action
  Arm : (node : ℕ) (fault : Fault) → Action
  -- a link goes up or down; one end of a link takes the next block of its device
  SetLink : (link : ℕ) (up : Bool) → Action
  TakeBlock : (node link : ℕ) (environment : Environment) → Action
  -- a manager is asked to handle an event
  Ask : (node : ℕ) (event : Event) (environment : Environment) → Action
  -- an order gets the next bytes of its lane; a frame is put on its lane's wire; a manager notes what became of its
  -- frames
  Allocate : (transmission : Transmission) → Action
  Transmit : (lane : Lane) (frame : ℕ) (environment : Environment) → Action
  Complete : (node : ℕ) → Action
  -- the lane's receiver gets a frame of the wire, as it is or with one bit changed, or octets that anybody could have
  -- made
  Deliver : (lane : Lane) (number : ℕ) (environment : Environment) → Action
  Flip : (lane : Lane) (number bit : ℕ) (environment : Environment) → Action
  Forge : (lane : Lane) (octets : List ℕ) (environment : Environment) → Action

pub data Outcome : Type 0 where
  Replies : (reply : Reply) → Outcome
  -- outcomes of a start
  Started : Outcome
  WasUp : Outcome
  StartStopped : Outcome
  StartMemory : Outcome
  ForeignAt : (place : ℕ) → Outcome
  -- outcomes of a crash, of an arming, and of a link that goes up or down
  Crashed : Outcome
  WasDown : Outcome
  Armed : Outcome
  LinkSet : Outcome
  -- outcomes of taking a block
  NoBlock : Outcome
  DeviceFailed : Outcome
  -- outcomes for frames
  Allocated : (offset : ℕ) → Outcome
  Put : (number : ℕ) → Outcome
  Unsent : (for_memory : Bool) → Outcome
  NoFrame : (count : ℕ) → Outcome
  NoBit : (bits : ℕ) → Outcome
  -- octets that nobody put on the wire have a right tag: the run ends
  ForgedMatch : Outcome
  -- the object of the action doesn't exist; this never happens to an enabled action
  Nothing : Outcome

-- each answer of the outside other than Ok is visible in the outcome
abbrev pub is_shown : Environment → Outcome → Bool
is_shown Ok outcome = true
is_shown OutOfMemory (Replies Memory) = true
is_shown OutOfMemory (Unsent true) = true
is_shown OutOfMemory _ = false
is_shown EntropyFault (Replies NoRandom) = true
is_shown EntropyFault _ = false
is_shown IoFault (Replies Stopped) = true
is_shown IoFault (Unsent false) = true
is_shown IoFault _ = false
is_shown DeviceFault DeviceFailed = true
is_shown DeviceFault _ = false

abbrev pub environment_of : Action → Environment
environment_of (TakeBlock v link environment) = environment
environment_of (Ask v event environment) = environment
environment_of (Transmit l j environment) = environment
environment_of (Deliver l number environment) = environment
environment_of (Flip l number bit environment) = environment
environment_of (Forge l octets environment) = environment
environment_of _ = Ok

abbrev pub is_no_memory : Environment → Bool
is_no_memory OutOfMemory = true
is_no_memory _ = false

abbrev pub is_entropy_fault : Environment → Bool
is_entropy_fault EntropyFault = true
is_entropy_fault _ = false

abbrev pub is_io_fault : Environment → Bool
is_io_fault IoFault = true
is_io_fault _ = false

abbrev pub is_device_fault : Environment → Bool
is_device_fault DeviceFault = true
is_device_fault _ = false
