-- What a run leaves: the frames on wires, the batches on disks, and the keys that were handed out.
use Rattle.std.specs.Prelude.{◌≡◌, ℕ, ◌==◌, nat_lt, not, Bool, true, false, List, [], ◌∷◌, ◌++◌, map, filter, count_by, slice_get, Option, Some, None, if◌then◌else◌}
use Rattle.qkd_base.specs.declared.lane.Lane.{Lane}
use Rattle.net_model.specs.declared.fact.Fact.{Fact}
use Rattle.net_model.specs.declared.record.Record.{Record}
use Rattle.net_model.specs.Table.{sae_at}
use Rattle.net_model.specs.World.{Network, World, Journal, InDoubt}
use Rattle.net_model.specs.Needed.{view_of}
use Rattle.net_model.specs.Frames.{frame_octets}
use Rattle.net_model.specs.Fold.{recovered_view, view_batches, view_restarted}
use Rattle.net_model.specs.Action.{Action, Start, TakeBlock, Ask, Deliver, Flip, Forge, Recovers, Resumes, IoFault}
use Rattle.net_model.specs.Step.{step}
use Rattle.net_model.specs.Start.{may_resolve}
use Rattle.net_model.specs.Deliveries.{Delivery, is_of_name}

-- the octets of each frame on a lane's wire
unfoldable pub wire_octets : Network → World → Lane → List (List ℕ)
wire_octets net w l = map (λ j. frame_octets net w l (slice_get (w.frames l) j)) (w.wire l)

-- the same action, but with a fault of the disk
abbrev pub failing : Action → Action
failing (TakeBlock v link environment) = TakeBlock v link IoFault
failing (Ask v event environment) = Ask v event IoFault
failing (Deliver l number environment) = Deliver l number IoFault
failing (Flip l number bit environment) = Flip l number bit IoFault
failing (Forge l octets environment) = Forge l octets IoFault
failing action = action

-- The durable changes of a node's event. They are the batch that would be in doubt if the disk had failed in the event.
abbrev pub changes : Network → World → Action → ℕ → List Record
changes net w a v = ((step net w (failing a)).0.in_doubt v).batch

abbrev pub is_longer : (old new : Journal) → Bool
is_longer old new = nat_lt old.length' new.length'

abbrev pub none_or_one : List Record → List (List Record)
none_or_one [] = []
none_or_one (r ∷ rs) = (r ∷ rs) ∷ []

-- a batch in doubt that a start finds on the disk was made before the start
abbrev pub found : World → Action → ℕ → List (List Record)
found w (Start u (Recovers true)) v = if u == v then none_or_one (w.in_doubt v).batch else []
found w (Start u (Resumes true)) v = if u == v then none_or_one (w.in_doubt v).batch else []
found w a v = []

-- The batch that a node made durable in an action. It is that of an event if the journal grew, or that of the event
-- before a start if the start found it.
abbrev pub batch_made : Network → World → Action → ℕ → List (List Record)
batch_made net w a v =
    if w.up v then (if is_longer (w.journal v) ((step net w a).0.journal v) then none_or_one (changes net w a v) else []) else found w a v

-- the batches of a node's events, in order
unfoldable pub batches_made : Network → ℕ → World → List Action → List (List Record)
batches_made net v w [] = []
batches_made net v w (a ∷ rest) = batch_made net w a v ++ batches_made net v (step net w a).0 rest

abbrev pub with_doubt : Bool → InDoubt → List (List Record) → List (List Record)
with_doubt committed d batches = if committed then batches ++ none_or_one d.batch else batches

-- The batches give the view that the node had when the run began, with the batches of its events since (their fold). A
-- batch in doubt counts among these or not. If a checkpoint was made, the batch counts exactly if the checkpoint has it.
pub record IsFoldOf (net : Network) (begin : World) (run : List Action) (w : World) (v : ℕ) (batches : List (List Record)) : Type 0 where
  pub committed : Bool
  pub may : may_resolve (w.in_doubt v) committed ≡ true
  pub fold : recovered_view net.site v batches ≡ view_restarted (view_batches (view_of net begin v) (with_doubt committed (w.in_doubt v) (batches_made net v begin run)))

-- the application is the master of a key, the source of a chunk, or the master of a group key
abbrev pub is_first_of : Option ℕ → ℕ → Bool
is_first_of None sae = false
is_first_of (Some first) sae = first == sae

abbrev pub first_in : List Fact → List Fact → ℕ → Bool
first_in facts [] sae = false
first_in facts (f ∷ fs) sae = is_first_of (sae_at facts true f) sae

abbrev pub is_to_first : World → Delivery → Bool
is_to_first w d = first_in w.durable.facts (filter (is_of_name d.name) w.durable.facts) d.sae

-- how many keys were handed to masters, and how many to slaves
unfoldable pub to_masters : World → List Delivery → ℕ
to_masters w ds = count_by (is_to_first w) ds

unfoldable pub to_slaves : World → List Delivery → ℕ
to_slaves w ds = count_by (λ d. not (is_to_first w d)) ds
