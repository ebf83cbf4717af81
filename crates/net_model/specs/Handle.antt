-- How a manager's decision changes the world. The event is refused, memory runs out, the journal is full, the entropy
-- fails, the manager is stopped, or the effect is committed.
use Rattle.std.specs.Prelude.{ℕ, suc, ◌+◌, ◌*◌, ◌^◌, ◌==◌, ◌&&◌, ◌||◌, not, nat_lt, Bool, true, false, List, [], ◌∷◌, ◌++◌, map, filter, None, if◌then◌else◌}
use Rattle.std.specs.List.{list_all}
use Rattle.qkd_base.specs.Lane.{lane_eq}
use Rattle.qkd_base.specs.Family.{number_set}
use Rattle.qkd_base.specs.declared.lane.Lane.{Lane}
use Rattle.net_model.specs.declared.record.Record.{Record}
use Rattle.net_model.specs.declared.fact.Fact.TheVariants.{Chunk}
use Rattle.net_model.specs.declared.record.Record.TheVariants.{Learned}
use Rattle.net_model.specs.declared.event.Event.{Event}
use Rattle.net_model.specs.declared.event.Event.TheVariants.{Block}
use Rattle.net_model.specs.declared.reply.Reply.TheVariants.{Down, Stopped, Memory, JournalFull, NoRandom, LinkFull}
use Rattle.net_model.specs.Table.{name_of}
use Rattle.net_model.specs.Site.{Site, outgoing_lane}
use Rattle.net_model.specs.OctetSequence.{has_octets, octets_from, block_at}
use Rattle.net_model.specs.World.{Network, World, Allocation, Transmission, Entry, Outgoing, no_volatile}
use Rattle.net_model.specs.Needed.{view_of}
use Rattle.net_model.specs.Records.{replay}
use Rattle.net_model.specs.Journal.{added_len, is_nil, journal_limit, extended}
use Rattle.net_model.specs.Decision.{Decision, Refuses, Does, Effect}
use Rattle.net_model.specs.Decide.{decide, random_need}
use Rattle.net_model.specs.Action.{Environment, Outcome, Replies, NoBlock, DeviceFailed, is_no_memory, is_entropy_fault, is_io_fault, is_device_fault}

-- a record can be encoded only if the count of its name is below 2 ^ 48, and the index of a chunk below 2 ^ 32
abbrev pub is_numbered : Record → Bool
is_numbered (Learned (Chunk name stream index route bytes)) = nat_lt name.count (2 ^ 48) && nat_lt index (2 ^ 32)
is_numbered (Learned f) = nat_lt (name_of f).count (2 ^ 48)
is_numbered _ = true

-- new orders are appended to a lane's older ones; without new orders, the term reduces to the older ones
abbrev pub with_orders : List Transmission → (Lane → List Transmission) → Lane → List Transmission
with_orders [] unclaimed l = unclaimed l
with_orders (t ∷ ts) unclaimed l = unclaimed l ++ filter (λ (x : Transmission). lane_eq x.lane l) (t ∷ ts)

-- the number of the frame at an offset of its lane
abbrev pub frame_at : List Allocation → ℕ → ℕ
frame_at [] offset = 0
frame_at (a ∷ rest) offset = if a.offset == offset then 0 else suc (frame_at rest offset)

abbrev pub outgoing_repeat : List Allocation → Entry → Outgoing
outgoing_repeat frames e = record { frame = frame_at frames e.offset; transmission = e.transmission; fresh = false }

abbrev pub with_repeats : List Entry → (Lane → List Allocation) → (Lane → List Outgoing) → Lane → List Outgoing
with_repeats [] frames outgoing l = outgoing l
with_repeats (e ∷ es) frames outgoing l =
    outgoing l ++ map (outgoing_repeat (frames l)) (filter (λ x. lane_eq x.transmission.lane l) (e ∷ es))

-- an effect is committed as a whole
unfoldable pub commit : Site → World → ℕ → ℕ → Effect → World
commit site w v octets effect =
    record w {
      durable = replay site v effect.batch w.durable;
      drawn = number_set w.drawn v (w.drawn v + octets);
      journal = number_set w.journal v (extended (w.journal v) (added_len (w.journal v).version effect.batch));
      volatile = number_set w.volatile v effect.volatile;
      unclaimed = with_orders effect.orders w.unclaimed;
      outgoing = with_repeats effect.repeats w.frames w.outgoing;
    }

-- The disk failed in the event. The manager is down, its batch is in doubt, and the octets that were drawn stay drawn.
unfoldable pub stopped : World → ℕ → ℕ → Effect → World
stopped w v octets effect =
    record w {
      up = number_set w.up v false;
      drawn = number_set w.drawn v (w.drawn v + octets);
      in_doubt = number_set w.in_doubt v (record { batch = effect.batch; checkpointed = None });
      volatile = number_set w.volatile v no_volatile;
    }

unfoldable pub perform : Network → World → ℕ → ℕ → Environment → Effect → World × Outcome
perform net w v octets environment effect =
    let added = added_len (w.journal v).version effect.batch in
    if is_no_memory environment || not (list_all is_numbered effect.batch) then (w, Replies Memory)
    else if nat_lt journal_limit ((w.journal v).length' + added) then (w, Replies (JournalFull (w.journal v).length' added))
    else if nat_lt 0 octets && (not (has_octets (net.entropy v) (w.drawn v + octets)) || is_entropy_fault environment) then (w, Replies NoRandom)
    else if is_io_fault environment && not (is_nil effect.batch) then (stopped w v octets effect, Replies Stopped)
    else (commit net.site w v octets effect, Replies effect.reply)

abbrev pub resolve : Network → World → ℕ → ℕ → Environment → Decision → World × Outcome
resolve net w v octets environment (Refuses reply) = (w, Replies reply)
resolve net w v octets environment (Does effect) = perform net w v octets environment effect

-- A manager that isn't up answers Down. Otherwise its decision uses the next octets of the entropy, if these exist.
unfoldable pub handle : Network → World → ℕ → Event → Environment → World × Outcome
handle net w v event environment =
    let view = view_of net w v in
    let octets = random_need view event in
    if w.up v
    then resolve net w v octets environment
    (decide net.site net.sealing w.link_up view (octets_from (net.entropy v).octet (w.drawn v) octets) event)
    else (w, Replies Down)

-- how many blocks the node's end of a link took
abbrev pub blocks_at : Network → World → ℕ → ℕ → ℕ
blocks_at net w v link = w.durable.blocks (outgoing_lane net.site v link)

-- A node takes the next block of a device. Whether the device gives the block is decided before the manager is asked,
-- but after a manager that is down and a link that is full were refused.
unfoldable pub take_block : Network → World → ℕ → ℕ → Environment → World × Outcome
take_block net w v link environment =
    let number = blocks_at net w v link in
    if not (w.up v) then (w, Replies Down)
    else if number == 1024 then (w, Replies LinkFull)
    else if not (has_octets (net.device link) (1024 + 1024 * number)) then (w, NoBlock)
    else if is_device_fault environment then (w, DeviceFailed)
    else handle net w v (Block link number (block_at (net.device link) number)) environment
