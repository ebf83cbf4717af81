-- The invariant of the network, which every action keeps.
use Rattle.std.specs.Prelude.{◌≡◌, ℕ, ◌+◌, ◌<◌, ◌≤◌, Bool, true, false, List, [], ◌∷◌, ◌⊎◌, length, slice_get, Some, None, if◌then◌else◌}
use Rattle.qkd_base.specs.Name.{Name}
use Rattle.qkd_base.specs.declared.lane.Lane.{Lane}
use Rattle.net_model.specs.declared.fact.Fact.{Fact}
use Rattle.net_model.specs.declared.placing.Placing.{Placing}
use Rattle.net_model.specs.Site.{Site, sender, receiver}
use Rattle.net_model.specs.World.{Network, World, Durable, Allocation, Transmission, Owner, Journal, InDoubt, no_doubt, no_volatile, received}
use Rattle.net_model.specs.Journal.{journal_limit, added_len, is_blank}
use Rattle.net_model.specs.Records.{replay}
use Rattle.net_model.specs.Ownership.{IsOwned, HasRoom, IsWired}
use Rattle.net_model.specs.Knowledge.{IsTable, IsStreams, IsGroups, IsKnowledge, IsCarried, IsMarked, IsStoredOnce}
use Rattle.net_model.specs.Handings.{IsHanded}
use Rattle.net_model.specs.Doubt.{MayReplay}
use Rattle.net_model.specs.Drawn.{AreDrawn}
use Rattle.net_model.specs.Windows.{IsVolatile, IsPlaced, IsPosted}

-- The invariant, stated of just those parts of the world that it depends on. Two worlds that agree in these parts keep
-- it by the same proof.
pub record InvariantOf (s : Site) (facts : List Fact) (handed : List (Name × ℕ)) (known acked : ℕ → List Name)
    (own : Lane → List Owner) (lease : Lane → ℕ) (frames : Lane → List Allocation) (unclaimed : Lane → List Transmission) (received : Lane → ℕ) : Type 0 where
  pub owned : (l : Lane) → IsOwned facts (own l) (frames l) (received l)
  pub room : (l : Lane) → HasRoom facts (own l) (unclaimed l) (lease l) (received l)
  pub table : IsTable s facts known
  pub streams : IsStreams facts known
  pub groups : IsGroups facts
  pub knowledge : IsKnowledge facts known
  pub carried : (l : Lane) → IsCarried facts known (sender s l) (receiver s l) (frames l) (unclaimed l)
  pub marked : IsMarked facts known acked
  pub stored : IsStoredOnce facts known
  pub handings : IsHanded s facts known handed

abbrev pub Invariant : Site → Durable → (Lane → List Allocation) → (Lane → List Transmission) → Type 0
Invariant s d frames unclaimed = InvariantOf s d.facts d.handed d.known d.acked d.own d.lease frames unclaimed (received d)

-- the durable state after the batches in doubt of some nodes are made durable
abbrev pub with_doubts : Site → World → (ℕ → Bool) → List ℕ → Durable → Durable
with_doubts s w made [] d = d
with_doubts s w made (v ∷ vs) d = with_doubts s w made vs (if made v then replay s v (w.in_doubt v).batch d else d)

-- a journal is empty before the first start; afterwards it has at least a header and a gate, and is within the limit
abbrev pub IsJournal : Journal → Type 0
IsJournal j = (j.length' ≡ 0) ⊎ ((17 ≤ j.length') × (j.length' ≤ journal_limit) × (j.start < j.length'))

-- a journal has room for the batch in doubt, unless a checkpoint has settled it
abbrev pub HasRoomFor : Journal → InDoubt → Type 0
HasRoomFor j d = d.checkpointed ≡ None → j.length' + added_len j.version d.batch ≤ journal_limit

pub record Conserved (net : Network) (w : World) : Type 0 where
  pub now : Invariant net.site w.durable w.frames w.unclaimed
  -- a batch in doubt may still be made, whatever other managers do in the meantime
  pub doubts : (v : ℕ) → MayReplay net.site w.durable v (w.in_doubt v).batch
  -- only a manager that is down has a batch in doubt, and it keeps no state of its life
  pub doubtful : (v : ℕ) → w.up v ≡ true → w.in_doubt v ≡ no_doubt
  pub resting : (v : ℕ) → w.up v ≡ false → w.volatile v ≡ no_volatile
  pub volatile : (v : ℕ) → IsVolatile net w v (w.volatile v)
  pub placed : (v n : ℕ) (p : Placing) → slice_get (w.placings v) n ≡ Some p → IsPlaced net w v p
  pub posted : (l : Lane) → IsPosted l (w.unclaimed l) (w.outgoing l)
  pub wired : (l : Lane) → IsWired (w.frames l) (w.wire l) (w.outgoing l)
  pub journals : (v : ℕ) → IsJournal (w.journal v)
  pub started : (v : ℕ) → w.up v ≡ true → is_blank (w.journal v) ≡ false
  pub doubt_room : (v : ℕ) → HasRoomFor (w.journal v) (w.in_doubt v)
  pub drawn : AreDrawn net w
  pub few_blocks : (l : Lane) → w.durable.blocks l ≤ 1024
  -- The bytes that a start gave up are owned, so they are planned. A manager's own count of its bytes therefore adds
  -- up.
  pub recovered : (l : Lane) → w.recovered l ≤ length (w.durable.own l)
