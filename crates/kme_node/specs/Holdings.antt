-- The state of a manager: its site, its facts, its ends of links, and its window.
use Rattle.std.specs.Prelude.{◌≡◌, ℕ, ◌<◌, ◌≤◌, List, [], ◌∷◌, length, map}
use Rattle.net_model.specs.declared.event.Event.{Event}
use Rattle.net_model.specs.declared.event.Event.TheVariants.{Heard}
use Rattle.net_model.specs.declared.record.Record.{Record}
use Rattle.net_model.specs.declared.record.Record.TheVariants.{Block}
use Rattle.net_model.specs.declared.reply.Reply.{Reply}
use Rattle.net_model.specs.declared.reply.Reply.TheVariants.{Planned as PlannedReply}
use Rattle.net_model.specs.Site.{outgoing_lanes}
use Rattle.net_model.specs.View.{View, Port}
use Rattle.declared_site.specs.SiteOf.{IsDeclared, site_of}
use Rattle.declared_site.specs.declared.site.Site.{Site as Declared}
use Rattle.kme_facts.specs.Taken.{HasRoom as HasFactsRoom}
use Rattle.kme_relay.specs.UnderWay.{AreFronts}
use Rattle.kme_base.specs.declared.change.Change.{Change}
use Rattle.kme_base.specs.declared.change.Change.TheVariants.{Received, Planned}
use Rattle.kme_base.specs.declared.step.Step.{Step}
use Rattle.kme_base.specs.Places.{LinkEnds, HasRoom as HasBlockRoom, HasBytesFor, AreOf}
use Rattle.resend_window.specs.Kept.{Kept as Window}
use Rattle.stream_core.specs.Kept.{StreamEnds}

pub record Holdings : Type 0 where
  pub site : Declared
  pub kept : StreamEnds
  pub ends : LinkEnds
  pub window : Window

-- the manager's view, as the model has it
abbrev pub view : Holdings → View
view h =
    record {
      me = h.kept.ends.known.me;
      facts = h.kept.ends.known.facts;
      acked = h.kept.ends.known.acked;
      handed = h.kept.ends.handed;
      closed = h.kept.closed;
      ports = h.ends.ports;
      volatile = h.window.volatile;
    }

-- the site is well declared, and the ends are those of the node's links, in order
pub record IsHeld (h : Holdings) : Type 0 where
  pub declared : IsDeclared h.site
  pub lanes : map (λ (p : Port). p.lane) h.ends.ports ≡ outgoing_lanes (site_of h.site) h.kept.ends.known.me

-- the same, and for each lane, all owed facts before its place are on their way
pub record IsNode (h : Holdings) (fronts : List ℕ) : Type 0 where
  pub held : IsHeld h
  pub ahead : AreFronts (site_of h.site) h.kept.ends.known.me h.kept.ends.known.acked h.kept.ends.known.facts h.window.volatile fronts

-- room for what a step adds

abbrev pub HasBatchRoom : LinkEnds → List Record → Type 0
HasBatchRoom ends (Block link number bytes ∷ rs) = HasBlockRoom ends link
HasBatchRoom ends (r ∷ rs) = HasBatchRoom ends rs
HasBatchRoom ends [] = Unit {0}

abbrev pub HasWindowRoom : Window → Change → Reply → Type 0
HasWindowRoom w (Received lane offset name) reply = 0 < w.received_spare
HasWindowRoom w Planned (PlannedReply orders repeats shorts) = (length orders ≤ w.orders_spare) × (0 < w.ticks_spare)
HasWindowRoom w c reply = Unit {0}

pub record HasRoom (h : Holdings) (s : Step) : Type 0 where
  pub facts : HasFactsRoom h.kept (length s.batch)
  pub blocks : HasBatchRoom h.ends s.batch
  pub window : HasWindowRoom h.window s.change s.reply

-- what each decision guarantees of its batch and its orders

-- a block has 1,024 octets and is the last record of its batch
abbrev pub HasBlocksAlone : List Record → Type 0
HasBlocksAlone (Block link number bytes ∷ rs) = (length bytes ≡ 1024) × (rs ≡ [])
HasBlocksAlone (r ∷ rs) = HasBlocksAlone rs
HasBlocksAlone [] = Unit {0}

-- each order is of a known fact, and the orders need only bytes that were received and that no earlier order uses
abbrev pub HasOrdersWithin : Holdings → Reply → Type 0
HasOrdersWithin h (PlannedReply orders repeats shorts) = AreOf h.kept.ends.known.facts orders × HasBytesFor orders h.ends.ports
HasOrdersWithin h reply = Unit {0}

-- a step that may be applied to this manager
pub record Fits (h : Holdings) (s : Step) : Type 0 where
  pub blocks : HasBlocksAlone s.batch
  pub orders : HasOrdersWithin h s.reply

-- any event but a frame, which must be opened first
abbrev pub IsPlain : Event → Type 0
IsPlain (Heard lane bytes) = ⊥
IsPlain _ = Unit {0}
