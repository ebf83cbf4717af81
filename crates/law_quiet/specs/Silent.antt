-- Rounds in which every manager that is up is idle, and routes along which everything is up.
use Rattle.std.specs.Prelude.{◌≡◌, ℕ, zero, suc, true, List, [], ◌∷◌, Some, if◌then◌else◌}
use Rattle.qkd_base.specs.Route.{next_after}
use Rattle.qkd_base.specs.declared.lane.Lane.{Lane}
use Rattle.net_model.specs.declared.event.Event.TheVariants.{Plan}
use Rattle.net_model.specs.declared.fact.Fact.{Fact}
use Rattle.net_model.specs.declared.reply.Reply.TheVariants.{Planned}
use Rattle.net_model.specs.Table.{route_of}
use Rattle.net_model.specs.Events.{is_lane}
use Rattle.net_model.specs.Site.{sender, receiver, count_up}
use Rattle.net_model.specs.World.{Network, World}
use Rattle.net_model.specs.Action.{Ok, Ask, Complete, Replies}
use Rattle.net_model.specs.Step.{step}

-- The node's plan has nothing to do: no new frame, no repeat, and no lane is short of bytes.
abbrev pub IsIdle : Network → World → ℕ → Type 0
IsIdle net w v = (step net w (Ask v Plan Ok)).1 ≡ Replies (Planned [] [] [])

-- The world after the node planned and, without a frame in between, was told that this is all.
abbrev pub ticked : Network → World → ℕ → World
ticked net w v = (step net (step net w (Ask v Plan Ok)).0 (Complete v)).0

-- The world after one of these nodes after another ticked, if it was up.
abbrev pub after_ticks : Network → World → List ℕ → World
after_ticks net w [] = w
after_ticks net w (v ∷ vs) = after_ticks net (if w.up v then ticked net w v else w) vs

-- Each of them that is up is idle in its turn.
abbrev pub AreIdle : Network → World → List ℕ → Type 0
AreIdle net w [] = Unit {0}
AreIdle net w (v ∷ vs) = (w.up v ≡ true → IsIdle net w v) × AreIdle net (if w.up v then ticked net w v else w) vs

-- So many rounds of all nodes come one after another, and in each of them all that are up are idle.
abbrev pub AreSilent : ℕ → Network → World → World → Type 0
AreSilent zero net w after = w ≡ after
AreSilent (suc n) net w after = AreIdle net w (count_up net.site.nodes) × AreSilent n net (after_ticks net w (count_up net.site.nodes)) after

-- No order of any manager awaits its placing.
abbrev pub NoneAwaits : World → Type 0
NoneAwaits w = (v : ℕ) → (w.volatile v).awaiting ≡ []

-- A link that is up has a lane from node u to node v.
pub record IsJoined (net : Network) (w : World) (u v : ℕ) : Type 0 where
  pub lane : Lane
  pub site : is_lane net.site lane ≡ true
  pub from : sender net.site lane ≡ u
  pub to : receiver net.site lane ≡ v
  pub up : w.link_up lane.link ≡ true

-- The nodes of the fact's route are up, and so are links between each of them and the next.
pub record IsOpen (net : Network) (w : World) (f : Fact) : Type 0 where
  pub nodes : (u v : ℕ) → next_after (route_of f) u ≡ Some v → (w.up u ≡ true) × (w.up v ≡ true)
  pub links : (u v : ℕ) → next_after (route_of f) u ≡ Some v → IsJoined net w u v
