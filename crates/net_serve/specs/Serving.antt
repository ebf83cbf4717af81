-- A manager that connections ask.
use Rattle.std.specs.Prelude.{◌≡◌, ℕ, ◌+◌, ◌<◌, true, List, [], ◌∷◌, ◌++◌}
use Rattle.net_model.specs.declared.event.Event.{Event}
use Rattle.net_model.specs.declared.reply.Reply.{Reply}
use Rattle.net_model.specs.Site.{Site}
use Rattle.net_model.specs.World.{Network, World}
use Rattle.net_model.specs.Events.{is_valid_event}
use Rattle.declared_site.specs.SiteOf.{site_of}
use Rattle.declared_site.specs.declared.site.Site.{Site as Declared}
use Rattle.kme_base.specs.Up.{AreUp}
use Rattle.world_state.specs.Passed.{Post, IsRunning, PostStands, MayAsk, Asked}
use Rattle.run_model.specs.Course.{is_request}
use Rattle.kme_serve.specs.declared.turn.Turn.{Turn}
use Rattle.disk_model.specs.declared.disk.Disk as Disk
use Rattle.source_devices.specs.declared.entropy.Entropy as Entropy

-- the event that a manager was asked, and its reply
abbrev pub Said : Type 0
Said = Event × Reply

-- a call of a manager: its place in the manager's history, the event and the reply
abbrev pub Call : Type 0
Call = ℕ × Said

-- a request that a node's manager takes: one of the four that come over HTTP, with all its values in range
pub record IsRequestTo (s : Site) (v : ℕ) (event : Event) : Type 0 where
  pub request : is_request event ≡ true
  pub valid : is_valid_event s v event ≡ true

-- the post stands for the node's manager in some world of some network of the site, and `up` says which links are up
pub record IsServable {K E : Type 0} (disk_says : Disk.Ghosts K) (entropy_says : Entropy.Ghosts E)
    (site : Declared) (v : ℕ) (post : Post K E) (up : ℕ) : Type 0 where
  pub net : Network
  pub now : World
  pub sited : net.site ≡ site_of site
  pub node : v < net.site.nodes
  pub running : IsRunning net now
  pub stands : PostStands disk_says entropy_says net now v post
  pub links : AreUp up now.link_up

-- The manager was asked this event and gave this reply. In every world where it may be asked, this is the network's action, with some answer of the
-- environment.
pub record TookRequest {K E : Type 0} (disk_says : Disk.Ghosts K)
    (entropy_says : Entropy.Ghosts E) (v up : ℕ) (old : Post K E) (event : Event) (said : Said) (up' : ℕ) (new : Post K E) : Type 0 where
  pub event_is : said.0 ≡ event
  pub asked : (net : Network) (w : World) → MayAsk disk_says entropy_says net w v old event up →
      Asked disk_says entropy_says net w v event old new said.1
  pub links : up' ≡ up

-- ---- the calls of a caller

-- after its earlier calls the caller has made one more, which is that turn
abbrev pub IsNextCall : List Call → Turn → List Call → Type 0
IsNextCall calls turn next = next ≡ calls ++ (turn.place, (turn.event, turn.reply)) ∷ []

-- the least place that the caller's next call can have
abbrev pub next_place : List Call → ℕ
next_place [] = 0
next_place (c ∷ []) = c.0 + 1
next_place (c ∷ d ∷ calls) = next_place (d ∷ calls)
