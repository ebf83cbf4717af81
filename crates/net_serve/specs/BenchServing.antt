-- The result of a scenario that is run over a bench, and whose managers are then served over ports.
use Rattle.std.specs.Prelude.{◌≡◌, ◌⊎◌, ℕ, ◌<◌, ◌≤◌, Bool, true, false, List, [], length, Result, Ok, Err, IsErrOf}
use Rattle.qkd_base.specs.Faults.{Rose}
use Rattle.edge_io.specs.Writes.{Adds}
use Rattle.net_model.specs.World.{Network, World}
use Rattle.net_model.specs.Action.{Action}
use Rattle.net_model.specs.Step.{run}
use Rattle.declared_site.specs.declared.site.Site.{Site as Declared}
use Rattle.run_types.specs.declared.scenario.Scenario.{Scenario}
use Rattle.run_http.specs.Speaking.{IsTextsOf}
use Rattle.run_lines.specs.declared.stop.Stop.TheVariants as stops
use Rattle.run_model.specs.Turn.{HttpTexts}
use Rattle.run_model.specs.Course.{Serve, Course, lines_run}
use Rattle.run_model.specs.Headline as headline
use Rattle.run_model.specs.Headline.{Given}
use Rattle.kme_serve.specs.Door.{Door}
use Rattle.kme_serve.specs.Doors.{PortsTold, ports_of, AreOpened, WereOpened}
use Rattle.net_serve.specs.Served.{AreConnected}
use Rattle.net_world.specs.Over.{HasHeadline}
use Rattle.net_world.specs.declared.bench.Bench.{Bench}
use Rattle.net_serve.specs.declared.stop.ServeStop.{ServeStop}
use Rattle.net_serve.specs.declared.stop.ServeStop.TheVariants.{Stopped, Listen}
use Rattle.world_state.specs.Outside.{Outside}

-- how the call ended
abbrev pub ended : {T : Type 0} → Result T ServeStop → headline.Stop
ended (Ok done) = headline.Done
ended (Err Listen) = headline.ListenFault
ended (Err (Stopped stops.WriteFault)) = headline.WriteFault
ended (Err (Stopped stops.Memory)) = headline.Memory
ended (Err (Stopped (stops.Forged line))) = headline.ForgedMatch line

-- A sink's count of faults never falls, and it rose if the call ended with a write fault.
pub record IsBlamed {T : Type 0} (before now : ℕ) (result : Result T ServeStop) : Type 0 where
  pub later : before ≤ now
  pub rose : IsErrOf result (Stopped stops.WriteFault) → Rose before now

-- memory ran out before the first line, and bench, sink and ports are as they were
pub record WasLeft {B W P T : Type 0} (old_bench new_bench : B) (old_sink new_sink : W) (old_ports new_ports : P) (result : Result T ServeStop) : Type 0 where
  pub wanting : result ≡ Err (Stopped stops.Memory)
  pub bench : new_bench ≡ old_bench
  pub sink : new_sink ≡ old_sink
  pub ports : new_ports ≡ old_ports

-- the ports before the connections and after them, by how the call ended

module _ {D : Type 0} (tell : D → Door) (failed : D → ℕ) (told : Type 0) (workers connections port : ℕ) (site : Declared) (before after : PortsTold D) where
  -- no port was touched, and no connection was served
  pub record WereKept (served : List (List Action)) : Type 0 where
    pub same : after ≡ before
    pub none : served ≡ []

  -- some listeners were opened, perhaps not all, and no connection was served
  pub record WereTried (served : List (List Action)) : Type 0 where
    pub nodes : 0 < length site.nodes
    pub opened : WereOpened tell failed port workers (length site.nodes) before after
    pub none : served ≡ []

  -- Each port was opened once, in increasing order. Each worker served its connections at its own listener, which it gave back: those that waited for it at the ports. The
  -- run goes on with what these connections asked of the managers.
  pub record WereServed (all : Bool) (net : Network) (w : World) (served : List (List Action)) : Type 0 where
    pub nodes : 0 < length site.nodes
    pub opened : List D
    pub new : AreOpened tell failed told before.queues port workers (length site.nodes) opened
    pub asked : Adds before.asked after.asked (ports_of port workers (length site.nodes))
    pub closed : List D
    pub given : Adds before.back after.back closed
    pub connected : AreConnected tell failed site.nodes site.entitlements net w served connections opened closed all

  -- What became of the ports, by how the call ended. `Done`: all connections of all workers were served, or there is no node. `ListenFault`: a port or listener
  -- failed. Otherwise either nothing was served, or everything.
  abbrev pub ServedBehind : headline.Stop → Network → World → List (List Action) → Type 0
  ServedBehind headline.Done net w served = ((length site.nodes ≡ 0) × WereKept served) ⊎ WereServed true net w served
  ServedBehind headline.ListenFault net w served = WereTried served ⊎ WereServed false net w served
  ServedBehind (headline.ForgedMatch line) net w served = WereKept served
  ServedBehind headline.WriteFault net w served = WereKept served ⊎ WereServed true net w served
  ServedBehind headline.Memory net w served = WereKept served ⊎ (WereTried served ⊎ WereServed true net w served)

  abbrev pub ServedBy : headline.Stop → Course → Type 0
  ServedBy stop c = ServedBehind stop c.net (run c.net c.begin (lines_run c)) c.served

-- For all texts of HTTP that are the site's there is one course whose headline holds: it goes on with what connections asked. What became of the ports is told
-- of the same course.
abbrev pub HasServedHeadlines : {K Q E X D : Type 0} → Outside K Q E X → (tell : D → Door) → (failed : D → ℕ) → (told_ports : Type 0) → (old new : Bench K Q E X) → (ports_before ports_after : PortsTold D) →
    (workers connections port : ℕ) → Scenario → (before after : Given) → headline.Stop → Type 0
HasServedHeadlines outside tell failed told_ports old new ports_before ports_after workers connections port scenario before after stop =
    (http : HttpTexts) → IsTextsOf scenario.site.nodes scenario.site.entitlements http →
    (c : Course) × HasHeadline outside old new (Serve workers connections port) stop http scenario before after c ×
    ServedBy tell failed told_ports workers connections port scenario.site ports_before ports_after stop c
