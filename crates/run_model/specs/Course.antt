-- The course of a call: the run of a scenario, and then what connections asked for.
use Rattle.std.specs.Prelude.{◌≡◌, ◌⊎◌, ℕ, ◌*◌, Bool, true, false, List, [], ◌++◌, length, take, nat_lt, if◌then◌else◌}
use Rattle.std.specs.List.{flat_map, list_all}
use Rattle.net_model.specs.declared.event.Event.{Event}
use Rattle.net_model.specs.declared.event.Event.TheVariants.{Enc, Dec, Status, EncGroup}
use Rattle.net_model.specs.Premises.{IsNetwork}
use Rattle.net_model.specs.World.{Network, World}
use Rattle.net_model.specs.Action.{Action, Ask}
use Rattle.net_model.specs.Step.{run, IsRun}
use Rattle.net_model.specs.BlockOrder.{AreChains}
use Rattle.net_model.specs.Deliveries.{Delivery, deliveries}
use Rattle.declared_site.specs.SiteOf.{site_of}
use Rattle.run_types.specs.declared.scenario.Scenario.{Scenario}
use Rattle.run_model.specs.Begin.{MayBegin}
use Rattle.run_model.specs.Play.{Played, Whole}
use Rattle.run_model.specs.Report.{Task, tasks, Performed, report, actions_of, IsRunOf}
use Rattle.run_model.specs.Turn.{HttpTexts}
use Rattle.run_model.specs.Load.{load_scenario}

-- the words of the call: `run W`, `load N`, `serve W C PORT`
pub data Words : Type 0 where
  Run : (workers : ℕ) → Words
  Load : (rounds : ℕ) → Words
  Serve : (workers connections port : ℕ) → Words

-- how many workers do the blocks of lines
abbrev pub workers_of : Words → ℕ
workers_of (Run workers) = workers
workers_of (Load rounds) = 1
workers_of (Serve workers connections port) = workers

-- how many connections are served: `connections` for each worker, but none if there is no node
abbrev pub served_by : Words → (nodes : ℕ) → ℕ
served_by (Serve workers connections port) nodes = if nat_lt 0 nodes then workers * connections else 0
served_by _ nodes = 0

-- For `load`, the scenario is `load_scenario`. For the other words, it is the one that was read from the source.
abbrev pub IsOfWords : Words → Scenario → Type 0
IsOfWords (Load rounds) scenario = scenario ≡ load_scenario rounds
IsOfWords _ scenario = Unit {0}

-- A course has its network, the world in which it begins, what was done for each task, and what connections then had the
-- managers do: one history for each node, in order of node.
pub record Course : Type 0 where
  pub net : Network
  pub begin : World
  pub done : List Performed
  pub served : List (List Action)

abbrev pub lines_run : Course → List Action
lines_run c = actions_of c.net c.done

abbrev pub whole_run : Course → List Action
whole_run c = lines_run c ++ flat_map (λ h. h) c.served

-- the world after the first n actions, and after all of them
abbrev pub world_after : Course → ℕ → World
world_after c n = run c.net c.begin (take n (whole_run c))

abbrev pub last_world : Course → World
last_world c = run c.net c.begin (whole_run c)

abbrev pub tasks_of : Scenario → List Task
tasks_of scenario = tasks scenario.node_lines scenario.entries

-- what the lines reported, and how far they got
abbrev pub lines_played : HttpTexts → Scenario → Course → Played
lines_played http scenario c = report http c.net c.begin (tasks_of scenario) c.done

-- what the replies of the run handed out
abbrev pub handed_out : Course → List Delivery
handed_out c = deliveries c.net c.begin (whole_run c)

-- the events that a connection may ask of a manager: the requests of GS QKD 014
abbrev pub is_request : Event → Bool
is_request (Enc m s n bits) = true
is_request (Dec s m names) = true
is_request (Status m s) = true
is_request (EncGroup m slaves n bits) = true
is_request _ = false

abbrev pub is_request_of : Action → Bool
is_request_of (Ask v event environment) = is_request event
is_request_of _ = false

-- Connections are served only for `serve`, and only after all lines were done. The turns of each manager are then a run
-- of its own, of requests only.
abbrev pub AreServed : Words → HttpTexts → Scenario → Course → Type 0
AreServed (Serve workers connections port) http scenario c =
    (c.served ≡ []) ⊎
    (((lines_played http scenario c).ending ≡ Whole) × (length c.served ≡ c.net.site.nodes) × AreChains c.net (run c.net c.begin (lines_run c)) 0 c.served ×
    (list_all (list_all is_request_of) c.served ≡ true))
AreServed _ http scenario c = c.served ≡ []

-- The run consists of the actions that the scenario's lines make, from the world on in which the course begins.
pub record IsCourseOf (words : Words) (http : HttpTexts) (scenario : Scenario) (c : Course) : Type 0 where
  pub network : IsNetwork c.net
  pub begins : MayBegin c.net c.begin
  pub scenario_is : IsOfWords words scenario
  pub site : c.net.site ≡ site_of scenario.site
  -- the actions of the lines, with each block as its workers did it
  pub lines : IsRunOf http c.net (workers_of words) c.begin (tasks_of scenario) c.done
  -- for `serve`, the run goes on with the managers' turns for the connections, in order of node
  pub served : AreServed words http scenario c
  -- all of it is one list of actions, each of which may happen when it does
  pub steps : IsRun c.net c.begin (whole_run c)
