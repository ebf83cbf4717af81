-- The course of a scenario whose lines were done, followed by what connections asked for.
use Rattle.std.specs.Prelude.{◌≡◌, ◌⊎◌, true, List, [], length}
use Rattle.std.specs.List.{list_all}
use Rattle.net_model.specs.World.{Network, World, first}
use Rattle.net_model.specs.Action.{Action}
use Rattle.net_model.specs.Step.{run}
use Rattle.net_model.specs.BlockOrder.{AreChains}
use Rattle.run_types.specs.declared.scenario.Scenario.{Scenario}
use Rattle.run_model.specs.Play.{Whole}
use Rattle.run_model.specs.Report.{Performed, report, actions_of}
use Rattle.run_model.specs.Turn.{HttpTexts}
use Rattle.run_model.specs.Course.{Course, tasks_of, is_request_of}
use Rattle.net_world.specs.New.{network_on}
use Rattle.net_world.specs.declared.bench.Bench.{Bench}
use Rattle.source_devices.specs.declared.device.Device as Device
use Rattle.source_devices.specs.declared.entropy.Entropy as Entropy

abbrev pub course_of : Network → (begin : World) → List Performed → List (List Action) → Course
course_of net begin done served = record { net = net; begin = begin; done = done; served = served }

-- the course over what the bench's devices and entropies told, from the world before any start
abbrev pub course_on : {K Q E X : Type 0} → (device_says : Device.Ghosts Q) → (entropy_says : Entropy.Ghosts E) → Bench K Q E X → Scenario → List Performed → List (List Action) → Course
course_on device_says entropy_says old scenario done served = course_of (network_on device_says entropy_says old scenario.site) first done served

-- All lines were done, and then each manager took the turns of its own history, all of them requests.
pub record AreAsked (http : HttpTexts) (scenario : Scenario) (net : Network) (begin : World) (done : List Performed) (served : List (List Action)) : Type 0 where
  pub whole : (report http net begin (tasks_of scenario) done).ending ≡ Whole
  pub nodes : length served ≡ net.site.nodes
  pub chains : AreChains net (run net begin (actions_of net done)) 0 served
  pub requests : list_all (list_all is_request_of) served ≡ true

-- either connections asked for nothing, or all lines were done before their requests
abbrev pub MayFollow : HttpTexts → Scenario → Network → (begin : World) → List Performed → List (List Action) → Type 0
MayFollow http scenario net begin done served = (served ≡ []) ⊎ AreAsked http scenario net begin done served
