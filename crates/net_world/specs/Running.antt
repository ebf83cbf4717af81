-- The result of a scenario that is run over a bench.
use Rattle.std.specs.Prelude.{◌≡◌, ℕ, Result, Ok, Err}
use Rattle.net_model.specs.World.{first}
use Rattle.run_types.specs.declared.scenario.Scenario.{Scenario}
use Rattle.run_model.specs.Turn.{HttpTexts}
use Rattle.run_model.specs.Course.{Words, Course, tasks_of}
use Rattle.run_model.specs.Headline as headline
use Rattle.run_model.specs.Headline.{Given}
use Rattle.run_lines.specs.declared.stop.Stop.{Stop}
use Rattle.run_lines.specs.declared.stop.Stop.TheVariants as stops
use Rattle.run_tasks.specs.Tasks.{RanTasks}
use Rattle.run_http.specs.Speaking.{IsTextsOf}
use Rattle.world_state.specs.Rests.{Rests}
use Rattle.world_state.specs.Stands.{Stands}
use Rattle.world_state.specs.Tallied.{Tallied}
use Rattle.world_state.specs.declared.state.State.{State}
use Rattle.net_world.specs.Laid.{IsLaidOut, HasRoomFor}
use Rattle.net_world.specs.New.{network_on}
use Rattle.net_world.specs.Over.{HasHeadline}
use Rattle.net_world.specs.declared.bench.Bench.{Bench}
use Rattle.world_state.specs.Sized.{IsSized}
use Rattle.world_state.specs.Outside.{Outside}

-- how the run ended
abbrev pub ended : {T : Type 0} → Result T Stop → headline.Stop
ended (Ok done) = headline.Done
ended (Err stops.WriteFault) = headline.WriteFault
ended (Err stops.Memory) = headline.Memory
ended (Err (stops.Forged line)) = headline.ForgedMatch line

-- memory ran out before the first line, and bench and sink are as they were
pub record WasLeft {K Q E X W T : Type 0} (old new : Bench K Q E X) (before after : W) (result : Result T Stop) : Type 0 where
  pub wanting : result ≡ Err stops.Memory
  pub bench : new ≡ old
  pub sink : after ≡ before

-- A scenario was run out of a bench. The bench's parts were laid out, and the run did the scenario's tasks in the network over these parts. The parts of the
-- resulting state are not yet put back.
pub record RanOut {K Q E X T : Type 0} (outside : Outside K Q E X)
    (old stayed : Bench K Q E X) (workers : ℕ) (scenario : Scenario) (before after : Given) (state : State K Q E X) (ended : Result T Stop) : Type 0 where
  pub begin : State K Q E X
  pub laid : IsLaidOut old stayed scenario.site begin
  pub ran : (http : HttpTexts) → IsTextsOf scenario.site.nodes scenario.site.entitlements http →
      RanTasks (Stands outside) (Rests outside) (Tallied outside)
      scenario.site.nodes begin state before after http (network_on outside.device outside.entropy old scenario.site) workers first (tasks_of scenario) ended
  pub sized : IsSized state
  pub sited : state.site ≡ scenario.site
  pub room : HasRoomFor stayed state

-- For all texts of HTTP that are the site's there is one course whose headline holds.
abbrev pub HasHeadlines : {K Q E X : Type 0} → Outside K Q E X → (old new : Bench K Q E X) → Words → Scenario → (before after : Given) → headline.Stop → Type 0
HasHeadlines outside old new words scenario before after stop =
    (http : HttpTexts) → IsTextsOf scenario.site.nodes scenario.site.entitlements http →
    (c : Course) × HasHeadline outside old new words stop http scenario before after c
