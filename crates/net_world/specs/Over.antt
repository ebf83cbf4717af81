-- Actions that were done over a new bench, and the headline of their course.
use Rattle.std.specs.Prelude.{◌≡◌, List}
use Rattle.net_model.specs.World.{World, first}
use Rattle.net_model.specs.Action.{Action}
use Rattle.declared_site.specs.SiteOf.{IsDeclared}
use Rattle.declared_site.specs.declared.site.Site.{Site as Declared}
use Rattle.run_types.specs.declared.scenario.Scenario.{Scenario}
use Rattle.run_model.specs.Turn.{HttpTexts}
use Rattle.run_model.specs.Bench.{DiskBatches, Seen}
use Rattle.run_model.specs.Course.{Words, Course, tasks_of}
use Rattle.run_model.specs.Headline.{Stop, written_of, Headline, Given}
use Rattle.run_tasks.specs.Tasks.{IsCut}
use Rattle.net_world.specs.New.{IsNew, network_on}
use Rattle.net_world.specs.Reading.{ReadsDisks}
use Rattle.net_world.specs.Seen.{IsSeenOn}
use Rattle.net_world.specs.Ran.{HasRun}
use Rattle.net_world.specs.declared.bench.Bench.{Bench}
use Rattle.world_state.specs.Outside.{Outside}

-- the bench was new, and the actions were done in the network over its parts
pub record IsOver {K Q E X : Type 0} (outside : Outside K Q E X)
    (old new : Bench K Q E X) (site : Declared) (actions : List Action) (w : World) : Type 0 where
  pub fresh : IsNew outside old
  pub declared : IsDeclared site
  pub ran : HasRun outside old new site (network_on outside.device outside.entropy old site) actions w

-- The course is a run over what the bench's parts told. Its headline holds for whatever is seen of the bench afterwards, if the batches of a disk are read from
-- it.
pub record HasHeadline {K Q E X : Type 0} (outside : Outside K Q E X)
    (old new : Bench K Q E X) (words : Words) (stop : Stop) (http : HttpTexts) (scenario : Scenario) (before after : Given) (c : Course) : Type 0 where
  pub net : c.net ≡ network_on outside.device outside.entropy old scenario.site
  -- nothing was there before
  pub begin : c.begin ≡ first
  pub holds : (reading : DiskBatches) (seen : Seen) → ReadsDisks reading → IsSeenOn outside old new seen →
      Headline words stop http reading scenario seen before after c
  -- where the run was cut, only items of the last task that was done may be missing
  pub cut : IsCut (written_of words) scenario.site.nodes http c.net first (tasks_of scenario) c.done before after
