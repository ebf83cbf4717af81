-- The parts of the headline, put together.
use Rattle.std.proofs.Common.{◌≡◌, ℕ, ◌<◌, false, List, Some, sym, subst, append-nil}
use Rattle.net_model.specs.declared.record.Record.{Record}
use Rattle.net_model.specs.Journal.{is_blank}
use Rattle.net_model.specs.World.{Network, World}
use Rattle.net_model.specs.Action.{Action}
use Rattle.run_types.specs.declared.scenario.Scenario.{Scenario}
use Rattle.run_model.specs.Report.{Performed, report, actions_of}
use Rattle.run_model.specs.Left.{IsFoldOf}
use Rattle.run_model.specs.Turn.{HttpTexts}
use Rattle.run_model.specs.Bench.{DiskBatches, Seen}
use Rattle.run_model.specs.Course.{Words, Run, Course, tasks_of, whole_run, last_world, IsCourseOf}
use Rattle.run_model.specs.Keys.{KeysAndBytes}
use Rattle.run_model.specs.Headline.{Stop, Done, ForgedMatch, ListenFault, WriteFault, Memory, Given, IsReported, Headline}
use Rattle.law_run.specs.Benched.{lines_alone}
use Rattle.law_run.specs.Seen.{IsTold, IsKept, IsSeen}
use Rattle.law_run.proofs.Telling.{no_more, still_first}
use Rattle.law_run.proofs.Folds.{is_fold}
use Rattle.law_run.proofs.Resting.{rest_fits, gives_back}

pub is_reported : (http : HttpTexts) (scenario : Scenario) (workers : ℕ) (c : Course) (old new : Given) (stop : Stop) →
    IsTold stop scenario.site.nodes (report http c.net c.begin (tasks_of scenario) c.done) old new → IsReported (Run workers) stop http scenario c old new
is_reported http scenario workers c old new Done h = (h.0, no_more http scenario workers c old new h.1)
is_reported http scenario workers c old new (ForgedMatch line) h = h
is_reported http scenario workers c old new ListenFault h = absurd h
is_reported http scenario workers c old new WriteFault h = still_first http scenario workers c old new h
is_reported http scenario workers c old new Memory h = still_first http scenario workers c old new h

module _ (reading : DiskBatches) (net : Network) (begin : World) (done : List Performed) (seen : Seen) where
  -- What the bench shows of the world and the actions of the course.
  pub seen_of_course : (w : World) → w ≡ last_world (lines_alone net begin done) → IsSeen reading net w (actions_of net done) seen →
      IsSeen reading net (last_world (lines_alone net begin done)) (whole_run (lines_alone net begin done)) seen
  seen_of_course w is h =
      subst (λ (xs : List Action). IsSeen reading net (last_world (lines_alone net begin done)) xs seen) (sym (append-nil (actions_of net done)))
      (subst (λ (x : World). IsSeen reading net x (actions_of net done) seen) is h)

module _ (words : Words) (http : HttpTexts) (scenario : Scenario) (c : Course) (run : IsCourseOf words http scenario c) (reading : DiskBatches) (seen : Seen)
    (h : IsSeen reading c.net (last_world c) (whole_run c) seen) where
  folded : (v : ℕ) → v < c.net.site.nodes → is_blank ((last_world c).journal v) ≡ false →
      (batches : List (List Record)) × (reading (seen.disk v) ≡ Some batches) × IsFoldOf c.net c.begin (whole_run c) (last_world c) v batches
  folded v is blank =
      let d = h.disks v is blank in
      let kept : IsKept c.net (last_world c) v d.0 = d.2 in
      let earlier = run.begins.given v is in
      let fits = rest_fits c.net c.begin run.begins.rest in
      let before = gives_back c.net c.begin v earlier.0 earlier.1 in (
        d.0,
        d.1,
        is_fold c.net c.begin (whole_run c) v earlier.0 run.network run.begins.conserved fits before run.steps kept.committed d.0 kept.may kept.given,
      )

  pub headline : (stop : Stop) (old new : Given) → IsReported words stop http scenario c old new → KeysAndBytes c →
      Headline words stop http reading scenario seen old new c
  headline stop old new reported keys = record {
    run = run;
    reported = reported;
    wires = h.wires;
    disks = folded;
    other_disks = h.other_disks;
    left = h.left;
    keys = keys;
    disk_faults = h.disk_faults;
    entropy_faults = h.entropy_faults;
    device_faults = h.device_faults;
    wire_faults = h.wire_faults;
    armed = h.armed;
  }
