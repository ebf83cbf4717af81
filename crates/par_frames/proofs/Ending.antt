-- A block that its workers did is done together, or ends together.
use Rattle.std.proofs.Common.{◌≡◌, ℕ, List, map, sym, ◌∙◌, ap, subst}
use Rattle.std.specs.List.{flat_map}
use Rattle.net_model.specs.World.{Network, World}
use Rattle.net_model.specs.BlockOrder.{completions}
use Rattle.net_model.specs.Step.{run}
use Rattle.run_model.specs.Lines.{all_lanes}
use Rattle.run_model.specs.Works.{Work, Works, flat, done_from, block_run}
use Rattle.run_model.specs.Block.{PutDone, puts_on}
use Rattle.run_ops.specs.declared.job.Job.{Job}
use Rattle.run_ops.specs.declared.done_block.DoneBlock.{DoneBlock}
use Rattle.run_ops.specs.Together.{turned, turn_done, frame_put, put_done, DoesTogether, EndsTogether}
use Rattle.world_state.specs.Rests.{Rests}
use Rattle.world_state.specs.Stands.{Stands}
use Rattle.world_state.specs.Tallied.{Tallied}
use Rattle.world_state.specs.declared.state.State.{State}
use Rattle.par_frames.specs.Blocks.{LanesWorked, LanesLeft}
use Rattle.law_parallel.specs.InOrder.{turns_over}
use Rattle.law_parallel.specs.LaneWorks.{works_of, world_after}
use Rattle.par_frames.specs.Leaving.{reported_as}
use Rattle.par_frames.specs.Telling.{on_lane, AreTold}
use Rattle.par_lanes.specs.declared.emitted.Emitted.{Emitted}
use Rattle.par_frames.specs.Ends.{WentOn}
use Rattle.par_frames.proofs.Counting.{all_tallied}
use Rattle.world_state.specs.Outside.{Outside}

module _ {K Q E X : Type 0} (outside : Outside K Q E X)
    (net : Network) (workers : ℕ) (w : World) (jobs : List Job) (histories : List (List Work)) (lanes : LanesWorked outside.wire net workers w histories)
    (behind : LanesLeft outside.wire net workers w jobs histories lanes) (first last : State K Q E X)
    (went : WentOn outside net workers w histories lanes first last) where
  abbrev works : Works
  works = works_of net w histories behind.logs

  -- the world after the notes
  abbrev after : World
  after = run net (world_after net (turns_over net w histories) behind.logs) (completions net)

  tallied : Tallied outside first last net.site (block_run net works)
  tallied = all_tallied outside net workers w jobs histories lanes behind first went.old went.new last went.has went.turned went.same went.sides went.noted

  pub does_together : (sorted : List Emitted) (done : DoneBlock) → AreTold net w histories behind.logs sorted → Stands outside last net after →
      map turned done.turns.items ≡ map turn_done (done_from net w (flat histories)) →
      map frame_put done.frames.items ≡ map put_done (flat_map (λ l. puts_on (map reported_as (on_lane l sorted)) l) (all_lanes net.site)) →
      DoesTogether (Stands outside) (Tallied outside) first last net workers w jobs done
  does_together sorted done tells stands turns puts = record {
    works = works;
    are = behind.block.are;
    turns = turns ∙ sym behind.block.turns;
    frames = puts ∙ ap (λ (ps : List PutDone). map put_done ps) (sym tells.reported);
    ready = record { stands = subst (λ (x : World). Stands outside last net x) (sym behind.block.after) stands; quiet = behind.block.quiet };
    tallied = tallied;
  }

  pub ends_together : Rests outside last net after →
      EndsTogether (Rests outside) (Tallied outside) first last net workers w jobs
  ends_together rests = record {
    works = works;
    are = behind.block.are;
    rests = subst (λ (x : World). Rests outside last net x) (sym behind.block.after) rests;
    tallied = tallied;
  }
