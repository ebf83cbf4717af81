-- A run loses no fact, mark or block.
use Rattle.std.proofs.Common.{ℕ, Bool, true, false, List, [], ◌∷◌, Some, None, Option}
use Rattle.qkd_base.specs.declared.lane.Lane.{Lane}
use Rattle.net_model.specs.World.{Network, World, Durable, Owner, Transmission}
use Rattle.net_model.specs.Decision.{Effect}
use Rattle.net_model.specs.Handle.{commit, stopped}
use Rattle.net_model.specs.Frames.{allocate}
use Rattle.net_model.specs.Start.{resolved, resolved_durable, restarted, interrupted_start}
use Rattle.net_model.specs.Action.{Action}
use Rattle.net_model.specs.Step.{step, run}
use Rattle.law_base.proofs.Walks.{step_walk}
use Rattle.law_lives.specs.Lasting.{Lasts}
use Rattle.law_lives.proofs.Lastings.{lasts_same, lasts_then, replay_lasts}

module _ (net : Network) (w : World) where
  abbrev Lasting : World → Type 0
  Lasting x = Lasts w.durable x.durable

  -- Only owners were added.
  with_own : (d : Durable) (own : Lane → List Owner) → Lasts w.durable d → Lasts w.durable (record d { own = own })
  with_own d own k = record { facts = k.facts; known = k.known; acked = k.acked; handed = k.handed; closed = k.closed; blocks = k.blocks }

  commit_lasts : (v octets : ℕ) (e : Effect) → Lasting (commit net.site w v octets e)
  unfolding commit
  commit_lasts v octets e = replay_lasts net.site v e.batch w.durable

  stopped_lasts : (v octets : ℕ) (e : Effect) → Lasting (stopped w v octets e)
  unfolding stopped
  stopped_lasts v octets e = lasts_same w.durable

  allocate_lasts : (t : Transmission) → Lasting (allocate w t).0
  unfolding allocate
  allocate_lasts t = with_own w.durable _ (lasts_same w.durable)

  settled_lasts : (v : ℕ) (committed : Bool) → Lasts w.durable (resolved_durable net.site w v committed)
  settled_lasts v true = replay_lasts net.site v (w.in_doubt v).batch w.durable
  settled_lasts v false = lasts_same w.durable

  resumed_lasts : (v : ℕ) (found committed : Bool) → Lasts w.durable (resolved_durable net.site (interrupted_start net w v (Some found)) v committed)
  resumed_lasts v found true = replay_lasts net.site v ((interrupted_start net w v (Some found)).in_doubt v).batch w.durable
  resumed_lasts v found false = lasts_same w.durable

  started_lasts : (v : ℕ) (committed : Bool) → Lasting (restarted net (resolved net.site w v committed) v)
  unfolding restarted
  started_lasts v committed = with_own (resolved_durable net.site w v committed) _ (settled_lasts v committed)

  again_lasts : (v : ℕ) (committed : Bool) → Lasting (restarted net (resolved net.site (interrupted_start net w v (Some committed)) v committed) v)
  unfolding restarted
  again_lasts v committed = with_own (resolved_durable net.site (interrupted_start net w v (Some committed)) v committed) _ (resumed_lasts v committed committed)

  interrupted_lasts : (v : ℕ) (made : Option Bool) → Lasting (interrupted_start net w v made)
  interrupted_lasts v None = lasts_same w.durable
  interrupted_lasts v (Some committed) = lasts_same w.durable

  pub step_lasts : (a : Action) → Lasting (step net w a).0
  step_lasts a = step_walk net w Lasting (record {
    same = lasts_same w.durable;
    commits = commit_lasts;
    stops = stopped_lasts;
    allocates = allocate_lasts;
    refuses = λ l o. lasts_same w.durable;
    puts = λ l o. lasts_same w.durable;
    notes = λ x v h. h;
    starts = started_lasts;
    resumes = again_lasts;
    interrupts = interrupted_lasts;
    crashes = λ v. lasts_same w.durable;
    links = λ link up. lasts_same w.durable;
  }) a

pub run_lasts : (net : Network) (actions : List Action) (w : World) → Lasts w.durable (run net w actions).durable
unfolding run
run_lasts net [] w = lasts_same w.durable
run_lasts net (a ∷ actions) w =
    let after : World = (step net w a).0 in lasts_then w.durable after.durable (run net after actions).durable (step_lasts net w a) (run_lasts net actions after)
