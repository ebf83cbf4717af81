-- A block that is done in sequence: the managers' turns, node by node, and then the frames, one by one.
use Rattle.std.specs.Prelude.{◌≡◌, ℕ, true, List, ◌++◌, map, slice_get, length, Some, None}
use Rattle.std.specs.List.{list_all}
use Rattle.qkd_base.specs.declared.lane.Lane.{Lane}
use Rattle.net_model.specs.Site.{count_up}
use Rattle.net_model.specs.World.{Network, World}
use Rattle.net_model.specs.Action.{Action}
use Rattle.net_model.specs.Step.{run, IsRun}
use Rattle.net_model.specs.BlockOrder.{IsMerge, is_by_lane, is_wire_answer, completions}
use Rattle.net_model.specs.Faults.{disk_faults, entropy_faults, device_faults, wire_faults, armings}
use Rattle.run_model.specs.Works.{Work, Works, actions_in, flat, plain_work, done_from, turns_done, claimed, block_run}
use Rattle.run_model.specs.Block.{puts_of}
use Rattle.run_ops.specs.Quiet.{IsQuiet}
use Rattle.run_ops.specs.declared.job.Job.{Job}
use Rattle.run_ops.specs.Jobs.{asked_by}
use Rattle.run_ops.specs.Together.{AreWorks, turn_done}
use Rattle.law_parallel.specs.Putting.{Putting, lane_of, wanted_by, is_wanted, one_by_one, claims_of, puts_in}
use Rattle.law_parallel.specs.Remaining.{AreTheSame}

-- The world after the managers' turns, and the world after the frames.
abbrev pub turns_over : Network → World → List (List Work) → World
turns_over net w histories = run net w (actions_in (flat histories))

-- All actions of the block, in sequence.
abbrev pub in_order : Network → World → List (List Work) → List Putting → List Action
in_order net w histories ps =
    actions_in (flat histories) ++ actions_in (one_by_one net (turns_over net w histories) ps) ++ completions net

-- Node by node, each manager did a merge of what the workers ask of it, where each worker asks in the order of its
-- jobs. Then, lane by lane, the frames that the plans order were put or refused. On each lane they came in the order
-- in which they were ordered.
pub record IsInOrder (net : Network) (workers : ℕ) (w : World) (jobs : List Job) (histories : List (List Work)) (ps : List Putting) : Type 0 where
  pub nodes : length histories ≡ net.site.nodes
  pub merged : (v : ℕ) (h : List Work) → slice_get histories v ≡ Some h → IsMerge (map (λ k. asked_by net.site workers k v 0 jobs) (count_up workers)) (map plain_work h)
  pub turns : IsRun net w (actions_in (flat histories))
  pub wanted : AreTheSame (map is_wanted ps) (wanted_by (done_from net w (flat histories)))
  pub by_lane : is_by_lane (map (λ (p : Putting). lane_of p.emission) ps) ≡ true
  pub answered : list_all (λ (p : Putting). is_wire_answer p.answer) ps ≡ true
  pub puts : IsRun net (turns_over net w histories) (actions_in (one_by_one net (turns_over net w histories) ps))

-- The works of the block.
abbrev pub works_of : Network → World → List (List Work) → List Putting → Works
works_of net w histories ps =
    record { histories = histories; claims = claims_of ps; puts = puts_in (one_by_one net (turns_over net w histories) ps); left_out = None }

-- What was done in sequence is a block that this number of workers may do, with the same replies, reports, faults and
-- world.
pub record IsOneBlock (net : Network) (workers : ℕ) (w : World) (jobs : List Job) (histories : List (List Work)) (ps : List Putting) : Type 0 where
  pub are : AreWorks net workers w jobs (works_of net w histories ps)
  pub turns : map turn_done (flat (turns_done net w (works_of net w histories ps))) ≡ map turn_done (done_from net w (flat histories))
  pub reported : puts_of (done_from net (claimed net w (works_of net w histories ps)) (puts_in (one_by_one net (turns_over net w histories) ps)))
      ≡ puts_of (done_from net (turns_over net w histories) (one_by_one net (turns_over net w histories) ps))
  pub after : run net w (block_run net (works_of net w histories ps)) ≡ run net w (in_order net w histories ps)
  pub quiet : IsQuiet (run net w (in_order net w histories ps))
  pub disks : (v : ℕ) → disk_faults net.site v (block_run net (works_of net w histories ps)) ≡ disk_faults net.site v (in_order net w histories ps)
  pub entropies : (v : ℕ) → entropy_faults v (block_run net (works_of net w histories ps)) ≡ entropy_faults v (in_order net w histories ps)
  pub devices : (link : ℕ) → device_faults link (block_run net (works_of net w histories ps)) ≡ device_faults link (in_order net w histories ps)
  pub wires : (l : Lane) → wire_faults l (block_run net (works_of net w histories ps)) ≡ wire_faults l (in_order net w histories ps)
  pub armed : (v : ℕ) → armings v (block_run net (works_of net w histories ps)) ≡ armings v (in_order net w histories ps)
