-- A block whose lanes do what the plans order on them, in any order.
use Rattle.std.specs.Prelude.{◌≡◌, ℕ, ◌+◌, ◌==◌, true, false, List, [], ◌++◌, length, map, filter, count_by, slice_get, Some, None}
use Rattle.std.specs.List.{list_all, flat_map, AllByRecursion}
use Rattle.qkd_base.specs.declared.lane.Lane.{Lane}
use Rattle.net_model.specs.declared.placing.Placing.{Placing}
use Rattle.net_model.specs.Site.{sender, count_up}
use Rattle.net_model.specs.World.{Network, World}
use Rattle.net_model.specs.Ledger.{is_burnt}
use Rattle.net_model.specs.Invariant.{Conserved}
use Rattle.net_model.specs.Events.{is_lane}
use Rattle.net_model.specs.Tick.{ordered}
use Rattle.net_model.specs.Action.{Environment, Action, Allocate, Transmit}
use Rattle.net_model.specs.Step.{run, IsRun}
use Rattle.net_model.specs.BlockOrder.{IsMerge, completions}
use Rattle.net_model.specs.Faults.{disk_faults, entropy_faults, device_faults, wire_faults, armings}
use Rattle.run_model.specs.Lines.{all_lanes}
use Rattle.run_model.specs.Works.{Work, Works, actions_in, flat, plain_work, done_from, turns_done, block_run}
use Rattle.run_model.specs.Block.{puts_on}
use Rattle.run_ops.specs.Quiet.{IsQuiet}
use Rattle.run_ops.specs.declared.job.Job.{Job}
use Rattle.run_ops.specs.Jobs.{asked_by}
use Rattle.run_ops.specs.Together.{AreWorks, turn_done, puts_reported}
use Rattle.law_locality.specs.Touched.{ManagerStays}
use Rattle.law_parallel.specs.Putting.{wanted_by}
use Rattle.law_parallel.specs.InOrder.{turns_over}
use Rattle.law_parallel.specs.Logs.{Deed, claims_in, claims_put, done_for_plans, is_answered, is_wire_failure, HaveTheSame, wanted_on}
use Rattle.law_parallel.specs.Puts.{LaneFrame, allocation_of, octets_claimed, octets_on_wire, octets_taken, frames_put, own_after, frames_after, wire_after, reported_on, placings_on}

-- Each manager did a merge of what the workers ask of it, where each worker asks in the order of its jobs. Meanwhile
-- or afterwards, each lane did exactly what the plans order on it, each deed once and in any order. It claimed bytes
-- for new orders, put the frame of each claim, and repeated frames.
pub record AreLaneWorks (net : Network) (workers : ℕ) (w : World) (jobs : List Job) (histories : List (List Work)) (logs : Lane → List Deed) : Type 0 where
  pub nodes : length histories ≡ net.site.nodes
  pub merged : (v : ℕ) (h : List Work) → slice_get histories v ≡ Some h → IsMerge (map (λ k. asked_by net.site workers k v 0 jobs) (count_up workers)) (map plain_work h)
  pub turns : IsRun net w (actions_in (flat histories))
  pub wanted : (l : Lane) → is_lane net.site l ≡ true → HaveTheSame (done_for_plans (logs l)) (wanted_on l (wanted_by (done_from net w (flat histories))))
  pub put : (l : Lane) → is_lane net.site l ≡ true → HaveTheSame (claims_put (logs l)) (count_up (length (claims_in (logs l))))
  pub answered : (l : Lane) → is_lane net.site l ≡ true → list_all is_answered (logs l) ≡ true
  pub undeclared : (l : Lane) → is_lane net.site l ≡ false → logs l ≡ []

-- The claims of all lanes and the puts of all lanes, lane by lane, in the order of each lane's log.

abbrev pub claims_of : List Deed → List Action
claims_of log = map (λ x. Allocate (ordered x.1)) (claims_in log)

abbrev pub put_of : Lane → LaneFrame × Environment → Work
put_of l p = record { place = (p.0).place; action = Transmit l (p.0).number p.1 }

abbrev pub puts_of : World → Lane → List Deed → List Work
puts_of w l log = map (put_of l) (frames_put w l log)

-- The works of the block.
abbrev pub works_of : Network → World → List (List Work) → (Lane → List Deed) → Works
works_of net w histories logs =
    record {
      histories = histories;
      claims = flat_map (λ l. claims_of (logs l)) (all_lanes net.site);
      puts = flat_map (λ l. puts_of (turns_over net w histories) l (logs l)) (all_lanes net.site);
      left_out = None;
    }

-- What the block leaves.

-- The notes for a node on what became of its frames, lane by lane for the lanes that leave the node.
abbrev pub placings_after : Network → World → (Lane → List Deed) → ℕ → List Placing
placings_after net w logs v = flat_map (λ l. placings_on net w l (logs l)) (filter (λ (l : Lane). sender net.site l == v) (all_lanes net.site))

-- The world after the lanes did all their work: the bytes, frames and wire of each lane, and the notes on what became
-- of the frames. No order or frame waits any more. Everything else stays.
abbrev pub world_after : Network → World → (Lane → List Deed) → World
world_after net w logs =
    record w {
      durable = record (w.durable) { own = λ l. own_after w l (logs l) };
      frames = λ l. frames_after w l (logs l);
      wire = λ l. wire_after w l (logs l);
      unclaimed = λ l. [];
      outgoing = λ l. [];
      placings = placings_after net w logs;
    }

-- What the log leaves of a lane. The claimed bytes are used, and none is burnt. The lane's list has each frame that
-- was put under its number. The wire has its old frames, and after them the octets of the frames that it took.
pub record IsLeft (net : Network) (w : World) (logs : Lane → List Deed) (l : Lane) : Type 0 where
  pub used : length (own_after w l (logs l)) ≡ length (w.durable.own l) + octets_claimed w.durable.facts (claims_in (logs l))
  pub burnt : count_by is_burnt (own_after w l (logs l)) ≡ count_by is_burnt (w.durable.own l)
  pub places : AllByRecursion (λ (p : LaneFrame × Environment). slice_get (frames_after w l (logs l)) (p.0).number ≡ Some (allocation_of p.0)) (frames_put w l (logs l))
  pub wire : octets_on_wire net (world_after net w logs) l ≡ octets_on_wire net w l ++ octets_taken net w l (logs l)

-- The number of wire failures in a log.
abbrev pub wire_faults_in : List Deed → ℕ
wire_faults_in log = count_by is_wire_failure log

-- What was done is a block that this number of workers may do, with the same replies. The reports of the frames, the
-- world afterwards and the number of faults depend only on the turns and the logs. Until it is told what became of
-- its frames, each manager sees what it saw after its turns.
pub record IsLaneBlock (net : Network) (workers : ℕ) (w : World) (jobs : List Job) (histories : List (List Work)) (logs : Lane → List Deed) : Type 0 where
  pub are : AreWorks net workers w jobs (works_of net w histories logs)
  pub turns : map turn_done (flat (turns_done net w (works_of net w histories logs))) ≡ map turn_done (done_from net w (flat histories))
  pub reported : puts_reported net w (works_of net w histories logs) ≡ flat_map (λ l. puts_on (reported_on (turns_over net w histories) l (logs l)) l) (all_lanes net.site)
  pub after : run net w (block_run net (works_of net w histories logs)) ≡ run net (world_after net (turns_over net w histories) logs) (completions net)
  pub conserved : Conserved net (world_after net (turns_over net w histories) logs)
  pub managers : (v : ℕ) → ManagerStays net v (turns_over net w histories) (world_after net (turns_over net w histories) logs)
  pub lanes : (l : Lane) → IsLeft net (turns_over net w histories) logs l
  pub quiet : IsQuiet (run net w (block_run net (works_of net w histories logs)))
  pub disks : (v : ℕ) → disk_faults net.site v (block_run net (works_of net w histories logs)) ≡ disk_faults net.site v (actions_in (flat histories))
  pub entropies : (v : ℕ) → entropy_faults v (block_run net (works_of net w histories logs)) ≡ entropy_faults v (actions_in (flat histories))
  pub devices : (link : ℕ) → device_faults link (block_run net (works_of net w histories logs)) ≡ device_faults link (actions_in (flat histories))
  pub wires : (l : Lane) → wire_faults l (block_run net (works_of net w histories logs)) ≡ wire_faults_in (logs l)
  pub armed : (v : ℕ) → armings v (block_run net (works_of net w histories logs)) ≡ armings v (actions_in (flat histories))
