-- What lanes do in any order is something that the workers may do.
use Rattle.std.proofs.Common.{sym, ◌≡◌, ℕ, ◌≤◌, List, refl, ◌∙◌, ap, subst}
use Rattle.std.specs.Prelude.{count_by}
use Rattle.qkd_base.specs.declared.lane.Lane.{Lane}
use Rattle.net_model.specs.Action.{Action}
use Rattle.net_model.specs.World.{Network, World}
use Rattle.net_model.specs.Needed.{view_of}
use Rattle.net_model.specs.Premises.{IsNetwork}
use Rattle.net_model.specs.Invariant.{Conserved}
use Rattle.net_model.specs.BlockOrder.{completions}
use Rattle.net_model.specs.Faults.{disk_faults, entropy_faults, device_faults, wire_faults, armings}
use Rattle.net_model.specs.Step.{run}
use Rattle.run_model.specs.Works.{Work, Works, flat, block_run}
use Rattle.run_ops.specs.Quiet.{IsQuiet}
use Rattle.run_ops.specs.declared.job.Job.{Job}
use Rattle.run_ops.specs.Together.{AreWorks}
use Rattle.law_parallel.specs.InOrder.{turns_over}
use Rattle.law_parallel.specs.Logs.{Deed}
use Rattle.law_parallel.specs.LaneWorks.{AreLaneWorks, works_of, world_after, wire_faults_in, IsLaneBlock}
use Rattle.law_parallel.proofs.AllClaims.{all_claims, all_orders}
use Rattle.law_parallel.proofs.LaneBlock.{alone, are_turns, put_here, is_block}
use Rattle.law_parallel.proofs.Failures.{in_block, fails, disks_in_turns, entropies_in_turns, devices_in_turns, armed_in_turns, failures, wires_in_logs}
use Rattle.law_parallel.proofs.LastWorld.{then', claims_go, last_conserved, begun, all, made, last, is_run, leads_to, last_is, is_quiet}
use Rattle.law_parallel.proofs.LanesLeft.{left}
use Rattle.law_parallel.proofs.Placings.{placings_are}
use Rattle.law_parallel.proofs.LanePutFor.{put_for}
use Rattle.law_parallel.proofs.Unseen.{claims_unseen, puts_unseen}
use Rattle.law_parallel.proofs.Reports.{puts_lane, frames_reported}

module _ (net : Network) (network : IsNetwork net) (workers : ℕ) (some : 1 ≤ workers) (w : World) (c : Conserved net w) (quiet : IsQuiet w) (jobs : List Job) (histories : List (List Work))
    (logs : Lane → List Deed) (h : AreLaneWorks net workers w jobs histories logs) where
  abbrev done : Works
  done = works_of net w histories logs

  are : AreWorks net workers w jobs done
  are = record {
    whole = refl;
    block = is_block net network workers w c quiet jobs histories logs h;
    merged = h.merged;
    put = put_for net network workers some w c quiet jobs histories logs h;
  }

  abbrev turns : List Action
  turns = all net network workers some w c quiet jobs histories logs h

  run_is : block_run net done ≡ in_block net turns (all_orders net.site logs) (made net network workers some w c quiet jobs histories logs h)
  run_is = is_run net network workers some w c quiet jobs histories logs h

  wire_failures : (l : Lane) → wire_faults l (block_run net done) ≡ wire_faults_in (logs l)
  wire_failures l =
      ap (wire_faults l) run_is
      ∙ wires_in_logs net (flat histories) (all_orders net.site logs) (made net network workers some w c quiet jobs histories logs h) l (are_turns net network workers w c quiet jobs histories logs h)
      ∙ ap (count_by fails) (puts_lane net network workers some w c quiet jobs histories logs h l)
      ∙ failures (begun net network workers some w c quiet jobs histories logs h) l (logs l) (put_here net network workers w c quiet jobs histories logs h l)

  left_is : last net network workers some w c quiet jobs histories logs h ≡ world_after net (turns_over net w histories) logs
  left_is =
      last_is net network workers some w c quiet jobs histories logs h
      ∙ λ i. record (world_after net (turns_over net w histories) logs) { placings = λ v. placings_are net network workers some w c quiet jobs histories logs h v i }

  sees_the_same : (v : ℕ) → view_of net (world_after net (turns_over net w histories) logs) v ≡ view_of net (turns_over net w histories) v
  sees_the_same v =
      ap (λ (x : World). view_of net x v) (sym left_is)
      ∙ puts_unseen net v (made net network workers some w c quiet jobs histories logs h) (then' net network workers some w c quiet jobs histories logs h)
      ∙ claims_unseen net v (all_claims net.site logs) (turns_over net w histories) (claims_go net network workers some w c quiet jobs histories logs h)

  pub one_block : IsLaneBlock net workers w jobs histories logs
  one_block = record {
    are = are;
    turns = (alone net network workers w c quiet jobs histories logs h).same;
    reported = frames_reported net network workers some w c quiet jobs histories logs h;
    after = leads_to net network workers some w c quiet jobs histories logs h ∙ ap (λ (x : World). run net x (completions net)) left_is;
    conserved = subst (Conserved net) left_is (last_conserved net network workers some w c quiet jobs histories logs h);
    managers = λ v. record {
      view = sees_the_same v;
      up = refl;
      drawn = refl;
      journal = refl;
      interrupted = refl;
      in_doubt = refl;
      volatile = refl;
    };
    lanes = left net network workers some w c quiet jobs histories logs h;
    quiet = is_quiet net network workers some w c quiet jobs histories logs h;
    disks = λ v. ap (disk_faults net.site v) run_is ∙ disks_in_turns net turns (all_orders net.site logs) (made net network workers some w c quiet jobs histories logs h) v;
    entropies = λ v. ap (entropy_faults v) run_is ∙ entropies_in_turns net turns (all_orders net.site logs) (made net network workers some w c quiet jobs histories logs h) v;
    devices = λ link. ap (device_faults link) run_is ∙ devices_in_turns net turns (all_orders net.site logs) (made net network workers some w c quiet jobs histories logs h) link;
    wires = wire_failures;
    armed = λ v. ap (armings v) run_is ∙ armed_in_turns net turns (all_orders net.site logs) (made net network workers some w c quiet jobs histories logs h) v;
  }
