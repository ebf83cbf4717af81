-- What the sink and the bench's parts show after the lines of a scenario.
use Rattle.std.specs.Prelude.{◌≡◌, ℕ, ◌<◌, ◌≤◌, Bool, true, false, List, [], map, drop, Some}
use Rattle.qkd_base.specs.declared.lane.Lane.{Lane}
use Rattle.net_model.specs.declared.record.Record.{Record}
use Rattle.net_model.specs.OctetSequence.{sequence_of}
use Rattle.net_model.specs.World.{Network, World}
use Rattle.net_model.specs.Journal.{is_blank}
use Rattle.net_model.specs.Start.{may_resolve}
use Rattle.net_model.specs.Action.{Action}
use Rattle.net_model.specs.Faults.{is_disk_fault, is_random_fault, is_block_fault, is_wire_fault, armings}
use Rattle.run_model.specs.Play.{Played, Whole, ForgedAt}
use Rattle.run_model.specs.Left.{wire_octets}
use Rattle.run_model.specs.Bench.{DiskBatches, Seen, RoseWith, IsArmedWith}
use Rattle.run_model.specs.Headline.{Stop, Done, ForgedMatch, ListenFault, WriteFault, Memory, Took, TookFirst, Given, report_pieces}
use Rattle.law_recovery.specs.GivesBack.{GivesBack}
use Rattle.law_run.specs.Benched.{kept_view}

-- If the run came to its end or to a forged match, the sink took exactly the pieces of the report. If the sink failed
-- or memory ran out, it took the first of them. No listener can fail, since lines open no port.
abbrev pub IsTold : Stop → List (List ℕ) → Played → (old new : Given) → Type 0
IsTold Done nodes p old new = (p.ending ≡ Whole) × Took old new (report_pieces nodes p.items)
IsTold (ForgedMatch line) nodes p old new = (p.ending ≡ ForgedAt line) × Took old new (report_pieces nodes p.items)
IsTold ListenFault nodes p old new = ⊥
IsTold WriteFault nodes p old new = TookFirst old new (report_pieces nodes p.items)
IsTold Memory nodes p old new = TookFirst old new (report_pieces nodes p.items)

-- The batches on a node's disk give back the node's view, with the batch in doubt or without it.
pub record IsKept (net : Network) (w : World) (v : ℕ) (batches : List (List Record)) : Type 0 where
  pub committed : Bool
  pub may : may_resolve (w.in_doubt v) committed ≡ true
  pub given : GivesBack net.site v batches (kept_view net w v committed)

-- The bench shows this world, to which these actions led.
pub record IsSeen (reading : DiskBatches) (net : Network) (w : World) (actions : List Action) (seen : Seen) : Type 0 where
  pub wires : (l : Lane) (frames : List (List ℕ)) → seen.wire l ≡ Some frames → frames ≡ wire_octets net w l
  pub disks : (v : ℕ) → v < net.site.nodes → is_blank (w.journal v) ≡ false →
      (batches : List (List Record)) × (reading (seen.disk v) ≡ Some batches) × IsKept net w v batches
  pub other_disks : (v : ℕ) → net.site.nodes ≤ v → seen.disk v ≡ []
  pub left : (v : ℕ) (told rest : List ℕ) → net.entropy v ≡ sequence_of told → seen.entropy v ≡ Some rest → rest ≡ drop (w.drawn v) told
  pub disk_faults : (v : ℕ) → RoseWith (seen.disk_count v) (map (is_disk_fault net.site v) actions)
  pub entropy_faults : (v : ℕ) → RoseWith (seen.entropy_count v) (map (is_random_fault v) actions)
  pub device_faults : (link : ℕ) → RoseWith (seen.device_count link) (map (is_block_fault link) actions)
  pub wire_faults : (l : Lane) → RoseWith (seen.wire_count l) (map (is_wire_fault l) actions)
  pub armed : (v : ℕ) → IsArmedWith (seen.arming v) (armings v actions)
