-- After a block, a lane stands for the world that its log leaves.
use Rattle.std.proofs.Common.{◌≡◌, ℕ, ◌≤◌, List, [], ◌++◌, length, map, sym, ◌∙◌, ap, subst, arith}
use Rattle.std.specs.Prelude.{slice_get, IfSome}
use Rattle.std.specs.List.{flat_map, AllByRecursion}
use Rattle.std.proofs.lemmas.List.{length-map, append-nil}
use Rattle.qkd_base.specs.declared.lane.Lane.{Lane}
use Rattle.net_model.specs.World.{Network, World}
use Rattle.net_model.specs.Invariant.{Conserved}
use Rattle.net_model.specs.Action.{Environment}
use Rattle.net_model.specs.Frames.{frame_octets, octets_sent}
use Rattle.lane_sender.specs.Lane.{LaneForm}
use Rattle.world_state.specs.Passed.{IsRunning, WireStands, LaneStands}
use Rattle.world_state.specs.Tallied.{Counted}
use Rattle.law_parallel.specs.Logs.{Deed, claims_in}
use Rattle.law_parallel.specs.Puts.{LaneFrame, octets_claimed, octets_on_wire, octets_taken, own_after, frames_put, reported_from, placings_from}
use Rattle.law_parallel.specs.LaneWorks.{world_after, wire_faults_in, IsLeft}
use Rattle.law_parallel.specs.Places.{numbered}
use Rattle.law_parallel.specs.Calls.{placed_from}
use Rattle.law_parallel.proofs.Numbered.{claims_same}
use Rattle.par_frames.specs.LaneCalls.{LaneCall, deed_of, IsSound}
use Rattle.par_frames.specs.Leaving.{IsLeftBy}
use Rattle.par_frames.proofs.Faulty.{faulty}
use Rattle.par_frames.proofs.Found.{AllOfLane, all_used, puts_by, frames_are}
use Rattle.par_frames.proofs.Good.{Good, all_good}
use Rattle.par_frames.proofs.Stepping.{Leading, all_stay}
use Rattle.par_frames.proofs.Telling.{all_reported, all_placed}
use Rattle.par_frames.proofs.Wiring.{Has, taken_of, wired}
use Rattle.source_devices.specs.declared.wire.Wire as Wire

module _ {X : Type 0} (wire_says : Wire.Ghosts X) (cap : ℕ) (net : Network) (w : World) (running : IsRunning net w) (l : Lane) (all : List LaneCall)
    (logs : Lane → List Deed) (is : logs l ≡ numbered (map deed_of all)) (left : IsLeft net w logs l) (after : Conserved net (world_after net w logs)) (of : AllOfLane net w l all)
    (old new : LaneForm X) (before : LaneStands wire_says net w l old) (h : Leading wire_says cap l (octets_sent net w l) old all new)
    (sound : AllByRecursion (IsSound l (octets_sent net w l) all) (placed_from 0 all)) where
  abbrev base : List (List ℕ)
  base = octets_on_wire net w l

  good : AllByRecursion (Good net w l all) all
  good = all_good net w l all running of sound

  -- The frames that were put are those of the log.
  abbrev puts : List (LaneFrame × Environment)
  puts = flat_map (puts_by net w l all) all

  puts_are : frames_put w l (logs l) ≡ puts
  puts_are = ap (frames_put w l) is ∙ frames_are wire_says cap net w l (octets_sent net w l) all old new h of before.used sound

  -- ---- the lane's bytes

  used_after : new.ledger.used ≡ length (own_after w l (logs l))
  used_after =
      let own = left.used in
      let same : octets_claimed w.durable.facts (claims_in (logs l)) ≡ octets_claimed w.durable.facts (claims_in (map deed_of all)) =
      ap (λ (ds : List Deed). octets_claimed w.durable.facts (claims_in ds)) is ∙ ap (octets_claimed w.durable.facts) (claims_same (map deed_of all) (map deed_of all)) in
      let goes = all_used wire_says cap net w l (octets_sent net w l) all old new h of in
      let was = before.used in omega (arith, own, same, goes, was)

  within : new.ledger.used ≤ w.durable.lease l
  within =
      let planned = (after.now.room l).planned in
      let used = used_after in omega (arith, planned, used)

  -- ---- the lane's wire

  has_before : Has wire_says old.wire (base ++ [])
  has_before = subst (Has wire_says old.wire) (sym (append-nil base)) (record {
    count = before.wire.count ∙ sym (length-map (w.wire l) (λ (j : ℕ). frame_octets net w l (slice_get (w.frames l) j)));
    tells = before.wire.tells;
    told = before.wire.told;
  })

  has_after : Has wire_says new.wire (base ++ octets_taken net w l (logs l))
  has_after =
      subst (λ (ps : List (LaneFrame × Environment)). Has wire_says new.wire (base ++ taken_of wire_says cap net w l all ps)) (sym puts_are)
      (wired wire_says cap net w l all all old new h good [] has_before)

  wire_after : WireStands wire_says net (world_after net w logs) l new.wire
  wire_after =
      let spelled : octets_on_wire net (world_after net w logs) l ≡ base ++ octets_taken net w l (logs l) = left.wire in
      record {
        count = has_after.count ∙ ap length (sym spelled) ∙ length-map ((world_after net w logs).wire l) (λ (j : ℕ). frame_octets net w l (slice_get ((world_after net w logs).frames l) j));
        tells = has_after.tells;
        told = subst (λ (xs : List (List ℕ)). IfSome (wire_says.frames new.wire) (λ x. x ≡ xs)) (sym spelled) has_after.told;
      }

  -- ---- the whole lane

  stands_after : LaneStands wire_says net (world_after net w logs) l new
  stands_after =
      let stay = all_stay wire_says cap l (octets_sent net w l) all old new h in
      record {
        lane = stay.lane ∙ before.lane;
        bytes = stay.octets ∙ before.bytes;
        received = stay.received ∙ before.received;
        used = used_after;
        burnt = stay.burnt ∙ before.burnt ∙ sym left.burnt;
        end = stay.end (w.durable.lease l) before.end within;
        wire = wire_after;
      }

  pub left_by : IsLeftBy wire_says net w logs l all old new
  left_by = record {
    stands = stands_after;
    reported = all_reported net w l wire_says cap all all old new h good (length (w.wire l)) (sym before.wire.count)
        ∙ ap (reported_from w.durable.facts l (length (w.wire l))) (sym puts_are);
    placed = all_placed net w l wire_says cap all all old new h good (length (w.wire l)) (sym before.wire.count)
        ∙ ap (placings_from net w l (length (w.wire l))) (sym puts_are);
    faulty = subst (λ (ds : List Deed). Counted (wire_faults_in ds) (wire_says.faults old.wire) (wire_says.faults new.wire)) (sym is)
        (faulty wire_says cap l (octets_sent net w l) (map deed_of all) all old new h);
  }
