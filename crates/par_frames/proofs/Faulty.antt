-- The count of faults of a lane's wire.
use Rattle.std.proofs.Common.{◌≡◌, ℕ, ◌+◌, Bool, List, [], ◌∷◌, map, refl, sym, ◌∙◌, ap, subst, arith, Result, Ok, Err}
use Rattle.std.specs.Prelude.{count_by, IsErrOf}
use Rattle.qkd_base.specs.Faults.{Rose}
use Rattle.qkd_base.specs.declared.lane.Lane.{Lane}
use Rattle.net_model.specs.Action.{Environment, is_io_fault}
use Rattle.source_devices.specs.declared.wire.WireFailed.{WireFailed}
use Rattle.source_devices.specs.declared.wire.WireFailed.TheVariants.{Fault, Memory}
use Rattle.lane_sender.specs.Lane.{LaneForm}
use Rattle.lane_sender.specs.Sending.{answer_of}
use Rattle.law_locality.proofs.Counting.{one_if, count_more}
use Rattle.law_parallel.specs.Logs.{Deed, Puts, Repeats, is_wire_failure}
use Rattle.law_parallel.specs.Places.{with_number}
use Rattle.world_state.specs.Passed.{wire_answer}
use Rattle.world_state.specs.Tallied.{Counted}
use Rattle.par_frames.specs.LaneCalls.{LaneCall, ClaimsFor, PutsFor, RepeatsFor, deed_of}
use Rattle.world_state.proofs.Tallies.{counted_more, none_counted}
use Rattle.par_frames.proofs.Stepping.{Leading}
use Rattle.source_devices.specs.declared.wire.Wire as Wire

same_counted : (before after : ℕ) → after ≡ before → Counted 0 before after
same_counted before after same = subst (Counted 0 before) (sym same) (none_counted before)

one_counted : (answer : Result ℕ WireFailed) (before after : ℕ) → (IsErrOf answer Fault → Rose before after) → ((IsErrOf answer Fault → ⊥) → after ≡ before) →
    Counted (one_if (is_io_fault (wire_answer answer))) before after
one_counted (Ok n) before after cause calm = same_counted before after (calm (λ fault. cc fault))
one_counted (Err Fault) before after cause calm = record { rose = cause refl; calm = λ none. omega (arith, none) }
one_counted (Err Memory) before after cause calm = same_counted before after (calm (λ fault. cc fault))

module _ {X : Type 0} (wire_says : Wire.Ghosts X) (cap : ℕ) (l : Lane) (bytes : List ℕ) (ds : List Deed) where
  abbrev failures : List LaneCall → ℕ
  failures log = count_by is_wire_failure (map (with_number ds) (map deed_of log))

  one_more : (d : Deed) (e : Environment) (log : List LaneCall) (before between after : ℕ) → is_wire_failure d ≡ is_io_fault e → Counted (one_if (is_io_fault e)) before between →
      Counted (failures log) between after → Counted (count_by is_wire_failure (d ∷ map (with_number ds) (map deed_of log))) before after
  one_more d e log before between after is one rest =
      subst (λ (n : ℕ). Counted n before after)
      (sym (count_more is_wire_failure d (map (with_number ds) (map deed_of log)) ∙ ap (λ (t : Bool). one_if t + failures log) is))
      (counted_more (one_if (is_io_fault e)) (failures log) before between after one rest)

  pub faulty : (log : List LaneCall) (old new : LaneForm X) → Leading wire_says cap l bytes old log new → Counted (failures log) (wire_says.faults old.wire) (wire_says.faults new.wire)
  faulty [] old new h = same_counted (wire_says.faults old.wire) (wire_says.faults new.wire) (sym (ap (λ (s : LaneForm X). wire_says.faults s.wire) h))
  faulty (ClaimsFor line o grant claimed ∷ log) old new h =
      subst (λ (n : ℕ). Counted (failures log) n (wire_says.faults new.wire)) (ap (λ (s : LaneForm X). wire_says.faults s.wire) h.1.after) (faulty log h.0 new h.2)
  faulty (PutsFor claim o claimed out ∷ log) old new h =
      let e = wire_answer (answer_of out.sent) in
      one_more (with_number ds (Puts claim e)) e log (wire_says.faults old.wire) (wire_says.faults h.0.wire) (wire_says.faults new.wire) refl
      (one_counted (answer_of out.sent) (wire_says.faults old.wire) (wire_says.faults h.0.wire) h.1.cause h.1.calm) (faulty log h.0 new h.2)
  faulty (RepeatsFor r out ∷ log) old new h =
      let e = wire_answer (answer_of out.sent) in
      one_more (with_number ds (Repeats out.line r e)) e log (wire_says.faults old.wire) (wire_says.faults h.0.wire) (wire_says.faults new.wire) refl
      (one_counted (answer_of out.sent) (wire_says.faults old.wire) (wire_says.faults h.0.wire) h.1.cause h.1.calm) (faulty log h.0 new h.2)
