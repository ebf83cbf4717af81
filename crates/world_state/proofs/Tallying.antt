-- Putting a frame adds to no count but the faults of the frame's wire.
use Rattle.std.proofs.Common.{◌≡◌, ℕ, ◌+◌, Bool, true, false, ◌&&◌, List, [], ◌∷◌, length, refl, sym, ap, subst, ◌∙◌, arith, Some, Result, Ok, Err}
use Rattle.std.specs.Prelude.{slice_get, cond, IsErrOf}
use Rattle.qkd_base.specs.Faults.{Rose}
use Rattle.qkd_base.specs.Lane.{lane_eq}
use Rattle.qkd_base.specs.declared.lane.Lane.{Lane}
use Rattle.net_model.specs.Site.{Site}
use Rattle.net_model.specs.World.{Transmission}
use Rattle.net_model.specs.Action.{Action, Allocate, Transmit, is_io_fault}
use Rattle.net_model.specs.Faults.{disk_faults, entropy_faults, device_faults, wire_faults, armings}
use Rattle.source_devices.specs.declared.wire.WireFailed.{WireFailed}
use Rattle.source_devices.specs.declared.wire.WireFailed.TheVariants.{Fault, Memory}
use Rattle.world_nodes.specs.Passed.{Post}
use Rattle.lane_sender.specs.Lane.{LaneForm}
use Rattle.law_base.proofs.Base.{lane_same}
use Rattle.law_locality.proofs.TickPuts.{lanes_apart}
use Rattle.world_nodes.specs.Emitting.{wire_answer}
use Rattle.world_state.specs.Stands.{place_of}
use Rattle.world_state.specs.Tallied.{Counted, PostTallied, Tallied}
use Rattle.world_nodes.specs.Counts.{disk_of}
use Rattle.world_state.specs.declared.state.State.{State}
use Rattle.world_state.proofs.Tallies.{none_counted, none_tallied}
use Rattle.world_state.proofs.OneSide.{some_same, OneSide, sides_same, each_side}
use Rattle.world_state.specs.Outside.{Outside}

pub same_counted : (a b : ℕ) → b ≡ a → Counted 0 a b
same_counted a b same = subst (Counted 0 a) (sym same) (none_counted a)

-- the number of failures of a wire, by its answer
abbrev pub failed : Bool → ℕ
failed t = 0 + cond t 1 0

mine_counted : (answer : Result ℕ WireFailed) (t : Bool) (before now : ℕ) → t ≡ true → (IsErrOf answer Fault → Rose before now) → ((IsErrOf answer Fault → ⊥) → now ≡ before) →
    Counted (failed (t && is_io_fault (wire_answer answer))) before now
mine_counted (Ok n) true before now is cause calm = same_counted before now (calm (λ fault. cc fault))
mine_counted (Err Fault) true before now is cause calm = record { rose = cause refl; calm = λ none. omega (arith, none) }
mine_counted (Err Memory) true before now is cause calm = same_counted before now (calm (λ fault. cc fault))
mine_counted answer false before now is cause calm = cc

other_counted : (t : Bool) (fault : Bool) (count : ℕ) → t ≡ false → Counted (failed (t && fault)) count count
other_counted false fault count is = none_counted count
other_counted true fault count is = cc

module _ {K Q E X : Type 0} (outside : Outside K Q E X) (site : Site)
    (old new : State K Q E X) (l : Lane) (before now : LaneForm X) (one : OneSide old new l before now)
    (disks : (v : ℕ) (p : Post K E) → slice_get old.posts.items v ≡ Some p → (k : K) × (disk_of p ≡ Some k))
    (j : ℕ) (answer : Result ℕ WireFailed) (cause : IsErrOf answer Fault → Rose (outside.wire.faults before.wire) (outside.wire.faults now.wire))
    (calm : (IsErrOf answer Fault → ⊥) → outside.wire.faults now.wire ≡ outside.wire.faults before.wire) where
  abbrev All : List Action → Type 0
  All actions = Tallied outside old new site actions

  abbrev none : Tallied outside old old site []
  none = none_tallied outside site old disks

  post_there : (v : ℕ) (p q : Post K E) → slice_get old.posts.items v ≡ Some p → slice_get new.posts.items v ≡ Some q → PostTallied outside.disk outside.entropy site v [] p q
  post_there v p q was is = none.posts v p q was (ap (λ (ps : List (Post K E)). slice_get ps v) (sym one.posts) ∙ is)

  device_there : (link : ℕ) (p q : Q) → slice_get old.devices.items link ≡ Some p → slice_get new.devices.items link ≡ Some q → Counted (device_faults link []) (outside.device.faults p) (outside.device.faults q)
  device_there link p q was is = none.devices link p q was (ap (λ (qs : List Q). slice_get qs link) (sym one.devices) ∙ is)

  wire_there : (k : Lane) (p q : LaneForm X) → slice_get old.lanes.items (place_of k) ≡ Some p → slice_get new.lanes.items (place_of k) ≡ Some q →
      Counted (failed (lane_eq l k && is_io_fault (wire_answer answer))) (outside.wire.faults p.wire) (outside.wire.faults q.wire)
  wire_there k p q was is =
      each_side old new l before now one
      (λ m x. (y : LaneForm X) → slice_get old.lanes.items (place_of m) ≡ Some y → Counted (failed (lane_eq l m && is_io_fault (wire_answer answer))) (outside.wire.faults y.wire) (outside.wire.faults x.wire))
      (λ y at.
      let same : before ≡ y = some_same (sym one.there ∙ at) in
      subst (λ (x : LaneForm X). Counted (failed (lane_eq l l && is_io_fault (wire_answer answer))) (outside.wire.faults x.wire) (outside.wire.faults now.wire)) same
      (mine_counted answer (lane_eq l l) (outside.wire.faults before.wire) (outside.wire.faults now.wire) (lane_same l) cause calm))
      (λ m x apart at y was.
      let same : x ≡ y = some_same (sym at ∙ was) in
      subst (λ (z : LaneForm X). Counted (failed (lane_eq l m && is_io_fault (wire_answer answer))) (outside.wire.faults z.wire) (outside.wire.faults x.wire)) same
      (other_counted (lane_eq l m) (is_io_fault (wire_answer answer)) (outside.wire.faults x.wire) (lanes_apart m l apart)))
      k q is p was

  post_put : (v : ℕ) (p q : Post K E) → PostTallied outside.disk outside.entropy site v [] p q → PostTallied outside.disk outside.entropy site v (Transmit l j (wire_answer answer) ∷ []) p q
  unfolding disk_faults entropy_faults armings
  post_put v p q h = record { before = h.before; now = h.now; was = h.was; is = h.is; failed = h.failed; armed_with = h.armed_with; refused = h.refused }

  post_emitted : (t : Transmission) (v : ℕ) (p q : Post K E) → PostTallied outside.disk outside.entropy site v [] p q → PostTallied outside.disk outside.entropy site v (Allocate t ∷ Transmit l j (wire_answer answer) ∷ []) p q
  unfolding disk_faults entropy_faults armings
  post_emitted t v p q h = record { before = h.before; now = h.now; was = h.was; is = h.is; failed = h.failed; armed_with = h.armed_with; refused = h.refused }

  pub put_tallied : All (Transmit l j (wire_answer answer) ∷ [])
  unfolding device_faults wire_faults
  put_tallied = record {
    nodes = ap length one.posts;
    posts = λ v p q was is. post_put v p q (post_there v p q was is);
    links = ap length one.devices;
    devices = device_there;
    sides = sides_same old new l before now one;
    wires = wire_there;
  }

  pub emitted_tallied : (t : Transmission) → All (Allocate t ∷ Transmit l j (wire_answer answer) ∷ [])
  unfolding device_faults wire_faults
  emitted_tallied t = record {
    nodes = ap length one.posts;
    posts = λ v p q was is. post_emitted t v p q (post_there v p q was is);
    links = ap length one.devices;
    devices = device_there;
    sides = sides_same old new l before now one;
    wires = wire_there;
  }
