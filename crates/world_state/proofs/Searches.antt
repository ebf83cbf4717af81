-- Searching a wire for a frame with given octets.
use Rattle.std.proofs.Common.{◌≡◌, ℕ, zero, suc, ◌<◌, Bool, true, false, List, [], ◌∷◌, length, take, refl, sym, ap, ◌∙◌, Option, Some, None}
use Rattle.std.specs.Prelude.{◌==◌, find, slice_get, is_some, if◌then◌else◌}
use Rattle.std.proofs.lemmas.Option.{slice_get_within}
use Rattle.qkd_base.specs.declared.lane.Lane.{Lane}
use Rattle.net_model.specs.World.{Network, World}
use Rattle.net_model.specs.Frames.{frame_octets, octets_eq}
use Rattle.law_base.proofs.Base.{not_both, eq_same, and_both}
use Rattle.lane_sender.specs.Lane.{LaneForm}
use Rattle.world_nodes.specs.LaneStands.{LaneStands}
use Rattle.world_nodes.specs.Seeing.{IsSeen}
use Rattle.world_nodes.specs.Tampering.{put_as}
use Rattle.world_state.specs.Frames.{frame_is}
use Rattle.world_state.proofs.Passing.{on_wire_as}
use Rattle.source_devices.specs.declared.wire.Wire as Wire

some_is : {A : Type 0} {a b : A} → ◌≡◌ {A = Option A} (Some a) (Some b) → a ≡ b
some_is h = cc

-- lists

is_there : {A : Type 0} (p : A → Bool) (xs : List A) (k : ℕ) (x : A) → slice_get xs k ≡ Some x → p x ≡ true → is_some (find p xs) ≡ true
is_there p [] k x at h = absurd (cc at)
is_there {A} p (y ∷ ys) zero x at h = elim (p y) as (λ t. p y ≡ t → is_some (if t then Some y else find p ys) ≡ true) [
  | true ↦ λ is. refl
  | false ↦ λ is. absurd (not_both (p y) (ap p (some_is at) ∙ h) is)
] refl
is_there {A} p (y ∷ ys) (suc k) x at h = elim (p y) as (λ t. is_some (if t then Some y else find p ys) ≡ true) [
  | true ↦ refl
  | false ↦ is_there p ys k x at h
]

is_nowhere : {A : Type 0} (p : A → Bool) (xs : List A) → ((k : ℕ) (x : A) → slice_get xs k ≡ Some x → p x ≡ false) → is_some (find p xs) ≡ false
is_nowhere p [] h = refl
is_nowhere {A} p (y ∷ ys) h = elim (p y) as (λ t. p y ≡ t → is_some (if t then Some y else find p ys) ≡ false) [
  | true ↦ λ is. absurd (not_both (p y) is (h zero y refl))
  | false ↦ λ is. is_nowhere p ys (λ k x at. h (suc k) x at)
] refl

-- octets

pub octets_same : (xs : List ℕ) → octets_eq xs xs ≡ true
octets_same [] = refl
octets_same (x ∷ xs) = and_both (x == x) (octets_eq xs xs) (eq_same x) (octets_same xs)

-- the frames of a wire

module _ (net : Network) (w : World) (l : Lane) (octets : List ℕ) where
  found_by : (k : ℕ) (o : Option ℕ) → slice_get (w.wire l) k ≡ o → frame_is net w l octets o ≡ true → is_some (put_as net w l octets) ≡ true
  found_by k None at h = absurd (cc h)
  found_by k (Some j) at h = is_there (λ i. octets_eq (frame_octets net w l (slice_get (w.frames l) i)) octets) (w.wire l) k j at h

  pub put_there : (k : ℕ) → frame_is net w l octets (slice_get (w.wire l) k) ≡ true → is_some (put_as net w l octets) ≡ true
  put_there k h = found_by k (slice_get (w.wire l) k) refl h

  pub put_nowhere : ((k : ℕ) → k < length (w.wire l) → frame_is net w l octets (slice_get (w.wire l) k) ≡ false) → is_some (put_as net w l octets) ≡ false
  put_nowhere h =
      is_nowhere (λ i. octets_eq (frame_octets net w l (slice_get (w.frames l) i)) octets) (w.wire l)
      (λ k x at. sym (ap (frame_is net w l octets) at) ∙ h k (slice_get_within (w.wire l) k x at))

  pub none_is : (k : ℕ) → slice_get (w.wire l) k ≡ None → frame_is net w l octets (slice_get (w.wire l) k) ≡ false
  none_is k none = ap (frame_is net w l octets) none

module _ {X : Type 0} (wire_says : Wire.Ghosts X) (net : Network) (w : World) (side : LaneForm X) (s : LaneStands wire_says net w side.lane side) where
  pub seen_is : (number n : ℕ) (room given octets : List ℕ) → IsSeen (wire_says.frames side.wire) net w side.lane number n room → given ≡ take n room →
      octets_eq given octets ≡ frame_is net w side.lane octets (slice_get (w.wire side.lane) number)
  seen_is number n room given octets seen is =
      let on = on_wire_as wire_says net w side.lane side s number n room given seen is in
      ap (λ (bytes : List ℕ). octets_eq bytes octets) on.are ∙ sym (ap (frame_is net w side.lane octets) on.there)
