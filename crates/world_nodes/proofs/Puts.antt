-- A frame that may be put on a wire is put there or refused.
use Rattle.std.proofs.Common.{◌≡◌, ℕ, ◌≤◌, true, ◌&&◌, List, [], ◌∷◌, length, refl, sym, ◌∙◌, ap, subst, arith, Some, Result, Ok, Err}
use Rattle.std.specs.Prelude.{is_some, slice_get}
use Rattle.qkd_base.specs.declared.lane.Lane.{Lane}
use Rattle.net_model.specs.declared.payload.Payload.{Payload}
use Rattle.net_model.specs.declared.payload.Payload.TheVariants.{Data, Ack}
use Rattle.net_model.specs.Facts.{IsWellFormed}
use Rattle.net_model.specs.Ranges.{IsRanged}
use Rattle.net_model.specs.Site.{sender, receiver}
use Rattle.net_model.specs.Item.{Item, DataItem, AckItem, payload}
use Rattle.net_model.specs.World.{Network, World, Allocation, Outgoing}
use Rattle.net_model.specs.Knowledge.{IsFactOf, MayCarry}
use Rattle.net_model.specs.Action.{Action, Transmit, Outcome, Put, is_shown, environment_of}
use Rattle.net_model.specs.Frames.{frame_octets, sealed, octets_sent, outgoing_of, put, transmit_one, transmit}
use Rattle.net_model.specs.Events.{is_lane}
use Rattle.net_model.specs.Step.{step, is_enabled, is_step, is_run, run, outcomes, IsRun}
use Rattle.frame_codec.proofs.Writes.{payload_range}
use Rattle.hop_frames.proofs.Octets.{payload_is}
use Rattle.source_devices.specs.declared.wire.WireFailed.{WireFailed}
use Rattle.source_devices.specs.declared.wire.WireFailed.TheVariants.{Fault, Memory}
use Rattle.lane_sender.specs.Sending.{sent_frame}
use Rattle.law_base.proofs.Base.{and_both}
use Rattle.law_base.proofs.Tables.{found_name, ranged_name}
use Rattle.law_base.proofs.Growth.{sealable}
use Rattle.qkd_base.specs.Name.{IsName}
use Rattle.world_nodes.specs.LaneStands.{IsRunning}
use Rattle.world_nodes.specs.Emitting.{wire_answer, wire_outcome, offset_of}
use Rattle.world_nodes.proofs.Wires.{added, numbered, IsNext}

-- two actions in order
pub two_steps : (net : Network) (w w₁ w₂ : World) (a b : Action) (x y : Outcome) → step net w a ≡ (w₁, x) → step net w₁ b ≡ (w₂, y) →
    is_enabled net w a ≡ true → is_shown (environment_of a) x ≡ true → is_enabled net w₁ b ≡ true → is_shown (environment_of b) y ≡ true →
    IsRun net w (a ∷ b ∷ []) × (run net w (a ∷ b ∷ []) ≡ w₂) × (outcomes net w (a ∷ b ∷ []) ≡ x ∷ y ∷ [])
unfolding run is_run outcomes
two_steps net w w₁ w₂ a b x y first second may shown may' shown' = (
  and_both (is_step net w a) (is_step net (step net w a).0 b && true)
      (and_both (is_enabled net w a) (is_shown (environment_of a) (step net w a).1) may (ap (λ (r : World × Outcome). is_shown (environment_of a) r.1) first ∙ shown))
      (and_both (is_step net (step net w a).0 b) true
      (ap (λ (r : World × Outcome). is_step net r.0 b) first
      ∙ and_both (is_enabled net w₁ b) (is_shown (environment_of b) (step net w₁ b).1) may' (ap (λ (r : World × Outcome). is_shown (environment_of b) r.1) second ∙ shown'))
      refl),
  ap (λ (r : World × Outcome). (step net r.0 b).0) first ∙ ap (λ (r : World × Outcome). r.0) second,
  ap (λ (r : World × Outcome). r.1 ∷ (step net r.0 b).1 ∷ []) first ∙ ap (λ (r : World × Outcome). x ∷ r.1 ∷ []) second,
)

-- a frame that was sent, and the wire's answer
pub sent_offset : (offset : ℕ) (frame : List ℕ) (answer : Result ℕ WireFailed) → offset_of (sent_frame offset frame answer) ≡ offset
sent_offset offset frame (Ok n) = refl
sent_offset offset frame (Err e) = refl

-- the frames that may be put

pub is_seen : (answer : Result ℕ WireFailed) → is_shown (wire_answer answer) (wire_outcome answer) ≡ true
is_seen (Ok n) = refl
is_seen (Err Fault) = refl
is_seen (Err Memory) = refl

module _ (net : Network) (w : World) (l : Lane) (o : Outgoing) (there : outgoing_of o.frame (w.outgoing l) ≡ Some o) where
  abbrev pub put_by : Result ℕ WireFailed → World
  put_by answer = put net w l o (added answer (w.wire l) o.frame) (numbered answer (length (w.wire l)))

  pub is_put : (answer : Result ℕ WireFailed) → IsNext answer (length (w.wire l)) → transmit net w l o.frame (wire_answer answer) ≡ (put_by answer, wire_outcome answer)
  unfolding transmit
  is_put (Ok n) next = ap (transmit_one net w l (wire_answer (Ok n))) there ∙ ap (λ (k : ℕ). (put_by (Ok n), Put k)) (sym next)
  is_put (Err Fault) next = ap (transmit_one net w l (wire_answer (Err Fault))) there
  is_put (Err Memory) next = ap (transmit_one net w l (wire_answer (Err Memory))) there

  pub is_enabled_put : is_lane net.site l ≡ true → (answer : Result ℕ WireFailed) → is_enabled net w (Transmit l o.frame (wire_answer answer)) ≡ true
  unfolding is_enabled
  is_enabled_put at answer = and_both (is_lane net.site l) (is_some (outgoing_of o.frame (w.outgoing l))) at (ap is_some there)

-- A frame of a lane has at most 600 octets.

module _ (net : Network) (w : World) (r : IsRunning net w) (l : Lane) (at : is_lane net.site l ≡ true) (j : ℕ) (a : Allocation) (there : slice_get (w.frames l) j ≡ Some a) where
  short_as : (p : Payload) → payload w.durable.facts a.item ≡ Some p → IsWellFormed p → IsRanged p → length (frame_octets net w l (Some a)) ≤ 600
  short_as p is formed ranged =
      let size = r.network.sealing.size l (octets_sent net w l) a.offset p (sealable net w r.network r.conserved l j a p at there is formed ranged) in
      let few = (payload_range p (payload_is p formed ranged)).1 in
      let whole = ap (λ (q : _). length (sealed net w l a.offset q)) is in
      omega (arith, size, few, whole)

  short_item : (i : Item) → a.item ≡ i → MayCarry w.durable.facts w.durable.known (sender net.site l) (receiver net.site l) i → length (frame_octets net w l (Some a)) ≤ 600
  short_item (DataItem n) is m =
      let t : IsFactOf net.site w.durable.facts w.durable.known n m.fact = r.conserved.now.table n m.fact m.there in
      short_as (Data m.fact) (ap (payload w.durable.facts) is ∙ rw (m.there) refl) t.formed t.ranged
  short_item (AckItem n) is m =
      let t : IsFactOf net.site w.durable.facts w.durable.known n m.fact = r.conserved.now.table n m.fact m.there in
      short_as (Ack n) (ap (payload w.durable.facts) is) tt (subst IsName (found_name w.durable.facts n m.fact m.there) (ranged_name m.fact t.ranged))

  pub short_frame : length (frame_octets net w l (Some a)) ≤ 600
  short_frame = short_item a.item refl ((r.conserved.now.carried l).framed j a there)
