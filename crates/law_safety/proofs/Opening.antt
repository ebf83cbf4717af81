-- What a receiver reads from a frame of the wire with the lane bytes that it has.
use Rattle.std.proofs.Common.{◌≡◌, ℕ, ◌+◌, ◌<◌, ◌≤◌, List, length, length-append, refl, sym, ◌∙◌, ap, subst, arith, Some, inl, inr}
use Rattle.std.specs.Prelude.{slice_get, true}
use Rattle.std.proofs.lemmas.Bool.{cases_lt}
use Rattle.qkd_base.specs.Name.{IsName}
use Rattle.qkd_base.specs.declared.lane.Lane.{Lane}
use Rattle.qkd_base.specs.Lane.{reverse_lane}
use Rattle.net_model.specs.declared.payload.Payload.{Payload}
use Rattle.net_model.specs.declared.payload.Payload.TheVariants.{Data, Ack}
use Rattle.net_model.specs.declared.reply.Reply.TheVariants.{NoBits}
use Rattle.net_model.specs.Facts.{payload_len, IsWellFormed}
use Rattle.net_model.specs.Ranges.{IsRanged}
use Rattle.net_model.specs.Item.{Item, DataItem, AckItem, data_payload, payload, need}
use Rattle.net_model.specs.Site.{sender, receiver}
use Rattle.net_model.specs.Sealing.{Opens, Rejected, IsSealable}
use Rattle.net_model.specs.World.{Network, World, Allocation, received_there}
use Rattle.net_model.specs.Events.{is_lane}
use Rattle.net_model.specs.Frames.{octets_sent, octets_received, sealed, frame_octets}
use Rattle.net_model.specs.Knowledge.{MayCarry}
use Rattle.net_model.specs.Premises.{IsNetwork}
use Rattle.net_model.specs.Invariant.{Conserved}
use Rattle.law_base.proofs.Tables.{found_name, ranged_name}
use Rattle.law_base.proofs.LaneBlocks.{lane_grows, lane_length, lane_small, lane_are_octets}
use Rattle.law_base.proofs.Growth.{sealable}

-- The payload is well formed and in range.
record IsFormed (p : Payload) : Type 0 where
  formed : IsWellFormed p
  ranged : IsRanged p

formed_payload : (net : Network) (w : World) → Conserved net w → (from to : ℕ) (i : Item) (p : Payload) → MayCarry w.durable.facts w.durable.known from to i →
    payload w.durable.facts i ≡ Some p → IsFormed p
formed_payload net w c from to (DataItem n) p m e =
    let is : Data m.fact ≡ p = some_is (sym (ap data_payload m.there) ∙ e) in
    let t = c.now.table n m.fact m.there in
    subst IsFormed is (record { formed = t.formed; ranged = t.ranged })
  where
    some_is : Some (Data m.fact) ≡ Some p → Data m.fact ≡ p
    some_is h = cc
formed_payload net w c from to (AckItem n) p m e =
    let is : Ack n ≡ p = cc in
    let t = c.now.table n m.fact m.there in
    subst IsFormed is (record { formed = tt; ranged = subst IsName (found_name w.durable.facts n m.fact m.there) (ranged_name m.fact t.ranged) })

module _ (net : Network) (w : World) (network : IsNetwork net) (c : Conserved net w) (l : Lane) (at : is_lane net.site l ≡ true) (j : ℕ) (a : Allocation) (p : Payload)
    (there : slice_get (w.frames l) j ≡ Some a) (is : payload w.durable.facts a.item ≡ Some p) where
  -- The numbers of blocks at the sender's end and at the receiver's end.
  abbrev sent : ℕ
  sent = w.durable.blocks l

  abbrev came : ℕ
  came = w.durable.blocks (reverse_lane l)

  needed : need w.durable.facts a.item ≡ payload_len p + 8
  needed = rw is refl

  fits : IsFormed p
  fits = formed_payload net w c (sender net.site l) (receiver net.site l) a.item p ((c.now.carried l).framed j a there) is

  sender_seals : IsSealable l (octets_sent net w l) a.offset p
  sender_seals = sealable net w network c l j a p at there is fits.formed fits.ranged

  came_length : length (octets_received net w l) ≡ received_there w.durable l
  came_length = lane_length l.way (net.device l.link) came

  -- The receiver can check the frame if it has enough bytes.
  receiver_seals : a.offset + payload_len p + 8 ≤ length (octets_received net w l) → IsSealable l (octets_received net w l) a.offset p
  receiver_seals reach =
      let small = lane_small l.way came (c.few_blocks (reverse_lane l)) in
      record {
        link = sender_seals.link;
        octets = lane_are_octets l.way (net.device l.link) (network.devices l.link) came;
        size = omega (arith, lane_length l.way (net.device l.link) came, small);
        formed = fits.formed;
        ranged = fits.ranged;
        start = sender_seals.start;
        reach = reach;
      }

  frame_is : frame_octets net w l (Some a) ≡ net.sealing.seal l (octets_sent net w l) a.offset p
  frame_is = ap (sealed net w l a.offset) is

  -- Sealing the payload with the receiver's bytes gives the same frame, if they are enough.
  same_frame : a.offset + payload_len p + 8 ≤ length (octets_received net w l) →
      net.sealing.seal l (octets_sent net w l) a.offset p ≡ net.sealing.seal l (octets_received net w l) a.offset p
  same_frame reach = elim (cases_lt sent came) [
    | inl less ↦
        let more = lane_grows l.way (net.device l.link) sent came (omega (arith, less)) in
        sym (ap (λ (bytes : List ℕ). net.sealing.seal l bytes a.offset p) more.1 ∙ network.sealing.longer l (octets_sent net w l) more.0 a.offset p sender_seals)
    | inr less ↦
        let more = lane_grows l.way (net.device l.link) came sent less in
        ap (λ (bytes : List ℕ). net.sealing.seal l bytes a.offset p) more.1 ∙ network.sealing.longer l (octets_received net w l) more.0 a.offset p (receiver_seals reach)
  ]

  pub opened : a.offset + need w.durable.facts a.item ≤ received_there w.durable l →
      net.sealing.unseal l (octets_received net w l) (frame_octets net w l (Some a)) ≡ Opens a.offset p
  opened enough =
      let reach : a.offset + payload_len p + 8 ≤ length (octets_received net w l) = omega (arith, enough, needed, came_length) in
      ap (net.sealing.unseal l (octets_received net w l)) (frame_is ∙ same_frame reach) ∙ network.sealing.opens l (octets_received net w l) a.offset p (receiver_seals reach)

  pub too_few : received_there w.durable l < a.offset + need w.durable.facts a.item →
      net.sealing.unseal l (octets_received net w l) (frame_octets net w l (Some a)) ≡ Rejected (NoBits (received_there w.durable l))
  too_few few = elim (cases_lt sent came) [
    | inl less ↦
        let more = lane_grows l.way (net.device l.link) sent came (omega (arith, less)) in
        let longer = ap length more.1 ∙ length-append (octets_sent net w l) more.0 in
        absurd (omega (arith, few, needed, came_length, longer, sender_seals.reach))
    | inr less ↦
        let more = lane_grows l.way (net.device l.link) came sent less in
        let here : length (octets_received net w l) < a.offset + payload_len p + 8 = omega (arith, few, needed, came_length) in
        ap (net.sealing.unseal l (octets_received net w l)) (frame_is ∙ ap (λ (bytes : List ℕ). net.sealing.seal l bytes a.offset p) more.1) ∙
        network.sealing.too_few l (octets_received net w l) more.0 a.offset p (subst (λ (bytes : List ℕ). IsSealable l bytes a.offset p) more.1 sender_seals) here ∙
        ap (λ (n : ℕ). Rejected (NoBits n)) came_length
  ]
