-- A frame has 16 octets more than it spends of its lane.
use Rattle.std.proofs.Common.{◌≡◌, ◌≤◌, ℕ, ◌+◌, ◌-◌, true, length, refl, ◌∙◌, ap, subst, arith, Option, Some}
use Rattle.std.specs.Prelude.{nat_le, slice_get}
use Rattle.std.proofs.lemmas.Bool.Decides.{nat_tests}
use Rattle.qkd_base.specs.Name.{IsName}
use Rattle.qkd_base.specs.declared.lane.Lane.{Lane}
use Rattle.net_model.specs.declared.payload.Payload.{Payload}
use Rattle.net_model.specs.declared.payload.Payload.TheVariants.{Data, Ack}
use Rattle.net_model.specs.Facts.{payload_len, IsWellFormed}
use Rattle.net_model.specs.Ranges.{IsRanged}
use Rattle.net_model.specs.Item.{Item, DataItem, AckItem, payload, need}
use Rattle.net_model.specs.Knowledge.{IsFactOf, MayCarry}
use Rattle.net_model.specs.Site.{sender, receiver}
use Rattle.net_model.specs.World.{Network, World, Allocation}
use Rattle.net_model.specs.Events.{is_lane, is_frame_size}
use Rattle.net_model.specs.Frames.{frame_octets, sealed, octets_sent}
use Rattle.frame_codec.proofs.Writes.{payload_range}
use Rattle.hop_frames.proofs.Octets.{payload_is}
use Rattle.law_base.proofs.Base.{and_both}
use Rattle.law_base.proofs.Tables.{found_name, ranged_name}
use Rattle.law_base.proofs.Growth.{sealable}
use Rattle.world_state.specs.Passed.{IsRunning}

between : (n : ℕ) → 25 ≤ n → n ≤ 585 → is_frame_size n ≡ true
between n low high = and_both (nat_le 25 n) (nat_le n 585) (grind (arith, nat_tests)) (grind (arith, nat_tests))

module _ (net : Network) (w : World) (r : IsRunning net w) (l : Lane) (at : is_lane net.site l ≡ true) (j : ℕ) (a : Allocation) (there : slice_get (w.frames l) j ≡ Some a) where
  -- The frame has the size of a frame.
  pub record IsSized : Type 0 where
    pub more : need w.durable.facts a.item - 8 ≡ length (frame_octets net w l (Some a)) - 24
    pub sized : is_frame_size (length (frame_octets net w l (Some a))) ≡ true

  size_as : (p : Payload) → payload w.durable.facts a.item ≡ Some p → IsWellFormed p → IsRanged p → IsSized
  size_as p is formed ranged =
      let size = r.network.sealing.size l (octets_sent net w l) a.offset p (sealable net w r.network r.conserved l j a p at there is formed ranged) in
      let range = payload_range p (payload_is p formed ranged) in
      let whole = ap (λ (q : Option Payload). length (sealed net w l a.offset q)) is in
      let needed : need w.durable.facts a.item ≡ payload_len p + 8 = rw is refl in
      record {
        more = omega (arith, size, whole, needed);
        sized = between (length (frame_octets net w l (Some a))) (omega (arith, size, range.0, whole)) (omega (arith, size, range.1, whole));
      }

  size_item : (i : Item) → a.item ≡ i → MayCarry w.durable.facts w.durable.known (sender net.site l) (receiver net.site l) i → IsSized
  size_item (DataItem n) is m =
      let t : IsFactOf net.site w.durable.facts w.durable.known n m.fact = r.conserved.now.table n m.fact m.there in
      size_as (Data m.fact) (ap (payload w.durable.facts) is ∙ rw (m.there) refl) t.formed t.ranged
  size_item (AckItem n) is m =
      let t : IsFactOf net.site w.durable.facts w.durable.known n m.fact = r.conserved.now.table n m.fact m.there in
      size_as (Ack n) (ap (payload w.durable.facts) is) tt (subst IsName (found_name w.durable.facts n m.fact m.there) (ranged_name m.fact t.ranged))

  pub frame_size : IsSized
  frame_size = size_item a.item refl ((r.conserved.now.carried l).framed j a there)
