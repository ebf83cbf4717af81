-- What a manager keeps in memory stays true when lanes, wires, facts and knowledge grow, and the octets of frames
-- stay the same.
use Rattle.std.proofs.Common.{◌≡◌, ℕ, ◌+◌, ◌≤◌, true, List, length, refl, sym, ◌∙◌, ap, subst, arith, Option, Some, None}
use Rattle.std.specs.Prelude.{slice_get}
use Rattle.std.proofs.lemmas.Bool.{ltb-true}
use Rattle.qkd_base.specs.Name.{Name, IsName}
use Rattle.qkd_base.specs.declared.lane.Lane.{Lane}
use Rattle.qkd_base.specs.LaneBytes.{lane_len}
use Rattle.net_model.specs.declared.fact.Fact.{Fact}
use Rattle.net_model.specs.declared.payload.Payload.{Payload}
use Rattle.net_model.specs.declared.payload.Payload.TheVariants.{Data, Ack}
use Rattle.net_model.specs.declared.placing.Placing.{Placing}
use Rattle.net_model.specs.Facts.{payload_len, IsWellFormed}
use Rattle.net_model.specs.Ranges.{IsRanged}
use Rattle.net_model.specs.Table.{fact_at, origin}
use Rattle.net_model.specs.Item.{Item, DataItem, AckItem, payload, need}
use Rattle.net_model.specs.Site.{sender, receiver}
use Rattle.net_model.specs.Sealing.{IsSealable}
use Rattle.net_model.specs.Premises.{IsNetwork}
use Rattle.net_model.specs.Events.{is_lane}
use Rattle.net_model.specs.World.{Network, World, Allocation, Entry, PendingAck, Volatile, InDoubt}
use Rattle.net_model.specs.Knowledge.{IsFactOf, MayCarry}
use Rattle.net_model.specs.Frames.{octets_sent, sealed, frame_octets}
use Rattle.net_model.specs.Windows.{IsOnWire, IsEntry, IsPlaced, IsPending, IsVolatile}
use Rattle.net_model.specs.Drawn.{IsDrawn, AreDrawn}
use Rattle.net_model.specs.Invariant.{Conserved}
use Rattle.law_base.proofs.Tables.{found_name, ranged_name}
use Rattle.law_base.proofs.Grow.{Grows, KnownGrows, adjacent_grows}
use Rattle.law_base.proofs.LaneBlocks.{lane_grows, lane_length, lane_small, lane_are_octets}
use Rattle.law_base.proofs.Owners.{within_owned, after_key}

-- The world w' has all facts, knowledge, blocks, frames and wires of w, and maybe more.
pub record Outgrows (w w' : World) : Type 0 where
  pub facts : Grows w.durable.facts w'.durable.facts
  pub known : KnownGrows w.durable.known w'.durable.known
  pub blocks : (l : Lane) → w.durable.blocks l ≤ w'.durable.blocks l
  pub frames : (l : Lane) (j : ℕ) (a : Allocation) → slice_get (w.frames l) j ≡ Some a → slice_get (w'.frames l) j ≡ Some a
  pub wire : (l : Lane) (n j : ℕ) → slice_get (w.wire l) n ≡ Some j → slice_get (w'.wire l) n ≡ Some j

-- The payload of an item that a frame may carry exists, is well formed and in range.
record IsSpelled (facts : List Fact) (i : Item) : Type 0 where
  p : Payload
  is : payload facts i ≡ Some p
  formed : IsWellFormed p
  ranged : IsRanged p

module _ (net : Network) (w : World) (network : IsNetwork net) (c : Conserved net w) where
  spelled_data : (n : Name) (f : Fact) → fact_at w.durable.facts n ≡ Some f → IsSpelled w.durable.facts (DataItem n)
  spelled_data n f there =
      let t : IsFactOf net.site w.durable.facts w.durable.known n f = c.now.table n f there in
      record { p = Data f; is = rw there refl; formed = t.formed; ranged = t.ranged }

  spelled : (from to : ℕ) (i : Item) → MayCarry w.durable.facts w.durable.known from to i → IsSpelled w.durable.facts i
  spelled from to (DataItem n) m = spelled_data n m.fact m.there
  spelled from to (AckItem n) m =
      let t : IsFactOf net.site w.durable.facts w.durable.known n m.fact = c.now.table n m.fact m.there in
      record { p = Ack n; is = refl; formed = tt; ranged = subst IsName (found_name w.durable.facts n m.fact m.there) (ranged_name m.fact t.ranged) }

  pub sealable : (l : Lane) (j : ℕ) (a : Allocation) (p : Payload) → is_lane net.site l ≡ true → slice_get (w.frames l) j ≡ Some a →
      payload w.durable.facts a.item ≡ Some p → IsWellFormed p → IsRanged p → IsSealable l (octets_sent net w l) a.offset p
  sealable l j a p at there is formed ranged =
      let blocks : ℕ = w.durable.blocks l in
      let len : length (octets_sent net w l) ≡ lane_len l.way blocks = lane_length l.way (net.device l.link) blocks in
      let small = lane_small l.way blocks (c.few_blocks l) in
      let room = c.now.room l in
      let needed : need w.durable.facts a.item ≡ payload_len p + 8 = rw is refl in
      let within = within_owned w.durable.facts (w.durable.own l) (w.frames l) _ (c.now.owned l) j a there in
      record {
        link = omega (arith, ltb-true l.link net.site.links at, network.site.links);
        octets = lane_are_octets l.way (net.device l.link) (network.devices l.link) blocks;
        size = omega (arith, len, small);
        formed = formed;
        ranged = ranged;
        start = after_key w.durable.facts (w.durable.own l) (w.frames l) _ (c.now.owned l) (w.unclaimed l) (w.durable.lease l) room j a there;
        reach = omega (arith, len, room.planned, room.leased, needed, within);
      }

  module _ (w' : World) (g : Outgrows w w') where
    payload_stays : (from to : ℕ) (i : Item) → MayCarry w.durable.facts w.durable.known from to i → payload w'.durable.facts i ≡ payload w.durable.facts i
    payload_stays from to (DataItem n) m = rw (m.there, g.facts n m.fact m.there) refl
    payload_stays from to (AckItem n) m = refl

    -- The octets of a frame stay the same.
    pub octets_stay : (l : Lane) (j : ℕ) (a : Allocation) → is_lane net.site l ≡ true → slice_get (w.frames l) j ≡ Some a →
        frame_octets net w' l (Some a) ≡ frame_octets net w l (Some a)
    octets_stay l j a at there =
        let m = (c.now.carried l).framed j a there in
        let s = spelled (sender net.site l) (receiver net.site l) a.item m in
        let more = lane_grows l.way (net.device l.link) _ _ (g.blocks l) in
        let good = sealable l j a s.p at there s.is s.formed s.ranged in
        ap (sealed net w' l a.offset) (payload_stays (sender net.site l) (receiver net.site l) a.item m ∙ s.is) ∙
        ap (λ (bytes : List ℕ). net.sealing.seal l bytes a.offset s.p) more.1 ∙
        network.sealing.longer l (octets_sent net w l) more.0 a.offset s.p good ∙
        sym (ap (sealed net w l a.offset) s.is)

    on_wire_stays : (l : Lane) (j : ℕ) (n : Option ℕ) → IsOnWire (w.wire l) j n → IsOnWire (w'.wire l) j n
    on_wire_stays l j None h = tt
    on_wire_stays l j (Some n) h = g.wire l n j h

    pub entry_stays : (v : ℕ) (e : Entry) → IsEntry net w v e → IsEntry net w' v e
    entry_stays v e h = record {
      shaped = h.shaped;
      site = h.site;
      lane = h.lane;
      number = h.number;
      frame = g.frames e.transmission.lane h.number _ h.frame;
      octets = h.octets ∙ sym (octets_stay e.transmission.lane h.number _ h.site h.frame);
      wire = on_wire_stays e.transmission.lane h.number e.number h.wire;
    }

    pub placed_stays : (v : ℕ) (p : Placing) → IsPlaced net w v p → IsPlaced net w' v p
    placed_stays v p h = record {
      site = h.site;
      lane = h.lane;
      number = h.number;
      frame = g.frames p.lane h.number _ h.frame;
      octets = h.octets ∙ sym (octets_stay p.lane h.number _ h.site h.frame);
      wire = on_wire_stays p.lane h.number p.number h.wire;
    }

    pub pending_stays : (v : ℕ) (a : PendingAck) → IsPending net w v a → IsPending net w' v a
    pending_stays v a h = record {
      lane = h.lane;
      fact = adjacent_grows w.durable.facts w'.durable.facts w.durable.known w'.durable.known g.facts g.known v (sender net.site a.lane) v a.name h.fact;
    }

    pub volatile_stays : (v : ℕ) (vol : Volatile) → IsVolatile net w v vol → IsVolatile net w' v vol
    volatile_stays v vol h = record {
      entries = λ n e at. entry_stays v e (h.entries n e at);
      places = h.places;
      pending = λ n a at. pending_stays v a (h.pending n a at);
      once = h.once;
      awaiting = h.awaiting;
    }

-- Bytes still count as drawn if the table got no new fact.
pub drawn_stays : (net : Network) (w w' : World) → ((n : Name) (f : Fact) → fact_at w'.durable.facts n ≡ Some f → fact_at w.durable.facts n ≡ Some f) → w'.in_doubt ≡ w.in_doubt →
    ((v : ℕ) → w.drawn v ≤ w'.drawn v) → AreDrawn net w → AreDrawn net w'
drawn_stays net w w' older same more d = record {
  table = λ n f there secret. drawn_more f (d.table n f (older n f there) secret);
  doubts = λ v n f there secret. drawn_more f (d.doubts v n f (ap (λ (x : ℕ → InDoubt). slice_get (x v).batch n) (sym same) ∙ there) secret);
}
  where
    drawn_more : (f : Fact) → IsDrawn net w f → IsDrawn net w' f
    drawn_more f x = record { place = x.place; bytes = x.bytes; within = omega (arith, x.within, more (origin f)) }
