-- The frames of a wire use disjoint bytes of their lane.
use Rattle.std.proofs.Common.{◌≡◌, ℕ, suc, ◌+◌, ◌<◌, ◌≤◌, true, false, ◌&&◌, List, [], ◌∷◌, length, refl, sym, ap, ◌∙◌, subst, arith, Option, Some, None}
use Rattle.std.specs.Prelude.{◌==◌, nat_lt, nat_le, slice_get}
use Rattle.std.specs.List.{All, AllByRecursion}
use Rattle.std.proofs.lemmas.Option.{slice_get_cases}
use Rattle.qkd_base.specs.Name.{IsName}
use Rattle.qkd_base.specs.declared.lane.Lane.{Lane}
use Rattle.net_model.specs.declared.fact.Fact.{Fact}
use Rattle.net_model.specs.declared.payload.Payload.{Payload}
use Rattle.net_model.specs.declared.payload.Payload.TheVariants.{Data, Ack}
use Rattle.net_model.specs.Facts.{payload_len}
use Rattle.net_model.specs.Item.{Item, DataItem, AckItem, data_payload, payload, need, len_or_zero}
use Rattle.net_model.specs.Site.{sender, receiver}
use Rattle.net_model.specs.Sealing.{IsSealable}
use Rattle.net_model.specs.World.{Network, World, Allocation}
use Rattle.net_model.specs.Events.{is_lane}
use Rattle.net_model.specs.Frames.{octets_sent}
use Rattle.net_model.specs.Knowledge.{MayCarry}
use Rattle.net_model.specs.Ownership.{covers}
use Rattle.net_model.specs.Premises.{IsNetwork}
use Rattle.net_model.specs.Invariant.{Conserved}
use Rattle.frame_codec.specs.Payload.{payload_octets}
use Rattle.law_base.proofs.Base.{eq_same, not_false, not_both}
use Rattle.law_base.proofs.Tables.{found_name, ranged_name}
use Rattle.law_base.proofs.Growth.{sealable}
use Rattle.law_base.proofs.Owners.{one_byte}
use Rattle.pad_veil.specs.declared.sealed_frame.SealedFrame.{SealedFrame}
use Rattle.pad_veil.specs.Faults.{end_of, spends, meet, LieApart}
use Rattle.pad_veil.proofs.Spans.{common}
use Rattle.net_world.specs.Other.{octets_or_none, sealed_with, sealed_on, each_once, DifferInBytes}
use Rattle.net_world.proofs.VeilNumbers.{each_kept, new_differ, all_mapped, pairs_mapped}
use Rattle.net_world.proofs.Tables.{same_len, spelled_len}

-- A frame that was put on a lane's wire: its allocation and its payload. The lane's bytes reach to its end.
pub record IsSent (net : Network) (w : World) (l : Lane) (j : ℕ) : Type 0 where
  pub a : Allocation
  pub there : slice_get (w.frames l) j ≡ Some a
  pub p : Payload
  pub is : payload w.durable.facts a.item ≡ Some p
  pub seals : IsSealable l (octets_sent net w l) a.offset p

-- a property of all numbers of a list, index by index
pub by_places : (P : ℕ → Type 0) (ns : List ℕ) → ((n j : ℕ) → slice_get ns n ≡ Some j → P j) → AllByRecursion P ns
by_places P [] h = tt
by_places P (n ∷ ns) h = (h 0 n refl, by_places P ns (λ k j at. h (suc k) j at))

module _ (net : Network) (w : World) (network : IsNetwork net) (c : Conserved net w) (l : Lane) (at : is_lane net.site l ≡ true) where
  sent_as : (j : ℕ) (a : Allocation) → slice_get (w.frames l) j ≡ Some a → (i : Item) → a.item ≡ i → MayCarry w.durable.facts w.durable.known (sender net.site l) (receiver net.site l) i → IsSent net w l j
  sent_as j a there (DataItem n) is m =
      let t = c.now.table n m.fact m.there in
      let spelled : payload w.durable.facts a.item ≡ Some (Data m.fact) = ap (payload w.durable.facts) is ∙ ap data_payload m.there in
      record { a = a; there = there; p = Data m.fact; is = spelled; seals = sealable net w network c l j a (Data m.fact) at there spelled t.formed t.ranged }
  sent_as j a there (AckItem n) is m =
      let t = c.now.table n m.fact m.there in
      let spelled : payload w.durable.facts a.item ≡ Some (Ack n) = ap (payload w.durable.facts) is in
      record {
        a = a;
        there = there;
        p = Ack n;
        is = spelled;
        seals = sealable net w network c l j a (Ack n) at there spelled tt (subst IsName (found_name w.durable.facts n m.fact m.there) (ranged_name m.fact t.ranged));
      }

  there_as : (j : ℕ) (o : Option Allocation) → slice_get (w.frames l) j ≡ o → j < length (w.frames l) → IsSent net w l j
  there_as j None none lt = absurd (let k = slice_get_cases (w.frames l) j in grind (arith, k))
  there_as j (Some a) there lt = sent_as j a there a.item refl ((c.now.carried l).framed j a there)

  pub is_sent : (n j : ℕ) → slice_get (w.wire l) n ≡ Some j → IsSent net w l j
  is_sent n j on = there_as j (slice_get (w.frames l) j) refl ((c.wired l).wired n j on)

  pub all_sent : AllByRecursion (IsSent net w l) (w.wire l)
  all_sent = by_places (IsSent net w l) (w.wire l) is_sent

  module _ (len_law : (p : Payload) → length (payload_octets p) ≡ payload_len p) (others : List Fact) (differ : DifferInBytes w.durable.facts others) where
    abbrev frame : ℕ → SealedFrame
    frame j = sealed_with w.durable.facts others (slice_get (w.frames l) j)

    pub frame_is : (j : ℕ) (s : IsSent net w l j) → frame j ≡ record { offset = s.a.offset; old = octets_or_none (payload w.durable.facts s.a.item); new = octets_or_none (payload others s.a.item) }
    frame_is j s = ap (sealed_with w.durable.facts others) s.there

    old_len : (j : ℕ) (s : IsSent net w l j) → length (frame j).old ≡ payload_len s.p
    old_len j s = ap (λ (f : SealedFrame). length f.old) (frame_is j s) ∙ spelled_len len_law (payload w.durable.facts s.a.item) ∙ ap len_or_zero s.is

    new_len : (j : ℕ) (s : IsSent net w l j) → length (frame j).new ≡ payload_len s.p
    new_len j s =
        ap (λ (f : SealedFrame). length f.new) (frame_is j s) ∙ spelled_len len_law (payload others s.a.item) ∙ same_len w.durable.facts others differ s.a.item ∙ ap len_or_zero s.is

    offset_is : (j : ℕ) (s : IsSent net w l j) → (frame j).offset ≡ s.a.offset
    offset_is j s = ap (λ (f : SealedFrame). f.offset) (frame_is j s)

    covers_as : (x : ℕ) (j : ℕ) (s : IsSent net w l j) → covers w.durable.facts (slice_get (w.frames l) j) x ≡ spends x (frame j)
    covers_as x j s =
        let end : s.a.offset + need w.durable.facts s.a.item ≡ end_of (frame j) = omega (arith, offset_is j s, old_len j s, ap len_or_zero s.is) in
        ap (λ (o : Option Allocation). covers w.durable.facts o x) s.there ∙
        ap (λ (e : ℕ). nat_le s.a.offset x && nat_lt x e) end ∙
        ap (λ (o : ℕ). nat_le o x && nat_lt x (end_of (frame j))) (sym (offset_is j s))

    two_apart : (i j : ℕ) → IsSent net w l i → IsSent net w l j → (i == j) ≡ false → meet (frame j) (frame i) ≡ false
    two_apart i j s t other =
        not_false (meet (frame j) (frame i))
        (λ met.
        let x = common (frame j) (frame i) met in
        let same : i ≡ j = one_byte w.durable.facts (w.durable.own l) (w.frames l) _ (c.now.owned l) i j x.0 (covers_as x.0 i s ∙ x.2) (covers_as x.0 j t ∙ x.1) in
        not_both (i == j) (ap (λ (k : ℕ). i == k) (sym same) ∙ eq_same i) other)

    numbers : List ℕ
    numbers = each_once (w.wire l)

    pub once_sent : AllByRecursion (IsSent net w l) (each_once (w.wire l))
    once_sent = each_kept (IsSent net w l) [] (w.wire l) all_sent

    weaker : (Q : ℕ → Type 0) → ((j : ℕ) → IsSent net w l j → Q j) → (ns : List ℕ) → AllByRecursion (IsSent net w l) ns → AllByRecursion Q ns
    weaker Q f [] h = tt
    weaker Q f (n ∷ ns) h = (f n h.0, weaker Q f ns h.1)

    all_frames : (P : SealedFrame → Type 0) → ((j : ℕ) → IsSent net w l j → P (frame j)) → All P (sealed_on w others l)
    all_frames P f = all_mapped frame P (each_once (w.wire l)) (weaker (λ j. P (frame j)) f (each_once (w.wire l)) once_sent)

    pub lie_apart : LieApart (length (octets_sent net w l)) (sealed_on w others l)
    lie_apart = record {
      equal = all_frames (λ f. length f.old ≡ length f.new) (λ j s. old_len j s ∙ sym (new_len j s));
      low = all_frames (λ f. 8 ≤ f.offset) (λ j s. omega (arith, offset_is j s, s.seals.start));
      high = all_frames (λ f. end_of f ≤ length (octets_sent net w l)) (λ j s. omega (arith, offset_is j s, old_len j s, s.seals.reach));
      apart = pairs_mapped frame (IsSent net w l) (λ f g. meet g f ≡ false) two_apart (each_once (w.wire l)) once_sent (new_differ [] (w.wire l));
    }
