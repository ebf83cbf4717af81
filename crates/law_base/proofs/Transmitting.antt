-- Putting a frame on its wire keeps the conserved properties, whether the wire takes or refuses it.
use Rattle.std.proofs.Common.{◌≡◌, ℕ, zero, suc, ◌<◌, true, false, ◌||◌, List, [], ◌∷◌, ◌++◌, length, take, refl, sym, ◌∙◌, ap, subst, arith, Option, Some, None, inl, inr}
use Rattle.std.specs.Prelude.{◌==◌, slice_get, is_some, if◌then◌else◌}
use Rattle.std.proofs.lemmas.List.{take_at}
use Rattle.std.proofs.lemmas.Option.{slice_get_within}
use Rattle.qkd_base.specs.declared.lane.Lane.{Lane}
use Rattle.net_model.specs.declared.placing.Placing.{Placing}
use Rattle.net_model.specs.Item.{item_of, item_name}
use Rattle.net_model.specs.Site.{sender}
use Rattle.net_model.specs.World.{Network, World, Allocation, Outgoing}
use Rattle.net_model.specs.Ownership.{IsWired}
use Rattle.net_model.specs.Events.{is_lane}
use Rattle.net_model.specs.Windows.{IsOnWire, IsPosted, IsPlaced}
use Rattle.net_model.specs.Invariant.{Conserved}
use Rattle.net_model.specs.Premises.{IsNetwork}
use Rattle.net_model.specs.Action.{Environment, Transmit, Outcome, is_no_memory, is_io_fault}
use Rattle.net_model.specs.Frames.{frame_octets, offset_or_zero, outgoing_of, without_frame, placing_of, put, transmit_one, transmit}
use Rattle.net_model.specs.Step.{is_enabled}
use Rattle.law_base.proofs.Base.{by_lane, by_number, and_left, by_test}
use Rattle.law_base.proofs.Lists.{lane_set_same, get_prefix, get_last, last_cases, found_at}
use Rattle.law_base.proofs.Growth.{Outgrows, volatile_stays, placed_stays, drawn_stays}

later_outgoing : (y : Outgoing) (ys zs : List Outgoing) (x : Outgoing) → ((n : ℕ) → slice_get zs n ≡ Some x → (k : ℕ) × (slice_get ys k ≡ Some x)) →
    (i : ℕ) → slice_get (y ∷ zs) i ≡ Some x → (k : ℕ) × (slice_get (y ∷ ys) k ≡ Some x)
later_outgoing y ys zs x rest zero h = (zero, h)
later_outgoing y ys zs x rest (suc n) h = let r = rest n h in (suc r.0, r.1)

-- A frame that still waits for its wire was waiting before.
left_before : (j : ℕ) (os : List Outgoing) (x : Outgoing) (i : ℕ) → slice_get (without_frame j os) i ≡ Some x → (k : ℕ) × (slice_get os k ≡ Some x)
left_before j [] x i h = cc
left_before j (o ∷ os) x i h =
    elim (o.frame == j) as (λ b. slice_get (if b then os else o ∷ without_frame j os) i ≡ Some x → (k : ℕ) × (slice_get (o ∷ os) k ≡ Some x)) [
      | true ↦ λ g. (suc i, g)
      | false ↦ λ g. later_outgoing o os (without_frame j os) x (left_before j os x) i g
    ] h

module _ (net : Network) (w : World) (network : IsNetwork net) (c : Conserved net w) (l : Lane) (at : is_lane net.site l ≡ true)
    (n : ℕ) (o : Outgoing) (there : slice_get (w.outgoing l) n ≡ Some o) where
  allocation : (a : Allocation) × (slice_get (w.frames l) o.frame ≡ Some a) × (a.item ≡ o.transmission.item)
  allocation = (c.wired l).put n o there

  -- The frame that its note to the manager will describe.
  abbrev placed_at : Allocation
  placed_at = record { offset = offset_or_zero (slice_get (w.frames l) o.frame); item = item_of o.transmission.received_offset (item_name o.transmission.item) }

  placed_is : placed_at ≡ allocation.0
  placed_is =
      let item : item_of o.transmission.received_offset (item_name o.transmission.item) ≡ allocation.0.item = sym ((c.posted l).put n o there).1 ∙ sym allocation.2 in
      let offset : offset_or_zero (slice_get (w.frames l) o.frame) ≡ allocation.0.offset = ap offset_or_zero allocation.1 in
      λ i. record { offset = offset i; item = item i }

  module _ (wire : List ℕ) (number : Option ℕ) (more : (k j : ℕ) → slice_get (w.wire l) k ≡ Some j → slice_get wire k ≡ Some j)
      (framed : (k j : ℕ) → slice_get wire k ≡ Some j → j < length (w.frames l)) (on : IsOnWire wire o.frame number) where
    abbrev after : World
    after = put net w l o wire number

    put_more : Outgrows w after
    put_more = record {
      facts = λ k f h. h;
      known = λ u k h. h;
      blocks = λ k. omega arith;
      frames = λ k j a h. h;
      wire = by_lane (λ k b. (m j : ℕ) → slice_get (w.wire k) m ≡ Some j → slice_get (if b then wire else w.wire k) m ≡ Some j) l more (λ k m j h. h);
    }

    abbrev new : Placing
    new = placing_of net w l o number

    new_octets : take new.length new.frame.octets ≡ frame_octets net w l (Some allocation.0)
    new_octets = rw (allocation.1) (take_at (frame_octets net w l (Some allocation.0)) _ _ refl)

    new_placed : IsPlaced net after (sender net.site l) new
    new_placed = record {
      site = at;
      lane = refl;
      number = o.frame;
      frame = allocation.1 ∙ ap Some (sym placed_is);
      octets = new_octets ∙ ap (λ (a : Allocation). frame_octets net w l (Some a)) (sym placed_is);
      wire = subst (λ (x : List ℕ). IsOnWire x o.frame number) (sym (lane_set_same w.wire l wire)) on;
    }

    put_keeps : Conserved net after
    put_keeps = record {
      now = c.now;
      doubts = c.doubts;
      doubtful = c.doubtful;
      resting = c.resting;
      volatile = λ v. volatile_stays net w network c after put_more v (w.volatile v) (c.volatile v);
      placed = λ v m p. by_number (λ u b. slice_get (if b then w.placings (sender net.site l) ++ new ∷ [] else w.placings u) m ≡ Some p → IsPlaced net after u p) (sender net.site l)
          (λ h. elim (last_cases (w.placings (sender net.site l)) new m p h) [
            | inl old ↦ placed_stays net w network c after put_more (sender net.site l) p (c.placed (sender net.site l) m p old)
            | inr (e, is) ↦ subst (IsPlaced net after (sender net.site l)) is new_placed
          ])
          (λ u ne h. placed_stays net w network c after put_more u p (c.placed u m p h)) v;
      posted = by_lane (λ k b. IsPosted k (w.unclaimed k) (if b then without_frame o.frame (w.outgoing l) else w.outgoing k)) l
          (record { ordered = (c.posted l).ordered; put = λ m x h. let r = left_before o.frame (w.outgoing l) x m h in (c.posted l).put r.0 x r.1 })
          c.posted;
      wired = by_lane (λ k b. IsWired (w.frames k) (if b then wire else w.wire k) (if b then without_frame o.frame (w.outgoing l) else w.outgoing k)) l
          (record { wired = framed; put = λ m x h. let r = left_before o.frame (w.outgoing l) x m h in (c.wired l).put r.0 x r.1 })
          c.wired;
      journals = c.journals;
      started = c.started;
      doubt_room = c.doubt_room;
      drawn = drawn_stays net w after (λ k f h. h) refl (λ v. omega arith) c.drawn;
      few_blocks = c.few_blocks;
      recovered = c.recovered;
    }

  one_keeps : (environment : Environment) → Conserved net (transmit_one net w l environment (Some o)).0
  one_keeps environment =
      by_test (λ (x : World × Outcome). Conserved net x.0) (is_no_memory environment || is_io_fault environment) _ _
      (λ e. put_keeps (w.wire l) None (λ k j h. h) (c.wired l).wired tt)
      (λ e. put_keeps (w.wire l ++ o.frame ∷ []) (Some (length (w.wire l))) (λ k j h. get_prefix (w.wire l) (o.frame ∷ []) k j h)
      (λ k j h. elim (last_cases (w.wire l) o.frame k j h) [
        | inl old ↦ (c.wired l).wired k j old
        | inr (e, is) ↦ subst (λ (x : ℕ). x < length (w.frames l)) is (slice_get_within (w.frames l) o.frame allocation.0 allocation.1)
      ])
      (get_last (w.wire l) o.frame))

transmitted : (net : Network) (w : World) (l : Lane) (j : ℕ) (environment : Environment) → IsNetwork net → Conserved net w → is_lane net.site l ≡ true →
    (o : Option Outgoing) → outgoing_of j (w.outgoing l) ≡ o → Conserved net (transmit_one net w l environment o).0
transmitted net w l j environment network c at None e = c
transmitted net w l j environment network c at (Some o) e =
    let r = found_at (λ (x : Outgoing). x.frame == j) (w.outgoing l) o e in one_keeps net w network c l at r.0 o r.1 environment

-- A frame that may be put is taken by the wire or refused.
pub transmit_keeps : (net : Network) (w : World) (l : Lane) (j : ℕ) (environment : Environment) → IsNetwork net →
    is_enabled net w (Transmit l j environment) ≡ true → Conserved net w → Conserved net (transmit net w l j environment).0
unfolding is_enabled transmit
transmit_keeps net w l j environment network h c =
    transmitted net w l j environment network c (and_left (is_lane net.site l) (is_some (outgoing_of j (w.outgoing l))) h) (outgoing_of j (w.outgoing l)) refl
