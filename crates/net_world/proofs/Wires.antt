-- A wire under other keys has the same octets.
use Rattle.std.proofs.Common.{◌≡◌, ℕ, true, List, [], ◌∷◌, refl, sym, ap, ◌∙◌, Option, Some, None}
use Rattle.std.specs.Prelude.{slice_get, is_some}
use Rattle.std.specs.List.{All, AllByRecursion}
use Rattle.qkd_base.specs.declared.lane.Lane.{Lane}
use Rattle.net_model.specs.declared.fact.Fact.{Fact}
use Rattle.net_model.specs.declared.payload.Payload.{Payload}
use Rattle.net_model.specs.Item.{payload}
use Rattle.net_model.specs.Sealing.{Sealing}
use Rattle.net_model.specs.World.{Network, World, Allocation}
use Rattle.net_model.specs.Events.{is_lane}
use Rattle.net_model.specs.Frames.{octets_sent, sealed, frame_octets}
use Rattle.net_model.specs.Premises.{IsNetwork}
use Rattle.net_model.specs.Invariant.{Conserved}
use Rattle.hop_frames.specs.Frame.{spell}
use Rattle.hop_frames.specs.Sealing.{hop_sealing}
use Rattle.run_model.specs.Left.{wire_octets}
use Rattle.pad_veil.specs.declared.sealed_frame.SealedFrame.{SealedFrame}
use Rattle.pad_veil.specs.Veil.{Fits}
use Rattle.net_world.specs.Other.{octets_or_none, sealed_with, sealed_on, other_bytes, sealed_over, frame_over, wire_over, each_once, DifferInBytes}
use Rattle.net_world.proofs.VeilNumbers.{each_back, mapped_all, same_mapped}
use Rattle.net_world.proofs.Tables.{same_some}
use Rattle.net_world.proofs.Apart.{IsSent, all_sent}

spelled_over : (l : Lane) (bytes : List ℕ) (offset : ℕ) (o : Option Payload) → is_some o ≡ true → sealed_over hop_sealing l bytes offset o ≡ spell l offset bytes (octets_or_none o)
spelled_over l bytes offset None h = cc
spelled_over l bytes offset (Some p) h = refl

some_is_some : {A : Type 0} (o : Option A) (a : A) → o ≡ Some a → is_some o ≡ true
some_is_some o a h = ap is_some h

module _ (net : Network) (w : World) (network : IsNetwork net) (c : Conserved net w) (l : Lane) (at : is_lane net.site l ≡ true) (sealing : net.sealing ≡ hop_sealing) (others : List Fact)
    (differ : DifferInBytes w.durable.facts others) (fit : All (Fits (octets_sent net w l) (other_bytes net w others l)) (sealed_on w others l)) where
  abbrev frame : ℕ → SealedFrame
  frame j = sealed_with w.durable.facts others (slice_get (w.frames l) j)

  abbrev bytes : List ℕ
  bytes = octets_sent net w l

  abbrev after : List ℕ
  after = other_bytes net w others l

  sealed_same : (offset : ℕ) (o : Option Payload) → sealed net w l offset o ≡ sealed_over net.sealing l bytes offset o
  sealed_same offset None = refl
  sealed_same offset (Some p) = refl

  -- the frame on the wire, as it was sealed
  was : (j : ℕ) (s : IsSent net w l j) → frame_octets net w l (slice_get (w.frames l) j) ≡ spell l (frame j).offset bytes (frame j).old
  was j s =
      ap (frame_octets net w l) s.there ∙ sealed_same s.a.offset (payload w.durable.facts s.a.item) ∙
      ap (λ (f : Sealing). sealed_over f l bytes s.a.offset (payload w.durable.facts s.a.item)) sealing ∙
      spelled_over l bytes s.a.offset (payload w.durable.facts s.a.item) (ap is_some s.is) ∙
      sym (ap (λ (o : Option Allocation). spell l (sealed_with w.durable.facts others o).offset bytes (sealed_with w.durable.facts others o).old) s.there)

  would_be : (j : ℕ) (s : IsSent net w l j) → frame_over net.sealing l after others (slice_get (w.frames l) j) ≡ spell l (frame j).offset after (frame j).new
  would_be j s =
      ap (frame_over net.sealing l after others) s.there ∙
      ap (λ (f : Sealing). sealed_over f l after s.a.offset (payload others s.a.item)) sealing ∙
      spelled_over l after s.a.offset (payload others s.a.item) (same_some w.durable.facts others differ s.a.item ∙ ap is_some s.is) ∙
      sym (ap (λ (o : Option Allocation). spell l (sealed_with w.durable.facts others o).offset after (sealed_with w.durable.facts others o).new) s.there)

  each_fits : AllByRecursion (λ j. Fits bytes after (frame j)) (w.wire l)
  each_fits =
      each_back (λ j. Fits bytes after (frame j)) [] (w.wire l) (λ j h. absurd (cc h)) (mapped_all frame (Fits bytes after) (each_once (w.wire l)) fit)

  both : (ns : List ℕ) → AllByRecursion (IsSent net w l) ns → AllByRecursion (λ j. Fits bytes after (frame j)) ns →
      AllByRecursion (λ j. frame_over net.sealing l after others (slice_get (w.frames l) j) ≡ frame_octets net w l (slice_get (w.frames l) j)) ns
  both [] s f = tt
  both (n ∷ ns) s f = (would_be n s.0 ∙ sym (f.0 l) ∙ sym (was n s.0), both ns s.1 f.1)

  pub same_wire : wire_over net w after others l ≡ wire_octets net w l
  unfolding wire_octets
  same_wire =
      same_mapped (λ j. frame_over net.sealing l after others (slice_get (w.frames l) j)) (λ j. frame_octets net w l (slice_get (w.frames l) j)) (w.wire l)
      (both (w.wire l) (all_sent net w network c l at) each_fits)
