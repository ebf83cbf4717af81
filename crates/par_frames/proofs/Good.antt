-- The workers' record of a frame on a lane is that of the frame that was put, with its octets.
use Rattle.std.proofs.Common.{◌≡◌, ℕ, ◌+◌, List, [], ◌∷◌, length, map, take, refl, sym, ◌∙◌, ap, subst, Option, Some, None}
use Rattle.std.specs.Prelude.{slice_get}
use Rattle.std.specs.List.{AllByRecursion}
use Rattle.std.proofs.lemmas.List.{take_at}
use Rattle.qkd_base.specs.declared.lane.Lane.{Lane}
use Rattle.net_model.specs.declared.order.Order.{Order}
use Rattle.net_model.specs.declared.repeat.Repeat.{Repeat}
use Rattle.net_model.specs.Site.{sender}
use Rattle.net_model.specs.World.{Network, World}
use Rattle.net_model.specs.Windows.{IsOnWire}
use Rattle.net_model.specs.Handle.{frame_at}
use Rattle.net_model.specs.Frames.{frame_octets, octets_sent}
use Rattle.net_model.specs.Tick.{Again, New}
use Rattle.lane_sender.specs.declared.claimed.Claimed.{Claimed}
use Rattle.law_base.proofs.Lists.{all_at}
use Rattle.law_locality.specs.Sending.{IsAgain}
use Rattle.law_parallel.specs.Logs.{done_for_plans}
use Rattle.law_parallel.specs.Puts.{octets_on_wire}
use Rattle.law_parallel.specs.Calls.{placed_from}
use Rattle.law_parallel.proofs.Sealed.{IsOfLane}
use Rattle.world_state.specs.Passed.{IsRunning}
use Rattle.world_state.proofs.Passed.{get-map}
use Rattle.par_lanes.specs.declared.emitted.Emitted.{Emitted}
use Rattle.par_frames.specs.LaneCalls.{LaneCall, ClaimsFor, PutsFor, RepeatsFor, frame_over, deed_of, IsSound}
use Rattle.par_frames.proofs.Agreeing.{Agrees, octets, order_framed, order_agrees, on, stands_there, repeat_frame, repeat_agrees}
use Rattle.par_frames.proofs.Found.{AllOfLane, new_frame, old_frame}

module _ (net : Network) (w : World) (l : Lane) (all : List LaneCall) where
  abbrev pub bytes : List ℕ
  bytes = octets_sent net w l

  -- If a repeat has a number, the frame of that number is on the wire, with the repeat's octets.
  abbrev pub IsThere : Option ℕ → List ℕ → Type 0
  IsThere None frame = Unit {0}
  IsThere (Some n) frame = slice_get (octets_on_wire net w l) n ≡ Some frame

  pub record GoodNew (claim : ℕ) (o : Order) (claimed : Claimed) (out : Emitted) : Type 0 where
    pub agrees : Agrees net w l (new_frame net w l all claim o claimed out.line) out
    pub octets' : frame_over l bytes o claimed ≡ octets net w l (new_frame net w l all claim o claimed out.line)

  pub record GoodAgain (r : Repeat) (out : Emitted) : Type 0 where
    pub agrees : Agrees net w l (old_frame net w l all r out.line) out
    pub octets' : take r.length r.frame.octets ≡ octets net w l (old_frame net w l all r out.line)
    pub there : IsThere r.number (octets net w l (old_frame net w l all r out.line))

  abbrev pub Good : LaneCall → Type 0
  Good (ClaimsFor line o grant claimed) = Unit {0}
  Good (PutsFor claim o claimed out) = GoodNew claim o claimed out
  Good (RepeatsFor r out) = GoodAgain r out

  -- ---- calls, by what they do for plans

  abbrev OfCall : LaneCall → Type 0
  OfCall (ClaimsFor line o grant claimed) = IsOfLane net w l (line, New o)
  OfCall (PutsFor claim o claimed out) = Unit {0}
  OfCall (RepeatsFor r out) = IsOfLane net w l (out.line, Again r)

  of_calls : (log : List LaneCall) → AllByRecursion (IsOfLane net w l) (done_for_plans (map deed_of log)) → AllByRecursion OfCall log
  of_calls [] h = tt
  of_calls (ClaimsFor line o grant claimed ∷ log) h = (h.0, of_calls log h.1)
  of_calls (PutsFor claim o claimed out ∷ log) h = (tt, of_calls log h)
  of_calls (RepeatsFor r out ∷ log) h = (h.0, of_calls log h.1)

  module _ (running : IsRunning net w) (of : AllOfLane net w l all) where
    number_there : (number : Option ℕ) (j : ℕ) (frame : List ℕ) → frame_octets net w l (slice_get (w.frames l) j) ≡ frame → IsOnWire (w.wire l) j number → IsThere number frame
    number_there None j frame is wire = tt
    number_there (Some n) j frame is wire = get-map (λ (k : ℕ). frame_octets net w l (slice_get (w.frames l) k)) (w.wire l) n j wire ∙ ap (λ (f : List ℕ). Some f) is

    again_good : (r : Repeat) (out : Emitted) (place : ℕ) → IsOfLane net w l (out.line, Again r) → IsSound l bytes all (place, RepeatsFor r out) → GoodAgain r out
    again_good r out place o s =
        let again : IsAgain net w (sender net.site l) r = o.1 in
        let kept : take r.length r.frame.octets ≡ again.entry.frame = ap (λ (q : Repeat). take q.length q.frame.octets) again.is ∙ take_at again.entry.frame _ (length again.entry.frame) refl in
        record {
          agrees = repeat_agrees net w l running r o.0 again (frame_at (w.frames l) r.offset) out s.of s.says;
          octets' = kept ∙ sym (repeat_frame net w l running r o.0 again);
          there = number_there r.number again.sent.number (octets net w l (old_frame net w l all r out.line)) (ap (frame_octets net w l) (stands_there net w l running r o.0 again))
              (subst (λ (n : Option ℕ). IsOnWire (w.wire l) again.sent.number n) (sym (ap (λ (q : Repeat). q.number) again.is))
              (subst (λ (k : Lane). IsOnWire (w.wire k) again.sent.number again.entry.number) (on net w l running r o.0 again) again.sent.wire));
        }

    good_from : (place : ℕ) (log : List LaneCall) → AllByRecursion (IsSound l bytes all) (placed_from place log) → AllByRecursion OfCall log → AllByRecursion Good log
    good_from place [] sound calls = tt
    good_from place (ClaimsFor line o grant claimed ∷ log) sound calls = (tt, good_from (place + 1) log sound.1 calls.1)
    good_from place (PutsFor claim o claimed out ∷ log) sound calls =
        let of_claim = all_at OfCall all claim (ClaimsFor out.line o sound.0.grant claimed) (of_calls all of) sound.0.claims in (
          record {
            agrees = order_agrees net w l running o claimed.range.start _ out sound.0.of of_claim.0 of_claim.1 sound.0.says;
            octets' = sym (order_framed net w l running o claimed.range.start of_claim.1.spelled);
          },
          good_from (place + 1) log sound.1 calls.1,
        )
    good_from place (RepeatsFor r out ∷ log) sound calls = (again_good r out place calls.0 sound.0, good_from (place + 1) log sound.1 calls.1)

    pub all_good : AllByRecursion (IsSound l bytes all) (placed_from 0 all) → AllByRecursion Good all
    all_good sound = good_from 0 all sound (of_calls all of)
