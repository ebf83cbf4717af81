-- A frame that was put or refused waits no longer, and the others still wait when the world grows.
use Rattle.std.proofs.Common.{◌≡◌, ℕ, true, false, ◌||◌, List, [], ◌∷◌, refl, sym, ◌∙◌, ap, subst, Option, Some, None}
use Rattle.std.specs.Prelude.{◌==◌, is_some}
use Rattle.std.specs.List.{AllByRecursion}
use Rattle.qkd_base.specs.Name.{Name}
use Rattle.qkd_base.specs.Lane.{lane_eq}
use Rattle.qkd_base.specs.Family.{lane_set}
use Rattle.qkd_base.specs.declared.lane.Lane.{Lane}
use Rattle.net_model.specs.declared.fact.Fact.{Fact}
use Rattle.net_model.specs.declared.payload.Payload.{Payload}
use Rattle.net_model.specs.Item.{Item, DataItem, AckItem, payload, data_payload}
use Rattle.net_model.specs.Table.{fact_at}
use Rattle.net_model.specs.Site.{sender}
use Rattle.net_model.specs.World.{Network, World, Allocation, Entry, Outgoing}
use Rattle.net_model.specs.Premises.{IsNetwork}
use Rattle.net_model.specs.Invariant.{Conserved}
use Rattle.net_model.specs.Window.{repeat_of}
use Rattle.net_model.specs.Windows.{IsShaped}
use Rattle.net_model.specs.Handle.{frame_at, outgoing_repeat}
use Rattle.net_model.specs.Frames.{outgoing_of, without_frame, put, transmit_one, transmit}
use Rattle.net_model.specs.Events.{is_lane}
use Rattle.net_model.specs.Tick.{Emission, Again, New, item_in}
use Rattle.net_model.specs.Action.{Environment, Transmit, Outcome, is_no_memory, is_io_fault}
use Rattle.net_model.specs.Step.{step, is_enabled}
use Rattle.law_base.proofs.Base.{and_both, by_test, eq_from, lane_eq_from, lane_same, not_both, not_false, when_false}
use Rattle.law_base.proofs.Growth.{Outgrows, entry_stays}
use Rattle.law_locality.specs.Sending.{repeated, IsEmission}

pub lanes_apart : (a b : Lane) → lane_eq a b ≡ false → lane_eq b a ≡ false
lanes_apart a b h = not_false (lane_eq b a) (λ e. not_both (lane_eq a b) (subst (λ (x : Lane). lane_eq a x ≡ true) (sym (lane_eq_from b a e)) (lane_same a)) h)

-- The frame waits no longer, and only its sender has one more note waiting.
pub record IsGone (net : Network) (w : World) (l : Lane) (o : Outgoing) (x : World) : Type 0 where
  pub frames : x.frames ≡ w.frames
  pub unclaimed : x.unclaimed ≡ w.unclaimed
  pub outgoing : x.outgoing ≡ lane_set w.outgoing l (without_frame o.frame (w.outgoing l))
  pub placings : (u : ℕ) → (u ≡ sender net.site l → ⊥) → x.placings u ≡ w.placings u

module _ (net : Network) (w : World) (l : Lane) (j : ℕ) (environment : Environment) (o : Outgoing) (there : outgoing_of j (w.outgoing l) ≡ Some o) where
  put_gone : (wire : List ℕ) (number : Option ℕ) → IsGone net w l o (put net w l o wire number)
  put_gone wire number = record {
    frames = refl;
    unclaimed = refl;
    outgoing = refl;
    placings = λ u apart. when_false (u == sender net.site l) _ (w.placings u) (not_false (u == sender net.site l) (λ e. apart (eq_from u (sender net.site l) e)));
  }

  pub gone : IsGone net w l o (step net w (Transmit l j environment)).0
  unfolding step transmit
  gone =
      subst (λ (x : Option Outgoing). IsGone net w l o (transmit_one net w l environment x).0) (sym there)
      (by_test (λ (r : World × Outcome). IsGone net w l o r.0) (is_no_memory environment || is_io_fault environment) _ _ (λ e. put_gone _ _) (λ e. put_gone _ _))

  pub may_put : is_lane net.site l ≡ true → is_enabled net w (Transmit l j environment) ≡ true
  unfolding is_enabled
  may_put at = and_both (is_lane net.site l) (is_some (outgoing_of j (w.outgoing l))) at (ap is_some there)

-- What is still to be sent stays so when the world grows.

payload_grows : (old new : List Fact) → ((n : Name) (f : Fact) → fact_at old n ≡ Some f → fact_at new n ≡ Some f) → (i : Item) (p : Payload) → payload old i ≡ Some p → payload new i ≡ Some p
payload_grows old new more (AckItem n) p h = h
payload_grows old new more (DataItem n) p h =
    elim (fact_at old n) as (λ o. fact_at old n ≡ o → data_payload o ≡ Some p → data_payload (fact_at new n) ≡ Some p) [
      | None ↦ λ e g. cc
      | Some f ↦ λ e g. ap data_payload (more n f e) ∙ g
    ] refl h

module _ (net : Network) (w : World) (network : IsNetwork net) (c : Conserved net w) (v : ℕ) (new : World) (more : Outgrows w new) where
  pub emission_stays : (e : Emission) → IsEmission net w v e → IsEmission net new v e
  emission_stays (Again r) h = record { entry = h.entry; is = h.is; sent = entry_stays net w network c new more v h.entry h.sent }
  emission_stays (New o) h = record { site = h.site; lane = h.lane; spelled = payload_grows w.durable.facts new.durable.facts more.facts (item_in o.payload) o.payload h.spelled }

  pub emissions_stay : (es : List Emission) → AllByRecursion (IsEmission net w v) es → AllByRecursion (IsEmission net new v) es
  emissions_stay [] h = tt
  emissions_stay (e ∷ es) h = (emission_stays e h.0, emissions_stay es h.1)

-- A repeat is put as the transmission of its window entry.
pub repeated_is : (frames : List Allocation) (e : Entry) → IsShaped e.transmission → repeated frames (repeat_of e) ≡ outgoing_repeat frames e
repeated_is frames e h = λ i. record { frame = frame_at frames e.offset; transmission = record (e.transmission) { item = sym h i }; fresh = false }
