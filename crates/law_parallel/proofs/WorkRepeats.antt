-- The frame of a repeat is at its offset, and stays there.
use Rattle.std.proofs.Common.{◌≡◌, ℕ, zero, suc, true, false, List, [], ◌∷◌, ◌++◌, refl, sym, ◌∙◌, ap, subst, Some}
use Rattle.std.specs.Prelude.{◌==◌, slice_get, if◌then◌else◌}
use Rattle.std.specs.List.{AllByRecursion}
use Rattle.qkd_base.specs.declared.lane.Lane.{Lane}
use Rattle.net_model.specs.declared.repeat.Repeat.{Repeat}
use Rattle.net_model.specs.Site.{sender}
use Rattle.net_model.specs.World.{Network, World, Allocation}
use Rattle.net_model.specs.Events.{is_lane}
use Rattle.net_model.specs.Handle.{frame_at}
use Rattle.net_model.specs.Tick.{Emission, Again, New}
use Rattle.law_base.proofs.Base.{eq_same, eq_from, when_true, when_false}
use Rattle.law_locality.specs.Sending.{IsAgain, IsEmission}
use Rattle.law_parallel.specs.Putting.{lane_of}
use Rattle.law_parallel.proofs.Claims.{AreOnLanes}
use Rattle.law_parallel.proofs.Puts.{IsThere}

-- Some frame has this offset, and it is still the first one with it when more frames follow.
pub record Framed (frames : List Allocation) (offset : ℕ) : Type 0 where
  pub frame : Allocation
  pub at : slice_get frames (frame_at frames offset) ≡ Some frame
  pub offset' : frame.offset ≡ offset
  pub stays : (more : List Allocation) → frame_at (frames ++ more) offset ≡ frame_at frames offset

framed_first : (f : Allocation) (fs : List Allocation) (offset : ℕ) → (f.offset == offset) ≡ true → Framed (f ∷ fs) offset
framed_first f fs offset e = record {
  frame = f;
  at = ap (slice_get (f ∷ fs)) (when_true (f.offset == offset) 0 (suc (frame_at fs offset)) e);
  offset' = eq_from f.offset offset e;
  stays = λ more. when_true (f.offset == offset) 0 (suc (frame_at (fs ++ more) offset)) e ∙ sym (when_true (f.offset == offset) 0 (suc (frame_at fs offset)) e);
}

framed_behind : (f : Allocation) (fs : List Allocation) (offset : ℕ) → (f.offset == offset) ≡ false → Framed fs offset → Framed (f ∷ fs) offset
framed_behind f fs offset e rest = record {
  frame = rest.frame;
  at = ap (slice_get (f ∷ fs)) (when_false (f.offset == offset) 0 (suc (frame_at fs offset)) e) ∙ rest.at;
  offset' = rest.offset';
  stays = λ more. ap (λ (n : ℕ). if f.offset == offset then 0 else suc n) (rest.stays more);
}

framed : (frames : List Allocation) (j : ℕ) (a : Allocation) → slice_get frames j ≡ Some a → Framed frames a.offset
framed [] j a h = cc
framed (f ∷ fs) zero a h =
    let is : f ≡ a = cc in framed_first f fs a.offset (ap (λ (x : Allocation). f.offset == x.offset) (sym is) ∙ eq_same f.offset)
framed (f ∷ fs) (suc j) a h =
    elim (f.offset == a.offset) as (λ t. (f.offset == a.offset) ≡ t → Framed (f ∷ fs) a.offset) [
      | true ↦ λ e. framed_first f fs a.offset e
      | false ↦ λ e. framed_behind f fs a.offset e (framed fs j a h)
    ] refl

module _ (net : Network) (w : World) where
  pub again_framed : (v : ℕ) (r : Repeat) → IsAgain net w v r → Framed (w.frames r.lane) r.offset
  again_framed v r h =
      subst (λ (x : Repeat). Framed (w.frames x.lane) x.offset) (sym h.is)
      (framed (w.frames h.entry.transmission.lane) h.sent.number (record { offset = h.entry.offset; item = h.entry.transmission.item }) h.sent.frame)

  abbrev pub AreEmissions : List Emission → Type 0
  AreEmissions es = AllByRecursion (λ (e : Emission). IsEmission net w (sender net.site (lane_of e)) e) es

  emission_lane : (v : ℕ) (e : Emission) → IsEmission net w v e → is_lane net.site (lane_of e) ≡ true
  emission_lane v (Again r) h = ap (λ (x : Repeat). is_lane net.site x.lane) h.is ∙ h.sent.site
  emission_lane v (New o) h = h.site

  pub on_lanes : (es : List Emission) → AreEmissions es → AreOnLanes net.site es
  on_lanes [] h = tt
  on_lanes (e ∷ es) h = (emission_lane (sender net.site (lane_of e)) e h.0, on_lanes es h.1)

  emission_there : (l : Lane) (v : ℕ) (e : Emission) → IsEmission net w v e → IsThere net l (w.frames l) e
  emission_there l v (Again r) h =
      λ is more. subst (λ (k : Lane). frame_at (w.frames k ++ more) r.offset ≡ frame_at (w.frames k) r.offset) is ((again_framed v r h).stays more)
  emission_there l v (New o) h = tt

  pub all_there : (l : Lane) (es : List Emission) → AreEmissions es → AllByRecursion (IsThere net l (w.frames l)) es
  all_there l [] h = tt
  all_there l (e ∷ es) h = (emission_there l (sender net.site (lane_of e)) e h.0, all_there l es h.1)
