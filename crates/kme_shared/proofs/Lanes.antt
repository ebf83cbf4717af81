-- What the workers of a block did on the lanes.
use Rattle.std.proofs.Common.{◌≡◌, ℕ, ◌+◌, ◌*◌, true, List, [], ◌∷◌, length, map, refl, sym, ◌∙◌, ap, subst, arith, Some}
use Rattle.std.specs.Prelude.{slice_get}
use Rattle.std.specs.List.{AllByRecursion, flat_map}
use Rattle.std.proofs.lemmas.List.{length-map}
use Rattle.std.proofs.lemmas.List.Folds.{flat_map-map}
use Rattle.qkd_base.specs.Lane.{lane_place}
use Rattle.qkd_base.specs.declared.lane.Lane.{Lane}
use Rattle.net_model.specs.World.{Network, World}
use Rattle.net_model.specs.Premises.{IsNetwork}
use Rattle.net_model.specs.Events.{is_lane}
use Rattle.net_model.specs.Tick.{Emission}
use Rattle.run_model.specs.Works.{Work, flat, done_from}
use Rattle.law_base.proofs.Lists.{all_kept, mapped_at}
use Rattle.turnstile.specs.Turns.{Leads}
use Rattle.lane_shares.specs.declared.shares.Shares.{Shares}
use Rattle.lane_shares.specs.Names.{lane_cap}
use Rattle.lane_sender.specs.Lane.{LaneForm}
use Rattle.par_lanes.specs.Turns.{Turns}
use Rattle.par_lanes.proofs.DeskLanes.{lane_leads}
use Rattle.shared_objects.specs.declared.either.Either.{Either}
use Rattle.shared_objects.specs.declared.either.Either.TheVariants.{Right}
use Rattle.par_lanes.specs.declared.emitted.Emitted.{Emitted}
use Rattle.par_lanes.specs.Wants.{is_at}
use Rattle.par_lanes.specs.Calls.{emitted_at}
use Rattle.world_state.specs.Passed.{LaneStands}
use Rattle.world_state.proofs.Passed.{get_within, get-map}
use Rattle.world_state.specs.Stands.{place_of}
use Rattle.law_parallel.specs.InOrder.{turns_over}
use Rattle.law_parallel.specs.Putting.{wanted_by}
use Rattle.law_parallel.specs.Logs.{wanted_on}
use Rattle.law_parallel.specs.Workers.{of_worker}
use Rattle.par_frames.specs.Owning.{AreOwnTurns, wants_of}
use Rattle.par_frames.specs.Working.{IsOfItsLine, wanted_for}
use Rattle.par_frames.specs.Blocks.{LaneWorked}
use Rattle.par_frames.proofs.OnALane.{wanted_emitted}
use Rattle.par_frames.proofs.Owning.{own_wanted}
use Rattle.par_managers.proofs.Places.{lane_within, same_place}
use Rattle.par_managers.specs.declared.keep.Replied.{Replied}
use Rattle.par_managers.specs.Talking.{wanted_in}
use Rattle.par_managers.specs.Together.{IsLaid}
use Rattle.kme_shared.specs.Desks.{LaneTurns}
use Rattle.kme_shared.proofs.WorkKeeping.{AllKept, all_of_lines, one_kept}
use Rattle.kme_shared.proofs.Owning.{own_turn}
use Rattle.source_devices.specs.declared.wire.Wire as Wire

all_emitted : (i : ℕ) (outs : List (List (Emission × Emitted))) → AllByRecursion (AllByRecursion IsOfItsLine) outs → AllByRecursion (AllByRecursion IsOfItsLine) (map (emitted_at i) outs)
all_emitted i [] h = tt
all_emitted i (xs ∷ outs) h = (all_kept IsOfItsLine (λ (x : Emission × Emitted). is_at i x.0) xs h.0, all_emitted i outs h.1)

module _ {X L M : Type 0} (wire_says : Wire.Ghosts X) (side_of : L → LaneForm X) (shares_of : L → Shares) (net : Network) (workers : ℕ) (w : World) (histories : List (List Work))
    (lanes lanes' : List (LaneForm X)) (first : ℕ) (machines machines' : List (Either M L)) (mines : List (List Replied)) (outs : List (List (Emission × Emitted))) where
  abbrev wanted : List (ℕ × Emission)
  wanted = wanted_by (done_from net w (flat histories))

  -- A lane did what the plans want of it. Its states before and after the block are those in the lists of all lanes.
  pub record IsWorked (l : Lane) : Type 0 where
    pub lane : LaneWorked wire_says net workers (turns_over net w histories) wanted l
    pub was : slice_get lanes (place_of l) ≡ Some lane.old
    pub is : slice_get lanes' (place_of l) ≡ Some lane.new
    pub put : lane.outs ≡ map (emitted_at (lane_place l)) outs

  module _ (sat : (i : ℕ) (side : LaneForm X) → slice_get lanes i ≡ Some side → (desk : L) × (slice_get machines (first + i) ≡ Some (Right desk)) × (side_of desk ≡ side))
      (laid : (i : ℕ) (side : LaneForm X) (before : L) → slice_get lanes i ≡ Some side → slice_get machines (first + i) ≡ Some (Right before) →
      (after : L) × (slice_get machines' (first + i) ≡ Some (Right after)) × IsLaid (LaneTurns wire_says side_of shares_of) i side outs before after)
      (risen : (i : ℕ) (desk : L) → slice_get machines' (first + i) ≡ Some (Right desk) → slice_get lanes' i ≡ Some (side_of desk))
      (stand : (l : Lane) (side : LaneForm X) → is_lane net.site l ≡ true → slice_get lanes (place_of l) ≡ Some side → LaneStands wire_says net (turns_over net w histories) l side)
      (long : length lanes ≡ 2 * net.site.links) (keeps : AllKept first mines outs) (callers : length outs ≡ workers) (network : IsNetwork net)
      (own : AreOwnTurns net workers w histories (map (map own_turn) mines)) where
    wanted_there : (mine : List Replied) → flat_map wants_of (map own_turn mine) ≡ flat_map wanted_in mine
    wanted_there mine = flat_map-map wants_of own_turn mine

    own_put : (l : Lane) → is_lane net.site l ≡ true → (k : ℕ) (out : List (Emission × Emitted)) → slice_get outs k ≡ Some out →
        map wanted_for (emitted_at (lane_place l) out) ≡ of_worker workers k (wanted_on l wanted)
    own_put l e k out at =
        let m = one_kept first mines outs keeps k out at in
        wanted_emitted l out ∙ ap (wanted_on l) (m.2 ∙ sym (wanted_there m.0))
        ∙ sym (own_wanted net l workers k network w histories (map (map own_turn) mines) own e (map own_turn m.0) (get-map (map own_turn) mines k m.0 m.1))

    pub is_worked : (l : Lane) → is_lane net.site l ≡ true → IsWorked l
    is_worked l e =
        let i : ℕ = lane_place l in
        let below = lane_within net.site l e in
        let there = get_within lanes i (omega (arith, long, below)) in
        let side : LaneForm X = there.0 in
        let s = sat i side there.1 in
        let d = laid i side s.0 there.1 s.1 in
        let h = d.2 in
        let place : place_of l ≡ i = same_place l in
        record {
          lane = record {
            old = side;
            new = side_of d.0;
            stands = stand l side e (ap (slice_get lanes) place ∙ there.1);
            cap = lane_cap (shares_of s.0);
            outs = map (emitted_at i) outs;
            calls = h.calls;
            history = h.log;
            called = record { merged = h.merged; by = h.by; each = all_emitted i outs (all_of_lines first mines outs keeps) };
            leads = subst (λ (x : LaneForm X). Leads (Turns wire_says (lane_cap (shares_of s.0))) x h.log (side_of d.0)) s.2
                (lane_leads wire_says side_of shares_of s.0 d.0 h.log h.leads);
            callers = length-map outs (emitted_at i) ∙ callers;
            own = λ k xs at.
                let x = mapped_at (emitted_at i) outs xs k at in
                subst (λ (ys : List (Emission × Emitted)). map wanted_for ys ≡ of_worker workers k (wanted_on l wanted)) x.2 (own_put l e k x.0 x.1);
          };
          was = ap (slice_get lanes) place ∙ there.1;
          is = ap (slice_get lanes') place ∙ risen i d.0 d.1;
          put = refl;
        }
