-- The new frames of each wire are passed, lane by lane.
use Rattle.std.proofs.Common.{◌≡◌, ℕ, suc, ◌+◌, ◌-◌, ◌<◌, ◌≤◌, List, [], ◌∷◌, ◌++◌, length, get_or, take, drop, map, refl, sym, ap, subst, ◌∙◌, add-one, Vec, Global}
use Rattle.std.specs.Prelude.{sum_by}
use Rattle.std.proofs.Math.Seq.{drop-cons}
use Rattle.std.proofs.lemmas.List.{map_more, drop_all, take_all, get_or-map}
use Rattle.std.proofs.lemmas.List.Sums.{sum_by_more}
use Rattle.qkd_base.specs.declared.lane.Lane.{Lane}
use Rattle.net_model.specs.Site.{Site}
use Rattle.net_model.specs.World.{Network, World}
use Rattle.net_model.specs.Action.{Action}
use Rattle.run_model.specs.Script.{then_comes}
use Rattle.run_model.specs.Play.{Played}
use Rattle.run_model.specs.Lines.{passes, all_passes}
use Rattle.run_model.specs.Headline.{Given}
use Rattle.run_ops.specs.Acting.{IsReady}
use Rattle.run_lines.specs.declared.stop.Stop.{Stop}
use Rattle.run_lines.specs.declared.stop.Stop.TheVariants.{Memory}
use Rattle.run_lines.specs.Going.{Reached}
use Rattle.run_lines.specs.Running.{Finishes, Stops}
use Rattle.run_lines.specs.Counting.{on_wire, AreOn}
use Rattle.run_lines.specs.declared.settle_rounds.Frames.{Frames}
use Rattle.run_lines.proofs.Going.{Ways, reached_none, reached_on, reached_stop, reached_after, stops_after, stops_here, finishes}
use Rattle.run_lines.proofs.Wires.{wires_stay, passes_deliver}

-- ---- numbers of frames

pub counts_none : (w : World) (each : Vec ℕ Global) → each.items ≡ [] → AreOn [] w (record { each = each; all = 0 })
counts_none w each is = record { each = is; all = refl }

pub counts_more : (lanes : List Lane) (w : World) (each more : Vec ℕ Global) (all sum count i : ℕ) (lane d : Lane) → i < length lanes → lane ≡ get_or lanes i d → AreOn (take i lanes) w (record { each = each; all = all }) →
    count ≡ on_wire w lane → more.items ≡ each.items ++ count ∷ [] → sum ≡ all + count → AreOn (take (i + 1) lanes) w (record { each = more; all = sum })
counts_more lanes w each more all sum count i lane d below is so_far counted pushed added =
    let here : count ≡ on_wire w (get_or lanes i d) = counted ∙ ap (on_wire w) is in
    record {
      each = pushed ∙ ap (λ (xs : List ℕ). xs ++ count ∷ []) so_far.each ∙ ap (λ (n : ℕ). map (on_wire w) (take i lanes) ++ n ∷ []) here ∙ sym (map_more (on_wire w) lanes i d below);
      all = added ∙ ap (λ (n : ℕ). n + count) so_far.all ∙ ap (λ (n : ℕ). sum_by (on_wire w) (take i lanes) + n) here ∙ sym (sum_by_more (on_wire w) lanes i d below);
    }

pub was_on : (earlier : World) (before : List ℕ) (lanes : List Lane) (i : ℕ) (lane d : Lane) → before ≡ map (on_wire earlier) lanes → i < length lanes → lane ≡ get_or lanes i d → get_or before i 0 ≡ on_wire earlier lane
was_on earlier before lanes i lane d was below is =
    ap (λ (xs : List ℕ). get_or xs i 0) was ∙ get_or-map (on_wire earlier) lanes i d 0 below ∙ ap (on_wire earlier) (sym is)

pub all_counted : (lanes : List Lane) (w : World) (i : ℕ) (frames : Frames) → length lanes ≤ i → AreOn (take i lanes) w frames → AreOn lanes w frames
all_counted lanes w i frames past so_far = subst (λ (ls : List Lane). AreOn ls w frames) (take_all i lanes past) so_far

-- ---- lanes in order

-- The new frames of the first lanes were passed. The wires are unchanged, and their frames are counted.
pub record Passed {S : Type 0} (Stands : S → Network → World → Type 0) (Tallied : S → S → Site → List Action → Type 0) (nodes : List (List ℕ)) (number : ℕ) (lanes : List Lane) (a b : S)
    (r t : Given) (net : Network) (earlier w : World) (place : ℕ) (frames : Frames) : Type 0 where
  pub after : World
  pub reached : Reached Stands Tallied nodes a b r t number net w (all_passes earlier w lanes) after (all_passes earlier w (drop place lanes))
  pub wire : after.wire ≡ w.wire
  pub counted : AreOn (take place lanes) w frames

one_lane : (earlier w : World) (lanes : List Lane) (i : ℕ) (lane d : Lane) → i < length lanes → lane ≡ get_or lanes i d →
    all_passes earlier w (drop i lanes) ≡ then_comes (passes lane (on_wire earlier lane) (on_wire w lane - on_wire earlier lane)) (all_passes earlier w (drop (i + 1) lanes))
one_lane earlier w lanes i lane d below is =
    ap (all_passes earlier w) (drop-cons lanes i d below ∙ ap (λ (l : Lane). l ∷ drop (suc i) lanes) (sym is) ∙ ap (λ (n : ℕ). lane ∷ drop n lanes) (sym (add-one i)))

module _ {S : Type 0} (Stands Rests : S → Network → World → Type 0) (Tallied : S → S → Site → List Action → Type 0) (ways : Ways Stands Rests Tallied) (nodes : List (List ℕ)) (number : ℕ)
    (lanes : List Lane) (net : Network) (earlier w : World) where
  pub passed_none : (a : S) (r : Given) (each : Vec ℕ Global) → each.items ≡ [] → IsReady Stands a net w →
      Passed Stands Tallied nodes number lanes a a r r net earlier w 0 (record { each = each; all = 0 })
  passed_none a r each is ready = record {
    after = w;
    reached = reached_none Stands Rests Tallied ways nodes number net a r w (all_passes earlier w lanes) ready;
    wire = refl;
    counted = counts_none w each is;
  }

  module _ (a b : S) (r t : Given) (i : ℕ) (frames : Frames) (lane d : Lane) (from count : ℕ) (below : i < length lanes) (is : lane ≡ get_or lanes i d)
      (p : Passed Stands Tallied nodes number lanes a b r t net earlier w i frames) (was : from ≡ on_wire earlier lane) (found : count ≡ length (p.after.wire lane)) where
    pub count_is : count ≡ on_wire w lane
    count_is = found ∙ ap (λ (f : Lane → List ℕ). length (f lane)) p.wire

    script_is : all_passes earlier w (drop i lanes) ≡ then_comes (passes lane from (count - from)) (all_passes earlier w (drop (i + 1) lanes))
    script_is =
        one_lane earlier w lanes i lane d below is
        ∙ ap (λ (n : ℕ). then_comes (passes lane n (on_wire w lane - n)) (all_passes earlier w (drop (i + 1) lanes))) (sym was)
        ∙ ap (λ (n : ℕ). then_comes (passes lane from (n - from)) (all_passes earlier w (drop (i + 1) lanes))) (sym count_is)

    reached_here : Reached Stands Tallied nodes a b r t number net w (all_passes earlier w lanes) p.after (then_comes (passes lane from (count - from)) (all_passes earlier w (drop (i + 1) lanes)))
    reached_here = subst (Reached Stands Tallied nodes a b r t number net w (all_passes earlier w lanes) p.after) script_is p.reached

    pub lane_short : (c : S) (u : Given) (stop : Stop) → Stops Rests Tallied nodes b c t u number net p.after (passes lane from (count - from)) stop →
        Stops Rests Tallied nodes a c r u number net w (all_passes earlier w lanes) stop
    lane_short c u stop s =
        let last = all_passes earlier w (drop (i + 1) lanes) in
        reached_stop Stands Rests Tallied ways nodes number net a b c r t u w p.after (all_passes earlier w lanes) (then_comes (passes lane from (count - from)) last) stop reached_here
        (stops_after Stands Rests Tallied ways nodes number net b c t u p.after (passes lane from (count - from)) last stop s)

    module _ (c : S) (u : Given) (f : Finishes Stands Tallied nodes b c t u number net p.after (passes lane from (count - from))) where
      reached_there : Reached Stands Tallied nodes a c r u number net w (all_passes earlier w lanes) f.plays.after (all_passes earlier w (drop (i + 1) lanes))
      reached_there =
          let last = all_passes earlier w (drop (i + 1) lanes) in
          reached_on Stands Rests Tallied ways nodes number net a b c r t u w p.after f.plays.after (all_passes earlier w lanes) (then_comes (passes lane from (count - from)) last) last reached_here
          (reached_after Stands Rests Tallied ways nodes number net b c t u p.after (passes lane from (count - from)) last f)

      -- out of memory after these frames were passed
      pub count_short : Stops Rests Tallied nodes a c r u number net w (all_passes earlier w lanes) Memory
      count_short =
          let last = all_passes earlier w (drop (i + 1) lanes) in
          reached_stop Stands Rests Tallied ways nodes number net a c c r u u w f.plays.after (all_passes earlier w lanes) last Memory reached_there
          (stops_here Stands Rests Tallied ways nodes number net c u f.plays.after last f.plays.ready)

      pub passed_more : (more : Frames) → AreOn (take (i + 1) lanes) w more → Passed Stands Tallied nodes number lanes a c r u net earlier w (i + 1) more
      passed_more more counted = record {
        after = f.plays.after;
        reached = reached_there;
        wire =
            ap (λ (q : Played). q.world.wire) (sym (f.plays.said number))
            ∙ wires_stay net number p.after (passes lane from (count - from)) f.plays.actions (passes_deliver lane from (count - from)) f.plays.is ∙ p.wire;
        counted = counted;
      }

  pub passed_all : (a b : S) (r t : Given) (i : ℕ) (frames : Frames) → length lanes ≤ i → Passed Stands Tallied nodes number lanes a b r t net earlier w i frames →
      Finishes Stands Tallied nodes a b r t number net w (all_passes earlier w lanes)
  passed_all a b r t i frames past p =
      finishes Stands Rests Tallied ways nodes number net a b r t w p.after (all_passes earlier w lanes)
      (subst (Reached Stands Tallied nodes a b r t number net w (all_passes earlier w lanes) p.after) (ap (all_passes earlier w) (drop_all i lanes past)) p.reached)
