-- A whole round, and rounds in order.
use Rattle.std.proofs.Common.{◌≡◌, ℕ, suc, ◌+◌, ◌-◌, ◌<◌, ◌≤◌, Bool, false, List, length, map, nat_lt, sym, ap, subst, ◌∙◌, arith}
use Rattle.std.specs.Prelude.{Result, Ok, Err, MatchResult, if◌then◌else◌, sum_by}
use Rattle.std.proofs.lemmas.Bool.{lt-ltb}
use Rattle.std.proofs.lemmas.Bool.Decides.{nat_tests}
use Rattle.qkd_base.specs.declared.lane.Lane.{Lane}
use Rattle.net_model.specs.Site.{Site, count_up}
use Rattle.net_model.specs.World.{Network, World}
use Rattle.net_model.specs.Action.{Action}
use Rattle.run_model.specs.Script.{Script, Looks, Ends, then_comes}
use Rattle.run_model.specs.Play.{Played}
use Rattle.run_model.specs.Lines.{ticks, all_passes, all_lanes, on_wires, settle}
use Rattle.run_model.specs.Headline.{Given}
use Rattle.run_ops.specs.Acting.{IsReady}
use Rattle.run_lines.specs.declared.stop.Stop.{Stop}
use Rattle.run_lines.specs.Going.{Reached}
use Rattle.run_lines.specs.Running.{Finishes, Stops}
use Rattle.run_lines.specs.Counting.{on_wire, AreOn, round}
use Rattle.run_lines.specs.declared.settle_rounds.Frames.{Frames}
use Rattle.run_lines.proofs.Going.{Ways, reached_on, reached_stop, reached_after, reached_looks, stops_after}
use Rattle.run_lines.proofs.Wires.{wires_stay, all_passes_deliver}

on_same : (lanes : List Lane) (a b : World) (frames : Frames) → a.wire ≡ b.wire → AreOn lanes b frames → AreOn lanes a frames
on_same lanes a b frames same h = record {
  each = h.each ∙ ap (λ (f : Lane → List ℕ). map (λ l. length (f l)) lanes) (sym same);
  all = h.all ∙ ap (λ (f : Lane → List ℕ). sum_by (λ l. length (f l)) lanes) (sym same);
}

pub one_round : (site : Site) (rounds turn : ℕ) → turn < rounds → settle site (rounds - turn) ≡ round site (settle site (rounds - (turn + 1)))
unfolding settle
one_round site rounds turn below = let more : rounds - turn ≡ suc (rounds - (turn + 1)) = omega arith in ap (settle site) more

pub no_round : (site : Site) (rounds turn : ℕ) → rounds ≤ turn → settle site (rounds - turn) ≡ Ends
unfolding settle
no_round site rounds turn past = let none : rounds - turn ≡ 0 = omega arith in ap (settle site) none

pub none_put : (next : Script) (before now : ℕ) → now ≤ before → (if nat_lt before now then next else Ends) ≡ Ends
none_put next before now few = let no : nat_lt before now ≡ false = grind (arith, nat_tests) in ap (λ (b : Bool). if b then next else Ends) no

pub some_put : (next : Script) (before now : ℕ) → before < now → (if nat_lt before now then next else Ends) ≡ next
some_put next before now more = ap (λ (b : Bool). if b then next else Ends) (lt-ltb before now more)

module _ {S : Type 0} (Stands Rests : S → Network → World → Type 0) (Tallied : S → S → Site → List Action → Type 0) (ways : Ways Stands Rests Tallied) (nodes : List (List ℕ)) (number : ℕ)
    (site : Site) (next : Script) (net : Network) (w : World) (a b : S) (r t : Given) where
  abbrev rest : World → Script
  rest before = Looks (λ now. then_comes (all_passes before now (all_lanes site)) (if nat_lt (on_wires site before) (on_wires site now) then next else Ends))

  abbrev body : World → Script
  body before = then_comes (ticks site (count_up site.nodes)) (rest before)

  abbrev Ticked : Type 0
  Ticked = Finishes Stands Tallied nodes a b r t number net w (ticks site (count_up site.nodes))

  pub ticks_short : (stop : Stop) → IsReady Stands a net w → Stops Rests Tallied nodes a b r t number net w (ticks site (count_up site.nodes)) stop →
      Stops Rests Tallied nodes a b r t number net w (round site next) stop
  ticks_short stop ready s =
      reached_stop Stands Rests Tallied ways nodes number net a a b r r t w w (round site next) (body w) stop (reached_looks Stands Rests Tallied ways nodes number net a r w body ready)
      (stops_after Stands Rests Tallied ways nodes number net a b r t w (ticks site (count_up site.nodes)) (rest w) stop s)

  module _ (ready : IsReady Stands a net w) (f : Ticked) (lanes : List Lane) (all : lanes ≡ all_lanes site) (before : Frames) (on : AreOn lanes w before) (c : S) (u : Given) where
    abbrev last : World → Script
    last now = if nat_lt (on_wires site w) (on_wires site now) then next else Ends

    reached_passes : Reached Stands Tallied nodes a b r t number net w (round site next) f.plays.after (then_comes (all_passes w f.plays.after lanes) (last f.plays.after))
    reached_passes =
        let m = f.plays.after in
        let looks = reached_looks Stands Rests Tallied ways nodes number net a r w body ready in
        let ticked = reached_after Stands Rests Tallied ways nodes number net a b r t w (ticks site (count_up site.nodes)) (rest w) f in
        let so_far = reached_on Stands Rests Tallied ways nodes number net a a b r r t w w m (round site next) (body w) (rest w) looks ticked in
        let again = reached_looks Stands Rests Tallied ways nodes number net b t m (λ now. then_comes (all_passes w now (all_lanes site)) (last now)) f.plays.ready in
        subst (λ (ls : List Lane). Reached Stands Tallied nodes a b r t number net w (round site next) m (then_comes (all_passes w m ls) (last m))) (sym all)
        (reached_on Stands Rests Tallied ways nodes number net a b b r t t w m m (round site next) (rest w) (then_comes (all_passes w m (all_lanes site)) (last m)) so_far again)

    rest_is : (now : Frames) → AreOn lanes f.plays.after now → last f.plays.after ≡ (if nat_lt before.all now.all then next else Ends)
    rest_is now there =
        let was : before.all ≡ on_wires site w = on.all ∙ ap (sum_by (on_wire w)) all in
        let is : now.all ≡ on_wires site f.plays.after = there.all ∙ ap (sum_by (on_wire f.plays.after)) all in
        ap (λ (n : ℕ). if nat_lt n (on_wires site f.plays.after) then next else Ends) (sym was) ∙ ap (λ (n : ℕ). if nat_lt before.all n then next else Ends) (sym is)

    pub round_passed : (result : Result Frames Stop) →
        MatchResult result (λ now. Finishes Stands Tallied nodes b c t u number net f.plays.after (all_passes w f.plays.after lanes) × AreOn lanes f.plays.after now)
        (λ stop. Stops Rests Tallied nodes b c t u number net f.plays.after (all_passes w f.plays.after lanes) stop) →
        MatchResult result
        (λ now. (after : World) × Reached Stands Tallied nodes a c r u number net w (round site next) after (if nat_lt before.all now.all then next else Ends) × AreOn lanes after now)
        (λ stop. Stops Rests Tallied nodes a c r u number net w (round site next) stop)
    round_passed (Ok now) p =
        let m = f.plays.after in
        let q = p.0 in
        let kept : q.plays.after.wire ≡ m.wire =
        ap (λ (x : Played). x.world.wire) (sym (q.plays.said number)) ∙ wires_stay net number m (all_passes w m lanes) q.plays.actions (all_passes_deliver w m lanes) q.plays.is in
        let there = reached_after Stands Rests Tallied ways nodes number net b c t u m (all_passes w m lanes) (last m) q in (
          q.plays.after,
          subst (Reached Stands Tallied nodes a c r u number net w (round site next) q.plays.after) (rest_is now p.1)
              (reached_on Stands Rests Tallied ways nodes number net a b c r t u w m q.plays.after (round site next) (then_comes (all_passes w m lanes) (last m)) (last m) reached_passes there),
          on_same lanes q.plays.after m now kept p.1,
        )
    round_passed (Err stop) s =
        let m = f.plays.after in
        reached_stop Stands Rests Tallied ways nodes number net a b c r t u w m (round site next) (then_comes (all_passes w m lanes) (last m)) stop reached_passes
        (stops_after Stands Rests Tallied ways nodes number net b c t u m (all_passes w m lanes) (last m) stop s)
