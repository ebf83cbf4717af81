-- The rounds of a settle line, node by node and frame by frame.
use Rattle.std.proofs.Common.{◌≡◌, ℕ, zero, suc, ◌+◌, ◌-◌, ◌<◌, ◌≤◌, Bool, true, false, List, [], ◌∷◌, ◌++◌, length, drop, refl, sym, ap, subst, ◌∙◌, inl, inr, arith, length-append}
use Rattle.std.specs.Prelude.{if◌then◌else◌, Result, Ok, Err}
use Rattle.std.proofs.lemmas.Bool.{cases_lt}
use Rattle.std.proofs.lemmas.List.{drop-append-le, drop_all}
use Rattle.qkd_base.specs.declared.lane.Lane.{Lane}
use Rattle.net_model.specs.Site.{Site, count_up}
use Rattle.net_model.specs.World.{Network, World}
use Rattle.net_model.specs.Action.{Action, Deliver, Ok as Fine}
use Rattle.run_types.specs.declared.item.Item.TheVariants as items
use Rattle.run_model.specs.Script.{Script, Ends, Looks, asks, then_comes}
use Rattle.run_model.specs.Play.{play}
use Rattle.run_model.specs.Outcomes.{frame_items}
use Rattle.run_model.specs.Lines.{ticked, ticks, passes}
use Rattle.run_model.specs.Headline.{Given}
use Rattle.run_ops.specs.Acting.{IsReady}
use Rattle.run_lines.specs.declared.stop.Stop.{Stop}
use Rattle.run_lines.specs.Running.{Finishes, Ran}
use Rattle.run_lines.proofs.Going.{Ways, reached_none, finishes}

-- ---- nodes in order

counted : (n : ℕ) → length (count_up n) ≡ n
counted zero = refl
counted (suc n) = length-append (count_up n) (n ∷ []) ∙ (let same = counted n in omega (arith, same))

pub from_node : (n i : ℕ) → i < n → drop i (count_up n) ≡ i ∷ drop (i + 1) (count_up n)
from_node zero i below = absurd (omega (arith, below))
from_node (suc n) i below =
    let all = counted n in
    elim (cases_lt i n) [
      | inl before ↦
          drop-append-le i (count_up n) (n ∷ []) (omega (arith, before, all)) ∙ ap (λ (xs : List ℕ). xs ++ n ∷ []) (from_node n i before)
          ∙ ap (λ (xs : List ℕ). i ∷ xs) (sym (drop-append-le (i + 1) (count_up n) (n ∷ []) (omega (arith, before, all))))
      | inr not_before ↦
          let here : i ≡ n = omega (arith, below, not_before) in
          let whole = counted (suc n) in
          drop-append-le i (count_up n) (n ∷ []) (omega (arith, here, all)) ∙ ap (λ (xs : List ℕ). xs ++ n ∷ []) (drop_all i (count_up n) (omega (arith, here, all)))
          ∙ ap (λ (m : ℕ). m ∷ []) (sym here) ∙ ap (λ (xs : List ℕ). i ∷ xs) (sym (drop_all (i + 1) (count_up (suc n)) (omega (arith, here, whole))))
    ]

pub past_nodes : (n i : ℕ) → n ≤ i → drop i (count_up n) ≡ []
past_nodes n i past = let all = counted n in drop_all i (count_up n) (omega (arith, past, all))

abbrev pub tick_up : Site → ℕ → Script
tick_up site v = Looks (λ w. if w.up v then ticked site true v else Ends)

pub one_tick : (site : Site) (n i : ℕ) → i < n → ticks site (drop i (count_up n)) ≡ then_comes (tick_up site i) (ticks site (drop (i + 1) (count_up n)))
unfolding then_comes
one_tick site n i below = ap (ticks site) (from_node n i below)

pub no_tick : (site : Site) (n i : ℕ) → n ≤ i → ticks site (drop i (count_up n)) ≡ Ends
no_tick site n i past = ap (ticks site) (past_nodes n i past)

-- ---- frames in order

pub one_pass : (l : Lane) (i to : ℕ) → i < to → passes l i (to - i) ≡ then_comes (asks (Deliver l i Fine) (frame_items (items.Passed l i))) (passes l (i + 1) (to - (i + 1)))
unfolding then_comes
one_pass l i to below = let more : to - i ≡ suc (to - (i + 1)) = omega arith in ap (passes l i) more

pub no_pass : (l : Lane) (i to : ℕ) → to ≤ i → passes l i (to - i) ≡ Ends
no_pass l i to past = let none : to - i ≡ 0 = omega arith in ap (passes l i) none

-- ---- a look at the world

module _ {S : Type 0} (Stands Rests : S → Network → World → Type 0) (Tallied : S → S → Site → List Action → Type 0) (ways : Ways Stands Rests Tallied) (nodes : List (List ℕ)) (number : ℕ) where
  looked_whole : (net : Network) (w : World) (a b : S) (r t : Given) (next : World → Script) →
      Finishes Stands Tallied nodes a b r t number net w (next w) → Finishes Stands Tallied nodes a b r t number net w (Looks next)
  unfolding play
  looked_whole net w a b r t next f = record {
    items = f.items;
    plays = record { actions = f.plays.actions; after = f.plays.after; is = f.plays.is; said = f.plays.said; ready = f.plays.ready; tallied = f.plays.tallied };
    took = f.took;
  }

  looked : {T : Type 0} (net : Network) (w : World) (a b : S) (r t : Given) (next : World → Script) (result : Result T Stop) →
      Ran Stands Rests Tallied nodes a b r t number net w (next w) result → Ran Stands Rests Tallied nodes a b r t number net w (Looks next) result
  unfolding play
  looked net w a b r t next (Ok done) f = looked_whole net w a b r t next f
  looked net w a b r t next (Err stop) s = record { actions = s.actions; is = s.is; rests = s.rests; tallied = s.tallied; told = s.told }

  pub up_ticked : {T : Type 0} (net : Network) (w : World) (a b : S) (r t : Given) (site : Site) (v : ℕ) (result : Result T Stop) → w.up v ≡ true →
      Ran Stands Rests Tallied nodes a b r t number net w (ticked site true v) result → Ran Stands Rests Tallied nodes a b r t number net w (tick_up site v) result
  up_ticked net w a b r t site v result up ran =
      looked net w a b r t (λ at. if at.up v then ticked site true v else Ends) result
      (subst (λ (u : Bool). Ran Stands Rests Tallied nodes a b r t number net w (if u then ticked site true v else Ends) result) (sym up) ran)

  pub down_unticked : (net : Network) (w : World) (a : S) (r : Given) (site : Site) (v : ℕ) → w.up v ≡ false → IsReady Stands a net w →
      Finishes Stands Tallied nodes a a r r number net w (tick_up site v)
  down_unticked net w a r site v down ready =
      looked_whole net w a a r r (λ at. if at.up v then ticked site true v else Ends)
      (subst (λ (u : Bool). Finishes Stands Tallied nodes a a r r number net w (if u then ticked site true v else Ends)) (sym down)
      (finishes Stands Rests Tallied ways nodes number net a a r r w w Ends (reached_none Stands Rests Tallied ways nodes number net a r w Ends ready)))
