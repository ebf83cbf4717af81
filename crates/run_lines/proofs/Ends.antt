-- Blocks at one end of a link, and then at the other.
use Rattle.std.proofs.Common.{◌≡◌, ℕ, suc, ◌+◌, ◌-◌, ◌<◌, ◌≤◌, Bool, List, ap, subst, arith}
use Rattle.net_model.specs.Site.{Site}
use Rattle.net_model.specs.World.{Network, World}
use Rattle.net_model.specs.Action.{Action}
use Rattle.run_types.specs.declared.end.End.TheVariants.{Low, High}
use Rattle.run_model.specs.Script.{Script, Ends}
use Rattle.run_model.specs.Lines.{block_at_end, blocks}
use Rattle.run_model.specs.Headline.{Given}
use Rattle.run_ops.specs.Acting.{IsReady}
use Rattle.run_lines.specs.declared.stop.Stop.{Stop}
use Rattle.run_lines.specs.Running.{Stops}
use Rattle.run_lines.proofs.Going.{Ways}
use Rattle.run_lines.proofs.Looping.{Went, went_on, went_stops}

-- after some turns, the rest of the line begins at the low end
one_turn : (site : Site) (link : ℕ) (low high : Bool) (count turn : ℕ) → turn < count →
    blocks site link low high (count - turn) ≡ block_at_end site link Low low (λ l. block_at_end site link High high (λ h. blocks site link l h (count - (turn + 1))))
unfolding blocks
one_turn site link low high count turn below =
    let more : count - turn ≡ suc (count - (turn + 1)) = omega arith in
    ap (blocks site link low high) more

pub no_turn : (site : Site) (link : ℕ) (low high : Bool) (count turn : ℕ) → count ≤ turn → blocks site link low high (count - turn) ≡ Ends
unfolding blocks
no_turn site link low high count turn past =
    let none : count - turn ≡ 0 = omega arith in
    ap (blocks site link low high) none

module _ {S : Type 0} (Stands Rests : S → Network → World → Type 0) (Tallied : S → S → Site → List Action → Type 0) (ways : Ways Stands Rests Tallied) (nodes : List (List ℕ)) (number : ℕ)
    (site : Site) (link : ℕ) (low high : Bool) (count turn : ℕ) (below : turn < count) (a b : S) (r t : Given) (script : Script)
    (before : Went Stands Tallied nodes a b r t number script (blocks site link low high (count - turn))) where
  at_low : Went Stands Tallied nodes a b r t number script (block_at_end site link Low low (λ l. block_at_end site link High high (λ h. blocks site link l h (count - (turn + 1)))))
  at_low = subst (Went Stands Tallied nodes a b r t number script) (one_turn site link low high count turn below) before

  pub low_taken : (c : S) (u : Given) (goes_on : Bool) → ((next : Bool → Script) → Went Stands Tallied nodes b c t u number (block_at_end site link Low low next) (next goes_on)) →
      Went Stands Tallied nodes a c r u number script (block_at_end site link High high (λ h. blocks site link goes_on h (count - (turn + 1))))
  low_taken c u goes_on took =
      let next : Bool → Script = λ l. block_at_end site link High high (λ h. blocks site link l h (count - (turn + 1))) in
      went_on Stands Rests Tallied ways nodes number a b c r t u script (block_at_end site link Low low next) (next goes_on) at_low (took next)

  pub low_short : (c : S) (u : Given) (stop : Stop) → ((next : Bool → Script) (net : Network) (w : World) → IsReady Stands b net w → Stops Rests Tallied nodes b c t u number net w (block_at_end site link Low low next) stop) →
      (net : Network) (w : World) → IsReady Stands a net w → Stops Rests Tallied nodes a c r u number net w script stop
  low_short c u stop took =
      let next : Bool → Script = λ l. block_at_end site link High high (λ h. blocks site link l h (count - (turn + 1))) in
      went_stops Stands Rests Tallied ways nodes number stop a b c r t u script (block_at_end site link Low low next) at_low (took next)

  module _ (c : S) (u : Given) (low_goes : Bool) (took_low : (next : Bool → Script) → Went Stands Tallied nodes b c t u number (block_at_end site link Low low next) (next low_goes)) where
    pub high_taken : (d : S) (v : Given) (goes_on : Bool) → ((next : Bool → Script) → Went Stands Tallied nodes c d u v number (block_at_end site link High high next) (next goes_on)) →
        Went Stands Tallied nodes a d r v number script (blocks site link low_goes goes_on (count - (turn + 1)))
    high_taken d v goes_on took =
        let next : Bool → Script = λ h. blocks site link low_goes h (count - (turn + 1)) in
        went_on Stands Rests Tallied ways nodes number a c d r u v script (block_at_end site link High high next) (next goes_on) (low_taken c u low_goes took_low) (took next)

    pub high_short : (d : S) (v : Given) (stop : Stop) → ((next : Bool → Script) (net : Network) (w : World) → IsReady Stands c net w → Stops Rests Tallied nodes c d u v number net w (block_at_end site link High high next) stop) →
        (net : Network) (w : World) → IsReady Stands a net w → Stops Rests Tallied nodes a d r v number net w script stop
    high_short d v stop took =
        let next : Bool → Script = λ h. blocks site link low_goes h (count - (turn + 1)) in
        went_stops Stands Rests Tallied ways nodes number stop a c d r u v script (block_at_end site link High high next) (low_taken c u low_goes took_low) (took next)
