-- A run that goes through a script step by step, in any network and world for which it is ready.
use Rattle.std.proofs.Common.{◌≡◌, ℕ, false, List, subst}
use Rattle.std.specs.Prelude.{Result, Ok, Err, MatchResult}
use Rattle.net_model.specs.Site.{Site}
use Rattle.net_model.specs.World.{Network, World}
use Rattle.net_model.specs.Action.{Action, Outcome}
use Rattle.net_model.specs.Step.{step}
use Rattle.run_types.specs.declared.item.Item.{Item}
use Rattle.run_model.specs.Script.{Script, Ends, Reports, Asks, then_comes}
use Rattle.run_model.specs.Play.{numbered, is_forged}
use Rattle.run_model.specs.Headline.{Given, report_pieces}
use Rattle.run_ops.specs.Acting.{IsReady, Does}
use Rattle.run_lines.specs.declared.stop.Stop.{Stop}
use Rattle.run_lines.specs.declared.stop.Stop.TheVariants.{Memory}
use Rattle.run_lines.specs.Reporting.{Wrote}
use Rattle.run_lines.specs.Going.{Reached}
use Rattle.run_lines.specs.Running.{Stops, Runs, IsReadySomewhere}
use Rattle.run_lines.proofs.Going.{Ways, reached_none, reached_on, reached_stop, reached_after, stops_after, stops_here, finishes, told, asked}

-- the run has come to this rest of the script
abbrev pub Went : {S : Type 0} → (Stands : S → Network → World → Type 0) → (Tallied : S → S → Site → List Action → Type 0) → List (List ℕ) → (old now : S) →
    (before taken : Given) → ℕ → Script → Script → Type 0
Went Stands Tallied nodes old now before taken number script rest =
    (net : Network) (w : World) → IsReady Stands old net w → (after : World) × Reached Stands Tallied nodes old now before taken number net w script after rest

module _ {S : Type 0} (Stands Rests : S → Network → World → Type 0) (Tallied : S → S → Site → List Action → Type 0) (ways : Ways Stands Rests Tallied) (nodes : List (List ℕ)) (number : ℕ) where
  pub went_none : (s : S) (t : Given) (script : Script) → Went Stands Tallied nodes s s t t number script script
  went_none s t script = λ net w ready. (w, reached_none Stands Rests Tallied ways nodes number net s t w script ready)

  pub went_ready : (a b : S) (r t : Given) (script rest : Script) → Went Stands Tallied nodes a b r t number script rest → IsReadySomewhere Stands a → IsReadySomewhere Stands b
  went_ready a b r t script rest went at = let here = went at.0 at.1 at.2 in (at.0, here.0, here.1.ready)

  pub went_on : (a b c : S) (r t u : Given) (script mid rest : Script) → Went Stands Tallied nodes a b r t number script mid → Went Stands Tallied nodes b c t u number mid rest →
      Went Stands Tallied nodes a c r u number script rest
  went_on a b c r t u script mid rest p q = λ net w ready.
      let here = p net w ready in
      let there = q net here.0 here.1.ready in
      (there.0, reached_on Stands Rests Tallied ways nodes number net a b c r t u w here.0 there.0 script mid rest here.1 there.1)

  pub went_runs : {T : Type 0} (done : T) (a b c : S) (r t u : Given) (script s rest : Script) → Went Stands Tallied nodes a b r t number script (then_comes s rest) →
      Runs Stands Rests Tallied nodes b c t u number s (Ok done) → Went Stands Tallied nodes a c r u number script rest
  went_runs done a b c r t u script s rest p q = λ net w ready.
      let here = p net w ready in
      let there = q net here.0 here.1.ready in (
        there.plays.after,
        reached_on Stands Rests Tallied ways nodes number net a b c r t u w here.0 there.plays.after script (then_comes s rest) rest here.1
            (reached_after Stands Rests Tallied ways nodes number net b c t u here.0 s rest there),
      )

  pub went_stops : (stop : Stop) (a b c : S) (r t u : Given) (script mid : Script) → Went Stands Tallied nodes a b r t number script mid →
      ((net : Network) (w : World) → IsReady Stands b net w → Stops Rests Tallied nodes b c t u number net w mid stop) →
      (net : Network) (w : World) → IsReady Stands a net w → Stops Rests Tallied nodes a c r u number net w script stop
  went_stops stop a b c r t u script mid p q = λ net w ready.
      let here = p net w ready in reached_stop Stands Rests Tallied ways nodes number net a b c r t u w here.0 script mid stop here.1 (q net here.0 here.1.ready)

  pub went_runs_short : (T : Type 0) (stop : Stop) (a b c : S) (r t u : Given) (script s rest : Script) → Went Stands Tallied nodes a b r t number script (then_comes s rest) →
      Runs {T = T} Stands Rests Tallied nodes b c t u number s (Err stop) → Runs {T = T} Stands Rests Tallied nodes a c r u number script (Err stop)
  went_runs_short T stop a b c r t u script s rest p q =
      went_stops stop a b c r t u script (then_comes s rest) p (λ net w ready. stops_after Stands Rests Tallied ways nodes number net b c t u w s rest stop (q net w ready))

  -- out of memory on the way
  pub went_short : (a b : S) (r t : Given) (script mid : Script) → Went Stands Tallied nodes a b r t number script mid →
      (net : Network) (w : World) → IsReady Stands a net w → Stops Rests Tallied nodes a b r t number net w script Memory
  went_short a b r t script mid p =
      went_stops Memory a b b r t t script mid p (λ net w ready. stops_here Stands Rests Tallied ways nodes number net b t w mid ready)

  pub went_ends : {T : Type 0} (done : T) (a b : S) (r t : Given) (script : Script) → Went Stands Tallied nodes a b r t number script Ends →
      Runs Stands Rests Tallied nodes a b r t number script (Ok done)
  went_ends done a b r t script p = λ net w ready.
      let here = p net w ready in finishes Stands Rests Tallied ways nodes number net a b r t w here.0 script here.1

  joined : {T : Type 0} (net : Network) (w : World) (a b : S) (r t : Given) (m : World) (script mid rest : Script) (result : Result T Stop) →
      Reached Stands Tallied nodes a b r r number net w script m mid →
      MatchResult result (λ done. Reached Stands Tallied nodes b b r t number net m mid m rest) (λ stop. Stops Rests Tallied nodes b b r t number net m mid stop) →
      MatchResult result (λ done. (after : World) × Reached Stands Tallied nodes a b r t number net w script after rest) (λ stop. Stops Rests Tallied nodes a b r t number net w script stop)
  joined net w a b r t m script mid rest (Ok done) p q = (m, reached_on Stands Rests Tallied ways nodes number net a b b r r t w m m script mid rest p q)
  joined net w a b r t m script mid rest (Err stop) p q = reached_stop Stands Rests Tallied ways nodes number net a b b r r t w m script mid stop p q

  -- an action whose outcome is reported, followed by the rest that depends on it
  pub asked_reported : {T : Type 0} (net : Network) (w : World) (a b : S) (r t : Given) (action : Action) (outcome : Outcome) (items : Outcome → List Item) (next : Outcome → Script)
      (tell : List Item) (names : List (List ℕ)) (result : Result T Stop) → Does Stands Tallied a b net w action outcome → is_forged outcome ≡ false → tell ≡ items outcome → names ≡ nodes →
      Wrote result r t (report_pieces names (numbered number tell)) →
      MatchResult result (λ done. (after : World) × Reached Stands Tallied nodes a b r t number net w (Asks action (λ out. Reports (items out) (next out))) after (next outcome))
      (λ stop. Stops Rests Tallied nodes a b r t number net w (Asks action (λ out. Reports (items out) (next out))) stop)
  asked_reported net w a b r t action outcome items next tell names result d calm same named wrote =
      let m = (step net w d.action).0 in
      let script : Script = Asks action (λ out. Reports (items out) (next out)) in
      let here = asked Stands Rests Tallied ways nodes number net a b r w action outcome (λ out. Reports (items out) (next out)) d calm in
      let there = told Stands Rests Tallied ways nodes number net b r t m (items outcome) (next outcome) result d.ready
      (subst (λ (xs : List Item). Wrote result r t (report_pieces nodes (numbered number xs))) same
      (subst (λ (ns : List (List ℕ)). Wrote result r t (report_pieces ns (numbered number tell))) named wrote)) in
      joined net w a b r t m script (Reports (items outcome) (next outcome)) (next outcome) result here there
