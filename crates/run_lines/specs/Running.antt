-- What happens when a script is run over a network and reported to a sink.
use Rattle.std.specs.Prelude.{◌≡◌, ℕ, List, Result, MatchResult}
use Rattle.net_model.specs.Site.{Site}
use Rattle.net_model.specs.World.{Network, World}
use Rattle.net_model.specs.Action.{Action}
use Rattle.run_types.specs.declared.item.Item.{Item}
use Rattle.run_model.specs.Script.{Script}
use Rattle.run_model.specs.Play.{Played, ForgedAt, play, numbered, IsPlay}
use Rattle.run_model.specs.Headline.{Took, TookFirst, Given, report_pieces}
use Rattle.run_ops.specs.Acting.{IsReady, Plays}
use Rattle.run_lines.specs.declared.stop.Stop.{Stop}
use Rattle.run_lines.specs.declared.stop.Stop.TheVariants.{WriteFault, Memory, Forged}
use Rattle.run_lines.specs.Going.{Reached}

-- there are a network and a world of the model for which it is ready
abbrev pub IsReadySomewhere : {S : Type 0} → (S → Network → World → Type 0) → S → Type 0
IsReadySomewhere Stands s = (net : Network) × (w : World) × IsReady Stands s net w

-- The pieces of a report that stopped early. After a forged match the sink has exactly those up to it, and otherwise the first of those
-- so far.
abbrev pub StopsAs : Stop → List (List ℕ) → Played → (old new : Given) → Type 0
StopsAs WriteFault nodes p old new = TookFirst old new (report_pieces nodes p.items)
StopsAs Memory nodes p old new = TookFirst old new (report_pieces nodes p.items)
StopsAs (Forged line) nodes p old new = (p.ending ≡ ForgedAt line) × Took old new (report_pieces nodes p.items)

-- The script was run to its end, and the sink has exactly the pieces of its report.
pub record Finishes {S : Type 0} (Stands : S → Network → World → Type 0) (Tallied : S → S → Site → List Action → Type 0) (nodes : List (List ℕ)) (old new : S)
    (before taken : Given) (number : ℕ) (net : Network) (w : World) (script : Script) : Type 0 where
  pub items : List Item
  pub plays : Plays Stands Tallied old new net w script items
  pub took : Took before taken (report_pieces nodes (numbered number items))

-- The script was run in part or to its end. The network is left in the world after the part that was run.
pub record Stops {S : Type 0} (Rests : S → Network → World → Type 0) (Tallied : S → S → Site → List Action → Type 0) (nodes : List (List ℕ)) (old new : S)
    (before taken : Given) (number : ℕ) (net : Network) (w : World) (script : Script) (stop : Stop) : Type 0 where
  pub actions : List Action
  pub is : IsPlay net w script actions
  pub rests : Rests new net (play net number w script actions).world
  pub tallied : Tallied old new net.site actions
  pub told : StopsAs stop nodes (play net number w script actions) before taken

-- the result of running a script in one network and world
abbrev pub Ran : {S T : Type 0} → (Stands Rests : S → Network → World → Type 0) → (Tallied : S → S → Site → List Action → Type 0) → List (List ℕ) → (old new : S) →
    (before taken : Given) → ℕ → Network → World → Script → Result T Stop → Type 0
Ran Stands Rests Tallied nodes old new before taken number net w script result =
    MatchResult result (λ done. Finishes Stands Tallied nodes old new before taken number net w script)
    (λ stop. Stops Rests Tallied nodes old new before taken number net w script stop)

-- The script is run and reported under the number of its line, in any network and world for which it is ready.
abbrev pub Runs : {S T : Type 0} → (Stands Rests : S → Network → World → Type 0) → (Tallied : S → S → Site → List Action → Type 0) → List (List ℕ) → (old new : S) →
    (before taken : Given) → ℕ → Script → Result T Stop → Type 0
Runs Stands Rests Tallied nodes old new before taken number script result =
    (net : Network) (w : World) → IsReady Stands old net w → Ran Stands Rests Tallied nodes old new before taken number net w script result

-- the same, up to a rest of the script that depends on the result
abbrev pub Goes : {S T : Type 0} → (Stands Rests : S → Network → World → Type 0) → (Tallied : S → S → Site → List Action → Type 0) → List (List ℕ) → (old new : S) →
    (before taken : Given) → ℕ → Script → Result T Stop → (T → Script) → Type 0
Goes Stands Rests Tallied nodes old new before taken number script result rest =
    (net : Network) (w : World) → IsReady Stands old net w →
    MatchResult result (λ answer. (after : World) × Reached Stands Tallied nodes old new before taken number net w script after (rest answer))
    (λ stop. Stops Rests Tallied nodes old new before taken number net w script stop)
