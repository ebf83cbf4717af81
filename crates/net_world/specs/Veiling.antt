-- The result of a scenario that is run over a bench, with the veil of its wires.
use Rattle.std.specs.Prelude.{◌≡◌, ℕ, List, [], ◌∷◌, Result, Ok, Err}
use Rattle.run_types.specs.declared.scenario.Scenario.{Scenario}
use Rattle.run_model.specs.Play.{Ending, Whole}
use Rattle.run_model.specs.Turn.{HttpTexts}
use Rattle.run_model.specs.Course.{Run, Course, last_world, lines_played}
use Rattle.run_model.specs.Headline.{Given, unknown, Took, TookFirst}
use Rattle.run_model.specs.Headline as headline
use Rattle.run_http.specs.Speaking.{IsTextsOf}
use Rattle.net_world.specs.Over.{HasHeadline}
use Rattle.net_world.specs.declared.bench.Bench.{Bench}
use Rattle.net_world.specs.Other.{EveryKeyFits}
use Rattle.run_lines.specs.declared.stop.Stop.{Stop}
use Rattle.net_world.specs.Running.{ended}
use Rattle.net_world.specs.Lanes.{veil_line, Tells}
use Rattle.world_state.specs.Outside.{Outside}

-- If the run stopped early, the call ended the same way and the sink was not touched. If all lines were done, the line was written to the sink.
abbrev pub Ends : {T U W : Type 0} → (W → Given) → (ran : Result T Stop) → (line : List ℕ) → (before after : W) → (final : Result U Stop) → Type 0
Ends given (Ok done) line before after final = Tells given final before after line
Ends given (Err stop) line before after final = (ended final ≡ ended {T = Unit {0}} (Err stop)) × (after ≡ before)

-- If all lines are done, the sink took exactly the line of the veil, as one piece; on a write fault it took a part of it. At a forged match, or if memory ran out, it was
-- not touched.
abbrev pub IsVeilTold : {W : Type 0} → (W → Given) → headline.Stop → Ending → Course → (before after : W) → Type 0
IsVeilTold given headline.Done ending c before after = Took (given before) (given after) (veil_line c.net (last_world c) ∷ [])
IsVeilTold given headline.WriteFault ending c before after = (ending ≡ Whole) × TookFirst (given before) (given after) (veil_line c.net (last_world c) ∷ [])
IsVeilTold given headline.Memory ending c before after = after ≡ before
IsVeilTold given (headline.ForgedMatch line) ending c before after = after ≡ before
IsVeilTold given headline.ListenFault ending c before after = ⊥

-- The headline of the run with one worker holds of the course, except that no sink took its report. The wires fit every other key, and the sink took the line.
pub record IsVeiled {K Q E X W : Type 0} (outside : Outside K Q E X)
    (given : W → Given) (old new : Bench K Q E X) (stop : headline.Stop) (http : HttpTexts) (scenario : Scenario) (before after : W) (c : Course) : Type 0 where
  pub run : HasHeadline outside old new (Run 1) stop http scenario unknown unknown c
  pub fits : EveryKeyFits c.net (last_world c)
  pub line : IsVeilTold given stop (lines_played http scenario c).ending c before after

-- For all texts of HTTP that are the site's there is one course that is veiled.
abbrev pub HasVeiled : {K Q E X W : Type 0} → Outside K Q E X → (W → Given) → (old new : Bench K Q E X) → Scenario → (before after : W) → headline.Stop → Type 0
HasVeiled outside given old new scenario before after stop =
    (http : HttpTexts) → IsTextsOf scenario.site.nodes scenario.site.entitlements http →
    (c : Course) × IsVeiled outside given old new stop http scenario before after c
