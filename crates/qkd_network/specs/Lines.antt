-- The report that a run writes, line by line.
use Rattle.std.specs.Prelude.{ℕ, List, [], Option}
use Rattle.run_types.specs.declared.scenario.Scenario.{Scenario}
use Rattle.run_model.specs.Course.{Words, Run, Load, Serve}
use Rattle.run_model.specs.Headline as headline
use Rattle.run_lines.specs.Reporting.{IsItemLine, IsPart, TookLines}
use Rattle.run_tasks.specs.Pieces.{IsLoadLine}
use Rattle.net_serve.specs.Lines.{IsServeLine}

-- the lines of a report, for the names of the nodes
abbrev pub IsLineOf : Words → List (List ℕ) → List ℕ → Type 0
IsLineOf (Run workers) nodes = IsItemLine nodes
IsLineOf (Load rounds) nodes = IsLoadLine nodes
IsLineOf (Serve workers connections port) nodes = IsServeLine nodes

module _ {W : Type 0} (taken : W → Option (List ℕ)) (pieces : W → Option (List (List ℕ))) where
  -- if the run came to its end, the sink took only whole lines; otherwise a prefix of one more line may follow
  abbrev pub LinesUpTo : headline.Stop → (List ℕ → Type 0) → (before after : W) → Type 0
  LinesUpTo headline.Done IsLine before after = TookLines taken pieces IsLine before after []
  LinesUpTo stop IsLine before after = (part : List ℕ) × IsPart IsLine part × TookLines taken pieces IsLine before after part

  -- The sink took the report in pieces, and each piece is one line of it.
  abbrev pub WroteLines : Words → Scenario → (before after : W) → headline.Stop → Type 0
  WroteLines asked scenario before after stop = LinesUpTo stop (IsLineOf asked scenario.site.nodes) before after
