-- A report that is written line by line.
use Rattle.std.proofs.Common.{ℕ, List, inl, inr}
use Rattle.std.specs.Prelude.{◌⊎◌, Option, Result, Ok, Err}
use Rattle.run_lines.specs.Reporting.{InLines}
use Rattle.run_lines.specs.declared.stop.Stop.{Stop}
use Rattle.run_lines.specs.declared.stop.Stop.TheVariants as stops
use Rattle.net_world.specs.Running.{ended}
use Rattle.net_serve.specs.BenchServing.{ended as served_end}
use Rattle.net_serve.specs.declared.stop.ServeStop.{ServeStop}
use Rattle.net_serve.specs.declared.stop.ServeStop.TheVariants as serves
use Rattle.qkd_network.specs.Lines.{LinesUpTo}

-- a fact about lines may be added to the second of two cases
pub with_lines : (A R L : Type 0) → A ⊎ R → L → A ⊎ (R × L)
with_lines A R L (inl a) lines = inl a
with_lines A R L (inr r) lines = inr (r, lines)

module _ {W T : Type 0} (taken : W → Option (List ℕ)) (pieces : W → Option (List (List ℕ))) (IsLine : List ℕ → Type 0) (a b : W) where
  pub run_lined : (result : Result T Stop) → InLines taken pieces IsLine a b result → LinesUpTo taken pieces (ended result) IsLine a b
  run_lined (Ok done) h = h
  run_lined (Err stops.WriteFault) h = h
  run_lined (Err stops.Memory) h = h
  run_lined (Err (stops.Forged line)) h = h

  pub serve_lined : (result : Result T ServeStop) → InLines taken pieces IsLine a b result → LinesUpTo taken pieces (served_end result) IsLine a b
  serve_lined (Ok done) h = h
  serve_lined (Err serves.Listen) h = h
  serve_lined (Err (serves.Stopped stops.WriteFault)) h = h
  serve_lined (Err (serves.Stopped stops.Memory)) h = h
  serve_lined (Err (serves.Stopped (stops.Forged line))) h = h
