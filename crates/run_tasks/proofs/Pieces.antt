-- The pieces of a load's report.
use Rattle.std.proofs.Common.{ℕ, List, [], refl, inl, inr}
use Rattle.std.specs.Prelude.{Option, Result, Ok, Err}
use Rattle.run_types.specs.Texts.{handed_text}
use Rattle.run_lines.specs.Reporting.{IsItemLine, IsPart, TookLines, InLines}
use Rattle.run_lines.proofs.Lines.{none_lined, none_stopped, stopped_unwritten}
use Rattle.run_tasks.specs.Pieces.{IsHandedLine, IsLoadLine}

module _ {S : Type 0} (taken : S → Option (List ℕ)) (pieces : S → Option (List (List ℕ))) where
  -- Lines of one kind are also lines of each wider kind.
  module _ (Few Many : List ℕ → Type 0) (also : (line : List ℕ) → Few line → Many line) where
    pub took_also : (a b : S) (part : List ℕ) → TookLines taken pieces Few a b part → TookLines taken pieces Many a b part
    took_also a b part h = record { lines = h.lines; each = λ k d below. also _ (h.each k d below); pieces_are = h.pieces_are; text = h.text }

    pub in_lines_also : {T E : Type 0} (a b : S) (result : Result T E) → InLines taken pieces Few a b result → InLines taken pieces Many a b result
    in_lines_also a b (Ok done) h = took_also a b [] h
    in_lines_also a b (Err stop) h = (h.0, (h.1.0, also _ h.1.1, h.1.2), took_also a b h.0 h.2)

  -- A call that writes nothing writes only whole lines, whatever its result is.
  pub unwritten : (nodes : List (List ℕ)) {T E : Type 0} (s : S) (result : Result T E) → InLines taken pieces (IsItemLine nodes) s s result
  unwritten nodes s (Ok done) = none_lined taken pieces (IsItemLine nodes) s
  unwritten nodes s (Err stop) = stopped_unwritten taken pieces nodes s

  pub unhanded : (s : S) → (part : List ℕ) × IsPart IsHandedLine part × TookLines taken pieces IsHandedLine s s part
  unhanded s = none_stopped taken pieces IsHandedLine s (handed_text 0 0) (0, (0, refl))

pub item_too : (nodes : List (List ℕ)) (line : List ℕ) → IsItemLine nodes line → IsLoadLine nodes line
item_too nodes line h = inl h

pub handed_too : (nodes : List (List ℕ)) (line : List ℕ) → IsHandedLine line → IsLoadLine nodes line
handed_too nodes line h = inr h
