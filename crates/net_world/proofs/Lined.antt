-- If nothing was written, the report stopped before its first line.
use Rattle.std.proofs.Common.{ℕ, List, refl}
use Rattle.std.specs.Prelude.{Option}
use Rattle.run_types.specs.declared.item.Item.TheVariants as items
use Rattle.run_types.specs.Texts.{line_text}
use Rattle.run_lines.specs.Reporting.{IsPart, TookLines}
use Rattle.run_lines.proofs.Lines.{none_stopped, some_line}
use Rattle.run_tasks.specs.Pieces.{IsLoadLine}
use Rattle.run_tasks.proofs.Pieces.{item_too}

pub none_written : {S : Type 0} (taken : S → Option (List ℕ)) (pieces : S → Option (List (List ℕ))) (nodes : List (List ℕ)) (s : S) →
    (part : List ℕ) × IsPart (IsLoadLine nodes) part × TookLines taken pieces (IsLoadLine nodes) s s part
none_written taken pieces nodes s =
    let line = line_text nodes (record { number = 0; item = items.Crashed }) in
    none_stopped taken pieces (IsLoadLine nodes) s line (item_too nodes line (some_line nodes))
