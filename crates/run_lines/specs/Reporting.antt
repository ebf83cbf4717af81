-- How much of a report a sink has, and why a run stopped.
use Rattle.std.specs.Prelude.{◌≡◌, ℕ, ◌≤◌, List, [], ◌++◌, Option, Result, Ok, Err, IsErrOf, MatchResult}
use Rattle.std.specs.List.{All}
use Rattle.qkd_base.specs.Faults.{Rose}
use Rattle.edge_io.specs.Writes.{Adds}
use Rattle.run_types.specs.declared.item.NumberedItem.{NumberedItem}
use Rattle.run_types.specs.Texts.{line_text}
use Rattle.run_model.specs.Headline.{Given, joined, Gained, Took, TookFirst}
use Rattle.run_lines.specs.declared.stop.Stop.{Stop}
use Rattle.run_lines.specs.declared.stop.Stop.TheVariants.{WriteFault, Memory, Forged}

-- The sink has all these texts, one piece each; or, if it failed or memory ran out, the first of them. Nothing else stops a report.
abbrev pub Wrote : {T : Type 0} → Result T Stop → (old new : Given) → List (List ℕ) → Type 0
Wrote (Ok done) old new texts = Took old new texts
Wrote (Err WriteFault) old new texts = TookFirst old new texts
Wrote (Err Memory) old new texts = TookFirst old new texts
Wrote (Err (Forged line)) old new texts = ⊥

-- A sink's count of faults never falls, and it rose if the run stopped because of the sink.
pub record IsBlamed {T : Type 0} (before now : ℕ) (result : Result T Stop) : Type 0 where
  pub later : before ≤ now
  pub rose : IsErrOf result WriteFault → Rose before now

-- ---- one write for each line

-- the text of some item's line, with these names of nodes
abbrev pub IsItemLine : List (List ℕ) → List ℕ → Type 0
IsItemLine nodes line = (told : NumberedItem) × (line ≡ line_text nodes told)

-- a prefix of such a line
abbrev pub IsPart : (List ℕ → Type 0) → List ℕ → Type 0
IsPart IsLine part = (line : List ℕ) × IsLine line × ((rest : List ℕ) × (line ≡ part ++ rest))

-- The sink took these lines, one write for each, and no other write. Its octets are those of these lines, in order, followed by this
-- part.
pub record TookLines {S : Type 0} (taken : S → Option (List ℕ)) (pieces : S → Option (List (List ℕ))) (IsLine : List ℕ → Type 0) (old new : S) (part : List ℕ) : Type 0 where
  pub lines : List (List ℕ)
  pub each : All IsLine lines
  pub pieces_are : Adds (pieces old) (pieces new) lines
  pub text : Gained (taken old) (taken new) (joined lines ++ part)

-- The writes that the sink took are exactly the lines of its text, in order. If the report stopped, a prefix of one more line may follow.
abbrev pub InLines : {S T E : Type 0} → (S → Option (List ℕ)) → (S → Option (List (List ℕ))) → (List ℕ → Type 0) → (old new : S) → Result T E → Type 0
InLines taken pieces IsLine old new result =
    MatchResult result (λ done. TookLines taken pieces IsLine old new [])
    (λ stop. (part : List ℕ) × IsPart IsLine part × TookLines taken pieces IsLine old new part)
