-- The lines of a report that are written where only what a person asked for is wanted.
use Rattle.std.specs.Prelude.{◌≡◌, ◌⊎◌, true, false, List, [], ◌∷◌, ◌++◌, ℕ, Option, Result, Ok, Err}
use Rattle.std.specs.List.{flat_map}
use Rattle.run_types.specs.declared.item.NumberedItem.{NumberedItem}
use Rattle.run_types.specs.Texts.{line_text}
use Rattle.report_grammar.specs.Tellable.{CanTell}
use Rattle.run_model.specs.Headline.{given_to, Took, TookFirst}
use Rattle.run_lines.specs.declared.stop.Stop.{Stop}
use Rattle.run_lines.specs.declared.stop.Stop.TheVariants.{WriteFault, Memory, Forged}
use Rattle.asked_lines.specs.Asked.{is_asked}

-- nobody asked for the item that this line tells
abbrev pub IsLeftOut : (nodes : List (List ℕ)) → (line : List ℕ) → Type 0
IsLeftOut nodes line = (told : NumberedItem) × (line_text nodes told ≡ line) × (is_asked told.item ≡ false)

-- each item whose line this is, with numbers in range and a declared node, was asked for
abbrev pub IsWanted : (nodes : List (List ℕ)) → (line : List ℕ) → Type 0
IsWanted nodes line = (told : NumberedItem) → CanTell nodes told → line_text nodes told ≡ line → is_asked told.item ≡ true

-- `asked` has, in order, those of the lines that are wanted, and each of the others is left out
abbrev pub AreAsked : (nodes : List (List ℕ)) → (lines asked : List (List ℕ)) → Type 0
AreAsked nodes [] asked = asked ≡ []
AreAsked nodes (line ∷ lines) asked =
    (IsLeftOut nodes line × AreAsked nodes lines asked) ⊎
    ((more : List (List ℕ)) × (asked ≡ line ∷ more) × IsWanted nodes line × AreAsked nodes lines more)

-- the text of lines
abbrev pub text_of : List (List ℕ) → List ℕ
text_of lines = flat_map (λ (line : List ℕ). line) lines

module _ {S : Type 0} (taken : S → Option (List ℕ)) (pieces : S → Option (List (List ℕ))) (nodes : List (List ℕ)) (lines : List (List ℕ)) (old new : S) where
  -- the sink took the asked ones of these lines, one write for each, and nothing else
  pub record TookAsked : Type 0 where
    pub asked : List (List ℕ)
    pub are : AreAsked nodes lines asked
    pub took : Took (given_to taken pieces old) (given_to taken pieces new) asked

  -- the sink took the first of the asked ones of the first of these lines, one write for each, and perhaps a part of one more
  pub record TookSome : Type 0 where
    pub front : List (List ℕ)
    pub rest : List (List ℕ)
    pub lines_are : lines ≡ front ++ rest
    pub asked : List (List ℕ)
    pub are : AreAsked nodes front asked
    pub took : TookFirst (given_to taken pieces old) (given_to taken pieces new) asked

  -- What the sink took, by how the run ended and how the call did. The call ends as the run did, unless the sink failed or
  -- memory ran out.
  abbrev pub ToldAsked : {T : Type 0} → (run call : Result T Stop) → Type 0
  ToldAsked run (Ok done) = (run ≡ Ok done) × TookAsked
  ToldAsked run (Err (Forged line)) = (run ≡ Err (Forged line)) × TookAsked
  ToldAsked run (Err WriteFault) = TookSome
  ToldAsked run (Err Memory) = TookSome
