-- Nothing comes after the lines of a `run`.
use Rattle.std.proofs.Common.{◌≡◌, ◌∙◌, ℕ, List, [], ◌∷◌, ◌++◌, refl, sym, ap, subst, append-nil}
use Rattle.run_types.specs.declared.scenario.Scenario.{Scenario}
use Rattle.run_types.specs.declared.item.NumberedItem.{NumberedItem}
use Rattle.run_types.specs.Texts.{line_text, report_text}
use Rattle.run_model.specs.Play.{Ending, Whole, CutShort, ForgedAt, NoMemory}
use Rattle.run_model.specs.Turn.{HttpTexts}
use Rattle.run_model.specs.Course.{Run, Course, lines_played}
use Rattle.run_model.specs.Headline.{Given, joined, Took, TookFirst, report_pieces, after_all, pieces_so_far}

nothing_after : (e : Ending) → after_all e [] ≡ []
nothing_after Whole = refl
nothing_after CutShort = refl
nothing_after (ForgedAt number) = refl
nothing_after NoMemory = refl

-- the text of a report is its pieces, one after another
pub pieces_joined : (nodes : List (List ℕ)) (items : List NumberedItem) → joined (report_pieces nodes items) ≡ report_text nodes items
unfolding report_pieces report_text
pieces_joined nodes [] = refl
pieces_joined nodes (i ∷ more) = ap (λ (text : List ℕ). line_text nodes i ++ text) (pieces_joined nodes more)

module _ (http : HttpTexts) (scenario : Scenario) (workers : ℕ) (c : Course) (old new : Given) where
  abbrev told : List (List ℕ)
  told = report_pieces scenario.site.nodes (lines_played http scenario c).items

  all_told : pieces_so_far (Run workers) http scenario c ≡ told
  all_told = ap (λ (xs : List (List ℕ)). told ++ xs) (nothing_after (lines_played http scenario c).ending) ∙ append-nil told

  pub no_more : Took old new told → Took old new (pieces_so_far (Run workers) http scenario c)
  no_more took = subst (Took old new) (sym all_told) took

  pub still_first : TookFirst old new told → TookFirst old new (pieces_so_far (Run workers) http scenario c)
  still_first took = subst (TookFirst old new) (sym all_told) took
