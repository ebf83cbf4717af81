-- The sink of a served scenario took the pieces that the headline asks for.
use Rattle.std.proofs.Common.{◌≡◌, ℕ, List, [], ◌∷◌, ◌++◌, length, sym, ap, subst}
use Rattle.run_types.specs.Texts.{served_text}
use Rattle.run_types.specs.declared.scenario.Scenario.{Scenario}
use Rattle.run_model.specs.Play.{Ending, Whole}
use Rattle.run_model.specs.Turn.{HttpTexts}
use Rattle.run_model.specs.Course.{Serve, Course, served_by, lines_played}
use Rattle.run_model.specs.Headline.{Stop, Done, ForgedMatch, ListenFault, WriteFault, Memory, Given, Took, report_pieces, after_all, pieces_so_far, IsReported}
use Rattle.net_serve.specs.Told.{IsServeTold}

module _ (workers connections port : ℕ) (http : HttpTexts) (scenario : Scenario) (c : Course) where
  abbrev count : ℕ
  count = served_by (Serve workers connections port) (length scenario.site.nodes)

  abbrev lines : List (List ℕ)
  lines = report_pieces scenario.site.nodes (lines_played http scenario c).items

  whole_pieces : (lines_played http scenario c).ending ≡ Whole → lines ++ served_text count ∷ [] ≡ pieces_so_far (Serve workers connections port) http scenario c
  whole_pieces whole = ap (λ (e : Ending). lines ++ after_all e (served_text count ∷ [])) (sym whole)

  pub is_reported : (stop : Stop) (old new : Given) → IsServeTold stop scenario.site.nodes (lines_played http scenario c) count old new →
      IsReported (Serve workers connections port) stop http scenario c old new
  is_reported Done old new told = (told.0, subst (Took old new) (whole_pieces told.0) told.1)
  is_reported (ForgedMatch line) old new told = told
  is_reported ListenFault old new told = (tt, told.0, told.1)
  is_reported WriteFault old new told = told
  is_reported Memory old new told = told
