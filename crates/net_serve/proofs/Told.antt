-- What a sink took of the lines and of the last line.
use Rattle.std.proofs.Common.{◌≡◌, ℕ, List, [], ◌∷◌, ◌++◌, Result, Ok, Err, sym, subst}
use Rattle.std.specs.Prelude.{MatchResult}
use Rattle.run_types.specs.Texts.{served_text}
use Rattle.run_model.specs.Play.{Ending, Played, Whole}
use Rattle.run_model.specs.Headline.{Given, Took, TookFirst, report_pieces, after_all}
use Rattle.run_lines.specs.Running.{StopsAs}
use Rattle.run_lines.specs.declared.stop.Stop.{Stop}
use Rattle.run_lines.specs.declared.stop.Stop.TheVariants as stops
use Rattle.run_lines.proofs.Taking.{took_on, first_within, first_after}
use Rattle.net_serve.specs.Told.{serve_pieces, IsServeTold}
use Rattle.net_serve.specs.BenchServing.{ended}
use Rattle.net_serve.specs.Behind.{IsLineTold}
use Rattle.net_serve.specs.declared.stop.ServeStop.{ServeStop}
use Rattle.net_serve.specs.declared.stop.ServeStop.TheVariants.{Stopped, Listen}

module _ (nodes : List (List ℕ)) (p : Played) (count : ℕ) (before between after : Given) where
  abbrev lines_pieces : List (List ℕ)
  lines_pieces = report_pieces nodes p.items

  first_both : p.ending ≡ Whole → Took before between lines_pieces → TookFirst between after (served_text count ∷ []) → TookFirst before after (serve_pieces nodes p count)
  first_both whole took last =
      let both = first_after before between after lines_pieces (served_text count ∷ []) took last in
      subst (λ (e : Ending). TookFirst before after (lines_pieces ++ after_all e (served_text count ∷ []))) (sym whole) both

  behind_lines : {U : Type 0} (result : Result U ServeStop) → p.ending ≡ Whole → Took before between lines_pieces → IsLineTold (ended result) between after (served_text count) →
      IsServeTold (ended result) nodes p count before after
  behind_lines (Ok done) whole took line = (whole, took_on before between after lines_pieces (served_text count ∷ []) took line)
  behind_lines (Err Listen) whole took line = (whole, subst (λ (x : Given). Took before x lines_pieces) (sym line) took)
  behind_lines (Err (Stopped stops.WriteFault)) whole took line = first_both whole took line
  behind_lines (Err (Stopped stops.Memory)) whole took line = first_both whole took line
  behind_lines (Err (Stopped (stops.Forged number))) whole took line = absurd line

  amid_lines : {U : Type 0} (stop : Stop) (result : Result U ServeStop) → result ≡ Err (Stopped stop) → after ≡ between → StopsAs stop nodes p before between →
      IsServeTold (ended result) nodes p count before after
  amid_lines {U} stop result is same told =
      subst (λ (r : Result U ServeStop). IsServeTold (ended r) nodes p count before after) (sym is)
      (subst (λ (x : Given). IsServeTold (ended {T = U} (Err (Stopped stop))) nodes p count before x) (sym same) (of_lines stop told))
    where
      of_lines : (stop : Stop) → StopsAs stop nodes p before between → IsServeTold (ended {T = U} (Err (Stopped stop))) nodes p count before between
      of_lines stops.WriteFault told = first_within before between lines_pieces (after_all p.ending (served_text count ∷ [])) told
      of_lines stops.Memory told = first_within before between lines_pieces (after_all p.ending (served_text count ∷ [])) told
      of_lines (stops.Forged number) told = told

  pub all_told : {T U : Type 0} (lines : Result T Stop) (result : Result U ServeStop) →
      MatchResult lines (λ done. (p.ending ≡ Whole) × Took before between lines_pieces) (λ stop. StopsAs stop nodes p before between) →
      MatchResult lines (λ done. IsLineTold (ended result) between after (served_text count)) (λ stop. (result ≡ Err (Stopped stop)) × (after ≡ between)) →
      IsServeTold (ended result) nodes p count before after
  all_told (Ok done) result told line = behind_lines result told.0 told.1 line
  all_told (Err stop) result told line = amid_lines stop result line.0 line.1 told
