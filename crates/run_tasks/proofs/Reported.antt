-- The headline of a load and what its sink took.
use Rattle.std.proofs.Common.{◌≡◌, ◌∙◌, ℕ, List, [], ◌∷◌, ◌++◌, sym, ap, subst, append-nil}
use Rattle.std.specs.List.{flat_map}
use Rattle.net_model.specs.Action.{Action}
use Rattle.net_model.specs.Step.{run}
use Rattle.net_model.specs.Deliveries.{deliveries}
use Rattle.run_types.specs.Texts.{handed_text}
use Rattle.run_types.specs.declared.scenario.Scenario.{Scenario}
use Rattle.run_model.specs.Play.{Ending, Whole}
use Rattle.run_model.specs.Turn.{HttpTexts}
use Rattle.run_model.specs.Left.{to_masters, to_slaves}
use Rattle.run_model.specs.Course.{Load, Course, lines_run, whole_run, last_world, handed_out, lines_played}
use Rattle.run_model.specs.Headline.{Given, Done, ForgedMatch, ListenFault, WriteFault, Memory, Took, TookFirst, last_pieces, after_all, pieces_so_far, IsReported}
use Rattle.run_model.specs.Headline as headline
use Rattle.law_run.specs.Handed.{enc_keys, dec_keys}
use Rattle.run_tasks.specs.Told.{ledger_pieces, load_pieces, IsLoadTold, IsLoadOver}

module _ (http : HttpTexts) (scenario : Scenario) (rounds : ℕ) (c : Course) (over : IsLoadOver http scenario rounds c)
    (masters : to_masters (run c.net c.begin (lines_run c)) (deliveries c.net c.begin (lines_run c)) ≡ enc_keys c.net c.begin (lines_run c))
    (slaves : to_slaves (run c.net c.begin (lines_run c)) (deliveries c.net c.begin (lines_run c)) ≡ dec_keys c.net c.begin (lines_run c)) where
  abbrev encs : ℕ
  encs = enc_keys c.net c.begin (lines_run c)

  abbrev decs : ℕ
  decs = dec_keys c.net c.begin (lines_run c)

  abbrev ledgers : List (List ℕ)
  ledgers = ledger_pieces scenario.site.nodes (lines_played http scenario c)

  -- The whole run is the run of the lines.
  whole_is : whole_run c ≡ lines_run c
  whole_is = ap (λ (hs : List (List Action)). lines_run c ++ flat_map (λ h. h) hs) over.alone ∙ append-nil (lines_run c)

  to_masters_are : to_masters (last_world c) (handed_out c) ≡ encs
  to_masters_are = ap (λ (xs : List Action). to_masters (run c.net c.begin xs) (deliveries c.net c.begin xs)) whole_is ∙ masters

  to_slaves_are : to_slaves (last_world c) (handed_out c) ≡ decs
  to_slaves_are = ap (λ (xs : List Action). to_slaves (run c.net c.begin xs) (deliveries c.net c.begin xs)) whole_is ∙ slaves

  last_is : last_pieces (Load rounds) scenario c ≡ handed_text encs decs ∷ []
  last_is = ap (λ (n : ℕ). handed_text n (to_slaves (last_world c) (handed_out c)) ∷ []) to_masters_are ∙ ap (λ (n : ℕ). handed_text encs n ∷ []) to_slaves_are

  pieces_are : pieces_so_far (Load rounds) http scenario c ≡ load_pieces scenario.site.nodes (lines_played http scenario c) encs decs
  pieces_are = ap (λ (texts : List (List ℕ)). ledgers ++ after_all (lines_played http scenario c).ending texts) last_is

  whole_pieces : (lines_played http scenario c).ending ≡ Whole → ledgers ++ handed_text encs decs ∷ [] ≡ pieces_so_far (Load rounds) http scenario c
  whole_pieces whole = ap (λ (e : Ending). ledgers ++ after_all e (handed_text encs decs ∷ [])) (sym whole) ∙ sym pieces_are

  pub is_reported : (stop : headline.Stop) (old new : Given) → IsLoadTold stop scenario.site.nodes (lines_played http scenario c) encs decs old new →
      IsReported (Load rounds) stop http scenario c old new
  is_reported Done old new told = (told.0, subst (Took old new) (whole_pieces told.0) told.1)
  is_reported (ForgedMatch line) old new told = told
  is_reported ListenFault old new told = absurd told
  is_reported WriteFault old new told = subst (TookFirst old new) (sym pieces_are) told
  is_reported Memory old new told = subst (TookFirst old new) (sym pieces_are) told
