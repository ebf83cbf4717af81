-- The pieces of a generated load: its ledgers and, once all lines are done, the numbers of keys that it handed out.
use Rattle.std.specs.Prelude.{◌≡◌, ℕ, List, [], ◌∷◌, ◌++◌, Result, Ok, Err}
use Rattle.net_model.specs.Premises.{IsNetwork}
use Rattle.net_model.specs.World.{first}
use Rattle.run_types.specs.declared.scenario.Scenario.{Scenario}
use Rattle.run_types.specs.Texts.{handed_text}
use Rattle.run_model.specs.Play.{Played, Whole, ForgedAt}
use Rattle.run_model.specs.Report.{IsRunOf}
use Rattle.run_model.specs.Load.{load_scenario}
use Rattle.run_model.specs.Turn.{HttpTexts}
use Rattle.run_model.specs.Course.{Course, tasks_of}
use Rattle.run_model.specs.Headline.{Done, ForgedMatch, ListenFault, WriteFault, Memory, Took, TookFirst, after_all, Given, report_pieces}
use Rattle.run_model.specs.Headline as headline
use Rattle.run_lines.specs.declared.stop.Stop.{Stop}
use Rattle.run_lines.specs.declared.stop.Stop.TheVariants as stops
use Rattle.law_run.specs.Ledgers.{ledgers_of}

-- a report reduced to its ledgers
abbrev pub ledgers_alone : Played → Played
ledgers_alone p = record { items = ledgers_of p.items; world = p.world; ending = p.ending }

abbrev pub ledger_pieces : List (List ℕ) → Played → List (List ℕ)
ledger_pieces nodes p = report_pieces nodes (ledgers_of p.items)

-- the pieces of a load that has handed this many keys to masters and to slaves
abbrev pub load_pieces : List (List ℕ) → Played → (masters slaves : ℕ) → List (List ℕ)
load_pieces nodes p masters slaves = ledger_pieces nodes p ++ after_all p.ending (handed_text masters slaves ∷ [])

-- how a load ended
abbrev pub ended : {T : Type 0} → Result T Stop → headline.Stop
ended (Ok answer) = Done
ended (Err stops.WriteFault) = WriteFault
ended (Err stops.Memory) = Memory
ended (Err (stops.Forged line)) = ForgedMatch line

-- After all lines, the sink took exactly the ledgers and the last line. At a forged match, it took the ledgers before the match. At any other stop,
-- it took the first of the load's pieces, and perhaps a part of one more. No load opens a port.
abbrev pub IsLoadTold : headline.Stop → List (List ℕ) → Played → (masters slaves : ℕ) → (old new : Given) → Type 0
IsLoadTold Done nodes p masters slaves old new = (p.ending ≡ Whole) × Took old new (ledger_pieces nodes p ++ handed_text masters slaves ∷ [])
IsLoadTold (ForgedMatch line) nodes p masters slaves old new = (p.ending ≡ ForgedAt line) × Took old new (ledger_pieces nodes p)
IsLoadTold ListenFault nodes p masters slaves old new = ⊥
IsLoadTold WriteFault nodes p masters slaves old new = TookFirst old new (load_pieces nodes p masters slaves)
IsLoadTold Memory nodes p masters slaves old new = TookFirst old new (load_pieces nodes p masters slaves)

-- the course of a load's scenario over a network, from the world before any start and with nothing after its lines
pub record IsLoadOver (http : HttpTexts) (scenario : Scenario) (rounds : ℕ) (c : Course) : Type 0 where
  pub scenario_is : scenario ≡ load_scenario rounds
  pub network : IsNetwork c.net
  pub begin : c.begin ≡ first
  pub lines : IsRunOf http c.net 1 first (tasks_of scenario) c.done
  pub alone : c.served ≡ []
