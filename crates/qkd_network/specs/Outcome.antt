-- The results of the top call, by its status.
use Rattle.std.specs.Prelude.{◌≡◌, ◌⊎◌, ℕ, List, Option, Ok, Err}
use Rattle.run_types.specs.declared.scenario.Scenario.{Scenario}
use Rattle.scenario_text.specs.Text.{meaning_of}
use Rattle.run_model.specs.Course.{Words, Run, Load}
use Rattle.run_model.specs.Load.{load_scenario}
use Rattle.run_model.specs.Headline as headline
use Rattle.cli_answers.specs.Answers.{Asked}
use Rattle.cli_answers.specs.Exchange.{WasAnswered}
use Rattle.cli_answers.specs.Inputs.{WasRead, IsInput}
use Rattle.cli_answers.specs.declared.exchange.Ended.{Ended}
use Rattle.qkd_network.specs.Forms.{Runs, Quiets, Serves, Veils, Asks, asked_by}
use Rattle.qkd_network.specs.Codes.{answered_as}
use Rattle.qkd_network.specs.declared.status.Status.{Status}
use Rattle.qkd_network.specs.declared.status.Status.TheVariants.{Done, Usage, BadLine, ReadFault, WriteFault, ForgedMatch, Memory, ListenFault, BrokenRule}

-- the words ask for a run
abbrev pub IsForm : List (List ℕ) → Type 0
IsForm words = (asked : Words) × (asked_by words ≡ Ok (Runs asked))

-- the words ask for a scenario to be run
abbrev pub AsksRun : List (List ℕ) → Type 0
AsksRun words = (workers : ℕ) × (asked_by words ≡ Ok (Runs (Run workers)))

-- the words ask for a run whose managers are then served
abbrev pub AsksServe : List (List ℕ) → Type 0
AsksServe words = (workers : ℕ) × ((connections : ℕ) × ((port : ℕ) × (asked_by words ≡ Ok (Serves workers connections port))))

-- the source was read to its end or past the limit, and it has this scenario
pub record HasScenario (left rest : Option (List ℕ)) (scenario : Scenario) : Type 0 where
  pub read : WasRead left rest
  pub input : List ℕ
  pub input_is : IsInput left input
  pub means : meaning_of input ≡ Ok scenario

-- The source had a scenario, which was run as the words ask. The run ended with `stop`, and `Ran` holds of it.
pub record HasRun (Ran : Words → Scenario → headline.Stop → Type 0) (words : List (List ℕ)) (left rest : Option (List ℕ)) (stop : headline.Stop) : Type 0 where
  pub workers : ℕ
  pub form : asked_by words ≡ Ok (Runs (Run workers))
  pub scenario : Scenario
  pub told : HasScenario left rest scenario
  pub runs : Ran (Run workers) scenario stop

-- The source had a scenario, which was run. The run ended with `stop`, and `Came` holds of it.
pub record HasCome (Came : Scenario → headline.Stop → Type 0) (left rest : Option (List ℕ)) (stop : headline.Stop) : Type 0 where
  pub scenario : Scenario
  pub told : HasScenario left rest scenario
  pub came : Came scenario stop

-- the generated load was run and ended with `stop`, and `Ran` holds of it; the source was not touched
pub record HasLoaded {S : Type 0} (Ran : Words → Scenario → headline.Stop → Type 0) (words : List (List ℕ)) (old new : S) (stop : headline.Stop) : Type 0 where
  pub rounds : ℕ
  pub form : asked_by words ≡ Ok (Runs (Load rounds))
  pub source : new ≡ old
  pub runs : Ran (Load rounds) (load_scenario rounds) stop

-- either a scenario or the generated load was run
abbrev pub HasDone : {S : Type 0} → (S → Option (List ℕ)) → (Words → Scenario → headline.Stop → Type 0) → List (List ℕ) → (old new : S) → headline.Stop → Type 0
HasDone left Ran words old new stop = HasRun Ran words (left old) (left new) stop ⊎ HasLoaded Ran words old new stop

-- line n is the first line of the source that the grammar of scenarios refuses
pub record IsBadLine (left : Option (List ℕ)) (n : ℕ) : Type 0 where
  pub input : List ℕ
  pub input_is : IsInput left input
  pub refused : meaning_of input ≡ Err n

-- why the source gave no scenario: a line is refused, the source failed, or memory ran out
abbrev pub IsUnread : Status → (left rest : Option (List ℕ)) → Type 0
IsUnread (BadLine n) left rest = WasRead left rest × IsBadLine left n
IsUnread ReadFault left rest = Unit {0}
IsUnread Memory left rest = Unit {0}
IsUnread _ left rest = ⊥

-- a bench, and the ports at which its managers may be served
abbrev pub beside : {B P : Type 0} → B → P → B × P
beside bench ports = (bench, ports)

-- The result of `run` and `load`, by the status. If nothing was run, sink and bench are as they were. If the words are no form, the source is too.
abbrev pub RunOutcome : {S W B : Type 0} → (S → Option (List ℕ)) → (Words → Scenario → headline.Stop → Type 0) → Status → List (List ℕ) → (old new : S) → (before after : W) → (given back : B) → Type 0
RunOutcome left Ran Done words old new before after given back = HasDone left Ran words old new headline.Done
RunOutcome left Ran (Usage i) words old new before after given back = (asked_by words ≡ Err i) × (new ≡ old) × (after ≡ before) × (back ≡ given)
RunOutcome left Ran (BadLine n) words old new before after given back =
    AsksRun words × WasRead (left old) (left new) × IsBadLine (left old) n × (after ≡ before) × (back ≡ given)
RunOutcome left Ran ReadFault words old new before after given back = AsksRun words × (after ≡ before) × (back ≡ given)
RunOutcome left Ran WriteFault words old new before after given back = HasDone left Ran words old new headline.WriteFault
RunOutcome left Ran (ForgedMatch n) words old new before after given back = HasDone left Ran words old new (headline.ForgedMatch n)
RunOutcome left Ran Memory words old new before after given back =
    (IsForm words × (after ≡ before) × (back ≡ given)) ⊎ HasDone left Ran words old new headline.Memory
RunOutcome left Ran ListenFault words old new before after given back = ⊥
RunOutcome left Ran BrokenRule words old new before after given back = ⊥

-- The words ask a question about the source's text. The answer depends on that text alone. The bench is as it was, and the sink took only the answer.
pub record HasAnswered {S W B : Type 0} (left : S → Option (List ℕ)) (taken : W → Option (List ℕ)) (status : Status) (words : List (List ℕ)) (old new : S) (before after : W) (given back : B) : Type 0 where
  pub asked : Asked
  pub form : asked_by words ≡ Ok (Asks asked)
  pub ended : Ended
  pub is : status ≡ answered_as ended
  pub answered : WasAnswered asked (left old) (left new) (taken before) (taken after) before after ended
  pub bench : back ≡ given

-- The source's scenario is run, and something more is done with it, by the status. If nothing was run, sink and bench are as they were.
abbrev pub ScenarioOutcome : {S W B : Type 0} → (S → Option (List ℕ)) → (Scenario → headline.Stop → Type 0) → Status → (old new : S) → (before after : W) → (given back : B) → Type 0
ScenarioOutcome left Came Done old new before after given back = HasCome Came (left old) (left new) headline.Done
ScenarioOutcome left Came (Usage i) old new before after given back = ⊥
ScenarioOutcome left Came (BadLine n) old new before after given back = WasRead (left old) (left new) × IsBadLine (left old) n × (after ≡ before) × (back ≡ given)
ScenarioOutcome left Came ReadFault old new before after given back = (after ≡ before) × (back ≡ given)
ScenarioOutcome left Came WriteFault old new before after given back = HasCome Came (left old) (left new) headline.WriteFault
ScenarioOutcome left Came (ForgedMatch n) old new before after given back = HasCome Came (left old) (left new) (headline.ForgedMatch n)
ScenarioOutcome left Came Memory old new before after given back = ((after ≡ before) × (back ≡ given)) ⊎ HasCome Came (left old) (left new) headline.Memory
ScenarioOutcome left Came ListenFault old new before after given back = HasCome Came (left old) (left new) headline.ListenFault
ScenarioOutcome left Came BrokenRule old new before after given back = ⊥

-- The words ask for the veil of a scenario's wires.
pub record HasVeiled {S W B : Type 0} (left : S → Option (List ℕ)) (Veiled : Scenario → headline.Stop → Type 0) (status : Status) (words : List (List ℕ)) (old new : S) (before after : W) (given back : B) : Type 0 where
  pub form : asked_by words ≡ Ok Veils
  pub calm : status ≡ ListenFault → ⊥
  pub outcome : ScenarioOutcome left Veiled status old new before after given back

-- The words ask for a scenario to be run and its managers to be served.
pub record HasServed {S W B : Type 0} (left : S → Option (List ℕ)) (Served : (workers connections port : ℕ) → Scenario → headline.Stop → Type 0) (status : Status) (words : List (List ℕ)) (old new : S)
    (before after : W) (given back : B) : Type 0 where
  pub workers : ℕ
  pub connections : ℕ
  pub port : ℕ
  pub form : asked_by words ≡ Ok (Serves workers connections port)
  pub outcome : ScenarioOutcome left (Served workers connections port) status old new before after given back

-- The words ask for a scenario to be run, and for those lines of its report that a person asked for.
pub record HasQuiet {S W B : Type 0} (left : S → Option (List ℕ)) (Quieted : (workers : ℕ) → Scenario → headline.Stop → Type 0) (status : Status) (words : List (List ℕ)) (old new : S) (before after : W)
    (given back : B) : Type 0 where
  pub workers : ℕ
  pub form : asked_by words ≡ Ok (Quiets workers)
  pub calm : status ≡ ListenFault → ⊥
  pub outcome : ScenarioOutcome left (Quieted workers) status old new before after given back

-- one of these five results
abbrev pub Outcome : {S W B : Type 0} → (S → Option (List ℕ)) → (W → Option (List ℕ)) → (Words → Scenario → headline.Stop → Type 0) → (Scenario → headline.Stop → Type 0) →
    ((workers connections port : ℕ) → Scenario → headline.Stop → Type 0) → ((workers : ℕ) → Scenario → headline.Stop → Type 0) → Status → List (List ℕ) → (old new : S) → (before after : W) →
    (given back : B) → Type 0
Outcome left taken Ran Veiled Served Quieted status words old new before after given back =
    RunOutcome left Ran status words old new before after given back ⊎
    (HasAnswered left taken status words old new before after given back ⊎
    (HasVeiled left Veiled status words old new before after given back ⊎
    (HasServed left Served status words old new before after given back ⊎
    HasQuiet left Quieted status words old new before after given back)))
