-- The results of a source that was read.
use Rattle.std.proofs.Common.{◌≡◌, ℕ, List, refl, ap, ◌∙◌, inl, inr}
use Rattle.std.specs.Prelude.{◌⊎◌, Option, Result, Ok, Err}
use Rattle.run_types.specs.declared.scenario.Scenario.{Scenario}
use Rattle.scenario_text.specs.Text.{meaning_of}
use Rattle.run_lines.specs.declared.stop.Stop.{Stop}
use Rattle.run_lines.specs.declared.stop.Stop.TheVariants as stops
use Rattle.run_model.specs.Course.{Words, Run, Load}
use Rattle.run_model.specs.Load.{load_scenario}
use Rattle.run_model.specs.Headline as headline
use Rattle.net_world.specs.Running.{ended, WasLeft}
use Rattle.net_serve.specs.BenchServing.{ended as served_end, WasLeft as WasNotServed}
use Rattle.net_serve.specs.declared.stop.ServeStop.{ServeStop}
use Rattle.net_serve.specs.declared.stop.ServeStop.TheVariants as serves
use Rattle.net_world.specs.declared.bench.Bench.{Bench}
use Rattle.qkd_network.specs.Codes.{status_of, served_as, answered_as}
use Rattle.qkd_network.specs.Forms.{Runs, asked_by}
use Rattle.cli_answers.specs.Inputs.{ReadsWhole}
use Rattle.cli_answers.specs.declared.exchange.Ended.{Ended}
use Rattle.cli_answers.specs.declared.exchange.Ended.TheVariants as ends
use Rattle.qkd_network.specs.Outcome.{HasScenario, HasRun, HasLoaded, HasCome, IsUnread, RunOutcome, ScenarioOutcome, beside}
use Rattle.qkd_network.specs.declared.status.Status.{Status}
use Rattle.qkd_network.specs.declared.status.Status.TheVariants.{Done, Usage, BadLine, ReadFault, WriteFault, ForgedMatch, Memory, ListenFault, BrokenRule}
use Rattle.qkd_network.proofs.Inputs.{read_of}

module _ {S : Type 0} (left : S → Option (List ℕ)) (Ran : Words → Scenario → headline.Stop → Type 0) (words : List (List ℕ)) (workers : ℕ) (form : asked_by words ≡ Ok (Runs (Run workers))) (old new : S) where
  pub unread : {W B : Type 0} (status : Status) (sink : W) (bench : B) → IsUnread status (left old) (left new) → RunOutcome left Ran status words old new sink sink bench bench
  unread Done sink bench h = absurd h
  unread (Usage i) sink bench h = absurd h
  unread (BadLine n) sink bench h = ((workers, form), h.0, h.1, refl, refl)
  unread ReadFault sink bench h = ((workers, form), refl, refl)
  unread WriteFault sink bench h = absurd h
  unread (ForgedMatch n) sink bench h = absurd h
  unread Memory sink bench h = inl ((Run workers, form), refl, refl)
  unread ListenFault sink bench h = absurd h
  unread BrokenRule sink bench h = absurd h

  module _ (scenario : Scenario) (told : HasScenario (left old) (left new) scenario) where
    has_run : (stop : headline.Stop) → Ran (Run workers) scenario stop → HasRun Ran words (left old) (left new) stop
    has_run stop runs = record { workers = workers; form = form; scenario = scenario; told = told; runs = runs }

    pub ran : {W B T : Type 0} (before after : W) (given back : B) (result : Result T Stop) →
        ((result ≡ Err stops.Memory) × (after ≡ before) × (back ≡ given)) ⊎ Ran (Run workers) scenario (ended result) → RunOutcome left Ran (status_of result) words old new before after given back
    ran before after given back (Ok done) (inl l) = absurd (let wrong : Ok done ≡ Err stops.Memory = l.0 in cc)
    ran before after given back (Ok done) (inr runs) = inl (has_run headline.Done runs)
    ran before after given back (Err stops.WriteFault) (inl l) = absurd (let wrong : Err stops.WriteFault ≡ Err stops.Memory = l.0 in cc)
    ran before after given back (Err stops.WriteFault) (inr runs) = inl (has_run headline.WriteFault runs)
    ran before after given back (Err stops.Memory) (inl l) = inl ((Run workers, form), l.1, l.2)
    ran before after given back (Err stops.Memory) (inr runs) = inr (inl (has_run headline.Memory runs))
    ran before after given back (Err (stops.Forged line)) (inl l) = absurd (let wrong : Err (stops.Forged line) ≡ Err stops.Memory = l.0 in cc)
    ran before after given back (Err (stops.Forged line)) (inr runs) = inl (has_run (headline.ForgedMatch line) runs)

-- ---- the scenario of a source

pub scenario_read : (left rest : Option (List ℕ)) (bytes : List ℕ) (scenario : Scenario) → ReadsWhole left rest bytes → meaning_of bytes ≡ Ok scenario → HasScenario left rest scenario
scenario_read left rest bytes scenario read means =
    let r = read_of left rest bytes read in
    record { read = (bytes, read); input = r.input; input_is = r.input_is; means = r.means ∙ means }

pub line_refused : (left rest : Option (List ℕ)) (bytes : List ℕ) (line : ℕ) → ReadsWhole left rest bytes → meaning_of bytes ≡ Err line → IsUnread (BadLine line) left rest
line_refused left rest bytes line read refused =
    let r = read_of left rest bytes read in
    ((bytes, read), record { input = r.input; input_is = r.input_is; refused = r.means ∙ refused })

-- ---- a scenario that is run and then veiled or served

module _ {S : Type 0} (left : S → Option (List ℕ)) (Came : Scenario → headline.Stop → Type 0) (old new : S) where
  pub scenario_unread : {W B : Type 0} (status : Status) (sink : W) (bench : B) → IsUnread status (left old) (left new) → ScenarioOutcome left Came status old new sink sink bench bench
  scenario_unread Done sink bench h = absurd h
  scenario_unread (Usage i) sink bench h = absurd h
  scenario_unread (BadLine n) sink bench h = (h.0, h.1, refl, refl)
  scenario_unread ReadFault sink bench h = (refl, refl)
  scenario_unread WriteFault sink bench h = absurd h
  scenario_unread (ForgedMatch n) sink bench h = absurd h
  scenario_unread Memory sink bench h = inl (refl, refl)
  scenario_unread ListenFault sink bench h = absurd h
  scenario_unread BrokenRule sink bench h = absurd h

  module _ (scenario : Scenario) (told : HasScenario (left old) (left new) scenario) where
    has_come : (stop : headline.Stop) → Came scenario stop → HasCome Came (left old) (left new) stop
    has_come stop came = record { scenario = scenario; told = told; came = came }

    pub veil_ran : {W B T : Type 0} (before after : W) (given back : B) (result : Result T Stop) →
        ((result ≡ Err stops.Memory) × (after ≡ before) × (back ≡ given)) ⊎ Came scenario (ended result) → ScenarioOutcome left Came (status_of result) old new before after given back
    veil_ran before after given back (Ok done) (inl l) = absurd (let wrong : Ok done ≡ Err stops.Memory = l.0 in cc)
    veil_ran before after given back (Ok done) (inr came) = has_come headline.Done came
    veil_ran before after given back (Err stops.WriteFault) (inl l) = absurd (let wrong : Err stops.WriteFault ≡ Err stops.Memory = l.0 in cc)
    veil_ran before after given back (Err stops.WriteFault) (inr came) = has_come headline.WriteFault came
    veil_ran before after given back (Err stops.Memory) (inl l) = inl (l.1, l.2)
    veil_ran before after given back (Err stops.Memory) (inr came) = inr (has_come headline.Memory came)
    veil_ran before after given back (Err (stops.Forged line)) (inl l) = absurd (let wrong : Err (stops.Forged line) ≡ Err stops.Memory = l.0 in cc)
    veil_ran before after given back (Err (stops.Forged line)) (inr came) = has_come (headline.ForgedMatch line) came

    pub serve_ran : {W B T : Type 0} (before after : W) (given back : B) (result : Result T ServeStop) →
        ((result ≡ Err (serves.Stopped stops.Memory)) × (after ≡ before) × (back ≡ given)) ⊎ Came scenario (served_end result) → ScenarioOutcome left Came (served_as result) old new before after given back
    serve_ran before after given back (Ok done) (inl l) = absurd (let wrong : Ok done ≡ Err (serves.Stopped stops.Memory) = l.0 in cc)
    serve_ran before after given back (Ok done) (inr came) = has_come headline.Done came
    serve_ran before after given back (Err serves.Listen) (inl l) = absurd (let wrong : Err serves.Listen ≡ Err (serves.Stopped stops.Memory) = l.0 in cc)
    serve_ran before after given back (Err serves.Listen) (inr came) = has_come headline.ListenFault came
    serve_ran before after given back (Err (serves.Stopped stops.WriteFault)) (inl l) = absurd (let wrong : Err (serves.Stopped stops.WriteFault) ≡ Err (serves.Stopped stops.Memory) = l.0 in cc)
    serve_ran before after given back (Err (serves.Stopped stops.WriteFault)) (inr came) = has_come headline.WriteFault came
    serve_ran before after given back (Err (serves.Stopped stops.Memory)) (inl l) = inl (l.1, l.2)
    serve_ran before after given back (Err (serves.Stopped stops.Memory)) (inr came) = inr (has_come headline.Memory came)
    serve_ran before after given back (Err (serves.Stopped (stops.Forged line))) (inl l) = absurd (let wrong : Err (serves.Stopped (stops.Forged line)) ≡ Err (serves.Stopped stops.Memory) = l.0 in cc)
    serve_ran before after given back (Err (serves.Stopped (stops.Forged line))) (inr came) = has_come (headline.ForgedMatch line) came

  -- the ports were not touched
  pub beside_ports : {W B P : Type 0} (status : Status) (before after : W) (given back : B) (ports : P) → ScenarioOutcome left Came status old new before after given back →
      ScenarioOutcome left Came status old new before after (beside given ports) (beside back ports)
  beside_ports Done before after given back ports h = h
  beside_ports (Usage i) before after given back ports h = h
  beside_ports (BadLine n) before after given back ports h = (h.0, h.1, h.2, ap (λ b. beside b ports) h.3)
  beside_ports ReadFault before after given back ports h = (h.0, ap (λ b. beside b ports) h.1)
  beside_ports WriteFault before after given back ports h = h
  beside_ports (ForgedMatch n) before after given back ports h = h
  beside_ports Memory before after given back ports (inl l) = inl (l.0, ap (λ b. beside b ports) l.1)
  beside_ports Memory before after given back ports (inr h) = inr h
  beside_ports ListenFault before after given back ports h = h
  beside_ports BrokenRule before after given back ports h = h

pub left_or : {K Q E X W T : Type 0} (given back : Bench K Q E X) (before after : W) (result : Result T Stop) (R : Type 0) → WasLeft given back before after result ⊎ R →
    ((result ≡ Err stops.Memory) × (after ≡ before) × (back ≡ given)) ⊎ R
left_or given back before after result R (inl l) = inl (l.wanting, l.sink, l.bench)
left_or given back before after result R (inr r) = inr r

pub left_beside : {K Q E X W T P : Type 0} (given back : Bench K Q E X) (ports : P) (before after : W) (result : Result T Stop) (R : Type 0) → WasLeft given back before after result ⊎ R →
    ((result ≡ Err stops.Memory) × (after ≡ before) × (beside back ports ≡ beside given ports)) ⊎ R
left_beside given back ports before after result R (inl l) = inl (l.wanting, l.sink, ap (λ b. beside b ports) l.bench)
left_beside given back ports before after result R (inr r) = inr r

pub left_with : {B W T P : Type 0} (given back : B) (before after : W) (ports ports_back : P) (result : Result T ServeStop) (R : Type 0) → WasNotServed given back before after ports ports_back result ⊎ R →
    ((result ≡ Err (serves.Stopped stops.Memory)) × (after ≡ before) × (beside back ports_back ≡ beside given ports)) ⊎ R
left_with given back before after ports ports_back result R (inl l) = inl (l.wanting, l.sink, ap (λ b. beside b ports_back) l.bench ∙ ap (λ p. beside given p) l.ports)
left_with given back before after ports ports_back result R (inr r) = inr r

-- ---- the generated load

module _ {S : Type 0} (left : S → Option (List ℕ)) (Ran : Words → Scenario → headline.Stop → Type 0) (words : List (List ℕ)) (rounds : ℕ) (form : asked_by words ≡ Ok (Runs (Load rounds))) (source : S) where
  has_loaded : (stop : headline.Stop) → Ran (Load rounds) (load_scenario rounds) stop → HasLoaded Ran words source source stop
  has_loaded stop runs = record { rounds = rounds; form = form; source = refl; runs = runs }

  pub loaded : {W B T : Type 0} (before after : W) (given back : B) (result : Result T Stop) →
      ((result ≡ Err stops.Memory) × (after ≡ before) × (back ≡ given)) ⊎ Ran (Load rounds) (load_scenario rounds) (ended result) →
      RunOutcome left Ran (status_of result) words source source before after given back
  loaded before after given back (Ok done) (inl l) = absurd (let wrong : Ok done ≡ Err stops.Memory = l.0 in cc)
  loaded before after given back (Ok done) (inr runs) = inr (has_loaded headline.Done runs)
  loaded before after given back (Err stops.WriteFault) (inl l) = absurd (let wrong : Err stops.WriteFault ≡ Err stops.Memory = l.0 in cc)
  loaded before after given back (Err stops.WriteFault) (inr runs) = inr (has_loaded headline.WriteFault runs)
  loaded before after given back (Err stops.Memory) (inl l) = inl ((Load rounds, form), l.1, l.2)
  loaded before after given back (Err stops.Memory) (inr runs) = inr (inr (has_loaded headline.Memory runs))
  loaded before after given back (Err (stops.Forged line)) (inl l) = absurd (let wrong : Err (stops.Forged line) ≡ Err stops.Memory = l.0 in cc)
  loaded before after given back (Err (stops.Forged line)) (inr runs) = inr (has_loaded (headline.ForgedMatch line) runs)

-- only a failed port or listener gives this status
pub listening : {T : Type 0} (ended : Result T ServeStop) → served_as ended ≡ ListenFault → ended ≡ Err serves.Listen
listening (Ok done) h = absurd (cc h)
listening (Err (serves.Stopped stops.WriteFault)) h = absurd (cc h)
listening (Err (serves.Stopped stops.Memory)) h = absurd (cc h)
listening (Err (serves.Stopped (stops.Forged line))) h = absurd (cc h)
listening (Err serves.Listen) h = refl

-- if an answer is no read fault, the status is none
pub answered_calm : (A : Type 0) (ended : Ended) (status : Status) → status ≡ answered_as ended → (ended ≡ ends.ReadFault) ⊎ A → (status ≡ ReadFault) ⊎ A
answered_calm A ended status is (inl fault) = inl (is ∙ ap answered_as fault)
answered_calm A ended status is (inr calm) = inr calm
