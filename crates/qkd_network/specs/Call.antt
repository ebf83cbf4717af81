-- What a call did with its source, its sink, its bench and its ports.
use Rattle.std.specs.Prelude.{ℕ, List, [], Option, IsSome}
use Rattle.run_types.specs.declared.scenario.Scenario.{Scenario}
use Rattle.run_model.specs.Course.{Words, Run, Serve}
use Rattle.run_model.specs.Headline as headline
use Rattle.run_model.specs.Headline.{Given, given_to}
use Rattle.kme_serve.specs.Door.{Door}
use Rattle.kme_serve.specs.Doors.{Queues, ports_told}
use Rattle.net_world.specs.Running.{HasHeadlines}
use Rattle.net_world.specs.Veiling.{HasVeiled}
use Rattle.net_world.specs.declared.bench.Bench.{Bench}
use Rattle.net_serve.specs.BenchServing.{HasServedHeadlines}
use Rattle.qkd_network.specs.Lines.{WroteLines}
use Rattle.qkd_network.specs.Quiet.{given_lines, IsQuiet}
use Rattle.qkd_network.specs.Outcome.{Outcome, beside}
use Rattle.qkd_network.specs.declared.status.Status.{Status}
use Rattle.net_world.specs.New.{Outside}

-- by the status, and by what the words ask for
abbrev pub IsCalled : {S W K Q E X P D : Type 0} → (S → Option (List ℕ)) → (W → Option (List ℕ)) → (W → Option (List (List ℕ))) →
    Outside K Q E X → (tell : D → Door) → (failed : D → ℕ) → (asked : P → Option (List ℕ)) → (back : P → Option (List D)) → (queues : P → ℕ → Queues) →
    Status → (words : List (List ℕ)) → (old new : S) → (before after : W) → (bench bench' : Bench K Q E X) → (ports ports' : P) → Type 0
IsCalled left taken pieces outside tell failed asked back queues status words old new before after bench bench' ports ports' =
    Outcome left taken
    (λ (form : Words) (scenario : Scenario) (stop : headline.Stop).
    HasHeadlines outside bench bench' form scenario (given_to taken pieces before) (given_to taken pieces after) stop
    × WroteLines taken pieces form scenario before after stop)
    (λ (scenario : Scenario) (stop : headline.Stop).
    HasVeiled outside (given_to taken pieces) bench bench' scenario before after stop)
    (λ (workers connections port : ℕ) (scenario : Scenario) (stop : headline.Stop).
    HasServedHeadlines outside tell failed (IsSome (asked ports)) bench bench'
    (ports_told asked back queues ports) (ports_told asked back queues ports') workers connections port scenario (given_to taken pieces before) (given_to taken pieces after) stop
    × WroteLines taken pieces (Serve workers connections port) scenario before after stop)
    (λ (workers : ℕ) (scenario : Scenario) (stop : headline.Stop).
    IsQuiet taken pieces (λ (report : Given) (end : headline.Stop).
    HasHeadlines outside bench bench' (Run workers) scenario (given_lines []) report end)
    scenario.site.nodes before after stop)
    status words old new before after (beside bench ports) (beside bench' ports')
