-- The lines after each of which a network is quiet.
use Rattle.std.specs.Prelude.{◌≡◌, true, List}
use Rattle.std.specs.List.{AllByRecursion}
use Rattle.net_model.specs.declared.event.Event.{Event}
use Rattle.run_types.specs.declared.command.Command.{Command}
use Rattle.run_types.specs.declared.command.Command.TheVariants.{Http}
use Rattle.run_types.specs.declared.entry.Entry.TheVariants.{Line}
use Rattle.run_model.specs.Turn.{HttpTexts, Calls}
use Rattle.run_model.specs.Course.{is_request}
use Rattle.run_model.specs.Report.{Task, Does}

-- The octets of an `http` line that ask for an event ask for a request of GS QKD 014, and so for no plan.

abbrev pub AsksRequest : HttpTexts → Command → Type 0
AsksRequest http (Http v octets) = (event : Event) → http.request v octets ≡ Calls event → is_request event ≡ true
AsksRequest http _ = Unit {0}

abbrev pub TaskAsks : HttpTexts → Task → Type 0
TaskAsks http (Does (Line line)) = AsksRequest http line.command
TaskAsks http _ = Unit {0}

-- It is so of each such line that stands in no block.
abbrev pub AskRequests : HttpTexts → List Task → Type 0
AskRequests http tasks = AllByRecursion (TaskAsks http) tasks
