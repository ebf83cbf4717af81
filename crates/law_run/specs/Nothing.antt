-- A scenario that declares nothing and asks for nothing, and a bench that stays unchanged.
use Rattle.std.specs.Prelude.{[], Some, None}
use Rattle.route_table.specs.Table.{no_links}
use Rattle.sae_entitlements.specs.Grants.{none}
use Rattle.declared_site.specs.declared.site.Site.{Site}
use Rattle.run_types.specs.declared.scenario.Scenario.{Scenario}
use Rattle.net_model.specs.Sealing.{Sealing, IsSealing}
use Rattle.run_model.specs.Turn.{HttpTexts}
use Rattle.run_model.specs.Bench.{DiskBatches, Count, Seen}
use Rattle.run_model.specs.Course.{Course, Run}
use Rattle.run_model.specs.Headline.{Given, Done, Headline}

abbrev pub nothing_declared : Site
nothing_declared = record { nodes = []; routes = no_links; entitlements = none }

abbrev pub nothing_asked : Scenario
nothing_asked = record { site = nothing_declared; node_lines = []; entries = [] }

abbrev pub no_fault : Count
no_fault = record { old = 0; new = 0; greatest = 1 }

abbrev pub untouched : Seen
untouched =
    record {
      disk_count = λ v. no_fault;
      entropy_count = λ v. no_fault;
      device_count = λ link. no_fault;
      wire_count = λ l. no_fault;
      arming = λ v. record { times = 0; old = None; new = None };
      wire = λ l. Some [];
      disk = λ v. [];
      entropy = λ v. None;
    }

abbrev pub given_nothing : Given
given_nothing = record { octets = Some []; pieces = Some [] }

-- The headline of this scenario holds, with an empty report.
abbrev pub NothingIsDone : Type 0
NothingIsDone = (sealing : Sealing) (http : HttpTexts) (reading : DiskBatches) → IsSealing sealing → (c : Course) × Headline (Run 1) Done http reading nothing_asked untouched given_nothing given_nothing c
