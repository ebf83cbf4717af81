-- What each line of a scenario asks for, by the line's number.
use Rattle.std.specs.Prelude.{ℕ, ◌==◌, List, [], ◌∷◌, ◌++◌, map, Option}
use Rattle.std.specs.List.{flat_map}
use Rattle.std.specs.Map.{lookup}
use Rattle.run_types.specs.declared.stream_call.StreamCall.{StreamCall}
use Rattle.run_types.specs.declared.stream_call.StreamCall.TheVariants as calls
use Rattle.run_types.specs.declared.command.Command.{Command}
use Rattle.run_types.specs.declared.command.Command.TheVariants as commands
use Rattle.run_types.specs.declared.line.Line.{Line}
use Rattle.run_types.specs.declared.entry.Entry.{Entry}
use Rattle.run_types.specs.declared.entry.Entry.TheVariants as entries
use Rattle.run_types.specs.declared.scenario.Scenario.{Scenario}
use Rattle.run_audit.specs.declared.line_kind.LineKind.{LineKind}
use Rattle.run_audit.specs.declared.line_kind.LineKind.TheVariants as kinds

abbrev pub kind_of_call : StreamCall → LineKind
kind_of_call (calls.Open source peer bits) = kinds.Opening
kind_of_call (calls.Join caller source stream bits) = kinds.Joining
kind_of_call (calls.Get caller stream index) = kinds.Getting caller stream
kind_of_call (calls.Close caller stream) = kinds.Closing

abbrev pub kind_of : Command → LineKind
kind_of (commands.Bits link ends count) = kinds.Bits
kind_of (commands.Fill master slave bits count) = kinds.Making
kind_of (commands.Feed stream count) = kinds.Making
kind_of (commands.Tick node) = kinds.Tick
kind_of (commands.Settle rounds) = kinds.Settle
kind_of (commands.Pass lane number) = kinds.Pass
kind_of (commands.Flip lane number bit) = kinds.Flip
kind_of (commands.Forge lane octets) = kinds.Forge
kind_of (commands.Crash node) = kinds.Crash
kind_of (commands.Start node) = kinds.Start
kind_of (commands.Cut node call image) = kinds.Arming
kind_of (commands.Fail node call) = kinds.Arming
kind_of (commands.LinkUp link) = kinds.LinkSetting
kind_of (commands.LinkDown link) = kinds.LinkSetting
kind_of (commands.Enc node master slave count bits) = kinds.Handing master master
kind_of (commands.Dec node slave master names) = kinds.Handing slave master
kind_of (commands.Status node master slave) = kinds.Status
kind_of (commands.Http node octets) = kinds.Http
kind_of (commands.Stream node call) = kind_of_call call
kind_of (commands.Show node name) = kinds.Show
kind_of (commands.Ledger lane) = kinds.Ledger
kind_of (commands.FillGroup master bits count slaves) = kinds.Making
kind_of (commands.EncGroup node master count bits slaves) = kinds.Handing master master

abbrev pub kind_of_line : Line → ℕ × LineKind
kind_of_line line = (line.number, kind_of line.command)

-- the lines of an entry, each with what it asks for
abbrev pub kinds_of : Entry → List (ℕ × LineKind)
kinds_of (entries.Line line) = kind_of_line line ∷ []
kinds_of (entries.Block lines) = map kind_of_line lines

-- all lines of a scenario, each with what it asks for
abbrev pub kinds_in : Scenario → List (ℕ × LineKind)
kinds_in s = map (λ n. (n, kinds.Node)) s.node_lines ++ flat_map kinds_of s.entries

-- what the line with this number asks for
abbrev pub kind_at : Scenario → ℕ → Option LineKind
kind_at s number = lookup (λ n. n == number) (kinds_in s)
