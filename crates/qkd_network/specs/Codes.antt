-- The exit status of each end of the program, and its text on standard error.
use Rattle.std.specs.Prelude.{ℕ, List, [], ◌++◌, Result, Ok, Err}
use Rattle.std.specs.Fmt.{decimal}
use lib.Chars.{codes}
use Rattle.run_lines.specs.declared.stop.Stop.{Stop}
use Rattle.run_lines.specs.declared.stop.Stop.TheVariants as stops
use Rattle.net_serve.specs.declared.stop.ServeStop.{ServeStop}
use Rattle.net_serve.specs.declared.stop.ServeStop.TheVariants as serves
use Rattle.cli_answers.specs.declared.answer.Verdict.TheVariants as verdicts
use Rattle.cli_answers.specs.declared.exchange.Ended.{Ended}
use Rattle.cli_answers.specs.declared.exchange.Ended.TheVariants as ends
use Rattle.qkd_network.specs.declared.status.Status.{Status}
use Rattle.qkd_network.specs.declared.status.Status.TheVariants.{Done, Usage, BadLine, ReadFault, WriteFault, ForgedMatch, Memory, ListenFault, BrokenRule}

abbrev pub code_of : Status → ℕ
code_of Done = 0
code_of (Usage i) = 1
code_of (BadLine n) = 2
code_of ReadFault = 3
code_of WriteFault = 3
code_of (ForgedMatch n) = 4
code_of Memory = 5
code_of ListenFault = 6
code_of BrokenRule = 7

abbrev pub said_of : Status → List ℕ
said_of Done = []
said_of (Usage i) = codes "usage: word " ++ decimal i
said_of (BadLine n) = codes "line " ++ decimal n
said_of ReadFault = codes "read fault"
said_of WriteFault = codes "write fault"
said_of (ForgedMatch n) = codes "forged frame at line " ++ decimal n
said_of Memory = codes "out of memory"
said_of ListenFault = codes "listen fault"
said_of BrokenRule = codes "broken rule"

-- the status of a run
abbrev pub status_of : {T : Type 0} → Result T Stop → Status
status_of (Ok done) = Done
status_of (Err stops.WriteFault) = WriteFault
status_of (Err stops.Memory) = Memory
status_of (Err (stops.Forged line)) = ForgedMatch line

-- the status of a run whose managers are then served
abbrev pub served_as : {T : Type 0} → Result T ServeStop → Status
served_as (Ok done) = Done
served_as (Err (serves.Stopped stops.WriteFault)) = WriteFault
served_as (Err (serves.Stopped stops.Memory)) = Memory
served_as (Err (serves.Stopped (stops.Forged line))) = ForgedMatch line
served_as (Err serves.Listen) = ListenFault

-- the status of an answer
abbrev pub answered_as : Ended → Status
answered_as (ends.Answered verdicts.Yes) = Done
answered_as (ends.Answered verdicts.BrokenRule) = BrokenRule
answered_as (ends.Answered (verdicts.BadLine n)) = BadLine n
answered_as (ends.BadLine n) = BadLine n
answered_as ends.ReadFault = ReadFault
answered_as ends.WriteFault = WriteFault
answered_as ends.Memory = Memory
