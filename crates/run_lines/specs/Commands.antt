-- Kinds of lines.
use Rattle.std.specs.Prelude.{ℕ, Bool, true, false, [], if◌then◌else◌}
use Rattle.run_types.specs.declared.command.Command.{Command}
use Rattle.run_types.specs.declared.command.Command.TheVariants as commands
use Rattle.run_model.specs.Turn.{HttpTexts, AnswersAtOnce}
use Rattle.run_ops.specs.Runnable.{is_arming}

-- any rule for HTTP; a line that is no HTTP request doesn't use it
abbrev pub any_texts : HttpTexts
any_texts = record { request = λ v octets. AnswersAtOnce 0 []; response = λ event reply. (0, []) }

-- the number of times that a line arms a disk
abbrev pub armings_of : Command → ℕ
armings_of command = if is_arming command then 1 else 0

abbrev pub is_request : Command → Bool
is_request (commands.Http v octets) = true
is_request _ = false

-- lines about managers, disks and links, and lines that ask a manager to handle one event, except for ticks
abbrev pub acts_once : Command → Bool
acts_once (commands.Bits link at count) = false
acts_once (commands.Tick v) = false
acts_once (commands.Settle rounds) = false
acts_once (commands.Ledger l) = false
acts_once (commands.Pass l number) = false
acts_once (commands.Flip l number bit) = false
acts_once (commands.Forge l octets) = false
acts_once (commands.Http v octets) = false
acts_once _ = true
