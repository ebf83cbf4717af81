-- How a reply is reported, and which outcome of the network stands for other answers.
use Rattle.std.specs.Prelude.{ℕ, Bool, true, false, List, Result, Ok, Err}
use Rattle.net_model.specs.Action.{Outcome, Replies, Started, WasUp, StartStopped, StartMemory, ForeignAt, Crashed, WasDown, NoBlock, DeviceFailed, NoFrame, NoBit, Put, Unsent}
use Rattle.run_types.specs.declared.item.Item.{Item}
use Rattle.run_types.specs.declared.start_result.StartResult.{StartResult}
use Rattle.run_types.specs.declared.start_result.StartResult.TheVariants as starts
use Rattle.run_types.specs.declared.unsent_cause.UnsentCause.{UnsentCause}
use Rattle.run_types.specs.declared.unsent_cause.UnsentCause.TheVariants as causes
use Rattle.run_model.specs.Outcomes.{made_items, handed_items, status_items, stream_items, show_items, plan_items}
use Rattle.run_ops.specs.declared.reply_report.Reporting.{Reporting}
use Rattle.run_ops.specs.declared.reply_report.Reporting.TheVariants as ways
use Rattle.run_ops.specs.declared.delivery.Delivery.{Delivery}
use Rattle.run_ops.specs.declared.delivery.Delivery.TheVariants as deliveries
use Rattle.run_ops.specs.declared.block_take.BlockTake.{BlockTake}
use Rattle.run_ops.specs.declared.block_take.BlockTake.TheVariants as takes

abbrev pub reported : Reporting → Outcome → List Item
reported ways.Made = made_items
reported ways.Handed = handed_items
reported ways.Ready = status_items
reported (ways.Stream call) = stream_items call
reported (ways.Shown node name) = show_items node name
reported (ways.Ticked node quiet) = plan_items quiet node

-- The outcome of passing a frame.
abbrev pub delivered : Delivery → Outcome
delivered (deliveries.Replied reply) = Replies reply
delivered (deliveries.NoFrame count) = NoFrame count
delivered (deliveries.NoBit bits) = NoBit bits

-- The outcome of taking a block of bytes.
abbrev pub taken : BlockTake → Outcome
taken (takes.Replied reply) = Replies reply
taken takes.NoBlock = NoBlock
taken takes.DeviceFailed = DeviceFailed

-- The outcome of putting a frame on a wire.
abbrev pub unsent_for : UnsentCause → Outcome
unsent_for causes.WireFault = Unsent false
unsent_for causes.Memory = Unsent true

abbrev pub put : Result ℕ UnsentCause → Outcome
put (Ok number) = Put number
put (Err cause) = unsent_for cause

-- The outcome of a start.
abbrev pub started : StartResult → Outcome
started starts.Started = Started
started starts.WasUp = WasUp
started starts.Stopped = StartStopped
started (starts.Foreign place) = ForeignAt place
started starts.Memory = StartMemory

-- The outcome of a crash of a manager that was up or down.
abbrev pub crashed : (was_up : Bool) → Outcome
crashed true = Crashed
crashed false = WasDown
