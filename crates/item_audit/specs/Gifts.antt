-- The names that an item tells of as given.
use Rattle.std.specs.Prelude.{ℕ, ◌+◌, ◌*◌, ◌-◌, ◌^◌, min, Bool, true, false, if◌then◌else◌, length, Option, Some, None}
use Rattle.qkd_base.specs.Name.{Name}
use Rattle.sae_entitlements.specs.Grants.{home_of}
use Rattle.declared_site.specs.declared.site.Site.{Site}
use Rattle.run_types.specs.declared.stream_call.StreamCall.{StreamCall}
use Rattle.run_types.specs.declared.stream_call.StreamCall.TheVariants as calls
use Rattle.run_types.specs.declared.stream_answer.StreamAnswer.TheVariants as answers
use Rattle.run_types.specs.declared.command.Command.{Command}
use Rattle.run_types.specs.declared.command.Command.TheVariants as commands
use Rattle.run_types.specs.declared.refusal.Refusal.TheVariants as refusals
use Rattle.run_types.specs.declared.payload_kind.PayloadKind.{PayloadKind}
use Rattle.run_types.specs.declared.payload_kind.PayloadKind.TheVariants as payloads
use Rattle.run_types.specs.declared.frame_result.FrameResult.{FrameResult}
use Rattle.run_types.specs.declared.frame_result.FrameResult.TheVariants as results
use Rattle.run_types.specs.declared.item.Item.{Item}
use Rattle.run_types.specs.declared.item.Item.TheVariants as items
use Rattle.run_audit.specs.Takings.{receiver}
use Rattle.item_audit.specs.declared.given.Given.{Given}

-- ---- which names an item tells of

abbrev pub bounded : ℕ → ℕ
bounded n = min n (2 ^ 64 - 1)

-- The node gave so many names, the first with this count.
abbrev pub given_from : Name → (more : ℕ) → Given
given_from first more = record { node = first.node; first = Some first.count; more = more }

-- The node may have given up to so many names.
abbrev pub may_give : (node more : ℕ) → Given
may_give v more = record { node = v; first = None; more = more }

-- A key of a group has names of its parts besides its own.
abbrev pub given_at : (node more : ℕ) → Item → Option Given
given_at v more (items.Made count first) = Some (given_from first more)
given_at v more (items.Refused refusals.Stopped) = Some (may_give v more)
given_at v more _ = None

abbrev pub given_at_home : Option ℕ → (more : ℕ) → Item → Option Given
given_at_home None more item = None
given_at_home (Some v) more item = given_at v more item

abbrev pub given_by_open : (node : ℕ) → Item → Option Given
given_by_open v (items.Stream (answers.OpenConnect status (Some stream))) = Some (given_from stream 1)
given_by_open v (items.Refused refusals.Stopped) = Some (may_give v 1)
given_by_open v _ = None

-- A join gives a note, unless its status refuses it.
abbrev pub given_by_join : (node : ℕ) → Item → Option Given
given_by_join v (items.Stream answer) = Some (may_give v 1)
given_by_join v (items.Refused refusals.Stopped) = Some (may_give v 1)
given_by_join v _ = None

abbrev pub given_by_call : (node : ℕ) → StreamCall → Item → Option Given
given_by_call v (calls.Open source peer bits) item = given_by_open v item
given_by_call v (calls.Join caller source stream bits) item = given_by_join v item
given_by_call v _ item = None

-- The target of such a fact gives a note.
abbrev pub is_noted : PayloadKind → Bool
is_noted payloads.Key = true
is_noted payloads.Chunk = true
is_noted payloads.Part = true
is_noted _ = false

abbrev pub given_by_frame : (node : ℕ) → FrameResult → Option Given
given_by_frame v (results.Taken kind name) = if is_noted kind then Some (may_give v 1) else None
given_by_frame v (results.Refused refusals.Stopped) = Some (may_give v 1)
given_by_frame v _ = None

abbrev pub given_by_item : Site → Item → Option Given
given_by_item site (items.Passed l number result) = given_by_frame (receiver site.routes l) result
given_by_item site (items.Flipped l number bit result) = given_by_frame (receiver site.routes l) result
given_by_item site (items.Forged l result) = given_by_frame (receiver site.routes l) result
given_by_item site _ = None

abbrev pub given_by : Site → Command → Item → Option Given
given_by site (commands.Fill master slave bits count) item = given_at_home (home_of site.entitlements master) count item
given_by site (commands.FillGroup master bits count slaves) item = given_at_home (home_of site.entitlements master) (bounded (count * (1 + length slaves))) item
given_by site (commands.Feed stream count) item = given_at stream.node count item
given_by site (commands.Stream v call) item = given_by_call v call item
given_by site _ item = given_by_item site item

abbrev pub given_if : Site → Option Command → Item → Option Given
given_if site None item = None
given_if site (Some command) item = given_by site command item
