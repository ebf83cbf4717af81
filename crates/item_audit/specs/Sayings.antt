-- What an item says of a manager.
use Rattle.std.specs.Prelude.{ℕ, ◌==◌, true, false, codes, if◌then◌else◌, List, Option, Some, None}
use Rattle.std.specs.Str.{bytes_eq}
use Rattle.qkd_base.specs.declared.lane.Lane.{Lane}
use Rattle.qkd_base.specs.Lane.{reverse_lane}
use Rattle.sae_entitlements.specs.Grants.{home_of}
use Rattle.declared_site.specs.declared.site.Site.{Site}
use Rattle.run_types.specs.declared.command.Command.{Command}
use Rattle.run_types.specs.declared.command.Command.TheVariants as commands
use Rattle.run_types.specs.declared.refusal.Refusal.{Refusal}
use Rattle.run_types.specs.declared.refusal.Refusal.TheVariants as refusals
use Rattle.run_types.specs.declared.frame_result.FrameResult.{FrameResult}
use Rattle.run_types.specs.declared.frame_result.FrameResult.TheVariants as results
use Rattle.run_types.specs.declared.start_result.StartResult.TheVariants as starts
use Rattle.run_types.specs.declared.item.Item.{Item}
use Rattle.run_types.specs.declared.item.Item.TheVariants as items
use Rattle.run_audit.specs.Ledgers.{lane_from}
use Rattle.run_audit.specs.Takings.{receiver}
use Rattle.item_audit.specs.declared.said.Said.{Said}

-- ---- what an answer says of its manager

-- It was up, and still is.
abbrev pub is_up_at : (node : ℕ) → Said
is_up_at v = record { node = v; was_up = true; is_up = true }

-- It was up, and is down behind the item.
abbrev pub goes_down : (node : ℕ) → Said
goes_down v = record { node = v; was_up = true; is_up = false }

-- It was down, and still is.
abbrev pub is_down_at : (node : ℕ) → Said
is_down_at v = record { node = v; was_up = false; is_up = false }

-- It was down, and is up behind the item.
abbrev pub goes_up : (node : ℕ) → Said
goes_up v = record { node = v; was_up = false; is_up = true }

abbrev pub said_by : (node : ℕ) → Refusal → Said
said_by v refusals.Down = is_down_at v
said_by v refusals.Stopped = goes_down v
said_by v _ = is_up_at v

-- ---- items that name the node, its end of a link, or its lane

-- The wire says that it has no such frame, or no such bit.
abbrev pub said_of_frame : (node : ℕ) → FrameResult → Option Said
said_of_frame v (results.Refused (refusals.NoFrame count)) = None
said_of_frame v (results.Refused (refusals.NoBit bits)) = None
said_of_frame v (results.Refused refusal) = Some (said_by v refusal)
said_of_frame v _ = Some (is_up_at v)

abbrev pub down_text : List ℕ
down_text = codes "{\"message\":\"manager down\"}"

abbrev pub stopped_text : List ℕ
stopped_text = codes "{\"message\":\"manager stopped\"}"

-- A manager that is up gave the response, or one that is down or stops then. Of other responses no manager may have known.
abbrev pub said_of_response : (node status : ℕ) → (body : List ℕ) → Option Said
said_of_response v status body =
    if status == 200 then Some (is_up_at v)
    else if bytes_eq body down_text then Some (is_down_at v)
    else if bytes_eq body stopped_text then Some (goes_down v)
    else None

-- the end of a link where a block was taken or not, as the node from which a lane leaves
abbrev pub sender : Site → Lane → ℕ
sender site l = receiver site.routes (reverse_lane l)

abbrev pub said_of_item : Site → Item → Option Said
said_of_item site (items.Took link end number) = Some (is_up_at (sender site (lane_from link end)))
said_of_item site (items.TookNone link end refusal) = Some (said_by (sender site (lane_from link end)) refusal)
said_of_item site (items.Ticked v fresh again) = Some (is_up_at v)
said_of_item site (items.Idle v) = Some (is_up_at v)
said_of_item site (items.NotTicked v refusal) = Some (said_by v refusal)
said_of_item site (items.Passed l number result) = said_of_frame (receiver site.routes l) result
said_of_item site (items.Flipped l number bit result) = said_of_frame (receiver site.routes l) result
said_of_item site (items.Forged l result) = said_of_frame (receiver site.routes l) result
said_of_item site (items.Shown v name held bytes) = Some (is_up_at v)
said_of_item site (items.NotShown v name refusal) = Some (said_by v refusal)
said_of_item site (items.Counted l counts) = Some (is_up_at (sender site l))
said_of_item site (items.NotCounted l refusal) = Some (said_by (sender site l) refusal)
said_of_item site (items.Http v status body) = said_of_response v status body
said_of_item site _ = None

-- ---- items of lines that name the node

abbrev pub said_of_answer : (node : ℕ) → Item → Option Said
said_of_answer v (items.Refused refusal) = Some (said_by v refusal)
said_of_answer v (items.Made count first) = Some (is_up_at v)
said_of_answer v (items.Keys keys) = Some (is_up_at v)
said_of_answer v (items.Ready count) = Some (is_up_at v)
said_of_answer v (items.Stream answer) = Some (is_up_at v)
said_of_answer v _ = None

abbrev pub said_at_home : Option ℕ → Item → Option Said
said_at_home None item = None
said_at_home (Some v) item = said_of_answer v item

abbrev pub said_of_crash : (node : ℕ) → Item → Option Said
said_of_crash v items.Crashed = Some (goes_down v)
said_of_crash v (items.Refused refusal) = Some (is_down_at v)
said_of_crash v _ = None

abbrev pub said_of_start : (node : ℕ) → Item → Option Said
said_of_start v (items.Start starts.Started) = Some (goes_up v)
said_of_start v (items.Start starts.WasUp) = Some (is_up_at v)
said_of_start v (items.Start _) = Some (is_down_at v)
said_of_start v (items.Refused refusal) = Some (is_down_at v)
said_of_start v _ = None

-- ---- all

abbrev pub said_of : Site → Command → Item → Option Said
said_of site (commands.Fill master slave bits count) item = said_at_home (home_of site.entitlements master) item
said_of site (commands.FillGroup master bits count slaves) item = said_at_home (home_of site.entitlements master) item
said_of site (commands.Feed stream count) item = said_of_answer stream.node item
said_of site (commands.Enc v master slave count bits) item = said_of_answer v item
said_of site (commands.EncGroup v master count bits slaves) item = said_of_answer v item
said_of site (commands.Dec v slave master names) item = said_of_answer v item
said_of site (commands.Status v master slave) item = said_of_answer v item
said_of site (commands.Stream v call) item = said_of_answer v item
said_of site (commands.Crash v) item = said_of_crash v item
said_of site (commands.Start v) item = said_of_start v item
said_of site _ item = said_of_item site item

abbrev pub said_at : Site → Option Command → Item → Option Said
said_at site None item = None
said_at site (Some command) item = said_of site command item

-- The item of a line that declares a node says that it didn't start.
abbrev pub said_of_node : Option ℕ → Option Said → Option Said
said_of_node None said = said
said_of_node (Some v) said = Some (goes_down v)
