-- Rule 13, as to one item: how many keys of a pair and size are made, handed to their master, or told of as ready.
use Rattle.std.specs.Prelude.{ℕ, ◌==◌, Bool, ◌&&◌, length, Option, Some, None}
use Rattle.run_types.specs.declared.command.Command.{Command}
use Rattle.run_types.specs.declared.command.Command.TheVariants as commands
use Rattle.run_types.specs.declared.refusal.Refusal.TheVariants as refusals
use Rattle.run_types.specs.declared.item.Item.{Item}
use Rattle.run_types.specs.declared.item.Item.TheVariants as items
use Rattle.item_audit.specs.declared.stocks.Pool.{Pool}
use Rattle.item_audit.specs.declared.stocks.Change.{Change}

abbrev pub pool_of : (master slave bits : ℕ) → Pool
pool_of m s bits = record { master = m; slave = s; bits = bits }

abbrev pub pool_eq : Pool → Pool → Bool
pool_eq p q = (p.master == q.master) && ((p.slave == q.slave) && (p.bits == q.bits))

-- ---- what changes a pool

-- An event in which a manager stops may have made the keys.
abbrev pub made_by : Pool → (count : ℕ) → Item → Option Change
made_by p count (items.Made made first) = Some (record { pool = p; made = count; handed = 0 })
made_by p count (items.Refused refusals.Stopped) = Some (record { pool = p; made = count; handed = 0 })
made_by p count _ = None

abbrev pub handed_by : Pool → Item → Option Change
handed_by p (items.Keys keys) = Some (record { pool = p; made = 0; handed = length keys })
handed_by p _ = None

abbrev pub change_of : Command → Item → Option Change
change_of (commands.Fill master slave bits count) item = made_by (pool_of master slave bits) count item
change_of (commands.Enc v master slave count bits) item = handed_by (pool_of master slave bits) item
change_of _ item = None

abbrev pub change_if : Option Command → Item → Option Change
change_if None item = None
change_if (Some command) item = change_of command item

-- ---- what tells of a pool: so many keys are ready, as if they were handed out

abbrev pub ready_in : Pool → Item → Option Change
ready_in p (items.Keys keys) = Some (record { pool = p; made = 0; handed = length keys })
ready_in p (items.Refused (refusals.Few ready)) = Some (record { pool = p; made = 0; handed = ready })
ready_in p (items.Ready ready) = Some (record { pool = p; made = 0; handed = ready })
ready_in p _ = None

-- A status tells of keys of 256 bits.
abbrev pub ready_of : Command → Item → Option Change
ready_of (commands.Enc v master slave count bits) item = ready_in (pool_of master slave bits) item
ready_of (commands.Status v master slave) item = ready_in (pool_of master slave 256) item
ready_of _ item = None

abbrev pub ready_if : Option Command → Item → Option Change
ready_if None item = None
ready_if (Some command) item = ready_of command item
