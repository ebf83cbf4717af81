-- Rule 12: keys and chunks are made as many as asked for, under names of the maker, or refused as they may be.
use Rattle.std.specs.Prelude.{ℕ, ◌==◌, Bool, true, false, not, ◌&&◌}
use Rattle.qkd_base.specs.Name.{Name, kind_number}
use Rattle.sae_entitlements.specs.Grants.{Grants}
use Rattle.run_types.specs.declared.command.Command.{Command}
use Rattle.run_types.specs.declared.command.Command.TheVariants as commands
use Rattle.run_types.specs.declared.refusal.Refusal.{Refusal}
use Rattle.run_types.specs.declared.refusal.Refusal.TheVariants as refusals
use Rattle.run_types.specs.declared.item.Item.{Item}
use Rattle.run_types.specs.declared.item.Item.TheVariants as items
use Rattle.run_audit.specs.Tellings.{is_entitled}
use Rattle.item_audit.specs.Entitled.{is_at_home, may_share}

-- A fill may be refused so. It is refused as not allowed exactly if one of its pairs is not, whatever else is wrong.
abbrev pub may_refuse_fill : (are_allowed : Bool) → Refusal → Bool
may_refuse_fill ok refusals.Down = true
may_refuse_fill ok refusals.NotAllowed = not ok
may_refuse_fill ok refusals.NoRoute = ok
may_refuse_fill ok refusals.PoolFull = ok
may_refuse_fill ok refusals.Memory = ok
may_refuse_fill ok (refusals.JournalFull length need) = ok
may_refuse_fill ok refusals.NoRandom = ok
may_refuse_fill ok refusals.Stopped = ok
may_refuse_fill ok _ = false

abbrev pub may_refuse_feed : Refusal → Bool
may_refuse_feed refusals.UnknownStream = true
may_refuse_feed refusals.NotAllowed = false
may_refuse_feed refusal = may_refuse_fill true refusal

-- So many were made as the line asks for, and the first has the name of a key.
abbrev pub are_made : (asked made : ℕ) → Name → Bool
are_made asked made first = (made == asked) && (kind_number first.kind == 0)

abbrev pub fills : Grants → (are_allowed : Bool) → (master count : ℕ) → Item → Bool
fills g ok master count (items.Made made first) = ok && are_made count made first && is_at_home g first.node master
fills g ok master count (items.Refused refusal) = may_refuse_fill ok refusal
fills g ok master count _ = true

abbrev pub feeds : (node count : ℕ) → Item → Bool
feeds v count (items.Made made first) = are_made count made first && (first.node == v)
feeds v count (items.Refused refusal) = may_refuse_feed refusal
feeds v count _ = true

abbrev pub makes : Grants → Command → Item → Bool
makes g (commands.Fill master slave bits count) item = fills g (is_entitled g master slave) master count item
makes g (commands.FillGroup master bits count slaves) item = fills g (may_share g master slaves) master count item
makes g (commands.Feed stream count) item = feeds stream.node count item
makes g _ item = true
