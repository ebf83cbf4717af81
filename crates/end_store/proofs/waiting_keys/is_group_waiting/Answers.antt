use Rattle.std.proofs.Common.{ℕ, Some, None, ◌&&◌, ◌^◌, if◌then◌else◌, ◌∙◌, ap}
use Rattle.std.specs.Prelude.{nat_le, nat_lt}
use Rattle.end_store.specs.Waiting.{own}
use Rattle.end_store.proofs.Lines.{no_group}
use Rattle.end_store.proofs.waiting_keys.is_group_waiting.Goals as goal

pub returns-in-None : goal.returns-in-None
returns-in-None c =
    no_group c.args.handed.now.pairs c.args.pool.now c.args.known.now.facts c.args.known.now.me c.args.count c.last_count-holds.result c.new.result c.last_count-holds.ensures.count
    c.last_count-holds.ensures.bound c.requires c.in-None.is
    (c.new.ensures ∙ ap (λ (me : ℕ). if nat_le 1 c.args.count && nat_lt c.args.count (2 ^ 48) then Some (own me c.args.count) else None) c.me.ensures)
