use Rattle.std.proofs.Common.{ℕ, Some, None, ◌&&◌, ◌^◌, if◌then◌else◌, ◌∙◌, ap}
use Rattle.std.specs.Prelude.{nat_le, nat_lt}
use Rattle.end_store.specs.Waiting.{own}
use Rattle.end_store.proofs.Lines.{none_of}
use Rattle.end_store.proofs.waiting_keys.is_key_waiting.Goals as goal

pub returns-in-None : goal.returns-in-None
returns-in-None c =
    none_of c.args.handed.now.pairs c.args.pool.now c.args.known.now.facts c.args.known.now.me c.args.count c.new.result c.last_count-holds.ensures.named c.requires c.in-None.is
    (c.new.ensures ∙ ap (λ (me : ℕ). if nat_le 1 c.args.count && nat_lt c.args.count (2 ^ 48) then Some (own me c.args.count) else None) c.me.ensures)
