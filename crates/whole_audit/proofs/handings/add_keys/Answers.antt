use Rattle.std.proofs.Common.{ℕ, ◌||◌, List, eqb, ap, ◌∙◌, arith}
use Rattle.std.specs.Str.{bytes_eq}
use Rattle.ordered_set.specs.Entries.{has_entry}
use Rattle.whole_audit.specs.Kept.{key_entry}
use Rattle.whole_audit.proofs.Giving.{key_added, no_key_left}
use Rattle.whole_audit.proofs.handings.add_keys.Goals as goal

pub loop-key-preserved : goal.loop-key-preserved
loop-key-preserved c n there =
    key_added c.loop-key.set c.insert.new.self c.args.keys.now c.loop-key.key-index c.args.place c.key-item.result (omega arith) c.key-item.is
    (λ e. c.in_ok-insert.ensures.ok e ∙ ap (λ (n : List ℕ). bytes_eq n e || has_entry c.loop-key.set e) c.key_entry.ensures)
    n there
    ∙ c.loop-key.invariant n there

pub returns : goal.returns
returns c n there =
    no_key_left c.args.keys.now c.loop-key.key-index (eqb c.args.place there) (has_entry c.loop-key.set (key_entry n there)) n (omega arith)
    ∙ c.loop-key.invariant n there
