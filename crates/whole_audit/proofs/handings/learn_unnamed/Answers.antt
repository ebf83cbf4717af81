use Rattle.std.proofs.Common.{ℕ, ◌||◌, List, ap, sym, ◌∙◌}
use Rattle.std.specs.Str.{bytes_eq}
use Rattle.ordered_set.specs.Entries.{has_entry}
use Rattle.run_audit.proofs.Recording.{on_ok_map}
use Rattle.whole_audit.proofs.Giving.{none_unnamed, some_unnamed}
use Rattle.whole_audit.proofs.handings.learn_unnamed.Goals as goal

pub returns-in-Some : goal.returns-in-Some
returns-in-Some c s told before is kept =
    on_ok_map c.insert.result (λ put. some_unnamed s c.args.set.now told before kept c.insert.new.self c.in-Some.node (sym c.in-Some.is ∙ is) (λ e. put e ∙ ap (λ (n : List ℕ). bytes_eq n e || has_entry c.args.set.now e) c.node_entry.ensures)) c.insert.ensures.ok

pub returns-in-None : goal.returns-in-None
returns-in-None c s told before is kept = none_unnamed s c.args.set.now told before kept (sym c.in-None.is ∙ is)
