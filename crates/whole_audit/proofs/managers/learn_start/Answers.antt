use Rattle.std.proofs.Common.{◌≡◌, ℕ, ◌||◌, List, Some, ap, sym, ◌∙◌}
use Rattle.std.specs.Str.{bytes_eq}
use Rattle.ordered_set.specs.Entries.{has_entry}
use Rattle.run_audit.proofs.Recording.{on_ok_map}
use Rattle.whole_audit.specs.Managers.{start_of, said}
use Rattle.whole_audit.proofs.Managing.{start_said, no_start_said}
use Rattle.whole_audit.proofs.managers.learn_start.Goals as goal

pub returns-in-Some : goal.returns-in-Some
returns-in-Some c s told before is started =
    let start : Some c.in-Some.node ≡ start_of (said s told) = sym c.in-Some.is ∙ c.start_of.ensures ∙ ap start_of is in
    on_ok_map c.insert.result (λ put. start_said s c.args.started.now told before started c.insert.new.self c.in-Some.node start (λ e. put e ∙ ap (λ (n : List ℕ). bytes_eq n e || has_entry c.args.started.now e) c.node_entry.ensures)) c.insert.ensures.ok

pub returns-in-None : goal.returns-in-None
returns-in-None c s told before is started =
    no_start_said s c.args.started.now told before started (sym c.in-None.is ∙ c.start_of.ensures ∙ ap start_of is)
