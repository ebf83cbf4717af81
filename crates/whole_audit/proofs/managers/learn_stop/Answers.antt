use Rattle.std.proofs.Common.{◌≡◌, ℕ, ◌||◌, List, Some, ap, sym, ◌∙◌}
use Rattle.std.specs.Str.{bytes_eq}
use Rattle.ordered_set.specs.Entries.{has_entry}
use Rattle.run_audit.proofs.Recording.{on_ok_map}
use Rattle.whole_audit.specs.Managers.{is_crash, stop_of, said}
use Rattle.whole_audit.proofs.Managing.{stop_said, no_stop_said}
use Rattle.whole_audit.proofs.managers.learn_stop.Goals as goal

pub returns-in-Some : goal.returns-in-Some
returns-in-Some c s told before item is stopped =
    let stop : Some c.in-Some.node ≡ stop_of (is_crash told.item) (said s told) =
    sym c.in-Some.is
    ∙ c.stop_of.ensures
    ∙ ap (λ b. stop_of b c.args.word.now) (c.is_crash.ensures ∙ ap is_crash (sym item))
    ∙ ap (stop_of (is_crash told.item)) is in
    on_ok_map c.insert.result (λ put. stop_said s c.args.stopped.now told before stopped c.insert.new.self c.in-Some.node stop (λ e. put e ∙ ap (λ (n : List ℕ). bytes_eq n e || has_entry c.args.stopped.now e) c.node_entry.ensures)) c.insert.ensures.ok

pub returns-in-None : goal.returns-in-None
returns-in-None c s told before item is stopped =
    no_stop_said s c.args.stopped.now told before stopped
    (sym c.in-None.is ∙ c.stop_of.ensures ∙ ap (λ b. stop_of b c.args.word.now) (c.is_crash.ensures ∙ ap is_crash (sym item)) ∙ ap (stop_of (is_crash told.item)) is)
