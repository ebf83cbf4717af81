use Rattle.std.proofs.Common.{ℕ, ap, ◌∙◌}
use Rattle.std.specs.List.{between, list_any}
use Rattle.pad_veil.proofs.Spans.{is_it, met}
use Rattle.pad_veil.proofs.faults.is_met.Goals as goal

pub returns : goal.returns
returns c = λ earlier marks inside.
    c.is_any.ensures ∙ ap (λ (n : ℕ). list_any is_it (between n c.ends-start.result.1 c.args.spent.now)) c.ends-start.ensures.start
    ∙ ap (λ (n : ℕ). list_any is_it (between c.args.frame.now.offset n c.args.spent.now)) c.ends-start.ensures.end
    ∙ met c.args.frame.now earlier c.args.spent.now c.requires marks inside
