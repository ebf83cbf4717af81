use Rattle.std.proofs.Common.{ℕ, List, ap, ◌∙◌}
use Rattle.std.specs.Prelude.{codes}
use Rattle.item_audit.specs.Responses.{is_told_between}
use Rattle.item_audit.proofs.responses.is_message.Goals as goal

pub returns : goal.returns
returns c =
    c.is_told_between.ensures
    ∙ ap (λ (head : List ℕ). is_told_between c.args.status head c.as_slice-2.result.now c.args.body.now) c.as_slice.ensures
    ∙ ap (λ (tail : List ℕ). is_told_between c.args.status (codes "{\"message\":\"") tail c.args.body.now) c.as_slice-2.ensures
