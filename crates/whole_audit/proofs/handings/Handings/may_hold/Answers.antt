use Rattle.std.proofs.Common.{◌||◌, Bool, ap, sym, ◌∙◌}
use Rattle.std.specs.Prelude.{slice_get}
use Rattle.qkd_base.specs.Name.{Name}
use Rattle.whole_audit.specs.Handings.{sae_if, was_handed, holds_at}
use Rattle.whole_audit.proofs.handings.Handings.may_hold.Goals as goal

pub returns-else-may_be : goal.returns-else-may_be
returns-else-may_be c s before handed =
    c.holds_at.ensures s before handed
    ∙ sym (ap (λ (b : Bool). b || holds_at (λ (n : Name). was_handed sae_if s before n c.args.sae) (slice_get c.args.names.now c.args.place)) c.if-may_be.false)
