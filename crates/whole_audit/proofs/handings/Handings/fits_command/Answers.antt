use Rattle.std.proofs.Common.{Bool, List, ap, sym, ◌∙◌}
use Rattle.qkd_base.specs.Name.{Name}
use Rattle.run_types.specs.declared.command.Command.{Command}
use Rattle.whole_audit.specs.Handings.{sae_if, was_handed, may_hand, fits_refusal, refuses_handed_by}
use Rattle.whole_audit.proofs.handings.Handings.fits_command.Goals as goal

pub returns-in-Dec : goal.returns-in-Dec
returns-in-Dec c s before stopped kept =
    let was : Name → Bool = λ n. was_handed sae_if s before n c.in-Dec.slave in
    c.fits_refusal.ensures s before kept.to
    ∙ ap (λ (b : Bool). fits_refusal was b c.as_slice.result.now c.args.item.now) (c.may_hand.ensures s before stopped kept.unnamed)
    ∙ ap (λ (names : List Name). fits_refusal was (may_hand s c.in-Dec.node before) names c.args.item.now) c.as_slice.ensures
    ∙ ap (λ (command : Command). refuses_handed_by s before command c.args.item.now) (sym c.in-Dec.is)
