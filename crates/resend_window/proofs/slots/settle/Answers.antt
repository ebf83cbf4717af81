use Rattle.std.proofs.Common.{◌≡◌, Option, sym, subst, ◌∙◌}
use Rattle.resend_window.specs.declared.held.Held.{Held}
use Rattle.resend_window.specs.Dues.{goes_at, AreAlike}
use Rattle.resend_window.proofs.slots.settle.Goals as goal

pub returns-in-None : goal.returns-in-None
returns-in-None c before alike was whole =
    let same = subst (λ (o : Option Held). AreAlike o before c.args.slots.now) c.in-None.is alike in
    record { has = λ l x. (was whole).has l x ∙ sym (same (goes_at l x)) }

pub returns-in-Some : goal.returns-in-Some
returns-in-Some c before alike was = c.settle_at.ensures before (subst (λ (o : Option Held). AreAlike o before c.args.slots.now) c.in-Some.is alike) was
