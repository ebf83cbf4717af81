use Rattle.std.proofs.Common.{◌≡◌, ◌+◌, ◌∷◌, [], subst}
use Rattle.std.specs.Prelude.{IfSome, IfNone}
use Rattle.resend_window.specs.Kept.{Kept, pending_from}
use Rattle.resend_window.proofs.window.Window.next_pending.Goals as goal

pub returns-clause-some : goal.returns-clause-some
returns-clause-some c =
    subst (λ (k : Kept). IfSome c.next.result (λ p. pending_from k c.args.lane c.args.from ≡ record { lane = c.args.lane; offset = p.offset; name = p.name } ∷ pending_from k c.args.lane (p.place + 1))) c.self.view_is c.next.ensures.some

pub returns-clause-none : goal.returns-clause-none
returns-clause-none c = subst (λ (k : Kept). IfNone c.next.result (pending_from k c.args.lane c.args.from ≡ [])) c.self.view_is c.next.ensures.none
