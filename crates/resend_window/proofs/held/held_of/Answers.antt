use Rattle.std.proofs.Common.{◌≡◌, ◌<◌, ◌≤◌, ◌^◌, ◌⊎◌, inl, inr, ℕ, arith, sym, subst}
use Rattle.resend_window.proofs.Frames.{entry_new, frame_kept, held_new}
use Rattle.resend_window.proofs.held.held_of.Goals as goal
use Rattle.resend_window.proofs.held.held_of.Goals.{then-placing-le600, else-placing-le600}

pub returns-clause-entry : goal.returns-clause-entry
returns-clause-entry c =
    entry_new c.args.placing.now c.offset_of.result c.args.tick c.is_none.result c.if-placing-le600.length c.cleaned.result c.offset_of.ensures.value c.is_none.ensures
    (frame_kept c.args.placing.now.frame.octets c.args.placing.now.length c.if-placing-le600.length c.cleaned.result.octets c.cleaned.ensures.room c.cleaned.ensures.octets
    (elim c.if-placing-le600.branch [ then-placing-le600 w ↦ inl (w.length-is, omega arith) | else-placing-le600 w ↦ inr (w.length-is, omega arith) ]))

pub returns-clause-held : goal.returns-clause-held
returns-clause-held c =
    held_new c.args.placing.now c.offset_of.result c.args.tick c.is_none.result c.if-placing-le600.length c.cleaned.result c.cleaned.ensures.room c.cleaned.ensures.octets
    (elim c.if-placing-le600.branch [ then-placing-le600 w ↦ omega arith | else-placing-le600 w ↦ omega arith ]) (subst (λ (x : ℕ). x < 2 ^ 64) (sym c.offset_of.ensures.value) c.offset_of.ensures.fits)
