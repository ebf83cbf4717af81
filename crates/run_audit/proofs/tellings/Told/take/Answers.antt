use Rattle.std.proofs.Common.{◌≡◌, true, false, sym, ◌∙◌}
use Rattle.std.specs.List.{list_all}
use Rattle.std.proofs.lemmas.Bool.{and_parts}
use Rattle.run_audit.specs.Tellings.{Telling, fits_with, may_have, fits}
use Rattle.run_audit.specs.Kept.{told_of}
use Rattle.run_audit.proofs.Telling.{fits_kept}
use Rattle.run_audit.proofs.tellings.Told.take.Goals as goal

pub returns-then-not-fits : goal.returns-then-not-fits
returns-then-not-fits c ts told =
    let t : Telling = told_of c.args.subject.now c.args.bytes.now c.args.caller.now c.args.master.now in
    (sym c.if-not-fits.true ∙ c.fits.ensures ∙ fits_kept c.args.self.now c.args.grants.now t ts told, λ e. absurd (let u : ⊥ = cc in u))

pub returns : goal.returns
returns c ts told =
    let t : Telling = told_of c.args.subject.now c.args.bytes.now c.args.caller.now c.args.master.now in
    let fit : true ≡ fits c.args.grants.now ts t = sym c.if-not-fits.false ∙ c.fits.ensures ∙ fits_kept c.args.self.now c.args.grants.now t ts told in
    (fit, λ e. c.in_ok-keep.ensures {u = tt} ts told (and_parts (list_all (fits_with t) ts) (may_have c.args.grants.now t.caller t.master) (sym fit)).0)
