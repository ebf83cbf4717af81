use Rattle.std.proofs.Common.{ℕ, Option, ap, sym, ◌∙◌}
use Rattle.qkd_base.specs.Name.{Name}
use Rattle.whole_audit.specs.Handings.{sae_if, was_handed, fits_place}
use Rattle.whole_audit.proofs.handings.Handings.fits_refusal.Goals as goal

pub returns-in-Some : goal.returns-in-Some
returns-in-Some c s before handed =
    c.may_hold.ensures s before handed
    ∙ ap (λ (o : Option ℕ). fits_place (λ (n : Name). was_handed sae_if s before n c.args.sae) c.args.may_be c.args.names.now o) (sym c.in-Some.is ∙ c.handed_place.ensures)

pub returns-in-None : goal.returns-in-None
returns-in-None c s before handed =
    ap (λ (o : Option ℕ). fits_place (λ (n : Name). was_handed sae_if s before n c.args.sae) c.args.may_be c.args.names.now o) (sym c.in-None.is ∙ c.handed_place.ensures)
