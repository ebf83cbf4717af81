use Rattle.std.proofs.Common.{◌≡◌, true, false, None, length, eqb, refl, sym, ◌∙◌}
use Rattle.run_audit.specs.declared.subject.Subject.TheVariants.{Key}
use Rattle.run_audit.specs.Kept.{told_of}
use Rattle.run_audit.proofs.Telling.{one_fit}
use Rattle.run_audit.proofs.tellings.Told.take_shown.Goals as goal

pub returns-then-is_empty : goal.returns-then-is_empty
returns-then-is_empty c ts told =
    let none : eqb (length c.args.bytes.now) 0 ≡ true = sym c.is_empty.ensures ∙ c.if-is_empty.true in
    rw none (refl, λ e. told)

pub returns : goal.returns
returns c ts told =
    let some : eqb (length c.args.bytes.now) 0 ≡ false = sym c.is_empty.ensures ∙ c.if-is_empty.false in
    rw some (one_fit c.take.result c.args.grants.now ts (told_of (Key c.args.name.now) c.args.bytes.now None None) (told_of (Key c.args.name.now) c.args.bytes.now None None) c.take.new.self refl (c.take.ensures ts told))
