use Rattle.std.proofs.Common.{◌+◌, refl, sym}
use Rattle.std.proofs.lemmas.List.{take_rest}
use Rattle.audit_text.proofs.Cuts.{cut_there, not_cut}
use Rattle.audit_text.proofs.lines.split_line.Goals as goal

pub returns-in-Some : goal.returns-in-Some
returns-in-Some c = cut_there c.args.text.now _ _ c.in-Some.size (sym c.in-Some.ensures) refl (take_rest c.args.text.now (c.in-Some.size + 1))

pub returns-in-None : goal.returns-in-None
returns-in-None c = not_cut c.args.text.now (sym c.in-None.ensures)
