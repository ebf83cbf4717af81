use Rattle.std.proofs.lemmas.Str.{is_utf8-from_IsUtf8}
use Rattle.report_json.proofs.Bodies.{not_utf8}
use Rattle.report_json.proofs.key_items.body.Goals as goal

pub returns-in-Ok : goal.returns-in-Ok
returns-in-Ok c = rw (is_utf8-from_IsUtf8 c.args.body.now c.in-Ok.ensures.cases.1) (rw c.in-Ok.ensures.cases.0 at c.says.ensures)

pub returns-in-Err : goal.returns-in-Err
returns-in-Err c = rw (not_utf8 c.args.body.now c.in-Err.ensures.cases.0) c.spells.ensures
