use Rattle.std.proofs.Common.{◌≤◌, ◌∙◌, length, ap, sym, codes, arith}
use Rattle.std.specs.Str.{bytes_eq}
use Rattle.http_front.specs.Fields.{values_of}
use Rattle.http_front.specs.Front.{length_of_none}
use Rattle.http_front.proofs.Bodies.{framing-none}
use Rattle.http_front.proofs.framing.framing.Goals as goal

pub returns-in_default : goal.returns-in_default
returns-in_default c =
    let plain : length (values_of (codes "transfer-encoding") c.args.fields.now) ≤ 0 = omega (arith, c.if-count_named-gt0.false, c.count_named.ensures) in
    c.unsized_body.ensures
    ∙ ap (length_of_none (bytes_eq c.args.method.now (codes "POST"))) c.count_named-in_default.ensures
    ∙ framing-none c.args.method.now c.args.fields.now plain (sym c.in_default.ensures)
