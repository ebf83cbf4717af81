use Rattle.std.proofs.Common.{◌≡◌, sym, ap, ◌∙◌, arith}
use Rattle.http_front.specs.Lines.{lines, after_blank}
use Rattle.http_front.proofs.Lines.{lines-short}
use Rattle.http_front.proofs.head.begins_field_33.Goals as goal

pub ends_line-requires : goal.ends_line-requires
ends_line-requires c =
    let count : lines (after_blank c.args.text.now) ≡ 33 = ap lines (sym c.after_blank.ensures) ∙ sym c.lines-count.ensures ∙ c.if-count-eq33.true in
    let short = lines-short c.args.text.now in
    omega (arith, count, short)
