use Rattle.std.proofs.Common.{◌∙◌, false, sym, ap}
use Rattle.run_http.specs.LineEnds.{opens_target}
use Rattle.run_http.proofs.Ends.{opens_is, is_opens}
use Rattle.run_http.proofs.target.ends_in_target.Goals as goal

pub returns : goal.returns
returns c =
    let is = c.opens_target.ensures ∙ ap (opens_target false) c.behind_line_ends.ensures in
    (λ yes. opens_is c.args.text.now (sym is ∙ yes), λ ends. is ∙ is_opens c.args.text.now ends)
