use Rattle.std.proofs.Common.{◌≤◌, Some, sym, ap, ◌∙◌, subst}
use Rattle.serde_json.specs.Data.{Data, depth}
use Rattle.serde_json.specs.Read.{max_depth, read}
use Rattle.serde_json.specs.Written.{has_float, compact_text}
use Rattle.report_json.proofs.Plain.{no_float, not_deep}
use Rattle.report_json.proofs.text.object_text.Goals as goal

pub returns-clause-text : goal.returns-clause-text
returns-clause-text c =
    let is = c.in_ok-value.ensures in
    c.from_vec.ensures ∙ (c.in_ok-to_vec.ensures.text (ap has_float is ∙ no_float c.args.nodes.now c.args.round c.args.told.now) ∙ ap compact_text is)

pub returns-clause-read : goal.returns-clause-read
returns-clause-read c =
    let is = c.in_ok-value.ensures in
    ap read c.from_vec.ensures
    ∙ (c.in_ok-to_vec.ensures.reads_back (subst (λ (d : Data). depth d ≤ max_depth) (sym is) (not_deep c.args.nodes.now c.args.round c.args.told.now)) ∙ ap Some is)
