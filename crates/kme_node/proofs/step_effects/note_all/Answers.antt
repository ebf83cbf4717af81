use Rattle.std.proofs.Common.{◌+◌, drop, sym, ap, ◌∙◌}
use Rattle.net_model.specs.Window.{complete}
use Rattle.net_model.specs.World.{Volatile}
use Rattle.kme_keys.proofs.Behind.{at_index, past_all}
use Rattle.kme_node.proofs.Noted.{none_noted, one_noted}
use Rattle.kme_node.proofs.step_effects.note_all.Goals as goal

pub loop-placing-preserved : goal.loop-placing-preserved
loop-placing-preserved c =
    let acked = c.args.known.now.acked in
    let i = c.loop-placing.placing-index in
    let at = at_index c.args.placings.now i c.placing-item.result c.loop-placing-test.true c.placing-item.is in
    ap (λ (vol : Volatile). complete acked vol (drop (i + 1) c.args.placings.now)) c.note_one.ensures
    ∙ sym (one_noted acked c.loop-placing.window.volatile c.placing-item.result (drop (i + 1) c.args.placings.now))
    ∙ ap (complete acked c.loop-placing.window.volatile) (sym at) ∙ c.loop-placing.invariant

pub returns : goal.returns
returns c =
    let acked = c.args.known.now.acked in
    sym (none_noted acked c.loop-placing.window.volatile)
    ∙ ap (complete acked c.loop-placing.window.volatile) (sym (past_all c.args.placings.now c.loop-placing.placing-index c.loop-placing-test.false)) ∙ c.loop-placing.invariant
