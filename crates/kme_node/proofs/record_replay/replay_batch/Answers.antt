use Rattle.std.proofs.Common.{List, ◌+◌, drop, sym, ap, ◌∙◌, subst}
use Rattle.net_model.specs.declared.record.Record.{Record}
use Rattle.kme_keys.proofs.Behind.{at_index, past_all}
use Rattle.kme_node.specs.Ports.{ports_after}
use Rattle.kme_node.specs.Replayed.{AreWhole}
use Rattle.kme_node.proofs.Ends.{lanes_of, lanes_by}
use Rattle.kme_node.proofs.record_replay.replay_batch.Goals as goal

pub replay_record-requires : goal.replay_record-requires
replay_record-requires c =
    let at = at_index c.args.batch.now c.loop-change.change-index c.change-item.result c.loop-change-test.true c.change-item.is in
    record { whole = (subst AreWhole at c.loop-change.invariant.whole).0 }

pub loop-change-preserved : goal.loop-change-preserved
loop-change-preserved c =
    let i = c.loop-change.change-index in
    let rest = drop (i + 1) c.args.batch.now in
    let at = at_index c.args.batch.now i c.change-item.result c.loop-change-test.true c.change-item.is in
    let ports = c.in_ok-replay_record.ensures.ok in
    record {
      whole = (subst AreWhole at c.loop-change.invariant.whole).1;
      lanes = ap lanes_of ports ∙ lanes_by c.change-item.result c.loop-change.ports.ports ∙ c.loop-change.invariant.lanes;
      taken = ap (ports_after rest) ports ∙ ap (λ (rs : List Record). ports_after rs c.loop-change.ports.ports) (sym at) ∙ c.loop-change.invariant.taken;
    }

pub returns-in_err-replay_record-clause-lanes : goal.returns-in_err-replay_record-clause-lanes
returns-in_err-replay_record-clause-lanes c = ap lanes_of c.in_err-replay_record.ensures.err ∙ c.loop-change.invariant.lanes

pub returns-clause-ok : goal.returns-clause-ok
returns-clause-ok c =
    ap (λ (rs : List Record). ports_after rs c.loop-change.ports.ports) (sym (past_all c.args.batch.now c.loop-change.change-index c.loop-change-test.false)) ∙ c.loop-change.invariant.taken
