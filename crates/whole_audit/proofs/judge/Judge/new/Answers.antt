use Rattle.whole_audit.proofs.judge.Judge.new.Goals as goal

pub returns : goal.returns
returns c = record { walk = c.new.ensures c.args.scenario.now; tables = c.in_ok-new.ensures {u = tt} }
