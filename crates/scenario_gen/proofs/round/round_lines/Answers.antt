use Rattle.scenario_gen.proofs.Asked.{few_before}
use Rattle.scenario_gen.proofs.Growing.{four_lines}
use Rattle.scenario_gen.proofs.round.round_lines.Goals as goal

pub dec_line-requires-clause-few : goal.dec_line-requires-clause-few
dec_line-requires-clause-few c = rw c.names_before-before.ensures (few_before _ c.args.round c.requires)

pub returns : goal.returns
returns c =
    four_lines c.args.text.now c.fill_line.new.text c.settle_line.new.text c.enc_line.new.text c.dec_line.new.text _ _ _ _ (c.in_ok-fill_line.ensures {u = tt}) (c.in_ok-settle_line.ensures {u = tt}) (c.in_ok-enc_line.ensures {u = tt})
    (rw c.names_before-before.ensures at (c.in_ok-dec_line.ensures {u = tt}))
