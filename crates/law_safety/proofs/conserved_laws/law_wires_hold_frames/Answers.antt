use Rattle.law_safety.proofs.conserved_laws.law_wires_hold_frames.Goals as goal

pub returns : goal.returns
returns c = λ net w k l. (k.wired l).wired
