use Rattle.std.proofs.Common.{◌<◌, get_or, arith}
use Rattle.qkd_base.specs.LaneBytes.{lane_octets}
use Rattle.kme_journal.proofs.Near.{opens_near}
use Rattle.kme_journal.proofs.frame.open_frame.Goals as goal

pub returns-clause-near : goal.returns-clause-near
returns-clause-near c = opens_near c.args.lane (lane_octets c.args.lane.way c.args.held.now.blocks) c.args.frame.now c.open.result (λ i. let octet : get_or c.args.frame.now i 0 < 256 = omega (arith, c.type_inv.frame i) in octet) c.open.ensures
