use Rattle.std.proofs.Common.{refl, sym}
use Rattle.kme_facts.proofs.Settling.{need_in}
use Rattle.kme_facts.proofs.wiped_bytes.let_go_at.Goals as goal

pub let_go_unless-requires : goal.let_go_unless-requires
let_go_unless-requires c =
    sym (need_in c.args.streams.now c.ends-then-has_bytes_at.result.now c.args.place c.needs_at-needed.result c.needs_at-needed.result c.ends-then-has_bytes_at.ensures c.needs_at-needed.ensures refl)
