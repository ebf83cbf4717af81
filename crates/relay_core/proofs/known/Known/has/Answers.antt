use Rattle.std.proofs.Common.{sym}
use Rattle.relay_core.specs.Index.{belongs}
use Rattle.relay_core.proofs.Firsts.{first_any, none_any}
use Rattle.relay_core.proofs.known.Known.has.Goals as goal

pub returns-in-Some : goal.returns-in-Some
returns-in-Some c = sym (first_any (belongs c.args.self.now.me c.args.self.now.acked c.args.group.now) c.args.self.now.facts c.in-Some.field-0 c.in-Some.ensures.first)

pub returns-in-None : goal.returns-in-None
returns-in-None c = sym (none_any (belongs c.args.self.now.me c.args.self.now.acked c.args.group.now) c.args.self.now.facts c.in-None.ensures.none)
