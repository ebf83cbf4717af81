use Rattle.resend_window.proofs.Catalogues.{catalogue_join}
use Rattle.resend_window.proofs.catalogue.Catalogue.join.Goals as goal

pub returns-else-not-insert : goal.returns-else-not-insert
returns-else-not-insert c keys within was whole = catalogue_join keys c.args.group.now c.args.place c.args.self.now.entries c.insert.new.entries (was whole) within (c.insert.ensures c.if-not-insert.false)
