use Rattle.resend_window.proofs.Listings.{catalogue_append}
use Rattle.resend_window.proofs.catalogue.Catalogue.append.Goals as goal

pub returns-else-not-insert : goal.returns-else-not-insert
returns-else-not-insert c keys size was whole = catalogue_append keys c.args.group.now c.args.place c.args.self.now.entries c.insert.new.entries (was whole) size (c.insert.ensures c.if-not-insert.false)
