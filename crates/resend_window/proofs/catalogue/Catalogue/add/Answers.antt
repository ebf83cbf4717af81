use Rattle.resend_window.proofs.Catalogues.{catalogue_more}
use Rattle.resend_window.proofs.catalogue.Catalogue.add.Goals as goal

pub returns-else-not-insert-2 : goal.returns-else-not-insert-2
returns-else-not-insert-2 c keys size was whole =
    catalogue_more keys c.args.first.now c.args.second.now c.args.place c.args.self.now.entries c.insert.new.entries c.insert-2.new.entries (was whole) size (c.insert.ensures c.if-not-insert.false) (c.insert-2.ensures c.if-not-insert-2.false)
