use Rattle.resend_window.proofs.Catalogues.{catalogue_leave}
use Rattle.resend_window.proofs.catalogue.Catalogue.leave.Goals as goal

pub returns : goal.returns
returns c keys rest there apart was whole = catalogue_leave keys c.args.group.now rest c.args.place c.args.self.now.entries c.take_out.new.entries (was whole) there apart c.take_out.ensures
