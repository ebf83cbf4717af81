use Rattle.resend_window.proofs.Catalogues.{catalogue_less}
use Rattle.resend_window.proofs.catalogue.Catalogue.remove.Goals as goal

pub returns : goal.returns
returns c keys there was whole =
    catalogue_less keys c.args.first.now c.args.second.now c.args.place c.args.self.now.entries c.take_out.new.entries c.take_out-2.new.entries (was whole) there c.take_out.ensures c.take_out-2.ensures
