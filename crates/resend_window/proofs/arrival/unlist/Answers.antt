use Rattle.std.proofs.Common.{◌≡◌, ap, sym, ◌∙◌}
use Rattle.resend_window.specs.Groups.{arrival_groups}
use Rattle.resend_window.proofs.Catalogues.{catalogue_same}
use Rattle.resend_window.proofs.arrival.unlist.Goals as goal

pub returns-in-None : goal.returns-in-None
returns-in-None c keys there was whole = catalogue_same keys c.args.place c.args.index.now.entries (was whole) (there ∙ ap arrival_groups c.in-None.is)
