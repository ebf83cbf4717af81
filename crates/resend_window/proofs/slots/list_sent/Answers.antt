use Rattle.std.proofs.Common.{◌≡◌, ◌++◌, List, ℕ, Option, ap, sym, refl, subst}
use Rattle.std.specs.Prelude.{slice_set}
use Rattle.resend_window.specs.Catalogued.{groups_at, Catalogues}
use Rattle.resend_window.specs.Groups.{sent_groups}
use Rattle.resend_window.proofs.Catalogues.{catalogue_kept}
use Rattle.resend_window.proofs.slots.list_sent.Goals as goal

pub returns-in-Some : goal.returns-in-Some
returns-in-Some c keys within was whole =
    catalogue_kept keys c.args.place (sent_groups c.args.ack_of c.args.sent ++ groups_at keys c.args.place) c.args.index.now.entries (was whole)
    (ap (λ (o : Option ℕ). sent_groups o c.args.sent ++ groups_at keys c.args.place) (sym c.in-Some.is))
