use Rattle.std.proofs.Common.{◌≡◌, ◌++◌, List, ℕ, Option, ap, sym, ◌∙◌}
use Rattle.resend_window.specs.Groups.{sent_groups}
use Rattle.resend_window.proofs.Catalogues.{catalogue_kept}
use Rattle.resend_window.proofs.slots.unlist_sent.Goals as goal

pub returns-in-Some : goal.returns-in-Some
returns-in-Some c keys rest there apart was whole =
    catalogue_kept keys c.args.place rest c.args.index.now.entries (was whole) (there ∙ ap (λ (o : Option ℕ). sent_groups o c.args.sent ++ rest) c.in-Some.is)
