use Rattle.std.proofs.Common.{sym, ap, subst, ◌∙◌, arith}
use Rattle.declared_site.specs.SiteOf.{site_of}
use Rattle.net_model.specs.View.{View}
use Rattle.net_model.specs.Fold.{recovered_view, view_batches, view_restarted}
use Rattle.kme_journal.specs.Spelled.{version_named}
use Rattle.kme_journal.specs.Formed.{IsFormed}
use Rattle.kme_journal.proofs.Formed.{recovered_formed}
use Rattle.kme_journal.proofs.Gates.{fewer}
use Rattle.kme_journal.proofs.journal_reader.read_back.Goals as goal

pub gate_behind-requires : goal.gate_behind-requires
gate_behind-requires c = omega (arith, fewer c.args.batches.now c.in-Err-NotARecord-default.place, c.requires.short)

pub returns-clause-read : goal.returns-clause-read
unfolding recovered_view
returns-clause-read c =
    let taken = c.in-Ok-replay.ensures.taken in (
      taken.0,
      taken.1,
      c.restart.ensures.view ∙ ap view_restarted (taken.2 ∙ ap (λ (u : View). view_batches u taken.0) c.in-Ok.ensures.view),
    )

pub returns-clause-formed : goal.returns-clause-formed
returns-clause-formed c =
    let read = returns-clause-read c in
    subst IsFormed (sym read.2) (recovered_formed (site_of c.args.site.now) c.args.me (version_named c.args.version) read.0 read.1.each)
