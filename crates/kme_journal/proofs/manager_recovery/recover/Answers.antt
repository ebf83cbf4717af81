use Rattle.std.proofs.Common.{◌≡◌, Bool, false, IsTrue, refl, sym, ap, subst, ◌∙◌, Err}
use Rattle.declared_site.specs.SiteOf.{site_of}
use Rattle.kme_journal.specs.declared.refusal.RecoverRefusal.{RecoverRefusal}
use Rattle.kme_journal.specs.Recovery.{Leaves, Refuses, is_stop}
use Rattle.kme_journal.proofs.Started.{all_moments, calm_on, left_on, left_unopened, one_kind_after, one_kind_unopened, opening_moments, recovered_as, refused_as, refused_on, unopened_calm}
use Rattle.kme_journal.proofs.manager_recovery.recover.Goals as goal

pub returns-in-Err-clause-reads : goal.returns-in-Err-clause-reads
returns-in-Err-clause-reads g c =
    let d = g.K.Disk in
    let old = c.args.disk in
    let new = c.in-Err.disk in
    let read = c.in-Err.ensures.reads.0 in
    let o = c.in-Err.ensures.reads.1 in
    let refused = refused_as (d.is_honest old) read (d.faults old) (d.faults new) c.in-Err.refusal o.refused in
    let left = left_unopened (d.is_honest old) d.moment d.image read old new (d.faults old) (d.faults new) c.in-Err.refusal o.refused c.in-Err.ensures.leaves in (
      read,
      o.was,
      tt,
      subst (λ (w : RecoverRefusal). Refuses (d.is_honest old) read (d.faults old) (d.faults new) w) (sym c.why.ensures) refused,
      opening_moments (d.is_honest old) d.moment d.image (site_of c.args.site.now) c.args.me old new (Err (c.why.result, new)) read o.moments,
      subst (λ (w : RecoverRefusal). Leaves (d.is_honest old) d.moment d.image read old w new) (sym c.why.ensures) left,
      λ h. one_kind_unopened (site_of c.args.site.now) c.args.me (Err (c.why.result, new)) read (d.image old (d.moment old)) (d.image new (d.moment new)) (o.last h),
    )

pub returns-in-Ok-clause-reads : goal.returns-in-Ok-clause-reads
returns-in-Ok-clause-reads g c =
    let d = g.K.Disk in
    let disk = c.args.disk in
    let site = site_of c.args.site.now in
    let old = c.in-Ok.journal in
    let read = c.in-Ok.ensures.reads.0 in
    let o = c.in-Ok.ensures.reads.1 in
    let opened = o.opened.1 in
    let e = c.go_on.ensures in (
      read,
      o.was,
      recovered_as (d.is_honest disk) d.faults read site c.args.me old opened c.go_on.result e.back e.left,
      refused_on (d.is_honest disk) d.faults read site c.args.me old opened (d.faults disk) c.in-Ok.ensures.later c.go_on.result e.refused,
      all_moments (d.is_honest disk) d.moment d.image site c.args.me disk old c.go_on.result read (d.is_honest old.disk) c.in-Ok.ensures.honest opened o.moments e.moments,
      left_on (d.is_honest disk) d.moment d.image read disk d.faults old (d.content old.disk) opened
          (λ h. c.in-Ok.ensures.kept (subst (λ (b : Bool). IsTrue b) (sym c.in-Ok.ensures.honest) h)) c.go_on.result e.refused,
      one_kind_after (d.is_honest disk) (d.is_honest old.disk) d.moment d.image site c.args.me old c.go_on.result read (d.image disk (d.moment disk)) c.in-Ok.ensures.honest opened e.moments,
    )

pub returns-in-Err-clause-calm : goal.returns-in-Err-clause-calm
returns-in-Err-clause-calm g c = λ other. c.in-Err.ensures.calm (unopened_calm c.in-Err.refusal (ap is_stop (sym c.why.ensures) ∙ other))

pub returns-in-Ok-clause-calm : goal.returns-in-Ok-clause-calm
returns-in-Ok-clause-calm g c =
    let d = g.K.Disk in
    let e = c.go_on.ensures in
    calm_on d.faults (d.faults c.args.disk) c.in-Ok.journal (c.in-Ok.ensures.calm refl) c.go_on.result e.calm e.refused
