use Rattle.declared_site.specs.SiteOf.{site_of}
use Rattle.net_model.specs.View.{View}
use Rattle.kme_node.specs.Holdings.{view}
use Rattle.kme_journal.proofs.Whole.{bodies_need}
use Rattle.kme_journal.specs.Recovery.{GivesBack}
use Rattle.kme_journal.proofs.Started.{back_as, left_as, put_moments, stopped_moments, told_after, untouched_by}
use Rattle.kme_journal.proofs.manager_recovery.go_on.Goals as goal

pub returns-in-Err-put_due-clause-moments : goal.returns-in-Err-put_due-clause-moments
returns-in-Err-put_due-clause-moments g c =
    let d = g.K.Disk in
    let old = c.args.journal in
    let v : View = view c.in-Ok.node in
    let back : GivesBack (site_of c.args.site.now) c.args.me old v =
    back_as (site_of c.args.site.now) c.args.me old v c.version.result c.batches.result.now c.version.ensures c.batches.ensures c.in-Ok.ensures.read in
    stopped_moments (d.is_honest old.disk) d.moment d.image (site_of c.args.site.now) c.args.me old v (d.content old.disk) _ back c.stands.ensures c.in-Err-put_due.refusal.0 c.in-Err-put_due.refusal.1 c.in-Err-put_due.ensures.refused
    c.in-Err-put_due.ensures.moments

pub returns-in-Ok-put_due-clause-left : goal.returns-in-Ok-put_due-clause-left
returns-in-Ok-put_due-clause-left g c =
    let v : View = view c.in-Ok.node in
    left_as c.args.journal c.in-Ok-put_due.journal v (bodies_need v) c.in-Ok-put_due.ensures.put

pub returns-in-Ok-put_due-clause-told : goal.returns-in-Ok-put_due-clause-told
returns-in-Ok-put_due-clause-told g c =
    let old = c.args.journal in
    let v : View = view c.in-Ok.node in
    let back : GivesBack (site_of c.args.site.now) c.args.me old v =
    back_as (site_of c.args.site.now) c.args.me old v c.version.result c.batches.result.now c.version.ensures c.batches.ensures c.in-Ok.ensures.read in
    told_after (site_of c.args.site.now) c.args.me old c.in-Ok-put_due.journal v _ back c.in-Ok-put_due.ensures.put c.in-Ok-put_due.ensures.spelled

pub returns-in-Err-clause-moments : goal.returns-in-Err-clause-moments
returns-in-Err-clause-moments g c =
    let d = g.K.Disk in
    let old = c.args.journal in
    untouched_by (d.is_honest old.disk) d.moment d.image old (d.content old.disk) (site_of c.args.site.now) c.args.me c.stands.ensures _ c.into_disk.result c.into_disk.ensures.disk

pub returns-in-Ok-put_due-clause-moments : goal.returns-in-Ok-put_due-clause-moments
returns-in-Ok-put_due-clause-moments g c =
    let d = g.K.Disk in
    let old = c.args.journal in
    let v : View = view c.in-Ok.node in
    let back : GivesBack (site_of c.args.site.now) c.args.me old v =
    back_as (site_of c.args.site.now) c.args.me old v c.version.result c.batches.result.now c.version.ensures c.batches.ensures c.in-Ok.ensures.read in
    put_moments (d.is_honest old.disk) d.moment d.image (site_of c.args.site.now) c.args.me old v back c.in-Ok-put_due.journal.disk c.in-Ok-put_due.ensures.moments
