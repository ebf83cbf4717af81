use Rattle.std.proofs.Common.{Ok, Err, refl}
use Rattle.kme_node.specs.Holdings.{view}
use Rattle.kme_store.proofs.StartTold.{told_by}
use Rattle.kme_store.proofs.disk_start.recover.Goals as goal

pub new-requires : goal.new-requires
new-requires g c =
    let back = c.in-Ok.field-0 in
    record { told = told_by c.args.site.now back.node.site c.args.me (view back.node) back.journal c.in-Ok.ensures.site c.in-Ok.ensures.told }

pub returns-in-Err : goal.returns-in-Err
returns-in-Err g c =
    let e = c.in-Err.ensures in (
      Err (c.in-Err.refusal, c.in-Err.disk),
      refl,
      record {
        at = tt;
        read = e.reads.0;
        was = e.reads.1;
        recovered = tt;
        refused = e.reads.3;
        moments = e.reads.4;
        leaves = e.reads.5;
        last = e.reads.6;
        told = tt;
        kept = tt;
        later = e.later;
        calm = e.calm;
        honest = e.honest;
        arms = e.armings;
        used = e.used;
      },
    )

pub returns-in-Ok : goal.returns-in-Ok
returns-in-Ok g c =
    let e = c.in-Ok.ensures in (
      Ok c.in-Ok.field-0,
      c.new.ensures,
      record {
        at = e.site;
        read = e.reads.0;
        was = e.reads.1;
        recovered = e.reads.2;
        refused = tt;
        moments = e.reads.4;
        leaves = tt;
        last = tt;
        told = e.told;
        kept = e.kept;
        later = e.later;
        calm = e.calm;
        honest = e.honest;
        arms = e.armings;
        used = tt;
      },
    )
