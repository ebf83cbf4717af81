use Rattle.std.proofs.Common.{◌≡◌, List, ◌++◌, drop}
use Rattle.net_model.specs.World.{Network, World}
use Rattle.run_model.specs.Turn.{HttpTexts}
use Rattle.run_model.specs.Report.{Task, starts_from}
use Rattle.run_model.specs.Headline.{Given}
use Rattle.run_ops.specs.Acting.{IsReady}
use Rattle.run_tasks.specs.Counting.{no_keys}
use Rattle.run_tasks.specs.Leading.{Went}
use Rattle.run_tasks.proofs.load.begin_all.Given as goal

abbrev pub invariant-loop-place : goal.invariant-loop-place
invariant-loop-place g l =
    let sited = g.S.Acts.site l.fn.net in
    record {
      site : g.S.Acts.site l.net ≡ sited;
      armed : g.S.Acts.armed l.net ≡ g.S.Acts.armed l.fn.net;
      went : (http : HttpTexts) (n : Network) (w : World) (last : List Task) (taken : Given) → IsReady g.S.Acts.stands l.fn.net n w → (after : World)
          × Went g.S.Acts.stands g.S.Acts.tallied sited.nodes l.fn.net l.net taken taken http n w
          (starts_from 0 l.node_lines ++ last) after (starts_from l.place (drop l.place l.node_lines) ++ last) no_keys;
    }
