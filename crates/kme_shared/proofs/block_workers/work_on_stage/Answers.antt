use denote.Exit.{no}
use denote.Param.{param}
use denote.Param.Send.{param_send, param_sync, arg_send, arg_sync}
use Rattle.std.proofs.Common.{◌≡◌, ◌++◌, length, map, refl, sym, ap, ◌∙◌, arith}
use Rattle.shared_objects.proofs.Lasts.{same_vec}
use Rattle.world_state.specs.Armed.{most_armed}
use Rattle.kme_shared.specs.Seats.{lefts, rights}
use Rattle.kme_shared.proofs.Dealt.{few_nodes}
use Rattle.kme_shared.proofs.Whole.{has_worked, has_armed}
use Rattle.kme_shared.proofs.BlockReplies.{all_replies}
use Rattle.kme_shared.proofs.Seated.{are_seated, still_many, still_many_lanes, still_posts, still_lanes}
use Rattle.kme_shared.proofs.Sent.{seat_send, errands_sync}
use Rattle.kme_shared.proofs.WholeBlock.{few_calls, entries, below, no_replies, may_work, did_work, as_many, went_through}
use Rattle.kme_shared.proofs.block_workers.work_on_stage.Goals as goal
use Rattle.world_state.specs.Outside.{outside}

pub work_scripts-requires-send-M : goal.work_scripts-requires-send-M
work_scripts-requires-send-M g c κs within = param_send 2 _ (arg_send _ no _ (seat_send _ (param 2 g.row.K) (param 3 g.row.Q) (param 4 g.row.E) (param 5 g.row.X) g.K.Disk g.Q.Device g.E.Entropy g.X.Wire c.type_bounds.send-K c.type_bounds.send-E c.type_bounds.send-X))

pub work_scripts-requires-clause-calls : goal.work_scripts-requires-clause-calls
work_scripts-requires-clause-calls g c κs within = few_calls (length c.args.work.keeps.items) (length c.args.work.jobs.now) c.requires.few c.requires.jobs

pub work_scripts-requires-clause-may : goal.work_scripts-requires-clause-may
work_scripts-requires-clause-may g c κs within =
    let a = c.requires.ready in
    let first : c.len-first.result ≡ length c.args.opening.value.posts.items = c.len-first.ensures ∙ c.args.posts.now.ok.0 ∙ ap (λ ps. length ps) c.requires.posts in
    λ w keep at.
    may_work (outside g.K.Disk g.Q.Device g.E.Entropy g.X.Wire) c.args.opening.value (length c.args.work.keeps.items) c.args.work.jobs.now c.args.work.keeps.items c.requires.shifts refl c.args.stage.shares.now c.requires.fresh (λ d. d.opening.value) (λ d. d.node) (λ d. d.shares.now) (λ d. d.side) (λ d. d.shares.now)
    c.len-first.result first c.sit-machines.result.items (are_seated (λ d. d.opening.value) (λ d. d.node) (λ d. d.up) (λ d. d.post) (λ d. d.shares.now) (λ d. d.side) (λ d. d.shares.now) c.args.opening.value c.args.stage.shares.now c.sit-machines.result.items c.sit-machines.ensures.seated (outside g.K.Disk g.Q.Device g.E.Entropy g.X.Wire) a.0 a.1 a.2 (few_nodes (outside g.K.Disk g.Q.Device g.E.Entropy g.X.Wire) c.args.opening.value a.0 a.1 a.2)) w keep at

pub rise-requires-clause-posts : goal.rise-requires-clause-posts
rise-requires-clause-posts g c =
    let first : c.len-first.result ≡ length c.args.opening.value.posts.items = c.len-first.ensures ∙ c.args.posts.now.ok.0 ∙ ap (λ ps. length ps) c.requires.posts in
    let done = c.in-Ok.ensures.ok in
    let did = did_work (outside g.K.Disk g.Q.Device g.E.Entropy g.X.Wire) (λ d. d.opening.value) (λ d. d.node) (λ d. d.up) (λ d. d.post) (λ d. d.shares.now) (λ d. d.side) (λ d. d.shares.now) c.args.opening.value (length c.args.work.keeps.items) c.args.work.jobs.now c.args.stage.shares.now c.args.work.keeps.items c.in-Ok.keeps.items c.sit-machines.result.items c.in-Ok.machines.items c.len-first.result first done
    (λ w keep at. (
      entries (outside g.K.Disk g.Q.Device g.E.Entropy g.X.Wire) c.args.opening.value (length c.args.work.keeps.items) c.args.work.jobs.now c.args.work.keeps.items c.requires.shifts refl c.args.stage.shares.now c.requires.fresh w keep at,
      below (outside g.K.Disk g.Q.Device g.E.Entropy g.X.Wire) c.args.opening.value (length c.args.work.keeps.items) c.args.work.jobs.now c.args.work.keeps.items c.requires.shifts refl c.args.stage.shares.now c.requires.fresh c.len-first.result first w keep at,
    )) in
    let all = (as_many (outside g.K.Disk g.Q.Device g.E.Entropy g.X.Wire) (λ d. d.opening.value) (λ d. d.node) (λ d. d.up) (λ d. d.post) (λ d. d.shares.now) (λ d. d.side) (λ d. d.shares.now) c.args.opening.value (length c.args.work.keeps.items) c.args.work.jobs.now c.args.stage.shares.now c.args.work.keeps.items c.in-Ok.keeps.items c.sit-machines.result.items c.in-Ok.machines.items c.sit-machines.ensures.seated done.answered.same did).0 in
    let none = c.sit-machines.new.posts.ok.0 ∙ ap (λ ps. length ps) c.sit-machines.ensures.posts in
    let room = c.sit-machines.ensures.posts_block.1 in
    omega (arith, all, none, room, first, c.len-first.ensures, c.args.posts.now.ok.1)

pub rise-requires-clause-lanes : goal.rise-requires-clause-lanes
rise-requires-clause-lanes g c =
    let first : c.len-first.result ≡ length c.args.opening.value.posts.items = c.len-first.ensures ∙ c.args.posts.now.ok.0 ∙ ap (λ ps. length ps) c.requires.posts in
    let done = c.in-Ok.ensures.ok in
    let did = did_work (outside g.K.Disk g.Q.Device g.E.Entropy g.X.Wire) (λ d. d.opening.value) (λ d. d.node) (λ d. d.up) (λ d. d.post) (λ d. d.shares.now) (λ d. d.side) (λ d. d.shares.now) c.args.opening.value (length c.args.work.keeps.items) c.args.work.jobs.now c.args.stage.shares.now c.args.work.keeps.items c.in-Ok.keeps.items c.sit-machines.result.items c.in-Ok.machines.items c.len-first.result first done
    (λ w keep at. (
      entries (outside g.K.Disk g.Q.Device g.E.Entropy g.X.Wire) c.args.opening.value (length c.args.work.keeps.items) c.args.work.jobs.now c.args.work.keeps.items c.requires.shifts refl c.args.stage.shares.now c.requires.fresh w keep at,
      below (outside g.K.Disk g.Q.Device g.E.Entropy g.X.Wire) c.args.opening.value (length c.args.work.keeps.items) c.args.work.jobs.now c.args.work.keeps.items c.requires.shifts refl c.args.stage.shares.now c.requires.fresh c.len-first.result first w keep at,
    )) in
    let all = (as_many (outside g.K.Disk g.Q.Device g.E.Entropy g.X.Wire) (λ d. d.opening.value) (λ d. d.node) (λ d. d.up) (λ d. d.post) (λ d. d.shares.now) (λ d. d.side) (λ d. d.shares.now) c.args.opening.value (length c.args.work.keeps.items) c.args.work.jobs.now c.args.stage.shares.now c.args.work.keeps.items c.in-Ok.keeps.items c.sit-machines.result.items c.in-Ok.machines.items c.sit-machines.ensures.seated done.answered.same did).1 in
    let none = c.sit-machines.new.lanes.ok.0 ∙ ap (λ ls. length ls) c.sit-machines.ensures.lanes in
    let room = c.sit-machines.ensures.lanes_block.1 in
    let long = c.args.lanes.now.ok.0 ∙ ap (λ ls. length ls) c.requires.lanes in
    omega (arith, all, none, room, long, c.args.lanes.now.ok.1)

pub gather-requires : goal.gather-requires
gather-requires g c =
    let done = c.in-Ok.ensures.ok in
    let few = all_replies c.args.opening.value.lanes.items c.len-first.result (length c.args.work.jobs.now) c.args.work.keeps.items done.talks c.in-Ok.keeps.items done.talked
    (no_replies (outside g.K.Disk g.Q.Device g.E.Entropy g.X.Wire) c.args.opening.value (length c.args.work.keeps.items) c.args.work.jobs.now c.args.work.keeps.items c.requires.shifts refl c.args.stage.shares.now c.requires.fresh) c.requires.some in
    record {
      none = c.requires.empty;
      replied = omega (arith, few, c.requires.room.0);
      turns = omega (arith, few, c.requires.room.1);
    }

pub returns-in-Ok-clause-armed : goal.returns-in-Ok-clause-armed
returns-in-Ok-clause-armed g c =
    let a = c.requires.ready in
    let new = record c.args.opening.value { posts = c.rise.new.posts; lanes = c.rise.new.lanes } in
    let first : c.len-first.result ≡ length c.args.opening.value.posts.items = c.len-first.ensures ∙ c.args.posts.now.ok.0 ∙ ap (λ ps. length ps) c.requires.posts in
    let done = c.in-Ok.ensures.ok in
    let did = did_work (outside g.K.Disk g.Q.Device g.E.Entropy g.X.Wire) (λ d. d.opening.value) (λ d. d.node) (λ d. d.up) (λ d. d.post) (λ d. d.shares.now) (λ d. d.side) (λ d. d.shares.now) c.args.opening.value (length c.args.work.keeps.items) c.args.work.jobs.now c.args.stage.shares.now c.args.work.keeps.items c.in-Ok.keeps.items c.sit-machines.result.items c.in-Ok.machines.items c.len-first.result first done
    (λ w keep at. (
      entries (outside g.K.Disk g.Q.Device g.E.Entropy g.X.Wire) c.args.opening.value (length c.args.work.keeps.items) c.args.work.jobs.now c.args.work.keeps.items c.requires.shifts refl c.args.stage.shares.now c.requires.fresh w keep at,
      below (outside g.K.Disk g.Q.Device g.E.Entropy g.X.Wire) c.args.opening.value (length c.args.work.keeps.items) c.args.work.jobs.now c.args.work.keeps.items c.requires.shifts refl c.args.stage.shares.now c.requires.fresh c.len-first.result first w keep at,
    )) in
    let posts = c.rise.ensures.posts ∙ ap (λ ps. ps ++ map (λ d. d.post) (lefts c.in-Ok.machines.items)) c.sit-machines.ensures.posts in
    let lanes = c.rise.ensures.lanes ∙ ap (λ ls. ls ++ map (λ d. d.side) (rights c.in-Ok.machines.items)) c.sit-machines.ensures.lanes in
    let went = went_through (outside g.K.Disk g.Q.Device g.E.Entropy g.X.Wire) (λ d. d.opening.value) (λ d. d.node) (λ d. d.up) (λ d. d.post) (λ d. d.shares.now) (λ d. d.side) (λ d. d.shares.now) c.args.opening.value (length c.args.work.keeps.items) c.args.work.jobs.now c.args.stage.shares.now c.args.work.keeps.items c.in-Ok.keeps.items c.sit-machines.result.items c.in-Ok.machines.items new c.gather.result c.sit-machines.ensures.seated c.requires.some refl c.requires.shifts c.requires.fresh done.answered.same did refl refl refl posts lanes c.gather.ensures in
    has_armed (outside g.K.Disk g.Q.Device g.E.Entropy g.X.Wire) (λ d. d.opening.value) (λ d. d.node) (λ d. d.up) (λ d. d.post) (λ d. d.shares.now) (λ d. d.side) (λ d. d.shares.now) c.args.opening.value new (length c.args.work.keeps.items) c.args.work.jobs.now c.gather.result went a.0 a.1 a.2 ∙ ap (λ ps. most_armed g.K.Disk ps) (sym c.requires.posts)

pub returns-in-Ok-clause-worked : goal.returns-in-Ok-clause-worked
returns-in-Ok-clause-worked g c net w ready =
    let new = record c.args.opening.value { posts = c.rise.new.posts; lanes = c.rise.new.lanes } in
    let first : c.len-first.result ≡ length c.args.opening.value.posts.items = c.len-first.ensures ∙ c.args.posts.now.ok.0 ∙ ap (λ ps. length ps) c.requires.posts in
    let done = c.in-Ok.ensures.ok in
    let did = did_work (outside g.K.Disk g.Q.Device g.E.Entropy g.X.Wire) (λ d. d.opening.value) (λ d. d.node) (λ d. d.up) (λ d. d.post) (λ d. d.shares.now) (λ d. d.side) (λ d. d.shares.now) c.args.opening.value (length c.args.work.keeps.items) c.args.work.jobs.now c.args.stage.shares.now c.args.work.keeps.items c.in-Ok.keeps.items c.sit-machines.result.items c.in-Ok.machines.items c.len-first.result first done
    (λ w keep at. (
      entries (outside g.K.Disk g.Q.Device g.E.Entropy g.X.Wire) c.args.opening.value (length c.args.work.keeps.items) c.args.work.jobs.now c.args.work.keeps.items c.requires.shifts refl c.args.stage.shares.now c.requires.fresh w keep at,
      below (outside g.K.Disk g.Q.Device g.E.Entropy g.X.Wire) c.args.opening.value (length c.args.work.keeps.items) c.args.work.jobs.now c.args.work.keeps.items c.requires.shifts refl c.args.stage.shares.now c.requires.fresh c.len-first.result first w keep at,
    )) in
    let posts = c.rise.ensures.posts ∙ ap (λ ps. ps ++ map (λ d. d.post) (lefts c.in-Ok.machines.items)) c.sit-machines.ensures.posts in
    let lanes = c.rise.ensures.lanes ∙ ap (λ ls. ls ++ map (λ d. d.side) (rights c.in-Ok.machines.items)) c.sit-machines.ensures.lanes in
    let went = went_through (outside g.K.Disk g.Q.Device g.E.Entropy g.X.Wire) (λ d. d.opening.value) (λ d. d.node) (λ d. d.up) (λ d. d.post) (λ d. d.shares.now) (λ d. d.side) (λ d. d.shares.now) c.args.opening.value (length c.args.work.keeps.items) c.args.work.jobs.now c.args.stage.shares.now c.args.work.keeps.items c.in-Ok.keeps.items c.sit-machines.result.items c.in-Ok.machines.items new c.gather.result c.sit-machines.ensures.seated c.requires.some refl c.requires.shifts c.requires.fresh done.answered.same did refl refl refl posts lanes c.gather.ensures in
    has_worked (outside g.K.Disk g.Q.Device g.E.Entropy g.X.Wire) (λ d. d.opening.value) (λ d. d.node) (λ d. d.up) (λ d. d.post) (λ d. d.shares.now) (λ d. d.side) (λ d. d.shares.now) c.args.opening.value new (length c.args.work.keeps.items) c.args.work.jobs.now c.gather.result went net w ready

pub rise-requires-in-Err-clause-posts : goal.rise-requires-in-Err-clause-posts
rise-requires-in-Err-clause-posts g c =
    let all = still_many (λ d. d.opening.value) (λ d. d.node) (λ d. d.up) (λ d. d.post) (λ d. d.shares.now) (λ d. d.side) (λ d. d.shares.now) c.args.opening.value c.args.stage.shares.now c.sit-machines.result.items c.sit-machines.ensures.seated c.in-Err.machines.items c.in-Err.ensures.err.0 in
    let none = c.sit-machines.new.posts.ok.0 ∙ ap (λ ps. length ps) c.sit-machines.ensures.posts in
    let room = c.sit-machines.ensures.posts_block.1 in
    let long = c.args.posts.now.ok.0 ∙ ap (λ ps. length ps) c.requires.posts in
    omega (arith, all, none, room, long, c.args.posts.now.ok.1)

pub rise-requires-in-Err-clause-lanes : goal.rise-requires-in-Err-clause-lanes
rise-requires-in-Err-clause-lanes g c =
    let all = still_many_lanes (λ d. d.opening.value) (λ d. d.node) (λ d. d.up) (λ d. d.post) (λ d. d.shares.now) (λ d. d.side) (λ d. d.shares.now) c.args.opening.value c.args.stage.shares.now c.sit-machines.result.items c.sit-machines.ensures.seated c.in-Err.machines.items c.in-Err.ensures.err.0 in
    let none = c.sit-machines.new.lanes.ok.0 ∙ ap (λ ls. length ls) c.sit-machines.ensures.lanes in
    let room = c.sit-machines.ensures.lanes_block.1 in
    let long = c.args.lanes.now.ok.0 ∙ ap (λ ls. length ls) c.requires.lanes in
    omega (arith, all, none, room, long, c.args.lanes.now.ok.1)

pub returns-in-Err-clause-armed : goal.returns-in-Err-clause-armed
returns-in-Err-clause-armed g c =
    ap (λ ps. most_armed g.K.Disk ps) (c.rise-in-Err.ensures.posts ∙ ap (λ ps. ps ++ map (λ d. d.post) (lefts c.in-Err.machines.items)) c.sit-machines.ensures.posts ∙ still_posts (λ d. d.opening.value) (λ d. d.node) (λ d. d.up) (λ d. d.post) (λ d. d.shares.now) (λ d. d.side) (λ d. d.shares.now) c.args.opening.value c.args.stage.shares.now c.sit-machines.result.items c.sit-machines.ensures.seated c.in-Err.machines.items c.in-Err.ensures.err.0 ∙ sym c.requires.posts)

pub returns-in-Err-clause-left : goal.returns-in-Err-clause-left
returns-in-Err-clause-left g c = (
  same_vec c.rise-in-Err.new.posts c.args.posts.now (c.rise-in-Err.ensures.posts_block.0 ∙ c.sit-machines.ensures.posts_block.0) (c.rise-in-Err.ensures.posts_block.1 ∙ c.sit-machines.ensures.posts_block.1)
      (c.rise-in-Err.ensures.posts ∙ ap (λ ps. ps ++ map (λ d. d.post) (lefts c.in-Err.machines.items)) c.sit-machines.ensures.posts ∙ still_posts (λ d. d.opening.value) (λ d. d.node) (λ d. d.up) (λ d. d.post) (λ d. d.shares.now) (λ d. d.side) (λ d. d.shares.now) c.args.opening.value c.args.stage.shares.now c.sit-machines.result.items c.sit-machines.ensures.seated c.in-Err.machines.items c.in-Err.ensures.err.0 ∙ sym c.requires.posts),
  same_vec c.rise-in-Err.new.lanes c.args.lanes.now (c.rise-in-Err.ensures.lanes_block.0 ∙ c.sit-machines.ensures.lanes_block.0) (c.rise-in-Err.ensures.lanes_block.1 ∙ c.sit-machines.ensures.lanes_block.1)
      (c.rise-in-Err.ensures.lanes ∙ ap (λ ls. ls ++ map (λ d. d.side) (rights c.in-Err.machines.items)) c.sit-machines.ensures.lanes ∙ still_lanes (λ d. d.opening.value) (λ d. d.node) (λ d. d.up) (λ d. d.post) (λ d. d.shares.now) (λ d. d.side) (λ d. d.shares.now) c.args.opening.value c.args.stage.shares.now c.sit-machines.result.items c.sit-machines.ensures.seated c.in-Err.machines.items c.in-Err.ensures.err.0 ∙ sym c.requires.lanes),
)

pub work_scripts-requires-sync-T : goal.work_scripts-requires-sync-T
work_scripts-requires-sync-T g c κs within = param_sync 3 _ (arg_sync _ no _ (errands_sync _ (param 2 g.row.K) (param 3 g.row.Q) (param 4 g.row.E) (param 5 g.row.X) g.K.Disk g.E.Entropy g.X.Wire))
