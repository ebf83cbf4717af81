use Rattle.std.proofs.Common.{sym, subst, ◌∙◌}
use Rattle.kme_store.specs.declared.post.Post.{Post}
use Rattle.run_types.specs.declared.start_result.StartResult.TheVariants as starts
use Rattle.world_nodes.specs.Stands.{PostStands}
use Rattle.world_nodes.specs.Starting.{HasStarted}
use Rattle.world_nodes.proofs.Handles.{up_is}
use Rattle.world_nodes.proofs.Starts.{is_up_already, may_off, begun_off}
use Rattle.world_nodes.proofs.manager_start.start.Goals as goal

pub returns-then-is_up : goal.returns-then-is_up
returns-then-is_up g c net w m =
    let d = g.K.Disk in
    let e = g.E.Entropy in
    let manager = c.in-On.manager in
    let here = subst (λ (p : Post _ _). PostStands d e net w c.args.me p) c.in-On.is m.stands in
    let up = (up_is d net w c.args.me manager.site manager.view manager.standing (sym c.is_up.ensures ∙ c.if-is_up.true) here.standing).1.up in
    subst (λ (p : Post _ _). HasStarted d e net w c.args.me c.args.post p starts.WasUp) c.in-On.is
    (is_up_already d e net w c.args.me c.args.site.now c.args.post m up)

pub returns-else-is_up : goal.returns-else-is_up
returns-else-is_up g c net w m =
    let d = g.K.Disk in
    let e = g.E.Entropy in
    let down = sym c.is_up.ensures ∙ c.if-is_up.false in
    let disk = c.crash-disk.result.0 in
    let entropy = c.crash-disk.result.1 in
    begun_off d e net w c.args.me c.args.site.now disk entropy c.args.post c.in-On.manager c.in-On.is down c.crash-disk.ensures.disk c.crash-disk.ensures.entropy m c.begin.result.0 c.begin.result.1
    (c.begin.ensures net w (may_off d e net w c.args.me c.args.site.now disk entropy c.args.post c.in-On.manager c.in-On.is down c.crash-disk.ensures.disk c.crash-disk.ensures.entropy m))
