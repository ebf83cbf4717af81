-- After the workers' calls on its lanes, a state stands for the world that they leave.
use Rattle.std.proofs.Common.{ℕ, List, length, sym, ◌∙◌, ap, subst}
use Rattle.std.specs.Prelude.{slice_get}
use Rattle.net_model.specs.World.{Network, World}
use Rattle.declared_site.specs.SiteOf.{site_of}
use Rattle.kme_base.specs.Up.{AreUp}
use Rattle.run_model.specs.Works.{Work}
use Rattle.run_ops.specs.declared.job.Job.{Job}
use Rattle.world_state.specs.Passed.{LaneStands}
use Rattle.world_state.proofs.Passed.{post_on}
use Rattle.world_state.specs.Stands.{Stands}
use Rattle.world_state.specs.declared.state.State.{State}
use Rattle.world_state.proofs.OneSide.{some_same}
use Rattle.law_parallel.specs.LaneWorks.{world_after}
use Rattle.law_parallel.specs.InOrder.{turns_over}
use Rattle.par_frames.specs.Blocks.{LanesWorked, LanesLeft}
use Rattle.par_frames.specs.States.{HasLanes}
use Rattle.world_state.specs.Outside.{Outside}

module _ {K Q E X : Type 0} (outside : Outside K Q E X) (net : Network) (workers : ℕ) (w : World) (jobs : List Job) (histories : List (List Work))
    (lanes : LanesWorked outside.wire net workers w histories) (behind : LanesLeft outside.wire net workers w jobs histories lanes)
    (old new : State K Q E X) (h : HasLanes outside.wire net workers w histories lanes old new) where
  abbrev u : World
  u = turns_over net w histories

  pub stands : Stands outside old net u → Stands outside new net (world_after net u behind.logs)
  stands s = record {
    running = behind.running;
    sited = s.sited ∙ ap site_of (sym h.site);
    nodes = ap length h.posts ∙ s.nodes;
    posts = λ v p at. post_on outside.disk outside.entropy net u (world_after net u behind.logs) v (behind.block.managers v) p (s.posts v p (ap (λ ps. slice_get ps v) (sym h.posts) ∙ at));
    sides = h.sides ∙ s.sides;
    lanes = λ l side e at. subst (LaneStands outside.wire net (world_after net u behind.logs) l) (some_same (sym (h.is l e) ∙ at)) (behind.each l e).stands;
    links = ap length h.devices ∙ s.links;
    devices = λ link q at. s.devices link q (ap (λ qs. slice_get qs link) (sym h.devices) ∙ at);
    up = subst (λ (n : ℕ). AreUp n u.link_up) (sym h.up) s.up;
  }
