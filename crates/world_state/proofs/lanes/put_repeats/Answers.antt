use Rattle.std.proofs.Common.{◌∙◌, ◌+◌, sym, refl, ap, drop, [], ◌∷◌}
use Rattle.net_model.specs.Tick.{Again}
use Rattle.world_state.specs.Sending.{repeats_on}
use Rattle.world_state.specs.declared.state.State.{State}
use Rattle.world_state.proofs.Drops.{drop_all, repeat_here, repeat_elsewhere}
use Rattle.world_state.proofs.Endings.{on_err}
use Rattle.world_state.proofs.Goings.{went_none, may_go, went_more, broke_there, went_like, went_as}
use Rattle.world_state.proofs.lanes.put_repeats.Goals as goal
use Rattle.world_state.proofs.lanes.put_repeats.Goals.{then-is_same+in_ok-put_repeat, else-is_same}
use Rattle.world_state.specs.Outside.{outside}

pub put_repeat-requires : goal.put_repeat-requires
put_repeat-requires g c =
    let far = went_like (outside g.K.Disk g.Q.Device g.E.Entropy g.X.Wire)
    c.args.state.now c.loop-repeat.state c.args.node (repeats_on c.args.lane c.args.repeats.now) (repeats_on c.args.lane (drop c.loop-repeat.repeat-index c.args.repeats.now)) _ c.args.progress.now c.loop-repeat.progress
    (repeat_here c.args.lane c.args.repeats.now c.loop-repeat.repeat-index c.repeat-item.result c.loop-repeat-test.true c.repeat-item.is (sym c.is_same.ensures ∙ c.if-is_same.true)) c.loop-repeat.invariant.went in
    let may = may_go (outside g.K.Disk g.Q.Device g.E.Entropy g.X.Wire)
    c.args.state.now c.loop-repeat.state c.args.node (repeats_on c.args.lane c.args.repeats.now) (Again c.repeat-item.result ∷ []) (repeats_on c.args.lane (drop (c.loop-repeat.repeat-index + 1) c.args.repeats.now))
    c.args.progress.now c.loop-repeat.progress far c.requires.next in
    record { next = may }

pub returns-in_err-put_repeat-clause-err : goal.returns-in_err-put_repeat-clause-err
returns-in_err-put_repeat-clause-err g c =
    let far = went_like (outside g.K.Disk g.Q.Device g.E.Entropy g.X.Wire)
    c.args.state.now c.loop-repeat.state c.args.node (repeats_on c.args.lane c.args.repeats.now) (repeats_on c.args.lane (drop c.loop-repeat.repeat-index c.args.repeats.now)) _ c.args.progress.now c.loop-repeat.progress
    (repeat_here c.args.lane c.args.repeats.now c.loop-repeat.repeat-index c.repeat-item.result c.loop-repeat-test.true c.repeat-item.is (sym c.is_same.ensures ∙ c.if-is_same.true)) c.loop-repeat.invariant.went in
    on_err c.from_residual.result (broke_there (outside g.K.Disk g.Q.Device g.E.Entropy g.X.Wire)
    c.args.state.now c.loop-repeat.state c.args.node (repeats_on c.args.lane c.args.repeats.now) (Again c.repeat-item.result ∷ []) (repeats_on c.args.lane (drop (c.loop-repeat.repeat-index + 1) c.args.repeats.now))
    c.args.progress.now c.loop-repeat.progress far c.put_repeat.new.state c.in_err-put_repeat.ensures.err)

pub loop-repeat-preserved : goal.loop-repeat-preserved
loop-repeat-preserved g c = elim c.if-is_same.branch [
  | then-is_same+in_ok-put_repeat b ↦
      let far = went_like (outside g.K.Disk g.Q.Device g.E.Entropy g.X.Wire)
      c.args.state.now c.loop-repeat.state c.args.node (repeats_on c.args.lane c.args.repeats.now) (repeats_on c.args.lane (drop c.loop-repeat.repeat-index c.args.repeats.now)) _ c.args.progress.now c.loop-repeat.progress
      (repeat_here c.args.lane c.args.repeats.now c.loop-repeat.repeat-index c.repeat-item.result c.loop-repeat-test.true c.repeat-item.is (sym c.is_same.ensures ∙ b.if-is_same.true)) c.loop-repeat.invariant.went in
      record {
        site = ap (λ (s : State _ _ _ _). s.site) b.state-is ∙ b.put_repeat.ensures.site ∙ c.loop-repeat.invariant.site;
        posts = ap (λ (s : State _ _ _ _). s.posts.items) b.state-is ∙ b.put_repeat.ensures.posts ∙ c.loop-repeat.invariant.posts;
        went = went_as (outside g.K.Disk g.Q.Device g.E.Entropy g.X.Wire)
            c.args.state.now b.put_repeat.new.state c.if-is_same.state c.args.node (repeats_on c.args.lane c.args.repeats.now) (repeats_on c.args.lane (drop (c.loop-repeat.repeat-index + 1) c.args.repeats.now)) c.args.progress.now b.put_repeat.new.progress c.if-is_same.progress b.state-is b.progress-is
            (went_more (outside g.K.Disk g.Q.Device g.E.Entropy g.X.Wire)
            c.args.state.now c.loop-repeat.state c.args.node (repeats_on c.args.lane c.args.repeats.now) (Again c.repeat-item.result ∷ []) (repeats_on c.args.lane (drop (c.loop-repeat.repeat-index + 1) c.args.repeats.now))
            c.args.progress.now c.loop-repeat.progress far b.put_repeat.new.state b.put_repeat.new.progress b.in_ok-put_repeat.ensures.ok);
      }
  | else-is_same b ↦
      record {
        site = ap (λ (s : State _ _ _ _). s.site) b.state-is ∙ c.loop-repeat.invariant.site;
        posts = ap (λ (s : State _ _ _ _). s.posts.items) b.state-is ∙ c.loop-repeat.invariant.posts;
        went = went_as (outside g.K.Disk g.Q.Device g.E.Entropy g.X.Wire)
            c.args.state.now c.loop-repeat.state c.if-is_same.state c.args.node (repeats_on c.args.lane c.args.repeats.now) (repeats_on c.args.lane (drop (c.loop-repeat.repeat-index + 1) c.args.repeats.now)) c.args.progress.now c.loop-repeat.progress c.if-is_same.progress b.state-is b.progress-is
            (went_like (outside g.K.Disk g.Q.Device g.E.Entropy g.X.Wire)
            c.args.state.now c.loop-repeat.state c.args.node (repeats_on c.args.lane c.args.repeats.now) (repeats_on c.args.lane (drop c.loop-repeat.repeat-index c.args.repeats.now)) _ c.args.progress.now c.loop-repeat.progress
            (repeat_elsewhere c.args.lane c.args.repeats.now c.loop-repeat.repeat-index c.repeat-item.result c.loop-repeat-test.true c.repeat-item.is (sym c.is_same.ensures ∙ b.if-is_same.false)) c.loop-repeat.invariant.went);
      }
]

pub loop-repeat-init : goal.loop-repeat-init
loop-repeat-init g c = record {
  site = refl;
  posts = refl;
  went = went_none (outside g.K.Disk g.Q.Device g.E.Entropy g.X.Wire) _ _ _ _;
}

pub returns-clause-ok : goal.returns-clause-ok
returns-clause-ok g c =
    went_like (outside g.K.Disk g.Q.Device g.E.Entropy g.X.Wire)
    c.args.state.now c.loop-repeat.state c.args.node (repeats_on c.args.lane c.args.repeats.now) (repeats_on c.args.lane (drop c.loop-repeat.repeat-index c.args.repeats.now)) [] c.args.progress.now c.loop-repeat.progress
    (ap (repeats_on c.args.lane) (drop_all c.args.repeats.now c.loop-repeat.repeat-index c.loop-repeat-test.false)) c.loop-repeat.invariant.went
