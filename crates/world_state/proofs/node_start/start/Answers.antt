use Rattle.std.proofs.Common.{◌≡◌, refl, sym, ap, ◌∙◌, ◌<◌, true, length, Some}
use Rattle.world_state.specs.Starting.{is_started}
use Rattle.world_state.proofs.BeginsAgain.{otherwise_done, not_off, may_all, all_done, some_left, begun_below}
use Rattle.world_state.proofs.OneSide.{read_at}
use Rattle.world_state.proofs.node_start.start.Goals as goal
use Rattle.world_state.specs.Outside.{outside}

pub returns-then-not-is_started-clause-done : goal.returns-then-not-is_started-clause-done
returns-then-not-is_started-clause-done g c net w ready =
    otherwise_done (outside g.K.Disk g.Q.Device g.E.Entropy g.X.Wire) c.args.state.now net w c.args.node ready
    c.begin-answer.new.state c.begin-answer.result (c.begin-answer.ensures.begun net w ready)
    (sym c.is_started.ensures ∙ c.if-not-is_started.true)

pub go_on_all-requires : goal.go_on_all-requires
go_on_all-requires g c =
    let a = c.requires.ready in
    let h = c.begin-answer.ensures.begun a.0 a.1 a.2 in
    let is : is_started c.begin-answer.result ≡ true = sym c.is_started.ensures ∙ c.if-not-is_started.false in
    let place : c.from.result ≡ c.args.node = c.from.ensures ∙ c.get.ensures.number in
    let below : c.args.node < length c.begin-answer.new.state.posts.items =
    begun_below (outside g.K.Disk g.Q.Device g.E.Entropy g.X.Wire) c.args.state.now a.0 a.1 c.args.node a.2
    c.begin-answer.new.state c.begin-answer.result h c.requires.fit in
    let there = read_at c.begin-answer.new.state.posts.items c.from.result c.args.node c.index.result.now place below c.index.ensures ∙ ap Some c.in-On.is in
    record {
      may = may_all (outside g.K.Disk g.Q.Device g.E.Entropy g.X.Wire) c.args.state.now a.0 a.1 c.args.node a.2
          c.begin-answer.new.state c.begin-answer.result h is c.in-On.manager there c.begin-answer.new.state.site refl;
    }

pub returns-in-Off-clause-done : goal.returns-in-Off-clause-done
returns-in-Off-clause-done g c net w ready =
    let h = c.begin-answer.ensures.begun net w ready in
    let is : is_started c.begin-answer.result ≡ true = sym c.is_started.ensures ∙ c.if-not-is_started.false in
    let place : c.from.result ≡ c.args.node = c.from.ensures ∙ c.get.ensures.number in
    let below : c.args.node < length c.begin-answer.new.state.posts.items =
    begun_below (outside g.K.Disk g.Q.Device g.E.Entropy g.X.Wire) c.args.state.now net w c.args.node ready
    c.begin-answer.new.state c.begin-answer.result h c.requires.fit in
    let there = read_at c.begin-answer.new.state.posts.items c.from.result c.args.node c.index.result.now place below c.index.ensures ∙ ap Some c.in-Off.is in
    not_off (outside g.K.Disk g.Q.Device g.E.Entropy g.X.Wire) c.args.state.now net w c.args.node ready
    c.begin-answer.new.state c.begin-answer.result h is _ _ there

pub returns-in-Err-clause-left : goal.returns-in-Err-clause-left
returns-in-Err-clause-left g c net w ready =
    let h = c.begin-answer.ensures.begun net w ready in
    let is : is_started c.begin-answer.result ≡ true = sym c.is_started.ensures ∙ c.if-not-is_started.false in
    let place : c.from.result ≡ c.args.node = c.from.ensures ∙ c.get.ensures.number in
    let below : c.args.node < length c.begin-answer.new.state.posts.items =
    begun_below (outside g.K.Disk g.Q.Device g.E.Entropy g.X.Wire) c.args.state.now net w c.args.node ready
    c.begin-answer.new.state c.begin-answer.result h c.requires.fit in
    let there = read_at c.begin-answer.new.state.posts.items c.from.result c.args.node c.index.result.now place below c.index.ensures ∙ ap Some c.in-On.is in
    some_left (outside g.K.Disk g.Q.Device g.E.Entropy g.X.Wire) c.args.state.now net w c.args.node ready
    c.begin-answer.new.state c.begin-answer.result h is c.in-On.manager there
    _ refl refl refl refl c.go_on_all.ensures.wires

pub returns-in-Ok-clause-done : goal.returns-in-Ok-clause-done
returns-in-Ok-clause-done g c net w ready =
    let h = c.begin-answer.ensures.begun net w ready in
    let is : is_started c.begin-answer.result ≡ true = sym c.is_started.ensures ∙ c.if-not-is_started.false in
    let place : c.from.result ≡ c.args.node = c.from.ensures ∙ c.get.ensures.number in
    let below : c.args.node < length c.begin-answer.new.state.posts.items =
    begun_below (outside g.K.Disk g.Q.Device g.E.Entropy g.X.Wire) c.args.state.now net w c.args.node ready
    c.begin-answer.new.state c.begin-answer.result h c.requires.fit in
    let there = read_at c.begin-answer.new.state.posts.items c.from.result c.args.node c.index.result.now place below c.index.ensures ∙ ap Some c.in-On.is in
    all_done (outside g.K.Disk g.Q.Device g.E.Entropy g.X.Wire) c.args.state.now net w c.args.node ready
    c.begin-answer.new.state c.begin-answer.result h is c.in-On.manager there
    _ refl refl refl refl c.go_on_all.ensures.wires c.in-Ok.ensures.ok
