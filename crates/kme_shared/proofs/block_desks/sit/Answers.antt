use Rattle.std.proofs.Common.{◌≡◌, length, vec_len, ap, ◌∙◌, arith}
use Rattle.kme_shared.proofs.Sitting.{all_sit}
use Rattle.kme_shared.proofs.block_desks.sit.Goals as goal

pub seat_lanes-requires : goal.seat_lanes-requires
seat_lanes-requires g c =
    let none : vec_len c.args.stage.machines ≡ 0 = c.args.stage.machines.ok.0 ∙ ap (λ ms. length ms) c.requires.none in
    record { shares = c.requires.shares; count = c.requires.count; used = c.requires.used; room = omega (arith, none, c.requires.room) }

pub seat_managers-requires : goal.seat_managers-requires
seat_managers-requires g c =
    let none : vec_len c.args.stage.machines ≡ 0 = c.args.stage.machines.ok.0 ∙ ap (λ ms. length ms) c.requires.none in
    record {
      sited = c.requires.sited;
      up = c.requires.up;
      posts = c.requires.posts;
      ready = c.requires.ready;
      shares = c.requires.shares ∙ ap (λ ls. length ls) c.requires.lanes;
      nodes = c.requires.nodes;
      count = c.requires.sheets;
      dealt = c.requires.dealt;
      room = omega (arith, none, c.seat_lanes.ensures.long, c.seat_lanes.ensures.capacity, c.requires.room);
    }

pub returns : goal.returns
returns g c = record {
  posts = c.seat_managers.ensures.posts;
  posts_block = c.seat_managers.ensures.block;
  lanes = c.seat_lanes.ensures.lanes;
  lanes_block = c.seat_lanes.ensures.block;
  seated = all_sit (λ d. d.opening.value) (λ d. d.node) (λ d. d.up) (λ d. d.post) (λ d. d.shares.now) (λ d. d.side) (λ d. d.shares.now) c.args.opening.now.value c.args.stage.shares.now c.args.lanes.now.items c.args.posts.now.items
      c.args.stage.machines.items c.seat_lanes.new.machines.items c.seat_managers.new.machines.items c.reverse.new.self.items c.seat_lanes.new.lanes.items c.seat_managers.new.posts.items c.requires.none c.seat_lanes.ensures.lanes
      c.seat_managers.ensures.posts c.requires.lanes c.requires.posts c.seat_lanes.ensures.seated c.seat_managers.ensures.seated c.reverse.ensures.items;
}
