use Rattle.std.proofs.Common.{◌≡◌, ◌<◌, Some, length, refl, sym, subst, ◌∙◌, arith}
use Rattle.std.specs.Prelude.{slice_get, get_or}
use Rattle.std.proofs.lemmas.Option.{slice_get_read}
use Rattle.kme_shared.proofs.Sitting.{used_less, used_last, lane_sits, none_sits}
use Rattle.kme_shared.proofs.block_desks.seat_lanes.Goals as goal

pub loop-init : goal.loop-init
loop-init g c = record {
  turns = omega (arith, c.len-end.ensures);
  count = c.requires.count;
  few = omega arith;
  owned = c.requires.used;
  ptr = refl;
  kept = refl;
  seated = none_sits (λ d. d.side) (λ d. d.shares.now) c.args.shares.now c.args.lanes.now.items c.args.machines.now.items c.requires.shares;
  room = refl;
  long = refl;
}

pub lane_desk-requires : goal.lane_desk-requires
lane_desk-requires g c =
    let inv = c.loop.invariant in
    let lanes = c.take_last-side in
    let used = c.take_last-share in
    let n = c.len.result in
    let long : length lanes.new.self.items ≡ n = sym (c.len.ensures ∙ lanes.new.self.ok.0) in
    let long' : length used.new.self.items ≡ n = omega (arith, long, used.new.self.ok.0, lanes.new.self.ok.0, used.ensures.len, lanes.ensures.len, inv.count) in
    let below : n < length c.args.shares.now = omega (arith, c.len.ensures, lanes.ensures.len, inv.few, c.requires.shares, c.args.lanes.now.ok.0) in
    used_last c.loop.lanes.items lanes.new.self.items c.args.shares.now c.loop.used.items used.new.self.items lanes.result used.result inv.owned lanes.ensures.items used.ensures.items n c.index-shares-len.result long long'
    (slice_get_read c.args.shares.now (length c.args.shares.now) n c.index-shares-len.result refl below c.index-shares-len.is)

pub loop-preserved : goal.loop-preserved
loop-preserved g c =
    let inv = c.loop.invariant in
    let lanes = c.take_last-side in
    let used = c.take_last-share in
    let push = c.push_reserved.ensures in
    let n = c.len.result in
    let one = c.index-shares-len.result in
    let long : n ≡ length lanes.new.self.items = c.len.ensures ∙ lanes.new.self.ok.0 in
    let below : n < length c.args.shares.now = omega (arith, c.len.ensures, lanes.ensures.len, inv.few, c.requires.shares, c.args.lanes.now.ok.0) in
    record {
      turns = omega (arith, lanes.ensures.len, inv.turns);
      count = omega (arith, used.ensures.len, lanes.ensures.len, inv.count);
      few = omega (arith, lanes.ensures.len, inv.few);
      owned = used_less c.loop.lanes.items lanes.new.self.items c.args.shares.now c.loop.used.items used.new.self.items lanes.result used.result inv.owned lanes.ensures.items used.ensures.items;
      ptr = lanes.ensures.in_place ∙ inv.ptr;
      kept = lanes.ensures.capacity ∙ inv.kept;
      seated = lane_sits (λ d. d.side) (λ d. d.shares.now) c.args.shares.now c.args.lanes.now.items c.args.machines.now.items c.loop.lanes.items lanes.new.self.items c.loop.machines.items c.push_reserved.new.self.items lanes.result
          c.lane_desk.result one lanes.ensures.items push.items c.lane_desk.ensures.side c.lane_desk.ensures.shares (subst (λ m. m < length c.args.shares.now) long below) (subst (λ m. one ≡ get_or c.args.shares.now m one) long c.index-shares-len.is) inv.seated;
      room = push.capacity ∙ inv.room;
      long = omega (arith, push.len, lanes.ensures.len, inv.long);
    }
