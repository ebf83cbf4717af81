use Rattle.std.proofs.Common.{◌≡◌, map, refl, sym, ap, subst, ◌∙◌, arith, vec_len, length}
use Rattle.std.specs.Prelude.{slice_get}
use Rattle.std.proofs.lemmas.Grind.{common_steps}
use Rattle.net_model.specs.World.{Network, World}
use Rattle.run_ops.specs.Acting.{IsReady}
use Rattle.world_state.specs.Stands.{Stands}
use Rattle.kme_shared.specs.Sheets.{HasOpened}
use Rattle.kme_shared.proofs.Sitting.{in_front, at_end, last_at, manager_sits, no_manager}
use Rattle.kme_shared.proofs.block_desks.seat_managers.Goals as goal
use Rattle.world_state.specs.Outside.{outside}

pub loop-init : goal.loop-init
loop-init g c = record {
  turns = omega (arith, c.len-end.ensures);
  count = c.requires.count;
  few = omega arith;
  dealt = c.requires.dealt;
  ptr = refl;
  kept = refl;
  seated = no_manager (λ d. d.opening.value) (λ d. d.node) (λ d. d.up) (λ d. d.post) (λ d. d.shares.now) c.args.opening.now.value c.args.shares.now c.args.posts.now.items c.args.machines.now.items;
  room = refl;
  long = refl;
}

pub new-desk-requires : goal.new-desk-requires
new-desk-requires g c =
    let inv = c.loop.invariant in
    let sheets = c.take_last-issuers in
    let posts = c.take_last-post in
    let n = c.unwrap-node.result in
    let is : n ≡ vec_len posts.new.self = grind (arith, common_steps, c.new.ensures, c.unwrap-node.ensures, c.len.ensures) in
    let long : length posts.new.self.items ≡ n = sym (is ∙ posts.new.self.ok.0) in
    let long' : length sheets.new.self.items ≡ n = omega (arith, long, sheets.new.self.ok.0, posts.new.self.ok.0, sheets.ensures.len, posts.ensures.len, inv.count) in
    let sheet = inv.dealt n sheets.result (at_end c.loop.sheets.items sheets.new.self.items sheets.result n sheets.ensures.items long') in
    let there = last_at c.loop.posts.items posts.new.self.items posts.result c.args.opening.now.value.posts.items (map (λ d. d.post) inv.seated.desks) n posts.ensures.items (inv.seated.posts ∙ c.requires.posts) long in
    record {
      sited = c.requires.sited ∙ ap (λ s. s.site) (sym sheet.kept');
      up = c.requires.up ∙ ap (λ s. s.up) (sym sheet.kept');
      post = ap (λ s. slice_get s.posts.items n) sheet.kept' ∙ there;
      ready = subst (λ s. (net : Network) × (w : World) × IsReady (Stands (outside g.K.Disk g.Q.Device g.E.Entropy g.X.Wire)) s net w) (sym sheet.kept') c.requires.ready;
      lanes = c.requires.shares ∙ ap (λ s. length s.lanes.items) (sym sheet.kept');
      shared = sheet.shared;
      opened = subst (λ s. HasOpened s c.args.shares.now n posts.result sheets.result.issuers.items) (sym sheet.kept') (sheet.opened posts.result there);
    }

pub loop-preserved : goal.loop-preserved
loop-preserved g c =
    let inv = c.loop.invariant in
    let sheets = c.take_last-issuers in
    let posts = c.take_last-post in
    let desk = c.new-desk in
    let push = c.push_reserved.ensures in
    let is : c.unwrap-node.result ≡ vec_len posts.new.self = grind (arith, common_steps, c.new.ensures, c.unwrap-node.ensures, c.len.ensures) in
    let long : length sheets.new.self.items ≡ c.unwrap-node.result = omega (arith, is, sheets.new.self.ok.0, posts.new.self.ok.0, sheets.ensures.len, posts.ensures.len, inv.count) in
    let sheet = inv.dealt c.unwrap-node.result sheets.result (at_end c.loop.sheets.items sheets.new.self.items sheets.result c.unwrap-node.result sheets.ensures.items long) in
    record {
      turns = omega (arith, posts.ensures.len, inv.turns);
      count = omega (arith, sheets.ensures.len, posts.ensures.len, inv.count);
      few = omega (arith, posts.ensures.len, inv.few);
      dealt = λ v sheet at. inv.dealt v sheet (in_front c.loop.sheets.items sheets.new.self.items sheets.result sheets.ensures.items v sheet at);
      ptr = posts.ensures.in_place ∙ inv.ptr;
      kept = posts.ensures.capacity ∙ inv.kept;
      seated = manager_sits (λ d. d.opening.value) (λ d. d.node) (λ d. d.up) (λ d. d.post) (λ d. d.shares.now) c.args.opening.now.value c.args.shares.now c.args.posts.now.items c.args.machines.now.items
          c.loop.posts.items posts.new.self.items c.loop.machines.items c.push_reserved.new.self.items posts.result desk.result posts.ensures.items push.items desk.ensures.post (desk.ensures.node ∙ is ∙ posts.new.self.ok.0)
          (record { opens = desk.ensures.opening ∙ sheet.kept'; links = desk.ensures.up ∙ c.requires.up; shared = desk.ensures.shares }) inv.seated;
      room = push.capacity ∙ inv.room;
      long = omega (arith, push.len, posts.ensures.len, inv.long);
    }
