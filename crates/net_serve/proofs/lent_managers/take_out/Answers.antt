use Rattle.std.proofs.Common.{◌≡◌, map, reverse, vec_len, sym, ap, ◌∙◌, arith, refl}
use Rattle.std.proofs.lemmas.Grind.{common_steps}
use Rattle.net_model.specs.Site.{count_up}
use Rattle.shared_objects.proofs.Lasts.{put_back, all_back, all_and_one, no_items, count_down, last_there}
use Rattle.net_serve.proofs.Servable.{servable}
use Rattle.net_serve.proofs.lent_managers.take_out.Goals as goal
use Rattle.world_state.specs.Outside.{outside}

pub invariant_of-manager : goal.invariant_of-manager
invariant_of-manager g c =
    let inv = c.loop.invariant in
    let a = c.requires.ready in
    let o = c.args.opening.now.value in
    let is : c.unwrap-node.result ≡ vec_len c.take_last-post.new.self = grind (arith, common_steps, c.new.ensures, c.unwrap-node.ensures, c.len.ensures) in
    let there = last_there c.loop.posts.items c.take_last-post.new.self.items c.take_last-post.result o.posts.items (reverse (map (λ m. m.post) c.loop.managers.items)) c.unwrap-node.result
    c.take_last-post.ensures.items (inv.before ∙ c.requires.posts) (sym c.take_last-post.new.self.ok.0 ∙ sym is) in
    record {
      servable = ∣ servable (outside g.K.Disk g.Q.Device g.E.Entropy g.X.Wire) o a.0 a.1 a.2 c.of.result.value c.unwrap-node.result
          c.take_last-post.result c.args.up (c.of.ensures ∙ c.requires.sited) c.requires.up there ∣₁;
    }

pub loop-preserved : goal.loop-preserved
loop-preserved g c =
    let inv = c.loop.invariant in
    let is : c.unwrap-node.result ≡ vec_len c.take_last-post.new.self = grind (arith, common_steps, c.new.ensures, c.unwrap-node.ensures, c.len.ensures) in
    record {
      turns = omega (arith, c.take_last-post.ensures.len, inv.turns);
      before = put_back (λ m. m.post) c.loop.managers.items c.push_reserved.new.self.items _ c.take_last-post.result c.loop.posts.items c.take_last-post.new.self.items c.args.posts.now.items
          c.push_reserved.ensures.items refl c.take_last-post.ensures.items inv.before;
      nodes = put_back (λ m. m.node) c.loop.managers.items c.push_reserved.new.self.items _ (vec_len c.take_last-post.new.self) (count_up (vec_len c.loop.posts)) (count_up (vec_len c.take_last-post.new.self))
          (count_up (vec_len c.args.posts.now)) c.push_reserved.ensures.items is (count_down (vec_len c.loop.posts) (vec_len c.take_last-post.new.self) (sym c.take_last-post.ensures.len)) inv.nodes;
      few = omega (arith, c.take_last-post.ensures.len, inv.few);
      room = omega (arith, c.push_reserved.ensures.len, c.push_reserved.ensures.capacity, c.take_last-post.ensures.len, inv.room);
      spare = c.push_reserved.ensures.capacity ∙ inv.spare;
      ptr = c.take_last-post.ensures.in_place ∙ inv.ptr;
      kept = c.take_last-post.ensures.capacity ∙ inv.kept;
      charters = all_and_one (λ m. (m.site.value ≡ c.args.opening.now.value.site) × (m.up ≡ c.args.opening.now.value.up)) c.loop.managers.items c.push_reserved.new.self.items _ c.push_reserved.ensures.items inv.charters
          (c.of.ensures ∙ c.requires.sited, c.requires.up);
    }

pub returns-clause-managers : goal.returns-clause-managers
returns-clause-managers g c =
    all_back (λ m. m.post) c.loop.managers.items (reverse c.loop.managers.items) c.loop.posts.items c.args.posts.now.items
    (no_items c.loop.posts.items (omega (arith, c.loop.invariant.turns, c.loop-test.false, c.loop.posts.ok.0))) refl c.loop.invariant.before

pub returns-clause-nodes : goal.returns-clause-nodes
returns-clause-nodes g c =
    let none : vec_len c.loop.posts ≡ 0 = omega (arith, c.loop.invariant.turns, c.loop-test.false) in
    all_back (λ m. m.node) c.loop.managers.items (reverse c.loop.managers.items) (count_up (vec_len c.loop.posts)) (count_up (vec_len c.args.posts.now)) (ap count_up none) refl c.loop.invariant.nodes
    ∙ ap count_up c.args.posts.now.ok.0
