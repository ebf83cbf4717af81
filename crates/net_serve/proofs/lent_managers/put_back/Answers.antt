use Rattle.std.proofs.Common.{◌++◌, map, reverse, sym, ap, ◌∙◌, arith, refl, append-nil}
use Rattle.shared_objects.proofs.Lasts.{front_moved, no_items}
use Rattle.net_serve.proofs.lent_managers.put_back.Goals as goal

pub loop-manager-preserved : goal.loop-manager-preserved
loop-manager-preserved g c =
    let inv = c.loop-manager.invariant in
    record {
      next = tt;
      finite = tt;
      posts = front_moved (λ m. m.post) c.loop-manager.posts.items c.push_reserved.new.self.items c.in-Some.manager c.in-Some.manager.post c.loop-manager.manager-iterator.rest.items c.next.new.self.rest.items
          (map (λ m. m.post) (reverse c.args.managers.items)) c.in-Some.ensures.steps.0 c.push_reserved.ensures.items refl inv.posts;
      room = omega (arith, c.push_reserved.ensures.len, c.push_reserved.ensures.capacity, c.in-Some.ensures.steps.1, inv.room);
      ptr = c.push_reserved.ensures.in_place ∙ inv.ptr;
      kept = c.push_reserved.ensures.capacity ∙ inv.kept;
    }

pub returns-clause-posts : goal.returns-clause-posts
returns-clause-posts g c =
    let posts = c.loop-manager.posts.items in
    let empty = no_items c.loop-manager.manager-iterator.rest.items (sym c.loop-manager.manager-iterator.rest.ok.0 ∙ c.in-None.ensures.steps.0) in
    sym (append-nil posts) ∙ ap (λ xs. posts ++ map (λ m. m.post) xs) (sym empty) ∙ c.loop-manager.invariant.posts
