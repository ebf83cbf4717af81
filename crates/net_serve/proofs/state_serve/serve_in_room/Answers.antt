use Rattle.std.proofs.Common.{◌≡◌, ◌∙◌, ◌*◌, ◌++◌, ℕ, List, length, map, reverse, [], slice_get, take, drop, is_ok, Err, refl, sym, ap, subst, arith}
use Rattle.std.specs.List.{AllZip}
use Rattle.std.proofs.lemmas.List.{length-map, length-reverse}
use Rattle.std.proofs.lemmas.Result.{IfOk-at_ok}
use Rattle.net_model.specs.Site.{count_up}
use Rattle.declared_site.specs.declared.site.Site.{Site}
use Rattle.shared_objects.specs.Seats.{calls_at, HoldsAll, IsOpened}
use Rattle.shared_objects.proofs.Ending.{opened_hold, written_over, as_many as as_many_first}
use Rattle.shared_objects.proofs.Lasts.{same_vec}
use Rattle.shared_objects.proofs.Opening.{fresh_none, opened_fresh}
use Rattle.world_state.specs.Armed.{most_armed}
use Rattle.kme_serve.specs.declared.refusal.ServeRefusal.TheVariants as refusals
use Rattle.net_serve.specs.Passes.{call_in}
use Rattle.net_serve.specs.Asked.{HaveAsked}
use Rattle.net_serve.proofs.Closing.{few_calls, closed_long, as_many_nodes, as_many, its_charter, its_node, came_back, armed_after, served_after, stands_at, of_state}
use Rattle.net_serve.proofs.state_serve.serve_in_room.Goals as goal
use Rattle.world_state.specs.Outside.{outside}

pub overflow_mul-calls-2 : goal.overflow_mul-calls-2
overflow_mul-calls-2 g c =
    let few = few_calls c.len.result c.count.result (omega (arith, c.len.ensures, c.requires.few, c.args.doors.ok.0)) (omega (arith, c.count.ensures.number, c.requires.connections)) in
    omega (arith, few)

pub open_all-requires-clause-few : goal.open_all-requires-clause-few
open_all-requires-clause-few g c =
    few_calls c.len.result c.count.result (omega (arith, c.len.ensures, c.requires.few, c.args.doors.ok.0)) (omega (arith, c.count.ensures.number, c.requires.connections))

pub close_all-requires-clause-whole : goal.close_all-requires-clause-whole
close_all-requires-clause-whole g c = opened_hold (c.len.result * (1000 * c.count.result)) c.open_all.new.turnstiles.items c.open_all.new.kept.items c.open_all.ensures.opened

pub close_all-requires-clause-room : goal.close_all-requires-clause-room
close_all-requires-clause-room g c =
    let n = as_many_first c.open_all.new.turnstiles.items c.take_out.new.managers.items c.open_all.new.machines.items c.open_all.ensures.machines in
    omega (arith, n, c.open_all.ensures.room, c.open_all.new.machines.ok.0, c.open_all.new.turnstiles.ok.0, c.take_out.new.managers.ok.0, c.take_out.new.managers.ok.1)

pub put_back-requires-clause-room : goal.put_back-requires-clause-room
put_back-requires-clause-room g c =
    let long = closed_long _ c.open_all.new.turnstiles.items c.open_all.new.kept.items c.take_out.new.managers.items c.open_all.new.machines.items c.close_all.new.machines.items c.close_all.ensures c.open_all.ensures.machines in
    let many = sym (length-map (reverse c.take_out.new.managers.items) (λ m. m.post)) ∙ ap (λ xs. length xs) c.take_out.ensures.managers in
    let turned = length-reverse c.take_out.new.managers.items in
    omega (arith, long, many, turned, c.close_all.new.machines.ok.0, c.take_out.ensures.block.1, c.args.state.now.posts.ok.0, c.args.state.now.posts.ok.1)

pub returns-in_default-clause-armed : goal.returns-in_default-clause-armed
returns-in_default-clause-armed g c =
    ap (λ ps. most_armed g.K.Disk ps) (c.put_back.ensures.posts ∙ came_back (outside g.K.Disk g.Q.Device g.E.Entropy g.X.Wire) c.of-opening.result.value (λ m. m.node) (λ m. m.site.value) (λ m. m.up) (λ m. m.post) (λ a. (a.event, a.reply)) c.open_all.new.turnstiles.items c.take_out.new.managers.items c.open_all.new.machines.items c.open_all.ensures.machines (c.take_out.ensures.nodes ∙ ap (λ ps. count_up (length ps)) (ap (λ s. s.posts.items) (sym c.of-opening.ensures))) c.take_out.ensures.charters (c.take_out.ensures.managers ∙ (ap (λ s. s.posts.items) (sym c.of-opening.ensures))) _ c.open_all.new.kept.items c.close_all.new.machines.items c.close_all.ensures (λ v. fresh_none (c.len.result * (1000 * c.count.result)) c.open_all.new.turnstiles.items v c.open_all.new.kept.items (opened_fresh (c.len.result * (1000 * c.count.result)) c.open_all.new.turnstiles.items c.open_all.new.kept.items c.open_all.ensures.opened)) ∙ sym (ap (λ s. s.posts.items) (sym c.of-opening.ensures)))

pub returns-in_default-clause-memory : goal.returns-in_default-clause-memory
returns-in_default-clause-memory g c e =
    let posts = same_vec c.put_back.new.posts c.args.state.now.posts (c.put_back.ensures.block.0 ∙ c.take_out.ensures.block.0) (c.put_back.ensures.block.1 ∙ c.take_out.ensures.block.1)
    (c.put_back.ensures.posts ∙ came_back (outside g.K.Disk g.Q.Device g.E.Entropy g.X.Wire) c.of-opening.result.value (λ m. m.node) (λ m. m.site.value) (λ m. m.up) (λ m. m.post) (λ a. (a.event, a.reply)) c.open_all.new.turnstiles.items c.take_out.new.managers.items c.open_all.new.machines.items c.open_all.ensures.machines (c.take_out.ensures.nodes ∙ ap (λ ps. count_up (length ps)) (ap (λ s. s.posts.items) (sym c.of-opening.ensures))) c.take_out.ensures.charters (c.take_out.ensures.managers ∙ (ap (λ s. s.posts.items) (sym c.of-opening.ensures))) _ c.open_all.new.kept.items c.close_all.new.machines.items c.close_all.ensures (λ v. fresh_none (c.len.result * (1000 * c.count.result)) c.open_all.new.turnstiles.items v c.open_all.new.kept.items (opened_fresh (c.len.result * (1000 * c.count.result)) c.open_all.new.turnstiles.items c.open_all.new.kept.items c.open_all.ensures.opened)) ∙ sym (ap (λ s. s.posts.items) (sym c.of-opening.ensures))) in
    ((λ i. record c.args.state.now { posts = posts i }), refl)

pub serve_doors-ended-requires-clause-nodes : goal.serve_doors-ended-requires-clause-nodes
serve_doors-ended-requires-clause-nodes g c κs within =
    let a = c.requires.ready in
    ap (λ (ts : List _). length ts) c.deref.ensures.value ∙ as_many (outside g.K.Disk g.Q.Device g.E.Entropy g.X.Wire) c.of-opening.result.value (λ m. m.node) (λ m. m.site.value) (λ m. m.up) (λ m. m.post) (λ a. (a.event, a.reply)) c.open_all.new.turnstiles.items c.take_out.new.managers.items c.open_all.new.machines.items c.open_all.ensures.machines (c.take_out.ensures.nodes ∙ ap (λ ps. count_up (length ps)) (ap (λ s. s.posts.items) (sym c.of-opening.ensures))) c.take_out.ensures.charters (c.take_out.ensures.managers ∙ (ap (λ s. s.posts.items) (sym c.of-opening.ensures))) (IfOk-at_ok (λ _. c.open_all.new.machines.items ≡ []) c.in-Ok.is c.open_all.ensures.ok) ∙ as_many_nodes (outside g.K.Disk g.Q.Device g.E.Entropy g.X.Wire) c.of-opening.result.value a.0 a.1 (stands_at (outside g.K.Disk g.Q.Device g.E.Entropy g.X.Wire) c.args.state.now c.of-opening.result.value c.of-opening.ensures a.0 a.1 a.2) ∙ ap (λ (d : Site). length d.nodes) (sym (ap (λ s. s.site) (sym c.of-opening.ensures)))

pub serve_doors-ended-requires-clause-charters : goal.serve_doors-ended-requires-clause-charters
serve_doors-ended-requires-clause-charters g c κs within v t at =
    let there = ap (λ (ts : List _). slice_get ts v) c.deref.ensures.value in
    ((its_charter (outside g.K.Disk g.Q.Device g.E.Entropy g.X.Wire) c.of-opening.result.value (λ m. m.node) (λ m. m.site.value) (λ m. m.up) (λ m. m.post) (λ a. (a.event, a.reply)) c.open_all.new.turnstiles.items c.take_out.new.managers.items c.open_all.new.machines.items c.open_all.ensures.machines (c.take_out.ensures.nodes ∙ ap (λ ps. count_up (length ps)) (ap (λ s. s.posts.items) (sym c.of-opening.ensures))) c.take_out.ensures.charters (c.take_out.ensures.managers ∙ (ap (λ s. s.posts.items) (sym c.of-opening.ensures))) (IfOk-at_ok (λ _. c.open_all.new.machines.items ≡ []) c.in-Ok.is c.open_all.ensures.ok) v t (sym there ∙ at)).0 ∙ sym (ap (λ s. s.site) (sym c.of-opening.ensures)), its_node (outside g.K.Disk g.Q.Device g.E.Entropy g.X.Wire) c.of-opening.result.value (λ m. m.node) (λ m. m.site.value) (λ m. m.up) (λ m. m.post) (λ a. (a.event, a.reply)) c.open_all.new.turnstiles.items c.take_out.new.managers.items c.open_all.new.machines.items c.open_all.ensures.machines (c.take_out.ensures.nodes ∙ ap (λ ps. count_up (length ps)) (ap (λ s. s.posts.items) (sym c.of-opening.ensures))) c.take_out.ensures.charters (c.take_out.ensures.managers ∙ (ap (λ s. s.posts.items) (sym c.of-opening.ensures))) (IfOk-at_ok (λ _. c.open_all.new.machines.items ≡ []) c.in-Ok.is c.open_all.ensures.ok) v t (sym there ∙ at))

pub serve_doors-ended-requires-clause-opened : goal.serve_doors-ended-requires-clause-opened
serve_doors-ended-requires-clause-opened g c κs within =
    let same = ap (λ (n : ℕ). n * (1000 * c.count.result)) (c.len.ensures ∙ c.args.doors.ok.0) ∙ ap (λ (n : ℕ). length c.args.doors.items * (1000 * n)) c.count.ensures.number in
    subst (λ (n : ℕ). AllZip (IsOpened n) c.deref.result.now c.deref_mut.result.now) same
    (subst (λ (ts : List _). AllZip (IsOpened (c.len.result * (1000 * c.count.result))) ts c.deref_mut.result.now) (sym c.deref.ensures.value)
    (subst (λ (ps : List _). AllZip (IsOpened (c.len.result * (1000 * c.count.result))) c.open_all.new.turnstiles.items ps) (sym c.deref_mut.ensures.value) c.open_all.ensures.opened))

pub close_all-requires-2-clause-whole : goal.close_all-requires-2-clause-whole
close_all-requires-2-clause-whole g c = subst (λ (ps : List _). AllZip HoldsAll c.open_all.new.turnstiles.items ps) (sym (written_over (c.len.result * (1000 * c.count.result)) c.open_all.new.turnstiles.items c.open_all.new.kept.items c.serve_doors-ended.new.kept c.open_all.new.kept.len c.open_all.ensures.opened (subst (λ (ts : List _). AllZip HoldsAll ts c.serve_doors-ended.new.kept) c.deref.ensures.value c.serve_doors-ended.ensures.whole) c.open_all.new.kept.ok.0)) (subst (λ (ts : List _). AllZip HoldsAll ts c.serve_doors-ended.new.kept) c.deref.ensures.value c.serve_doors-ended.ensures.whole)

pub close_all-requires-2-clause-room : goal.close_all-requires-2-clause-room
close_all-requires-2-clause-room g c =
    let n = as_many_first c.open_all.new.turnstiles.items c.take_out.new.managers.items c.open_all.new.machines.items c.open_all.ensures.machines in
    omega (arith, n, c.open_all.ensures.room, c.open_all.new.machines.ok.0, c.open_all.new.turnstiles.ok.0, c.take_out.new.managers.ok.0, c.take_out.new.managers.ok.1)

pub put_back-requires-2-clause-room : goal.put_back-requires-2-clause-room
put_back-requires-2-clause-room g c =
    let long = closed_long _ c.open_all.new.turnstiles.items (take c.open_all.new.kept.len (c.serve_doors-ended.new.kept ++ drop (length c.serve_doors-ended.new.kept) c.open_all.new.kept.items)) c.take_out.new.managers.items c.open_all.new.machines.items c.close_all-2.new.machines.items c.close_all-2.ensures c.open_all.ensures.machines in
    let many = sym (length-map (reverse c.take_out.new.managers.items) (λ m. m.post)) ∙ ap (λ xs. length xs) c.take_out.ensures.managers in
    let turned = length-reverse c.take_out.new.managers.items in
    omega (arith, long, many, turned, c.close_all-2.new.machines.ok.0, c.take_out.ensures.block.1, c.args.state.now.posts.ok.0, c.args.state.now.posts.ok.1)

pub returns-clause-armed : goal.returns-clause-armed
returns-clause-armed g c =
    let a = c.requires.ready in
    ap (λ ps. most_armed g.K.Disk ps) c.put_back-2.ensures.posts ∙ armed_after (outside g.K.Disk g.Q.Device g.E.Entropy g.X.Wire) c.of-opening.result.value (λ m. m.node) (λ m. m.site.value) (λ m. m.up) (λ m. m.post) (λ a. (a.event, a.reply)) c.open_all.new.turnstiles.items c.take_out.new.managers.items c.open_all.new.machines.items c.open_all.ensures.machines (c.take_out.ensures.nodes ∙ ap (λ ps. count_up (length ps)) (ap (λ s. s.posts.items) (sym c.of-opening.ensures))) c.take_out.ensures.charters (c.take_out.ensures.managers ∙ (ap (λ s. s.posts.items) (sym c.of-opening.ensures))) _ (take c.open_all.new.kept.len (c.serve_doors-ended.new.kept ++ drop (length c.serve_doors-ended.new.kept) c.open_all.new.kept.items)) c.close_all-2.new.machines.items c.close_all-2.ensures (λ m e a n h. record { may = h.0; took = h.1; kept = h.2 }) (IfOk-at_ok (λ _. c.open_all.new.machines.items ≡ []) c.in-Ok.is c.open_all.ensures.ok) a.0 a.1 (stands_at (outside g.K.Disk g.Q.Device g.E.Entropy g.X.Wire) c.args.state.now c.of-opening.result.value c.of-opening.ensures a.0 a.1 a.2)
    ∙ ap (λ ps. most_armed g.K.Disk ps) (sym (ap (λ s. s.posts.items) (sym c.of-opening.ensures)))

pub returns-clause-memory : goal.returns-clause-memory
returns-clause-memory g c e =
    let m = c.serve_doors-ended.ensures.memory e in
    let none = λ (v : ℕ). ap (λ (ps : List _). calls_at v ps) (written_over (c.len.result * (1000 * c.count.result)) c.open_all.new.turnstiles.items c.open_all.new.kept.items c.serve_doors-ended.new.kept c.open_all.new.kept.len c.open_all.ensures.opened (subst (λ (ts : List _). AllZip HoldsAll ts c.serve_doors-ended.new.kept) c.deref.ensures.value c.serve_doors-ended.ensures.whole) c.open_all.new.kept.ok.0) ∙ m.1 v in
    let posts = same_vec c.put_back-2.new.posts c.args.state.now.posts (c.put_back-2.ensures.block.0 ∙ c.take_out.ensures.block.0) (c.put_back-2.ensures.block.1 ∙ c.take_out.ensures.block.1)
    (c.put_back-2.ensures.posts ∙ came_back (outside g.K.Disk g.Q.Device g.E.Entropy g.X.Wire) c.of-opening.result.value (λ m. m.node) (λ m. m.site.value) (λ m. m.up) (λ m. m.post) (λ a. (a.event, a.reply)) c.open_all.new.turnstiles.items c.take_out.new.managers.items c.open_all.new.machines.items c.open_all.ensures.machines (c.take_out.ensures.nodes ∙ ap (λ ps. count_up (length ps)) (ap (λ s. s.posts.items) (sym c.of-opening.ensures))) c.take_out.ensures.charters (c.take_out.ensures.managers ∙ (ap (λ s. s.posts.items) (sym c.of-opening.ensures))) _ (take c.open_all.new.kept.len (c.serve_doors-ended.new.kept ++ drop (length c.serve_doors-ended.new.kept) c.open_all.new.kept.items)) c.close_all-2.new.machines.items c.close_all-2.ensures none ∙ sym (ap (λ s. s.posts.items) (sym c.of-opening.ensures))) in
    ((λ i. record c.args.state.now { posts = posts i }), m.0)

pub returns-clause-served : goal.returns-clause-served
returns-clause-served g c =
    of_state (outside g.K.Disk g.Q.Device g.E.Entropy g.X.Wire) (λ d. record { port = g.D.Listener.port d; accepted = g.D.Listener.accepted d; finished = g.D.Listener.finished d; waiting = g.D.Listener.waiting d; done = g.D.Listener.done d }) g.D.Listener.faults (¬ (c.serve_doors-ended.result ≡ Err refusals.Memory)) c.args.state.now c.of-opening.result.value c.put_back-2.new.posts c.args.connections c.args.doors.items c.serve_doors-ended.new.back.items
    (is_ok c.serve_doors-ended.result) c.of-opening.ensures
    (λ done net w stands.
    served_after (outside g.K.Disk g.Q.Device g.E.Entropy g.X.Wire) c.of-opening.result.value (λ m. m.node) (λ m. m.site.value) (λ m. m.up) (λ m. m.post) (λ a. (a.event, a.reply)) c.open_all.new.turnstiles.items c.take_out.new.managers.items c.open_all.new.machines.items c.open_all.ensures.machines (c.take_out.ensures.nodes ∙ ap (λ ps. count_up (length ps)) (ap (λ s. s.posts.items) (sym c.of-opening.ensures))) c.take_out.ensures.charters (c.take_out.ensures.managers ∙ (ap (λ s. s.posts.items) (sym c.of-opening.ensures))) _ (take c.open_all.new.kept.len (c.serve_doors-ended.new.kept ++ drop (length c.serve_doors-ended.new.kept) c.open_all.new.kept.items)) c.close_all-2.new.machines.items c.close_all-2.ensures (λ m e a n h. record { may = h.0; took = h.1; kept = h.2 }) (IfOk-at_ok (λ _. c.open_all.new.machines.items ≡ []) c.in-Ok.is c.open_all.ensures.ok) net w stands call_in (λ x. refl) (λ d. record { port = g.D.Listener.port d; accepted = g.D.Listener.accepted d; finished = g.D.Listener.finished d; waiting = g.D.Listener.waiting d; done = g.D.Listener.done d }) g.D.Listener.faults c.args.connections c.args.doors.items c.serve_doors-ended.new.back.items
    (is_ok c.serve_doors-ended.result) (subst (λ (d : Site). HaveAsked (λ d. record { port = g.D.Listener.port d; accepted = g.D.Listener.accepted d; finished = g.D.Listener.finished d; waiting = g.D.Listener.waiting d; done = g.D.Listener.done d }) g.D.Listener.faults d.nodes d.entitlements (length c.open_all.new.turnstiles.items) c.args.connections c.args.doors.items c.serve_doors-ended.new.back.items (λ v. map call_in (calls_at v (take c.open_all.new.kept.len (c.serve_doors-ended.new.kept ++ drop (length c.serve_doors-ended.new.kept) c.open_all.new.kept.items)))) (is_ok c.serve_doors-ended.result)) (ap (λ s. s.site) (sym c.of-opening.ensures))
    (subst (λ (ts : List _). HaveAsked (λ d. record { port = g.D.Listener.port d; accepted = g.D.Listener.accepted d; finished = g.D.Listener.finished d; waiting = g.D.Listener.waiting d; done = g.D.Listener.done d }) g.D.Listener.faults c.args.state.now.site.nodes c.args.state.now.site.entitlements (length ts) c.args.connections c.args.doors.items c.serve_doors-ended.new.back.items (λ v. map call_in (calls_at v (take c.open_all.new.kept.len (c.serve_doors-ended.new.kept ++ drop (length c.serve_doors-ended.new.kept) c.open_all.new.kept.items)))) (is_ok c.serve_doors-ended.result)) c.deref.ensures.value
    (subst (λ (ps : List _). HaveAsked (λ d. record { port = g.D.Listener.port d; accepted = g.D.Listener.accepted d; finished = g.D.Listener.finished d; waiting = g.D.Listener.waiting d; done = g.D.Listener.done d }) g.D.Listener.faults c.args.state.now.site.nodes c.args.state.now.site.entitlements (length c.deref.result.now) c.args.connections c.args.doors.items c.serve_doors-ended.new.back.items (λ v. map call_in (calls_at v ps)) (is_ok c.serve_doors-ended.result)) (sym (written_over (c.len.result * (1000 * c.count.result)) c.open_all.new.turnstiles.items c.open_all.new.kept.items c.serve_doors-ended.new.kept c.open_all.new.kept.len c.open_all.ensures.opened (subst (λ (ts : List _). AllZip HoldsAll ts c.serve_doors-ended.new.kept) c.deref.ensures.value c.serve_doors-ended.ensures.whole) c.open_all.new.kept.ok.0))
    (c.serve_doors-ended.ensures.asked done)))) _ refl c.put_back-2.ensures.posts refl refl refl)
