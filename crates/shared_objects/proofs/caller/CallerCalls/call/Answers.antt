use Rattle.std.proofs.Common.{rules, ◌<◌, length, refl, arith}
use Rattle.std.proofs.lemmas.Option.{slice_get_read}
use Rattle.turnstile.specs.Turns.{turn_of}
use Rattle.shared_objects.proofs.ScriptCalling.{in_turnstiles, in_posts, may_sit, may_call, may_ask, sits_on, said_one, answered, others_unseen}
use Rattle.shared_objects.proofs.caller.CallerCalls.call.Goals as goal

pub index_mut-post-requires : goal.index_mut-post-requires
index_mut-post-requires g c =
    let l = in_posts g.M.Machine.takes g.M.Machine.charter c.args.self.now.turnstiles.now c.args.self.now.posts.items (record { machine = c.args.machine; request = c.args.request }) c.requires.placed c.requires.taken in
    omega (arith, l, c.args.self.now.posts.ok.0)

pub bounds-turnstiles-machine : goal.bounds-turnstiles-machine
bounds-turnstiles-machine g c = in_turnstiles g.M.Machine.takes g.M.Machine.charter c.args.self.now.turnstiles.now c.args.self.now.posts.items (record { machine = c.args.machine; request = c.args.request }) c.requires.placed c.requires.taken

pub offset_bounds-turnstiles-machine : goal.offset_bounds-turnstiles-machine
offset_bounds-turnstiles-machine g c =
    let l : c.args.machine < length c.args.self.now.turnstiles.now =
    in_turnstiles g.M.Machine.takes g.M.Machine.charter c.args.self.now.turnstiles.now c.args.self.now.posts.items (record { machine = c.args.machine; request = c.args.request }) c.requires.placed c.requires.taken in
    search rules

pub call-requires-clause-fits : goal.call-requires-clause-fits
call-requires-clause-fits g c =
    let l = in_turnstiles g.M.Machine.takes g.M.Machine.charter c.args.self.now.turnstiles.now c.args.self.now.posts.items (record { machine = c.args.machine; request = c.args.request }) c.requires.placed c.requires.taken in
    let m = in_posts g.M.Machine.takes g.M.Machine.charter c.args.self.now.turnstiles.now c.args.self.now.posts.items (record { machine = c.args.machine; request = c.args.request }) c.requires.placed c.requires.taken in
    let et = slice_get_read c.args.self.now.turnstiles.now (length c.args.self.now.turnstiles.now) c.args.machine c.index-turnstiles-machine.result refl l c.index-turnstiles-machine.is in
    let ep = slice_get_read c.args.self.now.posts.items (length c.args.self.now.posts.items) c.args.machine c.index_mut-post.result.now refl m c.index_mut-post.ensures.value in
    (may_sit g.M.Machine.takes g.M.Machine.charter c.args.self.now.turnstiles.now c.args.self.now.posts.items (record { machine = c.args.machine; request = c.args.request }) c.requires.placed c.requires.taken c.index-turnstiles-machine.result c.index_mut-post.result.now et ep).fits

pub call-requires-clause-budget : goal.call-requires-clause-budget
call-requires-clause-budget g c =
    let l = in_turnstiles g.M.Machine.takes g.M.Machine.charter c.args.self.now.turnstiles.now c.args.self.now.posts.items (record { machine = c.args.machine; request = c.args.request }) c.requires.placed c.requires.taken in
    let m = in_posts g.M.Machine.takes g.M.Machine.charter c.args.self.now.turnstiles.now c.args.self.now.posts.items (record { machine = c.args.machine; request = c.args.request }) c.requires.placed c.requires.taken in
    let et = slice_get_read c.args.self.now.turnstiles.now (length c.args.self.now.turnstiles.now) c.args.machine c.index-turnstiles-machine.result refl l c.index-turnstiles-machine.is in
    let ep = slice_get_read c.args.self.now.posts.items (length c.args.self.now.posts.items) c.args.machine c.index_mut-post.result.now refl m c.index_mut-post.ensures.value in
    may_call g.M.Machine.takes g.M.Machine.charter c.args.self.now.turnstiles.now c.args.self.now.posts.items (record { machine = c.args.machine; request = c.args.request }) c.requires.placed c.requires.taken c.index-turnstiles-machine.result c.index_mut-post.result.now et ep c.requires.budget

pub call-requires-clause-takes : goal.call-requires-clause-takes
call-requires-clause-takes g c =
    let l = in_turnstiles g.M.Machine.takes g.M.Machine.charter c.args.self.now.turnstiles.now c.args.self.now.posts.items (record { machine = c.args.machine; request = c.args.request }) c.requires.placed c.requires.taken in
    let m = in_posts g.M.Machine.takes g.M.Machine.charter c.args.self.now.turnstiles.now c.args.self.now.posts.items (record { machine = c.args.machine; request = c.args.request }) c.requires.placed c.requires.taken in
    let et = slice_get_read c.args.self.now.turnstiles.now (length c.args.self.now.turnstiles.now) c.args.machine c.index-turnstiles-machine.result refl l c.index-turnstiles-machine.is in
    let ep = slice_get_read c.args.self.now.posts.items (length c.args.self.now.posts.items) c.args.machine c.index_mut-post.result.now refl m c.index_mut-post.ensures.value in
    may_ask g.M.Machine.takes g.M.Machine.charter c.args.self.now.turnstiles.now c.args.self.now.posts.items (record { machine = c.args.machine; request = c.args.request }) c.requires.placed c.requires.taken c.index-turnstiles-machine.result c.index_mut-post.result.now et ep

pub returns-clause-placed : goal.returns-clause-placed
returns-clause-placed g c =
    let l = in_turnstiles g.M.Machine.takes g.M.Machine.charter c.args.self.now.turnstiles.now c.args.self.now.posts.items (record { machine = c.args.machine; request = c.args.request }) c.requires.placed c.requires.taken in
    let m = in_posts g.M.Machine.takes g.M.Machine.charter c.args.self.now.turnstiles.now c.args.self.now.posts.items (record { machine = c.args.machine; request = c.args.request }) c.requires.placed c.requires.taken in
    let et = slice_get_read c.args.self.now.turnstiles.now (length c.args.self.now.turnstiles.now) c.args.machine c.index-turnstiles-machine.result refl l c.index-turnstiles-machine.is in
    let ep = slice_get_read c.args.self.now.posts.items (length c.args.self.now.posts.items) c.args.machine c.index_mut-post.result.now refl m c.index_mut-post.ensures.value in
    sits_on c.args.self.now.turnstiles.now c.args.self.now.posts.items (record { machine = c.args.machine; place = c.call.result.0; request = c.args.request; reply = c.call.result.1 }) c.index-turnstiles-machine.result c.index_mut-post.result.now
    (record { place = c.index_mut-post.result.now.place; seat = c.call.new.seat }) et ep
    (record { fits = c.call.ensures.fits; history = (c.call.ensures.history.0, c.call.ensures.history.1, c.call.ensures.history.2); own = c.call.ensures.own; stands = c.call.ensures.stands; budget = c.call.ensures.budget })
    c.requires.placed

pub returns-clause-went : goal.returns-clause-went
returns-clause-went g c =
    let l = in_turnstiles g.M.Machine.takes g.M.Machine.charter c.args.self.now.turnstiles.now c.args.self.now.posts.items (record { machine = c.args.machine; request = c.args.request }) c.requires.placed c.requires.taken in
    let m = in_posts g.M.Machine.takes g.M.Machine.charter c.args.self.now.turnstiles.now c.args.self.now.posts.items (record { machine = c.args.machine; request = c.args.request }) c.requires.placed c.requires.taken in
    let et = slice_get_read c.args.self.now.turnstiles.now (length c.args.self.now.turnstiles.now) c.args.machine c.index-turnstiles-machine.result refl l c.index-turnstiles-machine.is in
    let ep = slice_get_read c.args.self.now.posts.items (length c.args.self.now.posts.items) c.args.machine c.index_mut-post.result.now refl m c.index_mut-post.ensures.value in
    record {
      same = refl;
      told = said_one c.args.self.now.turnstiles.now c.args.self.now.posts.items (record { machine = c.args.machine; place = c.call.result.0; request = c.args.request; reply = c.call.result.1 }) c.index-turnstiles-machine.result c.index_mut-post.result.now
          (record { place = c.index_mut-post.result.now.place; seat = c.call.new.seat }) et ep
          (record { fits = c.call.ensures.fits; history = (c.call.ensures.history.0, c.call.ensures.history.1, c.call.ensures.history.2); own = c.call.ensures.own; stands = c.call.ensures.stands; budget = c.call.ensures.budget });
    }

pub returns-clause-answered : goal.returns-clause-answered
returns-clause-answered g c =
    let l = in_turnstiles g.M.Machine.takes g.M.Machine.charter c.args.self.now.turnstiles.now c.args.self.now.posts.items (record { machine = c.args.machine; request = c.args.request }) c.requires.placed c.requires.taken in
    let m = in_posts g.M.Machine.takes g.M.Machine.charter c.args.self.now.turnstiles.now c.args.self.now.posts.items (record { machine = c.args.machine; request = c.args.request }) c.requires.placed c.requires.taken in
    let et = slice_get_read c.args.self.now.turnstiles.now (length c.args.self.now.turnstiles.now) c.args.machine c.index-turnstiles-machine.result refl l c.index-turnstiles-machine.is in
    let ep = slice_get_read c.args.self.now.posts.items (length c.args.self.now.posts.items) c.args.machine c.index_mut-post.result.now refl m c.index_mut-post.ensures.value in
    answered c.args.self.now.turnstiles.now c.args.self.now.posts.items (record { machine = c.args.machine; place = c.call.result.0; request = c.args.request; reply = c.call.result.1 }) c.index-turnstiles-machine.result c.index_mut-post.result.now
    (record { place = c.index_mut-post.result.now.place; seat = c.call.new.seat }) et ep
    (record { fits = c.call.ensures.fits; history = (c.call.ensures.history.0, c.call.ensures.history.1, c.call.ensures.history.2); own = c.call.ensures.own; stands = c.call.ensures.stands; budget = c.call.ensures.budget })
    (turn_of g.M.Machine.charter g.M.Machine.takes g.M.Machine.turns) c.call.ensures.history.0 c.call.ensures.history.2 c.call.ensures.history.1 c.call.ensures.history.3 c.call.ensures.legal

pub returns-clause-others : goal.returns-clause-others
returns-clause-others g c =
    let l = in_turnstiles g.M.Machine.takes g.M.Machine.charter c.args.self.now.turnstiles.now c.args.self.now.posts.items (record { machine = c.args.machine; request = c.args.request }) c.requires.placed c.requires.taken in
    let m = in_posts g.M.Machine.takes g.M.Machine.charter c.args.self.now.turnstiles.now c.args.self.now.posts.items (record { machine = c.args.machine; request = c.args.request }) c.requires.placed c.requires.taken in
    let et = slice_get_read c.args.self.now.turnstiles.now (length c.args.self.now.turnstiles.now) c.args.machine c.index-turnstiles-machine.result refl l c.index-turnstiles-machine.is in
    let ep = slice_get_read c.args.self.now.posts.items (length c.args.self.now.posts.items) c.args.machine c.index_mut-post.result.now refl m c.index_mut-post.ensures.value in
    others_unseen c.args.self.now.turnstiles.now c.args.self.now.posts.items (record { machine = c.args.machine; place = c.call.result.0; request = c.args.request; reply = c.call.result.1 }) c.index-turnstiles-machine.result c.index_mut-post.result.now
    (record { place = c.index_mut-post.result.now.place; seat = c.call.new.seat }) et ep
    (record { fits = c.call.ensures.fits; history = (c.call.ensures.history.0, c.call.ensures.history.1, c.call.ensures.history.2); own = c.call.ensures.own; stands = c.call.ensures.stands; budget = c.call.ensures.budget })
