use Rattle.std.proofs.Common.{◌≡◌, refl, sym, ap, ◌∙◌, arith, Some}
use Rattle.std.specs.Prelude.{slice_get}
use Rattle.std.proofs.lemmas.Option.{slice_get-get_or}
use Rattle.world_state.proofs.Armed.{most_same, times_same}
use Rattle.world_state.proofs.Changes.{with_post}
use Rattle.world_state.proofs.Disks.{has_disks}
use Rattle.world_state.proofs.Endings.{on_err}
use Rattle.world_state.proofs.OnePost.{stands_still}
use Rattle.world_state.proofs.PlanAndNote.{may_note, noted_ready}
use Rattle.world_state.proofs.PostTallies.{noted_tallied, stayed_tallied}
use Rattle.world_state.proofs.node_tick.note.Goals as goal
use Rattle.world_state.specs.Outside.{outside}

pub note-requires : goal.note-requires
note-requires g c =
    let place : c.from.result ≡ c.args.node = c.from.ensures ∙ c.get.ensures.number in
    let below = c.in-Some.ensures.variant.0 refl in
    let as_long = c.args.state.now.posts.ok.0 in
    let there = ap (slice_get c.args.state.now.posts.items) (sym place) ∙ slice_get-get_or c.args.state.now.posts.items c.from.result c.in-Some.post.now (omega (arith, below, as_long)) ∙ ap Some (sym c.in-Some.ensures.value) in
    let a = c.requires.sent in
    record { asked = (a.0, a.1, c.args.node, may_note (outside g.K.Disk g.Q.Device g.E.Entropy g.X.Wire) c.args.state.now a.0 a.1 c.args.node c.in-Some.post.now c.args.placings a.2 there) }

pub returns-in_err-note-in-Some-clause-armed : goal.returns-in_err-note-in-Some-clause-armed
returns-in_err-note-in-Some-clause-armed g c =
    let place : c.from.result ≡ c.args.node = c.from.ensures ∙ c.get.ensures.number in
    let below = c.in-Some.ensures.variant.0 refl in
    let as_long = c.args.state.now.posts.ok.0 in
    let at = slice_get-get_or c.args.state.now.posts.items c.from.result c.in-Some.post.now (omega (arith, below, as_long)) ∙ ap Some (sym c.in-Some.ensures.value) in
    let there = ap (slice_get c.args.state.now.posts.items) (sym place) ∙ at in
    let a = c.requires.sent in
    let may = may_note (outside g.K.Disk g.Q.Device g.E.Entropy g.X.Wire) c.args.state.now a.0 a.1 c.args.node c.in-Some.post.now c.args.placings a.2 there in
    most_same g.K.Disk c.args.state.now.posts.items c.from.result c.in-Some.post.now c.note.new.post at
    (times_same g.K.Disk g.E.Entropy _ _ c.in-Some.post.now c.note.new.post (c.in_err-note-in-Some.ensures.counts a.0 a.1 c.args.node may))

pub returns-in_err-note-in-Some-clause-err : goal.returns-in_err-note-in-Some-clause-err
returns-in_err-note-in-Some-clause-err g c =
    on_err c.from_residual.result (λ net w h.
    let place : c.from.result ≡ c.args.node = c.from.ensures ∙ c.get.ensures.number in
    let below = c.in-Some.ensures.variant.0 refl in
    let as_long = c.args.state.now.posts.ok.0 in
    let there = ap (slice_get c.args.state.now.posts.items) (sym place) ∙ slice_get-get_or c.args.state.now.posts.items c.from.result c.in-Some.post.now (omega (arith, below, as_long)) ∙ ap Some (sym c.in-Some.ensures.value) in
    let may = may_note (outside g.K.Disk g.Q.Device g.E.Entropy g.X.Wire) c.args.state.now net w c.args.node c.in-Some.post.now c.args.placings h there in
    let stayed = c.in_err-note-in-Some.ensures.err net w c.args.node may in
    let change = with_post c.args.state.now c.args.node c.from.result c.in-Some.post.now c.note.new.post place there in
    record {
      stands = stands_still (outside g.K.Disk g.Q.Device g.E.Entropy g.X.Wire) c.args.state.now _ net w c.args.node c.in-Some.post.now c.note.new.post change h.stands stayed;
      tallied = stayed_tallied (outside g.K.Disk g.Q.Device g.E.Entropy g.X.Wire) net.site c.args.state.now _ c.args.node c.in-Some.post.now c.note.new.post change
          (has_disks (outside g.K.Disk g.Q.Device g.E.Entropy g.X.Wire) c.args.state.now net w h.stands) (c.in_err-note-in-Some.ensures.counts net w c.args.node may);
    })

pub returns-in_ok-note-in-Some-clause-armed : goal.returns-in_ok-note-in-Some-clause-armed
returns-in_ok-note-in-Some-clause-armed g c =
    let place : c.from.result ≡ c.args.node = c.from.ensures ∙ c.get.ensures.number in
    let below = c.in-Some.ensures.variant.0 refl in
    let as_long = c.args.state.now.posts.ok.0 in
    let at = slice_get-get_or c.args.state.now.posts.items c.from.result c.in-Some.post.now (omega (arith, below, as_long)) ∙ ap Some (sym c.in-Some.ensures.value) in
    let there = ap (slice_get c.args.state.now.posts.items) (sym place) ∙ at in
    let a = c.requires.sent in
    let may = may_note (outside g.K.Disk g.Q.Device g.E.Entropy g.X.Wire) c.args.state.now a.0 a.1 c.args.node c.in-Some.post.now c.args.placings a.2 there in
    most_same g.K.Disk c.args.state.now.posts.items c.from.result c.in-Some.post.now c.note.new.post at
    (times_same g.K.Disk g.E.Entropy _ _ c.in-Some.post.now c.note.new.post (c.in_ok-note-in-Some.ensures.ok a.0 a.1 c.args.node may).counts)

pub returns-in_ok-note-in-Some-clause-ok : goal.returns-in_ok-note-in-Some-clause-ok
returns-in_ok-note-in-Some-clause-ok g c net w h =
    let place : c.from.result ≡ c.args.node = c.from.ensures ∙ c.get.ensures.number in
    let below = c.in-Some.ensures.variant.0 refl in
    let as_long = c.args.state.now.posts.ok.0 in
    let there = ap (slice_get c.args.state.now.posts.items) (sym place) ∙ slice_get-get_or c.args.state.now.posts.items c.from.result c.in-Some.post.now (omega (arith, below, as_long)) ∙ ap Some (sym c.in-Some.ensures.value) in
    let may = may_note (outside g.K.Disk g.Q.Device g.E.Entropy g.X.Wire) c.args.state.now net w c.args.node c.in-Some.post.now c.args.placings h there in
    let noted = c.in_ok-note-in-Some.ensures.ok net w c.args.node may in
    let change = with_post c.args.state.now c.args.node c.from.result c.in-Some.post.now c.note.new.post place there in
    record {
      may = noted.may;
      reply = _;
      said = noted.said;
      ready = noted_ready (outside g.K.Disk g.Q.Device g.E.Entropy g.X.Wire) c.args.state.now net w c.args.node c.in-Some.post.now c.args.placings h _ c.note.new.post change noted.may noted.stands;
      tallied = noted_tallied (outside g.K.Disk g.Q.Device g.E.Entropy g.X.Wire) net.site c.args.state.now _ c.args.node c.in-Some.post.now c.note.new.post change
          (has_disks (outside g.K.Disk g.Q.Device g.E.Entropy g.X.Wire) c.args.state.now net w h.stands) noted.counts;
    }
