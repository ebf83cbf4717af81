use Rattle.std.proofs.Common.{◌≡◌, sym, ap, ◌∙◌, Some}
use Rattle.std.specs.Prelude.{slice_get}
use Rattle.world_state.proofs.Ups.{manager_up, off_down}
use Rattle.world_state.proofs.state_reads.is_up.Goals as goal

pub returns-in-Some-On : goal.returns-in-Some-On
returns-in-Some-On g c net w stands =
    let place : c.from.result ≡ c.args.node = c.from.ensures ∙ c.get.ensures.number in
    let there = ap (slice_get c.args.state.now.posts.items) (sym place) ∙ c.in-Some-On.ensures ∙ ap Some c.in-Some-On.field-0-is in
    c.is_up.ensures ∙ manager_up g.K.Disk g.E.Entropy net w c.args.node c.in-Some-On.manager (stands.posts c.args.node _ there)

pub returns-in-Some-Off : goal.returns-in-Some-Off
returns-in-Some-Off g c net w stands =
    let place : c.from.result ≡ c.args.node = c.from.ensures ∙ c.get.ensures.number in
    let there = ap (slice_get c.args.state.now.posts.items) (sym place) ∙ c.in-Some-Off.ensures ∙ ap Some c.in-Some-Off.field-0-is in
    sym (off_down g.K.Disk g.E.Entropy net w c.args.node _ _ (stands.posts c.args.node _ there))
