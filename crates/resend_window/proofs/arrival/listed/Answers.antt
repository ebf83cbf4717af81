use Rattle.std.proofs.Common.{◌≡◌, ◌+◌, List, ℕ, Option, [], ◌∷◌, take, length, refl, sym, subst, ap, ◌∙◌, arith}
use Rattle.std.specs.Prelude.{map}
use Rattle.relay_core.proofs.Firsts.{got}
use Rattle.resend_window.specs.declared.catalogue.Catalogue.{Catalogue}
use Rattle.resend_window.specs.declared.arrival.Arrival.{Arrival}
use Rattle.resend_window.specs.Catalogued.{Catalogues}
use Rattle.resend_window.specs.Groups.{arrival_groups}
use Rattle.resend_window.proofs.Edits.{take_more}
use Rattle.resend_window.proofs.Frames.{length_take, take_long}
use Rattle.resend_window.proofs.Grouped.{listed_gap, listed_more, keys_length}
use Rattle.resend_window.proofs.arrival.listed.Goals as goal
use Rattle.resend_window.proofs.arrival.listed.Goals.{in-None, in-Some}

pub loop-place-preserved : goal.loop-place-preserved
loop-place-preserved c =
    let o = c.index-pending-place.result in
    let first = take c.loop-place.place c.args.pending.now in
    let there = got c.args.pending.now c.loop-place.place o c.loop-place-test.true c.index-pending-place.is in
    let more = take_more c.args.pending.now c.loop-place.place o there in
    let size = keys_length arrival_groups first ∙ length_take c.loop-place.place c.args.pending.now (omega arith) in
    elim c.match-pending-place.branch [
      | in-None w ↦
          subst (λ (i : Catalogue). Catalogues (map arrival_groups (take (c.loop-place.place + 1) c.args.pending.now)) i) (sym w.index-is)
          (listed_gap arrival_groups first (take (c.loop-place.place + 1) c.args.pending.now) o c.loop-place.index more (ap arrival_groups w.in-None.is) c.loop-place.invariant)
      | in-Some w ↦
          subst (λ (i : Catalogue). Catalogues (map arrival_groups (take (c.loop-place.place + 1) c.args.pending.now)) i) (sym w.index-is)
          (listed_more arrival_groups first (take (c.loop-place.place + 1) c.args.pending.now) o w.lane_group.result w.place_group.result w.add.new.self more
          (ap arrival_groups w.in-Some.is ∙ (let a = sym w.lane_group.ensures in let b = sym w.place_group.ensures in λ i. a i ∷ b i ∷ [])) (w.add.ensures (map arrival_groups first) size c.loop-place.invariant))
    ]

pub returns : goal.returns
returns c =
    subst (λ (xs : List (Option Arrival)). Catalogues (map arrival_groups xs) c.loop-place.index) (take_long c.loop-place.place c.args.pending.now c.loop-place-test.false) c.loop-place.invariant
