use Rattle.std.proofs.Common.{◌+◌, List, ℕ, Option, [], ◌∷◌, take, sym, subst, ap, ◌∙◌, arith}
use Rattle.std.specs.Prelude.{map}
use Rattle.relay_core.proofs.Firsts.{got}
use Rattle.resend_window.specs.declared.catalogue.Catalogue.{Catalogue}
use Rattle.resend_window.specs.declared.awaited.Awaited.{Awaited}
use Rattle.resend_window.specs.Catalogued.{Catalogues}
use Rattle.resend_window.specs.Groups.{awaited_groups}
use Rattle.resend_window.proofs.Edits.{take_more}
use Rattle.resend_window.proofs.Frames.{length_take, take_long}
use Rattle.resend_window.proofs.Grouped.{listed_gap, listed_one, keys_length}
use Rattle.resend_window.proofs.awaited.listed.Goals as goal
use Rattle.resend_window.proofs.awaited.listed.Goals.{in-None, in-Some}

pub loop-place-preserved : goal.loop-place-preserved
loop-place-preserved c =
    let o = c.index-awaiting-place.result in
    let first = take c.loop-place.place c.args.awaiting.now in
    let there = got c.args.awaiting.now c.loop-place.place o c.loop-place-test.true c.index-awaiting-place.is in
    let more = take_more c.args.awaiting.now c.loop-place.place o there in
    let size = keys_length awaited_groups first ∙ length_take c.loop-place.place c.args.awaiting.now (omega arith) in
    elim c.match-awaiting-place.branch [
      | in-None w ↦
          subst (λ (i : Catalogue). Catalogues (map awaited_groups (take (c.loop-place.place + 1) c.args.awaiting.now)) i) (sym w.index-is)
          (listed_gap awaited_groups first (take (c.loop-place.place + 1) c.args.awaiting.now) o c.loop-place.index more (ap awaited_groups w.in-None.is) c.loop-place.invariant)
      | in-Some w ↦
          subst (λ (i : Catalogue). Catalogues (map awaited_groups (take (c.loop-place.place + 1) c.args.awaiting.now)) i) (sym w.index-is)
          (listed_one awaited_groups first (take (c.loop-place.place + 1) c.args.awaiting.now) o w.group.result w.append.new.self more
          (ap awaited_groups w.in-Some.is ∙ ap (λ (g : List ℕ). g ∷ []) (sym w.group.ensures)) (w.append.ensures (map awaited_groups first) size c.loop-place.invariant))
    ]

pub returns : goal.returns
returns c =
    subst (λ (xs : List (Option Awaited)). Catalogues (map awaited_groups xs) c.loop-place.index) (take_long c.loop-place.place c.args.awaiting.now c.loop-place-test.false) c.loop-place.invariant
