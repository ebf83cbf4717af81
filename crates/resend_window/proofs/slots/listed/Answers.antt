use Rattle.std.proofs.Common.{◌≡◌, ◌+◌, ◌++◌, List, ℕ, Option, [], ◌∷◌, take, length, refl, sym, subst, ap, ◌∙◌, arith}
use Rattle.std.specs.Prelude.{map}
use Rattle.relay_core.proofs.Firsts.{got}
use Rattle.resend_window.specs.declared.catalogue.Catalogue.{Catalogue}
use Rattle.resend_window.specs.declared.held.Held.{Held}
use Rattle.resend_window.specs.Catalogued.{Catalogues}
use Rattle.resend_window.specs.Groups.{held_groups}
use Rattle.resend_window.proofs.Edits.{take_more}
use Rattle.resend_window.proofs.Frames.{length_take, take_long}
use Rattle.resend_window.proofs.Grouped.{listed_gap, keys_push, keys_length}
use Rattle.resend_window.proofs.slots.listed.Goals as goal
use Rattle.resend_window.proofs.slots.listed.Goals.{in-None, in-Some}

pub loop-place-preserved : goal.loop-place-preserved
loop-place-preserved c =
    let o = c.index-slots-place.result in
    let first = take c.loop-place.place c.args.slots.now in
    let there = got c.args.slots.now c.loop-place.place o c.loop-place-test.true c.index-slots-place.is in
    let more = take_more c.args.slots.now c.loop-place.place o there in
    let size = keys_length held_groups first ∙ length_take c.loop-place.place c.args.slots.now (omega arith) in
    elim c.match-slots-place.branch [
      | in-None w ↦
          subst (λ (i : Catalogue). Catalogues (map held_groups (take (c.loop-place.place + 1) c.args.slots.now)) i) (sym w.index-is)
          (listed_gap held_groups first (take (c.loop-place.place + 1) c.args.slots.now) o c.loop-place.index more (ap held_groups w.in-None.is) c.loop-place.invariant)
      | in-Some w ↦
          subst (λ (i : Catalogue). Catalogues (map held_groups (take (c.loop-place.place + 1) c.args.slots.now)) i) (sym w.index-is)
          (subst (λ (ks : List (List (List ℕ))). Catalogues ks w.enlist.new.index)
          (sym (ap (map held_groups) more ∙ keys_push held_groups first o ∙ ap (λ (q : Option Held). map held_groups first ++ held_groups q ∷ []) w.in-Some.is))
          (w.enlist.ensures (map held_groups first) size c.loop-place.invariant))
    ]

pub returns : goal.returns
returns c =
    subst (λ (xs : List (Option Held)). Catalogues (map held_groups xs) c.loop-place.index) (take_long c.loop-place.place c.args.slots.now c.loop-place-test.false) c.loop-place.invariant
