use Rattle.std.proofs.Common.{◌≡◌, ℕ, ◌≤◌, ◌<◌, ◌^◌, true, false, List, [], ◌∷◌, Option, Some, None, sym, ap, ◌∙◌, arith}
use Rattle.std.specs.Prelude.{nat_lt}
use Rattle.qkd_base.specs.Lane.{lane_place}
use Rattle.ordered_set.specs.Entries.{IsNextIn}
use Rattle.run_audit.specs.declared.frames.Frame.{Frame}
use Rattle.run_audit.specs.Table.{at}
use Rattle.run_audit.specs.Kept.{place_key, offset_at, is_last, ArePlaced}
use Rattle.run_audit.proofs.Apart.{IsFirstEnd, agrees_last, free_at, last_is_found}
use Rattle.run_audit.proofs.frames.Places.is_free.Goals as goal

pub returns-in-None : goal.returns-in-None
returns-in-None c fs placed new =
    let f : Frame = c.args.frame.now in
    sym (agrees_last f fs (omega arith) (λ x le lt. sym (placed.lasts f.lane x) ∙ (c.in-None.ensures {u = tt}).last (lane_place f.lane ∷ 0 ∷ 0 ∷ 0 ∷ []) f.offset c.last_entry.ensures x le lt))

pub returns-in-Some-find : goal.returns-in-Some-find
returns-in-Some-find c fs placed new =
    let f : Frame = c.args.frame.now in
    let next : IsNextIn c.args.self.now.lasts (lane_place f.lane ∷ 0 ∷ 0 ∷ 0 ∷ []) f.offset c.in-Some.last = (c.in-Some.ensures {u = tt}).next (lane_place f.lane ∷ 0 ∷ 0 ∷ 0 ∷ []) f.offset c.last_entry.ensures in
    let first : IsFirstEnd f c.in-Some.last fs = record { behind_it = next.behind; first = λ x le lt. sym (placed.lasts f.lane x) ∙ next.first x le lt } in
    let there : offset_at f.lane c.in-Some.last fs ≡ Some c.in-Some-find.offset.now = sym (placed.offsets f.lane c.in-Some.last) ∙ ap (at c.args.self.now.offsets) (sym c.place_key.ensures) ∙ sym (c.in-Some-find.ensures {u = tt}) in
    let free = free_at f c.in-Some.last c.in-Some-find.offset.now fs placed.apart (omega arith) new first there in
    ap (λ (n : ℕ). nat_lt n c.in-Some-find.offset.now) c.last_of.ensures ∙ free

pub returns-in-None-find : goal.returns-in-None-find
returns-in-None-find c fs placed new =
    let f : Frame = c.args.frame.now in
    let next : IsNextIn c.args.self.now.lasts (lane_place f.lane ∷ 0 ∷ 0 ∷ 0 ∷ []) f.offset c.in-Some.last = (c.in-Some.ensures {u = tt}).next (lane_place f.lane ∷ 0 ∷ 0 ∷ 0 ∷ []) f.offset c.last_entry.ensures in
    let ends : is_last f.lane c.in-Some.last fs ≡ true = sym (placed.lasts f.lane c.in-Some.last) ∙ next.there in
    let none : offset_at f.lane c.in-Some.last fs ≡ None = sym (placed.offsets f.lane c.in-Some.last) ∙ ap (at c.args.self.now.offsets) (sym c.place_key.ensures) ∙ sym (c.in-None-find.ensures {u = tt}) in
    absurd (last_is_found f.lane c.in-Some.last fs ends none)
