use Rattle.std.proofs.Common.{◌≡◌, ◌≤◌, ◌+◌, inl, inr, ℕ, List, Bool, IsTrue, length, sym, ◌∙◌, ap, subst, arith}
use Rattle.disk_model.specs.Images.{Torn}
use Rattle.disk_model.proofs.Moments.{joined, weaker}
use Rattle.journal_snapshot.specs.Layout.{mark_place}
use Rattle.journal_snapshot.specs.Checkpoint.{mark_of, cleared, drawn, IsClearing, IsDrawing, IsStage}
use Rattle.journal_snapshot.proofs.Areas.{cleared_longer, drawn_longer}
use Rattle.journal_snapshot.proofs.checkpoint.write_checkpoint.Goals as goal

pub write_synced-requires-clause-may : goal.write_synced-requires-clause-may
write_synced-requires-clause-may g c =
    let d = g.K.Disk in
    let old = c.args.disk.now in
    let mid = c.clear.new.disk in
    let new = c.draw.new.disk in
    let live = c.args.live in
    let c0 = d.content old in
    let mark_is : c.mark_place.result ≡ mark_of live = c.mark_place.ensures ∙ ap mark_place c.next-target.ensures in
    let mark_too : c.mark_place-2.result ≡ mark_of live = c.mark_place-2.ensures ∙ ap mark_place c.next-target.ensures in
    let longer : IsTrue (d.is_honest new) → c.mark_place-2.result + 1 ≤ length (d.content new) = λ h.
    let there = subst (λ (b : Bool). IsTrue b) c.draw.ensures.honest h in
    let first = subst (λ (b : Bool). IsTrue b) c.clear.ensures.honest there in
    omega (
      arith,
      mark_too,
      (c.requires.spots first).0,
      cleared_longer c.args.older c.mark_place.result c0,
      ap length (c.in_ok-clear.ensures.written first),
      drawn_longer live c.args.at c.args.block.now c.args.place (d.content mid),
      ap length (c.in_ok-draw.ensures.written there),
    ) in
    record {
      place = λ h. let le = longer h in omega (arith, le);
      end = λ h. let le = longer h in omega (arith, le);
      granted = subst (λ (b : Bool). IsTrue b) (sym (c.draw.ensures.room.0 ∙ c.clear.ensures.room.0)) c.requires.room.granted;
      left = omega (arith, c.requires.room.left, c.clear.ensures.left, c.draw.ensures.left);
      used = omega (arith, c.requires.room.used, c.clear.ensures.used, c.draw.ensures.used);
    }

pub returns-clause-moments : goal.returns-clause-moments
returns-clause-moments g c =
    let d = g.K.Disk in
    let old = c.args.disk.now in
    let mid = c.clear.new.disk in
    let new = c.draw.new.disk in
    let last = c.write_synced.new.disk in
    let live = c.args.live in
    let at = c.args.at in
    let block = c.args.block.now in
    let place = c.args.place in
    let c0 = d.content old in
    let mark_is : c.mark_place.result ≡ mark_of live = c.mark_place.ensures ∙ ap mark_place c.next-target.ensures in
    let mark_too : c.mark_place-2.result ≡ mark_of live = c.mark_place-2.ensures ∙ ap mark_place c.next-target.ensures in
    let P : List ℕ → Type 0 = λ i. IsTrue (d.is_honest old) → IsStage live c.args.older at block place c0 i in
    let mid_is : IsTrue (d.is_honest old) → d.content mid ≡ cleared c.args.older (mark_of live) c0 =
    λ h. c.in_ok-clear.ensures.written h ∙ ap (λ (m : ℕ). cleared c.args.older m c0) mark_is in
    let first = weaker d.moment d.image old mid _ P c.clear.ensures.moments (λ i o h. inl (subst (λ (m : ℕ). IsClearing c.args.older m c0 i) mark_is (o h))) in
    let second = weaker d.moment d.image mid new _ P c.draw.ensures.moments (λ i o h.
    let there = subst (λ (b : Bool). IsTrue b) (sym c.clear.ensures.honest) h in
    inr (inl (subst (λ (s : List ℕ). IsDrawing live at block place s i) (mid_is h) (o there)))) in
    let third = weaker d.moment d.image new last _ P c.write_synced.ensures.moments (λ i o h.
    let there = subst (λ (b : Bool). IsTrue b) (sym c.clear.ensures.honest) h in
    let here = subst (λ (b : Bool). IsTrue b) (sym c.draw.ensures.honest) there in
    let new_is : d.content new ≡ drawn live at block place (cleared c.args.older (mark_of live) c0) = c.in_ok-draw.ensures.written there ∙ ap (λ (s : List ℕ). drawn live at block place s) (mid_is h) in
    inr (inr (subst (λ (s : List ℕ). Torn (mark_of live) 1 s i) new_is (subst (λ (m : ℕ). Torn m 1 (d.content new) i) mark_too (o here))))) in
    joined d.moment d.image old new last P (joined d.moment d.image old mid new P first second) third
