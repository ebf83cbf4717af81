use Rattle.std.proofs.Common.{◌≡◌, ℕ, ◌+◌, ◌<◌, ◌≤◌, Bool, List, [], ◌∷◌, ◌++◌, length, take, drop, None, sym, ap, subst, ◌∙◌, arith}
use Rattle.std.specs.List.{All}
use Rattle.std.proofs.lemmas.List.{length-take-le, take_more}
use Rattle.std.proofs.lemmas.List.Elements.{All-push}
use Rattle.pad_veil.specs.declared.sealed_frame.SealedFrame.{SealedFrame}
use Rattle.pad_veil.specs.Faults.{end_of, Marks, fault_of, fault_after, first_fault}
use Rattle.pad_veil.proofs.Spans.{Passes, passes, next_passes}
use Rattle.pad_veil.proofs.faults.first_fault.Goals as goal

pub loop-place-preserved : goal.loop-place-preserved
loop-place-preserved c =
    let frames : List SealedFrame = c.args.frames.now in
    let place : ℕ = c.loop-place.place in
    let spent : List Bool = c.loop-place.spent in
    let f : SealedFrame = c.index-frames-place.result in
    let lt : place < length frames = omega arith in
    let fault : fault_of (length spent) (take place frames) f ≡ None =
    sym (c.fault_of.ensures (take place frames) (length-take-le place frames (omega (arith, lt))) c.loop-place.invariant.marks c.loop-place.invariant.high) ∙ c.in_default.is in
    let p : Passes (length spent) (take place frames) f = passes (length spent) (take place frames) f fault in
    let kept : length c.spend.new.spent ≡ length spent = c.spend.auto.spent in
    let more : take (place + 1) frames ≡ take place frames ++ f ∷ [] = take_more frames place f lt ∙ ap (λ (x : SealedFrame). take place frames ++ x ∷ []) (sym c.index-frames-place.is) in
    record {
      marks = subst (λ (l : List SealedFrame). Marks l c.spend.new.spent) (sym more) (c.spend.ensures (take place frames) c.loop-place.invariant.marks);
      size = kept ∙ c.loop-place.invariant.size;
      high = subst (λ (n : ℕ). All (λ g. end_of g ≤ n) (take (place + 1) frames)) (sym kept)
          (subst (All (λ g. end_of g ≤ length spent)) (sym more) (All-push (λ (g : SealedFrame). end_of g ≤ length spent) (take place frames) f c.loop-place.invariant.high p.high));
      rest = subst (λ (n : ℕ). fault_after n (take (place + 1) frames) (drop (place + 1) frames) ≡ first_fault (length c.args.spent.now) frames) (sym kept)
          (next_passes (length spent) frames place f lt c.index-frames-place.is fault ∙ c.loop-place.invariant.rest);
    }
