use Rattle.std.proofs.Common.{◌≡◌, ℕ, List, length, None, sym, subst}
use Rattle.std.specs.List.{All}
use Rattle.pad_veil.specs.declared.sealed_frame.SealedFrame.{SealedFrame}
use Rattle.pad_veil.specs.Faults.{first_fault, LieApart}
use Rattle.pad_veil.specs.Veil.{veil, IsVeil, Fits}
use Rattle.pad_veil.proofs.Spans.{apart_where}
use Rattle.pad_veil.proofs.Veils.{is_veil, all_fit}
use Rattle.pad_veil.proofs.veil.veiled.Goals as goal

pub veil_of-requires : goal.veil_of-requires
veil_of-requires c = apart_where (length c.args.lane.now) c.as_slice-frames.result.now c.in_ok-refuse.ensures

pub returns : goal.returns
returns c =
    let bytes : List ℕ = c.args.lane.now in
    let frames : List SealedFrame = c.args.frames.now in
    let same : c.as_slice-frames.result.now ≡ frames = c.as_slice-frames.ensures in
    let apart : LieApart (length bytes) frames = subst (LieApart (length bytes)) same (apart_where (length bytes) c.as_slice-frames.result.now c.in_ok-refuse.ensures) in
    let is : c.in_ok-answer.answer ≡ veil bytes frames = subst (λ (fs : List SealedFrame). c.in_ok-answer.answer ≡ veil bytes fs) same c.in_ok-answer.ensures in
    record {
      refused = subst (λ (fs : List SealedFrame). first_fault (length bytes) fs ≡ None) same c.in_ok-refuse.ensures;
      veil = is;
      bytes = subst (IsVeil bytes frames) (sym is) (is_veil bytes frames apart);
      fits = subst (λ (l : List ℕ). All (Fits bytes l) frames) (sym is) (all_fit bytes frames apart);
    }
