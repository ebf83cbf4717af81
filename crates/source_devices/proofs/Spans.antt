-- Frames that are stored in one list of octets. A span is a frame's start there and its length.
use Rattle.std.proofs.Common.{◌≡◌, ℕ, zero, suc, ◌+◌, ◌-◌, ◌≤◌, ◌<◌, List, [], ◌∷◌, ◌++◌, length, take, drop, slice_get, slice_index_or, get_or, Some, refl, sym, ap, ap₂, subst, subst₂, ◌∙◌, arith, length-append, length-drop, take_all, append-nil, sub-one}
use Rattle.std.proofs.lemmas.List.{take-append-le, drop-append-le}
use Rattle.std.proofs.Math.Seq.{drop-append_seam}
use Rattle.std.proofs.lemmas.Option.{slice_get-get_or, get_or_from_slice_get}
use Rattle.source_devices.specs.Forms.{cut_out, frames_at, AllInside}

-- There are as many frames as spans.
pub length_frames : (octets : List ℕ) (spans : List (ℕ × ℕ)) → length (frames_at octets spans) ≡ length spans
length_frames octets [] = refl
length_frames octets (s ∷ ss) = ap suc (length_frames octets ss)

-- One more span adds one more frame.
pub frames_snoc : (octets : List ℕ) (spans : List (ℕ × ℕ)) (s : ℕ × ℕ) → frames_at octets (spans ++ s ∷ []) ≡ frames_at octets spans ++ cut_out octets s ∷ []
frames_snoc octets [] s = refl
frames_snoc octets (t ∷ ts) s = ap (λ (fs : List (List ℕ)). cut_out octets t ∷ fs) (frames_snoc octets ts s)

pub inside_snoc : (octets : List ℕ) (spans : List (ℕ × ℕ)) (s : ℕ × ℕ) → AllInside octets spans → s.0 + s.1 ≤ length octets → s.1 ≤ 600 → AllInside octets (spans ++ s ∷ [])
inside_snoc octets [] s all le short = (le, short, tt)
inside_snoc octets (t ∷ ts) s all le short = (all.0, all.1, inside_snoc octets ts s all.2 le short)

-- Octets that are added behind a frame don't change it.
same_cut : (octets more : List ℕ) (s : ℕ × ℕ) → s.0 + s.1 ≤ length octets → cut_out (octets ++ more) s ≡ cut_out octets s
same_cut octets more s le =
    let start : s.0 ≤ length octets = omega arith in
    let size : s.1 ≤ length (drop s.0 octets) = omega (arith, length-drop s.0 octets) in
    ap (take s.1) (drop-append-le s.0 octets more start) ∙ take-append-le s.1 (drop s.0 octets) more size

same_frames : (octets more : List ℕ) (spans : List (ℕ × ℕ)) → AllInside octets spans → frames_at (octets ++ more) spans ≡ frames_at octets spans
same_frames octets more [] all = refl
same_frames octets more (s ∷ ss) all = ap₂ (λ (f : List ℕ) (fs : List (List ℕ)). f ∷ fs) (same_cut octets more s all.0) (same_frames octets more ss all.2)

pub inside_more : (octets more : List ℕ) (spans : List (ℕ × ℕ)) → AllInside octets spans → AllInside (octets ++ more) spans
inside_more octets more [] all = tt
inside_more octets more (s ∷ ss) all = (omega (arith, all.0, length-append octets more), all.1, inside_more octets more ss all.2)

last_cut : (octets more : List ℕ) → cut_out (octets ++ more) (length octets, length more) ≡ more
last_cut octets more = ap (take (length more)) (drop-append_seam octets more) ∙ take_all (length more) more (omega arith)

-- Octets that are added at the end, with a span for them, add a frame.
pub frames_new : (octets more : List ℕ) (spans : List (ℕ × ℕ)) (s : ℕ × ℕ) → AllInside octets spans → s ≡ (length octets, length more) →
    frames_at (octets ++ more) (spans ++ s ∷ []) ≡ frames_at octets spans ++ more ∷ []
frames_new octets more spans s all is =
    frames_snoc (octets ++ more) spans s ∙ ap₂ (λ (fs : List (List ℕ)) (f : List ℕ). fs ++ f ∷ []) (same_frames octets more spans all) (ap (cut_out (octets ++ more)) is ∙ last_cut octets more)

-- The bounds of all spans hold for the span at each place.
pub inside_at : (octets : List ℕ) (spans : List (ℕ × ℕ)) (n : ℕ) (s : ℕ × ℕ) → AllInside octets spans → slice_get spans n ≡ Some s → (s.0 + s.1 ≤ length octets) × (s.1 ≤ 600)
inside_at octets [] n s all at = cc
inside_at octets (t ∷ ts) zero s all at = let e : t ≡ s = cc in subst (λ (u : ℕ × ℕ). (u.0 + u.1 ≤ length octets) × (u.1 ≤ 600)) e (all.0, all.1)
inside_at octets (t ∷ ts) (suc n) s all at = inside_at octets ts n s all.2 at

pub frame_at : (octets : List ℕ) (spans : List (ℕ × ℕ)) (n : ℕ) (s : ℕ × ℕ) → slice_get spans n ≡ Some s → slice_get (frames_at octets spans) n ≡ Some (cut_out octets s)
frame_at octets [] n s at = cc
frame_at octets (t ∷ ts) zero s at = let e : t ≡ s = cc in ap (λ (u : ℕ × ℕ). Some (cut_out octets u)) e
frame_at octets (t ∷ ts) (suc n) s at = frame_at octets ts n s at

-- The bounds hold for a span that was read from an equal list of spans.
pub inside_get : (octets : List ℕ) (spans list : List (ℕ × ℕ)) (n : ℕ) (s : ℕ × ℕ) → AllInside octets spans → list ≡ spans → n < length list → s ≡ get_or list n s → (s.0 + s.1 ≤ length octets) × (s.1 ≤ 600)
inside_get octets spans list n s all is lt at =
    inside_at octets list n s (subst (AllInside octets) (sym is) all) (slice_get-get_or list n s lt ∙ ap (λ (u : ℕ × ℕ). Some u) (sym at))

pub frame_get : (octets room : List ℕ) (spans list : List (ℕ × ℕ)) (n : ℕ) (s : ℕ × ℕ) → list ≡ spans → n < length list → s ≡ get_or list n s → take s.1 room ≡ cut_out octets s →
    slice_get (frames_at octets spans) n ≡ Some (take s.1 room)
frame_get octets room spans list n s is lt at given =
    frame_at octets spans n s (ap (λ (l : List (ℕ × ℕ)). slice_get l n) (sym is) ∙ slice_get-get_or list n s lt ∙ ap (λ (u : ℕ × ℕ). Some u) (sym at)) ∙ ap (λ (f : List ℕ). Some f) (sym given)

-- The bounds still hold for all spans when a frame of at most 600 octets is added.
pub inside_new : (octets more after : List ℕ) (spans later : List (ℕ × ℕ)) (start : ℕ) → AllInside octets spans → after ≡ octets ++ more → later ≡ spans ++ (start, length more) ∷ [] →
    start ≡ length octets → length more ≤ 600 → AllInside after later
inside_new octets more after spans later start all whole one begins short =
    let le : start + length more ≤ length (octets ++ more) = omega (arith, length-append octets more) in
    subst₂ AllInside (sym whole) (sym one) (inside_snoc (octets ++ more) spans (start, length more) (inside_more octets more spans all) le short)

pub inside_again : (octets : List ℕ) (spans list later : List (ℕ × ℕ)) (n : ℕ) (s : ℕ × ℕ) → AllInside octets spans → list ≡ spans → n < length spans → s ≡ get_or list n s → later ≡ list ++ s ∷ [] →
    AllInside octets later
inside_again octets spans list later n s all is lt at one =
    let long : n < length list = omega (arith, ap length is) in
    let there = inside_get octets spans list n s all is long at in
    subst (AllInside octets) (sym one) (inside_snoc octets list s (subst (AllInside octets) (sym is) all) there.0 there.1)

-- A second span equal to an earlier one adds the same frame again.
pub frames_again : (octets : List ℕ) (spans list later : List (ℕ × ℕ)) (n : ℕ) (s : ℕ × ℕ) → list ≡ spans → n < length spans → s ≡ get_or list n s → later ≡ list ++ s ∷ [] →
    frames_at octets later ≡ frames_at octets spans ++ slice_index_or (frames_at octets spans) n [] ∷ []
frames_again octets spans list later n s is lt at one =
    let long : n < length list = omega (arith, ap length is) in
    let old = frame_at octets list n s (slice_get-get_or list n s long ∙ ap (λ (u : ℕ × ℕ). Some u) (sym at)) in
    let same : cut_out octets s ≡ slice_index_or (frames_at octets list) n [] = sym (get_or_from_slice_get (frames_at octets list) n (cut_out octets s) [] old) in
    ap (frames_at octets) one ∙ frames_snoc octets list s ∙ ap (λ (f : List ℕ). frames_at octets list ++ f ∷ []) same
    ∙ ap (λ (l : List (ℕ × ℕ)). frames_at octets l ++ slice_index_or (frames_at octets l) n [] ∷ []) is
