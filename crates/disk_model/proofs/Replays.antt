-- How one more used call changes the images.
use Rattle.std.proofs.Common.{◌≡◌, ◌≤◌, ◌↔◌, inl, inr, ℕ, zero, suc, ◌+◌, ◌-◌, List, [], ◌∷◌, ◌++◌, length, take, drop, map, refl, sym, ◌∙◌, ap, subst, arith, length-append}
use Rattle.std.proofs.lemmas.Bool.{cases_lt}
use Rattle.std.proofs.lemmas.List.{take_all, take-append-le, length-map, take-append-drop, take-map}
use Rattle.std.proofs.Math.Seq.{take-append-add}
use Rattle.disk_model.specs.Images.{Torn, Follows, Only, Passes}
use Rattle.disk_model.specs.Laws.{content_is_image}
use Rattle.disk_model.specs.Record.{Used, held, replayed, images, image_of, marked, AreUnsynced, revived}
use Rattle.disk_model.specs.Record.Used.{Wrote, Synced}
use Rattle.disk_model.specs.declared.arm.Image.{Image}
use Rattle.disk_model.specs.declared.arm.Image.TheVariants.{Lost, Kept, Torn as Filled}

-- the content after one more call
pub replayed_more : (content : List ℕ) (used : List Used) (u : Used) → replayed content (used ++ u ∷ []) ≡ held (replayed content used) u
replayed_more content [] u = refl
replayed_more content (w ∷ used) u = replayed_more (held content w) used u

wrote_more : (left : List ℕ → Type 0) (content : List ℕ) (used : List Used) (at : ℕ) (bytes : List ℕ) (size : ℕ) (state : Image) (c : List ℕ)
    → images left content (used ++ Wrote at bytes size state ∷ []) c → (d : List ℕ) × images left content used d × Torn at (length bytes) d c
wrote_more left content [] at bytes size state c i = i
wrote_more left content (Wrote a b s t ∷ used) at bytes size state c i = wrote_more (λ new. (old : List ℕ) × left old × Torn a (length b) old new) (held content (Wrote a b s t)) used at bytes size state c i
wrote_more left content (Synced ∷ used) at bytes size state c i = wrote_more (λ only. only ≡ content) content used at bytes size state c i

synced_more : (left : List ℕ → Type 0) (content : List ℕ) (used : List Used) (c : List ℕ) → images left content (used ++ Synced ∷ []) c → c ≡ replayed content used
synced_more left content [] c i = i
synced_more left content (Wrote a b s t ∷ used) c i = synced_more (λ new. (old : List ℕ) × left old × Torn a (length b) old new) (held content (Wrote a b s t)) used c i
synced_more left content (Synced ∷ used) c i = synced_more (λ only. only ≡ content) content used c i

-- the images of earlier moments are unchanged
module _ (first : List ℕ) (used : List Used) (u : Used) where
  more_long : length (used ++ u ∷ []) ≡ length used + 1
  more_long = length-append used (u ∷ [])

  earlier : (t : ℕ) → t ≤ length used → take t (used ++ u ∷ []) ≡ take t used
  earlier t le = take-append-le t used (u ∷ []) le

  pub passes : Passes (length used) (length (used ++ u ∷ [])) (image_of first used) (image_of first (used ++ u ∷ []))
  passes = record {
    later = omega (arith, more_long);
    one = omega (arith, more_long);
    stays = λ t c le. (
      λ i. subst (λ (l : List Used). images (λ only. only ≡ first) first l c) (earlier t le) i,
      λ i. subst (λ (l : List Used). images (λ only. only ≡ first) first l c) (sym (earlier t le)) i,
    );
  }

  newest : (c : List ℕ) → image_of first (used ++ u ∷ []) (length (used ++ u ∷ [])) c → images (λ only. only ≡ first) first (used ++ u ∷ []) c
  newest c i = subst (λ (l : List Used). images (λ only. only ≡ first) first l c) (take_all (length (used ++ u ∷ [])) (used ++ u ∷ []) (omega arith)) i

pub follows : (first : List ℕ) (used : List Used) (at : ℕ) (bytes : List ℕ) (size : ℕ) (state : Image)
    → Follows (Torn at (length bytes)) (image_of first used (length used)) (image_of first (used ++ Wrote at bytes size state ∷ []) (length (used ++ Wrote at bytes size state ∷ [])))
follows first used at bytes size state c i =
    let step = wrote_more (λ only. only ≡ first) first used at bytes size state c (newest first used (Wrote at bytes size state) c i) in
    (step.0, subst (λ (l : List Used). images (λ only. only ≡ first) first l step.0) (sym (take_all (length used) used (omega arith))) step.1, step.2)

pub only_synced : (first : List ℕ) (used : List Used) → Only (replayed first used) (image_of first (used ++ Synced ∷ []) (length (used ++ Synced ∷ [])))
only_synced first used c i = synced_more (λ only. only ≡ first) first used c (newest first used Synced c i)

-- Marks on unsynced writes change no image.
unmark : (mark : Image) (n : ℕ) (left : List ℕ → Type 0) (content other : List ℕ) (used : List Used) (c : List ℕ) → AreUnsynced used → images left content (map (marked mark n) used) c ↔ images left other used c
unmark mark n left content other [] c none = (λ i. i, λ i. i)
unmark Lost n left content other (Wrote a b s t ∷ used) c none =
    unmark Lost n (λ new. (old : List ℕ) × left old × Torn a (length b) old new) (held content (marked Lost n (Wrote a b s t))) (held other (Wrote a b s t)) used c none
unmark Kept n left content other (Wrote a b s t ∷ used) c none =
    unmark Kept n (λ new. (old : List ℕ) × left old × Torn a (length b) old new) (held content (marked Kept n (Wrote a b s t))) (held other (Wrote a b s t)) used c none
unmark Filled n left content other (Wrote a b s t ∷ used) c none =
    unmark Filled n (λ new. (old : List ℕ) × left old × Torn a (length b) old new) (held content (marked Filled n (Wrote a b s t))) (held other (Wrote a b s t)) used c none
unmark mark n left content other (Synced ∷ used) c none = absurd none

after : (mark : Image) (n : ℕ) (left : List ℕ → Type 0) (content : List ℕ) (prefix used : List Used) (c : List ℕ) → AreUnsynced used → images left content (prefix ++ map (marked mark n) used) c ↔ images left content (prefix ++ used) c
after mark n left content [] used c none = unmark mark n left content content used c none
after mark n left content (Wrote a b s t ∷ prefix) used c none = after mark n (λ new. (old : List ℕ) × left old × Torn a (length b) old new) (held content (Wrote a b s t)) prefix used c none
after mark n left content (Synced ∷ prefix) used c none = after mark n (λ only. only ≡ content) content prefix used c none

unsynced_front : (k : ℕ) (used : List Used) → AreUnsynced used → AreUnsynced (take k used)
unsynced_front zero used none = tt
unsynced_front (suc k) [] none = tt
unsynced_front (suc k) (Wrote a b s t ∷ used) none = unsynced_front k used none
unsynced_front (suc k) (Synced ∷ used) none = absurd none

take_beyond : (k : ℕ) (xs ys : List Used) → length xs ≤ k → take k (xs ++ ys) ≡ xs ++ take (k - length xs) ys
take_beyond k xs ys le =
    let sum : k ≡ length xs + (k - length xs) = omega (arith, le) in
    ap (λ (n : ℕ). take n (xs ++ ys)) sum ∙ take-append-add xs ys (k - length xs)

module _ (first : List ℕ) (mark : Image) (n synced : ℕ) (used : List Used) (none : AreUnsynced (drop synced used)) where
  abbrev prefix : List Used
  prefix = take synced used

  abbrev back : List Used
  back = drop synced used

  same_images : (t : ℕ) (c : List ℕ) → images (λ only. only ≡ first) first (take t (prefix ++ map (marked mark n) back)) c ↔ images (λ only. only ≡ first) first (take t (prefix ++ back)) c
  same_images t c = elim (cases_lt t (length prefix)) [
    | inl within ↦
        let a = take-append-le t prefix (map (marked mark n) back) (omega (arith, within)) in
        let b = take-append-le t prefix back (omega (arith, within)) in (
          λ i. subst (λ (l : List Used). images (λ only. only ≡ first) first l c) (a ∙ sym b) i,
          λ i. subst (λ (l : List Used). images (λ only. only ≡ first) first l c) (b ∙ sym a) i,
        )
    | inr beyond ↦
        let k = t - length prefix in
        let a = take_beyond t prefix (map (marked mark n) back) beyond ∙ ap (λ (l : List Used). prefix ++ l) (take-map (marked mark n) k back) in
        let b = take_beyond t prefix back beyond in
        let both = after mark n (λ only. only ≡ first) first prefix (take k back) c (unsynced_front k back none) in (
          λ i. subst (λ (l : List Used). images (λ only. only ≡ first) first l c) (sym b) (both.0 (subst (λ (l : List Used). images (λ only. only ≡ first) first l c) a i)),
          λ i. subst (λ (l : List Used). images (λ only. only ≡ first) first l c) (sym a) (both.1 (subst (λ (l : List Used). images (λ only. only ≡ first) first l c) b i)),
        )
  ]

  pub revived_long : length (revived mark n synced used) ≡ length used
  revived_long =
      omega (arith, length-append prefix (map (marked mark n) back), length-map back (marked mark n), length-append prefix back, ap length (take-append-drop synced used))

  pub revived_stays : (t : ℕ) (c : List ℕ) → image_of first (revived mark n synced used) t c ↔ image_of first used t c
  revived_stays t c =
      let both = same_images t c in
      let e = ap (λ (l : List Used). take t l) (take-append-drop synced used) in (
        λ i. subst (λ (l : List Used). images (λ only. only ≡ first) first l c) e (both.0 i),
        λ i. both.1 (subst (λ (l : List Used). images (λ only. only ≡ first) first l c) (sym e) i),
      )

  -- the content after a revival is an image that a crash might have left
  pub revived_content : image_of first used (length used) (replayed first (revived mark n synced used))
  revived_content =
      (revived_stays (length used) (replayed first (revived mark n synced used))).0
      (subst (λ (t : ℕ). image_of first (revived mark n synced used) t (replayed first (revived mark n synced used))) revived_long (content_is_image first (revived mark n synced used)))

  pub revived_passes : Passes (length used) (length (revived mark n synced used)) (image_of first used) (image_of first (revived mark n synced used))
  revived_passes = record { later = omega (arith, revived_long); one = omega (arith, revived_long); stays = λ t c le. revived_stays t c }

  pub revived_fewer : (c : List ℕ) → image_of first (revived mark n synced used) (length (revived mark n synced used)) c → image_of first used (length used) c
  revived_fewer c i = (revived_stays (length used) c).0 (subst (λ (t : ℕ). image_of first (revived mark n synced used) t c) revived_long i)
