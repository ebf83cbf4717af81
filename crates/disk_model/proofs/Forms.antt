-- How the calls change a disk in memory, as a value.
use Rattle.std.proofs.Common.{◌≡◌, ℕ, Bool, true, false, List, [], ◌∷◌, ◌++◌, length, drop, refl, sym, ◌∙◌, ap, subst, arith}
use Rattle.disk_model.specs.Images.{Torn, Follows, Only, Passes, overlaid}
use Rattle.disk_model.specs.Laws.{content_is_image, torn_overlaid}
use Rattle.disk_model.specs.Record.{Used, replayed, image_of, AreUnsynced, revived, after_settle}
use Rattle.disk_model.specs.Record.Used.{Wrote, Synced}
use Rattle.disk_model.specs.MemForm.{MemForm, content_of, images_of}
use Rattle.disk_model.specs.declared.arm.Image.{Image}
use Rattle.disk_model.specs.declared.arm.Image.TheVariants.{Kept}
use Rattle.disk_model.proofs.Replays.{replayed_more, passes, follows, only_synced, revived_content, revived_passes, revived_fewer}

module _ (v : MemForm) (first : List ℕ) (used : List Used) (same : first ≡ v.first) where
  module _ (at : ℕ) (bytes : List ℕ) (more : used ≡ v.used ++ Wrote at bytes (length bytes) Kept ∷ []) where
    pub wrote_content : replayed first used ≡ overlaid at bytes (content_of v)
    wrote_content = ap (λ (f : List ℕ). replayed f used) same ∙ ap (λ (u : List Used). replayed v.first u) more ∙ replayed_more v.first v.used (Wrote at bytes (length bytes) Kept)

    pub wrote_others : Torn at (length bytes) (content_of v) (replayed first used)
    wrote_others = subst (λ (c : List ℕ). Torn at (length bytes) (content_of v) c) (sym wrote_content) (torn_overlaid at (length bytes) bytes (content_of v) (omega arith))

    pub wrote_images : Follows (Torn at (length bytes)) (images_of v (length v.used)) (image_of first used (length used))
    wrote_images =
        subst (λ (f : List ℕ). Follows (Torn at (length bytes)) (images_of v (length v.used)) (image_of f used (length used))) (sym same)
        (subst (λ (u : List Used). Follows (Torn at (length bytes)) (images_of v (length v.used)) (image_of v.first u (length u))) (sym more)
        (follows v.first v.used at bytes (length bytes) Kept))

  module _ (mark : Image) (n synced : ℕ) (none : AreUnsynced (drop synced v.used)) (is : used ≡ revived mark n synced v.used) where
    pub revive_image : images_of v (length v.used) (replayed first used)
    revive_image =
        subst (λ (f : List ℕ). images_of v (length v.used) (replayed f used)) (sym same)
        (subst (λ (u : List Used). images_of v (length v.used) (replayed v.first u)) (sym is) (revived_content v.first mark n synced v.used none))

    pub revive_passes : Passes (length v.used) (length used) (images_of v) (image_of first used)
    revive_passes =
        subst (λ (f : List ℕ). Passes (length v.used) (length used) (images_of v) (image_of f used)) (sym same)
        (subst (λ (u : List Used). Passes (length v.used) (length u) (images_of v) (image_of v.first u)) (sym is) (revived_passes v.first mark n synced v.used none))

    pub revive_fewer : (c : List ℕ) → image_of first used (length used) c → images_of v (length v.used) c
    revive_fewer =
        subst (λ (f : List ℕ). (c : List ℕ) → image_of f used (length used) c → images_of v (length v.used) c) (sym same)
        (subst (λ (u : List Used). (c : List ℕ) → image_of v.first u (length u) c → images_of v (length v.used) c) (sym is) (revived_fewer v.first mark n synced v.used none))

    pub revive_clean : Only (content_of v) (images_of v (length v.used)) → Only (replayed first used) (image_of first used (length used))
    revive_clean only c i = only c (revive_fewer c i) ∙ sym (only (replayed first used) revive_image)

settle_content : (first : List ℕ) (used : List Used) (unsynced : Bool) → replayed first (after_settle unsynced used) ≡ replayed first used
settle_content first used true = replayed_more first used Synced
settle_content first used false = refl

settle_only : (first : List ℕ) (used : List Used) (unsynced : Bool) → (unsynced ≡ false → Only (replayed first used) (image_of first used (length used)))
    → Only (replayed first used) (image_of first (after_settle unsynced used) (length (after_settle unsynced used)))
settle_only first used true clean = only_synced first used
settle_only first used false clean = clean refl

settle_passes : (first : List ℕ) (used : List Used) (unsynced : Bool) → Passes (length used) (length (after_settle unsynced used)) (image_of first used) (image_of first (after_settle unsynced used))
settle_passes first used true = passes first used Synced
settle_passes first used false = record { later = omega arith; one = omega arith; stays = λ t c le. (λ i. i, λ i. i) }

module _ (v : MemForm) (first : List ℕ) (used : List Used) (same : first ≡ v.first) (unsynced : Bool) (is : used ≡ after_settle unsynced v.used)
    (clean : unsynced ≡ false → Only (content_of v) (images_of v (length v.used))) where
  pub sync_content : replayed first used ≡ content_of v
  sync_content = ap (λ (f : List ℕ). replayed f used) same ∙ ap (λ (u : List Used). replayed v.first u) is ∙ settle_content v.first v.used unsynced

  pub sync_only : Only (content_of v) (image_of first used (length used))
  sync_only =
      subst (λ (f : List ℕ). Only (content_of v) (image_of f used (length used))) (sym same)
      (subst (λ (u : List Used). Only (content_of v) (image_of v.first u (length u))) (sym is) (settle_only v.first v.used unsynced clean))

  pub sync_clean : Only (replayed first used) (image_of first used (length used))
  sync_clean c i = sync_only c i ∙ sym sync_content

  pub sync_passes : Passes (length v.used) (length used) (images_of v) (image_of first used)
  sync_passes =
      subst (λ (f : List ℕ). Passes (length v.used) (length used) (images_of v) (image_of f used)) (sym same)
      (subst (λ (u : List Used). Passes (length v.used) (length u) (images_of v) (image_of v.first u)) (sym is) (settle_passes v.first v.used unsynced))

  pub sync_fewer : (c : List ℕ) → image_of first used (length used) c → images_of v (length v.used) c
  sync_fewer c i = subst (λ (k : List ℕ). images_of v (length v.used) k) (sym (sync_only c i)) (content_is_image v.first v.used)
