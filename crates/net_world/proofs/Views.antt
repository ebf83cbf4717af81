-- A view of each bench whose disks are honest.
use Rattle.std.proofs.Common.{◌≡◌, ℕ, List, Option, Some, None, refl, subst}
use Rattle.std.specs.Prelude.{IsTrue, slice_get}
use Rattle.std.specs.List.{All}
use Rattle.std.proofs.lemmas.List.Elements.{All-get_or}
use Rattle.std.proofs.lemmas.Option.{slice_get_within, get_or_from_slice_get}
use Rattle.net_model.specs.OctetSequence.{OctetSequence}
use Rattle.net_world.specs.Shown.{content_on, shown_by}
use Rattle.net_world.specs.New.{AreKnown}
use Rattle.net_world.specs.Seen.{MayLeave, IsSeenOn}
use Rattle.net_world.specs.declared.bench.Bench.{Bench}
use Rattle.world_state.specs.Outside.{Outside}

none_known : {T : Type 0} (told : T → Option OctetSequence) (parts : List T) → AreKnown told parts (λ n. None)
none_known told parts n octets e = absurd cc

module _ {K Q E X : Type 0} (outside : Outside K Q E X)
    (content_is_image : (disk : K) → IsTrue (outside.disk.is_honest disk) → outside.disk.image disk (outside.disk.moment disk) (outside.disk.content disk)) where
  may_leave : (disks : List K) (v : ℕ) (disk : Option K) → slice_get disks v ≡ disk → All (λ k. IsTrue (outside.disk.is_honest k)) disks →
      MayLeave outside.disk disk (content_on outside.disk disk)
  may_leave disks v None is honest = refl
  may_leave disks v (Some disk) is honest =
      content_is_image disk
      (subst (λ (k : K). IsTrue (outside.disk.is_honest k)) (get_or_from_slice_get disks v disk disk is)
      (All-get_or (λ k. IsTrue (outside.disk.is_honest k)) disks v disk (slice_get_within disks v disk is) honest))

  pub is_shown : (old new : Bench K Q E X) → All (λ k. IsTrue (outside.disk.is_honest k)) new.disks.items → IsSeenOn outside old new (shown_by outside old new)
  is_shown old new honest = record {
    disk_counts = λ v. refl;
    entropy_counts = λ v. refl;
    device_counts = λ link. refl;
    wire_counts = λ l. refl;
    armings = λ v. refl;
    wires = λ l. refl;
    disks = λ v. may_leave new.disks.items v (slice_get new.disks.items v) refl honest;
    entropies = none_known outside.entropy.left new.entropies.items;
  }
