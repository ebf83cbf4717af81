-- A disk is foreign only if a start was stopped before any start succeeded.
use Rattle.std.proofs.Common.{◌≡◌, ◌⊎◌, ◌<◌, inl, inr, ℕ, ◌+◌, true, false, List, [], ◌∷◌, ◌++◌, length, drop, refl, sym, ap, subst, ◌∙◌, arith, Some, length-append}
use Rattle.std.specs.Prelude.{slice_index, slice_get}
use Rattle.std.proofs.lemmas.Bool.{false≢true}
use Rattle.std.proofs.lemmas.List.{get_or_append_left}
use Rattle.net_model.specs.World.{Network, World}
use Rattle.net_model.specs.Journal.{is_blank}
use Rattle.range_journal.specs.Batches.{spelled}
use Rattle.range_journal.specs.Header.{new_header, is_blank as is_blank_disk, HasOtherHead}
use Rattle.range_journal.specs.Reading.{IsForeignAt}
use Rattle.journal_snapshot.specs.declared.live.Live.{Live}
use Rattle.journal_snapshot.specs.Standing.{HasBatches, new_live}
use Rattle.journal_snapshot.specs.Opening.{IsOpened, IsRefusedAt}
use Rattle.journal_snapshot.proofs.Once.{not_refused, holds_stands}
use Rattle.journal_snapshot.proofs.Standings.{batches_of, new_closed}
use Rattle.kme_store.specs.Passed.{IsUnreadable}
use Rattle.world_nodes.specs.Stands.{HasStory, IsUnused, HoldsNothing, MayFind}
use Rattle.world_nodes.proofs.Found.{opened_is, is_readable}
use Rattle.world_nodes.proofs.Halts.{new_opened, checkpoint_plain}

abbrev Refused : List ℕ → ℕ → Type 0
Refused read place = IsRefusedAt read place ⊎ ((live : Live) × ((bodies : List (List ℕ)) × IsOpened read live bodies × IsUnreadable live.version live.start bodies place))

-- A journal on the disk is never refused as foreign.
never : (read : List ℕ) (live : Live) (bodies : List (List ℕ)) (place : ℕ) → HasBatches live bodies read → is_blank_disk read ≡ false → (version : ℕ) → live.version ≡ version →
    ((bodies' : List (List ℕ)) (start : ℕ) → bodies' ≡ bodies → IsUnreadable version start bodies' place → ⊥) → Refused read place → ⊥
never read live bodies place h plain version is readable (inl r) = not_refused read bodies place (holds_stands live bodies read h) r
never read live bodies place h plain version is readable (inr u) =
    let same = opened_is read u.0 live u.1.0 bodies u.1.1 h plain in
    readable u.1.0 u.0.start same.1 (subst (λ (n : ℕ). IsUnreadable n u.0.start u.1.0 place) (ap (λ (l : Live). l.version) same.0 ∙ is) u.1.2)

told_readable : (site : _) (v version : ℕ) (bodies bodies' : List (List ℕ)) (start place : ℕ) (view : _) → HasStory site v version bodies view → bodies' ≡ bodies → IsUnreadable version start bodies' place → ⊥
told_readable site v version bodies bodies' start place view told same u = is_readable version start bodies told.0 place told.1.read (subst (λ (bs : List (List ℕ)). IsUnreadable version start bs place) same u)

none_unread : (version start place : ℕ) (bodies : List (List ℕ)) → bodies ≡ [] → IsUnreadable version start bodies place → ⊥
none_unread version start place bodies none u = (let there : slice_get [] u.place ≡ Some u.octets = ap (λ (bs : List (List ℕ)). slice_get bs u.place) (sym none) ∙ u.there in absurd (cc there))

-- the header of a new journal with an open gate

module _ (gate : ℕ) where
  abbrev disk : List ℕ
  disk = new_header ++ gate ∷ []

  abbrev head_octets : List ℕ
  head_octets = new_header ++ 0 ∷ []

  same_front : (k : ℕ) → k < 16 → slice_index disk k ≡ slice_index head_octets k
  same_front k lt = get_or_append_left new_header (gate ∷ []) 0 k lt ∙ sym (get_or_append_left new_header (0 ∷ []) 0 k lt)

  no_other_head : (place : ℕ) → HasOtherHead disk place → ⊥
  no_other_head place (inl misnamed) = misnamed.other (same_front place (omega (arith, misnamed.here)) ∙ new_closed.head.name place misnamed.here)
  no_other_head place (inr misversed) = misversed.two refl

  no_more : (batches : List (List ℕ)) → drop 16 disk ≡ spelled batches ++ drop (16 + length (spelled batches)) disk → length (spelled batches) ≡ 0
  no_more [] is = refl
  no_more (b ∷ bs) is = absurd (omega (arith, ap length is, length-append (spelled (b ∷ bs)) (drop (16 + length (spelled (b ∷ bs))) disk)))

  at_gate : (n place : ℕ) → n ≡ 0 → IsForeignAt disk (16 + n) place → place ≡ 16
  at_gate n place none (inl past) = absurd (omega (arith, none, past.0))
  at_gate n place none (inr lacks) = lacks.1 ∙ ap (λ (k : ℕ). 16 + k) none

  pub foreign_head : (place : ℕ) → IsRefusedAt disk place → place ≡ 16
  foreign_head place (plain, inl other) = absurd (no_other_head place other)
  foreign_head place (plain, inr (headed, inl field)) = absurd (false≢true (sym field.0))
  foreign_head place (plain, inr (headed, inr none)) = at_gate (length (spelled none.1.batches)) place (no_more none.1.batches none.1.is) none.1.at

module _ (net : Network) (w : World) (v : ℕ) (read : List ℕ) (place : ℕ) where
  abbrev IsSo : Type 0
  IsSo = (is_blank (w.journal v) ≡ true) × (w.interrupted v ≡ true) × (place ≡ 16)

  of_nothing : (h : HoldsNothing net w v read) → Refused read place → IsSo
  of_nothing h (inr u) = absurd (none_unread u.0.version u.0.start place u.1.0 (new_opened net w v read h.unused u.0 u.1.0 u.1.1).1 u.1.2)
  of_nothing h (inl r) = by h.unused
    where
      by : IsUnused read ⊎ ((w.interrupted v ≡ true) × ((gate : ℕ) × (read ≡ new_header ++ gate ∷ []))) → IsSo
      by (inl (inl blank)) = absurd (false≢true (sym r.0 ∙ blank))
      by (inl (inr holds)) = absurd (not_refused read [] place (holds_stands new_live [] read (batches_of new_live [] [] read holds)) r)
      by (inr head) = (h.blank, head.0, foreign_head head.1.0 place (subst (λ (c : List ℕ). IsRefusedAt c place) head.1.1 r))

  pub foreign_found : MayFind net w v read → Refused read place → IsSo
  foreign_found (inl h) r = absurd (never read h.live h.bodies place (batches_of h.live h.bodies h.doubt read h.holds) h.plain h.live.version refl (λ bodies' start same u. told_readable net.site v h.live.version h.bodies bodies' start place _ h.told same u) r)
  foreign_found (inr (inl h)) r = absurd (never read h.live h.bodies place (batches_of h.live h.bodies [] read h.holds) (checkpoint_plain net w w v read h) h.live.version refl (λ bodies' start same u. told_readable net.site v h.live.version h.bodies bodies' start place _ h.told same u) r)
  foreign_found (inr (inr h)) r = of_nothing h r
