-- The journal after an append.
use Rattle.std.proofs.Common.{◌≡◌, ◌≤◌, ◌<◌, ℕ, ◌+◌, ◌^◌, Bool, false, List, [], ◌∷◌, ◌++◌, length, take, sym, ◌∙◌, ap, subst, arith}
use Rattle.std.specs.Prelude.{nat_lt}
use Rattle.std.proofs.lemmas.Bool.Decides.{nat_tests}
use Rattle.range_journal.specs.Batches.{AreShort, IsSettled, IsAppended, IsOldOrOneMore, length_of}
use Rattle.range_journal.specs.Header.{is_blank}
use Rattle.range_journal.specs.Journal.{most}
use Rattle.range_journal.proofs.Whole.{length_more, short_more}
use Rattle.journal_snapshot.specs.declared.live.Live.{Live}
use Rattle.journal_snapshot.specs.Layout.{has_open_mark}
use Rattle.journal_snapshot.specs.Standing.{HasBatches, HoldsOldOrOneMore, IsKept}
use Rattle.journal_snapshot.proofs.Plain.{long_plain}
use Rattle.journal_snapshot.proofs.Standings.{batches_of, old_or_one_more, settled_long, start_behind, kept_behind, mark_behind}

module _ (live : Live) (start : ℕ) (batches : List (List ℕ)) (batch old : List ℕ) (images : List ℕ → Type 0) (at : start ≡ live.start) (kept : IsKept live batches old images) where
  has : HasBatches live batches old
  has = batches_of live batches [] old kept.holds

  pub append_images : (i : List ℕ) → IsAppended old start batches batch i → (is_blank i ≡ false) × HoldsOldOrOneMore live batches batch i
  append_images i o =
      old_or_one_more live batches batch old i has kept.plain o.0 (subst (λ (n : ℕ). IsOldOrOneMore (take n old) batches batch i) at o.1)

  module _ (new : List ℕ) (later : List ℕ → Type 0) (more : List (List ℕ)) (new_start : ℕ) (start_is : new_start ≡ start) (more_is : more ≡ batches ++ batch ∷ []) (front : take new_start new ≡ take start old) where
    new_front : take live.start new ≡ take live.start old
    new_front = ap (λ (n : ℕ). take n new) (sym (start_is ∙ at)) ∙ front ∙ ap (λ (n : ℕ). take n old) at

    small : false ≡ nat_lt most (length_of start batches + (length batch + 5)) → length batch < 2 ^ 32
    small fits = let le : length_of start batches + (length batch + 5) ≤ most = grind (arith, nat_tests) in omega (arith, le)

    pub append_kept : false ≡ nat_lt most (length_of start batches + (length batch + 5)) → IsSettled new later new_start more → IsKept live more new later
    append_kept fits settled =
        let there : IsSettled new later live.start more = subst (λ (n : ℕ). IsSettled new later n more) (start_is ∙ at) settled in
        let ends : length_of live.start more ≡ length_of live.start batches + (length batch + 5) = ap (length_of live.start) more_is ∙ length_more live.start batches batch in
        kept_behind live batches more old new later has
        (long_plain new (omega (arith, settled_long new later live.start more there, ends, start_behind live batches old has)))
        new_front
        (subst AreShort (sym more_is) (short_more batches batch kept.holds.stands.short (small fits)))
        there

    pub append_mark : (older : Bool) → has_open_mark old live.area ≡ older → has_open_mark new live.area ≡ older
    append_mark older mark = mark_behind live batches old new has new_front ∙ mark
