-- The journal that a start finds.
use Rattle.std.proofs.Common.{◌≡◌, ◌<◌, ℕ, ◌+◌, Bool, true, false, refl, ap, ◌∙◌, Some, arith, max, add-zero}
use Rattle.std.specs.Prelude.{◌==◌, ◌&&◌, nat_le, is_none, if◌then◌else◌}
use Rattle.net_model.specs.World.{Network, World, Journal, InDoubt}
use Rattle.net_model.specs.Journal.{added_len, is_blank, new_journal, extended, checkpoint_place, checkpointed}
use Rattle.net_model.specs.Start.{resolved, resolved_journal, need_at, interrupted_start}
use Rattle.law_base.proofs.Base.{number_set_same, eq_from, not_false, or_both, by_test}

same_length : (j : Journal) → extended j 0 ≡ j
same_length j = ap (λ (n : ℕ). record j { length' = n }) (add-zero j.length')

not_none : (a : ℕ) → 0 < a → (a == 0) ≡ false
not_none a some = not_false (a == 0) (λ e. let none = eq_from a 0 e in absurd (omega (arith, none, some)))

-- A checkpoint isn't a blank journal.
moved_on : (j : Journal) (need : ℕ) → 0 < checkpoint_place j need
unfolding checkpoint_place
moved_on j need = by_test (λ (n : ℕ). 0 < n) (j.moved && nat_le (50 + need) j.start) 50 (max j.length' 50) (λ e. omega arith) (λ e. omega arith)

pub checkpoint_stays : (j : Journal) (need : ℕ) → is_blank (checkpointed j need) ≡ false
unfolding checkpointed
checkpoint_stays j need =
    let some = moved_on j need in
    or_both (checkpoint_place j need + need == 0) false (not_none (checkpoint_place j need + need) (omega (arith, some))) refl

-- After a checkpoint settled the doubt, the journal is read as it stands.
pub read_settled : (j : Journal) (d : InDoubt) (committed other : Bool) → is_blank j ≡ false →
    (if is_blank j then new_journal else extended j (if committed && is_none (Some other) then added_len j.version d.batch else 0)) ≡ j
read_settled j d true other e = ap (λ (t : Bool). if t then new_journal else extended j 0) e ∙ same_length j
read_settled j d false other e = ap (λ (t : Bool). if t then new_journal else extended j 0) e ∙ same_length j

module _ (net : Network) (w : World) (v : ℕ) (committed : Bool) where
  abbrev found : Journal
  found = checkpointed (resolved_journal w v committed) (need_at net (resolved net.site w v committed) v)

  abbrev halted : World
  halted = interrupted_start net w v (Some committed)

  next_is : (resolved net.site w v committed).journal v ≡ resolved_journal w v committed
  next_is = number_set_same w.journal v (resolved_journal w v committed)

  pub made_is : halted.journal v ≡ found
  made_is = number_set_same w.journal v _ ∙ ap (λ (j : Journal). checkpointed j (need_at net (resolved net.site w v committed) v)) next_is

  pub doubt_is : halted.in_doubt v ≡ record (w.in_doubt v) { checkpointed = Some committed }
  doubt_is = number_set_same w.in_doubt v _

  pub resumed_is : resolved_journal halted v committed ≡ found
  resumed_is =
      ap (λ (j : Journal). if is_blank j then new_journal else extended j (if committed && is_none (halted.in_doubt v).checkpointed then added_len j.version (halted.in_doubt v).batch else 0)) made_is
      ∙ ap (λ (d : InDoubt). if is_blank found then new_journal else extended found (if committed && is_none d.checkpointed then added_len found.version d.batch else 0)) doubt_is
      ∙ read_settled found (w.in_doubt v) committed committed (checkpoint_stays (resolved_journal w v committed) (need_at net (resolved net.site w v committed) v))
