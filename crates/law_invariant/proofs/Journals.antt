-- Journals stay within their limits when a batch is added, at a start, and at a checkpoint.
use Rattle.std.proofs.Common.{◌≡◌, ℕ, ◌+◌, ◌<◌, ◌≤◌, Bool, true, false, ◌&&◌, ◌||◌, not, max, List, refl, ap, arith, Option, Some, None, inl, inr}
use Rattle.std.specs.Prelude.{◌==◌, nat_le, is_none, if◌then◌else◌}
use Rattle.std.proofs.lemmas.Bool.{leb-true}
use Rattle.std.proofs.lemmas.Bool.Decides.{nat_tests}
use Rattle.net_model.specs.declared.record.Record.{Record}
use Rattle.net_model.specs.View.{View}
use Rattle.net_model.specs.World.{Journal, InDoubt}
use Rattle.net_model.specs.Journal.{journal_limit, added_len, is_blank, new_journal, extended, checkpoint_need, checkpoint_place, is_checkpoint_due, checkpointed, recovered_journal}
use Rattle.net_model.specs.Invariant.{IsJournal, HasRoomFor}
use Rattle.law_base.proofs.Base.{and_left, and_right, or_left, or_second, or_both, by_test}

-- The journal isn't blank and is within its limits.
pub record IsKept (j : Journal) : Type 0 where
  pub header : 17 ≤ j.length'
  pub limit : j.length' ≤ journal_limit
  pub live : j.start < j.length'
  pub written : ((j.version == 1) && (j.length' == 17)) ≡ false

pub is_journal : (j : Journal) → IsKept j → IsJournal j
is_journal j k = inr (k.header, k.limit, k.live)

pub kept_journal : (j : Journal) → IsJournal j → is_blank j ≡ false → IsKept j
kept_journal j h kept = elim h [
  | inl e ↦ let no : is_blank j ≡ true = or_left (j.length' == 0) _ (ap (λ (n : ℕ). n == 0) e) in absurd (cc)
  | inr x ↦ record { header = x.0; limit = x.1; live = x.2; written = or_second (j.length' == 0) _ kept }
]

pub kept_not_blank : (j : Journal) → IsKept j → is_blank j ≡ false
kept_not_blank j k = let h = k.header in or_both (j.length' == 0) _ (grind (arith, nat_tests)) k.written

pub new_kept : IsKept new_journal
new_kept = record { header = omega arith; limit = omega arith; live = omega arith; written = refl }

longer_written : (old : Bool) (n k : ℕ) → 17 ≤ n → (old && (n == 17)) ≡ false → (old && (n + k == 17)) ≡ false
longer_written true n k h e = grind (arith, nat_tests)
longer_written false n k h e = refl

pub extended_kept : (j : Journal) (octets : ℕ) → IsKept j → j.length' + octets ≤ journal_limit → IsKept (extended j octets)
extended_kept j octets k fits = record {
  header = omega (arith, k.header);
  limit = fits;
  live = omega (arith, k.live);
  written = longer_written (j.version == 1) j.length' octets k.header k.written;
}

some_need : (v : View) → 1 ≤ checkpoint_need v
unfolding checkpoint_need
some_need v = omega arith

late_place : (j : Journal) (octets : ℕ) → 50 ≤ checkpoint_place j octets
unfolding checkpoint_place
late_place j octets = by_test (λ (n : ℕ). 50 ≤ n) (j.moved && nat_le (50 + octets) j.start) 50 (max j.length' 50) (λ e. omega arith) (λ e. omega arith)

due_fits : (j : Journal) (octets : ℕ) → is_checkpoint_due j octets ≡ true → checkpoint_place j octets + octets ≤ journal_limit
unfolding is_checkpoint_due
due_fits j octets h =
    let room = and_left (not (is_blank j) && (nat_le 65536 j.length' || (j.version == 1)) && nat_le (checkpoint_place j octets + octets) journal_limit) _ h in
    leb-true (checkpoint_place j octets + octets) journal_limit (and_right (not (is_blank j) && (nat_le 65536 j.length' || (j.version == 1))) _ room)

pub checkpointed_kept : (j : Journal) (v : View) → is_checkpoint_due j (checkpoint_need v) ≡ true → IsKept (checkpointed j (checkpoint_need v))
unfolding checkpointed
checkpointed_kept j v due =
    let place = late_place j (checkpoint_need v) in
    let fits = due_fits j (checkpoint_need v) due in
    let some = some_need v in
    record { header = omega (arith, place); limit = fits; live = omega (arith, some); written = refl }

pub recovered_kept : (j : Journal) (v : View) → IsKept j → IsKept (recovered_journal j (checkpoint_need v))
recovered_kept j v k =
    by_test IsKept (is_checkpoint_due j (checkpoint_need v)) (checkpointed j (checkpoint_need v)) j (λ due. checkpointed_kept j v due) (λ e. k)

-- A batch in doubt adds its octets to the journal at most once.
settled_octets : (j : Journal) (batch : List Record) (checkpointed' : Option Bool) (committed : Bool) → (checkpointed' ≡ None → j.length' + added_len j.version batch ≤ journal_limit) →
    IsKept j → j.length' + (if committed && is_none checkpointed' then added_len j.version batch else 0) ≤ journal_limit
settled_octets j batch None true room k = room refl
settled_octets j batch (Some b) true room k = omega (arith, k.limit)
settled_octets j batch o false room k = omega (arith, k.limit)

pub settled_kept : (j : Journal) (d : InDoubt) (committed : Bool) → IsJournal j → HasRoomFor j d → is_blank j ≡ false →
    IsKept (extended j (if committed && is_none d.checkpointed then added_len j.version d.batch else 0))
settled_kept j d committed h room kept =
    let k = kept_journal j h kept in
    extended_kept j _ k (settled_octets j d.batch d.checkpointed committed room k)
