-- The course of an effect, by what the environment answers.
use Rattle.std.proofs.Common.{◌≡◌, ℕ, ◌+◌, ◌<◌, ◌≤◌, Bool, true, false, not, ◌&&◌, ◌||◌, refl, ap, ◌∙◌, arith}
use Rattle.std.specs.Prelude.{nat_lt, if◌then◌else◌}
use Rattle.std.specs.List.{list_all}
use Rattle.std.proofs.lemmas.Bool.Decides.{nat_tests}
use Rattle.net_model.specs.declared.reply.Reply.{Reply}
use Rattle.net_model.specs.declared.reply.Reply.TheVariants.{Memory, JournalFull, NoRandom}
use Rattle.net_model.specs.OctetSequence.{OctetSequence, has_octets}
use Rattle.net_model.specs.World.{Journal}
use Rattle.net_model.specs.Journal.{added_len, is_nil, journal_limit}
use Rattle.net_model.specs.Decision.{Effect}
use Rattle.net_model.specs.Handle.{is_numbered}
use Rattle.net_model.specs.Action.{Ok, OutOfMemory, EntropyFault, IoFault}
use Rattle.kme_store.specs.Course.{Course, Stays, Stops, Goes, performed}

-- the course by the answers to the four tests
abbrev four : Reply → ℕ → Effect → Bool → Bool → Bool → Bool → Course
four full octets effect a b c d = if a then Stays Memory else if b then Stays full else if c then Stays NoRandom else if d then Stops octets effect else Goes octets effect

-- octets are needed that the entropy doesn't have, or fails to give
abbrev lacks : OctetSequence → ℕ → Bool → Bool
lacks rest octets fails = nat_lt 0 octets && (not (has_octets rest octets) || fails)

by_tests : (full : Reply) (octets : ℕ) (effect : Effect) (a b c d a' b' c' d' : Bool) → a ≡ a' → b ≡ b' → c ≡ c' → d ≡ d' →
    four full octets effect a b c d ≡ four full octets effect a' b' c' d'
by_tests full octets effect a b c d a' b' c' d' p q r s = cc (p, q, r, s)

no_past : (length more : ℕ) → length + more ≤ journal_limit → nat_lt journal_limit (length + more) ≡ false
no_past length more h = grind (arith, nat_tests)

is_past : (length more : ℕ) → journal_limit < length + more → nat_lt journal_limit (length + more) ≡ true
is_past length more h = grind (arith, nat_tests)

some : (n : ℕ) → 0 < n → nat_lt 0 n ≡ true
some n h = grind (arith, nat_tests)

wanted : (n : ℕ) → nat_lt 0 n ≡ true → 0 < n
wanted n h = grind (arith, nat_tests)

has_none : (rest : OctetSequence) (octets : ℕ) → (0 < octets → has_octets rest octets ≡ true) → lacks rest octets false ≡ false
has_none rest octets there =
    elim (nat_lt 0 octets) as (λ t. nat_lt 0 octets ≡ t → (t && (not (has_octets rest octets) || false)) ≡ false) [
      | true ↦ λ is. ap (λ (b : Bool). true && (not b || false)) (there (wanted octets is))
      | false ↦ λ is. refl
    ] refl

module _ (journal : Journal) (rest : OctetSequence) (octets : ℕ) (effect : Effect) where
  pub no_memory : performed journal rest octets OutOfMemory effect ≡ Stays Memory
  unfolding performed
  no_memory = refl

  pub past : list_all is_numbered effect.batch ≡ true → journal_limit < journal.length' + added_len journal.version effect.batch →
      performed journal rest octets Ok effect ≡ Stays (JournalFull journal.length' (added_len journal.version effect.batch))
  unfolding performed
  past numbered more =
      by_tests (JournalFull journal.length' (added_len journal.version effect.batch)) octets effect
      (not (list_all is_numbered effect.batch)) (nat_lt journal_limit (journal.length' + added_len journal.version effect.batch)) (lacks rest octets false) false
      false true (lacks rest octets false) false (ap not numbered) (is_past journal.length' (added_len journal.version effect.batch) more) refl refl

  pub not_there : list_all is_numbered effect.batch ≡ true → journal.length' + added_len journal.version effect.batch ≤ journal_limit → 0 < octets → has_octets rest octets ≡ false →
      performed journal rest octets Ok effect ≡ Stays NoRandom
  unfolding performed
  not_there numbered within need none =
      by_tests (JournalFull journal.length' (added_len journal.version effect.batch)) octets effect
      (not (list_all is_numbered effect.batch)) (nat_lt journal_limit (journal.length' + added_len journal.version effect.batch)) (lacks rest octets false) false
      false false true false (ap not numbered) (no_past journal.length' (added_len journal.version effect.batch) within)
      (ap (λ (b : Bool). b && (not (has_octets rest octets) || false)) (some octets need) ∙ ap (λ (b : Bool). true && (not b || false)) none) refl

  not_given_test : 0 < octets → lacks rest octets true ≡ true
  not_given_test need =
      ap (λ (b : Bool). b && (not (has_octets rest octets) || true)) (some octets need)
      ∙ elim (has_octets rest octets) as (λ b. (true && (not b || true)) ≡ true) [ true ↦ refl | false ↦ refl ]

  pub not_given : list_all is_numbered effect.batch ≡ true → journal.length' + added_len journal.version effect.batch ≤ journal_limit → 0 < octets →
      performed journal rest octets EntropyFault effect ≡ Stays NoRandom
  unfolding performed
  not_given numbered within need =
      by_tests (JournalFull journal.length' (added_len journal.version effect.batch)) octets effect
      (not (list_all is_numbered effect.batch)) (nat_lt journal_limit (journal.length' + added_len journal.version effect.batch)) (lacks rest octets true) false
      false false true false (ap not numbered) (no_past journal.length' (added_len journal.version effect.batch) within) (not_given_test need) refl

  pub stops : list_all is_numbered effect.batch ≡ true → journal.length' + added_len journal.version effect.batch ≤ journal_limit → (0 < octets → has_octets rest octets ≡ true) →
      is_nil effect.batch ≡ false → performed journal rest octets IoFault effect ≡ Stops octets effect
  unfolding performed
  stops numbered within there written =
      by_tests (JournalFull journal.length' (added_len journal.version effect.batch)) octets effect
      (not (list_all is_numbered effect.batch)) (nat_lt journal_limit (journal.length' + added_len journal.version effect.batch)) (lacks rest octets false) (not (is_nil effect.batch))
      false false false true (ap not numbered) (no_past journal.length' (added_len journal.version effect.batch) within) (has_none rest octets there) (ap not written)

  pub goes : list_all is_numbered effect.batch ≡ true → journal.length' + added_len journal.version effect.batch ≤ journal_limit → (0 < octets → has_octets rest octets ≡ true) →
      performed journal rest octets Ok effect ≡ Goes octets effect
  unfolding performed
  goes numbered within there =
      by_tests (JournalFull journal.length' (added_len journal.version effect.batch)) octets effect
      (not (list_all is_numbered effect.batch)) (nat_lt journal_limit (journal.length' + added_len journal.version effect.batch)) (lacks rest octets false) false
      false false false false (ap not numbered) (no_past journal.length' (added_len journal.version effect.batch) within) (has_none rest octets there) refl
