-- A lane takes the bytes that its sender's manager has, block after block.
use Rattle.std.proofs.Common.{◌≡◌, ℕ, ◌+◌, ◌-◌, ◌*◌, ◌<◌, ◌≤◌, true, false, List, ◌++◌, length, take, drop, refl, sym, ap, ◌∙◌, arith}
use Rattle.std.specs.Prelude.{◌==◌, nat_le}
use Rattle.std.proofs.lemmas.Bool.{leb-true}
use Rattle.std.proofs.lemmas.Bool.Decides.{nat_tests}
use Rattle.std.proofs.lemmas.List.{length-take-le}
use Rattle.std.proofs.Math.Seq.{take-add}
use Rattle.pad_ledger.specs.Ledger.{Ledger, received_more}
use Rattle.lane_sender.specs.Lane.{LaneForm}
use Rattle.law_base.proofs.Base.{eq_from, eq_same, when_true, when_false}
use Rattle.world_state.specs.Starting.{ledger_at, refilled, MayRefill}

-- ledgers

at_same : (n : ℕ) (l : Ledger) → l.received ≡ n → ledger_at n l ≡ l
at_same n l is = when_true (l.received == n) l _ (ap (λ (k : ℕ). k == n) is ∙ eq_same n)

at_more : (n : ℕ) (l : Ledger) → (l.received == n) ≡ false → ledger_at n l ≡ received_more l (n - l.received)
at_more n l other = when_false (l.received == n) l _ other

-- the ledger after the first bytes, and after further bytes
first_more : (l : Ledger) (k : ℕ) → (l.received == 0) ≡ true → received_more l k ≡ record { used = 8; end = 8; received = k; burnt = l.burnt }
first_more l k none = when_true (l.received == 0) _ _ none

next_more : (l : Ledger) (k : ℕ) → (l.received == 0) ≡ false → received_more l k ≡ record l { received = l.received + k }
next_more l k some = when_false (l.received == 0) _ _ some

apart : (a b : ℕ) → (a ≡ b → ⊥) → (a == b) ≡ false
apart a b other = elim (a == b) as (λ t. (a == b) ≡ t → t ≡ false) [
  | true ↦ λ e. absurd (other (eq_from a b e))
  | false ↦ λ e. refl
] refl

-- To receive k bytes and then m more is to receive k + m bytes.
twice_more : (l : Ledger) (k m : ℕ) → 0 < k → received_more (received_more l k) m ≡ received_more l (k + m)
twice_more l k m some = elim (l.received == 0) as (λ t. (l.received == 0) ≡ t → received_more (received_more l k) m ≡ received_more l (k + m)) [
  | true ↦ λ e.
      ap (λ (x : Ledger). received_more x m) (first_more l k e)
      ∙ next_more (record { used = 8; end = 8; received = k; burnt = l.burnt }) m (apart k 0 (λ is. omega (arith, some, is)))
      ∙ sym (first_more l (k + m) e)
  | false ↦ λ e.
      ap (λ (x : Ledger). received_more x m) (next_more l k e)
      ∙ next_more (record l { received = l.received + k }) m (apart (l.received + k) 0 (λ is. omega (arith, some, is)))
      ∙ ap (λ (n : ℕ). record l { received = n }) (grouped l.received k m)
      ∙ sym (next_more l (k + m) e)
] refl
  where
    grouped : (a b c : ℕ) → (a + b) + c ≡ a + (b + c)
    grouped a b c = omega arith

pub more_at : (l : Ledger) (n : ℕ) → l.received ≤ n → received_more (ledger_at n l) 1024 ≡ ledger_at (n + 1024) l
more_at l n below = elim (l.received == n) as (λ t. (l.received == n) ≡ t → received_more (ledger_at n l) 1024 ≡ ledger_at (n + 1024) l) [
  | true ↦ λ e.
      let is : l.received ≡ n = eq_from l.received n e in
      ap (λ (x : Ledger). received_more x 1024) (at_same n l is) ∙ ap (received_more l) (rest n l.received is)
      ∙ sym (at_more (n + 1024) l (apart l.received (n + 1024) (λ same. omega (arith, is, same))))
  | false ↦ λ e.
      ap (λ (x : Ledger). received_more x 1024) (at_more n l e)
      ∙ twice_more l (n - l.received) 1024 (grind (arith, nat_tests))
      ∙ ap (received_more l) (moved n l.received below)
      ∙ sym (at_more (n + 1024) l (apart l.received (n + 1024) (λ same. omega (arith, below, same))))
] refl
  where
    rest : (n r : ℕ) → r ≡ n → 1024 ≡ (n + 1024) - r
    rest n r is = omega (arith, is)

    moved : (n r : ℕ) → r ≤ n → (n - r) + 1024 ≡ (n + 1024) - r
    moved n r below = omega (arith, below)

-- lanes

-- The lane has the first n blocks.
pub record Filled {X : Type 0} (octets : List ℕ) (old : LaneForm X) (n : ℕ) (side : LaneForm X) : Type 0 where
  pub is : side ≡ refilled (take (1024 * n) octets) old
  pub later : old.ledger.received ≤ 1024 * n
  pub within : 1024 * n ≤ length octets

module _ {X : Type 0} (octets : List ℕ) (old : LaneForm X) (m : MayRefill octets old) where
  there : (n : ℕ) → 1024 * n ≤ length octets → length (take (1024 * n) octets) ≡ 1024 * n
  there n within = length-take-le (1024 * n) octets within

  module _ (n : ℕ) (side : LaneForm X) (f : Filled octets old n side) where
    pub same_lane : side.lane ≡ old.lane
    same_lane = ap (λ (s : LaneForm X). s.lane) f.is

    pub same_wire : side.wire ≡ old.wire
    same_wire = ap (λ (s : LaneForm X). s.wire) f.is

    pub filled_more : nat_le (1024 * n + 1024) (length octets) ≡ true → (block : List ℕ) → block ≡ take 1024 (drop (1024 * n) octets) → (new : LaneForm X) →
        new ≡ record side { bytes = side.bytes ++ block; ledger = received_more side.ledger 1024 } → Filled octets old (n + 1) new
    filled_more more block is new taken = record {
      is = taken ∙ (λ i. record (f.is i) { bytes = (f.is i).bytes ++ is i; ledger = received_more (f.is i).ledger 1024 }) ∙ (λ i. record old { bytes = bytes i; ledger = ledger i });
      later = omega (arith, f.later);
      within = within;
    }
      where
        within : 1024 * (n + 1) ≤ length octets
        within = let reach = leb-true (1024 * n + 1024) (length octets) more in omega (arith, reach)

        next : 1024 * n + 1024 ≡ 1024 * (n + 1)
        next = omega arith

        bytes : take (1024 * n) octets ++ take 1024 (drop (1024 * n) octets) ≡ take (1024 * (n + 1)) octets
        bytes = sym (take-add (1024 * n) 1024 octets) ∙ ap (λ (k : ℕ). take k octets) next

        ledger : received_more (ledger_at (length (take (1024 * n) octets)) old.ledger) 1024 ≡ ledger_at (length (take (1024 * (n + 1)) octets)) old.ledger
        ledger =
            ap (λ (k : ℕ). received_more (ledger_at k old.ledger) 1024) (there n f.within) ∙ more_at old.ledger (1024 * n) f.later
            ∙ ap (λ (k : ℕ). ledger_at k old.ledger) (next ∙ sym (there (n + 1) within))
