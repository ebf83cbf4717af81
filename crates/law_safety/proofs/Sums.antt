-- Counting the owned bytes of a lane by what became of them.
use Rattle.std.proofs.Common.{◌≡◌, ℕ, suc, ◌+◌, List, [], ◌∷◌, length, refl, arith}
use Rattle.std.specs.Prelude.{count_by, filter}
use Rattle.std.proofs.lemmas.List.Sums.{length-filter}
use Rattle.qkd_base.specs.declared.lane.Lane.{Lane}
use Rattle.net_model.specs.World.{Network, World, Owner, HashKey, Frame, Burnt}
use Rattle.net_model.specs.Ledger.{is_spent, is_burnt, ledger}
use Rattle.net_model.specs.Invariant.{Conserved}

one_after : (a b n : ℕ) → a + b ≡ n → a + suc b ≡ suc n
one_after a b n h = omega (arith, h)

one_before : (a b n : ℕ) → a + b ≡ n → suc a + b ≡ suc n
one_before a b n h = omega (arith, h)

both_kinds : (own : List Owner) → length (filter is_spent own) + length (filter is_burnt own) ≡ length own
both_kinds [] = refl
both_kinds (HashKey ∷ own) = one_before (length (filter is_spent own)) (length (filter is_burnt own)) (length own) (both_kinds own)
both_kinds (Frame j ∷ own) = one_before (length (filter is_spent own)) (length (filter is_burnt own)) (length own) (both_kinds own)
both_kinds (Burnt ∷ own) = one_after (length (filter is_spent own)) (length (filter is_burnt own)) (length own) (both_kinds own)

spent_or_burnt : (own : List Owner) → count_by is_spent own + count_by is_burnt own ≡ length own
spent_or_burnt own = let s = length-filter is_spent own in let b = length-filter is_burnt own in let h = both_kinds own in omega (arith, s, b, h)

pub counted : (net : Network) (w : World) → Conserved net w → (l : Lane) → (ledger w l).received ≡ (ledger w l).unused + (ledger w l).spent + (ledger w l).burnt
unfolding ledger
counted net w c l =
    let room = c.now.room l in
    omega (arith, room.planned, room.leased, spent_or_burnt (w.durable.own l))
