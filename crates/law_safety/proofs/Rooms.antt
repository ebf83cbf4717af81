-- The number of octets that handings add to a journal.
use Rattle.std.proofs.Common.{ℕ, suc, ◌+◌, ◌*◌, ◌≤◌, ◌&&◌, List, [], ◌∷◌, length, arith}
use Rattle.std.specs.Prelude.{◌==◌, nat_lt, sum_by}
use Rattle.std.proofs.lemmas.List.Sums.{sum_by-cons}
use Rattle.qkd_base.specs.Name.{Name}
use Rattle.net_model.specs.declared.record.Record.TheVariants.{Handed}
use Rattle.net_model.specs.Journal.{record_len, spelled_after, body_len, added_len}
use Rattle.net_model.specs.Pools.{hand_to}
use Rattle.law_base.proofs.Base.{by_test}

-- Lemmas on version 2 of the journal.
spelled_hands : (before names sae : ℕ) (ns : List Name) → spelled_after before names (hand_to sae ns) ≤ 19 * length ns
unfolding spelled_after
spelled_hands before names sae [] = omega arith
spelled_hands before names sae (n ∷ ns) =
    by_test (λ (k : ℕ). k ≤ 19 * suc (length ns)) (nat_lt 0 names && nat_lt names 128 && (sae == before)) _ _
    (λ e. let r = spelled_hands before (names + 1) sae ns in omega (arith, r))
    (λ e. let r = spelled_hands sae 1 sae ns in omega (arith, r))

-- Lemmas on version 1 of the journal.
summed_hands : (sae : ℕ) (ns : List Name) → sum_by (record_len 16) (hand_to sae ns) ≤ 19 * length ns
summed_hands sae [] = omega arith
summed_hands sae (n ∷ ns) =
    let r = summed_hands sae ns in
    let e = sum_by-cons (record_len 16) (Handed n sae) (hand_to sae ns) in
    omega (arith, r, e)

pub hands_fit : (version sae : ℕ) (ns : List Name) → added_len version (hand_to sae ns) ≤ 7 + 19 * length ns
unfolding body_len
hands_fit version sae [] = omega arith
hands_fit version sae (n ∷ ns) =
    by_test (λ (k : ℕ). 5 + (2 + k) ≤ 7 + 19 * suc (length ns)) (version == 1) _ _
    (λ e. let r = summed_hands sae (n ∷ ns) in omega (arith, r))
    (λ e. let r = spelled_hands 0 0 sae (n ∷ ns) in omega (arith, r))
