-- What valid events say of the lengths of their lists.
use Rattle.std.proofs.Common.{◌≡◌, ℕ, ◌≤◌, true, List, length, arith}
use Rattle.std.specs.Prelude.{◌&&◌, nat_le}
use Rattle.std.specs.List.{list_all}
use Rattle.std.proofs.lemmas.Bool.Decides.{nat_tests}
use Rattle.qkd_base.specs.Name.{Name}
use Rattle.net_model.specs.declared.event.Event.TheVariants.{Dec, FillGroup, EncGroup}
use Rattle.net_model.specs.Site.{Site}
use Rattle.net_model.specs.Streams.{is_size}
use Rattle.net_model.specs.Events.{is_count, is_name, is_rising, are_slaves, is_valid_event}
use Rattle.law_base.proofs.Base.{and_left, and_right}

count_most : (n : ℕ) → is_count n ≡ true → n ≤ 128
count_most n h = let most : nat_le n 128 ≡ true = and_right (nat_le 1 n) (nat_le n 128) h in grind (arith, nat_tests)

slaves_some : (ss : List ℕ) → are_slaves ss ≡ true → 1 ≤ length ss
slaves_some ss h =
    let two : nat_le 2 (length ss) ≡ true = and_left (nat_le 2 (length ss)) (nat_le (length ss) 5) (and_left (nat_le 2 (length ss) && nat_le (length ss) 5) (is_rising ss) h) in
    grind (arith, nat_tests)

pub dec_few : (site : Site) (v s m : ℕ) (names : List Name) → is_valid_event site v (Dec s m names) ≡ true → length names ≤ 65535
unfolding is_valid_event
dec_few site v s m names h = let most = count_most (length names) (and_left (is_count (length names)) (list_all is_name names) h) in omega (arith, most)

pub fill_group_some : (site : Site) (v m bits count : ℕ) (slaves : List ℕ) → is_valid_event site v (FillGroup m slaves bits count) ≡ true → 1 ≤ length slaves
unfolding is_valid_event
fill_group_some site v m bits count slaves h =
    slaves_some slaves (and_left (are_slaves slaves) (is_size bits) (and_left (are_slaves slaves && is_size bits) (is_count count) h))

pub enc_group_some : (site : Site) (v m n bits : ℕ) (slaves : List ℕ) → is_valid_event site v (EncGroup m slaves n bits) ≡ true → 1 ≤ length slaves
unfolding is_valid_event
enc_group_some site v m n bits slaves h =
    slaves_some slaves (and_left (are_slaves slaves) (is_count n) (and_left (are_slaves slaves && is_count n) (is_size bits) h))
