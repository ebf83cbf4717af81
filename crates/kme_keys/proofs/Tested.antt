-- How the parts of a group key are tested, one by one.
use Rattle.std.proofs.Common.{◌≡◌, ℕ, ◌+◌, ◌≤◌, Bool, true, false, not, ◌&&◌, ◌||◌, List, [], ◌∷◌, length, refl, sym, ◌∙◌, ap}
use Rattle.std.specs.Prelude.{slice_get}
use Rattle.std.specs.List.{list_all}
use Rattle.qkd_base.specs.Name.{Name}
use Rattle.net_model.specs.declared.fact.Fact.{Fact}
use Rattle.net_model.specs.Table.{is_part_of, parts_of, part_of, was_handed}
use Rattle.net_model.specs.View.{View}
use Rattle.net_model.specs.Groups.{same_slaves, goes_to, is_part_from, is_unhanded_group, is_group_ready}
use Rattle.relay_core.specs.Firsts.{IsFirstFrom, IsNoneFrom}
use Rattle.kme_keys.specs.Candidates.{is_part_to_at, are_parts_to, is_fact_confirmed, is_confirmed_at, is_candidate}
use Rattle.kme_keys.proofs.Behind.{passing, none_behind, first_behind, past_end}

-- the parts for the slaves, from a place on

module _ (m bits : ℕ) (n : Name) (facts : List Fact) (from : ℕ) (t : ℕ) (ts : List ℕ) where
  pub no_part_left : IsNoneFrom (is_part_of n) facts from → are_parts_to m bits (passing (is_part_of n) facts from) (t ∷ ts) ≡ false
  no_part_left none = ap (λ (fs : List Fact). are_parts_to m bits fs (t ∷ ts)) (none_behind (is_part_of n) facts from none)

  stepped : (place : ℕ) (first : IsFirstFrom (is_part_of n) facts from place) (b : Bool) → is_part_to_at m bits t (slice_get facts place) ≡ b →
      are_parts_to m bits (passing (is_part_of n) facts from) (t ∷ ts) ≡ (b && are_parts_to m bits (passing (is_part_of n) facts (place + 1)) ts)
  stepped place first b h =
      ap (λ (fs : List Fact). are_parts_to m bits fs (t ∷ ts)) (first_behind (is_part_of n) facts from place first)
      ∙ ap (λ (x : Bool). x && are_parts_to m bits (passing (is_part_of n) facts (place + 1)) ts) (ap (is_part_to_at m bits t) (sym first.there) ∙ h)

  pub other_part : (place : ℕ) → IsFirstFrom (is_part_of n) facts from place → is_part_to_at m bits t (slice_get facts place) ≡ false →
      are_parts_to m bits (passing (is_part_of n) facts from) (t ∷ ts) ≡ false
  other_part place first h = stepped place first false h

  pub right_part : (place : ℕ) → IsFirstFrom (is_part_of n) facts from place → is_part_to_at m bits t (slice_get facts place) ≡ true →
      are_parts_to m bits (passing (is_part_of n) facts from) (t ∷ ts) ≡ are_parts_to m bits (passing (is_part_of n) facts (place + 1)) ts
  right_part place first h = stepped place first true h

pub all_parts : (m bits : ℕ) (n : Name) (facts : List Fact) (from : ℕ) → IsNoneFrom (is_part_of n) facts from → are_parts_to m bits (passing (is_part_of n) facts from) [] ≡ true
all_parts m bits n facts from none = ap (λ (fs : List Fact). are_parts_to m bits fs []) (none_behind (is_part_of n) facts from none)

pub more_parts : (m bits : ℕ) (n : Name) (facts : List Fact) (from place : ℕ) → IsFirstFrom (is_part_of n) facts from place → are_parts_to m bits (passing (is_part_of n) facts from) [] ≡ false
more_parts m bits n facts from place first = ap (λ (fs : List Fact). are_parts_to m bits fs []) (first_behind (is_part_of n) facts from place first)

-- all parts from a place on are confirmed

module _ (n : Name) (facts : List Fact) (from : ℕ) where
  abbrev sure : Fact → Bool
  sure = is_fact_confirmed facts

  pub none_left : IsNoneFrom (is_part_of n) facts from → list_all (is_fact_confirmed facts) (passing (is_part_of n) facts from) ≡ true
  none_left none = ap (list_all sure) (none_behind (is_part_of n) facts from none)

  pub nothing_left : length facts ≤ from → list_all (is_fact_confirmed facts) (passing (is_part_of n) facts from) ≡ true
  nothing_left le = ap (list_all sure) (past_end (is_part_of n) facts from le)

  one_sure : (place : ℕ) (first : IsFirstFrom (is_part_of n) facts from place) (b : Bool) → is_confirmed_at facts (slice_get facts place) ≡ b →
      list_all (is_fact_confirmed facts) (passing (is_part_of n) facts from) ≡ (b && list_all (is_fact_confirmed facts) (passing (is_part_of n) facts (place + 1)))
  one_sure place first b h =
      ap (list_all sure) (first_behind (is_part_of n) facts from place first)
      ∙ ap (λ (x : Bool). x && list_all sure (passing (is_part_of n) facts (place + 1))) (ap (is_confirmed_at facts) (sym first.there) ∙ h)

  pub unconfirmed : (place : ℕ) → IsFirstFrom (is_part_of n) facts from place → is_confirmed_at facts (slice_get facts place) ≡ false →
      list_all (is_fact_confirmed facts) (passing (is_part_of n) facts from) ≡ false
  unconfirmed place first h = one_sure place first false h

  pub confirmed : (place : ℕ) → IsFirstFrom (is_part_of n) facts from place → is_confirmed_at facts (slice_get facts place) ≡ true →
      list_all (is_fact_confirmed facts) (passing (is_part_of n) facts from) ≡ list_all (is_fact_confirmed facts) (passing (is_part_of n) facts (place + 1))
  confirmed place first h = one_sure place first true h

-- the tests in the order of the definition

shuffled : (a b c d : Bool) → ((a && b) && (c && d)) ≡ ((a && c) && (b && d))
shuffled true true c d = refl
shuffled true false true d = refl
shuffled true false false d = refl
shuffled false b c d = refl

pub both_tests : (m bits : ℕ) (fs : List Fact) (ts : List ℕ) → are_parts_to m bits fs ts ≡ (same_slaves fs ts && list_all (λ f. is_part_from m bits (part_of f)) fs)
both_tests m bits [] [] = refl
both_tests m bits [] (t ∷ ts) = refl
both_tests m bits (f ∷ fs) [] = refl
both_tests m bits (f ∷ fs) (t ∷ ts) =
    ap (λ (b : Bool). (goes_to t (part_of f) && is_part_from m bits (part_of f)) && b) (both_tests m bits fs ts)
    ∙ shuffled (goes_to t (part_of f)) (is_part_from m bits (part_of f)) (same_slaves fs ts) (list_all (λ g. is_part_from m bits (part_of g)) fs)

pub unhanded_is : (v : View) (m : ℕ) (slaves : List ℕ) (bits : ℕ) (n : Name) → (are_parts_to m bits (parts_of v.facts n) slaves && not (was_handed v.handed n m)) ≡ is_unhanded_group v m slaves bits n
unhanded_is v m slaves bits n = ap (λ (b : Bool). b && not (was_handed v.handed n m)) (both_tests m bits (parts_of v.facts n) slaves)

-- a candidate

module _ (v : View) (m : ℕ) (slaves : List ℕ) (bits : ℕ) (ready : Bool) (n : Name) where
  shown : is_candidate v m slaves bits ready n ≡ ((are_parts_to m bits (parts_of v.facts n) slaves && not (was_handed v.handed n m)) && (not ready || is_group_ready v n))
  shown = ap (λ (b : Bool). b && (not ready || is_group_ready v n)) (sym (unhanded_is v m slaves bits n))

  pub wrong_parts : are_parts_to m bits (parts_of v.facts n) slaves ≡ false → is_candidate v m slaves bits ready n ≡ false
  wrong_parts h = shown ∙ ap (λ (b : Bool). (b && not (was_handed v.handed n m)) && (not ready || is_group_ready v n)) h

  module _ (right : are_parts_to m bits (parts_of v.facts n) slaves ≡ true) where
    right_shown : is_candidate v m slaves bits ready n ≡ (not (was_handed v.handed n m) && (not ready || is_group_ready v n))
    right_shown = shown ∙ ap (λ (b : Bool). (b && not (was_handed v.handed n m)) && (not ready || is_group_ready v n)) right

    pub taken : was_handed v.handed n m ≡ true → is_candidate v m slaves bits ready n ≡ false
    taken h = right_shown ∙ ap (λ (b : Bool). not b && (not ready || is_group_ready v n)) h

    pub waits : was_handed v.handed n m ≡ false → is_candidate v m slaves bits ready n ≡ (not ready || is_group_ready v n)
    waits h = right_shown ∙ ap (λ (b : Bool). not b && (not ready || is_group_ready v n)) h
