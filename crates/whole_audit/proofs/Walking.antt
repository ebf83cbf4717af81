-- The walk through a scenario: the tests of numbers by a table are those by the items before.
use Rattle.std.proofs.Common.{◌≡◌, ℕ, zero, suc, ◌+◌, ◌<◌, ◌≤◌, Bool, true, false, not, ◌&&◌, ◌||◌, cond, eqb, eqb-true, List, [], ◌∷◌, length, get_or, drop, Option, Some, None, refl, sym, ap, ◌∙◌, subst, inl, inr, arith}
use Rattle.std.specs.List.{list_any, list_all}
use Rattle.std.proofs.lemmas.List.{at_drop_more}
use Rattle.run_types.specs.declared.line.Line.{Line}
use Rattle.run_types.specs.declared.entry.Entry.{Entry}
use Rattle.run_types.specs.declared.entry.Entry.TheVariants as entries
use Rattle.std.specs.Prelude.{nat_le, nat_lt, MatchOption}
use Rattle.std.specs.Str.{bytes_eq}
use Rattle.std.proofs.lemmas.Bool.{cases_Bool}
use Rattle.std.proofs.lemmas.Bool.Decides.{nat_tests}
use Rattle.ordered_set.specs.Entries.{has_entry}
use Rattle.run_types.specs.declared.scenario.Scenario.{Scenario}
use Rattle.run_types.specs.declared.item.NumberedItem.{NumberedItem}
use Rattle.whole_audit.specs.declared.order.Walk.{Walk}
use Rattle.whole_audit.specs.Lines.{command_at}
use Rattle.whole_audit.specs.Rests.{behind, rest_of, owes_if, owes_behind}
use Rattle.whole_audit.specs.Order.{gives_more, may_be_silent, takes_line, takes, line_is_over, is_over, left_behind, left_with, left, has_come, owing, declares_node, is_above, are_over}
use Rattle.whole_audit.specs.Kept.{number_entry, has_number, IsWalkOf}

-- Two tests of numbers that agree give the same answers.
module _ (a b : ℕ → Bool) (same : (n : ℕ) → a n ≡ b n) (number : ℕ) where
  takes_line_same : (l : Line) → takes_line a number l ≡ takes_line b number l
  takes_line_same l = ap (λ (c : Bool). (eqb l.number number) && (gives_more l.command || not c)) (same number)

  any_same : (ls : List Line) → list_any (takes_line a number) ls ≡ list_any (takes_line b number) ls
  any_same [] = refl
  any_same (l ∷ ls) = ap (λ (c : Bool). c || list_any (takes_line a number) ls) (takes_line_same l) ∙ ap (λ (c : Bool). takes_line b number l || c) (any_same ls)

  takes_same : (e : Entry) → takes a number e ≡ takes b number e
  takes_same (entries.Line l) = takes_line_same l
  takes_same (entries.Block ls) = any_same ls

module _ (a b : ℕ → Bool) (same : (n : ℕ) → a n ≡ b n) (c d : ℕ → Bool) (also : (n : ℕ) → c n ≡ d n) where
  line_over_same : (l : Line) → line_is_over a c l ≡ line_is_over b d l
  line_over_same l =
      ap (λ (x : Bool). (may_be_silent l.command || x) && not (c l.number)) (same l.number)
      ∙ ap (λ (x : Bool). (may_be_silent l.command || b l.number) && not x) (also l.number)

  lines_over_same : (ls : List Line) → list_all (line_is_over a c) ls ≡ list_all (line_is_over b d) ls
  lines_over_same [] = refl
  lines_over_same (l ∷ ls) = ap (λ (x : Bool). x && list_all (line_is_over a c) ls) (line_over_same l) ∙ ap (λ (x : Bool). line_is_over b d l && x) (lines_over_same ls)

  over_same : (e : Entry) → is_over a c e ≡ is_over b d e
  over_same (entries.Line l) = line_over_same l
  over_same (entries.Block ls) = lines_over_same ls

  pub all_over_same : (es : List Entry) → list_all (is_over a c) es ≡ list_all (is_over b d) es
  all_over_same [] = refl
  all_over_same (e ∷ es) = ap (λ (x : Bool). x && list_all (is_over a c) es) (over_same e) ∙ ap (λ (x : Bool). is_over b d e && x) (all_over_same es)

  pub left_same : (number : ℕ) (es : List Entry) → left_behind a c number es ≡ left_behind b d number es
  left_same number [] = refl
  left_same number (e ∷ es) =
      ap (λ (x : Bool). cond x (Some (e ∷ es)) (cond (is_over a c e) (left_behind a c number es) None)) (takes_same a b same number e)
      ∙ ap (λ (x : Bool). cond (takes b number e) (Some (e ∷ es)) (cond x (left_behind a c number es) None)) (over_same e)
      ∙ ap (λ (o : Option (List Entry)). cond (takes b number e) (Some (e ∷ es)) (cond (is_over b d e) o None)) (left_same number es)

-- ---- the loop over entries

module _ (came owing : ℕ → Bool) (es : List Entry) (place : ℕ) (e : Entry) (inside : place < length es) (is : e ≡ get_or es place e) where
  begins : {Y : Type 0} (F : List Entry → Y) → F (drop place es) ≡ F (e ∷ drop (place + 1) es)
  begins F = at_drop_more F es place e inside ∙ ap (λ (x : Entry). F (x ∷ drop (place + 1) es)) (sym is)

  pub taken_here : (number : ℕ) → takes came number e ≡ true → left_behind came owing number (drop place es) ≡ Some (drop place es)
  taken_here number h =
      begins (left_behind came owing number)
      ∙ ap (λ (c : Bool). cond c (Some (e ∷ drop (place + 1) es)) (cond (is_over came owing e) (left_behind came owing number (drop (place + 1) es)) None)) h
      ∙ sym (begins (λ xs. Some xs))

  pub not_over_here : (number : ℕ) → takes came number e ≡ false → is_over came owing e ≡ false → left_behind came owing number (drop place es) ≡ None
  not_over_here number h k =
      begins (left_behind came owing number)
      ∙ ap (λ (c : Bool). cond c (Some (e ∷ drop (place + 1) es)) (cond (is_over came owing e) (left_behind came owing number (drop (place + 1) es)) None)) h
      ∙ ap (λ (c : Bool). cond c (left_behind came owing number (drop (place + 1) es)) None) k

  pub further : (number : ℕ) → takes came number e ≡ false → is_over came owing e ≡ true → left_behind came owing number (drop (place + 1) es) ≡ left_behind came owing number (drop place es)
  further number h k = sym (
      begins (left_behind came owing number)
      ∙ ap (λ (c : Bool). cond c (Some (e ∷ drop (place + 1) es)) (cond (is_over came owing e) (left_behind came owing number (drop (place + 1) es)) None)) h
      ∙ ap (λ (c : Bool). cond c (left_behind came owing number (drop (place + 1) es)) None) k)

  pub over_here : is_over came owing e ≡ true → list_all (is_over came owing) (drop (place + 1) es) ≡ list_all (is_over came owing) (drop place es)
  over_here k = sym (begins (list_all (is_over came owing)) ∙ ap (λ (c : Bool). c && list_all (is_over came owing) (drop (place + 1) es)) k)

  pub not_all_over : is_over came owing e ≡ false → list_all (is_over came owing) (drop place es) ≡ false
  not_all_over k = begins (list_all (is_over came owing)) ∙ ap (λ (c : Bool). c && list_all (is_over came owing) (drop (place + 1) es)) k

pub drop_end : (es : List Entry) (k : ℕ) → length es ≤ k → drop k es ≡ []
drop_end [] zero h = refl
drop_end [] (suc k) h = refl
drop_end (y ∷ ys) zero h = absurd (omega arith)
drop_end (y ∷ ys) (suc k) h = drop_end ys k (omega arith)

-- ---- one more item

and_true : (b : Bool) → (b && true) ≡ b
and_true true = refl
and_true false = refl

pub number_entries : (a b : ℕ) → bytes_eq (number_entry a) (number_entry b) ≡ eqb a b
number_entries a b = and_true (eqb a b)

module _ (s : Scenario) (w : Walk) (told : NumberedItem) (before : List NumberedItem) (walk : IsWalkOf s w before) where
  pub node_may_stand : declares_node s told.number ≡ true → nat_le w.next told.number ≡ true → left s (told ∷ before) ≡ Some (drop w.place s.entries)
  node_may_stand d h =
      ap (λ (b : Bool). cond b (cond (is_above told.number before) (left s before) None) (left_with (has_come before) (owing s before) told.number (left s before))) d
      ∙ ap (λ (b : Bool). cond b (left s before) None) (sym (walk.next told.number) ∙ h)
      ∙ walk.left

  pub node_may_not : declares_node s told.number ≡ true → nat_le w.next told.number ≡ false → left s (told ∷ before) ≡ None
  node_may_not d h =
      ap (λ (b : Bool). cond b (cond (is_above told.number before) (left s before) None) (left_with (has_come before) (owing s before) told.number (left s before))) d
      ∙ ap (λ (b : Bool). cond b (left s before) None) (sym (walk.next told.number) ∙ h)

  pub line_stands : declares_node s told.number ≡ false → left s (told ∷ before) ≡ left_behind (has_number w.came) (has_number w.owing) told.number (drop w.place s.entries)
  line_stands d =
      ap (λ (b : Bool). cond b (cond (is_above told.number before) (left s before) None) (left_with (has_come before) (owing s before) told.number (left s before))) d
      ∙ ap (left_with (has_come before) (owing s before) told.number) walk.left
      ∙ sym (left_same (has_number w.came) (has_come before) walk.came (has_number w.owing) (owing s before) walk.owing told.number (drop w.place s.entries))

  pub came_more : (new : List (List ℕ)) → ((e : List ℕ) → has_entry new e ≡ (bytes_eq (number_entry told.number) e || has_entry w.came e)) → (n : ℕ) → has_number new n ≡ has_come (told ∷ before) n
  came_more new put n = put (number_entry n) ∙ ap (λ (b : Bool). b || has_number w.came n) (number_entries told.number n) ∙ ap (λ (b : Bool). eqb told.number n || b) (walk.came n)

  pub next_more : (n : ℕ) → nat_le (cond (nat_le w.next told.number) (told.number + 1) w.next) n ≡ is_above n (told ∷ before)
  next_more n = above_both w.next told.number n ∙ ap (λ (b : Bool). nat_lt told.number n && b) (walk.next n)
    where
      above_both : (a m n : ℕ) → nat_le (cond (nat_le a m) (m + 1) a) n ≡ (nat_lt m n && nat_le a n)
      above_both a m n = grind (arith, nat_tests)

  pub ends_same : list_all (is_over (has_number w.came) (has_number w.owing)) (drop w.place s.entries) ≡ are_over (has_come before) (owing s before) (left s before)
  ends_same = all_over_same (has_number w.came) (has_come before) walk.came (has_number w.owing) (owing s before) walk.owing (drop w.place s.entries) ∙ sym (ap (are_over (has_come before) (owing s before)) walk.left)

  pub owing_more : (new : List (List ℕ)) (owes : Bool) → owes ≡ owes_behind s before told → ((n : ℕ) → has_number new n ≡ cond (eqb told.number n) owes (has_number w.owing n)) → (n : ℕ) → has_number new n ≡ owing s (told ∷ before) n
  owing_more new owes is put n = elim (cases_Bool (eqb told.number n)) [
    | inl same ↦
        put n
        ∙ ap (λ (b : Bool). cond b owes (has_number w.owing n)) same
        ∙ is
        ∙ ap (λ (k : ℕ). owes_if (command_at s k) (behind told.item (rest_of s k before))) (eqb-true told.number n same)
        ∙ sym (ap (λ (b : Bool). (b || has_come before n) && owes_if (command_at s n) (cond b (behind told.item (rest_of s n before)) (rest_of s n before))) same)
    | inr other ↦
        put n
        ∙ ap (λ (b : Bool). cond b owes (has_number w.owing n)) other
        ∙ walk.owing n
        ∙ sym (ap (λ (b : Bool). (b || has_come before n) && owes_if (command_at s n) (cond b (behind told.item (rest_of s n before)) (rest_of s n before))) other)
  ]

-- ---- what a place that may be none says

pub none_from : (A : Type 0) (B : ℕ → Type 0) (o : Option ℕ) → MatchOption o A B → o ≡ None → A
none_from A B None m e = m
none_from A B (Some x) m e = absurd (let u : ⊥ = cc in u)

pub some_from : (A : Type 0) (B : ℕ → Type 0) (o : Option ℕ) (n : ℕ) → MatchOption o A B → o ≡ Some n → B n
some_from A B None n m e = absurd (let u : ⊥ = cc in u)
some_from A B (Some x) n m e = let same : x ≡ n = cc in subst B same m
