-- The loop that checks a text line by line says what its definition says.
use Rattle.std.proofs.Common.{◌≡◌, ℕ, ◌+◌, ◌-◌, Bool, true, false, ◌&&◌, ◌||◌, eqb, List, [], ◌∷◌, ◌++◌, length, take, Option, Some, None, refl, sym, ap, ◌∙◌, subst, arith, Result, ◌<◌, ◌≤◌}
use Rattle.std.specs.Prelude.{nat_lt, IfOk}
use Rattle.qkd_base.specs.declared.memory.Memory.{Memory}
use Rattle.std.specs.Str.Lines.{strip_carriage_return}
use Rattle.scenario_text.specs.declared.reading.Reading.{Reading}
use Rattle.std.proofs.lemmas.List.{take-take}
use Rattle.std.proofs.lemmas.Bool.Decides.{nat_tests}
use Rattle.scenario_text.specs.Line.{Step, Goes, Ends, nothing_read, line_at}
use Rattle.scenario_text.specs.Text.{text_limit, within, parts_of}
use Rattle.scenario_text.proofs.Lines.{cut_of}
use Rattle.scenario_check.specs.declared.reason.Reason.{Reason}
use Rattle.scenario_check.specs.declared.reason.Reason.TheVariants.{NoEnd, BehindEnd}
use Rattle.scenario_check.specs.declared.refusal.Refusal.{Refusal}
use Rattle.scenario_check.specs.declared.refusal.Checked.{Checked}
use Rattle.scenario_check.specs.declared.refusal.Checked.TheVariants.{Refused}
use Rattle.scenario_check.specs.Reasons.{reason_for}
use Rattle.scenario_check.specs.Check.{refusal, at_end, last_checked, then_checked, checked_from, checked_of}

-- ---- a line of the text

abbrev line_means : ℕ → ℕ → Reading → List ℕ → Option Step
line_means left n r line = within left (length line + 1) (length (strip_carriage_return line)) (line_at r n (strip_carriage_return line))

unfold_at : (left n : ℕ) (r : Reading) (found : List Refusal) (line first : List ℕ) (others parts : List (List ℕ)) (e : Bool) → parts ≡ first ∷ others → (eqb (length first) 0 && eqb (length others) 0) ≡ e
    → checked_from left n r found (line ∷ parts)
    ≡ then_checked n r found left (length line + 1) (strip_carriage_return line) first (line_means left n r line) e (λ now more. checked_from (left - (length line + 1)) (n + 1) now more parts)
unfolding checked_from
unfold_at left n r found line first others parts e p h = rw (p, h) refl

-- what the rest of a text says, by its first line
pub at_line : (left n : ℕ) (r : Reading) (found : List Refusal) (line own behind rest : List ℕ) (total : Checked) → own ≡ strip_carriage_return line → parts_of rest ≡ line ∷ parts_of behind
    → checked_from left n r found (parts_of rest) ≡ total
    → then_checked n r found left (length line + 1) own (cut_of behind).first (within left (length line + 1) (length own) (line_at r n own)) (eqb (length behind) 0)
    (λ now more. checked_from (left - (length line + 1)) (n + 1) now more (parts_of behind)) ≡ total
at_line left n r found line own behind rest total e p so_far =
    let c = cut_of behind in
    rw e (sym (ap (checked_from left n r found) p ∙ unfold_at left n r found line c.first c.others (parts_of behind) _ c.is c.empty) ∙ so_far)

-- what the rest of a text says that is a last part, without a line end
pub at_last : (left n : ℕ) (r : Reading) (found : List Refusal) (rest : List ℕ) (total : Checked) → parts_of rest ≡ rest ∷ [] → checked_from left n r found (parts_of rest) ≡ total
    → last_checked n r found left rest (within left (length rest) (length rest) (line_at r n rest)) ≡ total
unfolding checked_from
at_last left n r found rest total p so_far = sym (ap (checked_from left n r found) p) ∙ so_far

-- ---- what became of the line

pub goes_on : (n : ℕ) (m : Option Step) (old new : Reading) (found : List Refusal) (left all : ℕ) (line next : List ℕ) (e : Bool) (F : Reading → List Refusal → Checked) (total : Checked)
    → m ≡ Some (Goes new) → then_checked n old found left all line next m e F ≡ total → F new found ≡ total
unfolding then_checked
goes_on n m old new found left all line next e F total is so_far = rw is at so_far

pub ended : (n : ℕ) (m : Option Step) (old new : Reading) (found : List Refusal) (left all : ℕ) (line next : List ℕ) (e : Bool) (F : Reading → List Refusal → Checked) (total : Checked)
    → (m ≡ Some Ends) × (new ≡ old) → e ≡ true → then_checked n old found left all line next m e F ≡ total → at_end found new.site n ≡ total
unfolding then_checked
ended n m old new found left all line next e F total is whole so_far = ap (λ (r : Reading). at_end found r.site n) is.1 ∙ (rw (is.0, whole) at so_far)

pub ended_early : (n : ℕ) (m : Option Step) (old new : Reading) (found : List Refusal) (left all : ℕ) (line next : List ℕ) (e : Bool) (F : Reading → List Refusal → Checked) (total : Checked)
    → (m ≡ Some Ends) × (new ≡ old) → e ≡ false → then_checked n old found left all line next m e F ≡ total → Refused (found ++ refusal (n + 1) (strip_carriage_return next) BehindEnd ∷ []) ≡ total
unfolding then_checked
ended_early n m old new found left all line next e F total is more so_far = rw (is.0, more) at so_far

-- a line is refused, and enough was said
pub refused_last : (n : ℕ) (m : Option Step) (old new : Reading) (found more : List Refusal) (reason : Reason) (left all : ℕ) (line next : List ℕ) (e : Bool) (F : Reading → List Refusal → Checked) (total : Checked)
    → (m ≡ None) × (new ≡ old) × (reason ≡ reason_for old left all line) → more ≡ found ++ refusal n line reason ∷ [] → (nat_lt left all || eqb (length more) 10) ≡ true
    → then_checked n old found left all line next m e F ≡ total → Refused more ≡ total
unfolding then_checked
refused_last n m old new found more reason left all line next e F total is added enough so_far =
    let a : more ≡ found ++ refusal n line (reason_for old left all line) ∷ [] = added ∙ ap (λ (x : Reason). found ++ refusal n line x ∷ []) (is.2) in
    rw (is.0, sym a, enough) at so_far

-- a line is refused, and the next one is read as if it were left out
pub refused_on : (n : ℕ) (m : Option Step) (old new : Reading) (found more : List Refusal) (reason : Reason) (left all : ℕ) (line next : List ℕ) (e : Bool) (F : Reading → List Refusal → Checked) (total : Checked)
    → (m ≡ None) × (new ≡ old) × (reason ≡ reason_for old left all line) → more ≡ found ++ refusal n line reason ∷ [] → (nat_lt left all || eqb (length more) 10) ≡ false
    → then_checked n old found left all line next m e F ≡ total → F new more ≡ total
unfolding then_checked
refused_on n m old new found more reason left all line next e F total is added enough so_far =
    let a : more ≡ found ++ refusal n line (reason_for old left all line) ∷ [] = added ∙ ap (λ (x : Reason). found ++ refusal n line x ∷ []) (is.2) in
    ap (λ (r : Reading). F r more) (is.1) ∙ (rw (is.0, sym a, enough) at so_far)

-- ---- what became of the last part

pub last_ended : (n : ℕ) (m : Option Step) (old new : Reading) (found : List Refusal) (left : ℕ) (line : List ℕ) (total : Checked) → (m ≡ Some Ends) × (new ≡ old) → last_checked n old found left line m ≡ total
    → at_end found new.site n ≡ total
unfolding last_checked
last_ended n m old new found left line total is so_far = ap (λ (r : Reading). at_end found r.site n) is.1 ∙ (rw (is.0) at so_far)

pub last_missing : (n : ℕ) (m : Option Step) (old new : Reading) (found : List Refusal) (left : ℕ) (line : List ℕ) (total : Checked) → m ≡ Some (Goes new) → last_checked n old found left line m ≡ total
    → Refused (found ++ refusal n line NoEnd ∷ []) ≡ total
unfolding last_checked
last_missing n m old new found left line total is so_far = rw is at so_far

pub last_refused : (n : ℕ) (m : Option Step) (old new : Reading) (found more : List Refusal) (reason : Reason) (left : ℕ) (line : List ℕ) (total : Checked)
    → (m ≡ None) × (new ≡ old) × (reason ≡ reason_for old left (length line) line) → more ≡ found ++ refusal n line reason ∷ [] → last_checked n old found left line m ≡ total → Refused more ≡ total
unfolding last_checked
last_refused n m old new found more reason left line total is added so_far =
    ap Refused (added ∙ ap (λ (x : Reason). found ++ refusal n line x ∷ []) (is.2)) ∙ (rw (is.0) at so_far)

-- ---- only one octet past the limit is read

cut_checked : (octets : List ℕ) → checked_of (take (text_limit + 1) octets) ≡ checked_of octets
cut_checked octets = ap (λ (b : List ℕ). checked_from text_limit 1 nothing_read [] (parts_of b)) (take-take (text_limit + 1) (text_limit + 1) octets (omega arith))

pub cut_gives : (result : Result Checked Memory) (octets : List ℕ) → IfOk result (λ checked. checked ≡ checked_of (take (text_limit + 1) octets)) → IfOk result (λ checked. checked ≡ checked_of octets)
cut_gives result octets h = subst (λ (all : Checked). IfOk result (λ checked. checked ≡ all)) (cut_checked octets) h

-- ---- whether enough was said

pub is_over : (left all n : ℕ) → left < all → (nat_lt left all || eqb n 10) ≡ true
is_over left all n h = let t : nat_lt left all ≡ true = grind (arith, nat_tests) in rw t refl

or_true : (b : Bool) → (b || true) ≡ true
or_true true = refl
or_true false = refl

pub is_ten : (left all n : ℕ) → n ≡ 10 → (nat_lt left all || eqb n 10) ≡ true
is_ten left all n h = let t : eqb n 10 ≡ true = grind (arith, nat_tests) in rw t (or_true (nat_lt left all))

pub is_not_yet : (left all n : ℕ) → all ≤ left → (n ≡ 10 → ⊥) → (nat_lt left all || eqb n 10) ≡ false
is_not_yet left all n h k =
    let t : nat_lt left all ≡ false = grind (arith, nat_tests) in
    let u : eqb n 10 ≡ false = grind (arith, nat_tests) in
    rw (t, u) refl
