-- Table keys and set entries are equal exactly if the things that they stand for are equal.
use Rattle.std.proofs.Common.{◌≡◌, ℕ, ◌+◌, ◌*◌, Bool, true, false, ◌&&◌, cond, eqb, List, [], ◌∷◌, refl, sym, ap, ◌∙◌, arith}
use Rattle.std.proofs.lemmas.Bool.Decides.{nat_tests}
use Rattle.std.specs.Str.{bytes_eq}
use Rattle.qkd_base.specs.declared.lane.Way.{Way}
use Rattle.qkd_base.specs.declared.lane.Way.TheVariants.{Up, Down}
use Rattle.qkd_base.specs.declared.lane.Lane.{Lane}
use Rattle.qkd_base.specs.Lane.{lane_eq, lane_place, way_eq, way_number}
use Rattle.qkd_base.specs.declared.key_name.NameKind.{NameKind}
use Rattle.qkd_base.specs.declared.key_name.NameKind.TheVariants.{Key, Stream, Note}
use Rattle.qkd_base.specs.Name.{Name, name_eq, kind_number}
use Rattle.run_audit.specs.declared.subject.Subject.{Subject}
use Rattle.run_audit.specs.declared.subject.Subject.TheVariants as subjects
use Rattle.run_audit.specs.declared.takings.Taking.{Taking}
use Rattle.run_audit.specs.Rows.{same}
use Rattle.run_audit.specs.Tellings.{subject_eq}
use Rattle.run_audit.specs.Takings.{taking_eq}
use Rattle.run_audit.specs.Kept.{place_key, last_entry, subject_key, origin_number, caller_entry, bool_number, taking_entry}

pub and_true : (b : Bool) → (b && true) ≡ b
and_true true = refl
and_true false = refl

way_places : (a b : ℕ) (v w : Way) → eqb (2 * a + way_number v) (2 * b + way_number w) ≡ (eqb a b && way_eq v w)
way_places a b Up Up = grind (arith, nat_tests)
way_places a b Up Down = grind (arith, nat_tests)
way_places a b Down Up = grind (arith, nat_tests)
way_places a b Down Down = grind (arith, nat_tests)

pub lane_places : (k l : Lane) → eqb (lane_place k) (lane_place l) ≡ lane_eq k l
lane_places k l = way_places k.link l.link k.way l.way

pub place_keys : (k l : Lane) (x y : ℕ) → bytes_eq (place_key k x) (place_key l y) ≡ (lane_eq k l && eqb x y)
place_keys k l x y = ap (λ (b : Bool). b && (eqb x y && true)) (lane_places k l) ∙ ap (λ (b : Bool). lane_eq k l && b) (and_true (eqb x y))

pub last_entries : (k l : Lane) (x y : ℕ) → bytes_eq (last_entry k x) (last_entry l y) ≡ (lane_eq k l && eqb x y)
last_entries k l x y = ap (λ (b : Bool). b && (eqb x y && true)) (lane_places k l) ∙ ap (λ (b : Bool). lane_eq k l && b) (and_true (eqb x y))

-- A name's three tests in order, and one test behind them.
name_then : (a b c e : Bool) → (a && (b && (c && (e && true)))) ≡ ((a && b && c) && e)
name_then true true true true = refl
name_then true true true false = refl
name_then true true false e = refl
name_then true false c e = refl
name_then false b c e = refl

name_alone : (a b c : Bool) → (a && (b && (c && true))) ≡ (a && b && c)
name_alone true true true = refl
name_alone true true false = refl
name_alone true false c = refl
name_alone false b c = refl

pub subject_keys : (s t : Subject) → bytes_eq (subject_key s) (subject_key t) ≡ subject_eq s t
subject_keys (subjects.Key n) (subjects.Key m) = name_alone (eqb n.node m.node) (eqb (kind_number n.kind) (kind_number m.kind)) (eqb n.count m.count)
subject_keys (subjects.Key n) (subjects.Chunk r i) = refl
subject_keys (subjects.Chunk r i) (subjects.Key n) = refl
subject_keys (subjects.Chunk r i) (subjects.Chunk q j) = name_then (eqb r.node q.node) (eqb (kind_number r.kind) (kind_number q.kind)) (eqb r.count q.count) (eqb i j)

origins : (n m : Name) → eqb (origin_number n) (origin_number m) ≡ (eqb n.node m.node && eqb (kind_number n.kind) (kind_number m.kind))
origins n m = by n.node m.node n.kind m.kind
  where
    by : (a b : ℕ) (j k : NameKind) → eqb (kind_number j + 4 * a) (kind_number k + 4 * b) ≡ (eqb a b && eqb (kind_number j) (kind_number k))
    by a b Key Key = grind (arith, nat_tests)
    by a b Key Stream = grind (arith, nat_tests)
    by a b Key Note = grind (arith, nat_tests)
    by a b Stream Key = grind (arith, nat_tests)
    by a b Stream Stream = grind (arith, nat_tests)
    by a b Stream Note = grind (arith, nat_tests)
    by a b Note Key = grind (arith, nat_tests)
    by a b Note Stream = grind (arith, nat_tests)
    by a b Note Note = grind (arith, nat_tests)

-- Comparing a name's two numbers is comparing the names, also with other tests behind it.
names_then : (n m : Name) (rest : Bool) → (eqb n.count m.count && (eqb (origin_number n) (origin_number m) && rest)) ≡ (name_eq n m && rest)
names_then n m rest =
    ap (λ (b : Bool). eqb n.count m.count && (b && rest)) (origins n m)
    ∙ by (eqb n.count m.count) (eqb n.node m.node) (eqb (kind_number n.kind) (kind_number m.kind))
  where
    by : (a b c : Bool) → (a && ((b && c) && rest)) ≡ ((b && c && a) && rest)
    by true true true = refl
    by true true false = refl
    by true false c = refl
    by false true true = refl
    by false true false = refl
    by false false c = refl

behind_zero : (i : ℕ) → eqb 0 (i + 1) ≡ false
behind_zero i = grind (arith, nat_tests)

zero_behind : (i : ℕ) → eqb (i + 1) 0 ≡ false
zero_behind i = grind (arith, nat_tests)

both_behind : (i j : ℕ) → eqb (i + 1) (j + 1) ≡ eqb i j
both_behind i j = grind (arith, nat_tests)

and_false : (b : Bool) → (b && false) ≡ false
and_false true = refl
and_false false = refl

pub caller_entries : (s t : Subject) (c d : ℕ) → bytes_eq (caller_entry s c) (caller_entry t d) ≡ (subject_eq s t && eqb c d)
caller_entries (subjects.Key n) (subjects.Key m) c d = names_then n m (eqb c d && true) ∙ ap (λ (b : Bool). name_eq n m && b) (and_true (eqb c d))
caller_entries (subjects.Key n) (subjects.Chunk r i) c d =
    names_then n r (eqb 0 (i + 1) && (eqb c d && true)) ∙ ap (λ (b : Bool). name_eq n r && (b && (eqb c d && true))) (behind_zero i) ∙ and_false (name_eq n r)
caller_entries (subjects.Chunk r i) (subjects.Key n) c d =
    names_then r n (eqb (i + 1) 0 && (eqb c d && true)) ∙ ap (λ (b : Bool). name_eq r n && (b && (eqb c d && true))) (zero_behind i) ∙ and_false (name_eq r n)
caller_entries (subjects.Chunk r i) (subjects.Chunk q j) c d =
    names_then r q (eqb (i + 1) (j + 1) && (eqb c d && true))
    ∙ ap (λ (b : Bool). name_eq r q && (b && (eqb c d && true))) (both_behind i j)
    ∙ by (name_eq r q) (eqb i j) (eqb c d)
  where
    by : (a b c : Bool) → (a && (b && (c && true))) ≡ ((a && b) && c)
    by true true true = refl
    by true true false = refl
    by true false c = refl
    by false b c = refl

bools : (a b : Bool) → eqb (bool_number a) (bool_number b) ≡ same a b
bools true true = refl
bools true false = refl
bools false true = refl
bools false false = refl

pub taking_entries : (t u : Taking) → bytes_eq (taking_entry t) (taking_entry u) ≡ taking_eq t u
taking_entries t u =
    names_then t.name u.name (eqb t.node u.node && (eqb (bool_number t.is_ack) (bool_number u.is_ack) && true))
    ∙ ap (λ (b : Bool). name_eq t.name u.name && (eqb t.node u.node && (b && true))) (bools t.is_ack u.is_ack)
    ∙ by (name_eq t.name u.name) (eqb t.node u.node) (same t.is_ack u.is_ack)
  where
    by : (a b c : Bool) → (a && (b && (c && true))) ≡ (b && c && a)
    by true true true = refl
    by true true false = refl
    by true false c = refl
    by false true true = refl
    by false true false = refl
    by false false c = refl
