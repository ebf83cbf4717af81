-- Whether a telling fits the earlier ones, computed from the tables; and how the tables change with one more telling.
use Rattle.std.proofs.Common.{◌≡◌, ℕ, zero, suc, length, get_or, map, drop, Result, Ok, Err, ◌+◌, ◌-◌, ◌^◌, ◌<◌, ◌≤◌, min, Bool, true, false, not, ◌&&◌, ◌||◌, cond, eqb, List, [], ◌∷◌, Option, Some, None, refl, sym, ap, ◌∙◌, subst, arith, inl, inr}
use Rattle.std.specs.Prelude.{is_some, IfOk}
use Rattle.std.proofs.lemmas.List.{at_drop_more}
use Rattle.std.specs.List.{list_any, list_all}
use Rattle.std.specs.Str.{bytes_eq}
use Rattle.std.proofs.lemmas.Bool.{cases_Bool, and_parts, and_from, eq-eqb, eqb-true}
use Rattle.std.proofs.lemmas.Slice.Eq.{bytes_eq-Decides}
use Rattle.qkd_base.specs.declared.key_name.NameKind.{NameKind}
use Rattle.qkd_base.specs.declared.key_name.NameKind.TheVariants.{Key, Stream, Note}
use Rattle.qkd_base.specs.Name.{Name, name_eq, kind_eq}
use Rattle.run_audit.specs.declared.subject.Subject.{Subject}
use Rattle.run_audit.specs.declared.subject.Subject.TheVariants as subjects
use Rattle.run_audit.specs.declared.tellings.Told.{Told}
use Rattle.sae_entitlements.specs.Grants.{Grants}
use Rattle.run_audit.specs.Table.{at}
use Rattle.run_audit.specs.Tellings.{Telling, subject_eq, is_same, may_be_same, fits_with, may_have, fits, all_fit, onto}
use Rattle.run_audit.specs.Kept.{subject_key, bytes_of, master_of, was_given, may_be_bytes, is_listed, was_given_to, AreFitting, AreTold}

-- ---- subjects

kind_same : (a b : NameKind) → kind_eq a b ≡ true → a ≡ b
kind_same Key Key h = refl
kind_same Key Stream h = absurd (let u : ⊥ = cc in u)
kind_same Key Note h = absurd (let u : ⊥ = cc in u)
kind_same Stream Key h = absurd (let u : ⊥ = cc in u)
kind_same Stream Stream h = refl
kind_same Stream Note h = absurd (let u : ⊥ = cc in u)
kind_same Note Key h = absurd (let u : ⊥ = cc in u)
kind_same Note Stream h = absurd (let u : ⊥ = cc in u)
kind_same Note Note h = refl

pub name_same : (a b : Name) → name_eq a b ≡ true → a ≡ b
name_same a b h =
    let parts = and_parts (eqb a.node b.node && kind_eq a.kind b.kind) (eqb a.count b.count) h in
    let front = and_parts (eqb a.node b.node) (kind_eq a.kind b.kind) parts.0 in
    let named : ℕ → NameKind → ℕ → Name = λ node kind count. record { node = node; kind = kind; count = count } in
    ap (λ (n : ℕ). named n a.kind a.count) (eqb-true a.node b.node front.0) ∙ ap (λ (k : NameKind). named b.node k a.count) (kind_same a.kind b.kind front.1) ∙ ap (λ (n : ℕ). named b.node b.kind n) (eqb-true a.count b.count parts.1)

pub subject_same : (s t : Subject) → subject_eq s t ≡ true → s ≡ t
subject_same (subjects.Key n) (subjects.Key m) h = ap subjects.Key (name_same n m h)
subject_same (subjects.Key n) (subjects.Chunk r i) h = absurd (let u : ⊥ = cc in u)
subject_same (subjects.Chunk r i) (subjects.Key n) h = absurd (let u : ⊥ = cc in u)
subject_same (subjects.Chunk r i) (subjects.Chunk q j) h =
    let parts = and_parts (name_eq r q) (eqb i j) h in
    ap (λ (n : Name). subjects.Chunk n i) (name_same r q parts.0) ∙ ap (λ (k : ℕ). subjects.Chunk q k) (eqb-true i j parts.1)

-- ---- the three tests of a fit

abbrev same_bytes : Subject → List ℕ → Telling → Bool
same_bytes s bytes e = not (subject_eq e.subject s) || bytes_eq e.bytes bytes

abbrev not_given : Subject → Option ℕ → Telling → Bool
not_given s caller e = not (subject_eq e.subject s) || not (is_same e.caller caller)

abbrev one_master : Subject → Option ℕ → Telling → Bool
one_master s master e = not (subject_eq e.subject s) || may_be_same e.master master

three : (o b c m : Bool) → (o || (b && c && m)) ≡ ((o || b) && ((o || c) && (o || m)))
three true b c m = refl
three false true true m = refl
three false true false m = refl
three false false c m = refl

shuffle : (a b c x y z : Bool) → ((a && (b && c)) && (x && (y && z))) ≡ ((a && x) && ((b && y) && (c && z)))
shuffle false b c x y z = refl
shuffle true false c true y z = refl
shuffle true false c false y z = refl
shuffle true true false true true z = refl
shuffle true true false true false z = refl
shuffle true true false false y z = refl
shuffle true true true true true z = refl
shuffle true true true true false z = refl
shuffle true true true false y z = refl

pub in_parts : (t : Telling) (ts : List Telling) → list_all (fits_with t) ts ≡ (list_all (same_bytes t.subject t.bytes) ts && (list_all (not_given t.subject t.caller) ts && list_all (one_master t.subject t.master) ts))
in_parts t [] = refl
in_parts t (e ∷ es) =
    ap (λ (b : Bool). b && list_all (fits_with t) es) (three (not (subject_eq e.subject t.subject)) (bytes_eq e.bytes t.bytes) (not (is_same e.caller t.caller)) (may_be_same e.master t.master))
    ∙ ap (λ (b : Bool). (same_bytes t.subject t.bytes e && (not_given t.subject t.caller e && one_master t.subject t.master e)) && b) (in_parts t es)
    ∙ shuffle (same_bytes t.subject t.bytes e) (not_given t.subject t.caller e) (one_master t.subject t.master e) (list_all (same_bytes t.subject t.bytes) es) (list_all (not_given t.subject t.caller) es) (list_all (one_master t.subject t.master) es)

-- ---- the test of bytes

bytes_part : (e : Telling) (es : List Telling) → list_all (fits_with e) es ≡ true → list_all (same_bytes e.subject e.bytes) es ≡ true
bytes_part e es h = (and_parts (list_all (same_bytes e.subject e.bytes) es) (list_all (not_given e.subject e.caller) es && list_all (one_master e.subject e.master) es) (sym (in_parts e es) ∙ h)).0

pub bytes_known : (s : Subject) (bytes : List ℕ) (ts : List Telling) → AreFitting ts → list_all (same_bytes s bytes) ts ≡ may_be_bytes (bytes_of s ts) bytes
bytes_known s bytes [] h = refl
bytes_known s bytes (e ∷ es) h = elim (cases_Bool (subject_eq e.subject s)) [
  | inl same ↦ elim (cases_Bool (bytes_eq e.bytes bytes)) [
    | inl equal ↦
        let one : e.subject ≡ s = subject_same e.subject s same in
        let two : e.bytes ≡ bytes = (bytes_eq-Decides e.bytes bytes).0 equal in
        let all : list_all (same_bytes s bytes) es ≡ true = subst (λ (r : Subject). list_all (same_bytes r bytes) es ≡ true) one (subst (λ (bs : List ℕ). list_all (same_bytes e.subject bs) es ≡ true) two (bytes_part e es h.0)) in
        rw (same, equal, all) refl
    | inr differ ↦ rw (same, differ) refl
  ]
  | inr other ↦ rw other (bytes_known s bytes es h.1)
]

-- ---- the test of masters

master_part : (e : Telling) (es : List Telling) → list_all (fits_with e) es ≡ true → list_all (one_master e.subject e.master) es ≡ true
master_part e es h =
    let parts = and_parts (list_all (same_bytes e.subject e.bytes) es) (list_all (not_given e.subject e.caller) es && list_all (one_master e.subject e.master) es) (sym (in_parts e es) ∙ h) in
    (and_parts (list_all (not_given e.subject e.caller) es) (list_all (one_master e.subject e.master) es) parts.1).1

no_master : (a : Option ℕ) → may_be_same a None ≡ true
no_master None = refl
no_master (Some a) = refl

or_true : (b : Bool) → (b || true) ≡ true
or_true true = refl
or_true false = refl

unsaid : (s : Subject) (ts : List Telling) → list_all (one_master s None) ts ≡ true
unsaid s [] = refl
unsaid s (e ∷ es) = rw (no_master e.master, or_true (not (subject_eq e.subject s)), unsaid s es) refl

-- If earlier tellings agree with master a, it suffices that one more agrees with a.
said : (s : Subject) (a : ℕ) (master : Option ℕ) (es : List Telling) → list_all (one_master s (Some a)) es ≡ true → (may_be_same (Some a) master && list_all (one_master s master) es) ≡ may_be_same (Some a) master
said s a None es h = unsaid s es
said s a (Some b) es h = elim (cases_Bool (eqb a b)) [
  | inl same ↦ rw (same, subst (λ (n : ℕ). list_all (one_master s (Some n)) es ≡ true) (eqb-true a b same) h) refl
  | inr differ ↦ rw differ refl
]

pub master_known : (s : Subject) (master : Option ℕ) (ts : List Telling) → AreFitting ts → list_all (one_master s master) ts ≡ may_be_same (master_of s ts) master
master_known s master [] h = refl
master_known s master (e ∷ es) h = elim (cases_Bool (subject_eq e.subject s)) [
  | inl same ↦ of_master e.master (subst (λ (r : Subject). list_all (one_master r e.master) es ≡ true) (subject_same e.subject s same) (master_part e es h.0)) same (master_known s master es h.1)
  | inr other ↦ rw other (master_known s master es h.1)
]
  where
    of_master : (m : Option ℕ) → list_all (one_master s m) es ≡ true → subject_eq e.subject s ≡ true → list_all (one_master s master) es ≡ may_be_same (master_of s es) master
        → ((not (subject_eq e.subject s) || may_be_same m master) && list_all (one_master s master) es) ≡ may_be_same (cond (subject_eq e.subject s && is_some m) m (master_of s es)) master
    of_master None all same rest = rw same rest
    of_master (Some a) all same rest = rw same (said s a master es all)

-- ---- the test of callers

nobody : (a : Option ℕ) → is_same a None ≡ false
nobody None = refl
nobody (Some a) = refl

de_morgan : (o c w : Bool) → ((not o || not c) && not w) ≡ not ((o && c) || w)
de_morgan true true w = refl
de_morgan true false w = refl
de_morgan false c w = refl

pub callers_known : (s : Subject) (caller : Option ℕ) (ts : List Telling) → list_all (not_given s caller) ts ≡ not (was_given_to s caller ts)
callers_known s None [] = refl
callers_known s None (e ∷ es) = rw (nobody e.caller, or_true (not (subject_eq e.subject s))) (callers_known s None es)
callers_known s (Some c) [] = refl
callers_known s (Some c) (e ∷ es) = rw (callers_known s (Some c) es) (de_morgan (subject_eq e.subject s) (is_same e.caller (Some c)) (was_given s c es))

-- ---- the three tests together

-- A telling fits all earlier ones exactly if its bytes, its caller and its master do.
pub fit_known : (t : Telling) (ts : List Telling) → AreFitting ts → list_all (fits_with t) ts ≡ (may_be_bytes (bytes_of t.subject ts) t.bytes && (not (was_given_to t.subject t.caller ts) && may_be_same (master_of t.subject ts) t.master))
fit_known t ts h =
    in_parts t ts
    ∙ ap (λ (b : Bool). b && (list_all (not_given t.subject t.caller) ts && list_all (one_master t.subject t.master) ts)) (bytes_known t.subject t.bytes ts h)
    ∙ ap (λ (b : Bool). may_be_bytes (bytes_of t.subject ts) t.bytes && (b && list_all (one_master t.subject t.master) ts)) (callers_known t.subject t.caller ts)
    ∙ ap (λ (b : Bool). may_be_bytes (bytes_of t.subject ts) t.bytes && (not (was_given_to t.subject t.caller ts) && b)) (master_known t.subject t.master ts h)

-- One more delivery, in a count that never exceeds 2^32 - 1.
pub delivered : (caller : Option ℕ) (n k : ℕ) → k ≡ min n (2 ^ 32 - 1) → cond (is_some caller) (min (k + 1) (2 ^ 32 - 1)) k ≡ min (cond (is_some caller) (suc n) n) (2 ^ 32 - 1)
delivered None n k h = h
delivered (Some c) n k h = omega arith

-- the three tests, computed from the tables in place of the list of tellings
assoc : (a b c d : Bool) → (a && b && c && d) ≡ ((a && (b && c)) && d)
assoc true b c d = refl
assoc false b c d = refl

listed : (told : Told) (s : Subject) (caller : Option ℕ) (ts : List Telling) → AreTold told ts → is_listed told.callers s caller ≡ was_given_to s caller ts
listed told s None ts h = refl
listed told s (Some caller) ts h = h.callers s caller

pub fits_kept : (told : Told) (g : Grants) (t : Telling) (ts : List Telling) → AreTold told ts
    → (may_be_bytes (at told.bytes (subject_key t.subject)) t.bytes && not (is_listed told.callers t.subject t.caller) && may_be_same (at told.masters (subject_key t.subject)) t.master && may_have g t.caller t.master) ≡ fits g ts t
fits_kept told g t ts h =
    let a : Bool = may_be_bytes (bytes_of t.subject ts) t.bytes in
    let b : Bool = not (was_given_to t.subject t.caller ts) in
    let m : Bool = may_be_same (master_of t.subject ts) t.master in
    let d : Bool = may_have g t.caller t.master in
    ap (λ (o : Option (List ℕ)). may_be_bytes o t.bytes && not (is_listed told.callers t.subject t.caller) && may_be_same (at told.masters (subject_key t.subject)) t.master && d) (h.bytes t.subject)
    ∙ ap (λ (x : Bool). a && not x && may_be_same (at told.masters (subject_key t.subject)) t.master && d) (listed told t.subject t.caller ts h)
    ∙ ap (λ (o : Option ℕ). a && b && may_be_same o t.master && d) (h.masters t.subject)
    ∙ assoc a b m d
    ∙ ap (λ (x : Bool). x && d) (sym (fit_known t ts h.fitting))

-- ---- the tellings of one item

and_true : (b : Bool) → (b && true) ≡ b
and_true true = refl
and_true false = refl

-- An item with a single telling fits exactly if that telling does.
pub one_fit : {E : Type 0} (r : Result Bool E) (g : Grants) (ts : List Telling) (given t : Telling) (new : Told) → given ≡ t
    → IfOk r (λ fit. (fit ≡ fits g ts given) × (fit ≡ true → AreTold new (given ∷ ts))) → IfOk r (λ fit. (fit ≡ all_fit g ts (t ∷ [])) × (fit ≡ true → AreTold new (onto ts (t ∷ []))))
one_fit (Ok fit) g ts given t new e h = (h.0 ∙ ap (fits g ts) e ∙ sym (and_true (fits g ts t)), λ given_fit. subst (λ (x : Telling). AreTold new (x ∷ ts)) e (h.1 given_fit))
one_fit (Err failed) g ts given t new e h = tt

module _ (g : Grants) (h : Name × List ℕ → Telling) (keys : List (Name × List ℕ)) (i : ℕ) (k : Name × List ℕ) (inside : i < length keys) (is : k ≡ get_or keys i k) where
  begins : {Y : Type 0} (F : List (Name × List ℕ) → Y) → F (drop i keys) ≡ F (k ∷ drop (i + 1) keys)
  begins F = at_drop_more F keys i k inside ∙ ap (λ (x : Name × List ℕ). F (x ∷ drop (i + 1) keys)) (sym is)

  pub keys_go_on : (us : List Telling) (t : Telling) (whole : Bool) (last : List Telling) → t ≡ h k → fits g us t ≡ true → all_fit g us (map h (drop i keys)) ≡ whole → onto us (map h (drop i keys)) ≡ last
      → (all_fit g (t ∷ us) (map h (drop (i + 1) keys)) ≡ whole) × (onto (t ∷ us) (map h (drop (i + 1) keys)) ≡ last)
  keys_go_on us t whole last e fit all ends =
      let rest : List Telling = map h (drop (i + 1) keys) in
      let fit_k : fits g us (h k) ≡ true = subst (λ (x : Telling). fits g us x ≡ true) e fit in (
        ap (λ (x : Telling). all_fit g (x ∷ us) rest) e ∙ ap (λ (b : Bool). b && all_fit g (h k ∷ us) rest) (sym fit_k) ∙ sym (begins (λ ks. all_fit g us (map h ks))) ∙ all,
        ap (λ (x : Telling). onto (x ∷ us) rest) e ∙ sym (begins (λ ks. onto us (map h ks))) ∙ ends,
      )

  pub keys_stop : (us : List Telling) (t : Telling) (whole : Bool) → t ≡ h k → fits g us t ≡ false → all_fit g us (map h (drop i keys)) ≡ whole → false ≡ whole
  keys_stop us t whole e unfit all =
      let rest : List Telling = map h (drop (i + 1) keys) in
      let unfit_k : fits g us (h k) ≡ false = subst (λ (x : Telling). fits g us x ≡ false) e unfit in
      ap (λ (b : Bool). b && all_fit g (h k ∷ us) rest) (sym unfit_k) ∙ sym (begins (λ ks. all_fit g us (map h ks))) ∙ all

pub keys_end : (keys : List (Name × List ℕ)) (i : ℕ) → length keys ≤ i → drop i keys ≡ []
keys_end [] zero h = refl
keys_end [] (suc i) h = refl
keys_end (k ∷ ks) zero h = absurd (omega arith)
keys_end (k ∷ ks) (suc i) h = keys_end ks i (omega arith)
