-- The cached numbers of ready keys stay right when a fact is learned or a key is handed out.
use Rattle.std.proofs.Common.{◌≡◌, ◌≢◌, ℕ, zero, suc, ◌+◌, ◌-◌, ◌<◌, ◌≤◌, min, Bool, true, false, cond, not, ◌&&◌, ◌||◌, List, [], ◌∷◌, ◌++◌, length, length-append, take, refl, sym, ◌∙◌, ap, subst, arith, Option, Some, None, ◌⊎◌, inl, inr}
use Rattle.std.specs.Prelude.{slice_get, filter, find, is_some, nat_le, ◌==◌, if◌then◌else◌}
use Rattle.std.specs.List.{list_any}
use Rattle.std.specs.Option.{option_or}
use Rattle.std.proofs.lemmas.Bool.Decides.{nat_tests}
use Rattle.std.proofs.lemmas.List.Elements.{filter-append}
use Rattle.std.proofs.lemmas.List.Folds.{list_any-append, find-append}
use Rattle.qkd_base.specs.declared.key_name.NameKind.TheVariants.{Key as KeyKind}
use Rattle.qkd_base.specs.Name.{Name, IsName, name_eq, kind_eq, kind_number}
use Rattle.net_model.specs.declared.fact.Fact.{Fact}
use Rattle.net_model.specs.declared.fact.Fact.TheVariants.{Key, Chunk, Stored, Open, Joined, Part}
use Rattle.net_model.specs.Table.{name_of, fact_at, has_fact, was_handed, is_stored_about, without_bytes}
use Rattle.net_model.specs.Fold.{marked}
use Rattle.net_model.specs.Decision.{last_count}
use Rattle.net_model.specs.Pools.{names_up_to}
use Rattle.relay_core.specs.Knowledge.{AreDistinct, forgotten}
use Rattle.relay_core.proofs.Firsts.{not_true}
use Rattle.relay_core.proofs.Kept.{somewhere, known_named, pushed_known}
use Rattle.relay_core.proofs.Names.{name_eq_from, name_eq_same, same_name, eq_same, eq_from, and_left, and_right}
use Rattle.end_store.specs.declared.pool.Pool.{Pool}
use Rattle.end_store.specs.declared.pool.Line.TheVariants.{Keys}
use Rattle.end_store.specs.Waiting.{own, is_in, is_own, is_waiting, is_free_key, is_free_key_at, pool_of}
use Rattle.end_store.specs.Pooled.{is_ready, ready_names}
use Rattle.end_store.specs.Stocked.{stock_at, pool_eq, IsPut, all_but_last, last_of_facts, free_pool, key_pool}
use Rattle.end_store.specs.Readied.{AreReady, readied_pool, ready_pool_of}
use Rattle.end_store.proofs.Lines.{own_is, keys_bound}
use Rattle.end_store.proofs.Forgotten.{notes_stay}
use Rattle.end_store.proofs.Gathered.{found_as}
use Rattle.end_store.proofs.Numbers.{one_of, none_of, last_at}
use Rattle.end_store.proofs.Stocked.{fits, and_none, or_none, or_all, free_is, pool_from, pool_same, no_last, is_marked, was_more, other_name, other_pool, was_free, bare_free}

-- how many counts pass a test, from 1 up to a given one

abbrev number : (ℕ → Bool) → ℕ → ℕ
number t zero = 0
number t (suc c) = number t c + cond (t (c + 1)) 1 0

names_number : (P : Name → Bool) (me k : ℕ) → length (filter P (names_up_to me KeyKind k)) ≡ number (λ d. P (own me d)) k
names_number P me zero = refl
names_number P me (suc c) =
    let a = ap (λ (ns : List Name). length ns) (filter-append P (names_up_to me KeyKind c) (own me (c + 1) ∷ [])) in
    let b = length-append (filter P (names_up_to me KeyKind c)) (filter P (own me (c + 1) ∷ [])) in
    let r = names_number P me c in
    let o = one (P (own me (c + 1))) in
    omega arith
  where
    one : (b : Bool) → length (cond b (own me (c + 1) ∷ []) []) ≡ cond b 1 0
    one true = refl
    one false = refl

at_most_one : (b : Bool) → cond b 1 0 ≤ 1
at_most_one true = omega arith
at_most_one false = omega arith

number_within : (t : ℕ → Bool) (k : ℕ) → number t k ≤ k
number_within t zero = omega arith
number_within t (suc c) = let r = number_within t c in let b = at_most_one (t (c + 1)) in omega arith

number_same : (t s : ℕ → Bool) (k : ℕ) → ((d : ℕ) → 1 ≤ d → d ≤ k → t d ≡ s d) → number t k ≡ number s k
number_same t s zero h = refl
number_same t s (suc c) h =
    let e : ◌≡◌ {A = ℕ} (cond (t (c + 1)) 1 0) (cond (s (c + 1)) 1 0) = ap (λ (b : Bool). cond b 1 0) (h (c + 1) (omega arith) (omega arith)) in
    let r = number_same t s c (λ d low high. h d low (omega arith)) in
    omega arith

below : (a c : ℕ) → a ≤ suc c → (a ≡ c + 1) ⊎ (a ≤ c)
below zero c le = inr (omega arith)
below (suc a) zero le = inl (omega arith)
below (suc a) (suc c) le = elim (below a c (omega arith)) [ inl e ↦ inl (omega arith) | inr h ↦ inr (omega arith) ]

number_one : (t s : ℕ → Bool) (k at : ℕ) → 1 ≤ at → at ≤ k → t at ≡ false → s at ≡ true → ((d : ℕ) → d ≢ at → s d ≡ t d) → number s k ≡ number t k + 1
number_one t s zero at low high miss hit others = absurd (omega arith)
number_one t s (suc c) at low high miss hit others = elim (below at c high) [
  | inl e ↦
      let a = none_of (t (c + 1)) (ap t (sym e) ∙ miss) in
      let b = one_of (s (c + 1)) (ap s (sym e) ∙ hit) in
      let r = number_same s t c (λ d one le. others d (omega arith)) in
      omega arith
  | inr h ↦
      let e : ◌≡◌ {A = ℕ} (cond (s (c + 1)) 1 0) (cond (t (c + 1)) 1 0) = ap (λ (b : Bool). cond b 1 0) (others (c + 1) (omega arith)) in
      let r = number_one t s c at low h miss hit others in
      omega arith
]

-- if no count passes after a given one, the number no longer grows
number_past : (t : ℕ → Bool) (k j : ℕ) → k ≤ j → ((d : ℕ) → k < d → t d ≡ false) → number t j ≡ number t k
number_past t k zero le none = let e : 0 ≡ k = omega arith in ap (number t) e
number_past t k (suc j) le none = elim (below k j le) [
  | inl e ↦ let same : suc j ≡ k = omega arith in ap (number t) same
  | inr h ↦ let r = number_past t k j h none in let z = none_of (t (j + 1)) (none (j + 1) (omega arith)) in omega arith
]

-- whether the key of a count is ready and waits in the pool

abbrev waits : ℕ → List Fact → List (Name × ℕ) → Pool → ℕ → Bool
waits me facts handed p d = is_waiting me facts handed (Keys p) d

ready_up : (me : ℕ) (facts : List Fact) (handed : List (Name × ℕ)) (p : Pool) (more : ℕ) → length (ready_names me facts handed p) ≡ number (waits me facts handed p) (more + last_count me facts)
ready_up me facts handed p more =
    names_number (is_ready me facts handed p) me (last_count me facts)
    ∙ sym (number_past (waits me facts handed p) (last_count me facts) (more + last_count me facts) (omega arith) (λ d past. not_true (waits me facts handed p d) (λ h. let le = keys_bound me facts handed p d h in omega arith)))

ready_within : (me : ℕ) (facts : List Fact) (handed : List (Name × ℕ)) (p : Pool) → length (ready_names me facts handed p) ≤ last_count me facts
ready_within me facts handed p =
    let e = names_number (is_ready me facts handed p) me (last_count me facts) in
    let w = number_within (waits me facts handed p) (last_count me facts) in
    omega arith

module _ (me : ℕ) (facts after : List Fact) (handed marks : List (Name × ℕ)) (p : Pool) where
  from_after : length (ready_names me after marks p) ≡ number (waits me after marks p) (last_count me after + last_count me facts)
  from_after =
      let e : last_count me facts + last_count me after ≡ last_count me after + last_count me facts = omega arith in
      ready_up me after marks p (last_count me facts) ∙ ap (number (waits me after marks p)) e

  ready_same : ((d : ℕ) → waits me after marks p d ≡ waits me facts handed p d) → length (ready_names me after marks p) ≡ length (ready_names me facts handed p)
  ready_same h =
      from_after ∙ number_same (waits me after marks p) (waits me facts handed p) (last_count me after + last_count me facts) (λ d low high. h d) ∙ sym (ready_up me facts handed p (last_count me after))

  -- exactly one key became ready
  record BecameReady : Type 0 where
    pub count : ℕ
    pub low : 1 ≤ count
    pub was : waits me facts handed p count ≡ false
    pub is : waits me after marks p count ≡ true
    pub others : (d : ℕ) → d ≢ count → waits me after marks p d ≡ waits me facts handed p d

  ready_one : BecameReady → length (ready_names me after marks p) ≡ length (ready_names me facts handed p) + 1
  ready_one at =
      let bound = keys_bound me after marks p at.count at.is in
      let one = number_one (waits me facts handed p) (waits me after marks p) (last_count me after + last_count me facts) at.count at.low (omega arith) at.was at.is at.others in
      let a = from_after in
      let b = ready_up me facts handed p (last_count me after) in
      omega arith

-- a conjunction of three tests keeps its value if two of its tests are replaced by equal ones

and_same : (a b c d e : Bool) → b ≡ d → c ≡ e → (a && b && c) ≡ (a && d && e)
and_same a b c d e h k = λ i. a && h i && k i

shut : (a b c d e : Bool) → c ≡ false → e ≡ false → (a && b && c) ≡ (a && d && e)
shut a b c d e h k = ap (λ (x : Bool). a && b && x) h ∙ and_none (a && b) ∙ sym (ap (λ (x : Bool). a && d && x) k ∙ and_none (a && d))

no_middle : (a b c : Bool) → b ≡ false → (a && b && c) ≡ false
no_middle a b c h = ap (λ (x : Bool). a && x && c) h ∙ ap (λ (x : Bool). x && c) (and_none a)

all_three : (a b c : Bool) → a ≡ true → b ≡ true → c ≡ true → (a && b && c) ≡ true
all_three a b c h k l = λ i. h i && k i && l i

low_one : (c : ℕ) → 1 ≤ c → nat_le 1 c ≡ true
low_one c h = grind (arith, nat_tests)

pub own_name : (me : ℕ) (n : Name) → is_own me n ≡ true → n ≡ own me n.count
own_name me n h = same_name n (own me n.count) (eq_from n.node me (and_left (n.node == me) (kind_eq n.kind KeyKind) h)) (eq_from (kind_number n.kind) 0 (and_right (n.node == me) (kind_eq n.kind KeyKind) h)) refl

not_own : (me c d : ℕ) → c ≢ d → name_eq (own me c) (own me d) ≡ false
not_own me c d apart = not_true (name_eq (own me c) (own me d)) (λ h. apart (ap (λ (n : Name). n.count) (name_eq_from (own me c) (own me d) h)))

-- learning a fact

module _ (facts : List Fact) (handed : List (Name × ℕ)) (p : Pool) where
  free_push : (f : Fact) (n : Name) → (is_free_key handed p f ≡ false) ⊎ (name_eq (name_of f) n ≡ false) →
      is_free_key_at handed p (fact_at (facts ++ f ∷ []) n) ≡ is_free_key_at handed p (fact_at facts n)
  free_push f n h = ap (is_free_key_at handed p) (find-append (λ g. name_eq (name_of g) n) facts (f ∷ [])) ∙ by (fact_at facts n) h
    where
      none : (b : Bool) → is_free_key handed p f ≡ false → is_free_key_at handed p (cond b (Some f) None) ≡ false
      none true e = e
      none false e = refl

      by : (o : Option Fact) → (is_free_key handed p f ≡ false) ⊎ (name_eq (name_of f) n ≡ false) → is_free_key_at handed p (option_or o (find (λ g. name_eq (name_of g) n) (f ∷ []))) ≡ is_free_key_at handed p o
      by (Some g) h = refl
      by None (inl e) = none (name_eq (name_of f) n) e
      by None (inr e) = ap (λ (b : Bool). is_free_key_at handed p (cond b (Some f) None)) e

  free_new : (f : Fact) (n : Name) → has_fact facts n ≡ false → name_eq (name_of f) n ≡ true → is_free_key_at handed p (fact_at (facts ++ f ∷ []) n) ≡ is_free_key handed p f
  free_new f n fresh named = ap (is_free_key_at handed p) (find-append (λ g. name_eq (name_of g) n) facts (f ∷ [])) ∙ by (fact_at facts n) fresh
    where
      by : (o : Option Fact) → is_some o ≡ false → is_free_key_at handed p (option_or o (find (λ g. name_eq (name_of g) n) (f ∷ []))) ≡ is_free_key handed p f
      by (Some g) h = cc
      by None h = ap (λ (b : Bool). is_free_key_at handed p (cond b (Some f) None)) named

  none_known : (n : Name) → has_fact facts n ≡ false → is_free_key_at handed p (fact_at facts n) ≡ false
  none_known n fresh = by (fact_at facts n) fresh
    where
      by : (o : Option Fact) → is_some o ≡ false → is_free_key_at handed p o ≡ false
      by (Some g) h = cc
      by None h = refl

  pooled : (o : Option Fact) → is_free_key_at handed p o ≡ fits (free_pool handed o) p
  pooled None = refl
  pooled (Some f) = free_is handed p f

note_push : (facts : List Fact) (f : Fact) (n : Name) → is_stored_about n f ≡ false → list_any (is_stored_about n) (facts ++ f ∷ []) ≡ list_any (is_stored_about n) facts
note_push facts f n h =
    list_any-append (is_stored_about n) facts (f ∷ []) ∙ ap (λ (b : Bool). list_any (is_stored_about n) facts || (b || false)) h ∙ or_none (list_any (is_stored_about n) facts)

note_new : (facts : List Fact) (f : Fact) (n : Name) → is_stored_about n f ≡ true → list_any (is_stored_about n) (facts ++ f ∷ []) ≡ true
note_new facts f n h =
    list_any-append (is_stored_about n) facts (f ∷ []) ∙ ap (λ (b : Bool). list_any (is_stored_about n) facts || (b || false)) h ∙ or_all (list_any (is_stored_about n) facts)

note_kept : (facts : List Fact) (f : Fact) (n : Name) → list_any (is_stored_about n) facts ≡ true → list_any (is_stored_about n) (facts ++ f ∷ []) ≡ true
note_kept facts f n h = list_any-append (is_stored_about n) facts (f ∷ []) ∙ ap (λ (b : Bool). b || list_any (is_stored_about n) (f ∷ [])) h

waits_push : (me : ℕ) (facts : List Fact) (handed : List (Name × ℕ)) (p : Pool) (f : Fact) (d : ℕ) → (is_free_key handed p f ≡ false) ⊎ (name_eq (name_of f) (own me d) ≡ false) → is_stored_about (own me d) f ≡ false →
    waits me (facts ++ f ∷ []) handed p d ≡ waits me facts handed p d
waits_push me facts handed p f d free note =
    and_same (nat_le 1 d) (is_free_key_at handed p (fact_at (facts ++ f ∷ []) (own me d))) (list_any (is_stored_about (own me d)) (facts ++ f ∷ []))
    (is_free_key_at handed p (fact_at facts (own me d))) (list_any (is_stored_about (own me d)) facts)
    (free_push facts handed p f (own me d) free) (note_push facts f (own me d) note)

-- in pools other than the fact's, the same keys are ready
learned_same : (me : ℕ) (facts : List Fact) (handed : List (Name × ℕ)) (p : Pool) (d : ℕ) (f : Fact) → fits (readied_pool me facts handed (Some f)) p ≡ false →
    waits me (facts ++ f ∷ []) handed p d ≡ waits me facts handed p d
learned_same me facts handed p d (Chunk name stream index route bytes) miss = waits_push me facts handed p (Chunk name stream index route bytes) d (inl refl) refl
learned_same me facts handed p d (Open stream source peer size route) miss = waits_push me facts handed p (Open stream source peer size route) d (inl refl) refl
learned_same me facts handed p d (Joined note about route) miss = waits_push me facts handed p (Joined note about route) d (inl refl) refl
learned_same me facts handed p d (Part name key m s route bytes) miss = waits_push me facts handed p (Part name key m s route bytes) d (inl refl) refl
learned_same me facts handed p d (Key name m s route bytes) miss = by (name_eq name (own me d)) refl
  where
    handed_or : (w : Bool) → was_handed handed name m ≡ w → fits (if not w then Some (pool_of m s bytes) else None) p ≡ false → is_free_key handed p (Key name m s route bytes) ≡ false
    handed_or true e h = ap (λ (b : Bool). is_in p m s bytes && not b) e ∙ and_none (is_in p m s bytes)
    handed_or false e h = ap (λ (b : Bool). b && not (was_handed handed name m)) h

    noted : name ≡ own me d → (b : Bool) → list_any (is_stored_about (own me d)) facts ≡ b →
        waits me (facts ++ Key name m s route bytes ∷ []) handed p d ≡ waits me facts handed p d
    noted named false e =
        shut (nat_le 1 d) (is_free_key_at handed p (fact_at (facts ++ Key name m s route bytes ∷ []) (own me d))) (list_any (is_stored_about (own me d)) (facts ++ Key name m s route bytes ∷ []))
        (is_free_key_at handed p (fact_at facts (own me d))) (list_any (is_stored_about (own me d)) facts) (note_push facts (Key name m s route bytes) (own me d) refl ∙ e) e
    noted named true e =
        let is = (own_is me d name (ap (λ (n : Name). name_eq n (own me d)) named ∙ name_eq_same (own me d))).0 in
        let here = ap (λ (n : Name). list_any (is_stored_about n) facts) named ∙ e in
        waits_push me facts handed p (Key name m s route bytes) d
        (inl (handed_or (was_handed handed name m) refl (sym (λ i. fits (if is i && here i && not (was_handed handed name m) then Some (pool_of m s bytes) else None) p) ∙ miss))) refl

    by : (b : Bool) → name_eq name (own me d) ≡ b → waits me (facts ++ Key name m s route bytes ∷ []) handed p d ≡ waits me facts handed p d
    by false e = waits_push me facts handed p (Key name m s route bytes) d (inr e) refl
    by true e = noted (name_eq_from name (own me d) e) (list_any (is_stored_about (own me d)) facts) refl
learned_same me facts handed p d (Stored note about route) miss = by (name_eq about (own me d)) refl
  where
    noted : about ≡ own me d → (b : Bool) → list_any (is_stored_about (own me d)) facts ≡ b → waits me (facts ++ Stored note about route ∷ []) handed p d ≡ waits me facts handed p d
    noted named true e =
        and_same (nat_le 1 d) (is_free_key_at handed p (fact_at (facts ++ Stored note about route ∷ []) (own me d))) (list_any (is_stored_about (own me d)) (facts ++ Stored note about route ∷ []))
        (is_free_key_at handed p (fact_at facts (own me d))) (list_any (is_stored_about (own me d)) facts)
        (free_push facts handed p (Stored note about route) (own me d) (inl refl)) (note_kept facts (Stored note about route) (own me d) e ∙ sym e)
    noted named false e =
        let is = (own_is me d about (ap (λ (n : Name). name_eq n (own me d)) named ∙ name_eq_same (own me d))).0 in
        let here = ap (λ (n : Name). list_any (is_stored_about n) facts) named ∙ e in
        let none = pooled facts handed p (fact_at facts (own me d)) ∙ ap (λ (n : Name). fits (free_pool handed (fact_at facts n)) p) (sym named) ∙ sym (λ i. fits (if is i && not (here i) then free_pool handed (fact_at facts about) else None) p) ∙ miss in
        no_middle (nat_le 1 d) (is_free_key_at handed p (fact_at (facts ++ Stored note about route ∷ []) (own me d))) (list_any (is_stored_about (own me d)) (facts ++ Stored note about route ∷ []))
        (free_push facts handed p (Stored note about route) (own me d) (inl refl) ∙ none)
        ∙ sym (no_middle (nat_le 1 d) (is_free_key_at handed p (fact_at facts (own me d))) (list_any (is_stored_about (own me d)) facts) none)

    by : (b : Bool) → name_eq about (own me d) ≡ b → waits me (facts ++ Stored note about route ∷ []) handed p d ≡ waits me facts handed p d
    by false e = waits_push me facts handed p (Stored note about route) d (inl refl) e
    by true e = noted (name_eq_from about (own me d) e) (list_any (is_stored_about (own me d)) facts) refl

-- in the fact's pool, exactly one more key is ready
learned_one : (me : ℕ) (facts : List Fact) (handed : List (Name × ℕ)) (q : Pool) (f : Fact) → AreDistinct (facts ++ f ∷ []) → has_fact facts (name_of f) ≡ false → IsName (name_of f) →
    Some q ≡ readied_pool me facts handed (Some f) → BecameReady me facts (facts ++ f ∷ []) handed handed q
learned_one me facts handed q (Chunk name stream index route bytes) d fresh named is = cc
learned_one me facts handed q (Open stream source peer size route) d fresh named is = cc
learned_one me facts handed q (Joined note about route) d fresh named is = cc
learned_one me facts handed q (Part name key m s route bytes) d fresh named is = cc
learned_one me facts handed q (Key name m s route bytes) d fresh named is = by (is_own me name && list_any (is_stored_about name) facts && not (was_handed handed name m)) refl is
  where
    by : (b : Bool) → (is_own me name && list_any (is_stored_about name) facts && not (was_handed handed name m)) ≡ b → Some q ≡ (if b then Some (pool_of m s bytes) else None) →
        BecameReady me facts (facts ++ Key name m s route bytes ∷ []) handed handed q
    by false e h = absurd (let u : ⊥ = cc in u)
    by true e h =
        let same : q ≡ pool_of m s bytes = cc in
        let front = and_left (is_own me name && list_any (is_stored_about name) facts) (not (was_handed handed name m)) e in
        let free = and_right (is_own me name && list_any (is_stored_about name) facts) (not (was_handed handed name m)) e in
        let mine = own_name me name (and_left (is_own me name) (list_any (is_stored_about name) facts) front) in
        let noted = ap (λ (n : Name). list_any (is_stored_about n) facts) (sym mine) ∙ and_right (is_own me name) (list_any (is_stored_about name) facts) front in
        let unknown = ap (has_fact facts) (sym mine) ∙ fresh in
        let here = ap (λ (n : Name). name_eq n (own me name.count)) mine ∙ name_eq_same (own me name.count) in
        let fit : is_free_key handed q (Key name m s route bytes) ≡ true = (λ i. pool_eq (pool_of m s bytes) (same i) && free i) ∙ ap (λ (b : Bool). b && true) (pool_same (pool_of m s bytes)) in
        record {
          count = name.count;
          low = named.positive;
          was = no_middle (nat_le 1 name.count) (is_free_key_at handed q (fact_at facts (own me name.count))) (list_any (is_stored_about (own me name.count)) facts) (none_known facts handed q (own me name.count) unknown);
          is = all_three (nat_le 1 name.count) (is_free_key_at handed q (fact_at (facts ++ Key name m s route bytes ∷ []) (own me name.count)))
              (list_any (is_stored_about (own me name.count)) (facts ++ Key name m s route bytes ∷ [])) (low_one name.count named.positive)
              (free_new facts handed q (Key name m s route bytes) (own me name.count) unknown here ∙ fit)
              (note_kept facts (Key name m s route bytes) (own me name.count) noted);
          others = λ k apart. waits_push me facts handed q (Key name m s route bytes) k (inr (ap (λ (n : Name). name_eq n (own me k)) mine ∙ not_own me name.count k (λ e. apart (sym e)))) refl;
        }
learned_one me facts handed q (Stored note about route) d fresh named is = by (is_own me about && not (list_any (is_stored_about about) facts)) refl is
  where
    from_not : (b : Bool) → not b ≡ true → b ≡ false
    from_not true h = cc
    from_not false h = refl

    known : (o : Option Fact) → Some q ≡ free_pool handed o → is_some o ≡ true
    known None h = cc
    known (Some f) h = refl

    by : (b : Bool) → (is_own me about && not (list_any (is_stored_about about) facts)) ≡ b → Some q ≡ (if b then free_pool handed (fact_at facts about) else None) →
        BecameReady me facts (facts ++ Stored note about route ∷ []) handed handed q
    by false e h = absurd (let u : ⊥ = cc in u)
    by true e h =
        let mine = own_name me about (and_left (is_own me about) (not (list_any (is_stored_about about) facts)) e) in
        let first = from_not (list_any (is_stored_about about) facts) (and_right (is_own me about) (not (list_any (is_stored_about about) facts)) e) in
        let unnoted = ap (λ (n : Name). list_any (is_stored_about n) facts) (sym mine) ∙ first in
        let here = ap (λ (n : Name). name_eq n (own me about.count)) mine ∙ name_eq_same (own me about.count) in
        let is_name = known_named (facts ++ Stored note about route ∷ []) about d (pushed_known facts (Stored note about route) about (known (fact_at facts about) h)) in
        let free = ap (λ (n : Name). is_free_key_at handed q (fact_at facts n)) (sym mine) ∙ pooled facts handed q (fact_at facts about) ∙ ap (λ (o : Option Pool). fits o q) (sym h) ∙ pool_same q in
        record {
          count = about.count;
          low = is_name.positive;
          was = ap (λ (b : Bool). nat_le 1 about.count && is_free_key_at handed q (fact_at facts (own me about.count)) && b) unnoted ∙ and_none (nat_le 1 about.count && is_free_key_at handed q (fact_at facts (own me about.count)));
          is = all_three (nat_le 1 about.count) (is_free_key_at handed q (fact_at (facts ++ Stored note about route ∷ []) (own me about.count)))
              (list_any (is_stored_about (own me about.count)) (facts ++ Stored note about route ∷ [])) (low_one about.count is_name.positive)
              (free_push facts handed q (Stored note about route) (own me about.count) (inl refl) ∙ free)
              (note_new facts (Stored note about route) (own me about.count) here);
          others = λ k apart. waits_push me facts handed q (Stored note about route) k (inl refl) (ap (λ (n : Name). name_eq n (own me k)) mine ∙ not_own me about.count k (λ e. apart (sym e)));
        }

-- putting the right number for one pool keeps all cached numbers right

put_ready : (me : ℕ) (facts : List Fact) (handed : List (Name × ℕ)) (old new : List (List ℕ × ℕ)) (q : Pool) (n : ℕ) → IsPut old new q n → n ≡ length (ready_names me facts handed q) →
    ((p : Pool) (m : ℕ) → pool_eq q p ≡ false → stock_at old p ≡ Some m → m ≡ length (ready_names me facts handed p)) → AreReady me facts handed new
put_ready me facts handed old new q n put own others = record { right = λ p m h. by p m h (pool_eq q p) refl }
  where
    by : (p : Pool) (m : ℕ) → stock_at new p ≡ Some m → (b : Bool) → pool_eq q p ≡ b → m ≡ length (ready_names me facts handed p)
    by p m h true e =
        let same = pool_from q p e in
        put.own m (ap (stock_at new) same ∙ h) ∙ own ∙ ap (λ (r : Pool). length (ready_names me facts handed r)) same
    by p m h false e = others p m e (sym (put.others p e) ∙ h)

taken_get : (xs : List Fact) (k i : ℕ) (x : Fact) → slice_get (take k xs) i ≡ Some x → (i < k) × (slice_get xs i ≡ Some x)
taken_get [] zero i x h = cc
taken_get [] (suc k) i x h = cc
taken_get (y ∷ ys) zero i x h = cc
taken_get (y ∷ ys) (suc k) zero x h = (omega arith, h)
taken_get (y ∷ ys) (suc k) (suc i) x h = let r = taken_get ys k i x h in let lt = r.0 in (omega arith, r.1)

module _ (me : ℕ) (facts : List Fact) (handed : List (Name × ℕ)) (some : 0 < length facts) (d : AreDistinct facts) where
  module _ (f : Fact) (last : last_of_facts facts ≡ Some f) where
    whole : facts ≡ all_but_last facts ++ f ∷ []
    whole = last_at facts f (length facts - 1) (omega arith) last

    fresh : has_fact (all_but_last facts) (name_of f) ≡ false
    fresh = not_true (has_fact (all_but_last facts) (name_of f)) (λ h.
        let at = somewhere (λ g. name_eq (name_of g) (name_of f)) (all_but_last facts) h in
        let there = taken_get facts (length facts - 1) at.place at.item at.there in
        let lt = there.0 in
        let one = d.apart at.place (length facts - 1) (name_of f) (record { fact = at.item; there = there.1; named = name_eq_from (name_of at.item) (name_of f) at.passes }) (record { fact = f; there = last; named = refl }) in
        omega arith)

    same_number : (p : Pool) → fits (readied_pool me (all_but_last facts) handed (Some f)) p ≡ false → length (ready_names me facts handed p) ≡ length (ready_names me (all_but_last facts) handed p)
    same_number p miss =
        ap (λ (fs : List Fact). length (ready_names me fs handed p)) whole
        ∙ ready_same me (all_but_last facts) (all_but_last facts ++ f ∷ []) handed handed p (λ c. learned_same me (all_but_last facts) handed p c f miss)

    more_number : (q : Pool) → Some q ≡ readied_pool me (all_but_last facts) handed (Some f) → length (ready_names me facts handed q) ≡ length (ready_names me (all_but_last facts) handed q) + 1
    more_number q is =
        ap (λ (fs : List Fact). length (ready_names me fs handed q)) whole
        ∙ ready_one me (all_but_last facts) (all_but_last facts ++ f ∷ []) handed handed q
        (learned_one me (all_but_last facts) handed q f (subst AreDistinct whole d) fresh (d.names (length facts - 1) (name_of f) (record { fact = f; there = last; named = refl })) is)

  module _ (old : List (List ℕ × ℕ)) (right : AreReady me (all_but_last facts) handed old) where
    pub readied_none : ◌≡◌ {A = Option Pool} None (readied_pool me (all_but_last facts) handed (last_of_facts facts)) → AreReady me facts handed old
    readied_none none = by (last_of_facts facts) refl none
      where
        by : (o : Option Fact) → last_of_facts facts ≡ o → ◌≡◌ {A = Option Pool} None (readied_pool me (all_but_last facts) handed o) → AreReady me facts handed old
        by None e h = absurd (no_last facts handed some e)
        by (Some f) e h = record { right = λ p n at. right.right p n at ∙ sym (same_number f e p (ap (λ (o : Option Pool). fits o p) (sym h))) }

    module _ (q : Pool) (is : Some q ≡ readied_pool me (all_but_last facts) handed (last_of_facts facts)) where
      others_ready : (o : Option Fact) → last_of_facts facts ≡ o → Some q ≡ readied_pool me (all_but_last facts) handed o → (p : Pool) (m : ℕ) → pool_eq q p ≡ false → stock_at old p ≡ Some m →
          m ≡ length (ready_names me facts handed p)
      others_ready None e h p m miss at = absurd (no_last facts handed some e)
      others_ready (Some f) e h p m miss at = right.right p m at ∙ sym (same_number f e p (ap (λ (o : Option Pool). fits o p) (sym h) ∙ miss))

      one_ready : (n : ℕ) → stock_at old q ≡ Some n → (o : Option Fact) → last_of_facts facts ≡ o → Some q ≡ readied_pool me (all_but_last facts) handed o → n + 1 ≡ length (ready_names me facts handed q)
      one_ready n at None e h = absurd (no_last facts handed some e)
      one_ready n at (Some f) e h = let r = right.right q n at in let m = more_number f e q h in omega arith

      pub readied_fits : (n : ℕ) → Some n ≡ stock_at old q → n + 1 ≤ last_count me facts
      readied_fits n at = let m = one_ready n (sym at) (last_of_facts facts) refl is in let w = ready_within me facts handed q in omega arith

      pub readied_more : (n : ℕ) (new : List (List ℕ × ℕ)) → Some n ≡ stock_at old q → IsPut old new q (n + 1) → AreReady me facts handed new
      readied_more n new at put = put_ready me facts handed old new q (n + 1) put (one_ready n (sym at) (last_of_facts facts) refl is) (others_ready (last_of_facts facts) refl is)

      pub readied_all : (n last : ℕ) (new : List (List ℕ × ℕ)) → last ≡ last_count me facts → n ≡ min last (length (ready_names me facts handed q)) → IsPut old new q n → AreReady me facts handed new
      readied_all n last new whole counted put =
          put_ready me facts handed old new q n put (let w = ready_within me facts handed q in omega arith) (others_ready (last_of_facts facts) refl is)

-- handing out a key

module _ (me : ℕ) (facts : List Fact) (handed : List (Name × ℕ)) (n : Name) (x : ℕ) (d : AreDistinct facts) (fresh : was_handed handed n x ≡ false) where
  abbrev after : List (Name × ℕ)
  after = handed ++ (n, x) ∷ []

  kept : (p : Pool) (c : ℕ) → is_free_key_at after p (fact_at facts (own me c)) ≡ is_free_key_at handed p (fact_at facts (own me c)) → waits me facts after p c ≡ waits me facts handed p c
  kept p c h =
      and_same (nat_le 1 c) (is_free_key_at after p (fact_at facts (own me c))) (list_any (is_stored_about (own me c)) facts)
      (is_free_key_at handed p (fact_at facts (own me c))) (list_any (is_stored_about (own me c)) facts) h refl

  other_count : (p : Pool) (c : ℕ) → name_eq n (own me c) ≡ false → waits me facts after p c ≡ waits me facts handed p c
  other_count p c miss = kept p c (by (fact_at facts (own me c)) refl)
    where
      by : (o : Option Fact) → fact_at facts (own me c) ≡ o → is_free_key_at after p o ≡ is_free_key_at handed p o
      by None e = refl
      by (Some g) e = other_name facts handed n x d fresh p g (ap (name_eq n) (found_as facts (own me c) g e) ∙ miss)

  handing_same : (p : Pool) (c : ℕ) → fits (ready_pool_of me facts n x) p ≡ false → waits me facts after p c ≡ waits me facts handed p c
  handing_same p c miss = by (name_eq n (own me c)) refl
    where
      pool_at : (o : Option Fact) → fits (key_pool x o) p ≡ false → is_free_key_at after p o ≡ is_free_key_at handed p o
      pool_at None h = refl
      pool_at (Some g) h = other_pool facts handed n x d fresh p g h

      noted : n ≡ own me c → (b : Bool) → list_any (is_stored_about (own me c)) facts ≡ b → waits me facts after p c ≡ waits me facts handed p c
      noted named false e =
          shut (nat_le 1 c) (is_free_key_at after p (fact_at facts (own me c))) (list_any (is_stored_about (own me c)) facts)
          (is_free_key_at handed p (fact_at facts (own me c))) (list_any (is_stored_about (own me c)) facts) e e
      noted named true e =
          let is = (own_is me c n (ap (λ (m : Name). name_eq m (own me c)) named ∙ name_eq_same (own me c))).0 in
          let here = ap (λ (m : Name). list_any (is_stored_about m) facts) named ∙ e in
          kept p c (pool_at (fact_at facts (own me c))
          (ap (λ (m : Name). fits (key_pool x (fact_at facts m)) p) (sym named) ∙ sym (λ i. fits (if is i && here i then key_pool x (fact_at facts n) else None) p) ∙ miss))

      by : (b : Bool) → name_eq n (own me c) ≡ b → waits me facts after p c ≡ waits me facts handed p c
      by false e = other_count p c e
      by true e = noted (name_eq_from n (own me c) e) (list_any (is_stored_about (own me c)) facts) refl

  handing_one : (q : Pool) → Some q ≡ ready_pool_of me facts n x → BecameReady me facts facts after handed q
  handing_one q is = by (is_own me n && list_any (is_stored_about n) facts) refl is
    where
      known : (o : Option Fact) → Some q ≡ key_pool x o → is_some o ≡ true
      known None h = cc
      known (Some f) h = refl

      free : (hs : List (Name × ℕ)) (o : Option Fact) → fact_at facts n ≡ o → Some q ≡ key_pool x o → is_free_key_at hs q o ≡ not (was_handed hs n x)
      free hs None e h = cc
      free hs (Some g) e h = was_free facts handed n x d fresh q g (found_as facts n g e) (sym h) hs

      by : (b : Bool) → (is_own me n && list_any (is_stored_about n) facts) ≡ b → Some q ≡ (if b then key_pool x (fact_at facts n) else None) → BecameReady me facts facts after handed q
      by false e h = absurd (let u : ⊥ = cc in u)
      by true e h =
          let mine = own_name me n (and_left (is_own me n) (list_any (is_stored_about n) facts) e) in
          let noted = ap (λ (m : Name). list_any (is_stored_about m) facts) (sym mine) ∙ and_right (is_own me n) (list_any (is_stored_about n) facts) e in
          let is_name = known_named facts n d (known (fact_at facts n) h) in
          let gone = was_more facts handed n x d fresh n x ∙ (λ i. was_handed handed n x || ((name_eq_same n i && eq_same x i) || false)) ∙ or_all (was_handed handed n x) in
          record {
            count = n.count;
            low = is_name.positive;
            was = no_middle (nat_le 1 n.count) (is_free_key_at after q (fact_at facts (own me n.count))) (list_any (is_stored_about (own me n.count)) facts)
                (ap (λ (m : Name). is_free_key_at after q (fact_at facts m)) (sym mine) ∙ free after (fact_at facts n) refl h ∙ ap not gone);
            is = all_three (nat_le 1 n.count) (is_free_key_at handed q (fact_at facts (own me n.count))) (list_any (is_stored_about (own me n.count)) facts) (low_one n.count is_name.positive)
                (ap (λ (m : Name). is_free_key_at handed q (fact_at facts m)) (sym mine) ∙ free handed (fact_at facts n) refl h ∙ ap not fresh) noted;
            others = λ k apart. sym (other_count q k (ap (λ (m : Name). name_eq m (own me k)) mine ∙ not_own me n.count k (λ e. apart (sym e))));
          }

  same_ready : (p : Pool) → fits (ready_pool_of me facts n x) p ≡ false → length (ready_names me facts handed p) ≡ length (ready_names me facts after p)
  same_ready p miss = sym (ready_same me facts facts handed after p (λ c. handing_same p c miss))

  less_ready : (q : Pool) → Some q ≡ ready_pool_of me facts n x → length (ready_names me facts handed q) ≡ length (ready_names me facts after q) + 1
  less_ready q is = ready_one me facts facts after handed q (handing_one q is)

  to_marked : (new : List (List ℕ × ℕ)) → AreReady me facts after new → AreReady me facts (marked handed n x) new
  to_marked new right = subst (λ (hs : List (Name × ℕ)). AreReady me facts hs new) (sym (is_marked facts handed n x d fresh)) right

  module _ (old : List (List ℕ × ℕ)) (right : AreReady me facts handed old) where
    pub unready_none : ◌≡◌ {A = Option Pool} None (ready_pool_of me facts n x) → AreReady me facts (marked handed n x) old
    unready_none none = to_marked old (record { right = λ p m at. right.right p m at ∙ same_ready p (ap (λ (o : Option Pool). fits o p) (sym none)) })

    module _ (q : Pool) (is : Some q ≡ ready_pool_of me facts n x) where
      others_kept : (p : Pool) (m : ℕ) → pool_eq q p ≡ false → stock_at old p ≡ Some m → m ≡ length (ready_names me facts after p)
      others_kept p m miss at = right.right p m at ∙ same_ready p (ap (λ (o : Option Pool). fits o p) (sym is) ∙ miss)

      pub unready_absent : ◌≡◌ {A = Option ℕ} None (stock_at old q) → AreReady me facts (marked handed n x) old
      unready_absent none = to_marked old (record { right = λ p m at. by p m at (pool_eq q p) refl })
        where
          by : (p : Pool) (m : ℕ) → stock_at old p ≡ Some m → (b : Bool) → pool_eq q p ≡ b → m ≡ length (ready_names me facts after p)
          by p m at true e =
              let both : ◌≡◌ {A = Option ℕ} None (Some m) = none ∙ ap (stock_at old) (pool_from q p e) ∙ at in
              absurd (let u : ⊥ = cc in u)
          by p m at false e = others_kept p m e at

      pub unready_some : (k : ℕ) → Some k ≡ stock_at old q → 1 ≤ k
      unready_some k at = let r = right.right q k (sym at) in let c = less_ready q is in omega arith

      pub unready_less : (k : ℕ) (new : List (List ℕ × ℕ)) → Some k ≡ stock_at old q → IsPut old new q (k - 1) → AreReady me facts (marked handed n x) new
      unready_less k new at put =
          to_marked new (put_ready me facts after old new q (k - 1) put (let r = right.right q k (sym at) in let c = less_ready q is in omega arith) others_kept)

-- handing out a pair that is recorded already changes nothing
pub unready_twice : (me : ℕ) (facts : List Fact) (handed : List (Name × ℕ)) (n : Name) (x : ℕ) (readies : List (List ℕ × ℕ)) → was_handed handed n x ≡ true → AreReady me facts handed readies → AreReady me facts (marked handed n x) readies
unready_twice me facts handed n x readies was right =
    subst (λ (hs : List (Name × ℕ)). AreReady me facts hs readies) (sym (ap (λ (b : Bool). if b then handed else handed ++ (n, x) ∷ []) was)) right

-- overwriting the bytes of a fact keeps its name

bare_named : (f : Fact) → name_of (without_bytes f) ≡ name_of f
bare_named (Key name m s route bytes) = refl
bare_named (Chunk name stream index route bytes) = refl
bare_named (Stored note about route) = refl
bare_named (Open stream source peer size route) = refl
bare_named (Joined note about route) = refl
bare_named (Part name key m s route bytes) = refl

free_stays : (handed : List (Name × ℕ)) (p : Pool) (n : Name) (facts : List Fact) (place : ℕ) → is_free_key_at handed p (fact_at (forgotten facts place) n) ≡ is_free_key_at handed p (fact_at facts n)
free_stays handed p n [] place = refl
free_stays handed p n (f ∷ fs) zero =
    ap (λ (m : Name). is_free_key_at handed p (if name_eq m n then Some (without_bytes f) else fact_at fs n)) (bare_named f)
    ∙ by (name_eq (name_of f) n)
  where
    by : (b : Bool) → is_free_key_at handed p (if b then Some (without_bytes f) else fact_at fs n) ≡ is_free_key_at handed p (if b then Some f else fact_at fs n)
    by true = bare_free handed p f
    by false = refl
free_stays handed p n (f ∷ fs) (suc place) =
    elim (name_eq (name_of f) n) as (λ b. is_free_key_at handed p (if b then Some f else fact_at (forgotten fs place) n) ≡ is_free_key_at handed p (if b then Some f else fact_at fs n)) [
      | true ↦ refl
      | false ↦ free_stays handed p n fs place
    ]

pub ready_forgotten : (me : ℕ) (facts later : List Fact) (handed : List (Name × ℕ)) (readies : List (List ℕ × ℕ)) (place : ℕ) → AreReady me facts handed readies → later ≡ forgotten facts place → AreReady me later handed readies
ready_forgotten me facts later handed readies place right e =
    subst (λ (fs : List Fact). AreReady me fs handed readies) (sym e) (record {
      right = λ p n at.
          right.right p n at
          ∙ sym (ready_same me facts (forgotten facts place) handed handed p (λ d.
          and_same (nat_le 1 d) (is_free_key_at handed p (fact_at (forgotten facts place) (own me d))) (list_any (is_stored_about (own me d)) (forgotten facts place))
          (is_free_key_at handed p (fact_at facts (own me d))) (list_any (is_stored_about (own me d)) facts)
          (free_stays handed p (own me d) facts place) (notes_stay (own me d) facts place)));
    })
