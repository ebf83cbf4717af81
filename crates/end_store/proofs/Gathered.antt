-- The list of the ready keys of a pool, built one by one.
use Rattle.std.proofs.Common.{subst, length-append, append_assoc, length-take, min, ◌≡◌, ℕ, zero, suc, ◌+◌, ◌*◌, ◌/◌, ◌%◌, ◌<◌, ◌≤◌, ◌^◌, Bool, true, false, cond, not, ◌&&◌, List, [], ◌∷◌, ◌++◌, length, refl, sym, ◌∙◌, ap, arith, take, Option, Some, None, ◌⊎◌, inl, inr}
use Rattle.std.specs.Prelude.{filter, is_some, ◌==◌, nat_le, nat_lt, if◌then◌else◌}
use Rattle.std.specs.List.{list_any}
use Rattle.std.proofs.lemmas.Bool.Decides.{nat_tests}
use Rattle.std.proofs.lemmas.List.{take_all}
use Rattle.std.proofs.lemmas.List.Elements.{filter-append}
use Rattle.qkd_base.specs.Name.{Name, name_eq}
use Rattle.qkd_base.specs.declared.key_name.NameKind.TheVariants.{Key as KeyKind}
use Rattle.qkd_base.specs.declared.pool_no.PoolNo.{PoolNo}
use Rattle.net_model.specs.declared.fact.Fact.{Fact}
use Rattle.net_model.specs.declared.fact.Fact.TheVariants.{Key, Chunk, Stored, Open, Joined, Part}
use Rattle.net_model.specs.Table.{name_of, fact_at, was_handed, is_stored_about}
use Rattle.net_model.specs.Decision.{last_count}
use Rattle.net_model.specs.Pools.{names_up_to, is_key_of, is_in_pool, pool}
use Rattle.net_model.specs.View.{View}
use Rattle.relay_core.proofs.Kept.{somewhere}
use Rattle.relay_core.proofs.Names.{and_left, name_eq_from, eq_from, eq_same}
use Rattle.end_store.specs.declared.pool.Pool.{Pool}
use Rattle.end_store.specs.declared.pool.Line.TheVariants.{Keys}
use Rattle.end_store.specs.Waiting.{own, is_free_key, is_free_key_at, IsNextWaiting, IsLastWaiting}
use Rattle.end_store.specs.Pooled.{octets_pool, is_ready, ready_names}
use Rattle.end_store.proofs.Lines.{keys_bound}

module _ (P : Name → Bool) (me : ℕ) where
  abbrev F : ℕ → List Name
  F c = filter P (names_up_to me KeyKind c)

  one_more : (c : ℕ) → F (suc c) ≡ F c ++ cond (P (own me (c + 1))) (own me (c + 1) ∷ []) []
  one_more c = filter-append P (names_up_to me KeyKind c) (own me (c + 1) ∷ [])

  append_nil : (xs : List Name) → xs ++ [] ≡ xs
  append_nil [] = refl
  append_nil (x ∷ xs) = ap (λ (ys : List Name). x ∷ ys) (append_nil xs)

  -- counts that fail the test leave the list as it is
  pub skip : (a c : ℕ) → a ≤ c → ((d : ℕ) → a < d → d ≤ c → P (own me d) ≡ false) → F c ≡ F a
  skip a zero le none = let e : 0 ≡ a = omega arith in ap F e
  skip a (suc c) le none = elim (split_le a c le) [
    | inl e ↦ ap F (sym e)
    | inr h ↦
        one_more c ∙ ap (λ (t : Bool). F c ++ cond t (own me (c + 1) ∷ []) []) (none (c + 1) (omega arith) (omega arith))
        ∙ append_nil (F c) ∙ skip a c h (λ d lt ge. none d lt (omega arith))
  ]
    where
      split_le : (a c : ℕ) → a ≤ suc c → (a ≡ suc c) ⊎ (a ≤ c)
      split_le zero c le = inr (omega arith)
      split_le (suc a) zero le = inl (omega arith)
      split_le (suc a) (suc c) le = elim (split_le a c (omega arith)) [ inl e ↦ inl (omega arith) | inr h ↦ inr (omega arith) ]

  -- if no count between two passes, the list grows by at most the key of the second count
  pub next_one : (a c : ℕ) → a < c → ((d : ℕ) → a < d → d < c → P (own me d) ≡ false) → F c ≡ F a ++ cond (P (own me c)) (own me c ∷ []) []
  next_one a zero lt none = absurd (omega arith)
  next_one a (suc c) lt none =
      let e : c + 1 ≡ suc c = omega arith in
      one_more c ∙ ap (λ (k : ℕ). F c ++ cond (P (own me k)) (own me k ∷ []) []) e
      ∙ ap (λ (xs : List Name). xs ++ cond (P (own me (suc c))) (own me (suc c) ∷ []) []) (skip a c (omega arith) (λ d x y. none d x (omega arith)))

  -- the first items of a concatenation are those of its first list
  take_more : (xs ys : List Name) → take (length xs) (xs ++ ys) ≡ xs
  take_more [] ys = refl
  take_more (x ∷ xs) ys = ap (λ (zs : List Name). x ∷ zs) (take_more xs ys)

  front : (a c : ℕ) → a ≤ c → (ys : List Name) × (F c ≡ F a ++ ys)
  front a zero le = let e : 0 ≡ a = omega arith in ([], ap F e ∙ sym (append_nil (F a)))
  front a (suc c) le = elim (cases a c le) [
    | inl e ↦ ([], ap F (sym e) ∙ sym (append_nil (F a)))
    | inr h ↦
        let f = front a c h in (
          f.0 ++ cond (P (own me (c + 1))) (own me (c + 1) ∷ []) [],
          one_more c ∙ ap (λ (xs : List Name). xs ++ cond (P (own me (c + 1))) (own me (c + 1) ∷ []) []) f.1 ∙ append_assoc (F a) f.0 (cond (P (own me (c + 1))) (own me (c + 1) ∷ []) []),
        )
  ]
    where
      cases : (a c : ℕ) → a ≤ suc c → (a ≡ suc c) ⊎ (a ≤ c)
      cases zero c le = inr (omega arith)
      cases (suc a) zero le = inl (omega arith)
      cases (suc a) (suc c) le = elim (cases a c (omega arith)) [ inl e ↦ inl (omega arith) | inr h ↦ inr (omega arith) ]

  pub first_of_all : (a c n : ℕ) → a ≤ c → length (F a) ≡ n → F a ≡ take n (F c)
  first_of_all a c n le e =
      let f = front a c le in
      sym (ap (λ (k : ℕ). take k (F c)) (sym e) ∙ ap (take (length (F a))) f.1 ∙ take_more (F a) f.0)

-- the names of the pool's ready keys up to a count
abbrev pub ready_up_to : ℕ → List Fact → List (Name × ℕ) → Pool → ℕ → List Name
ready_up_to me facts handed p c = filter (is_ready me facts handed p) (names_up_to me KeyKind c)

pub record HasFirst (me : ℕ) (facts : List Fact) (handed : List (Name × ℕ)) (p : Pool) (number after : ℕ) (names : List Name) : Type 0 where
  pub are : names ≡ ready_up_to me facts handed p after
  pub within : after ≤ last_count me facts
  pub few : length names ≤ number

pub found_none : (me : ℕ) (facts : List Fact) (handed : List (Name × ℕ)) (p : Pool) (number : ℕ) → HasFirst me facts handed p number 0 []
found_none me facts handed p number = record { are = refl; within = omega arith; few = omega arith }

pub found_all : (me : ℕ) (facts : List Fact) (handed : List (Name × ℕ)) (p : Pool) (number after : ℕ) (names : List Name) → HasFirst me facts handed p number after names →
    IsLastWaiting me facts handed (Keys p) (after + 1) → names ≡ take number (ready_up_to me facts handed p (last_count me facts))
found_all me facts handed p number after names h last =
    let few = h.few in
    let same : ready_up_to me facts handed p (last_count me facts) ≡ names =
    skip (is_ready me facts handed p) me after (last_count me facts) h.within (λ d lt le. last.none d (omega arith)) ∙ sym h.are in
    sym (ap (take number) same ∙ take_all number names few)

pub found_enough : (me : ℕ) (facts : List Fact) (handed : List (Name × ℕ)) (p : Pool) (number after : ℕ) (names : List Name) → HasFirst me facts handed p number after names →
    number ≤ length names → names ≡ take number (ready_up_to me facts handed p (last_count me facts))
found_enough me facts handed p number after names h enough =
    let few = h.few in
    let e : length names ≡ number = omega arith in
    h.are ∙ first_of_all (is_ready me facts handed p) me after (last_count me facts) number h.within (ap length (sym h.are) ∙ e)

module _ (me : ℕ) (facts : List Fact) (handed : List (Name × ℕ)) (p : Pool) (number after count : ℕ) (names : List Name)
    (h : HasFirst me facts handed p number after names) (next : IsNextWaiting me facts handed (Keys p) (after + 1) count) where
  pub found_one : length names < number → HasFirst me facts handed p number count (names ++ own me count ∷ [])
  found_one room =
      let behind = next.behind in
      record {
        are = ap (λ (xs : List Name). xs ++ own me count ∷ []) h.are
            ∙ ap (λ (b : Bool). ready_up_to me facts handed p after ++ cond b (own me count ∷ []) []) (sym next.waits)
            ∙ sym (next_one (is_ready me facts handed p) me after count (omega arith) (λ d lt gt. next.first d (omega arith) gt));
        within = keys_bound me facts handed p count next.waits;
        few = let e = length-append names (own me count ∷ []) in omega arith;
      }

pub named_as : (me node count : ℕ) (name : Name) → node ≡ me → Some name ≡ (if nat_le 1 count && nat_lt count (2 ^ 48) then Some (record { node = node; kind = KeyKind; count = count }) else None) → name ≡ own me count
named_as me node count name e h = by_test (nat_le 1 count && nat_lt count (2 ^ 48)) h
  where
    by_test : (b : Bool) → Some name ≡ (if b then Some (record { node = node; kind = KeyKind; count = count }) else None) → name ≡ own me count
    by_test true g = let same : name ≡ record { node = node; kind = KeyKind; count = count } = cc in same ∙ ap (λ (k : ℕ). own k count) e
    by_test false g = absurd (let u : ⊥ = cc in u)

-- `ready` is the number of the pool's ready keys up to a count

pub record HasCounted (me : ℕ) (facts : List Fact) (handed : List (Name × ℕ)) (p : Pool) (number after ready : ℕ) : Type 0 where
  pub names : HasFirst me facts handed p number after (ready_up_to me facts handed p after)
  pub count : ready ≡ length (ready_up_to me facts handed p after)

pub counted_all : (me : ℕ) (facts : List Fact) (handed : List (Name × ℕ)) (p : Pool) (number after ready : ℕ) → HasCounted me facts handed p number after ready →
    IsLastWaiting me facts handed (Keys p) (after + 1) → ready ≡ min number (length (ready_names me facts handed p))
counted_all me facts handed p number after ready h none =
    h.count ∙ ap length (found_all me facts handed p number after (ready_up_to me facts handed p after) h.names none) ∙ length-take number (ready_names me facts handed p)

pub counted_enough : (me : ℕ) (facts : List Fact) (handed : List (Name × ℕ)) (p : Pool) (number after ready : ℕ) → HasCounted me facts handed p number after ready →
    number ≤ ready → ready ≡ min number (length (ready_names me facts handed p))
counted_enough me facts handed p number after ready h enough =
    let c = h.count in
    c ∙ ap length (found_enough me facts handed p number after (ready_up_to me facts handed p after) h.names (omega arith)) ∙ length-take number (ready_names me facts handed p)

module _ (me : ℕ) (facts : List Fact) (handed : List (Name × ℕ)) (p : Pool) (number after count ready : ℕ)
    (h : HasCounted me facts handed p number after ready) (next : IsNextWaiting me facts handed (Keys p) (after + 1) count) where
  pub counted_one : ready < number → HasCounted me facts handed p number count (ready + 1)
  counted_one room =
      let c = h.count in
      let f = found_one me facts handed p number after count (ready_up_to me facts handed p after) h.names next (omega arith) in
      let e = length-append (ready_up_to me facts handed p after) (own me count ∷ []) in
      let l = ap length f.are in
      record {
        names = subst (HasFirst me facts handed p number count) f.are f;
        count = omega arith;
      }

pub counted_none : (me : ℕ) (facts : List Fact) (handed : List (Name × ℕ)) (p : Pool) (number : ℕ) → HasCounted me facts handed p number 0 0
counted_none me facts handed p number = record { names = found_none me facts handed p number; count = refl }

-- two conjunctions are equal if their first tests are equal, and if their second tests are equal whenever the first ones hold

both : (a b c d : Bool) → (a ≡ true → c ≡ true → b ≡ d) → a ≡ c → (a && b) ≡ (c && d)
both true b true d f e = f refl refl
both true b false d f e = cc
both false b true d f e = cc
both false b false d f e = refl

bools : (a b : Bool) → (a ≡ true → b ≡ true) → (b ≡ true → a ≡ true) → a ≡ b
bools true b f g = sym (f refl)
bools false true f g = g refl
bools false false f g = refl

and_both : (a b : Bool) → a ≡ true → b ≡ true → (a && b) ≡ true
and_both true b h k = k
and_both false b h k = h

-- comparing sizes in octets gives the same as comparing them in bits
eights : (size bits : ℕ) → (bits % 8 == 0) ≡ true → (size == bits / 8) ≡ (8 * size == bits)
eights size bits h =
    let whole : bits % 8 ≡ 0 = eq_from (bits % 8) 0 h in
    bools (size == bits / 8) (8 * size == bits)
    (λ g. let e = eq_from size (bits / 8) g in let t : 8 * size ≡ bits = omega arith in ap (λ (x : ℕ). x == bits) t ∙ eq_same bits)
    (λ g. let e = eq_from (8 * size) bits g in let t : size ≡ bits / 8 = omega arith in ap (λ (x : ℕ). x == bits / 8) t ∙ eq_same (bits / 8))

no_eights : (size bits : ℕ) → (bits % 8 == 0) ≡ false → (8 * size == bits) ≡ false
no_eights size bits h = elim (8 * size == bits) as (λ b. (8 * size == bits) ≡ b → b ≡ false) [
  | true ↦ λ g.
      let e = eq_from (8 * size) bits g in
      let t : bits % 8 ≡ 0 = omega arith in
      let s : true ≡ false = sym (ap (λ (x : ℕ). x == 0) t ∙ eq_same 0) ∙ h in
      absurd (let u : ⊥ = cc in u)
  | false ↦ λ g. refl
] refl

-- a key waits in the pool exactly if the model's pool has it and its master hasn't got it

pub keyed : (handed : List (Name × ℕ)) (m s bits : ℕ) (n : Name) (f : Fact) → (bits % 8 == 0) ≡ true → name_of f ≡ n →
    is_free_key handed (record { master = m; slave = s; octets = bits / 8 }) f ≡ (is_key_of m s bits (Some f) && not (was_handed handed n m))
keyed handed m s bits n (Key name master slave route bytes) whole e =
    ap (λ (b : Bool). ((master == m) && (slave == s) && b) && not (was_handed handed name master)) (eights (length bytes) bits whole)
    ∙ both ((master == m) && (slave == s) && (8 * length bytes == bits)) (not (was_handed handed name master)) ((master == m) && (slave == s) && (8 * length bytes == bits)) (not (was_handed handed n m))
    (λ h g. ap (λ (k : ℕ). not (was_handed handed name k)) (eq_from master m (and_left (master == m) (slave == s) (and_left ((master == m) && (slave == s)) (8 * length bytes == bits) h)))
    ∙ ap (λ (x : Name). not (was_handed handed x m)) e) refl
keyed handed m s bits n (Part name key master slave route bytes) whole e = refl
keyed handed m s bits n (Chunk name stream index route bytes) whole e = refl
keyed handed m s bits n (Stored note about route) whole e = refl
keyed handed m s bits n (Open stream source peer size route) whole e = refl
keyed handed m s bits n (Joined note about route) whole e = refl

pub found_as : (facts : List Fact) (n : Name) (f : Fact) → fact_at facts n ≡ Some f → name_of f ≡ n
found_as facts n f e =
    let at = somewhere (λ x. name_eq (name_of x) n) facts (ap is_some e) in
    let same : Some at.item ≡ Some f = sym at.found ∙ e in
    let is : at.item ≡ f = cc in
    ap name_of (sym is) ∙ name_eq_from (name_of at.item) n at.passes

swapped : (a b c : Bool) → ((a && b) && c) ≡ (a && c && b)
swapped true true true = refl
swapped true true false = refl
swapped true false true = refl
swapped true false false = refl
swapped false b c = refl

one_ready : (v : View) (m s bits c : ℕ) → (bits % 8 == 0) ≡ true → is_ready v.me v.facts v.handed (record { master = m; slave = s; octets = bits / 8 }) (own v.me (c + 1)) ≡ is_in_pool v m s bits (own v.me (c + 1))
one_ready v m s bits c whole =
    ap (λ (b : Bool). (b && is_free_key_at v.handed (record { master = m; slave = s; octets = bits / 8 }) (fact_at v.facts (own v.me (c + 1)))) && list_any (is_stored_about (own v.me (c + 1))) v.facts) low
    ∙ ap (λ (b : Bool). b && list_any (is_stored_about (own v.me (c + 1))) v.facts) (by (fact_at v.facts (own v.me (c + 1))) refl)
    ∙ swapped (is_key_of m s bits (fact_at v.facts (own v.me (c + 1)))) (not (was_handed v.handed (own v.me (c + 1)) m)) (list_any (is_stored_about (own v.me (c + 1))) v.facts)
  where
    low : nat_le 1 (c + 1) ≡ true
    low = grind (arith, nat_tests)

    by : (o : Option Fact) → fact_at v.facts (own v.me (c + 1)) ≡ o →
        is_free_key_at v.handed (record { master = m; slave = s; octets = bits / 8 }) o ≡ (is_key_of m s bits o && not (was_handed v.handed (own v.me (c + 1)) m))
    by None e = refl
    by (Some f) e = keyed v.handed m s bits (own v.me (c + 1)) f whole (found_as v.facts (own v.me (c + 1)) f e)

same_filter : (P Q : Name → Bool) (me last : ℕ) → ((c : ℕ) → P (own me (c + 1)) ≡ Q (own me (c + 1))) → filter P (names_up_to me KeyKind last) ≡ filter Q (names_up_to me KeyKind last)
same_filter P Q me zero h = refl
same_filter P Q me (suc c) h =
    one_more P me c
    ∙ ap (λ (xs : List Name). xs ++ cond (P (own me (c + 1))) (own me (c + 1) ∷ []) []) (same_filter P Q me c h)
    ∙ ap (λ (b : Bool). filter Q (names_up_to me KeyKind c) ++ cond b (own me (c + 1) ∷ []) []) (h c)
    ∙ sym (one_more Q me c)

pub ready_pool : (v : View) (p : PoolNo) (keys : Pool) → Some keys ≡ octets_pool p → filter (is_ready v.me v.facts v.handed keys) (names_up_to v.me KeyKind (last_count v.me v.facts)) ≡ pool v p.master p.slave p.bits
unfolding pool
ready_pool v p keys e = by (p.bits % 8 == 0) refl e
  where
    by : (b : Bool) → (p.bits % 8 == 0) ≡ b → Some keys ≡ (if b then Some (record { master = p.master; slave = p.slave; octets = p.bits / 8 }) else None) →
        filter (is_ready v.me v.facts v.handed keys) (names_up_to v.me KeyKind (last_count v.me v.facts)) ≡ filter (is_in_pool v p.master p.slave p.bits) (names_up_to v.me KeyKind (last_count v.me v.facts))
    by false h g = absurd (let u : ⊥ = cc in u)
    by true h g =
        let k : Pool = record { master = p.master; slave = p.slave; octets = p.bits / 8 } in
        let is : keys ≡ k = cc in
        ap (λ (x : Pool). filter (is_ready v.me v.facts v.handed x) (names_up_to v.me KeyKind (last_count v.me v.facts))) is
        ∙ same_filter (is_ready v.me v.facts v.handed k) (is_in_pool v p.master p.slave p.bits) v.me (last_count v.me v.facts) (λ c. one_ready v p.master p.slave p.bits c h)

pub no_key : (v : View) (m s bits : ℕ) (o : Option Fact) → (bits % 8 == 0) ≡ false → is_key_of m s bits o ≡ false
no_key v m s bits None h = refl
no_key v m s bits (Some (Key name master slave route bytes)) h = ap (λ (b : Bool). (master == m) && (slave == s) && b) (no_eights (length bytes) bits h) ∙ shut ((master == m) && (slave == s))
  where
    shut : (b : Bool) → (b && false) ≡ false
    shut true = refl
    shut false = refl
no_key v m s bits (Some (Part name key master slave route bytes)) h = refl
no_key v m s bits (Some (Chunk name stream index route bytes)) h = refl
no_key v m s bits (Some (Stored note about route)) h = refl
no_key v m s bits (Some (Open stream source peer size route)) h = refl
no_key v m s bits (Some (Joined note about route)) h = refl

pub no_pool : (v : View) (p : PoolNo) → None ≡ octets_pool p → pool v p.master p.slave p.bits ≡ []
unfolding pool
no_pool v p e = by (p.bits % 8 == 0) refl e
  where
    empty : (c : ℕ) → (p.bits % 8 == 0) ≡ false → filter (is_in_pool v p.master p.slave p.bits) (names_up_to v.me KeyKind c) ≡ []
    empty zero h = refl
    empty (suc c) h =
        one_more (is_in_pool v p.master p.slave p.bits) v.me c
        ∙ ap (λ (b : Bool). filter (is_in_pool v p.master p.slave p.bits) (names_up_to v.me KeyKind c) ++ cond (b && list_any (is_stored_about (own v.me (c + 1))) v.facts && not (was_handed v.handed (own v.me (c + 1)) p.master)) (own v.me (c + 1) ∷ []) [])
        (no_key v p.master p.slave p.bits (fact_at v.facts (own v.me (c + 1))) h)
        ∙ append_nil (is_in_pool v p.master p.slave p.bits) v.me (filter (is_in_pool v p.master p.slave p.bits) (names_up_to v.me KeyKind c))
        ∙ empty c h

    by : (b : Bool) → (p.bits % 8 == 0) ≡ b → ◌≡◌ {A = Option Pool} None (if b then Some (record { master = p.master; slave = p.slave; octets = p.bits / 8 }) else None) → filter (is_in_pool v p.master p.slave p.bits) (names_up_to v.me KeyKind (last_count v.me v.facts)) ≡ []
    by true h g = absurd (let u : ⊥ = cc in u)
    by false h g = empty (last_count v.me v.facts) h

pub take_none : (n : ℕ) → take {A = Name} n [] ≡ []
take_none zero = refl
take_none (suc n) = refl
