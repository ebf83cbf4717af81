-- Names that pass a test, found in order.
use Rattle.std.proofs.Common.{subst, length-append, ◌≡◌, ℕ, zero, suc, ◌+◌, ◌<◌, ◌≤◌, Bool, true, false, cond, not, ◌&&◌, ◌||◌, List, [], ◌∷◌, ◌++◌, length, refl, sym, ◌∙◌, ap, arith, take, ◌*◌, ◌^◌, Option, Some, None}
use Rattle.std.specs.Prelude.{filter, ◌==◌, ◌/◌, ◌%◌, nat_le, nat_lt, if◌then◌else◌}
use Rattle.std.specs.List.{list_any, list_all}
use Rattle.std.proofs.lemmas.Bool.Decides.{nat_tests}
use Rattle.std.proofs.lemmas.List.{take_all}
use Rattle.qkd_base.specs.Name.{Name, name_eq}
use Rattle.qkd_base.specs.declared.key_name.NameKind.TheVariants.{Key as KeyKind}
use Rattle.net_model.specs.declared.fact.Fact.{Fact}
use Rattle.net_model.specs.declared.fact.Fact.TheVariants.{Key, Chunk, Stored, Open, Joined, Part}
use Rattle.net_model.specs.Table.{PartOf, is_part_of, parts_of, part_of, was_handed}
use Rattle.net_model.specs.View.{View}
use Rattle.net_model.specs.Decision.{last_count}
use Rattle.net_model.specs.Pools.{names_up_to}
use Rattle.net_model.specs.Groups.{same_slaves, goes_to, is_part_from, is_unhanded_group, is_group_ready}
use Rattle.relay_core.proofs.Names.{and_left, and_right, eq_from, eq_same}
use Rattle.relay_core.proofs.Firsts.{not_true}
use Rattle.end_store.specs.declared.pool.Pool.{Pool}
use Rattle.end_store.specs.declared.pool.Line.TheVariants.{Parts}
use Rattle.end_store.specs.Waiting.{own, is_part_in, is_waiting, IsNextWaiting, IsLastWaiting}
use Rattle.end_store.proofs.Gathered.{skip, next_one, first_of_all}
use Rattle.end_store.proofs.Lines.{part_bound}
use Rattle.kme_keys.specs.Candidates.{is_candidate, candidates, first_pool}

-- ---- any test

append_nil : (xs : List Name) → xs ++ [] ≡ xs
append_nil [] = refl
append_nil (x ∷ xs) = ap (λ (ys : List Name). x ∷ ys) (append_nil xs)

pub record HasFirst (P : Name → Bool) (me last number after : ℕ) (names : List Name) : Type 0 where
  pub are : names ≡ filter P (names_up_to me KeyKind after)
  pub within : after ≤ last
  pub few : length names ≤ number

pub found_none : (P : Name → Bool) (me last number : ℕ) → HasFirst P me last number 0 []
found_none P me last number = record { are = refl; within = omega arith; few = omega arith }

pub found_all : (P : Name → Bool) (me last number after : ℕ) (names : List Name) → HasFirst P me last number after names →
    ((d : ℕ) → after < d → P (own me d) ≡ false) → names ≡ take number (filter P (names_up_to me KeyKind last))
found_all P me last number after names h none =
    let few = h.few in
    let same : filter P (names_up_to me KeyKind last) ≡ names = skip P me after last h.within (λ d lt le. none d lt) ∙ sym h.are in
    sym (ap (take number) same ∙ take_all number names few)

pub found_enough : (P : Name → Bool) (me last number after : ℕ) (names : List Name) → HasFirst P me last number after names → number ≤ length names →
    names ≡ take number (filter P (names_up_to me KeyKind last))
found_enough P me last number after names h enough =
    let few = h.few in
    let e : length names ≡ number = omega arith in
    h.are ∙ first_of_all P me after last number h.within (ap length (sym h.are) ∙ e)

-- the next name that may pass the test
pub record IsNext (P : Name → Bool) (me last after count : ℕ) : Type 0 where
  pub behind : after < count
  pub between : (d : ℕ) → after < d → d < count → P (own me d) ≡ false
  pub bound : count ≤ last

module _ (P : Name → Bool) (me last number after count : ℕ) (names : List Name) (h : HasFirst P me last number after names) (next : IsNext P me last after count) where
  pub found_one : length names < number → P (own me count) ≡ true → HasFirst P me last number count (names ++ own me count ∷ [])
  found_one room passes = record {
    are = ap (λ (xs : List Name). xs ++ own me count ∷ []) h.are
        ∙ ap (λ (b : Bool). filter P (names_up_to me KeyKind after) ++ cond b (own me count ∷ []) []) (sym passes)
        ∙ sym (next_one P me after count next.behind next.between);
    within = next.bound;
    few = let e = length-append names (own me count ∷ []) in omega arith;
  }

  pub found_other : P (own me count) ≡ false → HasFirst P me last number count names
  found_other fails = record {
    are = h.are ∙ sym (append_nil (filter P (names_up_to me KeyKind after)))
        ∙ ap (λ (b : Bool). filter P (names_up_to me KeyKind after) ++ cond b (own me count ∷ []) []) (sym fails)
        ∙ sym (next_one P me after count next.behind next.between);
    within = next.bound;
    few = h.few;
  }

-- `found` is the number of names that pass the test, up to a count

pub record HasCounted (P : Name → Bool) (me last number after found : ℕ) : Type 0 where
  pub names : HasFirst P me last number after (filter P (names_up_to me KeyKind after))
  pub count : found ≡ length (filter P (names_up_to me KeyKind after))

pub counted_none : (P : Name → Bool) (me last number : ℕ) → HasCounted P me last number 0 0
counted_none P me last number = record { names = found_none P me last number; count = refl }

pub counted_all : (P : Name → Bool) (me last number after found : ℕ) → HasCounted P me last number after found → ((d : ℕ) → after < d → P (own me d) ≡ false) →
    found ≡ length (take number (filter P (names_up_to me KeyKind last)))
counted_all P me last number after found h none = h.count ∙ ap length (found_all P me last number after (filter P (names_up_to me KeyKind after)) h.names none)

pub counted_enough : (P : Name → Bool) (me last number after found : ℕ) → HasCounted P me last number after found → number ≤ found →
    found ≡ length (take number (filter P (names_up_to me KeyKind last)))
counted_enough P me last number after found h enough =
    let c = h.count in
    c ∙ ap length (found_enough P me last number after (filter P (names_up_to me KeyKind after)) h.names (omega arith))

module _ (P : Name → Bool) (me last number after count found : ℕ) (h : HasCounted P me last number after found) (next : IsNext P me last after count) where
  pub counted_one : found < number → P (own me count) ≡ true → HasCounted P me last number count (found + 1)
  counted_one room passes =
      let c = h.count in
      let f = found_one P me last number after count (filter P (names_up_to me KeyKind after)) h.names next (omega arith) passes in
      let e = length-append (filter P (names_up_to me KeyKind after)) (own me count ∷ []) in
      let l = ap length f.are in
      record {
        names = subst (HasFirst P me last number count) f.are f;
        count = omega arith;
      }

  pub counted_other : P (own me count) ≡ false → HasCounted P me last number count found
  counted_other fails =
      let f = found_other P me last number after count (filter P (names_up_to me KeyKind after)) h.names next fails in
      record {
        names = subst (HasFirst P me last number count) f.are f;
        count = h.count ∙ ap length f.are;
      }

-- ---- a candidate waits among the parts for its first slave

sized : (size bits : ℕ) → bits % 8 ≡ 0 → (8 * size == bits) ≡ true → (size == bits / 8) ≡ true
sized size bits whole h =
    let e = eq_from (8 * size) bits h in
    let t : size ≡ bits / 8 = omega arith in
    ap (λ (k : ℕ). k == bits / 8) t ∙ eq_same (bits / 8)

and_intro : (a b : Bool) → a ≡ true → b ≡ true → (a && b) ≡ true
and_intro true b h k = k
and_intro false b h k = h

module _ (m t bits : ℕ) (n : Name) (whole : bits % 8 ≡ 0) where
  first_in : (f : Fact) → is_part_of n f ≡ true → goes_to t (part_of f) ≡ true → is_part_from m bits (part_of f) ≡ true → is_part_in (record { master = m; slave = t; octets = bits / 8 }) n f ≡ true
  first_in (Part name key master slave route bytes) named goes from =
      and_intro (name_eq key n) ((master == m) && (slave == t) && (length bytes == bits / 8)) named
      (and_intro ((master == m) && (slave == t)) (length bytes == bits / 8)
      (and_intro (master == m) (slave == t) (and_left (master == m) (8 * length bytes == bits) from) goes)
      (sized (length bytes) bits whole (and_right (master == m) (8 * length bytes == bits) from)))
  first_in (Key name master slave route bytes) named goes from = absurd (let u : ⊥ = cc in u)
  first_in (Chunk name stream index route bytes) named goes from = absurd (let u : ⊥ = cc in u)
  first_in (Stored note about route) named goes from = absurd (let u : ⊥ = cc in u)
  first_in (Open stream source peer size route) named goes from = absurd (let u : ⊥ = cc in u)
  first_in (Joined note about route) named goes from = absurd (let u : ⊥ = cc in u)

  pub part_there : (facts : List Fact) (ts : List ℕ) → same_slaves (parts_of facts n) (t ∷ ts) ≡ true → list_all (λ f. is_part_from m bits (part_of f)) (parts_of facts n) ≡ true →
      list_any (is_part_in (record { master = m; slave = t; octets = bits / 8 }) n) facts ≡ true
  part_there [] ts same all = absurd (let u : ⊥ = cc in u)
  part_there (f ∷ fs) ts same all = by (part_there fs ts) (is_part_of n f) refl same all
    where
      or_right : (a b : Bool) → b ≡ true → (a || b) ≡ true
      or_right true b h = refl
      or_right false b h = h

      by : (same_slaves (parts_of fs n) (t ∷ ts) ≡ true → list_all (λ g. is_part_from m bits (part_of g)) (parts_of fs n) ≡ true → list_any (is_part_in (record { master = m; slave = t; octets = bits / 8 }) n) fs ≡ true) →
          (b : Bool) → is_part_of n f ≡ b → same_slaves (cond b (f ∷ parts_of fs n) (parts_of fs n)) (t ∷ ts) ≡ true →
          list_all (λ g. is_part_from m bits (part_of g)) (cond b (f ∷ parts_of fs n) (parts_of fs n)) ≡ true →
          (is_part_in (record { master = m; slave = t; octets = bits / 8 }) n f || list_any (is_part_in (record { master = m; slave = t; octets = bits / 8 }) n) fs) ≡ true
      by rec true named same' all' =
          let one = first_in f named (and_left (goes_to t (part_of f)) (same_slaves (parts_of fs n) ts) same')
          (and_left (is_part_from m bits (part_of f)) (list_all (λ g. is_part_from m bits (part_of g)) (parts_of fs n)) all') in
          ap (λ (b : Bool). b || list_any (is_part_in (record { master = m; slave = t; octets = bits / 8 }) n) fs) one
      by rec false named same' all' =
          or_right (is_part_in (record { master = m; slave = t; octets = bits / 8 }) n f) (list_any (is_part_in (record { master = m; slave = t; octets = bits / 8 }) n) fs) (rec same' all')

module _ (v : View) (m : ℕ) (slaves : List ℕ) (bits : ℕ) (ready : Bool) where
  abbrev P : Name → Bool
  P = is_candidate v m slaves bits ready

  module _ (p : Pool) (line : Some p ≡ first_pool m slaves bits) where
    waiting : (c : ℕ) → 1 ≤ c → P (own v.me c) ≡ true → is_waiting v.me v.facts v.handed (Parts p) c ≡ true
    waiting c low h = by slaves line
        (and_left (is_unhanded_group v m slaves bits (own v.me c)) (not ready || is_group_ready v (own v.me c)) h)
      where
        n : Name
        n = own v.me c

        low_true : nat_le 1 c ≡ true
        low_true = grind (arith, nat_tests)

        by : (ts : List ℕ) → Some p ≡ first_pool m ts bits → is_unhanded_group v m ts bits (own v.me c) ≡ true → is_waiting v.me v.facts v.handed (Parts p) c ≡ true
        by [] g u = absurd (let w : ⊥ = cc in w)
        by (t ∷ ts) g u = at (bits % 8 == 0) refl g
          where
            at : (b : Bool) → (bits % 8 == 0) ≡ b → ◌≡◌ {A = Option Pool} (Some p) (if b then Some (record { master = m; slave = t; octets = bits / 8 }) else None) → is_waiting v.me v.facts v.handed (Parts p) c ≡ true
            at false whole g' = absurd (let w : ⊥ = cc in w)
            at true whole g' =
                let is : p ≡ record { master = m; slave = t; octets = bits / 8 } = cc in
                let slaves_all = and_left (same_slaves (parts_of v.facts (own v.me c)) (t ∷ ts) && list_all (λ f. is_part_from m bits (part_of f)) (parts_of v.facts (own v.me c))) (not (was_handed v.handed (own v.me c) m)) u in
                let free = and_right (same_slaves (parts_of v.facts (own v.me c)) (t ∷ ts) && list_all (λ f. is_part_from m bits (part_of f)) (parts_of v.facts (own v.me c))) (not (was_handed v.handed (own v.me c) m)) u in
                let there = part_there m t bits (own v.me c) (eq_from (bits % 8) 0 whole) v.facts ts
                (and_left (same_slaves (parts_of v.facts (own v.me c)) (t ∷ ts)) (list_all (λ f. is_part_from m bits (part_of f)) (parts_of v.facts (own v.me c))) slaves_all)
                (and_right (same_slaves (parts_of v.facts (own v.me c)) (t ∷ ts)) (list_all (λ f. is_part_from m bits (part_of f)) (parts_of v.facts (own v.me c))) slaves_all) in
                subst (λ (q : Pool). is_waiting v.me v.facts v.handed (Parts q) c ≡ true) (sym is)
                (and_intro (nat_le 1 c && list_any (is_part_in (record { master = m; slave = t; octets = bits / 8 }) (own v.me c)) v.facts) (not (was_handed v.handed (own v.me c) m))
                (and_intro (nat_le 1 c) (list_any (is_part_in (record { master = m; slave = t; octets = bits / 8 }) (own v.me c)) v.facts) low_true there) free)

    idle : (c : ℕ) → 1 ≤ c → is_waiting v.me v.facts v.handed (Parts p) c ≡ false → P (own v.me c) ≡ false
    idle c low h = not_true (P (own v.me c)) (λ is. let same : true ≡ false = sym (waiting c low is) ∙ h in let u : ⊥ = cc in u)

    pub none_more : (after : ℕ) → IsLastWaiting v.me v.facts v.handed (Parts p) (after + 1) → (d : ℕ) → after < d → is_candidate v m slaves bits ready (own v.me d) ≡ false
    none_more after last d lt = idle d (omega arith) (last.none d (omega arith))

    pub next_waits : (after count : ℕ) → IsNextWaiting v.me v.facts v.handed (Parts p) (after + 1) count → IsNext (is_candidate v m slaves bits ready) v.me (last_count v.me v.facts) after count
    next_waits after count next =
        let behind = next.behind in
        record {
          behind = omega arith;
          between = λ d lt gt. idle d (omega arith) (next.first d (omega arith) gt);
          bound = part_bound v.me p v.facts count
              (and_right (nat_le 1 count) (list_any (is_part_in p (own v.me count)) v.facts)
              (and_left (nat_le 1 count && list_any (is_part_in p (own v.me count)) v.facts) (not (was_handed v.handed (own v.me count) p.master)) next.waits));
        }

  -- a size that isn't a multiple of 8 bits has no candidates
  pub no_line : 1 ≤ length slaves → None ≡ first_pool m slaves bits → (c : ℕ) → is_candidate v m slaves bits ready (own v.me c) ≡ false
  no_line some none c = not_true (P (own v.me c)) (λ is. by slaves some none (and_left (is_unhanded_group v m slaves bits (own v.me c)) (not ready || is_group_ready v (own v.me c)) is))
    where
      sizes : (o : Option PartOf) → is_part_from m bits o ≡ true → bits % 8 ≡ 0
      sizes None h = absurd (let w : ⊥ = cc in w)
      sizes (Some q) h = let e = eq_from (8 * length q.bytes) bits (and_right (q.master == m) (8 * length q.bytes == bits) h) in omega arith

      first : (fs : List Fact) (t : ℕ) (ts : List ℕ) → same_slaves fs (t ∷ ts) ≡ true → list_all (λ f. is_part_from m bits (part_of f)) fs ≡ true → bits % 8 ≡ 0
      first [] t ts h k = absurd (let w : ⊥ = cc in w)
      first (f ∷ fs) t ts h k = sizes (part_of f) (and_left (is_part_from m bits (part_of f)) (list_all (λ g. is_part_from m bits (part_of g)) fs) k)

      by : (ts : List ℕ) → 1 ≤ length ts → None ≡ first_pool m ts bits → is_unhanded_group v m ts bits (own v.me c) ≡ true → ⊥
      by [] low g u = omega arith
      by (t ∷ ts) low g u =
          let all = and_left (same_slaves (parts_of v.facts (own v.me c)) (t ∷ ts) && list_all (λ f. is_part_from m bits (part_of f)) (parts_of v.facts (own v.me c))) (not (was_handed v.handed (own v.me c) m)) u in
          let whole = first (parts_of v.facts (own v.me c)) t ts
          (and_left (same_slaves (parts_of v.facts (own v.me c)) (t ∷ ts)) (list_all (λ f. is_part_from m bits (part_of f)) (parts_of v.facts (own v.me c))) all)
          (and_right (same_slaves (parts_of v.facts (own v.me c)) (t ∷ ts)) (list_all (λ f. is_part_from m bits (part_of f)) (parts_of v.facts (own v.me c))) all) in
          let test : (bits % 8 == 0) ≡ true = ap (λ (k : ℕ). k == 0) whole ∙ eq_same 0 in
          let some' : ◌≡◌ {A = Option Pool} None (Some (record { master = m; slave = t; octets = bits / 8 })) =
          g ∙ ap (λ (b : Bool). if b then Some (record { master = m; slave = t; octets = bits / 8 }) else None) test in
          let w : ⊥ = cc in w

-- a count from 1 to 2^48 - 1 has a name
pub no_name : (node count : ℕ) → 1 ≤ count → count < 2 ^ 48 → ◌≡◌ {A = Option Name} None (if nat_le 1 count && nat_lt count (2 ^ 48) then Some (record { node = node; kind = KeyKind; count = count }) else None) → ⊥
no_name node count low high h =
    let test : (nat_le 1 count && nat_lt count (2 ^ 48)) ≡ true = and_intro (nat_le 1 count) (nat_lt count (2 ^ 48)) (grind (arith, nat_tests)) (grind (arith, nat_tests)) in
    let some : ◌≡◌ {A = Option Name} None (Some (record { node = node; kind = KeyKind; count = count })) =
    h ∙ ap (λ (b : Bool). if b then Some (record { node = node; kind = KeyKind; count = count }) else None) test in
    let w : ⊥ = cc in w

pub no_candidate : (v : View) (m : ℕ) (slaves : List ℕ) (bits : ℕ) (ready : Bool) (number : ℕ) → 1 ≤ length slaves → None ≡ first_pool m slaves bits → take number (candidates v m slaves bits ready) ≡ []
no_candidate v m slaves bits ready number some none =
    ap (take number) (skip (is_candidate v m slaves bits ready) v.me 0 (last_count v.me v.facts) (omega arith) (λ d lt le. no_line v m slaves bits ready some none d)) ∙ nothing number
  where
    nothing : (n : ℕ) → take {A = Name} n [] ≡ []
    nothing zero = refl
    nothing (suc n) = refl
