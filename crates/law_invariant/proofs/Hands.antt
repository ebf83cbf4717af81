-- Handing out keys: ready keys to their master, and keys that a slave names.
use Rattle.std.proofs.Common.{not, ◌≡◌, ℕ, ◌*◌, Bool, true, false, ◌&&◌, ◌||◌, List, [], ◌∷◌, ◌++◌, length, refl, sym, ◌∙◌, ap, subst, Option, Some, None, inl, inr, take}
use Rattle.std.specs.Prelude.{◌==◌, nat_lt, is_some, if◌then◌else◌}
use Rattle.qkd_base.specs.Name.{Name, name_eq, has}
use Rattle.qkd_base.specs.declared.key_name.NameKind.TheVariants.{Key as KeyKind}
use Rattle.net_model.specs.declared.fact.Fact.{Fact}
use Rattle.net_model.specs.declared.fact.Fact.TheVariants.{Key, Part}
use Rattle.net_model.specs.declared.reply.Reply.{Reply}
use Rattle.net_model.specs.declared.reply.Reply.TheVariants.{Handed, ReadyCount}
use Rattle.net_model.specs.Table.{part_of, bytes_of, fact_at, was_handed, sae_at}
use Rattle.net_model.specs.Site.{Site}
use Rattle.net_model.specs.World.{Durable}
use Rattle.net_model.specs.Knowledge.{AllDiffer}
use Rattle.net_model.specs.Handings.{MayHave, KnowsStored, is_single}
use Rattle.net_model.specs.Decision.{is_confirmed, last_count}
use Rattle.net_model.specs.Pools.{pool, is_in_pool, is_key_of, own_names, hand_to, with_bytes, enc, dec, status, dec_fault, decs, is_for, for_slave, slave_bytes, is_entitled}
use Rattle.net_model.specs.View.{View}
use Rattle.law_base.proofs.Base.{name_eq_from, eq_from, and_left, and_right, or_cases, or_first, or_second, not_false, not_both, not_true, was_not, name_eq_same}
use Rattle.law_base.proofs.Tables.{has-push}
use Rattle.law_base.proofs.Seen.{Sees, IsSeen, seen_at, seen_found, seen_stored, handed_seen}
use Rattle.law_invariant.proofs.Names.{has_take, differ_take, has_filter, differ_filter, differ_up_to, hand_all}
use Rattle.law_invariant.specs.Only.{Only}
use Rattle.law_invariant.proofs.Only.{only_answers, only_makes, only_either, entitled_is}

-- The fact is a key of this pair and size.
pub record IsKey (m t bits : ℕ) (o : Option Fact) : Type 0 where
  pub name : Name
  pub nodes : List ℕ
  pub bytes : List ℕ
  pub is : o ≡ Some (Key name m t nodes bytes)
  pub size : 8 * length bytes ≡ bits

pub key_is : (m t bits : ℕ) (o : Option Fact) → is_key_of m t bits o ≡ true → IsKey m t bits o
key_is m t bits None h = cc
key_is m t bits (Some (Key name master slave nodes bytes)) h =
    let prefix = and_left ((master == m) && (slave == t)) (8 * length bytes == bits) h in
    let a : master ≡ m = eq_from master m (and_left (master == m) (slave == t) prefix) in
    let b : slave ≡ t = eq_from slave t (and_right (master == m) (slave == t) prefix) in
    record {
      name = name;
      nodes = nodes;
      bytes = bytes;
      is = ap (λ (x : ℕ). Some (Key name x slave nodes bytes)) a ∙ ap (λ (x : ℕ). Some (Key name m x nodes bytes)) b;
      size = eq_from (8 * length bytes) bits (and_right ((master == m) && (slave == t)) (8 * length bytes == bits) h);
    }
key_is m t bits (Some _) h = cc

unless : {A : Type 0} (b : Bool) (x : A) (o : Option A) → (if b then Some x else o) ≡ None → (b ≡ false) × (o ≡ None)
unless true x o h = cc
unless false x o h = (refl, h)

some_is : {A : Type 0} (o : Option A) → is_some o ≡ true → (a : A) × (o ≡ Some a)
some_is None h = cc
some_is (Some a) h = (a, refl)

-- The list of named keys has no fault: each key is there, none is named twice, and none was handed out.
pub record AreDecodable (see : View) (m t : ℕ) (before ns : List Name) : Type 0 where
  pub differ : AllDiffer ns
  pub apart : (n : Name) → has ns n ≡ true → has before n ≡ false
  pub pair : (n : Name) → has ns n ≡ true → is_some (for_slave see m t n) ≡ true
  pub fresh : (n : Name) → has ns n ≡ true → was_handed see.handed n t ≡ false

pub faultless : (see : View) (m t : ℕ) (before ns : List Name) → dec_fault see m t before ns ≡ None → AreDecodable see m t before ns
faultless see m t before [] h = record { differ = tt; apart = λ n e. cc; pair = λ n e. cc; fresh = λ n e. cc }
faultless see m t before (x ∷ ns) h =
    let a = unless (not (is_some (for_slave see m t x))) _ _ h in
    let b = unless (has before x) _ _ a.1 in
    let c = unless (was_handed see.handed x t) _ _ b.1 in
    let r = faultless see m t (before ++ x ∷ []) ns c.1 in
    let later : (n : Name) → has ns n ≡ true → (has before n || name_eq x n) ≡ false = λ n e. sym (has-push before x n) ∙ r.apart n e in
    record {
      differ = (not_false (has ns x) (λ e. not_both (name_eq x x) (name_eq_same x) (or_second (has before x) (name_eq x x) (later x e))), r.differ);
      apart = λ n e. elim (or_cases (name_eq x n) (has ns n) e) [
        | inl is ↦ ap (has before) (sym (name_eq_from x n is)) ∙ b.0
        | inr y ↦ or_first (has before n) (name_eq x n) (later n y)
      ];
      pair = λ n e. elim (or_cases (name_eq x n) (has ns n) e) [
        | inl is ↦ ap (λ (k : Name). is_some (for_slave see m t k)) (sym (name_eq_from x n is)) ∙ not_true (is_some (for_slave see m t x)) a.0
        | inr y ↦ r.pair n y
      ];
      fresh = λ n e. elim (or_cases (name_eq x n) (has ns n) e) [
        | inl is ↦ ap (λ (k : Name). was_handed see.handed k t) (sym (name_eq_from x n is)) ∙ c.0
        | inr y ↦ r.fresh n y
      ];
    }

module _ (s : Site) (d : Durable) (see bare : View) (h : Sees s d see bare) where
  -- What holds at this node holds at the application's home.
  at_home : (P : ℕ → Type 0) (sae : ℕ) → s.home sae ≡ see.me → P see.me → P (s.home sae)
  at_home P sae home x = subst P (sym home) x

  pool_may : (m t bits : ℕ) (n : Name) → s.home m ≡ see.me → is_in_pool see m t bits n ≡ true → (was_handed d.handed n m ≡ false) × MayHave s d.facts d.known n m
  pool_may m t bits n home e =
      let prefix = and_left (is_key_of m t bits (fact_at see.facts n) && is_confirmed see n) (not (was_handed see.handed n m)) e in
      let key = key_is m t bits (fact_at see.facts n) (and_left (is_key_of m t bits (fact_at see.facts n)) (is_confirmed see n) prefix) in
      let seen = seen_at s d see bare h n (Key key.name m t key.nodes key.bytes) key.is in
      let stored = seen_stored s d see bare h n (and_right (is_key_of m t bits (fact_at see.facts n)) (is_confirmed see n) prefix) in (
        sym (handed_seen s d see bare h n m home) ∙ was_not (was_handed see.handed n m) (and_right (is_key_of m t bits (fact_at see.facts n) && is_confirmed see n) (not (was_handed see.handed n m)) e),
        inl (record {
          fact = seen.1.fact;
          there = ap (fact_at d.facts) (sym seen.0) ∙ seen.1.there;
          single = ap is_single seen.1.shape;
          knows = at_home (λ u. has (d.known u) n ≡ true) m home (ap (has (d.known see.me)) (sym seen.0) ∙ seen.1.knows);
          is_end = inl (ap (sae_at d.facts true) seen.1.shape, at_home (λ u. KnowsStored d.facts (d.known u) n) m home stored);
        }),
      )

  pub enc_may : (m t n bits : ℕ) → Only s d see (enc s see m t n bits)
  unfolding enc pool
  enc_may m t n bits =
      only_either s d see (not (is_entitled s see m m t)) _ _ (λ e. tt) (λ e.
      only_either s d see (nat_lt (length (pool see m t bits)) n) _ _ (λ e2. tt) (λ e2.
      let ok = entitled_is s see m m t e in
      only_makes s d see (hand_to m (take n (pool see m t bits))) (Handed (with_bytes see (take n (pool see m t bits)))) (λ numbered.
      hand_all s d see.me m (take n (pool see m t bits)) ok.home
      (differ_take (pool see m t bits) n (differ_filter (is_in_pool see m t bits) (own_names see) (differ_up_to see.me KeyKind (last_count see.me see.facts))))
      (λ x k. pool_may m t bits x ok.home (has_filter (is_in_pool see m t bits) (own_names see) x (has_take (pool see m t bits) n x k)).1))))

  for_may : (m t : ℕ) (n : Name) (g : Fact) → is_for m t n g ≡ true → s.home t ≡ see.me → IsSeen d see.me bare g → MayHave s d.facts d.known n t
  for_may m t n (Key name master slave nodes bytes) e home x =
      let is : name ≡ n = name_eq_from name n (and_left (name_eq name n) (master == m) (and_left (name_eq name n && (master == m)) (slave == t) e)) in
      let to : slave ≡ t = eq_from slave t (and_right (name_eq name n && (master == m)) (slave == t) e) in
      inl (record {
        fact = x.fact;
        there = ap (fact_at d.facts) (sym is) ∙ x.there;
        single = ap is_single x.shape;
        knows = at_home (λ u. has (d.known u) n ≡ true) t home (ap (has (d.known see.me)) (sym is) ∙ x.knows);
        is_end = inr (ap (sae_at d.facts false) x.shape ∙ ap Some to);
      })
  for_may m t n (Part name key master slave nodes bytes) e home x =
      let to : slave ≡ t = eq_from slave t (and_right (name_eq key n && (master == m)) (slave == t) e) in
      inr (record {
        name = name;
        one = record {
          fact = x.fact;
          part = record { key = key; master = master; slave = slave; bytes = bytes_of x.fact };
          there = x.there;
          is = ap part_of x.shape;
          key = name_eq_from key n (and_left (name_eq key n) (master == m) (and_left (name_eq key n && (master == m)) (slave == t) e));
        };
        is_end = inr (to, at_home (λ u. has (d.known u) name ≡ true) t home x.knows);
      })
  for_may m t n _ e home x = cc

  decs_may : (m t : ℕ) (ns : List Name) (o : Option Reply) → dec_fault see m t [] ns ≡ o → s.home t ≡ see.me → Only s d see (decs see m t ns o)
  decs_may m t ns (Some fault) e home = tt
  decs_may m t ns None e home =
      let r = faultless see m t [] ns e in
      only_makes s d see (hand_to t ns) (Handed (slave_bytes see m t ns)) (λ numbered.
      hand_all s d see.me t ns home r.differ (λ n k.
      let p = some_is (for_slave see m t n) (r.pair n k) in
      let x = seen_found s d see bare h (is_for m t n) p.0 p.1 in
      (sym (handed_seen s d see bare h n t home) ∙ r.fresh n k, for_may m t n p.0 x.0 home x.1)))

  pub dec_may : (t m : ℕ) (ns : List Name) → Only s d see (dec s see t m ns)
  unfolding dec
  dec_may t m ns =
      only_either s d see (not (is_entitled s see t m t)) _ _ (λ e. tt) (λ e.
      decs_may m t ns (dec_fault see m t [] ns) refl (entitled_is s see t m t e).home)

  pub status_may : (m t : ℕ) → Only s d see (status s see m t)
  unfolding status
  status_may m t =
      only_either s d see (not (is_entitled s see m m t)) _ _ (λ e. tt) (λ e. only_answers s d see (ReadyCount (length (pool see m t 256))))
