-- `enc` hands keys to their master, and `dec` hands keys to an application other than their master.
use Rattle.std.proofs.Common.{not, ◌≡◌, ◌≢◌, ◌∙◌, ℕ, ◌+◌, Bool, true, false, ◌&&◌, ◌||◌, List, [], ◌∷◌, ◌++◌, length, map, take, refl, ap, subst, Option, Some, None}
use Rattle.std.specs.Prelude.{◌==◌, nat_lt, is_some, if◌then◌else◌}
use Rattle.std.specs.List.{list_all, AllByRecursion}
use Rattle.qkd_base.specs.Name.{Name, name_eq, has}
use Rattle.net_model.specs.declared.event.Event.{Event}
use Rattle.net_model.specs.declared.event.Event.TheVariants.{Enc, Dec}
use Rattle.net_model.specs.declared.fact.Fact.{Fact}
use Rattle.net_model.specs.declared.fact.Fact.TheVariants.{Key, Part}
use Rattle.net_model.specs.declared.reply.Reply.{Reply}
use Rattle.net_model.specs.declared.reply.Reply.TheVariants.{Down, Memory, JournalFull, NoRandom, Stopped, Unknown, Repeated, AlreadyHanded}
use Rattle.net_model.specs.Table.{fact_at, sae_at, was_handed}
use Rattle.net_model.specs.OctetSequence.{has_octets, octets_from}
use Rattle.net_model.specs.Site.{Site}
use Rattle.net_model.specs.World.{Network, World, Durable}
use Rattle.net_model.specs.Premises.{IsSite, IsNetwork}
use Rattle.net_model.specs.Journal.{added_len, is_nil, journal_limit}
use Rattle.net_model.specs.View.{View}
use Rattle.net_model.specs.Needed.{view_of}
use Rattle.net_model.specs.Decision.{Decision, Refuses, Does, Effect, is_confirmed}
use Rattle.net_model.specs.Decide.{decide, random_need}
use Rattle.net_model.specs.Pools.{is_entitled, is_key_of, pool, is_in_pool, own_names, bytes_or_none, enc, dec, decs, dec_fault, is_for, for_slave}
use Rattle.net_model.specs.Action.{Environment, Outcome, Ask, Replies, is_no_memory, is_entropy_fault, is_io_fault}
use Rattle.net_model.specs.Handle.{is_numbered, perform, resolve, handle}
use Rattle.net_model.specs.Deliveries.{Delivery, to_one, is_of_name, delivered, of_step}
use Rattle.law_base.proofs.Base.{name_eq_same, eq_from, and_left, and_right, or_left, or_right, by_test}
use Rattle.law_base.proofs.Seen.{Sees, IsSeen, seen_at, seen_found, bare_view, view_sees}
use Rattle.law_invariant.proofs.Names.{has_take, has_filter}
use Rattle.law_invariant.proofs.Only.{IsMine, entitled_is}
use Rattle.law_invariant.proofs.Hands.{key_is, faultless}
use Rattle.law_safety.proofs.Bytes.{some_fact}
use Rattle.law_run.proofs.Firsts.{HasFirst, HasOther}

-- The reply of a decision, and the reply after it was carried out.

abbrev pub Says : (Reply → Type 0) → Decision → Type 0
Says P (Refuses reply) = P reply
Says P (Does effect) = P effect.reply

either : (P : Reply → Type 0) (b : Bool) (x y : Decision) → (b ≡ true → Says P x) → (b ≡ false → Says P y) → Says P (if b then x else y)
either P b x y = by_test (Says P) b x y

module _ (net : Network) (w : World) (v : ℕ) (P : Outcome → Type 0) (down : P (Replies Down)) (memory : P (Replies Memory)) (full : (length' added : ℕ) → P (Replies (JournalFull length' added)))
    (random : P (Replies NoRandom)) (stops : P (Replies Stopped)) where
  abbrev SaysSo : World × Outcome → Type 0
  SaysSo out = P out.1

  performed : (octets : ℕ) (environment : Environment) (e : Effect) → P (Replies e.reply) → P (perform net w v octets environment e).1
  unfolding perform
  performed octets environment e h =
      by_test SaysSo (is_no_memory environment || not (list_all is_numbered e.batch)) _ _ (λ e1. memory) (λ e1.
      by_test SaysSo (nat_lt journal_limit ((w.journal v).length' + added_len (w.journal v).version e.batch)) _ _ (λ e2. full (w.journal v).length' (added_len (w.journal v).version e.batch)) (λ e2.
      by_test SaysSo (nat_lt 0 octets && (not (has_octets (net.entropy v) (w.drawn v + octets)) || is_entropy_fault environment)) _ _ (λ e3. random) (λ e3.
      by_test SaysSo (is_io_fault environment && not (is_nil e.batch)) _ _ (λ e4. stops) (λ e4. h))))

  resolved : (octets : ℕ) (environment : Environment) (d : Decision) → Says (λ reply. P (Replies reply)) d → P (resolve net w v octets environment d).1
  resolved octets environment (Refuses reply) h = h
  resolved octets environment (Does e) h = performed octets environment e h

  pub handled : (event : Event) (environment : Environment) →
      Says (λ reply. P (Replies reply)) (decide net.site net.sealing w.link_up (view_of net w v) (octets_from (net.entropy v).octet (w.drawn v) (random_need (view_of net w v) event)) event) →
      P (handle net w v event environment).1
  unfolding handle
  handled event environment h = by_test SaysSo (w.up v) _ _ (λ up. resolved (random_need (view_of net w v) event) environment _ h) (λ no. down)

-- Lemmas on keys for one application.

each_to_one : (P : Delivery → Type 0) (sae : ℕ) (bytes : Name → List ℕ) (ns : List Name) → ((n : Name) → has ns n ≡ true → P (record { name = n; sae = sae; bytes = bytes n })) →
    AllByRecursion P (map (to_one sae) (map (λ n. (n, bytes n)) ns))
each_to_one P sae bytes [] h = tt
each_to_one P sae bytes (n ∷ ns) h =
    (h n (or_left (name_eq n n) (has ns n) (name_eq_same n)), each_to_one P sae bytes ns (λ x e. h x (or_right (name_eq n x) (has ns x) e)))

abbrev pub ToFirst : List Fact → Delivery → Type 0
ToFirst T d = HasFirst T d.name d.sae

abbrev pub ToOther : List Fact → Delivery → Type 0
ToOther T d = HasOther T d.name d.sae

module _ (s : Site) (d : Durable) (see bare : View) (h : Sees s d see bare) where
  -- A key of a pool belongs to the pool's master.
  pooled : (m t bits : ℕ) (n : Name) → is_in_pool see m t bits n ≡ true → HasFirst d.facts n m
  pooled m t bits n e =
      let prefix = and_left (is_key_of m t bits (fact_at see.facts n) && is_confirmed see n) (not (was_handed see.handed n m)) e in
      let key = key_is m t bits (fact_at see.facts n) (and_left (is_key_of m t bits (fact_at see.facts n)) (is_confirmed see n) prefix) in
      let seen = seen_at s d see bare h n (Key key.name m t key.nodes key.bytes) key.is in
      let x = seen.1 in
      let named : name_eq key.name n ≡ true = ap (λ (y : Name). name_eq y n) seen.0 ∙ name_eq_same n in
      record {
        name = key.name;
        fact = x.fact;
        there = x.there;
        is = ap (is_of_name n) x.shape ∙ or_left (name_eq key.name n) false named;
        first = ap (sae_at d.facts true) x.shape;
      }

  pub enc_says : (m t n bits : ℕ) → Says (λ reply. AllByRecursion (ToFirst d.facts) (delivered see.facts (Enc m t n bits) reply)) (enc s see m t n bits)
  unfolding enc pool
  enc_says m t n bits =
      let P : Reply → Type 0 = λ (reply : Reply). AllByRecursion (ToFirst d.facts) (delivered see.facts (Enc m t n bits) reply) in
      either P (not (is_entitled s see m m t)) _ _ (λ e. tt) (λ e.
      either P (nat_lt (length (pool see m t bits)) n) _ _ (λ e2. tt) (λ e2.
      each_to_one (ToFirst d.facts) m (λ x. bytes_or_none (fact_at see.facts x)) (take n (pool see m t bits)) (λ x k.
      pooled m t bits x (has_filter (is_in_pool see m t bits) (own_names see) x (has_take (pool see m t bits) n x k)).1)))

  -- A key that a slave names has another application as its master.
  named_first : (m t : ℕ) (n : Name) (g : Fact) → is_for m t n g ≡ true → IsSeen d see.me bare g → HasFirst d.facts n m
  named_first m t n (Key name master slave nodes bytes) e x =
      let prefix = and_left (name_eq name n && (master == m)) (slave == t) e in
      record {
        name = name;
        fact = x.fact;
        there = x.there;
        is = ap (is_of_name n) x.shape ∙ or_left (name_eq name n) false (and_left (name_eq name n) (master == m) prefix);
        first = ap (sae_at d.facts true) x.shape ∙ ap (λ (y : ℕ). Some y) (eq_from master m (and_right (name_eq name n) (master == m) prefix));
      }
  named_first m t n (Part name key master slave nodes bytes) e x =
      let prefix = and_left (name_eq key n && (master == m)) (slave == t) e in
      record {
        name = name;
        fact = x.fact;
        there = x.there;
        is = ap (is_of_name n) x.shape ∙ and_left (name_eq key n) (master == m) prefix;
        first = ap (sae_at d.facts true) x.shape ∙ ap (λ (y : ℕ). Some y) (eq_from master m (and_right (name_eq key n) (master == m) prefix));
      }
  named_first m t n _ e x = cc

  -- The applications of an allowed pair are at home at two nodes, so they are different.
  two : IsSite s → (m t : ℕ) → s.allowed m t ≡ true → m ≢ t
  two site m t allowed e = (site.pairs m t allowed).apart (ap s.home e)

  first_fault : (P : Reply → Type 0) (b : Bool) (x : Reply) (o : Option Reply) (fault : Reply) → (if b then Some x else o) ≡ Some fault → P x → (o ≡ Some fault → P fault) → P fault
  first_fault P true x o fault e first later = let is : x ≡ fault = cc in subst P is first
  first_fault P false x o fault e first later = later e

  fault_says : (t m : ℕ) (ns before all : List Name) (fault : Reply) → dec_fault see m t before ns ≡ Some fault →
      AllByRecursion (ToOther d.facts) (delivered see.facts (Dec t m all) fault)
  fault_says t m [] before all fault e = cc
  fault_says t m (n ∷ ns) before all fault e =
      let P : Reply → Type 0 = λ (reply : Reply). AllByRecursion (ToOther d.facts) (delivered see.facts (Dec t m all) reply) in
      first_fault P (not (is_some (for_slave see m t n))) (Unknown (length before)) _ fault e tt (λ e1.
      first_fault P (has before n) (Repeated (length before)) _ fault e1 tt (λ e2.
      first_fault P (was_handed see.handed n t) (AlreadyHanded (length before)) _ fault e2 tt (λ e3.
      fault_says t m ns (before ++ n ∷ []) all fault e3)))

  decs_says : IsSite s → (t m : ℕ) (ns : List Name) (o : Option Reply) → dec_fault see m t [] ns ≡ o → IsMine s see t m t →
      Says (λ reply. AllByRecursion (ToOther d.facts) (delivered see.facts (Dec t m ns) reply)) (decs see m t ns o)
  decs_says site t m ns (Some fault) e ok = fault_says t m ns [] ns fault e
  decs_says site t m ns None e ok =
      let r = faultless see m t [] ns e in
      each_to_one (ToOther d.facts) t (λ n. bytes_or_none (for_slave see m t n)) ns (λ n k.
      let g = some_fact (for_slave see m t n) (r.pair n k) in
      let x = seen_found s d see bare h (is_for m t n) g.0 g.1 in
      record { other = m; has = named_first m t n g.0 x.0 x.1; apart = two site m t ok.allowed })

  pub dec_says : IsSite s → (t m : ℕ) (ns : List Name) → Says (λ reply. AllByRecursion (ToOther d.facts) (delivered see.facts (Dec t m ns) reply)) (dec s see t m ns)
  unfolding dec
  dec_says site t m ns =
      either (λ (reply : Reply). AllByRecursion (ToOther d.facts) (delivered see.facts (Dec t m ns) reply)) (not (is_entitled s see t m t)) _ _ (λ e. tt) (λ e.
      decs_says site t m ns (dec_fault see m t [] ns) refl (entitled_is s see t m t e))

-- What `enc` and `dec` hand out, stated for a world.

pub enc_hands : (net : Network) (w : World) (v m t n bits : ℕ) (environment : Environment) →
    AllByRecursion (ToFirst w.durable.facts) (of_step net w (Ask v (Enc m t n bits) environment) (handle net w v (Enc m t n bits) environment).1)
unfolding decide
enc_hands net w v m t n bits environment =
    handled net w v (λ (out : Outcome). AllByRecursion (ToFirst w.durable.facts) (of_step net w (Ask v (Enc m t n bits) environment) out)) tt tt (λ a b. tt) tt tt (Enc m t n bits) environment
    (enc_says net.site w.durable (view_of net w v) (bare_view net w v) (view_sees net w v) m t n bits)

pub dec_hands : (net : Network) (w : World) (v t m : ℕ) (names : List Name) (environment : Environment) → IsNetwork net →
    AllByRecursion (ToOther w.durable.facts) (of_step net w (Ask v (Dec t m names) environment) (handle net w v (Dec t m names) environment).1)
unfolding decide
dec_hands net w v t m names environment good =
    handled net w v (λ (out : Outcome). AllByRecursion (ToOther w.durable.facts) (of_step net w (Ask v (Dec t m names) environment) out)) tt tt (λ a b. tt) tt tt (Dec t m names) environment
    (dec_says net.site w.durable (view_of net w v) (bare_view net w v) (view_sees net w v) good.site t m names)
