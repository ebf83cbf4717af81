-- What the reply to each event hands out: the pairs that it marks, in order, with the bytes of each name.
use Rattle.std.proofs.Common.{not, ◌≡◌, ℕ, ◌<◌, Bool, true, false, ◌&&◌, ◌||◌, List, [], ◌∷◌, ◌++◌, length, map, refl, sym, ◌∙◌, ap, subst, arith, Option, Some, None, take}
use Rattle.std.specs.Prelude.{◌==◌, nat_lt, is_some, if◌then◌else◌, find}
use Rattle.std.specs.List.{list_all}
use Rattle.qkd_base.specs.Name.{Name, name_eq, has}
use Rattle.qkd_base.specs.declared.lane.Lane.{Lane}
use Rattle.net_model.specs.declared.event.Event.{Event}
use Rattle.net_model.specs.declared.event.Event.TheVariants.{Enc, Dec, Get, EncGroup}
use Rattle.net_model.specs.declared.fact.Fact.{Fact}
use Rattle.net_model.specs.declared.fact.Fact.TheVariants.{Open}
use Rattle.net_model.specs.declared.record.Record.{Record}
use Rattle.net_model.specs.declared.reply.Reply.{Reply}
use Rattle.net_model.specs.declared.reply.Reply.TheVariants.{Handed, Stream, Unknown, Repeated, AlreadyHanded}
use Rattle.net_model.specs.Table.{is_part_of, name_of, bytes_of, fact_at, was_handed}
use Rattle.net_model.specs.Site.{Site}
use Rattle.net_model.specs.World.{Durable, Allocation, Transmission}
use Rattle.net_model.specs.Invariant.{Invariant}
use Rattle.net_model.specs.Premises.{IsSite}
use Rattle.net_model.specs.Decision.{Decision, Refuses, Does, Effect, answers, makes, is_confirmed}
use Rattle.net_model.specs.Pools.{is_entitled, pool, is_in_pool, own_names, hand_to, bytes_or_none, enc, dec, decs, dec_fault, for_slave}
use Rattle.net_model.specs.Groups.{group, is_unhanded_group, is_group_ready, is_entitled_group, enc_group}
use Rattle.net_model.specs.Streams.{only_status, stream_here, has_joined, at_end, chunk_at, gives_chunk, get_chunk, is_chunk_at}
use Rattle.net_model.specs.View.{View}
use Rattle.net_model.specs.Deliveries.{Delivery, to_one, chunk_delivery, delivered, IsTrueDelivery, pairs_of}
use Rattle.law_base.proofs.Base.{name_eq_same, eq_from, and_left, or_left, or_right, by_test, not_true}
use Rattle.law_base.proofs.Seen.{Sees, seen_found, seen_at}
use Rattle.law_invariant.proofs.Names.{has_take, has_filter}
use Rattle.law_invariant.proofs.Only.{IsMine, entitled_is}
use Rattle.law_invariant.proofs.Hands.{faultless}
use Rattle.law_invariant.proofs.Streams.{IsStream, stream_is, caller_home, open_end_is}
use Rattle.law_safety.proofs.Bytes.{HasTrueBytes, pool_bytes, group_bytes_true, slave_bytes_true}
use Rattle.law_safety.proofs.Chunks.{true_chunk}
use Rattle.law_safety.proofs.Marks.{marks, marks_hands}

-- Each name has its own bytes, and each application is at home at the node.
abbrev pub AllTrue : Site → List Fact → ℕ → List Delivery → Type 0
AllTrue s T v [] = Unit {0}
AllTrue s T v (d ∷ ds) = IsTrueDelivery T d × (s.home d.sae ≡ v) × AllTrue s T v ds

-- The effect's reply hands out what its batch marks, and all of it is true.
pub record IsTrueEffect (s : Site) (T seen : List Fact) (v : ℕ) (event : Event) (e : Effect) : Type 0 where
  pub marked : marks e.batch ≡ pairs_of (delivered seen event e.reply)
  pub true' : AllTrue s T v (delivered seen event e.reply)

abbrev pub IsTrueDecision : Site → List Fact → List Fact → ℕ → Event → Decision → Type 0
IsTrueDecision s T seen v event (Refuses reply) = delivered seen event reply ≡ []
IsTrueDecision s T seen v event (Does e) = IsTrueEffect s T seen v event e

pub true_either : (s : Site) (T seen : List Fact) (v : ℕ) (event : Event) (b : Bool) (x y : Decision) → (b ≡ true → IsTrueDecision s T seen v event x) →
    (b ≡ false → IsTrueDecision s T seen v event y) → IsTrueDecision s T seen v event (if b then x else y)
true_either s T seen v event b x y = by_test (IsTrueDecision s T seen v event) b x y

-- Lemmas on replies that hand out nothing.
pub true_nothing : (s : Site) (T : List Fact) (see : View) (event : Event) (batch : List Record) (reply : Reply) → marks batch ≡ [] → delivered see.facts event reply ≡ [] →
    IsTrueDecision s T see.facts see.me event (makes see batch reply)
true_nothing s T see event batch reply none silent =
    record { marked = none ∙ ap pairs_of (sym silent); true' = subst (AllTrue s T see.me) (sym silent) tt }

-- Lemmas on keys for one application.

pairs_one : (m : ℕ) (bytes : Name → List ℕ) (ns : List Name) → map (λ n. (n, m)) ns ≡ pairs_of (map (to_one m) (map (λ n. (n, bytes n)) ns))
pairs_one m bytes [] = refl
pairs_one m bytes (n ∷ ns) = ap (λ (hs : List (Name × ℕ)). (n, m) ∷ hs) (pairs_one m bytes ns)

true_each : (s : Site) (T : List Fact) (v m : ℕ) (bytes : Name → List ℕ) (ns : List Name) → s.home m ≡ v → ((n : Name) → has ns n ≡ true → HasTrueBytes T n m (bytes n)) →
    AllTrue s T v (map (to_one m) (map (λ n. (n, bytes n)) ns))
true_each s T v m bytes [] home h = tt
true_each s T v m bytes (n ∷ ns) home h = (
  h n (or_left (name_eq n n) (has ns n) (name_eq_same n)),
  home,
  true_each s T v m bytes ns home (λ x e. h x (or_right (name_eq n x) (has ns x) e)),
)

hands_true : (s : Site) (T : List Fact) (see : View) (event : Event) (m : ℕ) (bytes : Name → List ℕ) (ns : List Name) →
    delivered see.facts event (Handed (map (λ n. (n, bytes n)) ns)) ≡ map (to_one m) (map (λ n. (n, bytes n)) ns) → s.home m ≡ see.me →
    ((n : Name) → has ns n ≡ true → HasTrueBytes T n m (bytes n)) → IsTrueDecision s T see.facts see.me event (makes see (hand_to m ns) (Handed (map (λ n. (n, bytes n)) ns)))
hands_true s T see event m bytes ns is home h =
    record {
      marked = marks_hands m ns ∙ pairs_one m bytes ns ∙ ap pairs_of (sym is);
      true' = subst (AllTrue s T see.me) (sym is) (true_each s T see.me m bytes ns home h);
    }

first_fault : (P : Reply → Type 0) (b : Bool) (x : Reply) (o : Option Reply) (fault : Reply) → (if b then Some x else o) ≡ Some fault → P x →
    (o ≡ Some fault → P fault) → P fault
first_fault P true x o fault e first later = let is : x ≡ fault = cc in subst P is first
first_fault P false x o fault e first later = later e

-- Lemmas on a chunk that is handed out.
one_chunk : (T : List Fact) (caller : ℕ) (stream : Name) (index : ℕ) (f : Fact) (bytes : List ℕ) → find (is_chunk_at stream index) T ≡ Some f → 0 < length bytes →
    delivered T (Get caller stream index) (Stream 0 None index bytes) ≡ record { name = name_of f; sae = caller; bytes = bytes } ∷ []
one_chunk T caller stream index f [] e some = absurd (omega arith)
one_chunk T caller stream index f (b ∷ bytes) e some = ap (chunk_delivery caller (b ∷ bytes)) e

module _ (s : Site) (d : Durable) (frames : Lane → List Allocation) (unclaimed : Lane → List Transmission) (inv : Invariant s d frames unclaimed) (see bare : View)
    (h : Sees s d see bare) (site : IsSite s) (here : see.me < s.nodes) where
  pub enc_true : (m t n bits : ℕ) → IsTrueDecision s d.facts see.facts see.me (Enc m t n bits) (enc s see m t n bits)
  unfolding enc pool
  enc_true m t n bits =
      true_either s d.facts see.facts see.me (Enc m t n bits) (not (is_entitled s see m m t)) _ _ (λ e. refl) (λ e.
      true_either s d.facts see.facts see.me (Enc m t n bits) (nat_lt (length (pool see m t bits)) n) _ _ (λ e2. refl) (λ e2.
      let ok = entitled_is s see m m t e in
      hands_true s d.facts see (Enc m t n bits) m (λ x. bytes_or_none (fact_at see.facts x)) (take n (pool see m t bits)) refl ok.home (λ x k.
      pool_bytes s d frames unclaimed inv see bare h m t bits x ok.home
      (has_filter (is_in_pool see m t bits) (own_names see) x (has_take (pool see m t bits) n x k)).1)))

  pub group_true : (m : ℕ) (slaves : List ℕ) (n bits : ℕ) → 0 < length slaves → IsTrueDecision s d.facts see.facts see.me (EncGroup m slaves n bits) (enc_group s see m slaves n bits)
  unfolding enc_group group
  group_true m slaves n bits some =
      let ready : List Name = group see m slaves bits in
      true_either s d.facts see.facts see.me (EncGroup m slaves n bits) (not (is_entitled_group s see m slaves)) _ _ (λ e. refl) (λ e.
      true_either s d.facts see.facts see.me (EncGroup m slaves n bits) (nat_lt (length ready) n) _ _ (λ e2. refl) (λ e2.
      let home : s.home m ≡ see.me = eq_from (s.home m) see.me (and_left (s.home m == see.me) (list_all (λ t. s.allowed m t) slaves) (not_true (is_entitled_group s see m slaves) e)) in
      hands_true s d.facts see (EncGroup m slaves n bits) m (λ x. bytes_or_none (find (is_part_of x) see.facts)) (take n ready) refl home (λ x k.
      group_bytes_true s d frames unclaimed inv see bare h m bits slaves x home some
      (and_left (is_unhanded_group see m slaves bits x) (is_group_ready see x)
      (has_filter (λ y. is_unhanded_group see m slaves bits y && is_group_ready see y) (own_names see) x (has_take ready n x k)).1))))

  fault_silent : (t m : ℕ) (ns before all : List Name) (fault : Reply) → dec_fault see m t before ns ≡ Some fault → delivered see.facts (Dec t m all) fault ≡ []
  fault_silent t m [] before all fault e = cc
  fault_silent t m (n ∷ ns) before all fault e =
      let P : Reply → Type 0 = λ (reply : Reply). delivered see.facts (Dec t m all) reply ≡ [] in
      first_fault P (not (is_some (for_slave see m t n))) (Unknown (length before)) _ fault e refl (λ e1.
      first_fault P (has before n) (Repeated (length before)) _ fault e1 refl (λ e2.
      first_fault P (was_handed see.handed n t) (AlreadyHanded (length before)) _ fault e2 refl (λ e3.
      fault_silent t m ns (before ++ n ∷ []) all fault e3)))

  decs_true : (t m : ℕ) (ns : List Name) (o : Option Reply) → dec_fault see m t [] ns ≡ o → IsMine s see t m t → IsTrueDecision s d.facts see.facts see.me (Dec t m ns) (decs see m t ns o)
  decs_true t m ns (Some fault) e ok = fault_silent t m ns [] ns fault e
  decs_true t m ns None e ok =
      let r = faultless see m t [] ns e in
      hands_true s d.facts see (Dec t m ns) t (λ n. bytes_or_none (for_slave see m t n)) ns refl ok.home (λ n k.
      slave_bytes_true s d frames unclaimed inv see bare h site m t n ok.allowed ok.home (r.fresh n k) (r.pair n k))

  pub dec_true : (t m : ℕ) (ns : List Name) → IsTrueDecision s d.facts see.facts see.me (Dec t m ns) (dec s see t m ns)
  unfolding dec
  dec_true t m ns =
      true_either s d.facts see.facts see.me (Dec t m ns) (not (is_entitled s see t m t)) _ _ (λ e. refl) (λ e.
      decs_true t m ns (dec_fault see m t [] ns) refl (entitled_is s see t m t e))

  quiet : (caller : ℕ) (stream : Name) (index n : ℕ) → IsTrueDecision s d.facts see.facts see.me (Get caller stream index) (answers see (only_status n))
  quiet caller stream index n = true_nothing s d.facts see (Get caller stream index) [] (only_status n) refl refl

  gives_tell : (caller index : ℕ) (stream : Name) (source peer size : ℕ) (nodes : List ℕ) (o : Option Fact) → IsStream s d see.me stream source peer size nodes →
      s.home caller ≡ see.me → ((caller == source) ≡ false → caller ≡ peer) → chunk_at see stream index ≡ o →
      IsTrueDecision s d.facts see.facts see.me (Get caller stream index) (gives_chunk see caller index (caller == source) o)
  gives_tell caller index stream source peer size nodes None x home other e = quiet caller stream index 2
  gives_tell caller index stream source peer size nodes (Some g) x home other e =
      let seen = seen_found s d see bare h (is_chunk_at stream index) g e in
      true_either s d.facts see.facts see.me (Get caller stream index) (was_handed see.handed (name_of g) caller) _ _ (λ e1. quiet caller stream index 10) (λ e1.
      true_either s d.facts see.facts see.me (Get caller stream index) ((caller == source) && not (is_confirmed see (name_of g))) _ _ (λ e2. quiet caller stream index 2) (λ e2.
      let c = true_chunk s d frames unclaimed inv see bare h site stream source peer size index caller nodes x g seen.0 seen.1 home other e1 in
      let is = one_chunk see.facts caller stream index g (bytes_of g) e c.some in
      record {
        marked = ap pairs_of (sym is);
        true' = subst (AllTrue s d.facts see.me) (sym is) (c.true', home, tt);
      }))

  end_true : (n : Name) (caller index : ℕ) (o : Option Fact) (next : Name → ℕ → Decision) → stream_here s see n ≡ o →
      ((stream : Name) (source peer size : ℕ) (nodes : List ℕ) → n ≡ stream → IsStream s d see.me stream source peer size nodes →
      (((caller == source) && (s.home source == see.me)) || ((caller == peer) && (s.home peer == see.me))) ≡ true →
      IsTrueDecision s d.facts see.facts see.me (Get caller n index) (next stream source)) → IsTrueDecision s d.facts see.facts see.me (Get caller n index) (at_end s see caller o next)
  end_true n caller index None next e k = quiet caller n index 9
  end_true n caller index (Some (Open stream source peer size nodes)) next e k =
      let event : Event = Get caller n index in
      true_either s d.facts see.facts see.me event ((s.home peer == see.me) && not (has_joined see stream)) _ _ (λ e1. quiet caller n index 9) (λ e1.
      true_either s d.facts see.facts see.me event (not (((caller == source) && (s.home source == see.me)) || ((caller == peer) && (s.home peer == see.me)))) _ _ (λ e2. quiet caller n index 8) (λ e2.
      let named = seen_at s d see bare h n (Open stream source peer size nodes) (open_end_is s see (fact_at see.facts n) (Open stream source peer size nodes) e) in
      k stream source peer size nodes (sym named.0) (stream_is s d frames unclaimed inv see bare h site here n stream source peer size nodes e)
      (not_true (((caller == source) && (s.home source == see.me)) || ((caller == peer) && (s.home peer == see.me))) e2)))
  end_true n caller index (Some _) next e k = quiet caller n index 9

  pub get_true : (caller : ℕ) (stream : Name) (index : ℕ) → IsTrueDecision s d.facts see.facts see.me (Get caller stream index) (get_chunk s see caller stream index)
  unfolding get_chunk
  get_true caller stream index =
      end_true stream caller index (stream_here s see stream) _ refl (λ st source peer size nodes is x ends.
      true_either s d.facts see.facts see.me (Get caller stream index) ((caller == source) && not (has_joined see st)) _ _ (λ e. quiet caller stream index 3) (λ e.
      let home = caller_home s see.me caller source peer ends in
      subst (λ (n : Name). IsTrueDecision s d.facts see.facts see.me (Get caller n index) (gives_chunk see caller index (caller == source) (chunk_at see st index))) (sym is)
      (gives_tell caller index st source peer size nodes (chunk_at see st index) x home.0 home.1 refl)))
