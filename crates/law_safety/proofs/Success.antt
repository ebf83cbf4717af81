-- Requests that may be answered are answered, with the bytes of each key.
use Rattle.std.proofs.Common.{Some, not, ◌≡◌, ℕ, ◌+◌, ◌<◌, ◌≤◌, Bool, true, false, ◌&&◌, List, [], ◌∷◌, ◌++◌, length, map, refl, sym, ◌∙◌, ap, arith, None, take, subst, zero, suc}
use Rattle.std.specs.Prelude.{◌==◌, nat_lt, is_some, if◌then◌else◌, find, slice_get}
use Rattle.std.specs.List.{list_all}
use Rattle.std.proofs.lemmas.Bool.Decides.{nat_tests}
use Rattle.qkd_base.specs.Name.{Name, name_eq, has}
use Rattle.net_model.specs.declared.event.Event.{Event}
use Rattle.net_model.specs.declared.event.Event.TheVariants.{Enc, Dec, EncGroup}
use Rattle.net_model.specs.declared.fact.Fact.{Fact}
use Rattle.net_model.specs.declared.fact.Fact.TheVariants.{Key, Chunk, Stored, Open, Joined, Part}
use Rattle.net_model.specs.declared.record.Record.{Record}
use Rattle.net_model.specs.declared.reply.Reply.{Reply}
use Rattle.net_model.specs.declared.reply.Reply.TheVariants.{Down, Handed, NotAllowed}
use Rattle.net_model.specs.Table.{is_part_of, name_of, fact_at, was_handed}
use Rattle.net_model.specs.Site.{Site}
use Rattle.net_model.specs.OctetSequence.{octets_from}
use Rattle.net_model.specs.World.{Network, World}
use Rattle.net_model.specs.Journal.{journal_limit, added_len}
use Rattle.net_model.specs.Knowledge.{AllDiffer}
use Rattle.net_model.specs.Invariant.{Conserved}
use Rattle.net_model.specs.Premises.{IsNetwork}
use Rattle.net_model.specs.Decision.{Decision, Refuses, Effect, makes}
use Rattle.net_model.specs.Decide.{decide, random_need}
use Rattle.net_model.specs.Pools.{is_entitled, pool, is_in_pool, own_names, hand_to, with_bytes, bytes_or_none, enc, dec, decs, dec_fault, is_for, for_slave, slave_bytes}
use Rattle.net_model.specs.Groups.{group, is_unhanded_group, is_group_ready, group_bytes, is_entitled_group, enc_group}
use Rattle.net_model.specs.View.{View}
use Rattle.net_model.specs.Needed.{view_of}
use Rattle.net_model.specs.Action.{Ok, Outcome, Replies}
use Rattle.net_model.specs.Handle.{is_numbered, perform, resolve, handle}
use Rattle.net_model.specs.Deliveries.{to_one, IsTrueDelivery}
use Rattle.law_base.proofs.Base.{name_eq_from, name_eq_same, eq_same, and_left, and_both, or_left, or_right, or_both, not_false, not_both}
use Rattle.law_base.proofs.Tables.{has-push}
use Rattle.law_base.proofs.Masked.{IsBlind}
use Rattle.law_base.proofs.Seen.{seen_some, handed_seen, bare_view, view_sees, view_me}
use Rattle.law_invariant.proofs.Names.{has_take, has_filter}
use Rattle.law_safety.specs.Truth.{IsAnswered}
use Rattle.law_safety.specs.Known.{KnowsFor}
use Rattle.law_safety.specs.Room.{HasRoomAt}
use Rattle.law_safety.proofs.Bytes.{HasTrueBytes, pool_bytes, group_bytes_true, slave_bytes_true}

-- If nothing stops the manager, its reply is that of its decision.

numbered_hands : (sae : ℕ) (ns : List Name) → list_all is_numbered (hand_to sae ns) ≡ true
numbered_hands sae [] = refl
numbered_hands sae (n ∷ ns) = numbered_hands sae ns

performed : (net : Network) (w : World) (v : ℕ) (e : Effect) → list_all is_numbered e.batch ≡ true → HasRoomAt w v e.batch → (perform net w v 0 Ok e).1 ≡ Replies e.reply
unfolding perform
performed net w v e numbered room =
    let full : nat_lt journal_limit ((w.journal v).length' + added_len (w.journal v).version e.batch) ≡ false = fits _ room in
    rw (numbered, full) refl
  where
    fits : (n : ℕ) → n ≤ journal_limit → nat_lt journal_limit n ≡ false
    fits n h = grind (arith, nat_tests)

-- What the manager decides on an event after it drew the octets for it.
abbrev decided_on : Network → World → ℕ → Event → Decision
decided_on net w v event =
    decide net.site net.sealing w.link_up (view_of net w v) (octets_from (net.entropy v).octet (w.drawn v) (random_need (view_of net w v) event)) event

handled : (net : Network) (w : World) (v : ℕ) (event : Event) (batch : List Record) (reply : Reply) → w.up v ≡ true → random_need (view_of net w v) event ≡ 0 →
    decided_on net w v event ≡ makes (view_of net w v) batch reply → list_all is_numbered batch ≡ true → HasRoomAt w v batch → (handle net w v event Ok).1 ≡ Replies reply
unfolding handle
handled net w v event batch reply up none does numbered room =
    let effect : Effect = record { batch = batch; volatile = (view_of net w v).volatile; orders = []; repeats = []; reply = reply } in
    ap (λ (t : Bool). (if t then resolve net w v (random_need (view_of net w v) event) Ok (decided_on net w v event) else (w, Replies Down)).1) up ∙
    ap (λ (x : Decision). (resolve net w v (random_need (view_of net w v) event) Ok x).1) does ∙
    ap (λ (octets : ℕ). (perform net w v octets Ok effect).1) none ∙
    performed net w v effect numbered room

-- The reply has each key with its bytes.
answered : (T : List Fact) (sae : ℕ) (bytes : Name → List ℕ) (ns : List Name) (outcome : Outcome) → outcome ≡ Replies (Handed (map (λ n. (n, bytes n)) ns)) →
    ((n : Name) → has ns n ≡ true → HasTrueBytes T n sae (bytes n)) → IsAnswered T sae ns outcome
answered T sae bytes ns outcome is h =
    record { keys = map (λ n. (n, bytes n)) ns; is = is; names = named ns; bytes = λ n key e. each ns n key h e }
  where
    named : (ns : List Name) → map (λ (key : Name × List ℕ). key.0) (map (λ n. (n, bytes n)) ns) ≡ ns
    named [] = refl
    named (n ∷ ns) = ap (λ (xs : List Name). n ∷ xs) (named ns)

    each : (ns : List Name) (n : ℕ) (key : Name × List ℕ) → ((n : Name) → has ns n ≡ true → HasTrueBytes T n sae (bytes n)) → slice_get (map (λ n. (n, bytes n)) ns) n ≡ Some key →
        IsTrueDelivery T (to_one sae key)
    each [] n key h e = cc
    each (x ∷ ns) zero key h e =
        let is : (x, bytes x) ≡ key = cc in
        subst (λ (y : Name × List ℕ). IsTrueDelivery T (to_one sae y)) is (h x (or_left (name_eq x x) (has ns x) (name_eq_same x)))
    each (x ∷ ns) (suc n) key h e = each ns n key (λ y k. h y (or_right (name_eq x y) (has ns y) k)) e

few : (n k : ℕ) → n ≤ k → nat_lt k n ≡ false
few n k h = grind (arith, nat_tests)

when_entitled : (x y z : Decision) (a b : Bool) → a ≡ true → b ≡ false → (if not a then x else if b then y else z) ≡ z
when_entitled x y z true true h k = cc
when_entitled x y z true false h k = refl
when_entitled x y z false b h k = cc

-- Lemmas on `enc`, with which a master asks for keys.

enc_does : (s : Site) (see : View) (m t n bits : ℕ) → s.allowed m t ≡ true → s.home m ≡ see.me → n ≤ length (pool see m t bits) →
    enc s see m t n bits ≡ makes see (hand_to m (take n (pool see m t bits))) (Handed (with_bytes see (take n (pool see m t bits))))
unfolding enc
enc_does s see m t n bits allowed home enough =
    let entitled : is_entitled s see m m t ≡ true = and_both (s.allowed m t) (s.home m == see.me) allowed (ap (λ (u : ℕ). u == see.me) home ∙ eq_same see.me) in
    when_entitled _ _ _ (is_entitled s see m m t) (nat_lt (length (pool see m t bits)) n) entitled (few n (length (pool see m t bits)) enough)

pub enc_succeeds : (net : Network) (w : World) (v m t n bits : ℕ) → Conserved net w → w.up v ≡ true → net.site.allowed m t ≡ true → net.site.home m ≡ v →
    n ≤ length (pool (view_of net w v) m t bits) → HasRoomAt w v (hand_to m (take n (pool (view_of net w v) m t bits))) →
    IsAnswered w.durable.facts m (take n (pool (view_of net w v) m t bits)) (handle net w v (Enc m t n bits) Ok).1
unfolding decide random_need pool
enc_succeeds net w v m t n bits c up allowed home enough room =
    let see : View = view_of net w v in
    let here : net.site.home m ≡ see.me = home ∙ sym (view_me net w v) in
    let ns : List Name = take n (pool see m t bits) in
    answered w.durable.facts m (λ x. bytes_or_none (fact_at see.facts x)) ns (handle net w v (Enc m t n bits) Ok).1
    (handled net w v (Enc m t n bits) (hand_to m ns) (Handed (with_bytes see ns)) up refl (enc_does net.site see m t n bits allowed here enough) (numbered_hands m ns) room)
    (λ x e.
    let in_pool = (has_filter (is_in_pool see m t bits) (own_names see) x (has_take (pool see m t bits) n x e)).1 in
    pool_bytes net.site w.durable w.frames w.unclaimed c.now see (bare_view net w v) (view_sees net w v) m t bits x here in_pool)

-- Lemmas on `enc` for group keys.

group_does : (s : Site) (see : View) (m : ℕ) (slaves : List ℕ) (n bits : ℕ) → s.home m ≡ see.me → list_all (λ t. s.allowed m t) slaves ≡ true →
    n ≤ length (group see m slaves bits) →
    enc_group s see m slaves n bits ≡ makes see (hand_to m (take n (group see m slaves bits))) (Handed (group_bytes see (take n (group see m slaves bits))))
unfolding enc_group
group_does s see m slaves n bits home allowed enough =
    let entitled : is_entitled_group s see m slaves ≡ true = and_both (s.home m == see.me) (list_all (λ t. s.allowed m t) slaves) (ap (λ (u : ℕ). u == see.me) home ∙ eq_same see.me) allowed in
    when_entitled _ _ _ (is_entitled_group s see m slaves) (nat_lt (length (group see m slaves bits)) n) entitled (few n (length (group see m slaves bits)) enough)

pub enc_group_succeeds : (net : Network) (w : World) (v m : ℕ) (slaves : List ℕ) (n bits : ℕ) → Conserved net w → w.up v ≡ true →
    net.site.home m ≡ v → list_all (λ t. net.site.allowed m t) slaves ≡ true → 0 < length slaves → n ≤ length (group (view_of net w v) m slaves bits) →
    HasRoomAt w v (hand_to m (take n (group (view_of net w v) m slaves bits))) →
    IsAnswered w.durable.facts m (take n (group (view_of net w v) m slaves bits)) (handle net w v (EncGroup m slaves n bits) Ok).1
unfolding decide random_need group
enc_group_succeeds net w v m slaves n bits c up home allowed some enough room =
    let see : View = view_of net w v in
    let here : net.site.home m ≡ see.me = home ∙ sym (view_me net w v) in
    let ns : List Name = take n (group see m slaves bits) in
    answered w.durable.facts m (λ x. bytes_or_none (find (is_part_of x) see.facts)) ns (handle net w v (EncGroup m slaves n bits) Ok).1
    (handled net w v (EncGroup m slaves n bits) (hand_to m ns) (Handed (group_bytes see ns)) up refl
    (group_does net.site see m slaves n bits here allowed enough) (numbered_hands m ns) room)
    (λ x e.
    let both = (has_filter (λ y. is_unhanded_group see m slaves bits y && is_group_ready see y) (own_names see) x (has_take (group see m slaves bits) n x e)).1 in
    group_bytes_true net.site w.durable w.frames w.unclaimed c.now see (bare_view net w v) (view_sees net w v) m bits slaves x here some
    (and_left (is_unhanded_group see m slaves bits x) (is_group_ready see x) both))

-- Lemmas on `dec`, with which a slave asks for keys by name.

for_blind : (m t : ℕ) (n : Name) → IsBlind (is_for m t n)
for_blind m t n (Key name master slave route bytes) = refl
for_blind m t n (Chunk name stream index route bytes) = refl
for_blind m t n (Stored note about route) = refl
for_blind m t n (Open stream source peer size route) = refl
for_blind m t n (Joined note about route) = refl
for_blind m t n (Part name key master slave route bytes) = refl

no_fault : (see : View) (m t : ℕ) (before ns : List Name) → AllDiffer ns → ((n : Name) → has ns n ≡ true → has before n ≡ false) →
    ((n : Name) → has ns n ≡ true → is_some (for_slave see m t n) ≡ true) → ((n : Name) → has ns n ≡ true → was_handed see.handed n t ≡ false) →
    dec_fault see m t before ns ≡ None
no_fault see m t before [] differ apart known free = refl
no_fault see m t before (n ∷ ns) differ apart known free =
    let first : has (n ∷ ns) n ≡ true = or_left (name_eq n n) (has ns n) (name_eq_same n) in
    rw (known n first, apart n first, free n first)
    (no_fault see m t (before ++ n ∷ []) ns differ.1
    (λ x e. has-push before n x ∙ or_both (has before x) (name_eq n x) (apart x (or_right (name_eq n x) (has ns x) e)) (not_false (name_eq n x) (λ y.
    not_both (has ns x) e (ap (has ns) (sym (name_eq_from n x y)) ∙ differ.0))))
    (λ x e. known x (or_right (name_eq n x) (has ns x) e)) (λ x e. free x (or_right (name_eq n x) (has ns x) e)))

dec_does : (s : Site) (see : View) (m t : ℕ) (ns : List Name) → s.allowed m t ≡ true → s.home t ≡ see.me → dec_fault see m t [] ns ≡ None →
    dec s see t m ns ≡ makes see (hand_to t ns) (Handed (slave_bytes see m t ns))
unfolding dec
dec_does s see m t ns allowed home none =
    let entitled : is_entitled s see t m t ≡ true = and_both (s.allowed m t) (s.home t == see.me) allowed (ap (λ (u : ℕ). u == see.me) home ∙ eq_same see.me) in
    ap (λ (b : Bool). if not b then Refuses NotAllowed else decs see m t ns (dec_fault see m t [] ns)) entitled ∙ ap (decs see m t ns) none

pub dec_succeeds : (net : Network) (w : World) (v t m : ℕ) (ns : List Name) → IsNetwork net → Conserved net w → w.up v ≡ true →
    net.site.allowed m t ≡ true → net.site.home t ≡ v → AllDiffer ns → ((n : Name) → has ns n ≡ true → KnowsFor w.durable.facts (w.durable.known v) m t n) →
    ((n : Name) → has ns n ≡ true → was_handed w.durable.handed n t ≡ false) → HasRoomAt w v (hand_to t ns) →
    IsAnswered w.durable.facts t ns (handle net w v (Dec t m ns) Ok).1
unfolding decide random_need
dec_succeeds net w v t m ns good c up allowed home differ known free room =
    let see : View = view_of net w v in
    let bare : View = bare_view net w v in
    let sees = view_sees net w v in
    let here : net.site.home t ≡ see.me = home ∙ sym (view_me net w v) in
    let some : (n : Name) → has ns n ≡ true → is_some (for_slave see m t n) ≡ true = λ n e.
    let k = known n e in
    seen_some net.site w.durable see bare sees (is_for m t n) (for_blind m t n) k.fact k.there (ap (λ (u : ℕ). has (w.durable.known u) (name_of k.fact)) (view_me net w v) ∙ k.knows) k.is in
    let open' : (n : Name) → has ns n ≡ true → was_handed see.handed n t ≡ false = λ n e. handed_seen net.site w.durable see bare sees n t here ∙ free n e in
    let none = no_fault see m t [] ns differ (λ n e. refl) some open' in
    answered w.durable.facts t (λ n. bytes_or_none (for_slave see m t n)) ns (handle net w v (Dec t m ns) Ok).1
    (handled net w v (Dec t m ns) (hand_to t ns) (Handed (slave_bytes see m t ns)) up refl (dec_does net.site see m t ns allowed here none) (numbered_hands t ns) room)
    (λ n e. slave_bytes_true net.site w.durable w.frames w.unclaimed c.now see bare sees good.site m t n allowed here (open' n e) (some n e))
