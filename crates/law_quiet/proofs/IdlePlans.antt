-- A manager that is idle puts nothing on any lane whose link is up, and its plan changes the ages of its window alone.
use Rattle.std.proofs.Common.{◌≡◌, ℕ, ◌+◌, true, false, not, ◌&&◌, ◌||◌, List, [], ◌∷◌, ◌++◌, map, refl, sym, ◌∙◌, ap, subst, append-nil, inl, inr}
use Rattle.std.specs.Prelude.{nat_lt, filter, if◌then◌else◌}
use Rattle.std.specs.List.{list_any, list_all, flat_map, AllByRecursion}
use Rattle.qkd_base.specs.Family.{number_set}
use Rattle.qkd_base.specs.Lane.{lane_eq}
use Rattle.qkd_base.specs.declared.lane.Lane.{Lane}
use Rattle.net_model.specs.declared.event.Event.TheVariants.{Plan}
use Rattle.net_model.specs.declared.fact.Fact.{Fact}
use Rattle.net_model.specs.declared.order.Order.{Order}
use Rattle.net_model.specs.declared.record.Record.{Record}
use Rattle.net_model.specs.declared.record.Record.TheVariants.{Lease}
use Rattle.net_model.specs.declared.repeat.Repeat.{Repeat}
use Rattle.net_model.specs.declared.reply.Reply.{Reply}
use Rattle.net_model.specs.declared.reply.Reply.TheVariants.{Planned, Memory, JournalFull, NoRandom, Stopped, Down}
use Rattle.net_model.specs.declared.short_of.ShortOf.{ShortOf}
use Rattle.net_model.specs.Item.{need}
use Rattle.net_model.specs.Journal.{journal_limit, added_len, is_nil}
use Rattle.net_model.specs.OctetSequence.{has_octets}
use Rattle.net_model.specs.Premises.{IsNetwork}
use Rattle.net_model.specs.Events.{is_lane}
use Rattle.net_model.specs.Site.{Site, sender, outgoing_lanes}
use Rattle.net_model.specs.World.{Network, World, Durable, Transmission, planned}
use Rattle.net_model.specs.View.{View, Port, received_of}
use Rattle.net_model.specs.Needed.{masked, view_of, port_at}
use Rattle.net_model.specs.Records.{apply_record, replay}
use Rattle.net_model.specs.Window.{age, repeats_on, repeat_of}
use Rattle.net_model.specs.Decision.{Effect}
use Rattle.net_model.specs.Decide.{decide, random_need}
use Rattle.net_model.specs.Plan.{wanted_on, that_fit, short_on, orders_on, end_on, raise, leases_on, spelled_orders, plan}
use Rattle.net_model.specs.Tick.{ordered}
use Rattle.net_model.specs.Action.{Ok, Ask, Outcome, Replies, is_no_memory, is_entropy_fault, is_io_fault}
use Rattle.net_model.specs.Handle.{is_numbered, commit, stopped, perform, handle}
use Rattle.net_model.specs.Step.{step}
use Rattle.law_base.proofs.Base.{by_test, lane_eq_from, or_cases}
use Rattle.law_base.proofs.Lists.{all_both}
use Rattle.law_invariant.proofs.Outgoing.{of_ports}
use Rattle.law_invariant.proofs.Seen.{seen}
use Rattle.law_locality.proofs.Spelling.{orders_at, replied_at, lane_replied}
use Rattle.law_quiet.specs.Still.{PutsNothing}
use Rattle.law_quiet.proofs.LeavingLanes.{is_listed_up}
use Rattle.law_quiet.proofs.Standing.{none_joined, none_mapped}

-- The two states have the same facts, and nodes know the same of them.
pub record IsSameTable (a b : Durable) : Type 0 where
  pub facts : b.facts ≡ a.facts
  pub known : b.known ≡ a.known
  pub acked : b.acked ≡ a.acked

-- Leases leave the table alone.

abbrev pub IsLease : Record → Type 0
IsLease (Lease l end) = Unit {0}
IsLease _ = ⊥

one_lease : (s : Site) (v : ℕ) (r : Record) (d : Durable) → IsLease r → IsSameTable d (apply_record s v r d)
unfolding apply_record
one_lease s v (Lease l end) d h = record { facts = refl; known = refl; acked = refl }
one_lease s v _ d h = absurd h

leases_leave : (s : Site) (v : ℕ) (rs : List Record) (d : Durable) → AllByRecursion IsLease rs → IsSameTable d (replay s v rs d)
unfolding replay
leases_leave s v [] d h = record { facts = refl; known = refl; acked = refl }
leases_leave s v (r ∷ rs) d h =
    let one = one_lease s v r d h.0 in
    let rest = leases_leave s v rs (apply_record s v r d) h.1 in
    record { facts = rest.facts ∙ one.facts; known = rest.known ∙ one.known; acked = rest.acked ∙ one.acked }

pub only_leases : (s : Site) (see : View) (ps : List Port) → AllByRecursion IsLease (flat_map (leases_on s see) ps)
only_leases s see [] = tt
only_leases s see (p ∷ ps) =
    all_both IsLease (leases_on s see p) (flat_map (leases_on s see) ps)
    (by_test (AllByRecursion IsLease) (nat_lt p.lease (end_on s see p)) (Lease p.lane (raise (end_on s see p) (received_of p)) ∷ []) [] (λ e. (tt, tt)) (λ e. tt)) (only_leases s see ps)

-- What is made of several lanes is empty only if it is so of each.
none_of : {A : Type 0} (f : Lane → List A) (ls : List Lane) (l : Lane) → flat_map f ls ≡ [] → list_any (λ k. lane_eq k l) ls ≡ true → f l ≡ []
none_of f [] l h on = cc
none_of {A} f (k ∷ ks) l h on =
    let both = none_joined (f k) (flat_map f ks) h in
    elim (or_cases (lane_eq k l) _ on) [
      | inl is ↦ subst (λ (m : Lane). f m ≡ []) (lane_eq_from k l is) both.0
      | inr later ↦ none_of f ks l both.1 later
    ]

-- Where no order fits and no lane is short, nothing is wanted.
nothing_wanted : (facts : List Fact) (l : Lane) (got used : ℕ) (ts : List Transmission) → that_fit facts got used ts ≡ [] → short_on facts l got used ts ≡ [] → ts ≡ []
nothing_wanted facts l got used [] h k = refl
nothing_wanted facts l got used (t ∷ ts) h k =
    elim (nat_lt got (used + need facts t.item)) as (λ b. (if b then [] else t ∷ that_fit facts got (used + need facts t.item) ts) ≡ [] →
    (if b then record { lane = l; used = used; need = need facts t.item; received = got } ∷ [] else short_on facts l got (used + need facts t.item) ts) ≡ [] → t ∷ ts ≡ []) [
      | true ↦ λ a b. cc
      | false ↦ λ a b. cc
    ] h k

-- The reply isn't that of a plan.
abbrev IsOther : Reply → Type 0
IsOther (Planned orders repeats shorts) = ⊥
IsOther _ = Unit {0}

module _ (net : Network) (w : World) (v : ℕ) where
  abbrev pub effect : Effect
  effect = plan net.site w.link_up (view_of net w v)

  -- What an idle plan leaves.
  pub record IsPlanned (new : World) : Type 0 where
    pub table : IsSameTable w.durable new.durable
    pub up : new.up ≡ w.up
    pub links : new.link_up ≡ w.link_up
    pub volatile : new.volatile ≡ number_set w.volatile v effect.volatile
    pub said : effect.reply ≡ Planned [] [] []

  abbrev Goes : World × Outcome → Type 0
  Goes r = r.1 ≡ Replies (Planned [] [] []) → IsPlanned r.0

  goes_other : (x : World) (reply : Reply) → IsOther reply → Goes (x, Replies reply)
  goes_other x (Planned orders repeats shorts) other h = absurd other
  goes_other x _ other h = cc

  of_reply : (a : Reply) → Replies a ≡ Replies (Planned [] [] []) → a ≡ Planned [] [] []
  of_reply a h = cc

  same_table : IsSameTable w.durable (replay net.site v effect.batch w.durable)
  unfolding plan
  same_table = leases_leave net.site v effect.batch w.durable (only_leases net.site (view_of net w v) (filter (λ (p : Port). w.link_up p.lane.link) (view_of net w v).ports))

  committed : (octets : ℕ) → Goes (commit net.site w v octets effect, Replies effect.reply)
  unfolding commit
  committed octets h = record { table = same_table; up = refl; links = refl; volatile = refl; said = of_reply effect.reply h }

  performed : (octets : ℕ) → Goes (perform net w v octets Ok effect)
  unfolding perform
  performed octets =
      by_test Goes (is_no_memory Ok || not (list_all is_numbered effect.batch)) _ _ (λ t. goes_other w Memory tt)
      (λ t. by_test Goes (nat_lt journal_limit ((w.journal v).length' + added_len (w.journal v).version effect.batch)) _ _ (λ t. goes_other w (JournalFull _ _) tt)
      (λ t. by_test Goes (nat_lt 0 octets && (not (has_octets (net.entropy v) (w.drawn v + octets)) || is_entropy_fault Ok)) _ _ (λ t. goes_other w NoRandom tt)
      (λ t. by_test Goes (is_io_fault Ok && not (is_nil effect.batch)) _ _ (λ t. goes_other (stopped w v octets effect) Stopped tt) (λ t. committed octets))))

  pub plan_leaves : Goes (step net w (Ask v Plan Ok))
  unfolding step handle decide random_need
  plan_leaves = by_test Goes (w.up v) _ _ (λ t. performed 0) (λ t. goes_other w Down tt)

  module _ (said : effect.reply ≡ Planned [] [] []) where
    abbrev lanes : List Lane
    lanes = filter (λ (l : Lane). w.link_up l.link) (outgoing_lanes net.site v)

    abbrev ports : List Port
    ports = filter (λ (p : Port). w.link_up p.lane.link) (map (port_at net w) (outgoing_lanes net.site v))

    abbrev see : View
    see = seen net w v

    orders_in : {a b : List Order} {r s : List Repeat} {x y : List ShortOf} → Planned a r x ≡ Planned b s y → a ≡ b
    orders_in h = cc

    repeats_in : {a b : List Order} {r s : List Repeat} {x y : List ShortOf} → Planned a r x ≡ Planned b s y → r ≡ s
    repeats_in h = cc

    shorts_in : {a b : List Order} {r s : List Repeat} {x y : List ShortOf} → Planned a r x ≡ Planned b s y → x ≡ y
    shorts_in h = cc

    no_reply : flat_map (λ (p : Port). spelled_orders see.facts p.planned (orders_on net.site see p)) ports ≡ []
    unfolding plan view_of masked
    no_reply = orders_in said

    no_again : map repeat_of (flat_map (λ (p : Port). repeats_on (map age (w.volatile v).window) p.lane) ports) ≡ []
    unfolding plan view_of masked
    no_again = repeats_in said

    no_short : flat_map (λ (p : Port). short_on see.facts p.lane (received_of p) p.planned (wanted_on net.site see p.lane)) ports ≡ []
    unfolding plan view_of masked
    no_short = shorts_in said

    replied_none : flat_map (replied_at net w v) lanes ≡ []
    replied_none = sym (of_ports net w w.link_up (λ (p : Port). spelled_orders see.facts p.planned (orders_on net.site see p)) (outgoing_lanes net.site v)) ∙ no_reply

    again_none : flat_map (repeats_on (map age (w.volatile v).window)) lanes ≡ []
    again_none =
        sym (of_ports net w w.link_up (λ (p : Port). repeats_on (map age (w.volatile v).window) p.lane) (outgoing_lanes net.site v)) ∙
        none_mapped repeat_of (flat_map (λ (p : Port). repeats_on (map age (w.volatile v).window) p.lane) ports) no_again

    abbrev short_at : Lane → List ShortOf
    short_at l = short_on see.facts l (received_of (port_at net w l)) (planned w l) (wanted_on net.site see l)

    short_none : flat_map short_at lanes ≡ []
    short_none =
        sym (of_ports net w w.link_up (λ (p : Port). short_on see.facts p.lane (received_of p) p.planned (wanted_on net.site see p.lane)) (outgoing_lanes net.site v)) ∙ no_short

    -- So on a lane that leaves the node, and whose link is up, nothing is due and nothing wanted.

    orders_none : (l : Lane) → replied_at net w v l ≡ [] → orders_at net w v l ≡ []
    orders_none l h = sym (lane_replied net w v l).ordered ∙ ap (map ordered) h

    wanted_none : (l : Lane) → orders_at net w v l ≡ [] → short_at l ≡ [] → wanted_on net.site see l ≡ []
    unfolding orders_on
    wanted_none l h k = nothing_wanted see.facts l (received_of (port_at net w l)) (planned w l) (wanted_on net.site see l) h k

    wanted_here : (l : Lane) → sender net.site l ≡ v → wanted_on net.site see l ≡ [] → wanted_on net.site (view_of net w (sender net.site l)) l ≡ []
    unfolding view_of masked
    wanted_here l from h = subst (λ (u : ℕ). wanted_on net.site (view_of net w u) l ≡ []) (sym from) h

    pub puts_nothing : IsNetwork net → (l : Lane) → is_lane net.site l ≡ true → sender net.site l ≡ v → w.link_up l.link ≡ true → PutsNothing net w l
    puts_nothing network l site from up =
        let on = is_listed_up net.site network.site v l site from w.link_up up in
        record {
          due = ap (λ (u : ℕ). repeats_on (map age (w.volatile u).window) l) from ∙ none_of (repeats_on (map age (w.volatile v).window)) lanes l again_none on;
          wanted = wanted_here l from (wanted_none l (orders_none l (none_of (replied_at net w v) lanes l replied_none on)) (none_of short_at lanes l short_none on));
        }

    all_none : (ls : List Lane) → flat_map (replied_at net w v) ls ≡ [] → flat_map (orders_at net w v) ls ≡ []
    all_none [] h = refl
    all_none (l ∷ ls) h =
        let both = none_joined (replied_at net w v l) (flat_map (replied_at net w v) ls) h in
        ap (λ (ts : List Transmission). ts ++ flat_map (orders_at net w v) ls) (orders_none l both.0) ∙ all_none ls both.1

    -- The plan awaits nothing new.
    pub awaits_same : effect.volatile.awaiting ≡ (w.volatile v).awaiting
    unfolding plan view_of masked
    awaits_same =
        ap (λ (ts : List Transmission). (w.volatile v).awaiting ++ ts) (of_ports net w w.link_up (orders_on net.site see) (outgoing_lanes net.site v) ∙ all_none lanes replied_none)
        ∙ append-nil (w.volatile v).awaiting
