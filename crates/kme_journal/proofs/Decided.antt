-- Decisions with other random octets.
use Rattle.std.proofs.Common.{◌≡◌, ℕ, zero, suc, ◌+◌, ◌*◌, ◌/◌, ◌<◌, ◌≤◌, Bool, true, false, not, List, [], ◌∷◌, length, refl, sym, ap, subst, ◌∙◌, arith}
use Rattle.std.specs.Prelude.{nat_lt, Option, Some, None, Ok, Err, if◌then◌else◌}
use Rattle.qkd_base.specs.Name.{Name}
use Rattle.net_model.specs.declared.event.Event.{Event}
use Rattle.net_model.specs.declared.event.Event.TheVariants.{Block, Fill, Feed, Plan, Heard, Enc, Dec, Status, Open, Join, Get, Close, Show, Ledger, FillGroup, EncGroup, Note}
use Rattle.net_model.specs.declared.fact.Fact.{Fact}
use Rattle.net_model.specs.declared.fact.Fact.TheVariants as facts
use Rattle.net_model.specs.declared.placing.Placing.{Placing}
use Rattle.net_model.specs.declared.reply.Reply.{Reply}
use Rattle.net_model.specs.declared.record.Record.{Record}
use Rattle.net_model.specs.declared.reply.Reply.TheVariants.{Memory, NotAllowed, PoolFull, UnknownStream}
use Rattle.net_model.specs.Site.{Site}
use Rattle.net_model.specs.Sealing.{Sealing}
use Rattle.net_model.specs.View.{View}
use Rattle.net_model.specs.Table.{fact_at}
use Rattle.net_model.specs.Decision.{Decision, Refuses, Does}
use Rattle.net_model.specs.Pools.{fill, filled, unhanded, is_entitled}
use Rattle.net_model.specs.Groups.{fill_group, filled_group, is_entitled_group, routes_to, unhanded_group}
use Rattle.net_model.specs.Streams.{feed, fed, fed_stream, waiting, chunk_size, has_end}
use Rattle.net_model.specs.Routes.{route}
use Rattle.net_model.specs.Decide.{decide, random_need}
use Rattle.kme_base.specs.Random.{with_random, decision_over}
use Rattle.kme_base.specs.Steps.{IsStep}
use Rattle.kme_base.specs.declared.step.Step.{Step}
use Rattle.kme_journal.proofs.Drawn.{drawn_nothing}

-- both decisions refuse with the same reply, or neither refuses
abbrev pub Alike : Decision → Decision → Type 0
Alike (Refuses a) (Refuses b) = a ≡ b
Alike (Does a) (Does b) = Unit {0}
Alike (Refuses a) (Does b) = ⊥
Alike (Does a) (Refuses b) = ⊥

same : (d : Decision) → Alike d d
same (Refuses r) = refl
same (Does e) = tt

both : (t : Bool) (r : Reply) (a b : Decision) → Alike a b → Alike (if t then Refuses r else a) (if t then Refuses r else b)
both true r a b h = refl
both false r a b h = h

filled_alike : (v : View) (m s bits count : ℕ) (a b : List ℕ) (o : Option (List ℕ)) → Alike (filled v m s bits count a o) (filled v m s bits count b o)
filled_alike v m s bits count a b None = refl
filled_alike v m s bits count a b (Some nodes) = both (nat_lt 4096 (unhanded v m s bits + count)) PoolFull _ _ tt

fill_alike : (site : Site) (up : ℕ → Bool) (v : View) (m s bits count : ℕ) (a b : List ℕ) → Alike (fill site up v m s bits count a) (fill site up v m s bits count b)
unfolding fill
fill_alike site up v m s bits count a b =
    both (not (is_entitled site v m m s)) NotAllowed _ _ (filled_alike v m s bits count a b (route site up v.me (site.home s)))

group_alike : (v : View) (m : ℕ) (slaves : List ℕ) (bits count : ℕ) (a b : List ℕ) (o : Option (List (ℕ × List ℕ))) → Alike (filled_group v m slaves bits count a o) (filled_group v m slaves bits count b o)
group_alike v m slaves bits count a b None = refl
group_alike v m slaves bits count a b (Some routes) = both (nat_lt 4096 (unhanded_group v m slaves bits + count)) PoolFull _ _ tt

fill_group_alike : (site : Site) (up : ℕ → Bool) (v : View) (m : ℕ) (slaves : List ℕ) (bits count : ℕ) (a b : List ℕ) →
    Alike (fill_group site up v m slaves bits count a) (fill_group site up v m slaves bits count b)
unfolding fill_group
fill_group_alike site up v m slaves bits count a b =
    both (not (is_entitled_group site v m slaves)) NotAllowed _ _ (group_alike v m slaves bits count a b (routes_to site up v.me slaves))

fed_alike : (v : View) (stream : Name) (source size count : ℕ) (a b : List ℕ) (o : Option (List ℕ)) → Alike (fed v stream source size count a o) (fed v stream source size count b o)
fed_alike v stream source size count a b None = refl
fed_alike v stream source size count a b (Some nodes) = both (nat_lt 4096 (waiting v stream source + count)) PoolFull _ _ tt

stream_alike : (site : Site) (up : ℕ → Bool) (v : View) (count : ℕ) (a b : List ℕ) (o : Option Fact) → Alike (fed_stream site up v count a o) (fed_stream site up v count b o)
stream_alike site up v count a b (Some (facts.Open stream source peer size nodes)) =
    elim (has_end site v stream source) as (λ t. Alike (if t then fed v stream source size count a (route site up v.me (site.home peer)) else Refuses UnknownStream) (if t then fed v stream source size count b (route site up v.me (site.home peer)) else Refuses UnknownStream)) [
      | true ↦ fed_alike v stream source size count a b (route site up v.me (site.home peer))
      | false ↦ refl
    ]
stream_alike site up v count a b (Some (facts.Key name master slave nodes bytes)) = refl
stream_alike site up v count a b (Some (facts.Chunk name stream index nodes bytes)) = refl
stream_alike site up v count a b (Some (facts.Stored note about nodes)) = refl
stream_alike site up v count a b (Some (facts.Joined note about nodes)) = refl
stream_alike site up v count a b (Some (facts.Part name key master slave nodes bytes)) = refl
stream_alike site up v count a b None = refl

feed_alike : (site : Site) (up : ℕ → Bool) (v : View) (stream : Name) (count : ℕ) (a b : List ℕ) → Alike (feed site up v stream count a) (feed site up v stream count b)
unfolding feed
feed_alike site up v stream count a b = stream_alike site up v count a b (fact_at v.facts stream)

-- whether an event is refused doesn't depend on the random octets
pub alike : (site : Site) (frames : Sealing) (up : ℕ → Bool) (v : View) (a b : List ℕ) (event : Event) → Alike (decide site frames up v a event) (decide site frames up v b event)
unfolding decide
alike site frames up v a b (Fill m s bits count) = fill_alike site up v m s bits count a b
alike site frames up v a b (FillGroup m slaves bits count) = fill_group_alike site up v m slaves bits count a b
alike site frames up v a b (Feed stream count) = feed_alike site up v stream count a b
alike site frames up v a b (Block link number bytes) = same (decide site frames up v a (Block link number bytes))
alike site frames up v a b Plan = tt
alike site frames up v a b (Heard lane bytes) = same (decide site frames up v a (Heard lane bytes))
alike site frames up v a b (Enc m s n bits) = same (decide site frames up v a (Enc m s n bits))
alike site frames up v a b (Dec s m names) = same (decide site frames up v a (Dec s m names))
alike site frames up v a b (Status m s) = same (decide site frames up v a (Status m s))
alike site frames up v a b (Open source peer bits) = same (decide site frames up v a (Open source peer bits))
alike site frames up v a b (Join caller other stream bits) = same (decide site frames up v a (Join caller other stream bits))
alike site frames up v a b (Get caller stream index) = same (decide site frames up v a (Get caller stream index))
alike site frames up v a b (Close caller stream) = same (decide site frames up v a (Close caller stream))
alike site frames up v a b (Show name) = tt
alike site frames up v a b (Ledger lane) = tt
alike site frames up v a b (EncGroup m slaves n bits) = same (decide site frames up v a (EncGroup m slaves n bits))
alike site frames up v a b (Note placings) = tt

refusal_alike : (v : View) (placings : List Placing) (a b : Decision) (reply : Reply) → Alike a b → IsStep v placings a (Err reply) → IsStep v placings b (Err reply)
refusal_alike v placings (Refuses r) (Refuses q) reply h is = is ∙ h
refusal_alike v placings (Does e) (Does f) reply h is = is
refusal_alike v placings (Refuses r) (Does f) reply h is = absurd h
refusal_alike v placings (Does e) (Refuses q) reply h is = absurd h

memory_alike : (v : View) (placings : List Placing) (a b : Decision) (s : Step) → Alike a b → IsStep v placings a (Ok s) → IsStep v placings b (Err Memory)
memory_alike v placings (Refuses r) b s h is = absurd is
memory_alike v placings (Does e) (Does f) s h is = refl
memory_alike v placings (Does e) (Refuses q) s h is = absurd h

pub refused_alike : (site : Site) (frames : Sealing) (up : ℕ → Bool) (v : View) (placings : List Placing) (a b : List ℕ) (event : Event) (reply : Reply) →
    IsStep v placings (decide site frames up v a event) (Err reply) → IsStep v placings (decide site frames up v b event) (Err reply)
refused_alike site frames up v placings a b event reply is = refusal_alike v placings _ _ reply (alike site frames up v a b event) is

pub wanted_alike : (site : Site) (frames : Sealing) (up : ℕ → Bool) (v : View) (placings : List Placing) (a b : List ℕ) (event : Event) (s : Step) →
    IsStep v placings (decide site frames up v a event) (Ok s) → IsStep v placings (decide site frames up v b event) (Err Memory)
wanted_alike site frames up v placings a b event s is = memory_alike v placings _ _ s (alike site frames up v a b event) is

-- the three kinds of events that draw octets
pub record AreOver : Type 0 where
  pub fills : (site : Site) (up : ℕ → Bool) (v : View) (master slave bits count : ℕ) (zeros random : List ℕ) → bits / 8 * count ≤ length zeros → bits / 8 * count ≤ length random →
      decision_over random (fill site up v master slave bits count zeros) ≡ fill site up v master slave bits count random
  pub groups : (site : Site) (up : ℕ → Bool) (v : View) (master : ℕ) (slaves : List ℕ) (bits count : ℕ) (zeros random : List ℕ) → bits / 8 * count ≤ length zeros → bits / 8 * count ≤ length random →
      decision_over random (fill_group site up v master slaves bits count zeros) ≡ fill_group site up v master slaves bits count random
  pub feeds : (site : Site) (up : ℕ → Bool) (v : View) (stream : Name) (count : ℕ) (zeros random : List ℕ) → chunk_size (fact_at v.facts stream) * count ≤ length zeros →
      chunk_size (fact_at v.facts stream) * count ≤ length random → decision_over random (feed site up v stream count zeros) ≡ feed site up v stream count random

-- a decision made with some octets becomes the one made with others if these are put in their place
decision_drawn : AreOver → (site : Site) (frames : Sealing) (up : ℕ → Bool) (v : View) (zeros random : List ℕ) (event : Event) → 0 < random_need v event →
    random_need v event ≤ length zeros → random_need v event ≤ length random → decision_over random (decide site frames up v zeros event) ≡ decide site frames up v random event
unfolding decide random_need
decision_drawn laws site frames up v zeros random (Fill m s bits count) some a b = laws.fills site up v m s bits count zeros random a b
decision_drawn laws site frames up v zeros random (FillGroup m slaves bits count) some a b = laws.groups site up v m slaves bits count zeros random a b
decision_drawn laws site frames up v zeros random (Feed stream count) some a b = laws.feeds site up v stream count zeros random a b
decision_drawn laws site frames up v zeros random (Block link number bytes) some a b = absurd (omega (arith, some))
decision_drawn laws site frames up v zeros random Plan some a b = absurd (omega (arith, some))
decision_drawn laws site frames up v zeros random (Heard lane bytes) some a b = absurd (omega (arith, some))
decision_drawn laws site frames up v zeros random (Enc m s n bits) some a b = absurd (omega (arith, some))
decision_drawn laws site frames up v zeros random (Dec s m names) some a b = absurd (omega (arith, some))
decision_drawn laws site frames up v zeros random (Status m s) some a b = absurd (omega (arith, some))
decision_drawn laws site frames up v zeros random (Open source peer bits) some a b = absurd (omega (arith, some))
decision_drawn laws site frames up v zeros random (Join caller other stream bits) some a b = absurd (omega (arith, some))
decision_drawn laws site frames up v zeros random (Get caller stream index) some a b = absurd (omega (arith, some))
decision_drawn laws site frames up v zeros random (Close caller stream) some a b = absurd (omega (arith, some))
decision_drawn laws site frames up v zeros random (Show name) some a b = absurd (omega (arith, some))
decision_drawn laws site frames up v zeros random (Ledger lane) some a b = absurd (omega (arith, some))
decision_drawn laws site frames up v zeros random (EncGroup m slaves n bits) some a b = absurd (omega (arith, some))
decision_drawn laws site frames up v zeros random (Note placings) some a b = absurd (omega (arith, some))

step_over : (v : View) (placings : List Placing) (random : List ℕ) (d : Decision) (s : Step) → IsStep v placings d (Ok s) →
    IsStep v placings (decision_over random d) (Ok (record s { batch = with_random random s.batch }))
step_over v placings random (Refuses r) s h = absurd h
step_over v placings random (Does e) s h = record { batch = ap (with_random random) h.batch; reply = h.reply; orders = h.orders; volatile = h.volatile }

nothing_left : (xs : List ℕ) → length xs ≡ 0 → xs ≡ []
nothing_left [] h = refl
nothing_left (x ∷ xs) h = cc h

-- a step made with some octets becomes the one made with others if as many are put in their place
pub step_drawn : AreOver → (site : Site) (frames : Sealing) (up : ℕ → Bool) (v : View) (placings : List Placing) (zeros random : List ℕ) (event : Event) (s : Step) →
    length zeros ≡ random_need v event → length random ≡ random_need v event →
    IsStep v placings (decide site frames up v zeros event) (Ok s) → IsStep v placings (decide site frames up v random event) (Ok (record s { batch = with_random random s.batch }))
step_drawn laws site frames up v placings zeros random event s z r is =
    elim (random_need v event) as (λ n. random_need v event ≡ n → IsStep v placings (decide site frames up v random event) (Ok (record s { batch = with_random random s.batch }))) [
      | zero ↦ λ none.
          let no_zeros : zeros ≡ [] = nothing_left zeros (z ∙ none) in
          let no_random : random ≡ [] = nothing_left random (r ∙ none) in
          let there : IsStep v placings (decide site frames up v [] event) (Ok s) = subst (λ (xs : List ℕ). IsStep v placings (decide site frames up v xs event) (Ok s)) no_zeros is in
          let with_nothing : IsStep v placings (decide site frames up v [] event) (Ok (record s { batch = with_random [] s.batch })) =
          subst (λ (rs : List Record). IsStep v placings (decide site frames up v [] event) (Ok (record s { batch = rs }))) (sym (drawn_nothing s.batch)) there in
          subst (λ (xs : List ℕ). IsStep v placings (decide site frames up v xs event) (Ok (record s { batch = with_random xs s.batch }))) (sym no_random) with_nothing
      | suc k ↦ λ some.
          let over : decision_over random (decide site frames up v zeros event) ≡ decide site frames up v random event =
          decision_drawn laws site frames up v zeros random event (omega (arith, some)) (omega (arith, z)) (omega (arith, r)) in
          subst (λ (d : Decision). IsStep v placings d (Ok (record s { batch = with_random random s.batch }))) over (step_over v placings random (decide site frames up v zeros event) s is)
    ] refl
