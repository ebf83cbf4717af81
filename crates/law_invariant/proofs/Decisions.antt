-- Each event asked of a manager makes only permitted records.
use Rattle.std.proofs.Common.{◌≡◌, ℕ, ◌*◌, ◌/◌, ◌<◌, Bool, true, false, ◌&&◌, List, length, refl, sym, ◌∙◌, ap, subst, arith, Some}
use Rattle.std.specs.Prelude.{nat_le, slice_get}
use Rattle.std.specs.List.{list_all}
use Rattle.std.proofs.lemmas.Bool.Decides.{nat_tests}
use Rattle.qkd_base.specs.declared.lane.Lane.{Lane}
use Rattle.net_model.specs.declared.event.Event.{Event}
use Rattle.net_model.specs.declared.event.Event.TheVariants.{Block, Fill, Feed, Plan, Heard, Enc, Dec, Status, Open, Join, Get, Close, Show, Ledger, FillGroup, EncGroup, Note}
use Rattle.net_model.specs.declared.payload.Payload.{Payload}
use Rattle.net_model.specs.Table.{fact_at}
use Rattle.net_model.specs.Item.{payload}
use Rattle.net_model.specs.Site.{Site, sender, receiver}
use Rattle.net_model.specs.Sealing.{Sealing}
use Rattle.net_model.specs.OctetSequence.{octets_from}
use Rattle.net_model.specs.World.{Network, World, Durable, Allocation, Transmission}
use Rattle.net_model.specs.Knowledge.{MayCarry}
use Rattle.net_model.specs.Invariant.{Invariant, Conserved}
use Rattle.net_model.specs.Doubt.{MayReplay}
use Rattle.net_model.specs.Decision.{Decision, Refuses, Does}
use Rattle.net_model.specs.Show.{show, counted_of}
use Rattle.net_model.specs.Streams.{is_size, chunk_size}
use Rattle.net_model.specs.Events.{is_valid_event, is_count, is_rising, are_slaves}
use Rattle.net_model.specs.Decide.{decide, random_need}
use Rattle.net_model.specs.Relay.{receive}
use Rattle.net_model.specs.Step.{is_asked}
use Rattle.net_model.specs.Premises.{IsNetwork, IsSite}
use Rattle.net_model.specs.View.{View, port_of}
use Rattle.net_model.specs.Needed.{view_of}
use Rattle.net_model.specs.Handle.{is_numbered}
use Rattle.law_base.proofs.Base.{and_left, and_right}
use Rattle.law_base.proofs.Seen.{Sees, bare_view, view_sees, view_me, view_volatile}
use Rattle.law_invariant.specs.May.{is_plan, MayDecide, decided}
use Rattle.law_invariant.proofs.Supply.{Supply, supply}
use Rattle.law_invariant.specs.Only.{Only}
use Rattle.law_invariant.proofs.Only.{only_answers}
use Rattle.law_invariant.proofs.Fills.{fill_may}
use Rattle.law_invariant.proofs.Hands.{enc_may, dec_may, status_may}
use Rattle.law_invariant.proofs.Streams.{open_may, join_may, get_may, close_may}
use Rattle.law_invariant.proofs.Feeds.{feed_may}
use Rattle.law_invariant.proofs.Groups.{enc_group_may}
use Rattle.law_invariant.proofs.GroupFills.{fill_group_may}
use Rattle.law_invariant.proofs.Receives.{received_may}

pub slaves_are : (slaves : List ℕ) → are_slaves slaves ≡ true → (0 < length slaves) × (is_rising slaves ≡ true)
slaves_are slaves h =
    let prefix = and_left (nat_le 2 (length slaves) && nat_le (length slaves) 5) (is_rising slaves) h in
    let two = and_left (nat_le 2 (length slaves)) (nat_le (length slaves) 5) prefix in
    (some (length slaves) two, and_right (nat_le 2 (length slaves) && nat_le (length slaves) 5) (is_rising slaves) h)
  where
    some : (n : ℕ) → nat_le 2 n ≡ true → 0 < n
    some n h = grind (arith, nat_tests)

module _ (s : Site) (d : Durable) (frames : Lane → List Allocation) (unclaimed : Lane → List Transmission) (inv : Invariant s d frames unclaimed) (see bare : View)
    (h : Sees s d see bare) (site : IsSite s) (here : see.me < s.nodes) where
  enough : (octet : ℕ → ℕ) (place size count : ℕ) → Supply octet place size count (octets_from octet place (size * count))
  enough octet place size count = supply octet place size count (size * count) (omega arith)

  asked_may : (sealing : Sealing) (up : ℕ → Bool) (octet : ℕ → ℕ) (place : ℕ) (event : Event) → ((i : ℕ) → octet i < 256) → is_asked event ≡ true → is_plan event ≡ false →
      is_valid_event s see.me event ≡ true → Only s d see (decide s sealing up see (octets_from octet place (random_need see event)) event)
  unfolding decide random_need is_valid_event
  asked_may sealing up octet place (Fill m t bits count) small asked other valid =
      fill_may s d frames unclaimed inv see bare h site here up octet place m t bits count (octets_from octet place ((bits / 8) * count))
      (and_left (is_size bits) (is_count count) valid) small (enough octet place (bits / 8) count)
  asked_may sealing up octet place (Feed stream count) small asked other valid =
      feed_may s d frames unclaimed inv see bare h site here up octet place stream count (octets_from octet place (chunk_size (fact_at see.facts stream) * count)) small
      (enough octet place (chunk_size (fact_at see.facts stream)) count)
  asked_may sealing up octet place (Enc m t n bits) small asked other valid = enc_may s d see bare h m t n bits
  asked_may sealing up octet place (Dec t m names) small asked other valid = dec_may s d see bare h t m names
  asked_may sealing up octet place (Status m t) small asked other valid = status_may s d see bare h m t
  asked_may sealing up octet place (Open source peer bits) small asked other valid = open_may s d frames unclaimed inv see bare h site here up source peer bits
  asked_may sealing up octet place (Join caller from stream bits) small asked other valid = join_may s d frames unclaimed inv see bare h site here caller from stream bits
  asked_may sealing up octet place (Get caller stream index) small asked other valid = get_may s d frames unclaimed inv see bare h site here caller stream index
  asked_may sealing up octet place (Close caller stream) small asked other valid = close_may s d frames unclaimed inv see bare h site here caller stream
  asked_may sealing up octet place (Show name) small asked other valid = only_answers s d see (show see name)
  asked_may sealing up octet place (Ledger lane) small asked other valid = only_answers s d see (counted_of (port_of see lane.link))
  asked_may sealing up octet place (FillGroup m slaves bits count) small asked other valid =
      let prefix = and_left (are_slaves slaves && is_size bits) (is_count count) valid in
      let big = and_right (are_slaves slaves) (is_size bits) prefix in
      let slaves' = slaves_are slaves (and_left (are_slaves slaves) (is_size bits) prefix) in
      fill_group_may s d frames unclaimed inv see bare h site here up octet place m slaves bits count (octets_from octet place ((bits / 8) * count)) big slaves'.0 slaves'.1 small
      (enough octet place (bits / 8) count)
  asked_may sealing up octet place (EncGroup m slaves n bits) small asked other valid =
      let prefix = and_left (are_slaves slaves && is_count n) (is_size bits) valid in
      enc_group_may s d frames unclaimed inv see bare h m slaves n bits (slaves_are slaves (and_left (are_slaves slaves) (is_count n) prefix)).0
  asked_may sealing up octet place Plan small asked other valid = cc
  asked_may sealing up octet place (Block link number bytes) small asked other valid = cc
  asked_may sealing up octet place (Heard lane bytes) small asked other valid = cc
  asked_may sealing up octet place (Note placings) small asked other valid = cc

only_decides : (net : Network) (w : World) (v : ℕ) (decision : Decision) → Only net.site w.durable (view_of net w v) decision → MayDecide net w v decision
only_decides net w v (Refuses reply) h = tt
only_decides net w v (Does effect) h =
    record {
      volatile = h.volatile ∙ view_volatile net w v;
      orders = h.orders;
      repeats = h.repeats;
      batch = λ numbered. subst (λ (u : ℕ). MayReplay net.site w.durable u effect.batch) (view_me net w v) (h.batch numbered);
    }

pub event_may : (net : Network) (w : World) (v : ℕ) (event : Event) → IsNetwork net → Conserved net w → v < net.site.nodes → is_asked event ≡ true → is_plan event ≡ false →
    is_valid_event net.site v event ≡ true → MayDecide net w v (decided net w v event)
event_may net w v event good c here asked other valid =
    only_decides net w v (decided net w v event)
    (asked_may net.site w.durable w.frames w.unclaimed c.now (view_of net w v) (bare_view net w v) (view_sees net w v) good.site
    (subst (λ (u : ℕ). u < net.site.nodes) (sym (view_me net w v)) here) net.sealing w.link_up (net.entropy v).octet (w.drawn v) event (good.entropies v) asked other
    (ap (λ (u : ℕ). is_valid_event net.site u event) (view_me net w v) ∙ valid))

-- The payload of a lane's frame reaches the lane's receiver.
pub receive_may : (net : Network) (w : World) (l : Lane) (j offset : ℕ) (a : Allocation) (p : Payload) → Conserved net w → slice_get (w.frames l) j ≡ Some a →
    payload w.durable.facts a.item ≡ Some p → list_all is_numbered (receive net.site (view_of net w (receiver net.site l)) l offset p).batch ≡ true →
    MayReplay net.site w.durable (receiver net.site l) (receive net.site (view_of net w (receiver net.site l)) l offset p).batch
receive_may net w l j offset a p c frame e numbered =
    let v : ℕ = receiver net.site l in
    subst (λ (u : ℕ). MayReplay net.site w.durable u (receive net.site (view_of net w v) l offset p).batch) (view_me net w v)
    (received_may net.site w.durable w.frames w.unclaimed c.now (view_of net w v) (bare_view net w v) (view_sees net w v) l offset a.item p
    (subst (λ (u : ℕ). MayCarry w.durable.facts w.durable.known (sender net.site l) u a.item) (sym (view_me net w v)) ((c.now.carried l).framed j a frame)) e numbered)

pub plan_is : (event : Event) → is_plan event ≡ true → event ≡ Plan
plan_is Plan h = refl
plan_is _ h = cc
