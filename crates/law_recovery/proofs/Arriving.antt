-- Blocks of bytes and frames that come to a manager: its view afterwards is what the effect makes of the view before.
use Rattle.std.proofs.Common.{◌≡◌, ℕ, ◌<◌, Bool, true, false, cond, not, ◌&&◌, ◌||◌, List, [], ◌∷◌, refl, subst, Option, Some, None, inl, inr, map}
use Rattle.std.specs.Prelude.{◌==◌, if◌then◌else◌, filter, is_some, slice_get, reverse}
use Rattle.std.specs.List.{list_any, list_all}
use Rattle.qkd_base.specs.Name.{Name, name_eq, has}
use Rattle.qkd_base.specs.Route.{next_after}
use Rattle.qkd_base.specs.declared.lane.Lane.{Lane}
use Rattle.net_model.specs.declared.fact.Fact.{Fact}
use Rattle.net_model.specs.declared.fact.Fact.TheVariants.{Stored}
use Rattle.qkd_base.specs.declared.key_name.NameKind.TheVariants.{Note as NoteKind}
use Rattle.net_model.specs.declared.payload.Payload.{Payload}
use Rattle.net_model.specs.declared.payload.Payload.TheVariants.{Data, Ack}
use Rattle.net_model.specs.declared.event.Event.TheVariants.{Block}
use Rattle.net_model.specs.declared.record.Record.TheVariants.{Block as Block', Learned, Acked}
use Rattle.net_model.specs.declared.reply.Reply.TheVariants.{Took, LinkFull}
use Rattle.net_model.specs.Table.{name_of, route_of, is_secret, target}
use Rattle.net_model.specs.Item.{payload}
use Rattle.net_model.specs.OctetSequence.{block_at}
use Rattle.net_model.specs.Site.{Site, sender, receiver, is_incident, outgoing_lane}
use Rattle.net_model.specs.World.{Network, World, Allocation}
use Rattle.net_model.specs.Invariant.{Conserved}
use Rattle.net_model.specs.View.{View, port_of, blocks_of}
use Rattle.net_model.specs.Needed.{view_of, is_owed}
use Rattle.net_model.specs.Decision.{Refuses, Does, Effect, makes, knows, fresh_name}
use Rattle.net_model.specs.Decide.{decide}
use Rattle.net_model.specs.Relay.{is_some_of, owed, stored_note, receive_fact, receive_ack, receive}
use Rattle.net_model.specs.Handle.{is_numbered, commit, blocks_at}
use Rattle.net_model.specs.Fold.{view_after, view_record}
use Rattle.law_invariant.specs.May.{decided}
use Rattle.law_invariant.proofs.Decisions.{receive_may}
use Rattle.law_base.proofs.Base.{below_from, and_left, and_right, and_both, or_cases, or_left, or_right, by_test}
use Rattle.law_invariant.proofs.Receives.{receive_orders}
use Rattle.law_recovery.specs.Fitting.{AllFit}
use Rattle.law_recovery.proofs.Batches.{AllFitHere, here_fits}
use Rattle.law_recovery.proofs.Commits.{silent_goes}

-- Lemmas on blocks of bytes.

module _ (net : Network) (w : World) (v link : ℕ) (c : Conserved net w) (incident : is_incident net.site v link ≡ true) where
  abbrev number : ℕ
  number = blocks_at net w v link

  abbrev bytes : List ℕ
  bytes = block_at (net.device link) number

  Goes : Effect → Type 0
  Goes x = (octets : ℕ) → view_of net (commit net.site w v octets x) v ≡ view_after (view_of net w v) x

  taken_goes : (number == 1024) ≡ false → Goes (record { batch = Block' link number bytes ∷ []; volatile = (view_of net w v).volatile; orders = []; repeats = []; reply = Took number })
  unfolding Goes
  taken_goes not_full octets =
      let few : number < 1024 =
      below_from (w.durable.blocks (outgoing_lane net.site v link)) 1024 (c.few_blocks (outgoing_lane net.site v link)) not_full in
      silent_goes net w v octets (record { batch = Block' link number bytes ∷ []; volatile = (view_of net w v).volatile; orders = []; repeats = []; reply = Took number }) c
      ((incident, refl, few), tt) (refl, tt) refl

  pub block_goes : (number == 1024) ≡ false → (e : Effect) (octets : ℕ) → decided net w v (Block link number bytes) ≡ Does e →
      view_of net (commit net.site w v octets e) v ≡ view_after (view_of net w v) e
  unfolding decide Goes
  block_goes not_full e octets h =
      elim (blocks_of (port_of (view_of net w v) link) == 1024) as (λ t. (if t then Refuses LinkFull else makes (view_of net w v) (Block' link number bytes ∷ []) (Took number)) ≡ Does e →
      view_of net (commit net.site w v octets e) v ≡ view_after (view_of net w v) e) [
        | true ↦ λ x. cc
        | false ↦ λ x.
            let taken : Effect = record { batch = Block' link number bytes ∷ []; volatile = (view_of net w v).volatile; orders = []; repeats = []; reply = Took number } in
            let is : taken ≡ e = cc in
            subst (λ (y : Effect). view_of net (commit net.site w v octets y) v ≡ view_after (view_of net w v) y) is (taken_goes not_full octets)
      ] h

-- Lemmas on frames.

some_of : (o : Option ℕ) (to : ℕ) → is_some_of o to ≡ true → is_some o ≡ true
some_of None to h = h
some_of (Some n) to h = refl

owed_owes : (v : View) (to : ℕ) (n : Name) (fs : List Fact) →
    has (map name_of (filter (λ f. is_some_of (next_after (route_of f) v.me) to && not (has v.acked (name_of f))) fs)) n ≡ true →
    list_any (λ f. name_eq (name_of f) n && is_owed v f) fs ≡ true
owed_owes v to n [] h = h
owed_owes v to n (f ∷ fs) h =
    let q : Fact → Bool = λ x. is_some_of (next_after (route_of x) v.me) to && not (has v.acked (name_of x)) in
    let here : Bool = name_eq (name_of f) n && is_owed v f in
    let later : Bool = list_any (λ x. name_eq (name_of x) n && is_owed v x) fs in
    elim (q f) as (λ t. q f ≡ t → has (map name_of (cond t (f ∷ filter q fs) (filter q fs))) n ≡ true → (here || later) ≡ true) [
      | true ↦ λ e k. elim (or_cases (name_eq (name_of f) n) (has (map name_of (filter q fs)) n) k) [
        | inl is ↦ or_left here later (and_both (name_eq (name_of f) n) (is_owed v f) is
            (and_both (is_some (next_after (route_of f) v.me)) (not (has v.acked (name_of f)))
            (some_of (next_after (route_of f) v.me) to (and_left (is_some_of (next_after (route_of f) v.me) to) (not (has v.acked (name_of f))) e))
            (and_right (is_some_of (next_after (route_of f) v.me) to) (not (has v.acked (name_of f))) e)))
        | inr more ↦ or_right here later (owed_owes v to n fs more)
      ]
      | false ↦ λ e k. or_right here later (owed_owes v to n fs k)
    ] refl h

note_fits : (v a : View) (f : Fact) → AllFitHere a (stored_note v f)
note_fits v a f =
    by_test (AllFitHere a) (is_secret f && (target f == v.me)) (Learned (Stored (fresh_name v NoteKind 0) (name_of f) (reverse (route_of f))) ∷ []) [] (λ e. (tt, tt)) (λ e. tt)

fact_fits : (v : View) (l : Lane) (offset : ℕ) (f : Fact) → AllFitHere v (receive_fact v l offset f).batch
unfolding receive_fact
fact_fits v l offset f =
    by_test (AllFitHere v) (not (knows v (name_of f))) (Learned f ∷ stored_note v f) [] (λ e. (tt, note_fits v (view_record (Learned f) v) f)) (λ e. tt)

ack_fits : (v : View) (l : Lane) (from : ℕ) (n : Name) → AllFitHere v (receive_ack v l from n).batch
unfolding receive_ack owed
ack_fits v l from n =
    by_test (AllFitHere v) (has (owed v from) n) (Acked n ∷ []) [] (λ e. (owed_owes v from n v.facts e, tt)) (λ e. tt)

received_fits : (site : Site) (v : View) (l : Lane) (offset : ℕ) (p : Payload) → AllFitHere v (receive site v l offset p).batch
received_fits site v l offset (Data f) = fact_fits v l offset f
received_fits site v l offset (Ack n) = ack_fits v l (sender site l) n

pub receive_goes : (net : Network) (w : World) (l : Lane) (j offset octets : ℕ) (a : Allocation) (p : Payload) → Conserved net w → slice_get (w.frames l) j ≡ Some a →
    payload w.durable.facts a.item ≡ Some p → list_all is_numbered (receive net.site (view_of net w (receiver net.site l)) l offset p).batch ≡ true →
    view_of net (commit net.site w (receiver net.site l) octets (receive net.site (view_of net w (receiver net.site l)) l offset p)) (receiver net.site l) ≡
    view_after (view_of net w (receiver net.site l)) (receive net.site (view_of net w (receiver net.site l)) l offset p)
receive_goes net w l j offset octets a p c frame item numbered =
    let v : ℕ = receiver net.site l in
    let see : View = view_of net w v in
    silent_goes net w v octets (receive net.site see l offset p) c (receive_may net w l j offset a p c frame item numbered)
    (here_fits net (receive net.site see l offset p).batch see (received_fits net.site see l offset p)) (receive_orders net.site see l offset p)

pub receiving_fits : (net : Network) (v : View) (l : Lane) (offset : ℕ) (p : Payload) → AllFit net v (receive net.site v l offset p).batch
receiving_fits net v l offset p = here_fits net (receive net.site v l offset p).batch v (received_fits net.site v l offset p)
