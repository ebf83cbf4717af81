-- Events asked of a manager: its view afterwards is what the effect makes of its view before.
use Rattle.std.proofs.Common.{◌≡◌, ℕ, ◌<◌, true, false, List, [], refl, subst}
use Rattle.std.specs.List.{list_all}
use Rattle.net_model.specs.declared.event.Event.{Event}
use Rattle.net_model.specs.declared.event.Event.TheVariants.{Block, Fill, Feed, Plan, Heard, Enc, Dec, Status, Open, Join, Get, Close, Show, Ledger, FillGroup, EncGroup, Note}
use Rattle.net_model.specs.OctetSequence.{octets_from}
use Rattle.net_model.specs.World.{Network, World}
use Rattle.net_model.specs.Invariant.{Conserved}
use Rattle.net_model.specs.Decision.{Does, Effect}
use Rattle.net_model.specs.Decide.{decide, random_need}
use Rattle.net_model.specs.Step.{is_asked}
use Rattle.net_model.specs.Events.{is_valid_event}
use Rattle.net_model.specs.Premises.{IsNetwork}
use Rattle.net_model.specs.View.{View}
use Rattle.net_model.specs.Needed.{view_of}
use Rattle.net_model.specs.Handle.{is_numbered, commit}
use Rattle.net_model.specs.Fold.{view_after}
use Rattle.law_base.proofs.Seen.{bare_view, view_sees}
use Rattle.law_invariant.specs.May.{is_plan, MayMake, MayDecide, decided}
use Rattle.law_invariant.proofs.Decisions.{event_may}
use Rattle.law_recovery.specs.Fitting.{AllFit}
use Rattle.law_recovery.proofs.Batches.{here_fits}
use Rattle.law_recovery.proofs.Commits.{silent_goes}
use Rattle.law_recovery.proofs.Decided.{DecisionFits, fill_fits, enc_fits, dec_fits, status_fits, open_fits, join_fits, get_fits, feed_fits, fill_group_fits, enc_group_fits}
use Rattle.law_recovery.proofs.Closing.{close_fits}
use Rattle.law_recovery.proofs.Planned.{planned_fits, planned_goes}
use Rattle.net_model.specs.declared.placing.Placing.{Placing}
use Rattle.net_model.specs.declared.reply.Reply.TheVariants.{Noted}
use Rattle.net_model.specs.Window.{complete}

module _ (net : Network) (w : World) (v : ℕ) (good : IsNetwork net) (c : Conserved net w) where
  abbrev see : View
  see = view_of net w v

  asked_fits : (random : List ℕ) (event : Event) → is_asked event ≡ true → is_plan event ≡ false → DecisionFits see (decide net.site net.sealing w.link_up see random event)
  unfolding decide
  asked_fits random (Fill m t bits count) asked other = fill_fits net.site w.link_up see m t bits count random
  asked_fits random (Feed stream count) asked other = feed_fits net.site w.link_up see stream count random
  asked_fits random (Enc m t n bits) asked other = enc_fits net.site see m t n bits
  asked_fits random (Dec t m names) asked other = dec_fits net.site see t m names
  asked_fits random (Status m t) asked other = status_fits net.site see m t
  asked_fits random (Open source peer bits) asked other = open_fits net.site w.link_up see source peer bits
  asked_fits random (Join caller from stream bits) asked other = join_fits net.site see caller from stream bits
  asked_fits random (Get caller stream index) asked other = get_fits net.site see caller stream index
  asked_fits random (Close caller stream) asked other =
      close_fits net.site w.durable c.now.table see (bare_view net w v) (view_sees net w v) good.site caller stream
  asked_fits random (Show name) asked other = tt
  asked_fits random (Ledger lane) asked other = tt
  asked_fits random (FillGroup m slaves bits count) asked other = fill_group_fits net.site w.link_up see m slaves bits count random
  asked_fits random (EncGroup m slaves n bits) asked other = enc_group_fits net.site see m slaves n bits
  asked_fits random Plan asked other = cc
  asked_fits random (Block link number bytes) asked other = cc
  asked_fits random (Heard lane bytes) asked other = cc
  asked_fits random (Note placings) asked other = cc

  pub asked_goes : v < net.site.nodes → (event : Event) (e : Effect) (octets : ℕ) → is_asked event ≡ true → is_plan event ≡ false → is_valid_event net.site v event ≡ true →
      decided net w v event ≡ Does e → list_all is_numbered e.batch ≡ true → view_of net (commit net.site w v octets e) v ≡ view_after (view_of net w v) e
  asked_goes here event e octets asked other valid is numbered =
      let may : MayMake net w v e = subst (MayDecide net w v) is (event_may net w v event good c here asked other valid) in
      let fits = subst (DecisionFits see) is
      (asked_fits (octets_from (net.entropy v).octet (w.drawn v) (random_need (view_of net w v) event)) event asked other) in
      silent_goes net w v octets e c (may.batch numbered) (here_fits net e.batch see fits) may.orders

  -- Lemmas on events, plans included.
  pub event_goes : v < net.site.nodes → (event : Event) (e : Effect) (octets : ℕ) → is_asked event ≡ true → is_valid_event net.site v event ≡ true →
      decided net w v event ≡ Does e → list_all is_numbered e.batch ≡ true → view_of net (commit net.site w v octets e) v ≡ view_after (view_of net w v) e
  event_goes here Plan e octets asked valid is numbered = planned_goes net w v c octets e is
  event_goes here event e octets asked valid is numbered = asked_goes here event e octets asked refl valid is numbered

  pub event_fits : (event : Event) (e : Effect) → is_asked event ≡ true → decided net w v event ≡ Does e → AllFit net see e.batch
  event_fits Plan e asked is = planned_fits net w v c e is
  event_fits event e asked is =
      here_fits net e.batch see
      (subst (DecisionFits see) is (asked_fits (octets_from (net.entropy v).octet (w.drawn v) (random_need (view_of net w v) event)) event asked refl))

  -- Lemmas on noting what became of frames.
  pub note_goes : (placings : List Placing) (e : Effect) (octets : ℕ) → decided net w v (Note placings) ≡ Does e →
      view_of net (commit net.site w v octets e) v ≡ view_after (view_of net w v) e
  unfolding decide
  note_goes placings e octets h =
      let noted : Effect = record { batch = []; volatile = complete see.acked see.volatile placings; orders = []; repeats = []; reply = Noted } in
      let is : noted ≡ e = cc in
      subst (λ (x : Effect). view_of net (commit net.site w v octets x) v ≡ view_after (view_of net w v) x) is (silent_goes net w v octets noted c tt tt refl)
