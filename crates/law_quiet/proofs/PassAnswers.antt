-- A pass that isn't told as refused was heard.
use Rattle.std.proofs.Common.{◌≡◌, ℕ, zero, suc, ◌+◌, ◌<◌, true, not, ◌&&◌, ◌||◌, List, [], ◌∷◌, refl, ap, arith, Option, Some, None, length}
use Rattle.std.specs.Prelude.{nat_lt, slice_get, if◌then◌else◌}
use Rattle.std.specs.List.{list_all}
use Rattle.qkd_base.specs.declared.lane.Lane.{Lane}
use Rattle.net_model.specs.declared.payload.Payload.{Payload}
use Rattle.net_model.specs.declared.payload.Payload.TheVariants.{Data, Ack}
use Rattle.net_model.specs.declared.reply.Reply.TheVariants.{Memory, JournalFull, NoRandom, Stopped, Down, NoBits}
use Rattle.net_model.specs.Item.{Item, DataItem, AckItem, need, data_payload, payload}
use Rattle.net_model.specs.Table.{fact_at}
use Rattle.net_model.specs.Knowledge.{MayCarry}
use Rattle.net_model.specs.Site.{sender, receiver}
use Rattle.net_model.specs.OctetSequence.{has_octets}
use Rattle.net_model.specs.World.{Network, World, Allocation, received_there}
use Rattle.net_model.specs.Needed.{view_of}
use Rattle.net_model.specs.Journal.{journal_limit, added_len, is_nil}
use Rattle.net_model.specs.Decision.{Effect}
use Rattle.net_model.specs.Relay.{receive_fact, receive_ack, receive}
use Rattle.net_model.specs.Invariant.{Conserved}
use Rattle.net_model.specs.Action.{Environment, Deliver, Outcome, Replies, is_no_memory, is_entropy_fault, is_io_fault}
use Rattle.net_model.specs.Handle.{is_numbered, commit, stopped, perform}
use Rattle.net_model.specs.Frames.{receive_item, deliver_frame, deliver_number, deliver}
use Rattle.net_model.specs.Step.{step}
use Rattle.run_types.specs.declared.item.Item.TheVariants.{Passed}
use Rattle.run_model.specs.Outcomes.{frame_items}
use Rattle.law_base.proofs.Base.{by_test}
use Rattle.law_quiet.specs.Passes.{is_heard}
use Rattle.law_quiet.specs.Rested.{is_taken}

missing : (fs : List Allocation) (i : ℕ) → i < length fs → slice_get fs i ≡ None → ⊥
missing [] i less none = omega (arith, less)
missing (f ∷ fs) zero less none = cc
missing (f ∷ fs) (suc i) less none = missing fs i (omega (arith, less)) none

module _ (net : Network) (w : World) (c : Conserved net w) (l : Lane) (number : ℕ) where
  abbrev Hears : World × Outcome → Type 0
  Hears r = list_all is_taken (frame_items (Passed l number) r.1) ≡ true → is_heard r.1 ≡ true

  performed : (environment : Environment) (e : Effect) → is_heard (Replies e.reply) ≡ true → Hears (perform net w (receiver net.site l) 0 environment e)
  unfolding perform
  performed environment e replies =
      let v : ℕ = receiver net.site l in
      by_test Hears (is_no_memory environment || not (list_all is_numbered e.batch)) (w, Replies Memory) _ (λ t told. cc)
      (λ t. by_test Hears (nat_lt journal_limit ((w.journal v).length' + added_len (w.journal v).version e.batch)) (w, Replies (JournalFull (w.journal v).length' (added_len (w.journal v).version e.batch))) _ (λ t told. cc)
      (λ t. by_test Hears (nat_lt 0 0 && (not (has_octets (net.entropy v) (w.drawn v + 0)) || is_entropy_fault environment)) (w, Replies NoRandom)
      (if is_io_fault environment && not (is_nil e.batch) then (stopped w v 0 e, Replies Stopped) else (commit net.site w v 0 e, Replies e.reply)) (λ t told. cc)
      (λ t. by_test Hears (is_io_fault environment && not (is_nil e.batch)) (stopped w v 0 e, Replies Stopped) (commit net.site w v 0 e, Replies e.reply) (λ t told. cc) (λ t told. replies))))

  replies : (offset : ℕ) (p : Payload) → is_heard (Replies (receive net.site (view_of net w (receiver net.site l)) l offset p).reply) ≡ true
  unfolding receive_fact receive_ack
  replies offset (Data f) = refl
  replies offset (Ack n) = refl

  -- A frame has a payload, and a number of the wire has a frame.

  spelled : (i : Item) → MayCarry w.durable.facts w.durable.known (sender net.site l) (receiver net.site l) i → payload w.durable.facts i ≡ None → ⊥
  spelled (DataItem n) carried none = let some : data_payload (fact_at w.durable.facts n) ≡ Some (Data carried.fact) = ap data_payload carried.there in cc
  spelled (AckItem n) carried none = cc

  item : (environment : Environment) (j : ℕ) (a : Allocation) → slice_get (w.frames l) j ≡ Some a → (o : Option Payload) → payload w.durable.facts a.item ≡ o → Hears (receive_item net w l a.offset environment o)
  item environment j a at None is = absurd (spelled a.item ((c.now.carried l).framed j a at) is)
  item environment j a at (Some p) is = performed environment (receive net.site (view_of net w (receiver net.site l)) l a.offset p) (replies a.offset p)

  frame : (environment : Environment) (j : ℕ) → slice_get (w.wire l) number ≡ Some j → (o : Option Allocation) → slice_get (w.frames l) j ≡ o → Hears (deliver_frame net w l environment o)
  unfolding deliver_frame
  frame environment j put None at = absurd (missing (w.frames l) j ((c.wired l).wired number j put) at)
  frame environment j put (Some a) at =
      by_test Hears (not (w.up (receiver net.site l))) (w, Replies Down) _ (λ t told. cc)
      (λ t. by_test Hears (nat_lt (received_there w.durable l) (a.offset + need w.durable.facts a.item)) (w, Replies (NoBits (received_there w.durable l))) _ (λ t told. cc)
      (λ t. item environment j a at (payload w.durable.facts a.item) refl))

  numbered : (environment : Environment) (o : Option ℕ) → slice_get (w.wire l) number ≡ o → Hears (deliver_number net w l environment o)
  numbered environment None put = λ told. cc
  numbered environment (Some j) put = frame environment j put (slice_get (w.frames l) j) refl

  pub pass_heard : (environment : Environment) → Hears (step net w (Deliver l number environment))
  unfolding step deliver
  pass_heard environment = numbered environment (slice_get (w.wire l) number) refl
