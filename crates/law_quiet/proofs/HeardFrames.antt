-- A frame that was passed and heard is what its receiver committed.
use Rattle.std.proofs.Common.{◌≡◌, ℕ, ◌+◌, true, not, ◌&&◌, ◌||◌, refl, Option, Some, None}
use Rattle.std.specs.Prelude.{nat_lt, slice_get}
use Rattle.std.specs.List.{list_all}
use Rattle.qkd_base.specs.declared.lane.Lane.{Lane}
use Rattle.net_model.specs.declared.payload.Payload.{Payload}
use Rattle.net_model.specs.declared.reply.Reply.TheVariants.{Memory, NoRandom, Stopped, Down, NoBits}
use Rattle.net_model.specs.Item.{need, payload}
use Rattle.net_model.specs.Site.{receiver}
use Rattle.net_model.specs.OctetSequence.{has_octets}
use Rattle.net_model.specs.World.{Network, World, Allocation, received_there}
use Rattle.net_model.specs.Needed.{view_of}
use Rattle.net_model.specs.Journal.{journal_limit, added_len, is_nil}
use Rattle.net_model.specs.Decision.{Effect}
use Rattle.net_model.specs.Relay.{receive}
use Rattle.net_model.specs.Action.{Environment, Outcome, Replies, is_no_memory, is_entropy_fault, is_io_fault}
use Rattle.net_model.specs.Handle.{is_numbered, commit, stopped, perform}
use Rattle.net_model.specs.Frames.{receive_item, deliver_frame, deliver_number, deliver}
use Rattle.law_base.proofs.Base.{by_test}
use Rattle.law_quiet.specs.Passes.{is_heard}

pub record IsHeardFrame (net : Network) (w : World) (l : Lane) (number : ℕ) (new : World) : Type 0 where
  pub j : ℕ
  pub frame : Allocation
  pub carried : Payload
  pub put : slice_get (w.wire l) number ≡ Some j
  pub framed : slice_get (w.frames l) j ≡ Some frame
  pub is : payload w.durable.facts frame.item ≡ Some carried
  pub done : new ≡ commit net.site w (receiver net.site l) 0 (receive net.site (view_of net w (receiver net.site l)) l frame.offset carried)

module _ (net : Network) (w : World) where
  abbrev Commits : ℕ → Effect → World × Outcome → Type 0
  Commits v e r = is_heard r.1 ≡ true → r.0 ≡ commit net.site w v 0 e

  performed : (v : ℕ) (environment : Environment) (e : Effect) → Commits v e (perform net w v 0 environment e)
  unfolding perform
  performed v environment e =
      by_test (Commits v e) (is_no_memory environment || not (list_all is_numbered e.batch)) (w, Replies Memory) _ (λ t heard. cc)
      (λ t. by_test (Commits v e) (nat_lt journal_limit ((w.journal v).length' + added_len (w.journal v).version e.batch)) _ _ (λ t heard. cc)
      (λ t. by_test (Commits v e) (nat_lt 0 0 && (not (has_octets (net.entropy v) (w.drawn v + 0)) || is_entropy_fault environment)) (w, Replies NoRandom) _ (λ t heard. cc)
      (λ t. by_test (Commits v e) (is_io_fault environment && not (is_nil e.batch)) (stopped w v 0 e, Replies Stopped) (commit net.site w v 0 e, Replies e.reply) (λ t heard. cc) (λ t heard. refl))))

  module _ (l : Lane) (environment : Environment) (number : ℕ) where
    abbrev Hears : World × Outcome → Type 0
    Hears r = is_heard r.1 ≡ true → IsHeardFrame net w l number r.0

    item : (j : ℕ) (a : Allocation) → slice_get (w.wire l) number ≡ Some j → slice_get (w.frames l) j ≡ Some a → (o : Option Payload) → payload w.durable.facts a.item ≡ o →
        Hears (receive_item net w l a.offset environment o)
    item j a put at None is = λ heard. cc
    item j a put at (Some p) is = λ heard. record {
      j = j;
      frame = a;
      carried = p;
      put = put;
      framed = at;
      is = is;
      done = performed (receiver net.site l) environment (receive net.site (view_of net w (receiver net.site l)) l a.offset p) heard;
    }

    frame : (j : ℕ) → slice_get (w.wire l) number ≡ Some j → (o : Option Allocation) → slice_get (w.frames l) j ≡ o → Hears (deliver_frame net w l environment o)
    unfolding deliver_frame
    frame j put None at = λ heard. cc
    frame j put (Some a) at =
        by_test Hears (not (w.up (receiver net.site l))) (w, Replies Down) _ (λ t heard. cc)
        (λ t. by_test Hears (nat_lt (received_there w.durable l) (a.offset + need w.durable.facts a.item)) (w, Replies (NoBits (received_there w.durable l))) _ (λ t heard. cc)
        (λ t. item j a put at (payload w.durable.facts a.item) refl))

    numbered : (o : Option ℕ) → slice_get (w.wire l) number ≡ o → Hears (deliver_number net w l environment o)
    numbered None put = λ heard. cc
    numbered (Some j) put = frame j put (slice_get (w.frames l) j) refl

    pub delivered : Hears (deliver net w l number environment)
    unfolding deliver
    delivered = numbered (slice_get (w.wire l) number) refl
