-- A frame that tells nothing new makes no record.
use Rattle.std.proofs.Common.{◌≡◌, ℕ, Bool, false, not, List, [], ◌∷◌, sym, ◌∙◌, ap}
use Rattle.qkd_base.specs.Name.{Name, has}
use Rattle.qkd_base.specs.declared.lane.Lane.{Lane}
use Rattle.net_model.specs.declared.event.Event.TheVariants.{Heard}
use Rattle.net_model.specs.declared.fact.Fact.{Fact}
use Rattle.net_model.specs.declared.payload.Payload.TheVariants.{Data, Ack}
use Rattle.net_model.specs.declared.record.Record.TheVariants.{Learned, Acked}
use Rattle.net_model.specs.declared.reply.Reply.{Reply}
use Rattle.net_model.specs.declared.reply.Reply.TheVariants.{HeardFact}
use Rattle.net_model.specs.Table.{name_of}
use Rattle.net_model.specs.Site.{Site, sender}
use Rattle.net_model.specs.Sealing.{Sealing, Opened, Opens, Rejected, Forged}
use Rattle.net_model.specs.View.{View, port_of, incoming_octets}
use Rattle.net_model.specs.Decision.{Decision, Does, Effect, knows}
use Rattle.net_model.specs.Relay.{owed, receive_fact, receive_ack, stored_note}
use Rattle.net_model.specs.Decide.{decide, received_frame}
use Rattle.law_base.proofs.Base.{when_false}

is_again : (fresh : Bool) (k kind : ℕ) (m n : Name) → ◌≡◌ {A = Reply} (HeardFact fresh k m) (HeardFact false kind n) → fresh ≡ false
is_again fresh k kind m n h = cc

module _ (site : Site) (v : View) (l : Lane) where
  fact_again : (offset : ℕ) (f : Fact) (kind : ℕ) (n : Name) → (receive_fact v l offset f).reply ≡ HeardFact false kind n → (receive_fact v l offset f).batch ≡ []
  unfolding receive_fact
  fact_again offset f kind n h = when_false (not (knows v (name_of f))) (Learned f ∷ stored_note v f) [] (is_again _ _ _ _ _ h)

  ack_again : (from : ℕ) (m : Name) (kind : ℕ) (n : Name) → (receive_ack v l from m).reply ≡ HeardFact false kind n → (receive_ack v l from m).batch ≡ []
  unfolding receive_ack
  ack_again from m kind n h = when_false (has (owed v from) m) (Acked m ∷ []) [] (is_again _ _ _ _ _ h)

  same_effect : (a b : Effect) → ◌≡◌ {A = Decision} (Does a) (Does b) → a ≡ b
  same_effect a b h = cc

  pub frame_again : (opened : Opened) (e : Effect) (kind : ℕ) (n : Name) → received_frame site v l opened ≡ Does e → e.reply ≡ HeardFact false kind n → e.batch ≡ []
  frame_again (Opens offset (Data f)) e kind n h again =
      let is : receive_fact v l offset f ≡ e = same_effect (receive_fact v l offset f) e h in
      ap (λ (x : Effect). x.batch) (sym is) ∙ fact_again offset f kind n (ap (λ (x : Effect). x.reply) is ∙ again)
  frame_again (Opens offset (Ack m)) e kind n h again =
      let is : receive_ack v l (sender site l) m ≡ e = same_effect (receive_ack v l (sender site l) m) e h in
      ap (λ (x : Effect). x.batch) (sym is) ∙ ack_again (sender site l) m kind n (ap (λ (x : Effect). x.reply) is ∙ again)
  frame_again (Rejected reply) e kind n h again = cc
  frame_again (Forged place) e kind n h again = cc

pub adds_nothing : (site : Site) (frames : Sealing) (is_up : ℕ → Bool) (v : View) (random : List ℕ) (l : Lane) (octets : List ℕ) (e : Effect) (kind : ℕ) (n : Name) →
    decide site frames is_up v random (Heard l octets) ≡ Does e → e.reply ≡ HeardFact false kind n → e.batch ≡ []
unfolding decide
adds_nothing site frames is_up v random l octets e kind n h again = frame_again site v l (frames.unseal l (incoming_octets l (port_of v l.link)) octets) e kind n h again
