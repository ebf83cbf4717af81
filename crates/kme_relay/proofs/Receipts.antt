-- Received payloads and blocks, as steps.
use Rattle.std.proofs.Common.{◌≡◌, ℕ, ◌==◌, Bool, true, false, List, [], ◌∷◌, Ok, Err, refl, sym, ap, ◌∙◌, subst}
use Rattle.std.specs.Prelude.{not, if◌then◌else◌}
use Rattle.qkd_base.specs.Name.{Name, has}
use Rattle.qkd_base.specs.declared.lane.Lane.{Lane}
use Rattle.net_model.specs.declared.fact.Fact.{Fact}
use Rattle.net_model.specs.declared.event.Event.TheVariants.{Block as BlockEvent}
use Rattle.net_model.specs.declared.record.Record.{Record}
use Rattle.net_model.specs.declared.record.Record.TheVariants.{Learned, Acked, Block}
use Rattle.net_model.specs.declared.reply.Reply.{Reply}
use Rattle.net_model.specs.declared.reply.Reply.TheVariants.{HeardFact, LinkFull, Took, Memory}
use Rattle.net_model.specs.Table.{has_fact, kind_of, name_of}
use Rattle.net_model.specs.Sealing.{Sealing}
use Rattle.net_model.specs.Site.{Site}
use Rattle.net_model.specs.View.{View, blocks_of, port_of}
use Rattle.net_model.specs.Window.{acknowledge, cleared}
use Rattle.net_model.specs.Decision.{Does, Refuses, makes}
use Rattle.net_model.specs.Relay.{owed, receive_ack, receive_fact, stored_note}
use Rattle.net_model.specs.Decide.{decide}
use Rattle.relay_core.specs.Knowledge.{Knowledge, owed_names}
use Rattle.kme_base.specs.declared.change.Change.TheVariants.{Same, Received, Acknowledged}
use Rattle.kme_base.specs.Steps.{IsStep, orders_of}
use Rattle.kme_relay.specs.Knows.{Knows}

pub owed_is : (v : View) (k : Knowledge) (to : ℕ) → Knows v k → owed v to ≡ owed_names k.me k.acked k.facts to
unfolding owed
owed_is v k to h =
    ap (λ (me : ℕ). owed_names me v.acked v.facts to) h.me
    ∙ ap (λ (acked : List Name). owed_names k.me acked v.facts to) h.acked
    ∙ ap (λ (facts : List Fact). owed_names k.me k.acked facts to) h.facts

pub knows_is : (v : View) (k : Knowledge) (n : Name) → Knows v k → has_fact v.facts n ≡ has_fact k.facts n
knows_is v k n h = ap (λ (facts : List Fact). has_fact facts n) h.facts

-- receiving an acknowledgement

pub ack_again : (v : View) (lane : Lane) (from : ℕ) (n : Name) (batch : List Record) (reply : Reply) → has (owed v from) n ≡ false → batch ≡ [] → reply ≡ HeardFact false 3 n → IsStep v [] (Does (receive_ack v lane from n)) (Ok (record { batch = batch; reply = reply; change = Same }))
unfolding receive_ack
ack_again v lane from n batch reply old batch_is reply_is = record {
  batch = batch_is ∙ sym (ap (λ (b : Bool). if b then Acked n ∷ [] else []) old);
  reply = reply_is ∙ sym (ap (λ (b : Bool). HeardFact b 3 n) old);
  orders = ap orders_of reply_is;
  volatile = sym (ap (λ (b : Bool). if b then record (v.volatile) { window = cleared lane n v.volatile.window } else v.volatile) old);
}

pub ack_taken : (v : View) (lane : Lane) (from : ℕ) (n : Name) (batch : List Record) (reply : Reply) → has (owed v from) n ≡ true → batch ≡ Acked n ∷ [] → reply ≡ HeardFact true 3 n → IsStep v [] (Does (receive_ack v lane from n)) (Ok (record { batch = batch; reply = reply; change = Acknowledged lane n }))
unfolding receive_ack
ack_taken v lane from n batch reply new batch_is reply_is = record {
  batch = batch_is ∙ sym (ap (λ (b : Bool). if b then Acked n ∷ [] else []) new);
  reply = reply_is ∙ sym (ap (λ (b : Bool). HeardFact b 3 n) new);
  orders = ap orders_of reply_is;
  volatile = sym (ap (λ (b : Bool). if b then record (v.volatile) { window = cleared lane n v.volatile.window } else v.volatile) new);
}

-- receiving a fact

pub fact_again : (v : View) (lane : Lane) (offset : ℕ) (f : Fact) (n : Name) (batch : List Record) (reply : Reply) → n ≡ name_of f → has_fact v.facts (name_of f) ≡ true → batch ≡ [] → reply ≡ HeardFact false (kind_of f) (name_of f) → IsStep v [] (Does (receive_fact v lane offset f)) (Ok (record { batch = batch; reply = reply; change = Received lane offset n }))
unfolding receive_fact
fact_again v lane offset f n batch reply named old batch_is reply_is = record {
  batch = batch_is ∙ sym (ap (λ (b : Bool). if not b then Learned f ∷ stored_note v f else []) old);
  reply = reply_is ∙ sym (ap (λ (b : Bool). HeardFact (not b) (kind_of f) (name_of f)) old);
  orders = ap orders_of reply_is;
  volatile = ap (acknowledge v.volatile lane offset) named;
}

pub fact_taken : (v : View) (lane : Lane) (offset : ℕ) (f : Fact) (n : Name) (batch : List Record) (reply : Reply) → n ≡ name_of f → has_fact v.facts (name_of f) ≡ false → batch ≡ Learned f ∷ stored_note v f → reply ≡ HeardFact true (kind_of f) (name_of f) → IsStep v [] (Does (receive_fact v lane offset f)) (Ok (record { batch = batch; reply = reply; change = Received lane offset n }))
unfolding receive_fact
fact_taken v lane offset f n batch reply named new batch_is reply_is = record {
  batch = batch_is ∙ sym (ap (λ (b : Bool). if not b then Learned f ∷ stored_note v f else []) new);
  reply = reply_is ∙ sym (ap (λ (b : Bool). HeardFact (not b) (kind_of f) (name_of f)) new);
  orders = ap orders_of reply_is;
  volatile = ap (acknowledge v.volatile lane offset) named;
}

-- receiving a block

module _ (v : View) (site : Site) (frames : Sealing) (is_up : ℕ → Bool) (random : List ℕ) (link number : ℕ) (bytes : List ℕ) where
  pub block_full : (blocks_of (port_of v link) == 1024) ≡ true → IsStep v [] (decide site frames is_up v random (BlockEvent link number bytes)) (Err LinkFull)
  unfolding decide
  block_full full = subst (λ (b : Bool). IsStep v [] (if b then Refuses LinkFull else makes v (Block link number bytes ∷ []) (Took number)) (Err LinkFull)) (sym full) refl

  pub block_memory : (blocks_of (port_of v link) == 1024) ≡ false → IsStep v [] (decide site frames is_up v random (BlockEvent link number bytes)) (Err Memory)
  unfolding decide
  block_memory more = subst (λ (b : Bool). IsStep v [] (if b then Refuses LinkFull else makes v (Block link number bytes ∷ []) (Took number)) (Err Memory)) (sym more) refl

  pub block_taken : (batch : List Record) → (blocks_of (port_of v link) == 1024) ≡ false → batch ≡ Block link number bytes ∷ [] → IsStep v [] (decide site frames is_up v random (BlockEvent link number bytes)) (Ok (record { batch = batch; reply = Took number; change = Same }))
  unfolding decide
  block_taken batch more batch_is = subst (λ (b : Bool). IsStep v [] (if b then Refuses LinkFull else makes v (Block link number bytes ∷ []) (Took number)) (Ok (record { batch = batch; reply = Took number; change = Same }))) (sym more) (record { batch = batch_is; reply = refl; orders = refl; volatile = refl })
