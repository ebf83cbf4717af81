-- How placings change the window, one by one.
use Rattle.std.proofs.Common.{◌≡◌, ℕ, List, [], ◌∷◌, refl}
use Rattle.std.specs.Prelude.{◌&&◌, is_none, Option, Some, None}
use Rattle.qkd_base.specs.Name.{Name, has}
use Rattle.net_model.specs.declared.event.Event.{Event}
use Rattle.net_model.specs.declared.event.Event.TheVariants as events
use Rattle.net_model.specs.declared.placing.Placing.{Placing}
use Rattle.net_model.specs.Item.{item_of}
use Rattle.net_model.specs.Window.{complete, complete_one, is_acked_item}
use Rattle.net_model.specs.World.{Volatile}
use Rattle.kme_base.specs.Steps.{placings_of}

-- an acknowledgement itself is never acknowledged
pub acked_item : (acked : List Name) (ack_of : Option ℕ) (n : Name) → (is_none ack_of && has acked n) ≡ is_acked_item acked (item_of ack_of n)
acked_item acked None n = refl
acked_item acked (Some offset) n = refl

pub none_noted : (acked : List Name) (vol : Volatile) → complete acked vol [] ≡ vol
unfolding complete
none_noted acked vol = refl

pub one_noted : (acked : List Name) (vol : Volatile) (p : Placing) (ps : List Placing) → complete acked vol (p ∷ ps) ≡ complete acked (complete_one acked vol p) ps
unfolding complete
one_noted acked vol p ps = refl

pub no_placings : (e : Event) → ((placings : List Placing) → e ≡ events.Note placings → ⊥) → placings_of e ≡ []
no_placings (events.Note placings) none = absurd (none placings refl)
no_placings (events.Block link number bytes) none = refl
no_placings (events.Fill m s bits count) none = refl
no_placings (events.Feed stream count) none = refl
no_placings events.Plan none = refl
no_placings (events.Heard lane bytes) none = refl
no_placings (events.Enc m s n bits) none = refl
no_placings (events.Dec s m names) none = refl
no_placings (events.Status m s) none = refl
no_placings (events.Open source peer bits) none = refl
no_placings (events.Join caller other stream bits) none = refl
no_placings (events.Get caller stream index) none = refl
no_placings (events.Close caller stream) none = refl
no_placings (events.Show name) none = refl
no_placings (events.Ledger lane) none = refl
no_placings (events.FillGroup m slaves bits count) none = refl
no_placings (events.EncGroup m slaves n bits) none = refl
