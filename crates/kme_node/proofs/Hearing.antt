-- The step for a received payload fits the manager.
use Rattle.std.proofs.Common.{ℕ, Bool, true, false, ◌&&◌, not, List, [], ◌∷◌}
use Rattle.std.specs.Prelude.{◌==◌, if◌then◌else◌, reverse}
use Rattle.qkd_base.specs.Name.{has}
use Rattle.qkd_base.specs.declared.lane.Lane.{Lane}
use Rattle.qkd_base.specs.declared.key_name.NameKind.TheVariants.{Note as NoteKind}
use Rattle.net_model.specs.declared.fact.Fact.{Fact}
use Rattle.net_model.specs.declared.fact.Fact.TheVariants.{Stored}
use Rattle.net_model.specs.declared.payload.Payload.{Payload}
use Rattle.net_model.specs.declared.payload.Payload.TheVariants.{Data, Ack}
use Rattle.net_model.specs.declared.record.Record.{Record}
use Rattle.net_model.specs.declared.record.Record.TheVariants.{Learned, Acked}
use Rattle.net_model.specs.Table.{name_of, route_of, target, is_secret}
use Rattle.net_model.specs.Site.{Site, sender}
use Rattle.net_model.specs.View.{View}
use Rattle.net_model.specs.Decision.{Does, fresh_name, knows}
use Rattle.net_model.specs.Relay.{owed, stored_note, receive_fact, receive_ack, receive}
use Rattle.kme_node.specs.Holdings.{Holdings, HasBlocksAlone}
use Rattle.kme_node.proofs.Fitting.{DecisionFits}

or_none : (t : Bool) (rs : List Record) → HasBlocksAlone rs → HasBlocksAlone (if t then rs else [])
or_none true rs alone = alone
or_none false rs alone = tt

fact_alone : (v : View) (f : Fact) → HasBlocksAlone (Learned f ∷ stored_note v f)
fact_alone v f = or_none (is_secret f && (target f == v.me)) (Learned (Stored (fresh_name v NoteKind 0) (name_of f) (reverse (route_of f))) ∷ []) tt

pub receipt_fits : (h : Holdings) (site : Site) (v : View) (l : Lane) (offset : ℕ) (p : Payload) → DecisionFits h (Does (receive site v l offset p))
unfolding receive_fact receive_ack
receipt_fits h site v l offset (Data f) = (or_none (not (knows v (name_of f))) (Learned f ∷ stored_note v f) (fact_alone v f), tt)
receipt_fits h site v l offset (Ack n) = (or_none (has (owed v (sender site l)) n) (Acked n ∷ []) tt, tt)
