use Rattle.std.proofs.Common.{◌≡◌, ◌+◌, ◌&&◌, ◌^◌, ◌∙◌, ap}
use Rattle.std.specs.Prelude.{nat_le, nat_lt}
use Rattle.qkd_base.specs.Name.{Name}
use Rattle.net_model.specs.View.{View}
use Rattle.net_model.specs.Decision.{fresh_name, last_count}
use Rattle.relay_core.specs.Knowledge.{Knowledge}
use Rattle.end_store.specs.Waiting.{Ends}
use Rattle.stream_core.specs.Kept.{Sees}
use Rattle.kme_streams.proofs.Deciding.{made_name, name_seen}
use Rattle.kme_streams.proofs.stream_steps.fresh_name.Goals as goal

pub returns : goal.returns
returns c =
    made_name c.new.result (nat_le 1 (c.last_count.result + 1 + c.args.more) && nat_lt (c.last_count.result + 1 + c.args.more) (2 ^ 48))
    (record { node = c.me.result; kind = c.args.kind; count = c.last_count.result + 1 + c.args.more })
    (λ (name : Name). (v : View) → Sees v c.args.kept.now → name ≡ fresh_name v c.args.kind c.args.more) c.new.ensures
    (λ v seen. name_seen v c.args.kept.now seen c.me.result c.last_count.result c.args.kind c.args.more (c.me.ensures v seen)
    (c.last_count.ensures.count ∙ ap (λ (k : Knowledge). last_count k.me k.facts) (c.known.ensures ∙ ap (λ (e : Ends). e.known) c.ends.ensures)))
