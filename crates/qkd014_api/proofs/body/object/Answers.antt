use Rattle.std.proofs.Common.{sym, ◌∙◌}
use Rattle.serde_json.specs.View.{view}
use Rattle.qkd014_api.proofs.Objects.{object-some, object-none, no-object}
use Rattle.qkd014_api.proofs.body.object.Goals as goal

pub returns-then-is_object : goal.returns-then-is_object
returns-then-is_object c =
    object-some c.args.body.now (view c.in-Ok.value) c.in-Ok.ensures.ok.0 c.in-Ok.ensures.ok.1 (sym c.is_object.ensures ∙ c.if-is_object.true)

pub returns-else-is_object : goal.returns-else-is_object
returns-else-is_object c =
    object-none c.args.body.now (view c.in-Ok.value) c.in-Ok.ensures.ok.0 c.in-Ok.ensures.ok.1 (sym c.is_object.ensures ∙ c.if-is_object.false)

pub returns-in-Err : goal.returns-in-Err
returns-in-Err c = no-object c.args.body.now c.in-Err.error c.unreadable.result c.unreadable.ensures c.in-Err.ensures.err
