use Rattle.std.proofs.Common.{ap, ◌∙◌, List, length, eqb}
use Rattle.serde_json.specs.declared.value.Value.{Value}
use Rattle.qkd014_api.specs.Bodies.{has_none}
use Rattle.qkd014_api.proofs.Objects.{empty-items}
use Rattle.qkd014_api.proofs.body.is_empty.Goals as goal

pub returns-in-Some : goal.returns-in-Some
returns-in-Some c =
    c.is_empty.ensures ∙ ap (λ (vs : List Value). eqb (length vs) 0) c.as_slice.ensures.value ∙ empty-items _ ∙ ap has_none c.in-Some.ensures
