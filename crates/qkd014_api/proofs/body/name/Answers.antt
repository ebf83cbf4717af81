use Rattle.std.proofs.Common.{sym, ap}
use Rattle.std.proofs.lemmas.Bool.{false≢true}
use Rattle.std.specs.Option.{option_map}
use Rattle.uuid.specs.Text.{parsed}
use Rattle.qkd014_api.specs.Bodies.{name_of}
use Rattle.qkd014_api.proofs.Objects.{none-told}
use Rattle.qkd014_api.proofs.body.name.Goals as goal

pub returns-in-Err : goal.returns-in-Err
returns-in-Err c = sym (ap (option_map name_of) (none-told (parsed c.args.text.now) (λ u e. false≢true (c.in-Err.ensures.ok.1 (u, e)))))
