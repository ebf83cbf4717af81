use Rattle.std.proofs.Common.{List, [], ◌∷◌, ◌∙◌, ℕ, ap, subst, refl}
use Rattle.run_model.specs.Headline.{given_to, Took, TookFirst}
use Rattle.run_lines.proofs.Taking.{took_of, first_none, first_of}
use Rattle.run_types.specs.Texts.{handed_text}
use Rattle.run_lines.proofs.Lines.{one_lined, one_stopped}
use Rattle.run_tasks.specs.Pieces.{IsHandedLine}
use Rattle.run_tasks.proofs.load.write_handed.Goals as goal

pub returns-in_default-clause-wrote : goal.returns-in_default-clause-wrote
returns-in_default-clause-wrote g c =
    first_none (given_to g.W.Sink.taken g.W.Sink.pieces c.args.sink.now) (handed_text c.args.handed.masters c.args.handed.slaves ∷ [])

pub returns-in-Ok-write_all-clause-wrote : goal.returns-in-Ok-write_all-clause-wrote
returns-in-Ok-write_all-clause-wrote g c =
    let given = given_to g.W.Sink.taken g.W.Sink.pieces in
    subst (Took (given c.args.sink.now) (given c.write_all.new.self)) (ap (λ (text : List ℕ). text ∷ []) (c.as_slice.ensures ∙ c.in-Ok.ensures))
    (took_of (given c.args.sink.now) (given c.write_all.new.self) c.as_slice.result.now c.in-Ok-write_all.ensures.bytes c.in-Ok-write_all.ensures.piece)

pub returns-clause-wrote : goal.returns-clause-wrote
returns-clause-wrote g c =
    let given = given_to g.W.Sink.taken g.W.Sink.pieces in
    subst (TookFirst (given c.args.sink.now) (given c.write_all.new.self)) (ap (λ (text : List ℕ). text ∷ []) (c.as_slice.ensures ∙ c.in-Ok.ensures))
    (first_of (given c.args.sink.now) (given c.write_all.new.self) c.as_slice.result.now c.in-Err.ensures.bytes c.in-Err.ensures.piece)

pub returns-in-Ok-write_all-clause-lined : goal.returns-in-Ok-write_all-clause-lined
returns-in-Ok-write_all-clause-lined g c =
    one_lined g.W.Sink.taken g.W.Sink.pieces IsHandedLine _ _ c.as_slice.result.now (handed_text c.args.handed.masters c.args.handed.slaves) (c.as_slice.ensures ∙ c.in-Ok.ensures)
    (c.args.handed.masters, (c.args.handed.slaves, refl)) c.in-Ok-write_all.ensures.bytes c.in-Ok-write_all.ensures.piece

pub returns-clause-lined : goal.returns-clause-lined
returns-clause-lined g c =
    one_stopped g.W.Sink.taken g.W.Sink.pieces IsHandedLine _ _ c.as_slice.result.now (handed_text c.args.handed.masters c.args.handed.slaves) (c.as_slice.ensures ∙ c.in-Ok.ensures)
    (c.args.handed.masters, (c.args.handed.slaves, refl)) c.in-Err.ensures.bytes c.in-Err.ensures.piece
