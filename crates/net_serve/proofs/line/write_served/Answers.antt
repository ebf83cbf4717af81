use Rattle.std.proofs.Common.{ℕ, List, [], ◌∷◌, ◌∙◌, ap, subst, refl}
use Rattle.run_model.specs.Headline.{given_to, Took, TookFirst}
use Rattle.run_types.specs.Texts.{served_text}
use Rattle.run_lines.proofs.Lines.{one_lined, one_stopped}
use Rattle.run_lines.proofs.Taking.{took_of, first_none, first_of}
use Rattle.net_serve.specs.Lines.{IsServedLine}
use Rattle.net_serve.proofs.Lined.{unserved}
use Rattle.net_serve.proofs.line.write_served.Goals as goal

pub returns-in_default-clause-line : goal.returns-in_default-clause-line
returns-in_default-clause-line g c = first_none (given_to g.W.Sink.taken g.W.Sink.pieces c.args.sink.now) (served_text c.args.count ∷ [])

pub returns-in-Ok-write_all-clause-line : goal.returns-in-Ok-write_all-clause-line
returns-in-Ok-write_all-clause-line g c =
    let given = given_to g.W.Sink.taken g.W.Sink.pieces in
    subst (Took (given c.args.sink.now) (given c.write_all.new.self)) (ap (λ (text : List ℕ). text ∷ []) (c.as_slice.ensures ∙ c.in-Ok.ensures))
    (took_of (given c.args.sink.now) (given c.write_all.new.self) c.as_slice.result.now c.in-Ok-write_all.ensures.bytes c.in-Ok-write_all.ensures.piece)

pub returns-clause-line : goal.returns-clause-line
returns-clause-line g c =
    let given = given_to g.W.Sink.taken g.W.Sink.pieces in
    subst (TookFirst (given c.args.sink.now) (given c.write_all.new.self)) (ap (λ (text : List ℕ). text ∷ []) (c.as_slice.ensures ∙ c.in-Ok.ensures))
    (first_of (given c.args.sink.now) (given c.write_all.new.self) c.as_slice.result.now c.in-Err.ensures.bytes c.in-Err.ensures.piece)

pub returns-in-Ok-write_all-clause-lined : goal.returns-in-Ok-write_all-clause-lined
returns-in-Ok-write_all-clause-lined g c =
    one_lined g.W.Sink.taken g.W.Sink.pieces IsServedLine _ _ c.as_slice.result.now (served_text c.args.count) (c.as_slice.ensures ∙ c.in-Ok.ensures) (c.args.count, refl) c.in-Ok-write_all.ensures.bytes c.in-Ok-write_all.ensures.piece

pub returns-clause-lined : goal.returns-clause-lined
returns-clause-lined g c =
    one_stopped g.W.Sink.taken g.W.Sink.pieces IsServedLine _ _ c.as_slice.result.now (served_text c.args.count) (c.as_slice.ensures ∙ c.in-Ok.ensures) (c.args.count, refl) c.in-Err.ensures.bytes c.in-Err.ensures.piece

pub returns-in_default-clause-lined : goal.returns-in_default-clause-lined
returns-in_default-clause-lined g c = unserved g.W.Sink.taken g.W.Sink.pieces c.args.sink.now
