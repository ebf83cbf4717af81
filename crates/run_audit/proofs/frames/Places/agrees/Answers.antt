use Rattle.std.proofs.Common.{◌≡◌, ℕ, eqb, Option, Some, None, sym, ap, ◌∙◌}
use Rattle.run_audit.specs.declared.frames.Frame.{Frame}
use Rattle.run_audit.specs.Table.{at}
use Rattle.run_audit.specs.Kept.{length_at}
use Rattle.run_audit.proofs.Apart.{agrees_at, not_placed}
use Rattle.run_audit.proofs.frames.Places.agrees.Goals as goal

pub returns-in-Some : goal.returns-in-Some
returns-in-Some c fs placed =
    let f : Frame = c.args.frame.now in
    let there : length_at f.lane f.offset fs ≡ Some c.in-Some.length.now = sym (placed.lengths f.lane f.offset) ∙ ap (at c.args.self.now.lengths) (sym c.place_key.ensures) ∙ sym (c.in-Some.ensures {u = tt}) in
    let agreed = agrees_at f c.in-Some.length.now fs placed.apart there in
    ap (λ (n : ℕ). eqb c.in-Some.length.now n) c.from.ensures ∙ agreed

pub returns-in-None : goal.returns-in-None
returns-in-None c fs placed =
    let f : Frame = c.args.frame.now in
    let none : length_at f.lane f.offset fs ≡ None = sym (placed.lengths f.lane f.offset) ∙ ap (at c.args.self.now.lengths) (sym c.place_key.ensures) ∙ sym (c.in-None.ensures {u = tt}) in
    c.is_free.ensures fs placed (not_placed f.lane f.offset fs none)
