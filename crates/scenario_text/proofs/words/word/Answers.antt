use Rattle.std.proofs.Common.{ℕ, drop, ap, ◌∙◌, sym, refl, arith}
use Rattle.scenario_text.specs.Words.{first_of}
use Rattle.scenario_text.proofs.WordLaws.{none_there, one_there}
use Rattle.scenario_text.proofs.words.word.Goals as goal

pub returns-then-size-eq0-clause-word : goal.returns-then-size-eq0-clause-word
returns-then-size-eq0-clause-word c =
    sym (ap first_of (none_there c.args.line.now c.behind-rest.result.now (c.behind-rest.ensures ∙ ap (λ (n : ℕ). drop n c.args.line.now) c.spaces.ensures.count) (sym c.len_to-size.ensures.count ∙ c.if-size-eq0.true)))

pub returns-else-size-eq0-clause-word : goal.returns-else-size-eq0-clause-word
returns-else-size-eq0-clause-word c =
    let all = one_there c.args.line.now c.behind-rest.result.now c.len_to-size.result (c.behind-rest.ensures ∙ ap (λ (n : ℕ). drop n c.args.line.now) c.spaces.ensures.count) c.len_to-size.ensures.count (omega (arith, c.if-size-eq0.false)) c.len_to-size.ensures.within in
    rw (all, c.front.ensures, c.behind.ensures) refl
