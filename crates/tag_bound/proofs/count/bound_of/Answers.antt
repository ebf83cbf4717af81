use Rattle.std.proofs.Common.{ap, ◌∙◌, Err}
use Rattle.tag_bound.specs.declared.refusal.RootRefusal.{RootRefusal}
use Rattle.tag_bound.proofs.Distinct.{keys_distinct, some_text}
use Rattle.tag_bound.proofs.count.bound_of.Goals as goal

pub unreachable-requires-in-Err-Repeated : goal.unreachable-requires-in-Err-Repeated
unreachable-requires-in-Err-Repeated c =
    let place = c.in-Err-Repeated.field-0-0 in
    let repeat = ((c.roots_among.ensures.repeated place).0 (c.in-Err-Repeated.is ∙ ap (λ (e : RootRefusal). Err e) c.in-Err-Repeated.field-0-is)).1 in
    keys_distinct c.args.text.now c.in_ok-keys.keys c.in_ok-keys.ensures.means place repeat.0

pub returns-in-Err-Memory-clause-memory : goal.returns-in-Err-Memory-clause-memory
returns-in-Err-Memory-clause-memory c = λ _.
    some_text c.args.text.now c.in_ok-keys.keys c.in_ok-keys.ensures.means (c.roots_among.ensures.memory (c.in-Err-Memory.is ∙ ap (λ (e : RootRefusal). Err e) c.in-Err-Memory.field-0-is)).1
