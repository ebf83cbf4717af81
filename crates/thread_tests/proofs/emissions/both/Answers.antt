use Rattle.std.proofs.Common.{[], ◌∷◌, ◌++◌, ap, ◌∙◌}
use Rattle.thread_tests.proofs.emissions.both.Goals as goal

pub returns : goal.returns
returns c = (
  c.in_ok-worker.field-0,
  c.in_ok-worker-2.field-0,
  c.in_ok-push-2.ensures.items ∙ ap (λ ks. ks ++ c.in_ok-worker-2.field-0 ∷ []) (c.in_ok-push.ensures.items ∙ ap (λ ks. ks ++ c.in_ok-worker.field-0 ∷ []) c.new-keeps.ensures.items),
  c.in_ok-worker.ensures,
  c.in_ok-worker-2.ensures,
)
