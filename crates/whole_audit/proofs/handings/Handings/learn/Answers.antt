use Rattle.std.proofs.Common.{◌≡◌, Option, ap, sym, ◌∙◌}
use Rattle.run_types.specs.declared.command.Command.{Command}
use Rattle.run_audit.proofs.Recording.{on_ok_map}
use Rattle.whole_audit.specs.Lines.{command_at}
use Rattle.whole_audit.specs.Handings.{node_if, sae_if, hands_unnamed, unnamed}
use Rattle.whole_audit.proofs.handings.Handings.learn.Goals as goal

pub returns : goal.returns
returns c s told before item command kept =
    let word : c.hands_unnamed.result ≡ unnamed s told =
    c.hands_unnamed.ensures ∙ ap (λ (o : Option Command). hands_unnamed o c.args.item.now) command ∙ ap (hands_unnamed (command_at s told.number)) (sym item) in
    on_ok_map c.learn_unnamed.result
    (λ unnamed. record {
      at = c.in_ok-learn_keys.ensures {u = tt} node_if s told before item (c.node_if.ensures ∙ ap node_if command) kept.at;
      to = c.in_ok-learn_keys-2.ensures {u = tt} sae_if s told before item (c.sae_if.ensures ∙ ap sae_if command) kept.to;
      unnamed = unnamed;
    })
    (c.learn_unnamed.ensures s told before word kept.unnamed)
