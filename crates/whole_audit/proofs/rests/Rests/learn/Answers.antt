use Rattle.std.proofs.Common.{◌≡◌, Option, ap, ◌∙◌}
use Rattle.run_audit.proofs.Recording.{on_ok_map}
use Rattle.run_types.specs.declared.command.Command.{Command}
use Rattle.whole_audit.specs.declared.rests.Rest.{Rest}
use Rattle.whole_audit.specs.Rests.{asked_if, behind, rest_of}
use Rattle.whole_audit.specs.Kept.{rest_at}
use Rattle.whole_audit.proofs.Resting.{rests_more}
use Rattle.whole_audit.proofs.rests.Rests.learn.Goals as goal

pub returns : goal.returns
returns c s before is kept =
    let rest : c.behind-rest.result ≡ behind c.args.told.now.item (rest_of s c.args.told.now.number before) =
    c.behind-rest.ensures ∙ ap (behind c.args.told.now.item) (c.at.ensures ∙ ap (λ (o : Option Command). rest_at c.args.self.now c.args.told.now.number (asked_if o)) is ∙ kept c.args.told.now.number) in
    on_ok_map c.put.result (λ put. rests_more s c.args.self.now c.put.new.self c.args.told.now before kept c.behind-rest.result rest (λ n first. ap (λ (f : Rest → Rest). f first) (put n))) c.put.ensures
