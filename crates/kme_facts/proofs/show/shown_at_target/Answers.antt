use Rattle.std.proofs.Common.{◌∙◌, ap}
use Rattle.std.specs.Prelude.{◌&&◌}
use Rattle.net_model.specs.declared.held.Held.{Held}
use Rattle.net_model.specs.declared.reply.Reply.TheVariants.{Shown}
use Rattle.net_model.specs.Table.{is_part_of}
use Rattle.end_store.specs.Pooled.{ends_view}
use Rattle.kme_facts.specs.declared.part_test.PartTest.TheVariants.{Here, Lacking}
use Rattle.kme_facts.specs.Parts.{passes}
use Rattle.kme_facts.proofs.Parted.{found_any, none_here, some_here}
use Rattle.kme_facts.proofs.show.shown_at_target.Goals as goal

pub returns-then-is_none : goal.returns-then-is_none
returns-then-is_none c =
    c.absent.ensures
    ∙ none_here (ends_view c.args.ends.now) c.args.key c.is_none.result
    (found_any (λ f. is_part_of c.args.key f && passes (ends_view c.args.ends.now) Here f) c.args.ends.now.known.facts c.first_part.result c.is_none.result c.first_part.ensures.first
    c.first_part.ensures.none c.is_none.ensures) c.if-is_none.true

pub returns-in-Ok : goal.returns-in-Ok
returns-in-Ok c =
    ap (λ (h : Held). Shown h c.in-Ok.bytes) c.target_state-held.ensures
    ∙ some_here (ends_view c.args.ends.now) c.args.key c.is_none.result c.is_none-2.result c.in-Ok.bytes
    (found_any (λ f. is_part_of c.args.key f && passes (ends_view c.args.ends.now) Here f) c.args.ends.now.known.facts c.first_part.result c.is_none.result c.first_part.ensures.first
    c.first_part.ensures.none c.is_none.ensures) c.if-is_none.false
    (found_any (λ f. is_part_of c.args.key f && passes (ends_view c.args.ends.now) Lacking f) c.args.ends.now.known.facts c.first_part-2.result c.is_none-2.result c.first_part-2.ensures.first
    c.first_part-2.ensures.none c.is_none-2.ensures) c.in-Ok.ensures
