use Rattle.std.proofs.Common.{◌≡◌, Some, None, sym, ap, ◌∙◌}
use Rattle.run_audit.specs.declared.contents.Content.{Content}
use Rattle.run_audit.specs.Table.{at}
use Rattle.run_audit.specs.Contents.{is_like}
use Rattle.run_audit.specs.Kept.{known_at}
use Rattle.run_audit.proofs.Matching.{is_like_known, matches_known}
use Rattle.run_audit.proofs.contents.Contents.has_like.Goals as goal

pub returns-in-Some : goal.returns-in-Some
returns-in-Some c fs cs carried =
    let it : Content = c.args.content.now in
    let there : known_at it.lane it.offset cs ≡ Some c.in-Some.known.now = sym (carried.known it.lane it.offset) ∙ ap (at c.args.self.now.known) (sym c.place_key.ensures) ∙ sym (c.in-Some.ensures {u = tt}) in
    c.is_like.ensures ∙ ap (is_like_known it) (sym there) ∙ matches_known it cs carried.matching

pub returns-in-None : goal.returns-in-None
returns-in-None c fs cs carried =
    let it : Content = c.args.content.now in
    let none : known_at it.lane it.offset cs ≡ None = sym (carried.known it.lane it.offset) ∙ ap (at c.args.self.now.known) (sym c.place_key.ensures) ∙ sym (c.in-None.ensures {u = tt}) in
    ap (is_like_known it) (sym none) ∙ matches_known it cs carried.matching
