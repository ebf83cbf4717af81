use Rattle.std.proofs.Common.{◌≡◌, Bool, ap, sym, ◌∙◌, refl, rules}
use Rattle.std.specs.Prelude.{is_some, filter}
use Rattle.resend_window.specs.Kept.{somes}
use Rattle.std.proofs.lemmas.List.Elements.{filter_from_retain}
use Rattle.resend_window.proofs.Lists.{somes_filtered}
use Rattle.resend_window.proofs.rooms.compact.Goals as goal

pub returns-clause-items : goal.returns-clause-items
returns-clause-items g c = ap somes (filter_from_retain _ is_some (λ p x b q. search rules) _ _ _ c.retain.ensures.filtered) ∙ somes_filtered is_some refl (λ x. refl) c.args.list.now.items
