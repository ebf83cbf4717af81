use Rattle.std.proofs.Common.{◌≡◌, ◌+◌, ◌∙◌, ap, arith, sym, Some}
use Rattle.qkd_base.specs.Name.{name_eq}
use Rattle.net_model.specs.Table.{name_of}
use Rattle.relay_core.proofs.Firsts.{first_position, none_position}
use Rattle.relay_core.proofs.known.Known.place.Goals as goal

pub returns-in-Some : goal.returns-in-Some
returns-in-Some c =
    let e : c.in-Some.place ≡ 0 + c.in-Some.place = omega arith in
    ap Some e ∙ sym (first_position (λ f. name_eq (name_of f) c.args.name) c.args.self.now.facts 0 c.in-Some.place c.in-Some.ensures.first)

pub returns-in-None : goal.returns-in-None
returns-in-None c = sym (none_position (λ f. name_eq (name_of f) c.args.name) c.args.self.now.facts 0 c.in-None.ensures.none)
