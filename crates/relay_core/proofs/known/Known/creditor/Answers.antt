use Rattle.std.proofs.Common.{Option, None, ◌∙◌, sym, ap}
use Rattle.qkd_base.specs.Name.{name_eq}
use Rattle.net_model.specs.declared.fact.Fact.{Fact}
use Rattle.net_model.specs.Table.{name_of}
use Rattle.relay_core.specs.Index.{creditor_of}
use Rattle.relay_core.proofs.Firsts.{first_find, none_find}
use Rattle.relay_core.proofs.Kept.{owes_is, owed_names_is}
use Rattle.relay_core.proofs.known.Known.creditor.Goals as goal

pub returns-in-None-clause-creditor : goal.returns-in-None-clause-creditor
returns-in-None-clause-creditor c =
    sym (ap (λ (o : Option Fact). creditor_of c.args.self.now.me c.args.self.now.acked o) (none_find (λ f. name_eq (name_of f) c.args.name) c.args.self.now.facts c.in-None.ensures.none))

pub returns-in-None-clause-owes : goal.returns-in-None-clause-owes
returns-in-None-clause-owes c =
    let none = sym (ap (λ (o : Option Fact). creditor_of c.args.self.now.me c.args.self.now.acked o) (none_find (λ f. name_eq (name_of f) c.args.name) c.args.self.now.facts c.in-None.ensures.none)) in
    owes_is c.args.self.now.me c.args.self.now.acked c.args.self.now.facts c.args.name None c.len-holds.ensures.distinct none

pub returns-in-None-clause-owed : goal.returns-in-None-clause-owed
returns-in-None-clause-owed c =
    let none = sym (ap (λ (o : Option Fact). creditor_of c.args.self.now.me c.args.self.now.acked o) (none_find (λ f. name_eq (name_of f) c.args.name) c.args.self.now.facts c.in-None.ensures.none)) in
    owed_names_is c.args.self.now.me c.args.self.now.acked c.args.self.now.facts c.args.name None c.len-holds.ensures.distinct none

pub returns-in-Some-clause-creditor : goal.returns-in-Some-clause-creditor
returns-in-Some-clause-creditor c =
    c.creditor_at.ensures
    ∙ sym (ap (λ (o : Option Fact). creditor_of c.args.self.now.me c.args.self.now.acked o) (first_find (λ f. name_eq (name_of f) c.args.name) c.args.self.now.facts c.in-Some.place c.in-Some.ensures.first))

pub returns-in-Some-clause-owes : goal.returns-in-Some-clause-owes
returns-in-Some-clause-owes c =
    let some = c.creditor_at.ensures
    ∙ sym (ap (λ (o : Option Fact). creditor_of c.args.self.now.me c.args.self.now.acked o) (first_find (λ f. name_eq (name_of f) c.args.name) c.args.self.now.facts c.in-Some.place c.in-Some.ensures.first)) in
    owes_is c.args.self.now.me c.args.self.now.acked c.args.self.now.facts c.args.name c.creditor_at.result c.len-holds.ensures.distinct some

pub returns-in-Some-clause-owed : goal.returns-in-Some-clause-owed
returns-in-Some-clause-owed c =
    let some = c.creditor_at.ensures
    ∙ sym (ap (λ (o : Option Fact). creditor_of c.args.self.now.me c.args.self.now.acked o) (first_find (λ f. name_eq (name_of f) c.args.name) c.args.self.now.facts c.in-Some.place c.in-Some.ensures.first)) in
    owed_names_is c.args.self.now.me c.args.self.now.acked c.args.self.now.facts c.args.name c.creditor_at.result c.len-holds.ensures.distinct some
