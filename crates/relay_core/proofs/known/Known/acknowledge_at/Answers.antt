use Rattle.std.proofs.Common.{◌≡◌, List, ℕ, Option, Some, [], ◌∷◌, ◌++◌, false, if◌then◌else◌, ◌∙◌, sym, ap, subst}
use Rattle.std.specs.Prelude.{slice_get}
use Rattle.std.specs.Str.{bytes_eq}
use Rattle.ordered_set.specs.Entries.{has_entry}
use Rattle.qkd_base.specs.Name.{name_eq}
use Rattle.net_model.specs.declared.fact.Fact.{Fact}
use Rattle.net_model.specs.Table.{name_of}
use Rattle.relay_core.specs.Index.{creditor, creditor_of}
use Rattle.relay_core.specs.Knowledge.{Knowledge, AreDistinct}
use Rattle.relay_core.proofs.Firsts.{first_find}
use Rattle.relay_core.proofs.Names.{name_eq_from}
use Rattle.relay_core.proofs.Kept.{acked_known, owed_acked, unowed_acked}
use Rattle.relay_core.proofs.known.Known.acknowledge_at.Goals as goal

pub returns-in-None-clause-acked : goal.returns-in-None-clause-acked
returns-in-None-clause-acked c =
    unowed_acked c.args.self.now.me c.args.self.now.acked c.args.self.now.facts c.args.name
    (subst AreDistinct (ap (λ (k : Knowledge). k.facts) c.self.view_is) c.self.invariant.distinct)
    (ap (λ (o : Option Fact). creditor_of c.args.self.now.me c.args.self.now.acked o) (first_find (λ f. name_eq (name_of f) c.args.name) c.args.self.now.facts c.args.place c.requires.first)
    ∙ sym c.creditor_at.ensures ∙ c.in-None.is)

pub returns-in-Some-clause-acked : goal.returns-in-Some-clause-acked
returns-in-Some-clause-acked c =
    owed_acked c.args.self.now.me c.args.self.now.acked c.push_reserved.new.self.items c.args.self.now.facts c.args.name c.in-Some.to
    (subst AreDistinct (ap (λ (k : Knowledge). k.facts) c.self.view_is) c.self.invariant.distinct)
    (ap (λ (o : Option Fact). creditor_of c.args.self.now.me c.args.self.now.acked o) (first_find (λ f. name_eq (name_of f) c.args.name) c.args.self.now.facts c.args.place c.requires.first)
    ∙ sym c.creditor_at.ensures ∙ c.in-Some.is)
    (c.push_reserved.ensures.items ∙ ap (λ (k : Knowledge). k.acked ++ c.args.name ∷ []) c.self.view_is)

pub invariant_of-self : goal.invariant_of-self
invariant_of-self c =
    let there = subst (λ (k : Knowledge). slice_get k.facts c.args.place ≡ Some c.requires.first.item) (sym c.self.view_is) c.requires.first.there in
    let owed_now : creditor c.args.self.now.me c.args.self.now.acked c.requires.first.item ≡ Some c.in-Some.to =
    sym (ap (λ (o : Option Fact). creditor_of c.args.self.now.me c.args.self.now.acked o) c.requires.first.there) ∙ sym c.creditor_at.ensures ∙ c.in-Some.is in
    let owed = subst (λ (k : Knowledge). creditor k.me k.acked c.requires.first.item ≡ Some c.in-Some.to) (sym c.self.view_is) owed_now in
    let cleared = subst (λ (l : List ℕ). (e : List ℕ) → has_entry c.remove.new.self e ≡ (if bytes_eq l e then false else has_entry c.self.inside.index e)) c.entry.ensures c.remove.ensures in
    acked_known c.self.inside.me c.self.inside.facts.items c.self.inside.acked.items c.push_reserved.new.self.items c.self.inside.index c.remove.new.self c.self.inside.listed c.self.inside.last
    c.args.place c.in-Some.to c.args.name c.requires.first.item c.self.invariant there (name_eq_from (name_of c.requires.first.item) c.args.name c.requires.first.passes) owed
    c.push_reserved.ensures.items (record { has = cleared })
