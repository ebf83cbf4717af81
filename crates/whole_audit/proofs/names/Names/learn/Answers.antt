use Rattle.std.proofs.Common.{◌≡◌, ap, sym, ◌∙◌}
use Rattle.run_audit.proofs.Recording.{on_ok_map}
use Rattle.whole_audit.specs.declared.blocks.Count.{Count}
use Rattle.whole_audit.specs.Names.{count_behind, names_of}
use Rattle.whole_audit.proofs.Numbering.{named_none, named_some}
use Rattle.whole_audit.proofs.names.Names.learn.Goals as goal

pub returns-in-Some : goal.returns-in-Some
returns-in-Some c s told before is named =
    let behind : c.count_behind-count.result ≡ count_behind c.in-Some.given.first c.in-Some.given.more (names_of s c.in-Some.given.node before) =
    c.count_behind-count.ensures ∙ ap (λ (n : Count). count_behind c.in-Some.given.first c.in-Some.given.more n) (c.at.ensures ∙ named c.in-Some.given.node) in
    on_ok_map c.put.result (λ put. named_some s c.args.self.now c.put.new.self c.in-Some.given told before (sym c.in-Some.is ∙ is) named c.count_behind-count.result behind put) c.put.ensures

pub returns-in-None : goal.returns-in-None
returns-in-None c s told before is named = named_none s c.args.self.now told before (sym c.in-None.is ∙ is) named
