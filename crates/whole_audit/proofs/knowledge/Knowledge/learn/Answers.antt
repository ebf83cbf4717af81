use Rattle.std.proofs.Common.{◌≡◌, ℕ, ◌||◌, List, Some, ap, sym, ◌∙◌}
use Rattle.std.specs.Str.{bytes_eq}
use Rattle.ordered_set.specs.Entries.{has_entry}
use Rattle.declared_site.specs.declared.site.Site.{Site}
use Rattle.run_audit.proofs.Recording.{on_ok_map}
use Rattle.whole_audit.specs.Knowledge.{heard_of}
use Rattle.whole_audit.proofs.Knowing.{none_heard, some_heard}
use Rattle.whole_audit.proofs.knowledge.Knowledge.learn.Goals as goal

pub returns-in-Some : goal.returns-in-Some
returns-in-Some c s told before site item kept =
    let is : heard_of s.site told.item ≡ Some c.in-Some.heard = ap (λ (t : Site). heard_of t told.item) site ∙ ap (heard_of c.args.site.now) item ∙ sym c.heard_of.ensures ∙ c.in-Some.is in
    on_ok_map c.insert.result (λ put. some_heard s c.args.self.now.heard told before kept c.insert.new.self c.in-Some.heard is (λ e. put e ∙ ap (λ (n : List ℕ). bytes_eq n e || has_entry c.args.self.now.heard e) c.heard_entry.ensures)) c.insert.ensures.ok

pub returns-in-None : goal.returns-in-None
returns-in-None c s told before site item kept =
    none_heard s c.args.self.now.heard told before kept (ap (λ (t : Site). heard_of t told.item) site ∙ ap (heard_of c.args.site.now) item ∙ sym c.heard_of.ensures ∙ c.in-None.is)
