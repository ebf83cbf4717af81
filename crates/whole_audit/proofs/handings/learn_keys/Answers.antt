use Rattle.std.proofs.Common.{ℕ, ◌&&◌, ◌||◌, List, eqb, ap, sym, ◌∙◌}
use Rattle.ordered_set.specs.Entries.{has_entry}
use Rattle.qkd_base.specs.Name.{Name}
use Rattle.run_audit.proofs.Recording.{on_ok_map}
use Rattle.whole_audit.specs.Handings.{has_key}
use Rattle.whole_audit.specs.Kept.{key_entry}
use Rattle.whole_audit.proofs.Giving.{none_handed, some_handed}
use Rattle.whole_audit.proofs.handings.learn_keys.Goals as goal

pub returns-in-Some : goal.returns-in-Some
returns-in-Some c place s told before item is handed =
    on_ok_map c.add_keys.result (λ put. some_handed place s c.args.set.now told before handed c.add_keys.new.set c.in-Some.place c.args.item.now item (sym c.in-Some.is ∙ is) (λ n there. put n there ∙ ap (λ (keys : List (Name × List ℕ)). (eqb c.in-Some.place there && has_key keys n) || has_entry c.args.set.now (key_entry n there)) c.keys_of.ensures)) c.add_keys.ensures

pub returns-in-None : goal.returns-in-None
returns-in-None c place s told before item is handed = none_handed place s c.args.set.now told before handed (sym c.in-None.is ∙ is)
