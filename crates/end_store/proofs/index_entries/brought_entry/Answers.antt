use Rattle.std.proofs.Common.{ℕ, Bool, None, sym, ◌∙◌, ap}
use Rattle.std.specs.Prelude.{if◌then◌else◌}
use Rattle.net_model.specs.declared.fact.Fact.{Fact}
use Rattle.net_model.specs.declared.fact.Fact.TheVariants.{Key}
use Rattle.end_store.specs.Waiting.{is_own, count_entry, brought_entry}
use Rattle.end_store.proofs.Handing.{not_brought}
use Rattle.end_store.proofs.index_entries.brought_entry.Goals.{else-is_own-via-then-is_own+else-is_confirmed, else-is_own-via-else-is_own}
use Rattle.end_store.proofs.index_entries.brought_entry.Goals as goal

pub returns-then-is_confirmed : goal.returns-then-is_confirmed
returns-then-is_confirmed c =
    let f : Fact = Key c.in-Key.name c.in-Key.master c.in-Key.slave c.in-Key.route c.in-Key.bytes in
    c.count_entry.ensures ∙ ap (λ (me : ℕ). count_entry me c.args.fact.now) c.me-then-is_confirmed.ensures ∙ ap (count_entry c.args.known.now.me) c.in-Key.is
    ∙ ap (λ (b : Bool). if b then count_entry c.args.known.now.me f else None) (sym c.if-is_confirmed.true ∙ c.is_confirmed.ensures)
    ∙ ap (brought_entry c.args.known.now.me c.args.known.now.facts c.args.handed.now.pairs) (sym c.in-Key.is)

pub returns-else-is_own : goal.returns-else-is_own
returns-else-is_own c =
    elim c.else-is_own.branch [
      | else-is_own-via-then-is_own+else-is_confirmed w ↦
          ap (λ (b : Bool). if b then count_entry c.args.known.now.me (Key c.in-Key.name c.in-Key.master c.in-Key.slave c.in-Key.route c.in-Key.bytes) else None) (sym w.if-is_confirmed.false ∙ w.is_confirmed.ensures)
          ∙ ap (brought_entry c.args.known.now.me c.args.known.now.facts c.args.handed.now.pairs) (sym c.in-Key.is)
      | else-is_own-via-else-is_own w ↦
          not_brought c.args.known.now.me c.args.known.now.facts c.args.handed.now.pairs c.in-Key.name c.in-Key.master c.in-Key.slave c.in-Key.route c.in-Key.bytes
          (sym (c.is_own.ensures ∙ ap (λ (me : ℕ). is_own me c.in-Key.name) c.me.ensures) ∙ w.if-is_own.false)
          ∙ ap (brought_entry c.args.known.now.me c.args.known.now.facts c.args.handed.now.pairs) (sym c.in-Key.is)
    ]
