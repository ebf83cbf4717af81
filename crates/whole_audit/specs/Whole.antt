-- The verdict of all rules: the first item that breaks one of them together with those before it, and the least rule that it breaks.
use Rattle.std.specs.Prelude.{◌≡◌, ℕ, ◌+◌, not, ◌&&◌, nat_lt, if◌then◌else◌, List, [], ◌∷◌, Option, Some, None}
use Rattle.run_types.specs.declared.scenario.Scenario.{Scenario}
use Rattle.run_types.specs.declared.item.NumberedItem.{NumberedItem}
use Rattle.run_audit.specs.declared.verdict.Verdict.{Verdict}
use Rattle.run_audit.specs.declared.verdict.Verdict.TheVariants as verdicts
use Rattle.run_audit.specs.Rules.{verdict_of}
use Rattle.audit_text.specs.declared.input.Input.{Input}
use Rattle.audit_text.specs.Input.{IsInput}
use Rattle.whole_audit.specs.declared.findings.Findings.{Findings}
use Rattle.whole_audit.specs.Order.{rule_7, may_end}
use Rattle.whole_audit.specs.Turns.{gives_next, is_in_turn}
use Rattle.whole_audit.specs.Managers.{rule_8, burns}
use Rattle.whole_audit.specs.Blocks.{rule_9}
use Rattle.whole_audit.specs.Names.{given, names_of, names_follow, keys_were_given, frame_was_given, shown_was_given}
use Rattle.whole_audit.specs.Claims.{rule_10}
use Rattle.whole_audit.specs.Tracks.{has_no_gap, comes_rightly}
use Rattle.whole_audit.specs.Sums.{rule_11, lacks_bytes}
use Rattle.whole_audit.specs.Knowledge.{is_known}
use Rattle.whole_audit.specs.Frames.{comes_whole}
use Rattle.whole_audit.specs.Pools.{ready, stock_of, is_in_stock}
use Rattle.whole_audit.specs.Handings.{shows_handed, refuses_handed}
use Rattle.whole_audit.specs.Lines.{command_at}
use Rattle.item_audit.specs.Asked.{asked_at}
use Rattle.whole_audit.specs.Shorts.{rule_17}

-- Which rules from 7 on the item keeps, given the items before it, of which the last one stands first.
abbrev pub findings : Scenario → List NumberedItem → NumberedItem → Findings
findings s before t = record {
  order = rule_7 s before t;
  gives = gives_next s before t;
  turns = is_in_turn s before t;
  managers = rule_8 s before t;
  blocks = rule_9 before t;
  claims = rule_10 before t.item;
  gaps = has_no_gap s before t;
  comes = comes_rightly before t.item;
  lacks = lacks_bytes before t.item;
  known = is_known s before t.item;
  whole = comes_whole before t.item;
  stocks = is_in_stock (ready s t) (λ p. stock_of s p before);
  sums = rule_11 before t.item;
  given = shows_handed s before t.item;
  refused = refuses_handed s before t;
  asked = asked_at s.site (command_at s t.number) t.item;
  burns = burns s before t.item;
  names = names_follow (given s t) (λ v. names_of s v before);
  handed = keys_were_given (λ v. names_of s v before) t.item;
  heard = frame_was_given (λ v. names_of s v before) t.item;
  shown = shown_was_given (λ v. names_of s v before) t.item;
  shorts = rule_17 before t.item;
}

-- the least rule that is broken
abbrev pub least_of : Findings → Option ℕ
least_of f =
    if not (f.order && f.gives && f.turns && f.asked.parts) then Some 7
    else if not f.managers then Some 8
    else if not f.blocks then Some 9
    else if not (f.claims && f.gaps) then Some 10
    else if not (f.sums && f.burns) then Some 11
    else if not (f.names && f.asked.making) then Some 12
    else if not (f.handed && f.stocks && f.refused && f.asked.handing) then Some 13
    else if not (f.heard && f.comes && f.lacks && f.known && f.whole && f.asked.passing) then Some 14
    else if not f.asked.streaming then Some 15
    else if not f.asked.responding then Some 16
    else if not (f.shorts && f.asked.ticking) then Some 17
    else if not (f.shown && f.given && f.asked.showing) then Some 18
    else if not f.asked.lengths then Some 19
    else if not f.asked.naming then Some 20
    else None

abbrev pub broken : Scenario → List NumberedItem → NumberedItem → Option ℕ
broken s before t = least_of (findings s before t)

-- what is broken at this place, if anything, or else behind it
abbrev pub first_of : (place : ℕ) → Option ℕ → Option (ℕ × ℕ) → Option (ℕ × ℕ)
first_of place None behind = behind
first_of place (Some rule) behind = Some (place, rule)

-- The place of the first item that breaks a rule, from this place on, and the rule. A report that may not end breaks rule 7 behind its last item.
abbrev pub break_from : Scenario → (before : List NumberedItem) → (place : ℕ) → List NumberedItem → Option (ℕ × ℕ)
break_from s before place [] = if may_end s before then None else Some (place, 7)
break_from s before place (t ∷ told) = first_of place (broken s before t) (break_from s (t ∷ before) (place + 1) told)

unfoldable pub break_of : Scenario → List NumberedItem → Option (ℕ × ℕ)
break_of s told = break_from s [] 0 told

-- The verdict, or what is broken on an earlier line. The report's first item stands on line `first`.
abbrev pub with_break : (first : ℕ) → Option (ℕ × ℕ) → Verdict → Verdict
with_break first None verdict = verdict
with_break first (Some b) (verdicts.Yes frames deliveries ledgers) = verdicts.No (first + b.0) b.1
with_break first (Some b) (verdicts.No line rule) = if nat_lt (first + b.0) line then verdicts.No (first + b.0) b.1 else verdicts.No line rule

-- Rules 1 to 6 are those of the audit.
abbrev pub whole_verdict_of : Scenario → List NumberedItem → (first : ℕ) → Verdict
whole_verdict_of s told first = with_break first (break_of s told) (verdict_of s told first)

-- The verdict is that of all rules on the text's input.
abbrev pub IsWholeVerdict : List ℕ → Verdict → Type 0
IsWholeVerdict text verdict = (input : Input) × IsInput text input × (verdict ≡ whole_verdict_of input.scenario input.items input.first)
