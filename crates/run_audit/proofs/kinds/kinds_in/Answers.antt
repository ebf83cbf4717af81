use Rattle.std.proofs.Common.{◌≡◌, ℕ, ◌++◌, List, map, subst, arith}
use Rattle.std.specs.List.{flat_map}
use Rattle.std.specs.Ordering.{nat_cmp}
use Rattle.std.specs.BTreeMap.{get}
use Rattle.run_types.specs.declared.entry.Entry.{Entry}
use Rattle.run_audit.specs.declared.line_kind.LineKind.{LineKind}
use Rattle.run_audit.specs.declared.line_kind.LineKind.TheVariants.{Node}
use Rattle.run_audit.specs.Kinds.{kinds_of}
use Rattle.run_audit.specs.Kept.{found_or}
use Rattle.run_audit.proofs.Lining.{Lined, both_put}
use Rattle.run_audit.proofs.kinds.kinds_in.Goals as goal

pub returns : goal.returns
returns c number =
    both_put (get nat_cmp c.new-kinds.result number) (get nat_cmp c.add_nodes.new.kinds number) (get nat_cmp c.add_entries.new.kinds number) number
    (map {B = ℕ × LineKind} (λ n. (n, Node)) c.args.scenario.now.node_lines) (flat_map kinds_of c.args.scenario.now.entries) (grind arith)
    (subst (λ (ns : List ℕ). (behind : Lined) → found_or (get nat_cmp c.add_nodes.new.kinds number) number behind ≡ found_or (get nat_cmp c.new-kinds.result number) number (map {B = ℕ × LineKind} (λ n. (n, Node)) ns ++ behind)) c.as_slice.ensures
    (λ behind. c.in_ok-add_nodes.ensures {u = tt} number behind))
    (subst (λ (es : List Entry). (behind : Lined) → found_or (get nat_cmp c.add_entries.new.kinds number) number behind ≡ found_or (get nat_cmp c.add_nodes.new.kinds number) number (flat_map kinds_of es ++ behind)) c.as_slice-2.ensures
    (λ behind. c.in_ok-add_entries.ensures {u = tt} number behind))
