-- What a generated load asks for.
use Rattle.std.proofs.Common.{◌≡◌, ◌≢◌, ℕ, ◌+◌, ◌*◌, not, Bool, true, List, [], ◌∷◌, ◌++◌, map, refl, ap, arith}
use Rattle.std.specs.Prelude.{◌==◌}
use Rattle.std.specs.List.{list_all, flat_map}
use Rattle.qkd_base.specs.declared.lane.Way.TheVariants.{Up, Down}
use Rattle.net_model.specs.Site.{lane_of, count_up}
use Rattle.run_types.specs.declared.end.Ends.TheVariants.{Both}
use Rattle.run_types.specs.declared.command.Command.{Command}
use Rattle.run_types.specs.declared.command.Command.TheVariants as commands
use Rattle.run_types.specs.declared.entry.Entry.{Entry}
use Rattle.run_model.specs.Report.{Does, starts_from}
use Rattle.run_model.specs.Load.{load_entries, load_scenario, master_in, slave_in, numbered_from, round_lines}
use Rattle.run_model.specs.Course.{tasks_of}
use Rattle.law_base.proofs.Base.{eq_from, and_left, and_right, and_both, not_false}
use Rattle.law_run.specs.Kinds.{is_of_load, is_load_entry, is_load_task}
use Rattle.law_run.proofs.Scripts.{all_both}

all_mapped : {A B : Type 0} (p : B → Bool) (f : A → B) (xs : List A) → ((x : A) → p (f x) ≡ true) → list_all p (map f xs) ≡ true
all_mapped p f [] h = refl
all_mapped p f (x ∷ xs) h = and_both (p (f x)) (list_all p (map f xs)) (h x) (all_mapped p f xs h)

all_flat : {A B : Type 0} (p : B → Bool) (f : A → List B) (xs : List A) → ((x : A) → list_all p (f x) ≡ true) → list_all p (flat_map f xs) ≡ true
all_flat p f [] h = refl
all_flat p f (x ∷ xs) h = all_both p (f x) (flat_map f xs) (h x) (all_flat p f xs h)

-- The slave of a round isn't its master, since one number is even and the other odd.
two : (round : ℕ) → slave_in round ≢ master_in round
two round e = omega arith

apart : (round : ℕ) → not (slave_in round == master_in round) ≡ true
apart round = ap not (not_false (slave_in round == master_in round) (λ e. two round (eq_from (slave_in round) (master_in round) e)))

of_round : (round : ℕ) → list_all is_of_load (round_lines round) ≡ true
of_round round = and_both (not (slave_in round == master_in round)) true (apart round) refl

all_numbered : (number : ℕ) (cs : List Command) → list_all is_of_load cs ≡ true → list_all is_load_entry (numbered_from number cs) ≡ true
all_numbered number [] h = refl
all_numbered number (c ∷ cs) h =
    and_both (is_of_load c) (list_all is_load_entry (numbered_from (number + 1) cs)) (and_left (is_of_load c) (list_all is_of_load cs) h)
    (all_numbered (number + 1) cs (and_right (is_of_load c) (list_all is_of_load cs) h))

pub entries_are : (rounds : ℕ) → list_all is_load_entry (load_scenario rounds).entries ≡ true
unfolding load_entries
entries_are rounds =
    let take : ℕ → Command = λ (link : ℕ). commands.Bits link Both (2 * rounds) in
    let tell : ℕ → List Command = λ (link : ℕ). commands.Ledger (lane_of link Up) ∷ commands.Ledger (lane_of link Down) ∷ [] in
    let taken : list_all is_of_load (map take (count_up 8)) ≡ true = all_mapped is_of_load take (count_up 8) (λ link. refl) in
    let done = all_flat is_of_load round_lines (count_up rounds) of_round in
    let told : list_all is_of_load (flat_map tell (count_up 8)) ≡ true = all_flat is_of_load tell (count_up 8) (λ link. refl) in
    let all = all_both is_of_load (map take (count_up 8)) (flat_map round_lines (count_up rounds) ++ flat_map tell (count_up 8)) taken
    (all_both is_of_load (flat_map round_lines (count_up rounds)) (flat_map tell (count_up 8)) done told) in
    all_numbered 81 (map take (count_up 8) ++ flat_map round_lines (count_up rounds) ++ flat_map tell (count_up 8)) all

starts_are : (v : ℕ) (numbers : List ℕ) → list_all is_load_task (starts_from v numbers) ≡ true
starts_are v [] = refl
starts_are v (number ∷ rest) = starts_are (v + 1) rest

entries_done : (es : List Entry) → list_all is_load_entry es ≡ true → list_all is_load_task (map Does es) ≡ true
entries_done [] h = refl
entries_done (e ∷ es) h = and_both (is_load_entry e) (list_all is_load_task (map Does es)) (and_left (is_load_entry e) (list_all is_load_entry es) h) (entries_done es (and_right (is_load_entry e) (list_all is_load_entry es) h))

pub tasks_are : (rounds : ℕ) → list_all is_load_task (tasks_of (load_scenario rounds)) ≡ true
tasks_are rounds =
    let nodes = (load_scenario rounds).node_lines in
    all_both is_load_task (starts_from 0 nodes) (map Does (load_scenario rounds).entries) (starts_are 0 nodes) (entries_done (load_scenario rounds).entries (entries_are rounds))
