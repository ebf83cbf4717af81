-- All records of a checkpoint.
use Rattle.std.proofs.Common.{◌≡◌, ℕ, ◌+◌, List, ◌++◌, length, map, ap}
use Rattle.std.specs.Prelude.{sum_by, IfOk, Result, Ok, Err}
use Rattle.std.specs.List.{flat_map}
use Rattle.qkd_base.specs.Name.{Name}
use Rattle.net_model.specs.declared.record.Record.TheVariants.{Acked, Handed, Closed}
use Rattle.net_model.specs.Journal.{fact_record, lease_records, checkpoint_records, checkpoint_batches, checkpoint_need}
use Rattle.net_model.specs.View.{View, Port}
use Rattle.journal_records.specs.Grammar.{body_octets}
use Rattle.journal_records.specs.declared.version.Version.TheVariants.{Second}
use Rattle.kme_journal.specs.Batches.{AreSpelled, blocks_of}
use Rattle.kme_journal.proofs.Batched.{sizes, spelled_sizes}

pub all_records : (v : View) (ports : List Port) (acked : List Name) (handed closed : List (Name × ℕ)) → ports ≡ v.ports → acked ≡ v.acked → handed ≡ v.handed → closed ≡ v.closed →
    flat_map blocks_of ports ++ flat_map lease_records ports ++ map (fact_record v) v.facts ++ map (λ n. Acked n) acked ++ map (λ h. Handed h.0 h.1) handed ++ map (λ h. Closed h.0 h.1) closed ≡ checkpoint_records v
unfolding checkpoint_records
all_records v ports acked handed closed a b c d = λ i.
    flat_map blocks_of (a i) ++ flat_map lease_records (a i) ++ map (fact_record v) v.facts ++ map (λ n. Acked n) (b i) ++ map (λ h. Handed h.0 h.1) (c i) ++ map (λ h. Closed h.0 h.1) (d i)

pub all_need : (v : View) (bodies : List (List ℕ)) → AreSpelled (checkpoint_batches v) bodies → 1 + sum_by (λ b. 5 + length b) bodies ≡ checkpoint_need v
unfolding checkpoint_need
all_need v bodies is = spelled_sizes (checkpoint_batches v) bodies is

-- the number of octets that the bodies take
pub bodies_need : (v : View) → 1 + sum_by (λ b. 5 + length b) (map (body_octets Second) (checkpoint_batches v)) ≡ checkpoint_need v
unfolding checkpoint_need
bodies_need v = ap (λ (n : ℕ). 1 + n) (sizes (checkpoint_batches v))

pub if_ok : {T E : Type 0} (r : Result T E) (P Q : T → Type 0) → ((x : T) → P x → Q x) → IfOk r P → IfOk r Q
if_ok (Ok x) P Q f is = f x is
if_ok (Err e) P Q f is = tt
