use Rattle.std.proofs.Common.{◌<◌, ℕ, List, ◌++◌, length, take, sym, subst}
use Rattle.std.specs.List.{flat_map}
use Rattle.std.proofs.lemmas.List.{length-map}
use Rattle.net_model.specs.Journal.{lease_records}
use Rattle.kme_base.specs.Places.{Place, ports_in}
use Rattle.kme_journal.proofs.Listed.{gathered_as, at_mapped, flat_step}
use Rattle.kme_journal.proofs.ports.list_leases.Goals as goal

pub loop-end-preserved : goal.loop-end-preserved
loop-end-preserved c = λ rs was.
    let ends : List Place = c.args.ends.now in
    let i : ℕ = c.loop-end.end-index in
    let within : i < length (ports_in ends) = subst (λ (n : ℕ). i < n) (sym (length-map ends (λ (x : Place). x.port))) c.loop-end-test.true in
    let listed = c.in_ok-list_lease.ensures (rs ++ flat_map lease_records (take i (ports_in ends))) (c.loop-end.invariant rs was) in
    let step = flat_step lease_records rs (ports_in ends) i c.end-item.result.port within (at_mapped (λ (x : Place). x.port) ends i c.end-item.result c.end-item.is) in
    gathered_as c.list_lease.new.batches _ _ step listed
