use Rattle.std.proofs.Common.{◌≡◌, ℕ, ◌*◌, true, take, drop, sym, subst, ◌∙◌}
use Rattle.std.specs.Prelude.{Result, Ok, Err, OnOk}
use Rattle.std.specs.Result.{is_ok}
use Rattle.qkd_base.specs.LaneBytes.{lane_octets}
use Rattle.kme_store.proofs.lanes.copy_block.Goals as goal

where_ok : {T E : Type 0} (r : Result T E) (P : Type 0) → OnOk r P → is_ok r ≡ true → P
where_ok (Ok v) P holds is = holds
where_ok (Err e) P holds is = absurd (cc is)

pub returns-clause-block : goal.returns-clause-block
returns-clause-block c = λ yes.
    subst (λ (n : ℕ). c.lane_bytes.new.into ≡ take n (drop (1024 * c.args.number) (lane_octets c.args.way c.args.held.now.blocks))) c.told-into
    (where_ok c.lane_bytes.result _ c.lane_bytes.ensures.ok (sym c.is_ok.ensures.value ∙ yes))
