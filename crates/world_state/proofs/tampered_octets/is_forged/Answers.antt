use Rattle.world_state.proofs.tampered_octets.is_forged.Goals as goal

pub is_put-requires : goal.is_put-requires
is_put-requires g c = let a = c.requires.ready in record { lane = c.requires.lane; ready = (a.0, a.1, a.2.stands) }
