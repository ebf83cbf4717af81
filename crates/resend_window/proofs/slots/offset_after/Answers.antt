use Rattle.resend_window.proofs.slots.offset_after.Goals as goal

pub is_next_on-requires-clause-sent : goal.is_next_on-requires-clause-sent
is_next_on-requires-clause-sent c = (c.requires.sent c.in-Some.held c.in-Some.is).sent
