use Rattle.std.proofs.Common.{refl}
use Rattle.model_examples.specs.WorldRows.{Resting, SameFrame, Ownership, FirstStarts, FirstForeign, Legal, Illegal}
use Rattle.model_examples.proofs.Opened.{opened}

pub resting : Resting
unfolding opened
resting = refl

pub same_frame : SameFrame
unfolding opened
same_frame = refl

pub ownership : Ownership
unfolding opened
ownership = refl

pub first_starts : FirstStarts
unfolding opened
first_starts = refl

pub first_foreign : FirstForeign
unfolding opened
first_foreign = refl

pub legal : Legal
unfolding opened
legal = refl

pub illegal : Illegal
unfolding opened
illegal = refl
