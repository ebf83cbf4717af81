use Rattle.std.proofs.Common.{refl}
use Rattle.net_model.specs.declared.event.Event.TheVariants.{Enc, Dec}
use Rattle.net_model.specs.Action.{Ok, Ask}
use Rattle.run_model.specs.Turn.{turn_of}
use Rattle.law_run.specs.Handed.{enc_in, dec_in}
use Rattle.law_run.proofs.LoadTasks.{begins_unasking, line_unasking}
use Rattle.law_run.proofs.Told.{enc_plain, dec_plain, all_told, none_told}
use Rattle.law_run.proofs.load_laws.law_lines_hand_out.Goals as goal

pub returns-clause-begins : goal.returns-clause-begins
returns-clause-begins c = begins_unasking

pub returns-clause-others : goal.returns-clause-others
returns-clause-others c = line_unasking

pub returns-clause-enc : goal.returns-clause-enc
unfolding turn_of
returns-clause-enc c = λ http net number w site v m s n bits actions h. all_told enc_in enc_plain net w (Ask v (Enc m s n bits) Ok) (λ out. refl) number actions h

pub returns-clause-enc_alone : goal.returns-clause-enc_alone
unfolding turn_of
returns-clause-enc_alone c = λ http net w site v m s n bits actions h. none_told dec_in dec_plain net w (Ask v (Enc m s n bits) Ok) (λ out. refl) actions h

pub returns-clause-dec : goal.returns-clause-dec
unfolding turn_of
returns-clause-dec c = λ http net number w site v s m names actions h. all_told dec_in dec_plain net w (Ask v (Dec s m names) Ok) (λ out. refl) number actions h

pub returns-clause-dec_alone : goal.returns-clause-dec_alone
unfolding turn_of
returns-clause-dec_alone c = λ http net w site v s m names actions h. none_told enc_in enc_plain net w (Ask v (Dec s m names) Ok) (λ out. refl) actions h
