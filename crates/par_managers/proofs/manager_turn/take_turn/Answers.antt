use Rattle.par_managers.proofs.Takes.{nothing_asked, asked_valid, heard_valid, took_asked, took_heard}
use Rattle.par_managers.proofs.manager_turn.take_turn.Goals as goal

pub returns-in-Nothing : goal.returns-in-Nothing
returns-in-Nothing g c net w v place may =
    nothing_asked g.K.Disk g.E.Entropy net w v place c.args.post.now c.args.job.now c.args.octets c.args.up may c.in-Nothing.is

pub ask_if_up-requires : goal.ask_if_up-requires
ask_if_up-requires g c = record {
  valid = λ m on up. asked_valid g.K.Disk g.E.Entropy c.args.post.now c.args.job.now c.args.octets c.args.up c.requires.may m on up c.in-Ask.node c.in-Ask.event c.in-Ask.is;
}

pub returns-in-Ask : goal.returns-in-Ask
returns-in-Ask g c net w v place may =
    took_asked g.K.Disk g.E.Entropy net w v place c.args.post.now c.args.job.now c.args.octets c.args.up may c.ask_if_up.new.post c.ask_if_up.result
    c.in-Ask.node c.in-Ask.event c.in-Ask.is (c.ask_if_up.ensures net w v)

pub ask_if_up-requires-in-Some : goal.ask_if_up-requires-in-Some
ask_if_up-requires-in-Some g c = record {
  valid = λ m on up. heard_valid g.K.Disk g.E.Entropy c.args.post.now c.args.job.now c.args.octets c.args.up c.requires.may m on up c.in-Pass.lane c.in-Pass.number c.in-Some.bytes c.in-Pass.is c.in-Some.is;
}

pub returns-in-Some : goal.returns-in-Some
returns-in-Some g c net w v place may =
    took_heard g.K.Disk g.E.Entropy net w v place c.args.post.now c.args.job.now c.args.octets c.args.up may c.ask_if_up-in-Some.new.post
    c.ask_if_up-in-Some.result c.in-Pass.lane c.in-Pass.number c.in-Some.bytes c.in-Pass.is c.in-Some.is (c.ask_if_up-in-Some.ensures net w _)
