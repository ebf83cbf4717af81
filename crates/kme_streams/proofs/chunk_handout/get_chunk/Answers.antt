use Rattle.net_model.specs.Decision.{answers}
use Rattle.net_model.specs.Streams.{only_status, get_chunk}
use Rattle.declared_site.specs.SiteOf.{site_of}
use Rattle.kme_streams.specs.Calls.{gets}
use Rattle.kme_streams.proofs.Deciding.{decided, get_none, get_faulty, get_right}
use Rattle.kme_streams.proofs.chunk_handout.get_chunk.Goals as goal

pub returns-in-None : goal.returns-in-None
returns-in-None c v seen =
    decided v (get_chunk (site_of c.args.site.now) v c.args.caller c.args.stream c.args.index) (answers v (only_status 9)) c.answer.result
    (get_none (site_of c.args.site.now) v c.args.stream c.args.caller c.args.index (c.in-None.ensures v seen)) (c.answer.ensures v)

pub returns-in-Some-end_status : goal.returns-in-Some-end_status
returns-in-Some-end_status c v seen =
    decided v (get_chunk (site_of c.args.site.now) v c.args.caller c.args.stream c.args.index) (answers v (only_status c.in-Some-end_status.status)) c.answer-in-Some-end_status.result
    (get_faulty (site_of c.args.site.now) v c.args.stream c.args.caller c.args.index c.in-Some.opened c.in-Some-end_status.status (c.in-Some.ensures v seen) (c.in-Some-end_status.ensures v seen))
    (c.answer-in-Some-end_status.ensures v)

pub returns-in-None-end_status : goal.returns-in-None-end_status
returns-in-None-end_status c v seen =
    decided v (get_chunk (site_of c.args.site.now) v c.args.caller c.args.stream c.args.index) (gets v c.args.caller c.args.index c.in-Some.opened) c.get_at.result
    (get_right (site_of c.args.site.now) v c.args.stream c.args.caller c.args.index c.in-Some.opened (c.in-Some.ensures v seen) (c.in-None-end_status.ensures v seen)) (c.get_at.ensures v seen)
