use Rattle.std.proofs.Common.{true, false, Some, None, refl, ◌∙◌, ap, sym, ℕ}
use Rattle.net_model.specs.Routes.{route}
use Rattle.net_model.specs.Decision.{answers}
use Rattle.net_model.specs.Streams.{is_size, only_status, opened, open_stream}
use Rattle.declared_site.specs.SiteOf.{site_of}
use Rattle.kme_streams.proofs.Deciding.{decided, open_shown}
use Rattle.kme_streams.proofs.stream_open.open_stream.Goals as goal

pub returns-then-not-is_entitled : goal.returns-then-not-is_entitled
returns-then-not-is_entitled c v is_up seen up =
    decided v (open_stream (site_of c.args.site.now) is_up v c.args.source c.args.peer c.args.bits) (answers v (only_status 8)) c.answer.result
    (open_shown (site_of c.args.site.now) is_up v c.args.source c.args.peer c.args.bits false (is_size c.args.bits) (route (site_of c.args.site.now) is_up v.me ((site_of c.args.site.now).home c.args.peer))
    (sym c.if-not-is_entitled.true ∙ c.is_entitled.ensures v (c.me.ensures v seen)) refl refl)
    (c.answer.ensures v)

pub returns-then-not-is_size : goal.returns-then-not-is_size
returns-then-not-is_size c v is_up seen up =
    decided v (open_stream (site_of c.args.site.now) is_up v c.args.source c.args.peer c.args.bits) (answers v (only_status 7)) c.answer-then-not-is_size.result
    (open_shown (site_of c.args.site.now) is_up v c.args.source c.args.peer c.args.bits true false (route (site_of c.args.site.now) is_up v.me ((site_of c.args.site.now).home c.args.peer))
    (sym c.if-not-is_entitled.false ∙ c.is_entitled.ensures v (c.me.ensures v seen)) (sym c.if-not-is_size.true ∙ c.is_size.ensures) refl)
    (c.answer-then-not-is_size.ensures v)

pub returns-in-None : goal.returns-in-None
returns-in-None c v is_up seen up =
    decided v (open_stream (site_of c.args.site.now) is_up v c.args.source c.args.peer c.args.bits) (answers v (only_status 4)) c.answer-in-None.result
    (open_shown (site_of c.args.site.now) is_up v c.args.source c.args.peer c.args.bits true true None
    (sym c.if-not-is_entitled.false ∙ c.is_entitled.ensures v (c.me.ensures v seen)) (sym c.if-not-is_size.false ∙ c.is_size.ensures)
    (c.in-None.ensures is_up up ∙ ap (λ (me : ℕ). route (site_of c.args.site.now) is_up me c.home.result) (sym (c.me-2.ensures v seen)) ∙ ap (route (site_of c.args.site.now) is_up v.me) c.home.ensures))
    (c.answer-in-None.ensures v)

pub returns-in-Some : goal.returns-in-Some
returns-in-Some c v is_up seen up =
    decided v (open_stream (site_of c.args.site.now) is_up v c.args.source c.args.peer c.args.bits) (opened v c.args.source c.args.peer c.args.bits (Some c.in-Some.route)) c.opened.result
    (open_shown (site_of c.args.site.now) is_up v c.args.source c.args.peer c.args.bits true true (Some c.in-Some.route)
    (sym c.if-not-is_entitled.false ∙ c.is_entitled.ensures v (c.me.ensures v seen)) (sym c.if-not-is_size.false ∙ c.is_size.ensures)
    (c.in-Some.ensures is_up up ∙ ap (λ (me : ℕ). route (site_of c.args.site.now) is_up me c.home.result) (sym (c.me-2.ensures v seen)) ∙ ap (route (site_of c.args.site.now) is_up v.me) c.home.ensures))
    (c.opened.ensures v seen)
