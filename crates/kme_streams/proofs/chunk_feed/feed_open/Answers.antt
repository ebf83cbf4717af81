use Rattle.std.proofs.Common.{true, false, ℕ, Err, Some, None, refl, ◌∙◌, sym, ap}
use Rattle.net_model.specs.declared.reply.Reply.TheVariants.{NoRoute, UnknownStream}
use Rattle.net_model.specs.Routes.{route}
use Rattle.net_model.specs.Decision.{Refuses}
use Rattle.net_model.specs.Streams.{fed, fed_stream}
use Rattle.declared_site.specs.SiteOf.{site_of}
use Rattle.kme_streams.specs.Calls.{opening}
use Rattle.kme_streams.proofs.Series.{stepped, stream_shown}
use Rattle.kme_streams.proofs.chunk_feed.feed_open.Goals as goal

pub returns-then-not-has_end : goal.returns-then-not-has_end
returns-then-not-has_end c v is_up seen up =
    stepped v (fed_stream (site_of c.args.site.now) is_up v c.args.count c.args.random.now (Some (opening c.args.opened.now))) (Refuses UnknownStream) (Err UnknownStream)
    (stream_shown (site_of c.args.site.now) is_up v c.args.count c.args.random.now c.args.opened.now false (route (site_of c.args.site.now) is_up v.me ((site_of c.args.site.now).home c.args.opened.now.peer))
    (sym c.if-not-has_end.true ∙ c.has_end.ensures (site_of c.args.site.now) v seen c.home.ensures) refl)
    refl

pub returns-in-None : goal.returns-in-None
returns-in-None c v is_up seen up =
    stepped v (fed_stream (site_of c.args.site.now) is_up v c.args.count c.args.random.now (Some (opening c.args.opened.now))) (Refuses NoRoute) (Err NoRoute)
    (stream_shown (site_of c.args.site.now) is_up v c.args.count c.args.random.now c.args.opened.now true None
    (sym c.if-not-has_end.false ∙ c.has_end.ensures (site_of c.args.site.now) v seen c.home.ensures)
    (c.in-None.ensures is_up up ∙ ap (λ (me : ℕ). route (site_of c.args.site.now) is_up me c.home-2.result) (sym (c.me.ensures v seen)) ∙ ap (route (site_of c.args.site.now) is_up v.me) c.home-2.ensures))
    refl

pub returns-in-Some : goal.returns-in-Some
returns-in-Some c v is_up seen up =
    stepped v (fed_stream (site_of c.args.site.now) is_up v c.args.count c.args.random.now (Some (opening c.args.opened.now)))
    (fed v c.args.opened.now.stream c.args.opened.now.source c.args.opened.now.octets c.args.count c.args.random.now (Some c.in-Some.route)) c.fed.result
    (stream_shown (site_of c.args.site.now) is_up v c.args.count c.args.random.now c.args.opened.now true (Some c.in-Some.route)
    (sym c.if-not-has_end.false ∙ c.has_end.ensures (site_of c.args.site.now) v seen c.home.ensures)
    (c.in-Some.ensures is_up up ∙ ap (λ (me : ℕ). route (site_of c.args.site.now) is_up me c.home-2.result) (sym (c.me.ensures v seen)) ∙ ap (route (site_of c.args.site.now) is_up v.me) c.home-2.ensures))
    (c.fed.ensures v seen)
