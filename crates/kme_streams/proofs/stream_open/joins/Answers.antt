use Rattle.std.proofs.Common.{[], ◌∷◌, ◌*◌, true, false, Some, refl, ◌∙◌, sym}
use Rattle.std.specs.Prelude.{reverse, ◌==◌}
use Rattle.qkd_base.specs.declared.key_name.NameKind.TheVariants.{Note as NoteKind}
use Rattle.net_model.specs.declared.fact.Fact.TheVariants.{Joined}
use Rattle.net_model.specs.declared.record.Record.TheVariants.{Learned}
use Rattle.net_model.specs.declared.reply.Reply.TheVariants.{Stream}
use Rattle.net_model.specs.Decision.{answers, makes, fresh_name}
use Rattle.net_model.specs.Streams.{only_status, joins}
use Rattle.declared_site.specs.SiteOf.{site_of}
use Rattle.kme_streams.specs.Calls.{opening, may_join}
use Rattle.kme_streams.proofs.Deciding.{decided, joins_shown, joined_made}
use Rattle.kme_streams.proofs.stream_open.joins.Goals as goal

pub returns-then-takes_part : goal.returns-then-takes_part
returns-then-takes_part c v seen =
    decided v (joins (site_of c.args.site.now) v c.args.caller c.args.other c.args.bits (Some (opening c.args.opened.now))) (answers v (only_status 5)) c.answer.result
    (joins_shown (site_of c.args.site.now) v c.args.caller c.args.other c.args.bits c.args.opened.now true (may_join (site_of c.args.site.now) v c.args.caller c.args.other c.args.opened.now)
    (8 * c.args.opened.now.octets == c.args.bits) (sym c.if-takes_part.true ∙ c.takes_part.ensures v seen) refl refl)
    (c.answer.ensures v)

pub returns-then-not-may_join : goal.returns-then-not-may_join
returns-then-not-may_join c v seen =
    decided v (joins (site_of c.args.site.now) v c.args.caller c.args.other c.args.bits (Some (opening c.args.opened.now))) (answers v (only_status 8)) c.answer-then-not-may_join.result
    (joins_shown (site_of c.args.site.now) v c.args.caller c.args.other c.args.bits c.args.opened.now false false (8 * c.args.opened.now.octets == c.args.bits)
    (sym c.if-takes_part.false ∙ c.takes_part.ensures v seen) (sym c.if-not-may_join.true ∙ c.may_join.ensures v seen) refl)
    (c.answer-then-not-may_join.ensures v)

pub returns-then-not-has_bits : goal.returns-then-not-has_bits
returns-then-not-has_bits c v seen =
    decided v (joins (site_of c.args.site.now) v c.args.caller c.args.other c.args.bits (Some (opening c.args.opened.now))) (answers v (only_status 7)) c.answer-then-not-has_bits.result
    (joins_shown (site_of c.args.site.now) v c.args.caller c.args.other c.args.bits c.args.opened.now false true false
    (sym c.if-takes_part.false ∙ c.takes_part.ensures v seen) (sym c.if-not-may_join.false ∙ c.may_join.ensures v seen) (sym c.if-not-has_bits.true ∙ c.has_bits.ensures))
    (c.answer-then-not-has_bits.ensures v)

pub returns-in-None : goal.returns-in-None
returns-in-None c v seen =
    decided v (joins (site_of c.args.site.now) v c.args.caller c.args.other c.args.bits (Some (opening c.args.opened.now)))
    (makes v (Learned (Joined (fresh_name v NoteKind 0) c.args.opened.now.stream (reverse c.args.opened.now.route)) ∷ []) (Stream 0 (Some c.args.opened.now.stream) 0 [])) _
    (joins_shown (site_of c.args.site.now) v c.args.caller c.args.other c.args.bits c.args.opened.now false true true
    (sym c.if-takes_part.false ∙ c.takes_part.ensures v seen) (sym c.if-not-may_join.false ∙ c.may_join.ensures v seen) (sym c.if-not-has_bits.false ∙ c.has_bits.ensures))
    (record { step = refl; prompt = λ e. let u : ⊥ = cc in u })

pub returns-in-Some : goal.returns-in-Some
returns-in-Some c v seen =
    decided v (joins (site_of c.args.site.now) v c.args.caller c.args.other c.args.bits (Some (opening c.args.opened.now)))
    (makes v (Learned (Joined c.in-Some.note c.args.opened.now.stream c.reversed.result) ∷ []) (Stream 0 (Some c.args.opened.now.stream) 0 c.new.result)) c.make.result
    (joins_shown (site_of c.args.site.now) v c.args.caller c.args.other c.args.bits c.args.opened.now false true true
    (sym c.if-takes_part.false ∙ c.takes_part.ensures v seen) (sym c.if-not-may_join.false ∙ c.may_join.ensures v seen) (sym c.if-not-has_bits.false ∙ c.has_bits.ensures)
    ∙ joined_made v c.args.opened.now.stream c.args.opened.now.route c.reversed.result c.in-Some.note c.new.result (c.in-Some.ensures v seen) c.reversed.ensures c.new.ensures)
    (c.make.ensures v)
