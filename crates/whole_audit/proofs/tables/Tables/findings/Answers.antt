use Rattle.std.proofs.Common.{◌≡◌, ℕ, Bool, ◌||◌, eqb, Option, refl, ap, ◌∙◌}
use Rattle.std.specs.List.{position_from}
use Rattle.run_types.specs.declared.command.Command.{Command}
use Rattle.whole_audit.specs.Lines.{command_at}
use Rattle.item_audit.specs.Asked.{asked_at}
use Rattle.item_audit.specs.declared.said.Said.{Said}
use Rattle.item_audit.specs.declared.given.Given.{Given}
use Rattle.item_audit.specs.Sayings.{said_at, said_of_node}
use Rattle.whole_audit.specs.Managers.{said, is_node_up, is_so, rule_8, burns}
use Rattle.item_audit.specs.Gifts.{given_if}
use Rattle.whole_audit.specs.Names.{given, names_of, names_follow, keys_were_given, frame_was_given, shown_was_given}
use Rattle.whole_audit.specs.declared.blocks.Count.{Count}
use Rattle.whole_audit.specs.Tracks.{in_block, has_no_gap, comes_rightly}
use Rattle.whole_audit.specs.declared.rests.Rest.{Rest}
use Rattle.whole_audit.specs.Rests.{asked_if, rest_of}
use Rattle.whole_audit.specs.Turns.{gives_if, gives_next, follows_frame, is_in_turn}
use Rattle.whole_audit.specs.Kept.{named_at, rest_at}
use Rattle.whole_audit.specs.Blocks.{rule_9}
use Rattle.whole_audit.specs.Claims.{rule_10}
use Rattle.whole_audit.specs.Sums.{rule_11, lacks_bytes}
use Rattle.whole_audit.specs.Knowledge.{is_known}
use Rattle.item_audit.specs.declared.stocks.Change.{Change}
use Rattle.item_audit.specs.Stocks.{ready_if}
use Rattle.whole_audit.specs.Frames.{comes_whole}
use Rattle.whole_audit.specs.Handings.{shows_handed, refuses_handed, refuses_handed_of}
use Rattle.whole_audit.specs.Pools.{ready, stock_of, is_in_stock}
use Rattle.whole_audit.specs.Shorts.{rule_17}
use Rattle.whole_audit.proofs.tables.Tables.findings.Goals as goal

pub returns : goal.returns
returns c before kept stands inside =
    let blocks : c.fits.result ≡ rule_9 before c.args.told.now = c.fits.ensures before kept.counts in
    let claims : c.claims.result ≡ rule_10 before c.args.told.now.item = c.claims.ensures before kept.counts kept.down in
    let sums : c.sums.result ≡ rule_11 before c.args.told.now.item = c.sums.ensures before kept.counts kept.tracks in
    let shorts : c.falls_short.result ≡ rule_17 before c.args.told.now.item = c.falls_short.ensures before kept.counts kept.down kept.tracks in
    let asked : c.asked_at.result ≡ asked_at c.args.scenario.now.site (command_at c.args.scenario.now c.args.told.now.number) c.args.told.now.item =
    c.asked_at.ensures ∙ ap (λ (o : Option Command). asked_at c.args.scenario.now.site o c.args.told.now.item) (c.command-command.ensures kept.spots) in
    let said_so : c.said_in.result ≡ said c.args.scenario.now c.args.told.now =
    c.said_in.ensures ∙ ap (λ (o : Option Command). said_of_node (position_from (λ n. eqb n c.args.told.now.number) 0 c.args.scenario.now.node_lines) (said_at c.args.scenario.now.site o c.args.told.now.item)) (c.command-command.ensures kept.spots) in
    let managers : c.is_so.result ≡ rule_8 c.args.scenario.now before c.args.told.now =
    c.is_so.ensures c.args.scenario.now before kept.managers ∙ ap (λ (o : Option Said). is_so o (λ v. is_node_up c.args.scenario.now v before)) said_so in
    let given_so : c.given_if.result ≡ given c.args.scenario.now c.args.told.now =
    c.given_if.ensures ∙ ap (λ (o : Option Command). given_if c.args.scenario.now.site o c.args.told.now.item) (c.command-command.ensures kept.spots) in
    let names : c.follow.result ≡ names_follow (given c.args.scenario.now c.args.told.now) (λ v. names_of c.args.scenario.now v before) =
    c.follow.ensures c.args.scenario.now before kept.names ∙ ap (λ (o : Option Given). names_follow o (λ v. names_of c.args.scenario.now v before)) given_so in
    let burnt : c.burns.result ≡ burns c.args.scenario.now before c.args.told.now.item = c.burns.ensures c.args.scenario.now before refl kept.started in
    let same : named_at c.args.self.now.names ≡ (λ v. names_of c.args.scenario.now v before) = λ i v. kept.names v i in
    let handed : c.gave_keys.result ≡ keys_were_given (λ v. names_of c.args.scenario.now v before) c.args.told.now.item =
    c.gave_keys.ensures ∙ ap (λ (names : ℕ → Count). keys_were_given names c.args.told.now.item) same in
    let heard : c.gave_frame.result ≡ frame_was_given (λ v. names_of c.args.scenario.now v before) c.args.told.now.item =
    c.gave_frame.ensures ∙ ap (λ (names : ℕ → Count). frame_was_given names c.args.told.now.item) same in
    let shown : c.gave_shown.result ≡ shown_was_given (λ v. names_of c.args.scenario.now v before) c.args.told.now.item =
    c.gave_shown.ensures ∙ ap (λ (names : ℕ → Count). shown_was_given names c.args.told.now.item) same in
    let rest : c.at-rest.result ≡ rest_of c.args.scenario.now c.args.told.now.number before =
    c.at-rest.ensures ∙ ap (λ (o : Option Command). rest_at c.args.self.now.rests c.args.told.now.number (asked_if o)) (c.command-command.ensures kept.spots) ∙ kept.rests c.args.told.now.number in
    let gives : c.gives_if.result ≡ gives_next c.args.scenario.now before c.args.told.now =
    c.gives_if.ensures
    ∙ ap (λ (o : Option Command). gives_if c.args.scenario.now.site o c.args.told.now.item c.at-rest.result) (c.command-command.ensures kept.spots)
    ∙ ap (gives_if c.args.scenario.now.site (command_at c.args.scenario.now c.args.told.now.number) c.args.told.now.item) rest in
    let turns : c.is_in_turn.result ≡ is_in_turn c.args.scenario.now before c.args.told.now =
    c.is_in_turn.ensures
    ∙ ap (λ (b : Bool). b || follows_frame c.args.told.now.item c.at-rest.result) inside
    ∙ ap (λ (r : Rest). in_block c.args.scenario.now before c.args.told.now || follows_frame c.args.told.now.item r) rest in
    let gaps : c.has_no_gap.result ≡ has_no_gap c.args.scenario.now before c.args.told.now = c.has_no_gap.ensures c.args.told.now before refl inside kept.started kept.tracks in
    let comes : c.comes.result ≡ comes_rightly before c.args.told.now.item = c.comes.ensures before kept.tracks in
    let lacks : c.lacks_bytes.result ≡ lacks_bytes before c.args.told.now.item = c.lacks_bytes.ensures before kept.counts in
    let known : c.is_known.result ≡ is_known c.args.scenario.now before c.args.told.now.item = c.is_known.ensures c.args.scenario.now before refl kept.stopped kept.arrivals kept.knowledge in
    let whole : c.fit.result ≡ comes_whole before c.args.told.now.item = c.fit.ensures before kept.counts kept.frames in
    let given_there : c.fit_shown.result ≡ shows_handed c.args.scenario.now before c.args.told.now.item = c.fit_shown.ensures c.args.scenario.now before kept.stopped kept.handings in
    let refused : c.fit_refusal.result ≡ refuses_handed c.args.scenario.now before c.args.told.now =
    c.fit_refusal.ensures c.args.scenario.now before kept.stopped kept.handings ∙ ap (λ (o : Option Command). refuses_handed_of c.args.scenario.now before o c.args.told.now.item) (c.command-command.ensures kept.spots) in
    let ready_so : c.ready_if.result ≡ ready c.args.scenario.now c.args.told.now =
    c.ready_if.ensures ∙ ap (λ (o : Option Command). ready_if o c.args.told.now.item) (c.command-command.ensures kept.spots) in
    let stocks : c.have.result ≡ is_in_stock (ready c.args.scenario.now c.args.told.now) (λ p. stock_of c.args.scenario.now p before) =
    c.have.ensures c.args.scenario.now before kept.pools ∙ ap (λ (o : Option Change). is_in_stock o (λ p. stock_of c.args.scenario.now p before)) ready_so in
    λ i. record { order = stands i; gives = gives i; turns = turns i; managers = managers i; blocks = blocks i; claims = claims i; gaps = gaps i; comes = comes i; lacks = lacks i; known = known i; whole = whole i; stocks = stocks i; given = given_there i; refused = refused i; sums = sums i; burns = burnt i; names = names i; handed = handed i; heard = heard i; shown = shown i; shorts = shorts i; asked = asked i }
