-- If a line fits the site, so does the event that it asks of a manager.
use Rattle.std.proofs.Common.{◌≡◌, ℕ, true, false, List, [], Bool, refl, subst}
use Rattle.net_model.specs.Action.{Ok, Ask}
use Rattle.declared_site.specs.declared.site.Site.{Site}
use Rattle.declared_site.specs.SiteOf.{site_of}
use Rattle.run_types.specs.declared.command.Command.{Command}
use Rattle.run_types.specs.declared.command.Command.TheVariants as commands
use Rattle.run_model.specs.Turn.{HttpTexts, Unasked, AnswersAtOnce, turn_of}
use Rattle.run_ops.specs.declared.asked.Asked.{Asked as AskedValue}
use Rattle.run_ops.specs.Asking.{Asks}
use Rattle.run_ops.specs.Runnable.{IsFit, IsTurnFor, IsCommandFor}

-- The texts of HTTP under which every request is answered at once.
abbrev no_requests : HttpTexts
no_requests = record { request = λ v octets. AnswersAtOnce 0 []; response = λ event reply. (0, []) }

-- The line is a tick, whose script depends on the answer to its plan.
abbrev pub is_tick : Command → Bool
is_tick (commands.Tick v) = true
is_tick _ = false

fits_by : (d : Site) (c : Command) (asked : AskedValue) → ((http : HttpTexts) → IsTurnFor d (turn_of http (site_of d) c)) → Asks d c asked → IsFit d (Ask asked.node asked.event Ok)
fits_by d c asked h asks = subst (IsTurnFor d) (asks no_requests) (h no_requests)

-- A line that asks nothing of the network asks no event of a manager.
never : (d : Site) (c : Command) (asked : AskedValue) → turn_of no_requests (site_of d) c ≡ Unasked [] → Asks d c asked → ⊥
never d c asked none asks = let asked_for = asks no_requests in cc

-- A request over HTTP that is answered at once asks no event of a manager.
never_http : (d : Site) (v : ℕ) (octets : List ℕ) (asked : AskedValue) → Asks d (commands.Http v octets) asked → ⊥
unfolding turn_of
never_http d v octets asked asks = let asked_for = asks no_requests in cc

pub asked_fits : (d : Site) (c : Command) (asked : AskedValue) → IsCommandFor d c → is_tick c ≡ false → Asks d c asked → IsFit d (Ask asked.node asked.event Ok)
unfolding turn_of
asked_fits d (commands.Bits link ends count) asked h other asks = absurd (never d (commands.Bits link ends count) asked refl asks)
asked_fits d (commands.Settle rounds) asked h other asks = absurd (never d (commands.Settle rounds) asked refl asks)
asked_fits d (commands.Ledger l) asked h other asks = absurd (never d (commands.Ledger l) asked refl asks)
asked_fits d (commands.Http v octets) asked h other asks = absurd (never_http d v octets asked asks)
asked_fits d (commands.Tick v) asked h other asks = absurd cc
asked_fits d (commands.Fill master slave bits count) asked h other asks = fits_by d (commands.Fill master slave bits count) asked h asks
asked_fits d (commands.Feed stream count) asked h other asks = fits_by d (commands.Feed stream count) asked h asks
asked_fits d (commands.Pass lane number) asked h other asks = fits_by d (commands.Pass lane number) asked h asks
asked_fits d (commands.Flip lane number bit) asked h other asks = fits_by d (commands.Flip lane number bit) asked h asks
asked_fits d (commands.Forge lane octets) asked h other asks = fits_by d (commands.Forge lane octets) asked h asks
asked_fits d (commands.Crash v) asked h other asks = fits_by d (commands.Crash v) asked h asks
asked_fits d (commands.Start v) asked h other asks = fits_by d (commands.Start v) asked h asks
asked_fits d (commands.Cut v call image) asked h other asks = fits_by d (commands.Cut v call image) asked h asks
asked_fits d (commands.Fail v call) asked h other asks = fits_by d (commands.Fail v call) asked h asks
asked_fits d (commands.LinkUp link) asked h other asks = fits_by d (commands.LinkUp link) asked h asks
asked_fits d (commands.LinkDown link) asked h other asks = fits_by d (commands.LinkDown link) asked h asks
asked_fits d (commands.Enc v master slave count bits) asked h other asks = fits_by d (commands.Enc v master slave count bits) asked h asks
asked_fits d (commands.Dec v slave master names) asked h other asks = fits_by d (commands.Dec v slave master names) asked h asks
asked_fits d (commands.Status v master slave) asked h other asks = fits_by d (commands.Status v master slave) asked h asks
asked_fits d (commands.Stream v call) asked h other asks = fits_by d (commands.Stream v call) asked h asks
asked_fits d (commands.Show v name) asked h other asks = fits_by d (commands.Show v name) asked h asks
asked_fits d (commands.FillGroup master bits count slaves) asked h other asks = fits_by d (commands.FillGroup master bits count slaves) asked h asks
asked_fits d (commands.EncGroup v master count bits slaves) asked h other asks = fits_by d (commands.EncGroup v master count bits slaves) asked h asks
