-- Properties of a reply without orders, and of a plan's reply.
use Rattle.std.proofs.Common.{◌≡◌, List, [], refl, sym, subst, length}
use Rattle.net_model.specs.declared.fact.Fact.{Fact}
use Rattle.net_model.specs.declared.order.Order.{Order}
use Rattle.net_model.specs.declared.repeat.Repeat.{Repeat}
use Rattle.net_model.specs.declared.reply.Reply.{Reply}
use Rattle.net_model.specs.declared.reply.Reply.TheVariants as replies
use Rattle.net_model.specs.declared.short_of.ShortOf.{ShortOf}
use Rattle.net_model.specs.World.{Volatile}
use Rattle.kme_base.specs.declared.change.Change.TheVariants.{Planned}
use Rattle.kme_base.specs.Steps.{orders_of, planned_by}
use Rattle.kme_base.specs.Places.{AreOf, HasBytesFor}
use Rattle.resend_window.specs.Kept.{Kept as Window}
use Rattle.kme_node.specs.Holdings.{Holdings, HasWindowRoom, HasOrdersWithin}

abbrev pub IsNoPlan : Reply → Type 0
IsNoPlan reply = (orders : List Order) (repeats : List Repeat) (shorts : List ShortOf) → reply ≡ replies.Planned orders repeats shorts → ⊥

pub no_orders : (reply : Reply) → IsNoPlan reply → orders_of reply ≡ []
no_orders (replies.Planned orders repeats shorts) none = absurd (none orders repeats shorts refl)
no_orders (replies.Took number) none = refl
no_orders (replies.MadeKeys count first) none = refl
no_orders (replies.HeardFact fresh kind name) none = refl
no_orders (replies.Handed keys) none = refl
no_orders (replies.ReadyCount count) none = refl
no_orders (replies.Stream status stream index bytes) none = refl
no_orders (replies.Shown held bytes) none = refl
no_orders (replies.Counted counts) none = refl
no_orders replies.Noted none = refl
no_orders replies.Down none = refl
no_orders replies.Stopped none = refl
no_orders replies.Memory none = refl
no_orders replies.LinkFull none = refl
no_orders replies.NotAllowed none = refl
no_orders replies.NoRoute none = refl
no_orders replies.PoolFull none = refl
no_orders replies.UnknownStream none = refl
no_orders (replies.JournalFull length need) none = refl
no_orders replies.NoRandom none = refl
no_orders (replies.BadFrame place) none = refl
no_orders (replies.WrongLane link way) none = refl
no_orders (replies.NoBits have) none = refl
no_orders (replies.BadTag given computed) none = refl
no_orders (replies.Few count) none = refl
no_orders (replies.Unknown place) none = refl
no_orders (replies.Repeated place) none = refl
no_orders (replies.AlreadyHanded place) none = refl

pub no_plan : (reply : Reply) (vol : Volatile) → IsNoPlan reply → planned_by reply vol ≡ vol
no_plan (replies.Planned orders repeats shorts) vol none = absurd (none orders repeats shorts refl)
no_plan (replies.Took number) vol none = refl
no_plan (replies.MadeKeys count first) vol none = refl
no_plan (replies.HeardFact fresh kind name) vol none = refl
no_plan (replies.Handed keys) vol none = refl
no_plan (replies.ReadyCount count) vol none = refl
no_plan (replies.Stream status stream index bytes) vol none = refl
no_plan (replies.Shown held bytes) vol none = refl
no_plan (replies.Counted counts) vol none = refl
no_plan replies.Noted vol none = refl
no_plan replies.Down vol none = refl
no_plan replies.Stopped vol none = refl
no_plan replies.Memory vol none = refl
no_plan replies.LinkFull vol none = refl
no_plan replies.NotAllowed vol none = refl
no_plan replies.NoRoute vol none = refl
no_plan replies.PoolFull vol none = refl
no_plan replies.UnknownStream vol none = refl
no_plan (replies.JournalFull length need) vol none = refl
no_plan replies.NoRandom vol none = refl
no_plan (replies.BadFrame place) vol none = refl
no_plan (replies.WrongLane link way) vol none = refl
no_plan (replies.NoBits have) vol none = refl
no_plan (replies.BadTag given computed) vol none = refl
no_plan (replies.Few count) vol none = refl
no_plan (replies.Unknown place) vol none = refl
no_plan (replies.Repeated place) vol none = refl
no_plan (replies.AlreadyHanded place) vol none = refl

pub no_room : (w : Window) (reply : Reply) → IsNoPlan reply → HasWindowRoom w Planned reply
no_room w (replies.Planned orders repeats shorts) none = absurd (none orders repeats shorts refl)
no_room w (replies.Took number) none = tt
no_room w (replies.MadeKeys count first) none = tt
no_room w (replies.HeardFact fresh kind name) none = tt
no_room w (replies.Handed keys) none = tt
no_room w (replies.ReadyCount count) none = tt
no_room w (replies.Stream status stream index bytes) none = tt
no_room w (replies.Shown held bytes) none = tt
no_room w (replies.Counted counts) none = tt
no_room w replies.Noted none = tt
no_room w replies.Down none = tt
no_room w replies.Stopped none = tt
no_room w replies.Memory none = tt
no_room w replies.LinkFull none = tt
no_room w replies.NotAllowed none = tt
no_room w replies.NoRoute none = tt
no_room w replies.PoolFull none = tt
no_room w replies.UnknownStream none = tt
no_room w (replies.JournalFull length need) none = tt
no_room w replies.NoRandom none = tt
no_room w (replies.BadFrame place) none = tt
no_room w (replies.WrongLane link way) none = tt
no_room w (replies.NoBits have) none = tt
no_room w (replies.BadTag given computed) none = tt
no_room w (replies.Few count) none = tt
no_room w (replies.Unknown place) none = tt
no_room w (replies.Repeated place) none = tt
no_room w (replies.AlreadyHanded place) none = tt

-- orders still fit while the same facts are known and the bytes suffice
pub orders_within : (old new : Holdings) (reply : Reply) → new.kept.ends.known.facts ≡ old.kept.ends.known.facts
    → ((orders : List Order) → HasBytesFor orders old.ends.ports → HasBytesFor orders new.ends.ports) → HasOrdersWithin old reply → HasOrdersWithin new reply
orders_within old new (replies.Planned orders repeats shorts) same reach fits = (subst (λ (fs : List Fact). AreOf fs orders) (sym same) fits.0, reach orders fits.1)
orders_within old new (replies.Took number) same reach fits = tt
orders_within old new (replies.MadeKeys count first) same reach fits = tt
orders_within old new (replies.HeardFact fresh kind name) same reach fits = tt
orders_within old new (replies.Handed keys) same reach fits = tt
orders_within old new (replies.ReadyCount count) same reach fits = tt
orders_within old new (replies.Stream status stream index bytes) same reach fits = tt
orders_within old new (replies.Shown held bytes) same reach fits = tt
orders_within old new (replies.Counted counts) same reach fits = tt
orders_within old new replies.Noted same reach fits = tt
orders_within old new replies.Down same reach fits = tt
orders_within old new replies.Stopped same reach fits = tt
orders_within old new replies.Memory same reach fits = tt
orders_within old new replies.LinkFull same reach fits = tt
orders_within old new replies.NotAllowed same reach fits = tt
orders_within old new replies.NoRoute same reach fits = tt
orders_within old new replies.PoolFull same reach fits = tt
orders_within old new replies.UnknownStream same reach fits = tt
orders_within old new (replies.JournalFull length need) same reach fits = tt
orders_within old new replies.NoRandom same reach fits = tt
orders_within old new (replies.BadFrame place) same reach fits = tt
orders_within old new (replies.WrongLane link way) same reach fits = tt
orders_within old new (replies.NoBits have) same reach fits = tt
orders_within old new (replies.BadTag given computed) same reach fits = tt
orders_within old new (replies.Few count) same reach fits = tt
orders_within old new (replies.Unknown place) same reach fits = tt
orders_within old new (replies.Repeated place) same reach fits = tt
orders_within old new (replies.AlreadyHanded place) same reach fits = tt
