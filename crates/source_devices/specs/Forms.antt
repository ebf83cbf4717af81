-- The device, entropy and wire in memory, as values. Their calls are numbered from 0. A call whose number is on the list `fails` fails.
use Rattle.std.specs.Prelude.{ℕ, ◌+◌, ◌*◌, Bool, nat_lt, ◌≤◌, List, [], ◌∷◌, length, take, drop, Option, Some, None, if◌then◌else◌}
use Rattle.qkd_base.specs.Faults.{one_more}
use Rattle.edge_io.specs.Forms.{is_listed}
use Rattle.source_devices.specs.declared.shortage.Shortage.{Shortage}
use Rattle.source_devices.specs.declared.shortage.Shortage.TheVariants.{Failed, End}

pub record DeviceForm : Type 0 where
  pub octets : List ℕ
  pub fails : List ℕ
  pub calls : ℕ
  pub faults : ℕ

-- Why the next call gives no block of this number: the list has no such whole block, or the call is to fail.
abbrev pub block_refusal : DeviceForm → ℕ → Option Shortage
block_refusal s number =
    if nat_lt (length s.octets) (1024 + 1024 * number) then Some End
    else if is_listed s.fails s.calls then Some Failed
    else None

pub record EntropyForm : Type 0 where
  pub left : List ℕ
  pub fails : List ℕ
  pub calls : ℕ
  pub faults : ℕ

-- Why the next call gives no n octets: fewer are left, or the call is to fail.
abbrev pub draw_refusal : EntropyForm → ℕ → Option Shortage
draw_refusal s n =
    if nat_lt (length s.left) n then Some End
    else if is_listed s.fails s.calls then Some Failed
    else None

-- Only a call that fails counts as a fault. The end of the list does not.
abbrev pub faults_after : ℕ → Option Shortage → ℕ
faults_after faults (Some Failed) = one_more faults
faults_after faults (Some End) = faults
faults_after faults None = faults

pub record WireForm : Type 0 where
  pub frames : List (List ℕ)
  pub fails : List ℕ
  pub calls : ℕ
  pub faults : ℕ

-- The next call is to fail.
abbrev pub is_cut : WireForm → Bool
is_cut s = is_listed s.fails s.calls

-- the frame of a span: its start among the octets of all frames, and its length
abbrev pub cut_out : List ℕ → ℕ × ℕ → List ℕ
cut_out octets span = take span.1 (drop span.0 octets)

abbrev pub frames_at : List ℕ → List (ℕ × ℕ) → List (List ℕ)
frames_at octets [] = []
frames_at octets (span ∷ spans) = cut_out octets span ∷ frames_at octets spans

-- Each span lies within the octets and has at most 600 of them.
abbrev pub AllInside : List ℕ → List (ℕ × ℕ) → Type 0
AllInside octets [] = Unit {0}
AllInside octets (span ∷ spans) = (span.0 + span.1 ≤ length octets) × (span.1 ≤ 600) × AllInside octets spans
