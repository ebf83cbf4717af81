-- The lines that ask for something, each read from the words after its first one.
use Rattle.std.specs.Prelude.{ℕ, not, ◌&&◌, ◌==◌, nat_le, if◌then◌else◌, List, [], ◌∷◌, ◌++◌, length, Option, Some, None}
use Rattle.std.specs.List.{list_any}
use Rattle.qkd_base.specs.Name.{Name}
use Rattle.declared_site.specs.declared.site.Site.{Site}
use Rattle.run_types.specs.declared.command.Command.{Command}
use Rattle.run_types.specs.declared.command.Command.TheVariants.{Bits, Fill, Feed, Tick, Settle, Pass, Flip, Forge, Crash, Start, Cut, Fail, LinkUp, LinkDown, Enc, Dec, Status, Http, Show, Ledger, FillGroup, EncGroup}
use Rattle.scenario_text.specs.Words.{◌>>=◌, Word, first_of, one_of, two_of, three_of, four_of, five_of, number_of, number_in}
use Rattle.scenario_text.specs.Fields.{node_of, sae_of, link_of, lane_of, name_of, size_of, ends_named, image_named, octets_of_hex}

-- `bits LINK low|high|both COUNT`: COUNT is 1 to 1,024 blocks
unfoldable pub bits_at : Site → List Word → Option Command
bits_at site ws = do
  w ← three_of ws
  link ← link_of site w.0
  ends ← ends_named w.1
  count ← number_in 1 1024 w.2
  Some (Bits link ends count)

-- `fill ID ID BITS COUNT`: master and slave; COUNT is 1 to 128 keys
unfoldable pub fill_at : Site → List Word → Option Command
fill_at site ws = do
  w ← four_of ws
  master ← sae_of site w.0
  slave ← sae_of site w.1
  bits ← size_of w.2
  count ← number_in 1 128 w.3
  Some (Fill master slave bits count)

-- `tick NAME`
unfoldable pub tick_at : Site → List Word → Option Command
tick_at site ws = do
  w ← one_of ws
  node ← node_of site w
  Some (Tick node)

-- `settle ROUNDS`: 1 to 1,000 rounds
unfoldable pub settle_at : List Word → Option Command
settle_at ws = do
  w ← one_of ws
  rounds ← number_in 1 1000 w
  Some (Settle rounds)

-- `pass LINK WAY NUMBER`
unfoldable pub pass_at : Site → List Word → Option Command
pass_at site ws = do
  w ← three_of ws
  lane ← lane_of site w.0 w.1
  number ← number_of w.2
  Some (Pass lane number)

-- `flip LINK WAY NUMBER BIT`
unfoldable pub flip_at : Site → List Word → Option Command
flip_at site ws = do
  w ← four_of ws
  lane ← lane_of site w.0 w.1
  number ← number_of w.2
  bit ← number_of w.3
  Some (Flip lane number bit)

-- `forge LINK WAY HEX`: 1 to 600 octets
unfoldable pub forge_at : Site → List Word → Option Command
forge_at site ws = do
  w ← three_of ws
  lane ← lane_of site w.0 w.1
  octets ← octets_of_hex 600 w.2
  Some (Forge lane octets)

-- `crash NAME`
unfoldable pub crash_at : Site → List Word → Option Command
crash_at site ws = do
  w ← one_of ws
  node ← node_of site w
  Some (Crash node)

-- `start NAME`
unfoldable pub start_at : Site → List Word → Option Command
start_at site ws = do
  w ← one_of ws
  node ← node_of site w
  Some (Start node)

-- `cut NAME CALL lost|kept|torn`: CALL is 1 to 1,000,000
unfoldable pub cut_at : Site → List Word → Option Command
cut_at site ws = do
  w ← three_of ws
  node ← node_of site w.0
  call ← number_in 1 1000000 w.1
  image ← image_named w.2
  Some (Cut node call image)

-- `fail NAME CALL`: CALL is 1 to 1,000,000
unfoldable pub fail_at : Site → List Word → Option Command
fail_at site ws = do
  w ← two_of ws
  node ← node_of site w.0
  call ← number_in 1 1000000 w.1
  Some (Fail node call)

-- `link-up LINK`
unfoldable pub link_up_at : Site → List Word → Option Command
link_up_at site ws = do
  w ← one_of ws
  link ← link_of site w
  Some (LinkUp link)

-- `link-down LINK`
unfoldable pub link_down_at : Site → List Word → Option Command
link_down_at site ws = do
  w ← one_of ws
  link ← link_of site w
  Some (LinkDown link)

-- `enc NAME ID ID COUNT BITS`: node, master and slave; COUNT is 1 to 128 keys
unfoldable pub enc_at : Site → List Word → Option Command
enc_at site ws = do
  w ← five_of ws
  node ← node_of site w.0
  master ← sae_of site w.1
  slave ← sae_of site w.2
  count ← number_in 1 128 w.3
  bits ← size_of w.4
  Some (Enc node master slave count bits)

-- the names that the words spell
abbrev pub names_of : List Word → Option (List Name)
names_of [] = Some []
names_of (w ∷ ws) = do
  name ← name_of w
  names ← names_of ws
  Some (name ∷ names)

-- 1 to 128 names
unfoldable pub few_names_of : List Word → Option (List Name)
few_names_of ws = if nat_le 1 (length ws) && nat_le (length ws) 128 then names_of ws else None

-- `dec NAME ID ID KEY ..`: node, slave and master
unfoldable pub dec_at : Site → List Word → Option Command
dec_at site ws = do
  a ← first_of ws
  b ← first_of a.1
  c ← first_of b.1
  node ← node_of site a.0
  slave ← sae_of site b.0
  master ← sae_of site c.0
  names ← few_names_of c.1
  Some (Dec node slave master names)

-- `status NAME ID ID`: node, master and slave
unfoldable pub status_at : Site → List Word → Option Command
status_at site ws = do
  w ← three_of ws
  node ← node_of site w.0
  master ← sae_of site w.1
  slave ← sae_of site w.2
  Some (Status node master slave)

-- `http NAME HEX`: 1 to 73,728 octets
unfoldable pub http_at : Site → List Word → Option Command
http_at site ws = do
  w ← two_of ws
  node ← node_of site w.0
  octets ← octets_of_hex 73728 w.1
  Some (Http node octets)

-- `show NAME KEY`: KEY is a name of any kind
unfoldable pub show_at : Site → List Word → Option Command
show_at site ws = do
  w ← two_of ws
  node ← node_of site w.0
  name ← name_of w.1
  Some (Show node name)

-- `feed STREAM COUNT`: STREAM is a name of any kind, given by a declared node; COUNT is 1 to 128 chunks
unfoldable pub feed_at : Site → List Word → Option Command
feed_at site ws = do
  w ← two_of ws
  name ← name_of w.0
  count ← number_in 1 128 w.1
  if not (nat_le (length site.nodes) name.node) then Some (Feed name count) else None

-- `ledger LINK WAY`
unfoldable pub ledger_at : Site → List Word → Option Command
ledger_at site ws = do
  w ← two_of ws
  lane ← lane_of site w.0 w.1
  Some (Ledger lane)

-- ---- groups

-- the applications that the words name, added to those before them; no application may occur twice
abbrev pub slaves_after : Site → List ℕ → List Word → Option (List ℕ)
slaves_after site before [] = Some before
slaves_after site before (w ∷ ws) = do
  sae ← sae_of site w
  if list_any (λ other. other == sae) before then None else slaves_after site (before ++ sae ∷ []) ws

-- 2 to 5 different applications
unfoldable pub group_of : Site → List Word → Option (List ℕ)
group_of site ws = if nat_le 2 (length ws) && nat_le (length ws) 5 then slaves_after site [] ws else None

-- `fill-group ID BITS COUNT ID ID ..`: the master, 1 to 128 keys, and the slaves
unfoldable pub fill_group_at : Site → List Word → Option Command
fill_group_at site ws = do
  a ← first_of ws
  b ← first_of a.1
  c ← first_of b.1
  master ← sae_of site a.0
  bits ← size_of b.0
  count ← number_in 1 128 c.0
  slaves ← group_of site c.1
  Some (FillGroup master bits count slaves)

-- `enc-group NAME ID COUNT BITS ID ID ..`: the node, the master, 1 to 128 keys, and the slaves
unfoldable pub enc_group_at : Site → List Word → Option Command
enc_group_at site ws = do
  a ← first_of ws
  b ← first_of a.1
  c ← first_of b.1
  d ← first_of c.1
  node ← node_of site a.0
  master ← sae_of site b.0
  count ← number_in 1 128 c.0
  bits ← size_of d.0
  slaves ← group_of site d.1
  Some (EncGroup node master count bits slaves)
