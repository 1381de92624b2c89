-- What a desk comes to in numbers.
use Rattle.std.specs.Prelude.{◌≡◌, ◌≤◌, ℕ, ◌-◌, ◌^◌, min, length}
use Rattle.standard.specs.Tree.{Nodes, after_node}
use Rattle.serial.specs.Serial.{finished, refused}
use Rattle.core_definitions.specs.Desk.{Phase, free, tagged, waits, done, Desk}
use Rattle.core_steps.specs.declared.tally.Tally.{Tally}

-- how many nodes are below the Document: those that come after it in tree order
abbrev pub nodes_below : Nodes → ℕ
nodes_below t = length (after_node t 0)

-- Each script of the page that was in hand took a realm of ids. Each that failed took one more, and its epoch ended.
abbrev pub failed_by : Desk → ℕ
failed_by d = d.epoch - 1

-- where so many scripts of the page are in hand
abbrev pub kept_by : ℕ → Desk → ℕ
kept_by in_hand d = ((d.realm - d.epoch) - failed_by d) - in_hand

-- So many scripts of the page are in hand. Where the page was refused a desk doesn't show whether one was.
abbrev pub AreInHand : Phase → ℕ → Type 0
AreInHand free n = n ≡ 0
AreInHand (tagged i held) n = n ≡ 1
AreInHand (waits name held) n = n ≡ 1
AreInHand (done finished) n = n ≡ 0
AreInHand (done (refused w)) n = n ≤ 1

-- the numbers of a desk at which so many scripts are in hand; that of the nodes stops at the last value of a u64
abbrev pub tally_of : ℕ → Desk → Tally
tally_of in_hand d = record {
  scripts = d.own.side.executed;
  kept = kept_by in_hand d;
  failed = failed_by d;
  nodes = min (nodes_below d.own.side.doc.tree) (2 ^ 64 - 1);
  written = d.own.side.written;
}

abbrev pub IsTallyOf : Desk → Tally → Type 0
IsTallyOf d t = (in_hand : ℕ) × AreInHand d.phase in_hand × (t ≡ tally_of in_hand d)
