-- What an instruction says of the rounds that may follow, and how a row is followed by it.
use Rattle.std.proofs.Common.{◌≡◌, ℕ, ◌+◌, ◌≤◌, ◌<◌, ◌⊎◌, Bool, true, false, ◌&&◌, List, [], ◌∷◌, Option, Some, None}
use Rattle.std.specs.Prelude.{if◌then◌else◌}
use Rattle.html_types.specs.declared.instruction.Instr.{Instr}
use Rattle.html_types.specs.declared.instruction.Instr.TheVariants as ins
use Rattle.html_types.specs.declared.instruction.Mode.{Mode}
use Rattle.html_types.specs.declared.instruction.Mode.TheVariants.{InBody}
use Rattle.html_types.specs.declared.instruction.Who.{Who}
use Rattle.html_types.specs.declared.instruction.Who.TheVariants as who
use Rattle.html_types.specs.declared.instruction.Flow.{Flow}
use Rattle.html_types.specs.declared.instruction.Flow.TheVariants.{On, Skip, Leave}
use Rattle.html_types.specs.declared.instruction.Next.{Next}
use Rattle.html_types.specs.declared.instruction.Next.TheVariants as next
use Rattle.html_types.specs.declared.name.Name.TheVariants.{Known}
use Rattle.html_types.specs.declared.open.Open.{Open}
use Rattle.html_types.specs.declared.open.OpenElement.{OpenElement}
use Rattle.standard.specs.Instructions.{Config}
use Rattle.rule_laws.specs.Rounds.{is_insertion_mode, HasModes}
use Rattle.rule_laws.proofs.Counts.{count, all, is_weighty}

-- ---- instructions that ask for no other round

-- `adoption` says whether the adoption agency algorithm may be asked for
abbrev pub calm_next : Bool → Next → Bool
calm_next adoption next.Reprocess = false
calm_next adoption (next.UsingRules m) = false
calm_next adoption next.InBodyFostering = false
calm_next adoption (next.Adopt w h) = adoption
calm_next adoption _ = true

abbrev pub calm : Bool → Flow → Bool
calm adoption On = true
calm adoption Skip = true
calm adoption (Leave n) = calm_next adoption n

abbrev pub is_quiet : Bool → Instr → Bool
is_quiet adoption ins.Reprocess = false
is_quiet adoption (ins.UsingRules m) = false
is_quiet adoption ins.InBodyFostering = false
is_quiet adoption ins.BreakOut = false
is_quiet adoption ins.ForeignEnd = false
is_quiet adoption ins.Adopt = adoption
is_quiet adoption ins.AdoptAnchor = adoption
is_quiet adoption ins.AdoptNobr = adoption
is_quiet adoption _ = true

abbrev pub all_quiet : Bool → List Instr → Bool
all_quiet adoption [] = true
all_quiet adoption (i ∷ is) = is_quiet adoption i && all_quiet adoption is

-- ---- the weight of an open state: no round makes it more, and those that set a mode anew mostly make it less

abbrev pub kept_weight : Option Mode → ℕ
kept_weight None = 0
kept_weight (Some m) = 1

-- pending characters may open as many elements as there is room for
abbrev pub pending_weight : List ℕ → ℕ
pending_weight [] = 0
pending_weight (c ∷ cs) = 513

-- characters set no mode anew
abbrev pub weight : Bool → List OpenElement → Option Mode → List ℕ → ℕ
weight true es original pending = 0
weight false es original pending = count is_weighty es + (kept_weight original + pending_weight pending)

abbrev pub weight_of : Bool → Open → ℕ
weight_of x b = weight x b.stack b.original b.pending_text

abbrev pub Small : Open → Type 0
Small b = count all b.stack ≤ 512

-- and its modes are insertion modes
abbrev pub Fit : Open → Type 0
Fit b = Small b × HasModes b

-- what is known of an open state in a row that began with a weight of at most v
pub data Fact : Type 0 where
  no_more : Fact
  cut_off : Fact
  at : Mode → Fact
  at_or_fallen : Mode → Fact
  fallen : Fact

abbrev pub Knows : Fact → ℕ → List OpenElement → Mode → ℕ → Type 0
Knows no_more v es m w = w ≤ v
Knows cut_off v es m w = (w < v) ⊎ ((w ≤ v) × (es ≡ []))
Knows (at n) v es m w = (w ≤ v) × (m ≡ n)
Knows (at_or_fallen n) v es m w = (w < v) ⊎ ((w ≤ v) × (m ≡ n))
Knows fallen v es m w = w < v

abbrev pub KnowsOf : Bool → Fact → ℕ → Open → Type 0
KnowsOf x k v b = Knows k v b.stack b.mode (weight_of x b)

-- what an instruction does to that
pub data Move : Type 0 where
  stays : Move
  lowers : Move
  enters : Mode → Move
  cuts : Move
  resets : Move
  restores : Move

abbrev pub reset_known : Fact → Fact
reset_known no_more = no_more
reset_known cut_off = at_or_fallen InBody
reset_known (at m) = no_more
reset_known (at_or_fallen m) = no_more
reset_known fallen = fallen

abbrev pub or_fallen : Fact → Fact → Fact
or_fallen other fallen = fallen
or_fallen other no_more = other
or_fallen other cut_off = other
or_fallen other (at m) = other
or_fallen other (at_or_fallen m) = other

abbrev pub behind : Move → Fact → Fact
behind stays k = k
behind lowers k = or_fallen no_more k
behind (enters m) k = or_fallen (at m) k
behind cuts k = or_fallen cut_off k
behind resets k = reset_known k
behind restores k = or_fallen (at_or_fallen InBody) k

abbrev pub Change : Move → Bool → Open → Open → Type 0
Change move x b b' = (k : Fact) (v : ℕ) → Fit b → KnowsOf x k v b → Fit b' × KnowsOf x (behind move k) v b'

-- ---- kinds of instructions

pub data Kind : Type 0 where
  tame : Move → Kind
  branch : Kind
  goes : Mode → Kind
  again : Kind
  loud : Kind

abbrev pub until_kind : Who → Kind
until_kind (who.The w) = if is_weighty (Known w) then tame cuts else tame lowers
until_kind _ = tame lowers

-- x says whether the token is a character
abbrev pub kind : Bool → Instr → Kind
kind x (ins.Need c) = tame stays
kind x (ins.Forbid c) = tame stays
kind x (ins.When c) = branch
kind x (ins.Unless c) = branch
kind x (ins.InsertA w) = if is_weighty (Known w) then loud else tame lowers
kind x ins.InsertRootA = tame lowers
kind x ins.Pop = tame lowers
kind x (ins.ClearBackTo g) = tame lowers
kind x ins.GenerateImplied = tame lowers
kind x (ins.PopUntil w) = if x then loud else until_kind w
kind x ins.ClearToMarker = tame stays
kind x ins.BecomeQuirky = tame stays
kind x ins.SetHeadPointer = tame stays
kind x (ins.PushTemplateMode m) = if is_insertion_mode m then tame stays else loud
kind x ins.PopTemplateMode = tame stays
kind x (ins.SwitchMode m) = if is_insertion_mode m then tame (enters m) else loud
kind x ins.SaveMode = if x then tame lowers else loud
kind x ins.RestoreMode = if x then loud else tame restores
kind x ins.ResetMode = tame resets
kind x ins.InsertPending = if x then loud else tame lowers
kind x (ins.UsingRules m) = goes m
kind x ins.InBodyFostering = goes InBody
kind x ins.Reprocess = again
kind x _ = loud

abbrev pub Takes : Move → Bool → Open → Open → Flow → Type 0
Takes move x b b' On = Change move x b b'
Takes move x b b' Skip = ⊥
Takes move x b b' (Leave n) = calm_next true n ≡ true

abbrev pub Splits : Bool → Open → Open → Flow → Type 0
Splits x b b' On = Change stays x b b'
Splits x b b' Skip = Change stays x b b'
Splits x b b' (Leave n) = ⊥

abbrev pub GoesBy : Mode → Bool → Open → Open → Next → Type 0
GoesBy m x b b' (next.UsingRules n) = (n ≡ m) × Change stays x b b'
GoesBy m x b b' next.InBodyFostering = (InBody ≡ m) × Change stays x b b'
GoesBy m x b b' _ = ⊥

abbrev pub GoesTo : Mode → Bool → Open → Open → Flow → Type 0
GoesTo m x b b' On = ⊥
GoesTo m x b b' Skip = ⊥
GoesTo m x b b' (Leave n) = GoesBy m x b b' n

abbrev pub Repeats : Bool → Open → Open → Next → Type 0
Repeats x b b' next.Reprocess = Change stays x b b'
Repeats x b b' _ = ⊥

abbrev pub GoesAgain : Bool → Open → Open → Flow → Type 0
GoesAgain x b b' On = ⊥
GoesAgain x b b' Skip = ⊥
GoesAgain x b b' (Leave n) = Repeats x b b' n

abbrev pub Obeys : Kind → Bool → Open → Config → Type 0
Obeys (tame move) x b c = Takes move x b c.open_state c.flow
Obeys branch x b c = Splits x b c.open_state c.flow
Obeys (goes m) x b c = GoesTo m x b c.open_state c.flow
Obeys again x b c = GoesAgain x b c.open_state c.flow
Obeys loud x b c = Unit {0}

-- ---- a row

-- the ways in which a token may go on
pub data Way : Type 0 where
  -- by the rules of that mode
  onto : Mode → Way
  -- once more in that mode, which may be by the rules for foreign content first
  anew : Mode → Way
  -- once more in some mode, where the weight is less
  falls : Way

abbrev pub allows : (Way → Bool) → Fact → Bool
allows h no_more = false
allows h cut_off = false
allows h (at m) = h (anew m)
allows h (at_or_fallen m) = h (anew m) && h falls
allows h fallen = h falls

-- from an instruction on, or from the one behind it where `left_out`: the token is done, or it goes on in a way of which h says yes, with no
-- more weight
abbrev pub walk : Bool → (Way → Bool) → Fact → Bool → List Instr → Bool
walk x h k left_out [] = true
walk x h k true (i ∷ is) = walk x h k false is
walk x h k false (i ∷ is) =
    elim (kind x i) as (λ _. Bool) [
      | tame move ↦ walk x h (behind move k) false is
      | branch ↦ walk x h k false is && walk x h k true is
      | goes m ↦ h (onto m)
      | again ↦ allows h k
      | loud ↦ is_quiet true i && all_quiet true is
    ]

-- ---- what it comes to

-- with no more weight, in that way
abbrev pub Goes : Bool → (Way → Bool) → ℕ → Open → Way → Type 0
Goes x h v b w = (weight_of x b ≤ v) × (h w ≡ true)

abbrev pub FineNext : Bool → (Way → Bool) → ℕ → Open → Next → Type 0
FineNext x h v b next.Reprocess = Fit b × (((weight_of x b < v) × (h falls ≡ true)) ⊎ Goes x h v b (anew b.mode))
FineNext x h v b (next.UsingRules m) = Fit b × Goes x h v b (onto m)
FineNext x h v b next.InBodyFostering = Fit b × Goes x h v b (onto InBody)
FineNext x h v b _ = Unit {0}

abbrev pub FineFlow : Bool → (Way → Bool) → ℕ → Open → Flow → Type 0
FineFlow x h v b On = Unit {0}
FineFlow x h v b Skip = Unit {0}
FineFlow x h v b (Leave n) = FineNext x h v b n

abbrev pub Fine : Bool → (Way → Bool) → ℕ → Config → Type 0
Fine x h v c = FineFlow x h v c.open_state c.flow
