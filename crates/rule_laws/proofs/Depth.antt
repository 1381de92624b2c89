-- At most 512 elements are ever open: one is opened only where there is room.
use Rattle.std.proofs.Common.{List, arith}
use Rattle.html_types.specs.declared.word.Word.{Word}
use Rattle.html_types.specs.declared.operation.Op.{Op}
use Rattle.html_types.specs.declared.open.Open.{Open}
use Rattle.standard.specs.Adoption.{adopt}
use Rattle.standard.specs.Rules.{process, construct}
use Rattle.rule_laws.specs.Depth.{IsShallow, TokensStayShallow, RoundsStayShallow, OpeningIsShallow}
use Rattle.rule_laws.proofs.AdoptionDepth.{adopt_depth}
use Rattle.rule_laws.proofs.Counts.{count-all}
use Rattle.rule_laws.proofs.Readings.{Small}
use Rattle.rule_laws.proofs.Pending.{room-small, thin-fewer}
use Rattle.rule_laws.proofs.Closed.{IsClosedWhole, process-in, construct-in}

adopt-small : (w : Word) (b : Open) (o : List Op) → Small b → Small (adopt w b o).open_state
adopt-small w b o s =
    let l = adopt_depth w b o in
    let before = count-all b.stack in
    let after = count-all (adopt w b o).open_state.stack in
    omega (arith, l, before, after, s)

-- no more than 512 are open if no more were
abbrev Stays : Open → Open → Type 0
Stays b c = Small b → Small c

stays : IsClosedWhole Stays
stays = record {
  parts = record {
    same = λ b s. s;
    onward = λ a b c f g s. g (f s);
    opens = λ b e r s. room-small b r;
    thins = λ b es h s. let l = thin-fewer b.stack es h in omega (arith, l, s);
    gives = λ b s. s;
    lists = λ b fs s. s;
    points = λ b head form s. s;
    marks = λ b ok quirks skip foster s. s;
  };
  modes = λ b m original templates s. s;
  pends = λ b text s. s;
  adopts = adopt-small;
}

-- ---- as lengths

small : (b : Open) → IsShallow b → Small b
small b l = let same = count-all b.stack in omega (arith, same, l)

shallow : (b : Open) → Small b → IsShallow b
shallow b s = let same = count-all b.stack in omega (arith, same, s)

pub tokens-shallow : TokensStayShallow
tokens-shallow t b o l = shallow (construct t b o).open_state (construct-in Stays stays t b o (small b l))

pub rounds-shallow : RoundsStayShallow
rounds-shallow n m t b o l = shallow (process n m t b o).open_state (process-in Stays stays n m t b o (small b l))

pub opening-shallow : OpeningIsShallow
opening-shallow realm = omega arith
