use Rattle.std.proofs.Common.{◌≡◌, ◌++◌, ℕ, true, [], ◌∷◌, sym, ap, ◌∙◌, subst, arith}
use Rattle.standard.specs.Entities.{begins_some}
use Rattle.entity_table.specs.Held.{Holds}
use Rattle.entity_table.proofs.Spelling.{in_spelling}
use Rattle.tokenizer.specs.Whole.{piece}
use Rattle.tokenizer.proofs.OpenLemmas.{held_more, read_same, piece-read, first_is, stopped}
use Rattle.tokenizer.proofs.reference.held_name.Goals as goal

pub returns-in-Stop-clause-stops : goal.returns-in-Stop-clause-stops
returns-in-Stop-clause-stops c =
    let es = c.args.table.now in
    let i = c.loop-c.invariant in
    let next = c.in-Some-char_at in
    let cs = piece c.args.text.now c.args.from c.loop-c.at in
    ap (λ (n : ℕ). begins_some (cs ++ n ∷ []) es) (sym c.as_read.ensures) ∙ stopped (begins_some (cs ++ c.as_read.result ∷ []) es) c.in-Stop.best (c.in-Stop.ensures.more cs i.holds)

pub returns-in-Stop-clause-longest : goal.returns-in-Stop-clause-longest
returns-in-Stop-clause-longest c = c.in-Stop.ensures.stop (piece c.args.text.now c.args.from c.loop-c.at) c.loop-c.invariant.holds

pub returns-in-Stop-clause-next : goal.returns-in-Stop-clause-next
returns-in-Stop-clause-next c = λ d first.
    let i = c.loop-c.invariant in
    let next = c.in-Some-char_at in
    first_is c.args.text.now c.loop-c.at next.behind next.c d c.utf8.text i.boundary next.ensures.boundary next.ensures.read first

pub loop-c-preserved : goal.loop-c-preserved
loop-c-preserved c =
    let es = c.args.table.now in
    let text = c.args.text.now in
    let from = c.args.from in
    let at = c.loop-c.at in
    let i = c.loop-c.invariant in
    let next = c.in-Some-char_at in
    let cs = piece text from at in
    let spelled : in_spelling next.c ≡ true = sym c.is_in_name.ensures ∙ c.if-not-is_in_name.false in
    let same : c.as_read.result ≡ next.c = c.as_read.ensures ∙ read_same next.c spelled in
    let longer : piece text from next.behind ≡ cs ++ next.c ∷ [] =
    piece-read text from at next.behind next.c c.utf8.text c.requires (omega (arith, i.onward)) (omega (arith, next.ensures.onward)) next.ensures.read in
    record {
      boundary = next.ensures.boundary;
      onward = omega (arith, i.onward, next.ensures.onward);
      holds = subst (Holds es c.push.new.self) (ap (λ (n : ℕ). cs ++ n ∷ []) same ∙ sym longer) (c.push.ensures.holds cs i.holds);
      held = held_more es cs (piece text from next.behind) next.c longer spelled
          (ap (λ (n : ℕ). begins_some (cs ++ n ∷ []) es) (sym same) ∙ (c.push.ensures.more cs i.holds).0 c.in-More.is) i.held;
    }
