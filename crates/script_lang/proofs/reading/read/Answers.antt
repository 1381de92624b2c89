use Rattle.std.proofs.Common.{sym, ap, ◌∙◌, option_map}
use Rattle.script_lang.specs.Parts.{parted}
use Rattle.script_lang.proofs.Rests.{Reads-begin, Reads-more, Reads-none, Reads-end, rest_shorter, chars-empty, chars-some}
use Rattle.script_lang.proofs.reading.read.Goals as goal

pub loop-rest-init : goal.loop-rest-init
loop-rest-init c = record { text = c.skip_white-rest.utf8; reads = rw c.new-script.ensures (Reads-begin _ _ c.skip_white-rest.ensures) }

pub returns-in_default : goal.returns-in_default
returns-in_default c =
    Reads-none _ _ _ c.loop-rest.invariant.reads (chars-some _ c.loop-rest.invariant.text c.loop-rest-test.ensures) (sym (ap (option_map parted) c.in_default.is) ∙ c.in_ok-statement.ensures)

pub loop-rest-smaller : goal.loop-rest-smaller
loop-rest-smaller c =
    rest_shorter _ _ _ (sym c.in_ok-statement.ensures ∙ ap (option_map parted) c.in-Some.is) c.skip_white-rest-in-loop-rest.ensures

pub loop-rest-preserved : goal.loop-rest-preserved
loop-rest-preserved c = record {
  text = c.skip_white-rest-in-loop-rest.utf8;
  reads = rw c.in_ok-push.ensures.ok (Reads-more _ _ _ _ _ c.loop-rest.invariant.reads (sym c.in_ok-statement.ensures ∙ ap (option_map parted) c.in-Some.is) c.skip_white-rest-in-loop-rest.ensures);
}

pub returns : goal.returns
returns c = Reads-end _ _ _ c.loop-rest.invariant.reads (chars-empty _ c.loop-rest-test.ensures)
