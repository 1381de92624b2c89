use Rattle.std.proofs.Common.{◌≡◌, ℕ, ◌+◌, false, drop, sym, ap, ◌∙◌, subst}
use Rattle.std.specs.Str.{IsCharBoundary}
use Rattle.std.specs.List.{list_any, position_or_len}
use Rattle.tokenizer.specs.Whole.{ends, piece}
use Rattle.tokenizer.proofs.FirstLemmas.{boundary-first_from, none-before_first_from}
use Rattle.tokenizer.proofs.PartLemmas.{ends-ascii, run-all, run-no_cr, gap-no_cr}
use Rattle.tokenizer.proofs.part.rest_of.Goals as goal

pub returns-in-Gap-clause-no_cr : goal.returns-in-Gap-clause-no_cr
returns-in-Gap-clause-no_cr c = gap-no_cr (piece c.args.text.now c.args.from c.gap_end.result) c.gap_end.ensures.all

len_is : (c : goal.After-run_len) → c.run_len.result ≡ position_or_len (ends c.args.part) (drop c.args.from c.args.text.now)
len_is c = c.run_len.ensures.first ∙ ap (position_or_len (ends c.args.part)) (c.as_bytes.ensures.value ∙ c.range_from-rest.ensures.value)

none : (c : goal.After-run_len) → list_any (ends c.args.part) (piece c.args.text.now c.args.from (c.args.from + c.run_len.result)) ≡ false
none c =
    subst (λ (n : ℕ). list_any (ends c.args.part) (piece c.args.text.now c.args.from (c.args.from + n)) ≡ false) (sym (len_is c))
    (none-before_first_from (ends c.args.part) c.args.text.now c.args.from (ends-ascii c.args.part) c.utf8.text c.requires)

pub returns-in_default-clause-boundary : goal.returns-in_default-clause-boundary
returns-in_default-clause-boundary c =
    subst (λ (n : ℕ). IsCharBoundary c.args.text.now (c.args.from + n)) (sym (len_is c))
    (boundary-first_from (ends c.args.part) c.args.text.now c.args.from (ends-ascii c.args.part) c.requires)

pub returns-in_default-clause-all : goal.returns-in_default-clause-all
returns-in_default-clause-all c = run-all c.args.part (piece c.args.text.now c.args.from (c.args.from + c.run_len.result)) c.in_default.not-Gap (none c)

pub returns-in_default-clause-no_cr : goal.returns-in_default-clause-no_cr
returns-in_default-clause-no_cr c = run-no_cr c.args.part (piece c.args.text.now c.args.from (c.args.from + c.run_len.result)) (none c)
