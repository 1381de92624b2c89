use Rattle.std.proofs.lemmas.Str.{IsUtf8-past_char}
use Rattle.foreign_tables.proofs.Reading.{differ, agree, shorter, ended}
use Rattle.foreign_tables.proofs.names.is_lower_of.Goals as goal

pub returns-in_default : goal.returns-in_default
returns-in_default c =
    let held = c.loop-c.invariant in
    shorter _ _ _ _ _ held.0 c.in-Some.ensures.steps.0 c.in_default.ensures.steps.0.0 held.2

pub returns-then-d-to_ascii_lowercase : goal.returns-then-d-to_ascii_lowercase
returns-then-d-to_ascii_lowercase c =
    let held = c.loop-c.invariant in
    differ _ _ _ _ _ _ _ _ held.0 held.1 c.in-Some.ensures.steps.0 c.in-Some-next.ensures.steps.0 c.to_ascii_lowercase.ensures.value c.if-d-to_ascii_lowercase.true held.2

pub loop-c-preserved : goal.loop-c-preserved
loop-c-preserved c =
    let held = c.loop-c.invariant in
    let parts = c.in-Some.ensures.steps.0 in
    let others = c.in-Some-next.ensures.steps.0 in (
      IsUtf8-past_char _ _ c.in-Some.c held.0 parts,
      IsUtf8-past_char _ _ c.in-Some-next.d held.1 others,
      agree _ _ _ _ _ _ _ _ held.0 held.1 parts others c.to_ascii_lowercase.ensures.value c.if-d-to_ascii_lowercase.false held.2,
    )

pub returns : goal.returns
returns c = ended _ _ _ _ _ c.in-None.ensures.steps.0.0 c.next-2.ensures.steps.2 c.is_none.ensures c.loop-c.invariant.2
