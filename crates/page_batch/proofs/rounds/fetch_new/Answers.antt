use Rattle.std.proofs.Common.{◌≡◌, [], ◌∷◌, None, true, sym, subst, ◌∙◌, rules}
use Rattle.std.specs.Str.{chars}
use Rattle.serial.specs.Scripts.{is_lawful}
use Rattle.core_steps.specs.Journals.{found}
use Rattle.outside.specs.declared.traits.Port.TheVariants as port
use Rattle.page_turns.specs.declared.scripts.TheConstants.{SCRIPT_LIMIT}
use Rattle.page_turns.specs.Given.{MayGive, given_of}
use Rattle.page_turns.specs.Scripts.{path_of, BeginsFile}
use Rattle.page_turns.proofs.LineLemmas.{on_err}
use Rattle.page_batch.specs.Rounds.{FetchesOrSpends}
use Rattle.page_batch.proofs.FetchLemmas.{more-none, more-cut, none-there, fetched-new, spent-new}
use Rattle.page_batch.proofs.rounds.fetch_new.Goals as goal

pub fetch_script-requires : goal.fetch_script-requires
fetch_script-requires g c =
    let lawful = subst (λ n. is_lawful n ≡ true) c.as_str-2.ensures (sym c.is_lawful.ensures ∙ c.if-not-is_lawful.false) in
    subst (λ n. is_lawful n ≡ true) (sym c.as_str-3.ensures) lawful

pub returns-then-is_some : goal.returns-then-is_some
returns-then-is_some g c = record { fetched = more-none [] c.args.dir.now (g.F.Outside.seen c.args.files.now) c.args.table.now; spent = search rules; others = search rules }

pub returns-then-not-is_lawful : goal.returns-then-not-is_lawful
returns-then-not-is_lawful g c = record { fetched = search rules; spent = ([], more-none [] c.args.dir.now (g.F.Outside.seen c.args.files.now) c.args.table.now); others = search rules }

pub returns-in_err-fetch : goal.returns-in_err-fetch
returns-in_err-fetch g c =
    let at = g.F.Outside.seen in
    let fresh = subst (λ n. found n c.args.table.now ≡ None) c.as_str.ensures (none-there c.find.result (found (chars c.as_str.result.now) c.args.table.now ≡ None) c.is_some.result c.is_some.ensures c.if-is_some.false c.find.ensures.none) in
    let lawful = subst (λ n. is_lawful n ≡ true) c.as_str-2.ensures (sym c.is_lawful.ensures ∙ c.if-not-is_lawful.false) in
    let begins = subst (λ n. BeginsFile c.args.dir.now n (at c.args.files.now) (at c.fetch_script.new.files)) c.as_str-3.ensures c.fetch_script.ensures.begins in
    let spent : FetchesOrSpends c.args.dir.now (at c.args.files.now) (at c.fetch_script.new.files) c.args.table.now c.args.table.now =
    (c.args.name.now ∷ [], more-cut c.args.dir.now c.args.name.now (at c.args.files.now) (at c.fetch_script.new.files) lawful c.args.table.now fresh (c.fetch_script.ensures.others.faults port.Script) begins) in
    record { fetched = search rules; spent = on_err _ _ spent; others = search rules }

pub returns-in_err-copy : goal.returns-in_err-copy
returns-in_err-copy g c =
    let at = g.F.Outside.seen in
    let fresh = subst (λ n. found n c.args.table.now ≡ None) c.as_str.ensures (none-there c.find.result (found (chars c.as_str.result.now) c.args.table.now ≡ None) c.is_some.result c.is_some.ensures c.if-is_some.false c.find.ensures.none) in
    let lawful = subst (λ n. is_lawful n ≡ true) c.as_str-2.ensures (sym c.is_lawful.ensures ∙ c.if-not-is_lawful.false) in
    let begins = subst (λ n. BeginsFile c.args.dir.now n (at c.args.files.now) (at c.fetch_script.new.files)) c.as_str-3.ensures c.fetch_script.ensures.begins in
    let spent : FetchesOrSpends c.args.dir.now (at c.args.files.now) (at c.fetch_script.new.files) c.args.table.now c.args.table.now =
    (c.args.name.now ∷ [], more-cut c.args.dir.now c.args.name.now (at c.args.files.now) (at c.fetch_script.new.files) lawful c.args.table.now fresh (c.fetch_script.ensures.others.faults port.Script) begins) in
    record { fetched = search rules; spent = on_err _ _ spent; others = search rules }

pub returns : goal.returns
returns g c =
    let at = g.F.Outside.seen in
    let fresh = subst (λ n. found n c.args.table.now ≡ None) c.as_str.ensures (none-there c.find.result (found (chars c.as_str.result.now) c.args.table.now ≡ None) c.is_some.result c.is_some.ensures c.if-is_some.false c.find.ensures.none) in
    let lawful = subst (λ n. is_lawful n ≡ true) c.as_str-2.ensures (sym c.is_lawful.ensures ∙ c.if-not-is_lawful.false) in
    let begins = subst (λ n. BeginsFile c.args.dir.now n (at c.args.files.now) (at c.fetch_script.new.files)) c.as_str-3.ensures c.fetch_script.ensures.begins in
    let may = subst (λ n. MayGive SCRIPT_LIMIT port.Script (path_of c.args.dir.now n) (at c.args.files.now) (at c.fetch_script.new.files) (given_of c.in_ok-fetch.fetch)) c.as_str-3.ensures c.in_ok-fetch.ensures.given in
    record {
      fetched = fetched-new c.add.result c.args.dir.now c.args.name.now _ (at c.args.files.now) (at c.fetch_script.new.files) lawful c.args.table.now c.add.new.self fresh (c.fetch_script.ensures.others.faults port.Script) begins c.in_ok-fetch.fetch may c.in_ok-copy.ensures c.add.ensures.ok;
      spent = spent-new c.add.result c.args.dir.now c.args.name.now (at c.args.files.now) (at c.fetch_script.new.files) lawful c.args.table.now c.add.new.self fresh (c.fetch_script.ensures.others.faults port.Script) begins c.add.ensures.err;
      others = search rules;
    }
