use Rattle.std.proofs.Common.{◌≡◌, ◌-◌, ℕ, ◌++◌, length, map, sym, ap, ◌∙◌, arith}
use Rattle.std.specs.Str.{chars}
use Rattle.html_types.specs.declared.operation.Op.{Op}
use Rattle.html_types.specs.declared.operation.Op.TheVariants as op
use Rattle.html_types.specs.Operations.{spelled, spelled_one}
use Rattle.text_store.specs.Stores.{text_at}
use Rattle.text_store.specs.Records.{op_at}
use Rattle.text_store.proofs.RecordLemmas.{records_held, records_same, records_set, spelled_more, record_read, spelled-text_more, on_err_held}
use Rattle.text_store.proofs.ops.join_last.Goals as goal

pub insert_longer-requires : goal.insert_longer-requires
insert_longer-requires c =
    let s = c.args.store.now in
    let rs = c.args.records.now.items in
    let count : c.len-count.result ≡ length rs = c.len-count.ensures ∙ c.args.records.now.ok.0 in
    c.in-Some.ensures.held s (record_read s rs c.requires (c.len-count.result - 1) c.index.result.now (omega (arith, count)) c.index.ensures)

pub returns-in_err-longer-in-Some-clause-held : goal.returns-in_err-longer-in-Some-clause-held
returns-in_err-longer-in-Some-clause-held c = records_held c.args.store.now c.insert_longer.new.self c.insert_longer.ensures.kept c.args.records.now.items c.requires

pub returns-in_err-longer-in-Some-clause-err : goal.returns-in_err-longer-in-Some-clause-err
returns-in_err-longer-in-Some-clause-err c =
    on_err_held c.from_residual.result (ap spelled (records_same c.args.store.now c.insert_longer.new.self c.insert_longer.ensures.kept c.args.records.now.items c.requires))

pub returns-in_ok-longer-in-Some-clause-held : goal.returns-in_ok-longer-in-Some-clause-held
returns-in_ok-longer-in-Some-clause-held c =
    records_set c.args.store.now c.insert_longer.new.self c.insert_longer.ensures.kept c.args.records.now.items c.requires (c.len-count.result - 1) c.in_ok-longer-in-Some.longer c.in_ok-longer-in-Some.ensures.ok.held

pub returns-in_ok-longer-in-Some-clause-joined : goal.returns-in_ok-longer-in-Some-clause-joined
returns-in_ok-longer-in-Some-clause-joined c t =
    let s = c.args.store.now in
    let s' = c.insert_longer.new.self in
    let rs = c.args.records.now.items in
    let x = c.index.result.now in
    let place = c.args.place in
    let added = chars c.args.added.now in
    let was = text_at s.texts c.in-Some.spot in
    let count : c.len-count.result ≡ length rs = c.len-count.ensures ∙ c.args.records.now.ok.0 in
    let more : spelled_one (op_at s' c.in_ok-longer-in-Some.longer) ≡ spelled_one (op_at s x) ++ spelled_one (op.Text place added) =
    ap spelled_one c.in_ok-longer-in-Some.ensures.ok.is
    ∙ (spelled-text_more place was added ∙ ap (λ (o : Op). spelled_one o ++ spelled_one (op.Text place added)) (sym (c.in-Some.ensures.is s))) in
    spelled_more s s' c.insert_longer.ensures.kept rs c.requires (c.len-count.result - 1) x c.in_ok-longer-in-Some.longer (spelled_one (op.Text place added)) (omega (arith, count)) (sym c.index.ensures) more
