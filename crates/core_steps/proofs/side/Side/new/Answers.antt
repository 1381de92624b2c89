use Rattle.std.proofs.Common.{false, Some, refl, ap}
use Rattle.core_steps.specs.declared.stage.Stage.TheVariants.{Free}
use Rattle.core_steps.specs.declared.side.Side.{Side}
use Rattle.core_steps.proofs.Stays.{first-told, first-sound}
use Rattle.core_steps.proofs.side.Side.new.Goals as goal

pub returns-clause-first : goal.returns-clause-first
returns-clause-first c =
    let s : Side = record {
      alloc = c.args.alloc;
      table = c.in_ok-table.table;
      writer = c.in-Ok.writer;
      given = c.new-3.result;
      ledger = c.in-Ok-new.ledger;
      stage = Free;
      ready = c.new-4.result;
      begins = Some c.new-5.result;
      counts = record { epoch = 1; realm = 1; place = 0; sent_to = 0 };
      journal = c.new-6.result;
    } in
    first-told s c.args.table.now c.args.ahead c.in_ok-table.ensures c.in-Ok.ensures c.new-3.ensures.items c.in-Ok-new.ensures refl (ap Some c.new-5.ensures) refl c.new-6.ensures

pub returns-clause-sound : goal.returns-clause-sound
returns-clause-sound c =
    let s : Side = record {
      alloc = c.args.alloc;
      table = c.in_ok-table.table;
      writer = c.in-Ok.writer;
      given = c.new-3.result;
      ledger = c.in-Ok-new.ledger;
      stage = Free;
      ready = c.new-4.result;
      begins = Some c.new-5.result;
      counts = record { epoch = 1; realm = 1; place = 0; sent_to = 0 };
      journal = c.new-6.result;
    } in
    first-sound s c.args.ahead c.in-Ok.ensures c.in-Ok-new.ensures refl c.new-4.ensures refl c.new-6.ensures
