use Rattle.std.proofs.Common.{refl, sym, subst, IfOk, OnOk, ◌≡◌, ◌∙◌, ap}
use Rattle.standard.specs.Tree.{find_id, first_element}
use Rattle.serial.specs.declared.script.Statement.{Statement}
use Rattle.serial.specs.declared.script.Statement.TheVariants as statement
use Rattle.doc_changes.specs.Logs.{with_more}
use Rattle.write_parser.specs.Made.{of_statement}
use Rattle.write_parser.proofs.MadeLemmas.{stays-logged}
use Rattle.write_parser.specs.Steps.{DoesMost, HasRead}
use Rattle.write_parser.proofs.StatementLemmas.{if_ok, does-write, does-write_line, does-remove, does-append, does-set_inner, does-read-by_id, does-read-root}
use Rattle.write_parser.proofs.live.Live.try_statement.Goals as goal

pub returns-in-Write-clause-does : goal.returns-in-Write-clause-does
returns-in-Write-clause-does c =
    subst (λ a. IfOk c.write.result (λ d. DoesMost c.args.table.now c.args.number a c.args.self.now c.args.rest.now c.write.new.self c.write.new.rest d)) (sym c.in-Write.is)
    (if_ok c.write.result _ _ (λ d has. does-write c.args.table.now c.args.number c.in-Write.text c.args.self.now c.args.rest.now c.write.new.self c.write.new.rest d c.requires.going c.requires.waits has)
    c.write.ensures)

pub returns-in-WriteLine-clause-does : goal.returns-in-WriteLine-clause-does
returns-in-WriteLine-clause-does c =
    subst (λ a. IfOk c.write_line.result (λ d. DoesMost c.args.table.now c.args.number a c.args.self.now c.args.rest.now c.write_line.new.self c.write_line.new.rest d)) (sym c.in-WriteLine.is)
    (if_ok c.write_line.result _ _ (λ d has. does-write_line c.args.table.now c.args.number c.in-WriteLine.text c.args.self.now c.args.rest.now c.write_line.new.self c.write_line.new.rest d c.requires.going c.requires.waits has)
    c.write_line.ensures)

pub returns-in-Remove-clause-does : goal.returns-in-Remove-clause-does
returns-in-Remove-clause-does c =
    subst (λ a. IfOk c.remove.result (λ d. DoesMost c.args.table.now c.args.number a c.args.self.now c.args.rest.now c.remove.new.self c.args.rest.now d)) (sym c.in-Remove.is)
    (if_ok c.remove.result _ _ (λ d has. does-remove c.args.table.now c.args.number c.in-Remove.id c.args.self.now c.args.rest.now c.remove.new.self c.args.rest.now d c.requires.going c.requires.waits refl has)
    c.remove.ensures.does)

pub returns-in-Append-clause-does : goal.returns-in-Append-clause-does
returns-in-Append-clause-does c =
    subst (λ a. IfOk c.append.result (λ d. DoesMost c.args.table.now c.args.number a c.args.self.now c.args.rest.now c.append.new.self c.args.rest.now d)) (sym c.in-Append.is)
    (if_ok c.append.result _ _ (λ d has. does-append c.args.table.now c.args.number c.in-Append.first c.in-Append.second c.args.self.now c.args.rest.now c.append.new.self c.args.rest.now d c.requires.going c.requires.waits refl has)
    c.append.ensures.does)

pub returns-in-SetInner-clause-does : goal.returns-in-SetInner-clause-does
returns-in-SetInner-clause-does c =
    subst (λ a. IfOk c.set_inner.result (λ d. DoesMost c.args.table.now c.args.number a c.args.self.now c.args.rest.now c.set_inner.new.self c.args.rest.now d)) (sym c.in-SetInner.is)
    (if_ok c.set_inner.result _ _
    (λ d has. does-set_inner c.args.table.now c.args.number c.in-SetInner.id c.in-SetInner.text c.args.self.now c.args.rest.now c.requires.going c.requires.waits c.set_inner.new.self c.args.rest.now d refl has)
    c.set_inner.ensures.does)

pub returns-in-LogById-clause-does : goal.returns-in-LogById-clause-does
returns-in-LogById-clause-does c =
    let found : c.find_id-node.result ≡ find_id c.args.self.now.doc.tree c.in-LogById.id = c.find_id-node.ensures.found ∙ ap (find_id c.args.self.now.doc.tree) c.as_str.ensures in
    subst (λ a. IfOk c.read.result (λ d. DoesMost c.args.table.now c.args.number a c.args.self.now c.args.rest.now c.read.new.self c.args.rest.now d)) (sym c.in-LogById.is)
    (if_ok c.read.result _ _
    (λ d has. does-read-by_id c.args.table.now c.args.number c.in-LogById.id c.args.self.now c.args.rest.now c.read.new.self c.args.rest.now d c.requires.going c.requires.waits refl
    (subst (λ node. HasRead c.args.number node c.args.self.now c.read.new.self d) found has))
    c.read.ensures)

pub returns-in-LogRoot-clause-does : goal.returns-in-LogRoot-clause-does
returns-in-LogRoot-clause-does c =
    let found : c.root-node.result ≡ first_element c.args.self.now.doc.tree = c.root-node.ensures.root in
    subst (λ a. IfOk c.read-in-LogRoot.result (λ d. DoesMost c.args.table.now c.args.number a c.args.self.now c.args.rest.now c.read-in-LogRoot.new.self c.args.rest.now d)) (sym c.in-LogRoot.is)
    (if_ok c.read-in-LogRoot.result _ _
    (λ d has. does-read-root c.args.table.now c.args.number c.args.self.now c.args.rest.now c.read-in-LogRoot.new.self c.args.rest.now d c.requires.going c.requires.waits refl
    (subst (λ node. HasRead c.args.number node c.args.self.now c.read-in-LogRoot.new.self d) found has))
    c.read-in-LogRoot.ensures)

pub returns-in-Write-clause-logged : goal.returns-in-Write-clause-logged
returns-in-Write-clause-logged c =
    stays-logged c.write.result c.args.table.now c.args.self.now.machine.open_state.quirks c.args.self.now.doc.tree c.args.statement.now (statement.Write c.in-Write.text) c.args.log.now c.in-Write.is refl

pub returns-in-WriteLine-clause-logged : goal.returns-in-WriteLine-clause-logged
returns-in-WriteLine-clause-logged c =
    stays-logged c.write_line.result c.args.table.now c.args.self.now.machine.open_state.quirks c.args.self.now.doc.tree c.args.statement.now (statement.WriteLine c.in-WriteLine.text) c.args.log.now c.in-WriteLine.is refl

pub returns-in-LogById-clause-logged : goal.returns-in-LogById-clause-logged
returns-in-LogById-clause-logged c =
    stays-logged c.read.result c.args.table.now c.args.self.now.machine.open_state.quirks c.args.self.now.doc.tree c.args.statement.now (statement.LogById c.in-LogById.id) c.args.log.now c.in-LogById.is refl

pub returns-in-LogRoot-clause-logged : goal.returns-in-LogRoot-clause-logged
returns-in-LogRoot-clause-logged c =
    stays-logged c.read-in-LogRoot.result c.args.table.now c.args.self.now.machine.open_state.quirks c.args.self.now.doc.tree c.args.statement.now statement.LogRoot c.args.log.now c.in-LogRoot.is refl

pub returns-in-Remove-clause-logged : goal.returns-in-Remove-clause-logged
returns-in-Remove-clause-logged c =
    let old = c.args.self.now in
    subst (λ (a : Statement). OnOk c.remove.result (c.remove.new.log ≡ with_more (of_statement c.args.table.now old.machine.open_state.quirks old.doc.tree a) c.args.log.now)) (sym c.in-Remove.is)
    c.remove.ensures.logged

pub returns-in-Append-clause-logged : goal.returns-in-Append-clause-logged
returns-in-Append-clause-logged c =
    let old = c.args.self.now in
    subst (λ (a : Statement). OnOk c.append.result (c.append.new.log ≡ with_more (of_statement c.args.table.now old.machine.open_state.quirks old.doc.tree a) c.args.log.now)) (sym c.in-Append.is)
    c.append.ensures.logged

pub returns-in-SetInner-clause-logged : goal.returns-in-SetInner-clause-logged
returns-in-SetInner-clause-logged c =
    let old = c.args.self.now in
    subst (λ (a : Statement). OnOk c.set_inner.result (c.set_inner.new.log ≡ with_more (of_statement c.args.table.now old.machine.open_state.quirks old.doc.tree a) c.args.log.now)) (sym c.in-SetInner.is)
    c.set_inner.ensures.logged
