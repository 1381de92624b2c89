use Rattle.std.proofs.Common.{◌≡◌, ◌++◌, [], ℕ, List, length, false, refl, sym, ap, subst, ◌∙◌, append-nil, append_assoc}
use Rattle.std.proofs.lemmas.Bool.{eqb-true}
use Rattle.std.proofs.lemmas.List.{nil_from_length}
use Rattle.std.proofs.lemmas.Result.{IfOk-weaker, err_from_is_err_and}
use Rattle.standard.specs.Entities.{Entities}
use Rattle.standard.specs.Act.{Doc}
use Rattle.serial.specs.Page.{page_of}
use Rattle.serial.specs.Quiet.{tree, refused, quiet}
use Rattle.html_document.specs.declared.feeding.TheConstants.{PAGE_LIMIT}
use Rattle.html_document.specs.Fed.{HasFed}
use Rattle.html_document.proofs.page.parse.Goals as goal

pub pieces-init : goal.pieces-init
pieces-init c = record { read = []; fed = c.in_ok-parser.ensures; whole = refl }

pub pieces-preserved : goal.pieces-preserved
pieces-preserved c =
    let i = c.pieces.invariant in
    let piece = c.split_at.result.0.now in
    record {
      read = i.read ++ piece;
      fed = c.in_ok-feed.ensures.fed c.args.table.now i.read i.fed;
      whole = append_assoc i.read piece c.split_at.result.1.now ∙ (ap (λ l. i.read ++ l) (sym c.split_at.ensures.by_index.0) ∙ i.whole);
    }

pub returns-in_err-parser-clause-refused : goal.returns-in_err-parser-clause-refused
returns-in_err-parser-clause-refused c =
    let p = err_from_is_err_and c.from_residual.result c.from_residual.ensures.1 in
    rw (p.1, p.2) (λ w is. absurd (cc is))

pub returns-in_err-feed-clause-refused : goal.returns-in_err-feed-clause-refused
returns-in_err-feed-clause-refused c =
    let p = err_from_is_err_and c.from_residual-in_err-feed.result c.from_residual-in_err-feed.ensures.1 in
    rw (p.1, p.2) (λ w is. absurd (cc is))

pub returns-clause-tree : goal.returns-clause-tree
returns-clause-tree c =
    let i = c.pieces.invariant in
    let none : c.pieces.rest.now ≡ [] = nil_from_length c.pieces.rest.now (eqb-true (length c.pieces.rest.now) 0 (sym c.is_empty.ensures ∙ c.pieces-test.false)) in
    let all : i.read ≡ c.args.page.now = sym (append-nil i.read) ∙ (ap (λ l. i.read ++ l) (sym none) ∙ i.whole) in
    IfOk-weaker c.finish.result (λ (d : Doc). (es : Entities) (read : List ℕ) → HasFed es c.pieces.parser read → quiet es (page_of PAGE_LIMIT read false) ≡ tree d)
    (λ (d : Doc). quiet c.args.table.now (page_of PAGE_LIMIT c.args.page.now false) ≡ tree d)
    (λ d is. subst (λ (x : List ℕ). quiet c.args.table.now (page_of PAGE_LIMIT x false) ≡ tree d) all (is c.args.table.now i.read i.fed)) c.finish.ensures.tree

pub returns-clause-refused : goal.returns-clause-refused
returns-clause-refused c = λ w is.
    let i = c.pieces.invariant in
    let none : c.pieces.rest.now ≡ [] = nil_from_length c.pieces.rest.now (eqb-true (length c.pieces.rest.now) 0 (sym c.is_empty.ensures ∙ c.pieces-test.false)) in
    let all : i.read ≡ c.args.page.now = sym (append-nil i.read) ∙ (ap (λ l. i.read ++ l) (sym none) ∙ i.whole) in
    subst (λ (x : List ℕ). quiet c.args.table.now (page_of PAGE_LIMIT x false) ≡ refused w) all (c.finish.ensures.refused w is c.args.table.now i.read i.fed)
