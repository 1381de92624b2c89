use Rattle.std.proofs.Common.{◌≡◌, ℕ, List, ◌++◌, true≢false, sym, ap, ◌∙◌, arith}
use Rattle.std.specs.Str.{chars}
use Rattle.html_types.specs.declared.token.PartialTag.{PartialTag}
use Rattle.standard.specs.Step.{finished, tag_token}
use Rattle.tokenizer.specs.Whole.{piece, close_text}
use Rattle.tokenizer.specs.declared.whole.Behind.TheVariants as behind
use Rattle.tokenizer.proofs.WholeLemmas.{piece-split, name-leads, Leads-as, Leads-behind, Leads-more, Leads-close, MakesAlone-same}
use Rattle.tokenizer.proofs.whole.tag_at.Goals.{in-Space, in_default-matches}
use Rattle.tokenizer.proofs.whole.tag_at.Goals as goal

pub attributes-init : goal.attributes-init
attributes-init c =
    let text = c.args.text.now in
    let from = c.args.from in
    let name = c.in-Some.head.name in
    let to = c.in-Some-name_end.to in
    let at = c.gap_at-gap.result.at in
    let h = c.in-Some.ensures in
    let n = c.in-Some-name_end.ensures in
    let g = c.gap_at-gap.ensures in
    let parts : piece text from at ≡ piece text from name ++ (piece text name to ++ piece text to at) =
    piece-split text from name at c.utf8.text c.requires h.boundary (omega (arith, h.onward)) (omega (arith, n.onward, g.onward))
    ∙ ap (λ (l : List ℕ). piece text from name ++ l) (piece-split text name to at c.utf8.text h.boundary n.boundary (omega (arith, n.onward)) (omega (arith, g.onward))) in
    record {
      boundary = g.boundary;
      onward = omega (arith, h.onward, n.onward, g.onward);
      leads = Leads-as c.args.table.now c.gap_at-gap.result.behind c.in-Some.head.kind (piece text name to) parts c.new-attributes.ensures
          (name-leads c.args.table.now (piece text from name) (piece text name to) (piece text to at) c.in-Some.head.kind c.gap_at-gap.result.behind h.opens n.begins n.name g.gap);
    }

pub returns-in-Some-close_at-clause-alone : goal.returns-in-Some-close_at-clause-alone
returns-in-Some-close_at-clause-alone c =
    let text = c.args.text.now in
    let from = c.args.from in
    let at = c.attributes.gap.at in
    let i = c.attributes.invariant in
    let e = c.in-Some-close_at in
    let kind = c.in-Some.head.kind in
    let tag : PartialTag = record { kind = kind; name = piece text c.in-Some.head.name c.in-Some-name_end.to; attributes = c.attributes.attributes } in
    let parts : piece text from e.close.end ≡ piece text from at ++ close_text e.close.self_closing =
    piece-split text from at e.close.end c.utf8.text c.requires i.boundary (omega (arith, i.onward)) (omega (arith, e.ensures.onward))
    ∙ ap (λ (l : List ℕ). piece text from at ++ l) e.ensures.read in
    let token : c.in_ok-token.token ≡ tag_token kind (finished e.close.self_closing tag) =
    c.in_ok-token.ensures ∙ ap (λ (l : List ℕ). tag_token kind (finished e.close.self_closing (record { kind = kind; name = chars l; attributes = c.attributes.attributes }))) c.range-name.ensures.value in
    MakesAlone-same c.args.table.now parts token (Leads-close c.args.table.now (piece text from at) tag c.attributes.gap.behind e.close.self_closing e.ensures.may i.leads)

pub attributes-preserved : goal.attributes-preserved
attributes-preserved c =
    let text = c.args.text.now in
    let from = c.args.from in
    let at = c.attributes.gap.at in
    let i = c.attributes.invariant in
    let found = c.in-Some-2.found in
    let kind = c.in-Some.head.kind in
    let name = piece text c.in-Some.head.name c.in-Some-name_end.to in
    let tag : PartialTag = record { kind = kind; name = name; attributes = c.attributes.attributes } in
    let boundary = rw c.in-Some-2.is at c.in_ok-found.ensures.boundary in
    let onward = rw c.in-Some-2.is at c.in_ok-found.ensures.onward in
    let begins = rw c.in-Some-2.is at c.in_ok-found.ensures.begins in
    let gives = rw c.in-Some-2.is at c.in_ok-found.ensures.gives in
    let space : c.attributes.gap.behind ≡ behind.Space =
    elim c.match-matches.branch [ in-Space w ↦ w.in-Space.is | in_default-matches w ↦ absurd (true≢false (sym c.if-not-matches.false ∙ w.matches-is)) ] in
    record {
      boundary = boundary;
      onward = omega (arith, i.onward, onward);
      leads = Leads-as c.args.table.now found.gap.behind kind name
          (piece-split text from at found.gap.at c.utf8.text c.requires i.boundary (omega (arith, i.onward)) (omega (arith, onward)))
          c.in_ok-push.ensures.ok
          (Leads-more c.args.table.now (piece text from at) (piece text at found.gap.at) tag found.attribute found.gap.behind
          (Leads-behind c.args.table.now c.attributes.gap.behind behind.Space (piece text from at) tag space i.leads) begins (sym c.has.ensures ∙ c.if-has.false) gives);
    }
