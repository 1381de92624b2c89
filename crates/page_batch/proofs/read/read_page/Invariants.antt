use Rattle.std.proofs.Common.{◌≡◌, ◌≤◌, ◌+◌, ◌-◌, true, [], ◌∷◌, vec_len}
use Rattle.outside.specs.Outside.{Begun, KeepsOthers}
use Rattle.outside.specs.declared.traits.Port.TheVariants.{Page}
use Rattle.page_turns.specs.declared.page.TheConstants.{PAGE_LIMIT}
use Rattle.page_turns.specs.Given.{NoFault, file_at, AreRead}
use Rattle.page_turns.proofs.CallLemmas.{IsReadOn}
use Rattle.page_batch.proofs.read.read_page.Given as goal

abbrev pub invariant-reads : goal.invariant-reads
invariant-reads g l =
    let now = g.F.Outside.seen in
    record {
      opened : (now l.files).open_at Page ≡ true;
      bound : vec_len l.bytes ≤ PAGE_LIMIT + 1;
      others : KeepsOthers Page (now l.fn.files) (now l.files);
      begun : Begun ((now l.fn.files).begun Page) ((now l.files).begun Page) (l.path ∷ []);
      no_fault : NoFault Page (now l.fn.files) (now l.files);
      calls : IsReadOn Page l.path (now l.fn.files) (now l.files) (vec_len l.bytes);
      read : AreRead (file_at (now l.fn.files) l.path) ((now l.files).left Page) l.bytes.items;
    }

abbrev pub decreases-reads : goal.decreases-reads
decreases-reads g l = PAGE_LIMIT + 1 - vec_len l.bytes
