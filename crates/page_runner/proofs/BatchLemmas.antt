-- What comes of a list of pages, by what was met at the ports.
use Rattle.std.proofs.Common.{◌≡◌, ◌+◌, ℕ, List, [], length, take, Bool, true, false, Option, Some, None, IsSomeAnd, refl, sym, ap, subst, ◌∙◌, inl, inr, nat_le}
use Rattle.std.specs.Prelude.{◌⊎◌, ◌&&◌, not, if◌then◌else◌}
use Rattle.std.specs.Option.{option_map}
use Rattle.outside.specs.Outside.{Rose, Files, Seen}
use Rattle.outside.specs.declared.traits.Port.TheVariants.{Entities, List as list_port}
use Rattle.standard.specs.Entities.{Entities as Table}
use Rattle.command_words.specs.declared.words.MakeWords.{MakeWords}
use Rattle.command_words.specs.Words.{PageAsked, BatchAsked, Asked, for_page, for_make, for_batch}
use Rattle.page_batch.specs.declared.list.TheConstants.{LIST_LIMIT}
use Rattle.page_batch.specs.Lists.{is_utf8, has_empty, lines_of, paths_in}
use Rattle.page_batch.specs.Parts.{batch_text}
use Rattle.page_turns.specs.Given.{Given, unmet, missing, faulted, got, FaultsRose, AbsencesRose, MayGive, file_at}
use Rattle.page_turns.proofs.PageTakenLemmas.{front_nothing}
use Rattle.page_runner.proofs.Complete.{gives_only, all_taken, table_fits, if_some, some_at}
use Rattle.page_runner.specs.declared.command.TheConstants.{ENTITIES_LIMIT}
use Rattle.page_runner.specs.declared.status.Status.{Status}
use Rattle.page_runner.specs.declared.status.Status.TheVariants as status
use Rattle.page_runner.specs.Answers.{Gives, table_of}
use Rattle.page_runner.specs.Batches.{PathsAnswer, AnswerWith, AnswerOver, AnswerTo, BatchAnswers, CompletesBatch, BatchesTo}

-- ---- single statuses

module _ (asked : BatchAsked) (before after : Seen) (k k' : ℕ) (t t' : Option (List ℕ)) where
  absent-paths : (es : Table) (paths : Option (List (List ℕ))) → PathsAnswer es asked.dir paths before after k k' t t' status.Absent → ⊥
  absent-paths es None a = cc a.0
  absent-paths es (Some paths) a = cc a.2.gives.0

  absent-with : (es : Table) (list : Given (List ℕ)) → MayGive LIST_LIMIT list_port asked.list before after list → AnswerWith es asked.dir list before after k k' t t' status.Absent → AbsencesRose list_port before after
  absent-with es unmet may a = absurd (cc a.0)
  absent-with es missing may a = may.0
  absent-with es faulted may a = absurd (cc a.0)
  absent-with es (got bytes) may a = absurd (absent-paths es (paths_in bytes) a)

  absent-over : (table : Option Table) (list : Given (List ℕ)) → MayGive LIST_LIMIT list_port asked.list before after list → AnswerOver table asked.dir list before after k k' t t' status.Absent → AbsencesRose list_port before after
  absent-over None list may a = absurd (cc a.0)
  absent-over (Some es) list may a = absent-with es list may a

  absent-to : (entities list : Given (List ℕ)) → MayGive ENTITIES_LIMIT Entities asked.entities before after entities → MayGive LIST_LIMIT list_port asked.list before after list
      → AnswerTo entities asked.dir list before after k k' t t' status.Absent → AbsencesRose Entities before after ⊎ AbsencesRose list_port before after
  absent-to unmet list may may' a = absurd (cc a.0)
  absent-to missing list may may' a = inl may.0
  absent-to faulted list may may' a = absurd (cc a.0)
  absent-to (got bytes) list may may' a = inr (absent-over (table_of bytes) list may' a)

  pub batch_absent : (r : Status) → BatchAnswers asked before after k k' t t' r → r ≡ status.Absent → AbsencesRose Entities before after ⊎ AbsencesRose list_port before after
  batch_absent r h is = absent-to h.entities h.list h.may_entities h.may_list (subst (λ s. AnswerTo h.entities asked.dir h.list before after k k' t t' s) is h.answer)

  fault-paths : (es : Table) (paths : Option (List (List ℕ))) → PathsAnswer es asked.dir paths before after k k' t t' status.ReadFault → ⊥
  fault-paths es None a = cc a.0
  fault-paths es (Some paths) a = cc a.2.gives.0

  fault-with : (es : Table) (list : Given (List ℕ)) → MayGive LIST_LIMIT list_port asked.list before after list → AnswerWith es asked.dir list before after k k' t t' status.ReadFault → FaultsRose list_port before after
  fault-with es unmet may a = absurd (cc a.0)
  fault-with es missing may a = absurd (cc a.0)
  fault-with es faulted may a = may.0
  fault-with es (got bytes) may a = absurd (fault-paths es (paths_in bytes) a)

  fault-over : (table : Option Table) (list : Given (List ℕ)) → MayGive LIST_LIMIT list_port asked.list before after list → AnswerOver table asked.dir list before after k k' t t' status.ReadFault → FaultsRose list_port before after
  fault-over None list may a = absurd (cc a.0)
  fault-over (Some es) list may a = fault-with es list may a

  fault-to : (entities list : Given (List ℕ)) → MayGive ENTITIES_LIMIT Entities asked.entities before after entities → MayGive LIST_LIMIT list_port asked.list before after list
      → AnswerTo entities asked.dir list before after k k' t t' status.ReadFault → FaultsRose Entities before after ⊎ FaultsRose list_port before after
  fault-to unmet list may may' a = absurd (cc a.0)
  fault-to missing list may may' a = absurd (cc a.0)
  fault-to faulted list may may' a = inl may.0
  fault-to (got bytes) list may may' a = inr (fault-over (table_of bytes) list may' a)

  pub batch_fault : (r : Status) → BatchAnswers asked before after k k' t t' r → r ≡ status.ReadFault → FaultsRose Entities before after ⊎ FaultsRose list_port before after
  batch_fault r h is = fault-to h.entities h.list h.may_entities h.may_list (subst (λ s. AnswerTo h.entities asked.dir h.list before after k k' t t' s) is h.answer)

  write-paths : (es : Table) (paths : Option (List (List ℕ))) → PathsAnswer es asked.dir paths before after k k' t t' status.WriteFault → Rose k k'
  write-paths es None a = a.0
  write-paths es (Some paths) a = a.2.gives.0

  write-with : (es : Table) (list : Given (List ℕ)) → AnswerWith es asked.dir list before after k k' t t' status.WriteFault → Rose k k'
  write-with es unmet a = a.0
  write-with es missing a = a.0
  write-with es faulted a = a.0
  write-with es (got bytes) a = write-paths es (paths_in bytes) a

  write-over : (table : Option Table) (list : Given (List ℕ)) → AnswerOver table asked.dir list before after k k' t t' status.WriteFault → Rose k k'
  write-over None list a = a.0
  write-over (Some es) list a = write-with es list a

  write-to : (entities list : Given (List ℕ)) → AnswerTo entities asked.dir list before after k k' t t' status.WriteFault → Rose k k'
  write-to unmet list a = a.0
  write-to missing list a = a.0
  write-to faulted list a = a.0
  write-to (got bytes) list a = write-over (table_of bytes) list a

  pub batch_write : (r : Status) → BatchAnswers asked before after k k' t t' r → r ≡ status.WriteFault → Rose k k'
  batch_write r h is = write-to h.entities h.list (subst (λ s. AnswerTo h.entities asked.dir h.list before after k k' t t' s) is h.answer)

  usage-paths : (es : Table) (paths : Option (List (List ℕ))) → PathsAnswer es asked.dir paths before after k k' t t' status.Usage → ⊥
  usage-paths es None a = cc a.0
  usage-paths es (Some paths) a = cc a.2.gives.0

  usage-with : (es : Table) (list : Given (List ℕ)) → AnswerWith es asked.dir list before after k k' t t' status.Usage → ⊥
  usage-with es unmet a = cc a.0
  usage-with es missing a = cc a.0
  usage-with es faulted a = cc a.0
  usage-with es (got bytes) a = usage-paths es (paths_in bytes) a

  usage-over : (table : Option Table) (list : Given (List ℕ)) → AnswerOver table asked.dir list before after k k' t t' status.Usage → ⊥
  usage-over None list a = cc a.0
  usage-over (Some es) list a = usage-with es list a

  usage-to : (entities list : Given (List ℕ)) → AnswerTo entities asked.dir list before after k k' t t' status.Usage → ⊥
  usage-to unmet list a = cc a.0
  usage-to missing list a = cc a.0
  usage-to faulted list a = cc a.0
  usage-to (got bytes) list a = usage-over (table_of bytes) list a

  pub batch_usage : (r : Status) → BatchAnswers asked before after k k' t t' r → r ≡ status.Usage → ⊥
  batch_usage r h is = usage-to h.entities h.list (subst (λ s. AnswerTo h.entities asked.dir h.list before after k k' t t' s) is h.answer)

-- ---- where all is there and in order

list-fits : (bytes : List ℕ) (paths : List (List ℕ)) → paths_in bytes ≡ Some paths → nat_le (length bytes) LIST_LIMIT ≡ true
list-fits bytes paths is = by_test (nat_le (length bytes) LIST_LIMIT) is
  where
    by_test : (b : Bool) → (if b && (is_utf8 bytes && not (has_empty (lines_of bytes))) then Some (lines_of bytes) else None) ≡ Some paths → b ≡ true
    by_test true is = refl
    by_test false is = absurd (cc is)

module _ (asked : BatchAsked) (before after : Seen) (map : Files) (told : before.files ≡ Some map) (k k' : ℕ) (t t' : Option (List ℕ)) (r : Status) (none : FaultsRose Entities before after → ⊥) (none' : FaultsRose list_port before after → ⊥) (unless : Rose k k' → ⊥) where
  abbrev Goal : Type 0
  Goal = (r ≡ status.Done) ⊎ (r ≡ status.NoMemory)

  file-told : (path : List ℕ) → file_at before path ≡ Some (map path)
  file-told path = ap (option_map (λ (m : Files). m path)) told

  memory : Gives (Rose k k') t t' (status.NoMemory, []) r → Goal
  memory gives = elim (gives_only (Rose k k') t t' (status.NoMemory, []) r gives unless) [ inl is ↦ inr is | inr both ↦ inr both.0 ]

  met-list : (es : Table) (bytes : List ℕ) (paths : List (List ℕ)) (list : Given (List ℕ)) → map asked.list ≡ Some bytes → paths_in bytes ≡ Some paths → MayGive LIST_LIMIT list_port asked.list before after list
      → AnswerWith es asked.dir list before after k k' t t' r → Goal
  met-list es bytes paths unmet there is may a = memory a
  met-list es bytes paths missing there is may a = absurd (cc (some_at (file_at before asked.list) (λ file. file ≡ None) (Some bytes) (file-told asked.list ∙ ap Some there) may.1))
  met-list es bytes paths faulted there is may a = absurd (none' may.0)
  met-list es bytes paths (got read) there is may a =
      let here = some_at (file_at before asked.list) (λ f. IsSomeAnd f (λ whole. read ≡ take (LIST_LIMIT + 1) whole)) (Some bytes) (file-told asked.list ∙ ap Some there) may.0 in
      let all : read ≡ bytes = here ∙ all_taken LIST_LIMIT bytes (list-fits bytes paths is) in
      let answer : PathsAnswer es asked.dir (Some paths) before after k k' t t' r = subst (λ ps. PathsAnswer es asked.dir ps before after k k' t t' r) (ap paths_in all ∙ is) a in
      elim (gives_only (Rose k k') t t' (status.Done, batch_text paths answer.2.batch.outcomes) r answer.2.gives unless) [ inl is ↦ inr is | inr both ↦ inl both.0 ]

  met-entities : (es : Table) (bytes bytes' : List ℕ) (paths : List (List ℕ)) (entities list : Given (List ℕ)) → map asked.entities ≡ Some bytes → table_of bytes ≡ Some es → map asked.list ≡ Some bytes' → paths_in bytes' ≡ Some paths
      → MayGive ENTITIES_LIMIT Entities asked.entities before after entities → MayGive LIST_LIMIT list_port asked.list before after list → AnswerTo entities asked.dir list before after k k' t t' r → Goal
  met-entities es bytes bytes' paths unmet list there is there' is' may may' a = memory a
  met-entities es bytes bytes' paths missing list there is there' is' may may' a =
      absurd (cc (some_at (file_at before asked.entities) (λ file. file ≡ None) (Some bytes) (file-told asked.entities ∙ ap Some there) may.1))
  met-entities es bytes bytes' paths faulted list there is there' is' may may' a = absurd (none may.0)
  met-entities es bytes bytes' paths (got read) list there is there' is' may may' a =
      let here = some_at (file_at before asked.entities) (λ f. IsSomeAnd f (λ whole. read ≡ take (ENTITIES_LIMIT + 1) whole)) (Some bytes) (file-told asked.entities ∙ ap Some there) may.0 in
      let all : read ≡ bytes = here ∙ all_taken ENTITIES_LIMIT bytes (table_fits bytes es is) in
      met-list es bytes' paths list there' is' may' (subst (λ table. AnswerOver table asked.dir list before after k k' t t' r) (ap table_of all ∙ is) a)

pub completes-batch : (asked : BatchAsked) (before after : Seen) (k k' : ℕ) (t t' : Option (List ℕ)) (r : Status) → BatchAnswers asked before after k k' t t' r → CompletesBatch asked before after k k' r
completes-batch asked before after k k' t t' r h = if_some before.files _ (λ map told entities list es paths there is there' is' none none' unless.
    met-entities asked before after map told k k' t t' r none none' unless es entities list paths h.entities h.list there is there' is' h.may_entities h.may_list h.answer)

-- ---- by the words

pub batches-none : (asked : Option Asked) (before after : Seen) (k k' : ℕ) (t t' : Option (List ℕ)) (r : Status) → asked ≡ None → BatchesTo asked before after k k' t t' r
batches-none asked before after k k' t t' r is = subst (λ o. BatchesTo o before after k k' t t' r) (sym is) tt

pub batches-page : (asked : Option Asked) (a : PageAsked) (before after : Seen) (k k' : ℕ) (t t' : Option (List ℕ)) (r : Status) → Some (for_page a) ≡ asked → BatchesTo asked before after k k' t t' r
batches-page asked a before after k k' t t' r is = subst (λ o. BatchesTo o before after k k' t t' r) is tt

pub batches-made : (asked : Option Asked) (a : MakeWords) (before after : Seen) (k k' : ℕ) (t t' : Option (List ℕ)) (r : Status) → Some (for_make a) ≡ asked → BatchesTo asked before after k k' t t' r
batches-made asked a before after k k' t t' r is = subst (λ o. BatchesTo o before after k k' t t' r) is tt

pub batches-listed : (asked : Option Asked) (a : BatchAsked) (before after : Seen) (k k' : ℕ) (t t' : Option (List ℕ)) (r : Status) → Some (for_batch a) ≡ asked → BatchAnswers a before after k k' t t' r → BatchesTo asked before after k k' t t' r
batches-listed asked a before after k k' t t' r is h = subst (λ o. BatchesTo o before after k k' t t' r) is (h, completes-batch a before after k k' t t' r h)

unmet-answers : (asked : BatchAsked) (before : Seen) (k : ℕ) (t : Option (List ℕ)) → BatchAnswers asked before before k k t t status.NoMemory
unmet-answers asked before k t = record { entities = unmet; list = unmet; may_entities = tt; may_list = tt; answer = front_nothing t [] }

pub batches-no_memory : (asked : Option Asked) (before : Seen) (k : ℕ) (t : Option (List ℕ)) → BatchesTo asked before before k k t t status.NoMemory
batches-no_memory None before k t = tt
batches-no_memory (Some (for_page asked)) before k t = tt
batches-no_memory (Some (for_make asked)) before k t = tt
batches-no_memory (Some (for_batch asked)) before k t = (unmet-answers asked before k t, completes-batch asked before before k k t t status.NoMemory (unmet-answers asked before k t))
