-- A list is read behind the entities, and its pages behind the list.
use Rattle.std.proofs.Common.{◌≡◌, ◌≤◌, ◌+◌, ℕ, take, List, [], ◌∷◌, Option, Some, None, IfSome, refl, sym, ap, subst, ◌∙◌, inl, inr, arith}
use Rattle.std.specs.Prelude.{IsSomeAnd}
use Rattle.std.specs.Option.{option_map}
use Rattle.html_types.specs.declared.ending.Why.TheVariants as why
use Rattle.outside.specs.Outside.{Rose, Begun, Files, Seen, KeepsOthers}
use Rattle.outside.specs.declared.traits.Port.{Port}
use Rattle.outside.specs.declared.traits.Port.TheVariants.{Entities, Page, Script, List as list_port}
use Rattle.standard.specs.Entities.{Entities as Table}
use Rattle.serial.specs.Serial.{Result, finished, refused}
use Rattle.command_words.specs.Words.{BatchAsked}
use Rattle.page_batch.specs.declared.list.TheConstants.{LIST_LIMIT}
use Rattle.page_batch.specs.Lists.{paths_in}
use Rattle.page_batch.specs.Parts.{end_number}
use Rattle.page_batch.specs.Batches.{Batched, BeginsFront, GivesAll, GivesInPart}
use Rattle.page_turns.specs.declared.page.Failure.{Failure}
use Rattle.page_turns.specs.declared.page.Failure.TheVariants as failures
use Rattle.page_turns.specs.declared.page.TheConstants.{PAGE_LIMIT}
use Rattle.page_turns.specs.declared.scripts.TheConstants.{SCRIPT_LIMIT}
use Rattle.page_turns.specs.Calls.{EachWithin}
use Rattle.page_turns.specs.Given.{Given, unmet, missing, faulted, got, file_at, MayGive, AreRead, ReadTo, untouched, unbegun, begun, IsLeftAlone, KeepsEntities}
use Rattle.page_turns.specs.Scripts.{none_begun, NamesOnce}
use Rattle.page_turns.proofs.CallLemmas.{each_none, failed_since, called_none, called_stays, called_since}
use Rattle.page_turns.proofs.KeepsLemmas.{begun_none, begun_stays, begun_since, rose-on, rose-stays, alone-then, alone-others}
use Rattle.page_runner.proofs.RunLemmas.{read_since, scripts_since}
use Rattle.page_turns.proofs.MeetLemmas.{names_none}
use Rattle.page_runner.specs.declared.batch.Unlisted.{Unlisted}
use Rattle.page_runner.specs.declared.batch.Unlisted.TheVariants as unlisted
use Rattle.page_runner.specs.declared.command.TheConstants.{ENTITIES_LIMIT}
use Rattle.page_runner.specs.declared.command.Unread.{Unread}
use Rattle.page_runner.specs.declared.command.Unread.TheVariants as unread
use Rattle.page_runner.specs.declared.status.Status.{Status}
use Rattle.page_runner.specs.declared.status.Status.TheVariants as status
use Rattle.page_runner.specs.Status.{exit_of}
use Rattle.page_runner.specs.Answers.{Gives, status_with, status_for, ReadsTable, ReadsNone, answer_without, StopsInList, BeginsPages, BeginsListed}
use Rattle.page_runner.specs.Batches.{ReadsList, ReadsNoList, answer_unlisted, ListAnswers, ReadsFirst, PathsAnswer, AnswerWith, AnswerOver, ReadsPaths, ListedAnswers, ReadsListed, BatchAnswers}

-- ---- the pages

numbers-same : (r : Result) → end_number r ≡ exit_of (status_with r)
numbers-same finished = refl
numbers-same (refused why.BadUtf8) = refl
numbers-same (refused why.Depth) = refl
numbers-same (refused why.Writes) = refl
numbers-same (refused why.Page) = refl
numbers-same (refused why.Fault) = refl

module _ (es : Table) (dir : List ℕ) (paths : List (List ℕ)) (before after : Seen) (k k' : ℕ) (t t' : Option (List ℕ)) where
  pub paths-all : GivesAll es dir paths before after t t' → ListAnswers es dir paths before after k k' t t' status.Done
  paths-all (b, all, took) = record { batch = b; all = λ is. all; gives = (refl, took); numbers = numbers-same }

  pub paths-part : (f : Failure) → GivesInPart es dir paths before after t t' → (f ≡ failures.Write → Rose k k') → ListAnswers es dir paths before after k k' t t' (status_for f)
  paths-part failures.Memory (b, front) rose = record { batch = b; all = λ is. absurd (cc is); gives = front; numbers = numbers-same }
  paths-part failures.Write (b, front) rose = record { batch = b; all = λ is. absurd (cc is); gives = (rose refl, front); numbers = numbers-same }

  pub reads-batched : Batched es dir paths before after → ReadsPaths dir paths before after
  reads-batched b = record { keeps = b.keeps; begins = b.begins; page_within = b.within; scripts = b.scripts_to; scripts_within = b.scripts_within; names = b.names }

-- ---- the list

first-of : (port : Port) (before now : Seen) → (Page ≡ port → ⊥) → (Script ≡ port → ⊥) → KeepsOthers port before now → ReadsFirst before now
first-of port before now page script keeps = record { files = keeps.files; page = alone-others Page port before now page keeps; script = alone-others Script port before now script keeps }

first-then : (before now after : Seen) → ReadsFirst before now → ReadsFirst now after → ReadsFirst before after
first-then before now after a b = record { files = b.files ∙ a.files; page = alone-then Page before now after a.page b.page; script = alone-then Script before now after a.script b.script }

module _ (es : Table) (path dir : List ℕ) (before after : Seen) (k k' : ℕ) (t t' : Option (List ℕ)) (r : Status) where
  pub listed-none : (none : Unlisted) → ReadsNoList path before after none → Gives (Rose k k') t t' (answer_unlisted none) r → ListedAnswers es path dir before after k k' t t' r
  listed-none unlisted.NoMemory reads gives = record { list = unmet; may_list = tt; answer = gives }
  listed-none unlisted.Missing reads gives = record { list = missing; may_list = reads; answer = gives }
  listed-none unlisted.Faulted reads gives = record { list = faulted; may_list = reads; answer = gives }
  listed-none unlisted.NotList (bytes, may, none) gives = record { list = got bytes; may_list = may; answer = subst (λ ps. PathsAnswer es dir ps before after k k' t t' r) (sym none) gives }

  pub listed-paths : (now : Seen) (paths : List (List ℕ)) → ReadsList path before now paths → KeepsOthers list_port before now → KeepsEntities now after → ListAnswers es dir paths now after k k' t t' r
      → ListedAnswers es path dir before after k k' t t' r
  listed-paths now paths reads keeps later answers = record {
    list = got reads.bytes;
    may_list = (reads.given.0, later.list.no_fault ∙ reads.given.1);
    answer = subst (λ ps. PathsAnswer es dir ps before after k k' t t' r) (sym reads.lists) (now, first-of list_port before now (λ e. cc e) (λ e. cc e) keeps, answers);
  }

-- what is done where there is no list
pub reads-unlisted : (path dir : List ℕ) (before after : Seen) → ReadTo LIST_LIMIT list_port path before after → EachWithin LIST_LIMIT list_port before after → Begun (before.begun list_port) (after.begun list_port) (path ∷ [])
    → KeepsOthers list_port before after → ReadsListed path dir before after
reads-unlisted path dir before after reads within paths_begun keeps = record {
  files = keeps.files;
  entities = alone-others Entities list_port before after (λ e. cc e) keeps;
  absences = keeps.absences Entities;
  list = reads;
  list_within = within;
  list_begun = paths_begun;
  pages = inl (begun_none _ _ (keeps.begun Page (λ e. cc e)));
  page_within = each_none PAGE_LIMIT Page before after (keeps.calls Page (λ e. cc e));
  scripts = none_begun (keeps.left Script (λ e. cc e));
  scripts_within = each_none SCRIPT_LIMIT Script before after (keeps.calls Script (λ e. cc e));
  names = names_none dir _ _ (keeps.begun Script (λ e. cc e));
}

-- ---- over two stages

module _ (limit : ℕ) (port : Port) (path : List ℕ) (before now after : Seen) where
  -- nothing was done at the port before
  pub may-since : now.files ≡ before.files → IsLeftAlone port before now → before.absences port ≤ now.absences port → (given : Given (List ℕ)) → MayGive limit port path now after given → MayGive limit port path before after given
  may-since files alone le unmet may = tt
  may-since files alone le missing may = (rose-on _ _ _ le may.0, subst (λ f. IfSome (option_map (λ (m : Files). m path) f) (λ file. file ≡ None)) files may.1, may.2 ∙ alone.no_fault)
  may-since files alone le faulted may = (subst (λ n. Rose n (after.faults port)) alone.no_fault may.0, failed_since port path before now after [] (called_none _ _ alone.calls) may.1)
  may-since files alone le (got bytes) may =
      (subst (λ f. IfSome (option_map (λ (m : Files). m path) f) (λ file. IsSomeAnd file (λ whole. bytes ≡ take (limit + 1) whole))) files may.0, may.1 ∙ alone.no_fault)

-- and nothing behind
module _ (limit : ℕ) (port : Port) (path : List ℕ) (before now after : Seen) (alone : IsLeftAlone port now after) where
  read-alone : now.absences port ≤ after.absences port → now.faults port ≤ after.faults port → ReadTo limit port path before now → ReadTo limit port path before after
  read-alone le le' (untouched same) = untouched (alone.left ∙ same)
  read-alone le le' (unbegun none (inl rose)) = unbegun (subst (λ l. IfSome l (λ rest. rest ≡ [])) (sym alone.left) none) (inl (rose-stays _ _ _ rose le))
  read-alone le le' (unbegun none (inr rose)) = unbegun (subst (λ l. IfSome l (λ rest. rest ≡ [])) (sym alone.left) none) (inr (rose-stays _ _ _ rose le'))
  read-alone le le' (begun read taken most) = begun read (subst (λ l. AreRead (file_at before path) l read) (sym alone.left) taken) most

  within-alone : EachWithin limit port before now → EachWithin limit port before after
  within-alone each = record { calls = each.calls; made = called_stays _ _ _ each.calls each.made alone.calls; within = each.within }

within-since : (limit : ℕ) (port : Port) (before now after : Seen) → now.calls port ≡ before.calls port → EachWithin limit port now after → EachWithin limit port before after
within-since limit port before now after same each = record { calls = each.calls; made = called_since _ _ _ each.calls same each.made; within = each.within }

entities-alone : (now after : Seen) → KeepsEntities now after → IsLeftAlone Entities now after
entities-alone now after keeps = record { left = keeps.left; begun = keeps.begun; calls = keeps.calls; no_fault = keeps.no_fault }

front-since : (paths : List (List ℕ)) (before now after : Seen) → now.begun Page ≡ before.begun Page → BeginsFront paths now after → BeginsFront paths before after
front-since paths before now after same b = record { front = b.front; rest = b.rest; is = b.is; begun = begun_since _ _ _ b.front same b.begun }

-- the list was read, and then its pages
module _ (path dir : List ℕ) (paths : List (List ℕ)) (before now after : Seen) (keeps : KeepsOthers list_port before now) where
  pub reads-listed : ReadsList path before now paths → ReadTo LIST_LIMIT list_port path before now → EachWithin LIST_LIMIT list_port before now → Begun (before.begun list_port) (now.begun list_port) (path ∷ []) → ReadsPaths dir paths now after
      → ReadsListed path dir before after
  reads-listed list reads within paths_begun p = record {
    files = p.keeps.files ∙ keeps.files;
    entities = alone-then Entities before now after (alone-others Entities list_port before now (λ e. cc e) keeps) (entities-alone now after p.keeps);
    absences = let a = keeps.absences Entities in let b = p.keeps.absences Entities in omega (arith, a, b);
    list = read-alone LIST_LIMIT list_port path before now after p.keeps.list (p.keeps.absences list_port) (p.keeps.faults list_port) reads;
    list_within = within-alone LIST_LIMIT list_port path before now after p.keeps.list within;
    list_begun = begun_stays _ _ _ (path ∷ []) paths_begun p.keeps.list.begun;
    pages = inr (list.bytes, paths, (list.given.0, p.keeps.list.no_fault ∙ list.given.1), list.lists, front-since paths before now after (keeps.begun Page (λ e. cc e)) p.begins);
    page_within = within-since PAGE_LIMIT Page before now after (keeps.calls Page (λ e. cc e)) p.page_within;
    scripts = scripts_since list_port dir before now after (keeps.left Script (λ e. cc e)) keeps p.scripts;
    scripts_within = within-since SCRIPT_LIMIT Script before now after (keeps.calls Script (λ e. cc e)) p.scripts_within;
    names = subst (λ b. NamesOnce dir b (after.begun Script)) (keeps.begun Script (λ e. cc e)) p.names;
  }

-- ---- the entities

module _ (asked : BatchAsked) (before after : Seen) (k k' : ℕ) (t t' : Option (List ℕ)) (r : Status) where
  pub batch-without : (none : Unread) → ReadsNone asked.entities before after none → Gives (Rose k k') t t' (answer_without none) r → BatchAnswers asked before after k k' t t' r
  batch-without unread.NoMemory reads gives = record { entities = unmet; list = unmet; may_entities = tt; may_list = tt; answer = gives }
  batch-without unread.Missing reads gives = record { entities = missing; list = unmet; may_entities = reads; may_list = tt; answer = gives }
  batch-without unread.Faulted reads gives = record { entities = faulted; list = unmet; may_entities = reads; may_list = tt; answer = gives }
  batch-without unread.NotTable (bytes, may, none) gives =
      record { entities = got bytes; list = unmet; may_entities = may; may_list = tt; answer = subst (λ table. AnswerOver table asked.dir unmet before after k k' t t' r) (sym none) gives }

  with-since : (es : Table) (now : Seen) (list : Given (List ℕ)) → ReadsFirst before now → AnswerWith es asked.dir list now after k k' t t' r → AnswerWith es asked.dir list before after k k' t t' r
  with-since es now unmet first a = a
  with-since es now missing first a = a
  with-since es now faulted first a = a
  with-since es now (got bytes) first a = by (paths_in bytes) a
    where
      by : (paths : Option (List (List ℕ))) → PathsAnswer es asked.dir paths now after k k' t t' r → PathsAnswer es asked.dir paths before after k k' t t' r
      by None a = a
      by (Some paths) (later, first', answers) = (later, first-then before now later first first', answers)

  pub batch-with : (es : Table) (now : Seen) → ReadsTable asked.entities before now es → KeepsOthers Entities before now → ListedAnswers es asked.list asked.dir now after k k' t t' r → ReadsListed asked.list asked.dir now after
      → BatchAnswers asked before after k k' t t' r
  batch-with es now table keeps l reads = record {
    entities = got table.bytes;
    list = l.list;
    may_entities = (table.given.0, reads.entities.no_fault ∙ table.given.1);
    may_list = may-since LIST_LIMIT list_port asked.list before now after keeps.files (alone-others list_port Entities before now (λ e. cc e) keeps) (keeps.absences list_port) l.list l.may_list;
    answer = subst (λ found. AnswerOver found asked.dir l.list before after k k' t t' r) (sym table.lists) (with-since es now l.list (first-of Entities before now (λ e. cc e) (λ e. cc e) keeps) l.answer);
  }

module _ (asked : BatchAsked) (before after : Seen) where
  pub stops-without : ReadTo ENTITIES_LIMIT Entities asked.entities before after → EachWithin ENTITIES_LIMIT Entities before after → KeepsOthers Entities before after → StopsInList asked before after
  stops-without reads within keeps = record {
    entities = reads;
    list = untouched (keeps.left list_port (λ e. cc e));
    scripts = none_begun (keeps.left Script (λ e. cc e));
    entities_within = within;
    list_within = each_none LIST_LIMIT list_port before after (keeps.calls list_port (λ e. cc e));
    page_within = each_none PAGE_LIMIT Page before after (keeps.calls Page (λ e. cc e));
    scripts_within = each_none SCRIPT_LIMIT Script before after (keeps.calls Script (λ e. cc e));
  }

  pub begins-without : Begun (before.begun Entities) (after.begun Entities) (asked.entities ∷ []) → KeepsOthers Entities before after → BeginsListed asked before after
  begins-without paths keeps = record {
    entities = inr paths;
    list = inl (begun_none _ _ (keeps.begun list_port (λ e. cc e)));
    pages = inl (begun_none _ _ (keeps.begun Page (λ e. cc e)));
    scripts = names_none asked.dir _ _ (keeps.begun Script (λ e. cc e));
  }

  module _ (now : Seen) (keeps : KeepsOthers Entities before now) (l : ReadsListed asked.list asked.dir now after) where
    pub stops-with : ReadTo ENTITIES_LIMIT Entities asked.entities before now → EachWithin ENTITIES_LIMIT Entities before now → StopsInList asked before after
    stops-with reads within = record {
      entities = read-alone ENTITIES_LIMIT Entities asked.entities before now after l.entities l.absences (let q = l.entities.no_fault in omega (arith, q)) reads;
      list = read_since LIST_LIMIT Entities list_port asked.list before now after (keeps.left list_port (λ e. cc e)) keeps l.list;
      scripts = scripts_since Entities asked.dir before now after (keeps.left Script (λ e. cc e)) keeps l.scripts;
      entities_within = within-alone ENTITIES_LIMIT Entities asked.entities before now after l.entities within;
      list_within = within-since LIST_LIMIT list_port before now after (keeps.calls list_port (λ e. cc e)) l.list_within;
      page_within = within-since PAGE_LIMIT Page before now after (keeps.calls Page (λ e. cc e)) l.page_within;
      scripts_within = within-since SCRIPT_LIMIT Script before now after (keeps.calls Script (λ e. cc e)) l.scripts_within;
    }

    pages-since : BeginsPages asked.list now after → BeginsPages asked.list before after
    pages-since (inl none) = inl (begun_since _ _ _ [] (keeps.begun Page (λ e. cc e)) none)
    pages-since (inr (bytes, paths, may, lists, front)) = inr (
      bytes,
      paths,
      may-since LIST_LIMIT list_port asked.list before now after keeps.files (alone-others list_port Entities before now (λ e. cc e) keeps) (keeps.absences list_port) (got bytes) may,
      lists,
      front-since paths before now after (keeps.begun Page (λ e. cc e)) front,
    )

    pub begins-with : Begun (before.begun Entities) (now.begun Entities) (asked.entities ∷ []) → BeginsListed asked before after
    begins-with paths = record {
      entities = inr (begun_stays _ _ _ (asked.entities ∷ []) paths l.entities.begun);
      list = inr (begun_since _ _ _ (asked.list ∷ []) (keeps.begun list_port (λ e. cc e)) l.list_begun);
      pages = pages-since l.pages;
      scripts = subst (λ b. NamesOnce asked.dir b (after.begun Script)) (keeps.begun Script (λ e. cc e)) l.names;
    }

-- ---- the same, at a path that is the same

pub no_list_is : (path path' : List ℕ) (before after : Seen) (u : Unlisted) → path ≡ path' → ReadsNoList path before after u → ReadsNoList path' before after u
no_list_is path path' before after u same none = subst (λ p. ReadsNoList p before after u) same none

pub list_is : (path path' : List ℕ) (before after : Seen) (paths paths' : List (List ℕ)) → path ≡ path' → paths ≡ paths' → ReadsList path before after paths → ReadsList path' before after paths'
list_is path path' before after paths paths' same alike reads = subst (λ p. ReadsList p before after paths') same (subst (λ ps. ReadsList path before after ps) alike reads)

pub reads_at : (dir dir' : List ℕ) (paths : List (List ℕ)) (before after : Seen) → dir ≡ dir' → ReadsPaths dir paths before after → ReadsPaths dir' paths before after
reads_at dir dir' paths before after same reads = subst (λ d. ReadsPaths d paths before after) same reads

pub answers_at : (es : Table) (dir dir' : List ℕ) (paths : List (List ℕ)) (before after : Seen) (k k' : ℕ) (t t' : Option (List ℕ)) (r : Status) → dir ≡ dir' → ListAnswers es dir paths before after k k' t t' r → ListAnswers es dir' paths before after k k' t t' r
answers_at es dir dir' paths before after k k' t t' r same answers = subst (λ d. ListAnswers es d paths before after k k' t t' r) same answers
