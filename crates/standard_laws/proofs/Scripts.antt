-- The moment behind a script at level 0, and behind one that was awaited.
use Rattle.std.proofs.Common.{◌∙◌, ap}
use Rattle.serial.specs.Serial.{inside, back_at, goes, ◌then◌, execute, run_prepared, run_text, tag_ended, awaits, after_script, after_fetch, moment_after}
use Rattle.standard_laws.specs.Laws.{ScriptLeads, ScriptRefuses, StillScripts, ExternalScripts, SyntaxErrors, AwaitsMissing, AwaitsFault, AwaitsGot, AwaitsRefuses, FileSyntaxErrors}
use Rattle.standard_laws.proofs.Passing.{leads-next}

-- ---- the moment behind a script

pub script-leads : ScriptLeads
unfolding moment_after
script-leads e w m i s t h (n, q, ended) = leads-next e w m n (tag_ended i s) _ h (ap after_script q)

pub script-refuses : ScriptRefuses
unfolding moment_after
script-refuses e w m i s t r h (n, q, ended) = leads-next e w m n (tag_ended i s) _ h (ap after_script q)

-- ---- a script whose end tag was met

pub still-script : StillScripts
unfolding execute
still-script w i s h = (2, ap (λ k. run_prepared 1 w k (inside s) then λ t. goes (back_at s t)) h, tt)

pub external-script : ExternalScripts
unfolding execute
external-script w i s name h = (2, ap (λ k. run_prepared 1 w k (inside s) then λ t. goes (back_at s t)) h, tt)

pub syntax-error : SyntaxErrors
unfolding execute
syntax-error w i s t h none = (
  3,
  ap (λ k. run_prepared 2 w k (inside s) then λ t. goes (back_at s t)) h ∙ ap (λ k. execute 1 w k (inside s) then λ t. goes (back_at s t)) none,
  tt,
)

-- ---- a script that was awaited

pub awaits-missing : AwaitsMissing
unfolding moment_after
awaits-missing e w m name s h q = leads-next e w m 0 (awaits name s) _ h (ap (after_fetch 0 w name s) q)

pub awaits-fault : AwaitsFault
unfolding moment_after
awaits-fault e w m name s h q = leads-next e w m 0 (awaits name s) _ h (ap (after_fetch 0 w name s) q)

pub awaits-got : AwaitsGot
unfolding moment_after
awaits-got e w m name bytes s t h q (n, r, ended) = leads-next e w m n (awaits name s) _ h (ap (after_fetch n w name s) q ∙ ap after_script r)

pub awaits-refuses : AwaitsRefuses
unfolding moment_after
awaits-refuses e w m name bytes s t r h q (n, k, ended) = leads-next e w m n (awaits name s) _ h (ap (after_fetch n w name s) q ∙ ap after_script k)

pub file-syntax_error : FileSyntaxErrors
unfolding execute
file-syntax_error w bytes s none = (1, ap (λ k. run_text 1 w k s) none, tt)
