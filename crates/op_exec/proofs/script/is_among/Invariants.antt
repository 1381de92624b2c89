use Rattle.std.proofs.Common.{◌≡◌, map, nat_lt, IsTrue, drop}
use Rattle.std.specs.List.{list_any, list_all}
use Rattle.std.specs.Str.{chars}
use Rattle.std.specs.Char.{to_ascii_lowercase}
use Rattle.html_types.specs.Text.{same_text}
use Rattle.standard.specs.Prepare.{strip}
use Rattle.op_exec.proofs.script.is_among.Given as goal

-- it is none of the names that are passed, and those that are left are ASCII
abbrev pub invariant-loop-name : goal.invariant-loop-name
invariant-loop-name l = record {
  same : list_any (λ name. same_text (map to_ascii_lowercase (strip (chars l.text))) (map to_ascii_lowercase name.now)) l.names
      ≡ list_any (λ name. same_text (map to_ascii_lowercase (strip (chars l.text))) (map to_ascii_lowercase name.now)) (drop l.name-index l.names);
  ascii : IsTrue (list_all (λ name. list_all (λ b. nat_lt b 128) name.now) (drop l.name-index l.names));
}
