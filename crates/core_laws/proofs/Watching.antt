-- How what is known of a page's scripts goes on along the serial parse.
use Rattle.std.proofs.Common.{◌≡◌, ◌≤◌, ◌<◌, ℕ, suc, nat_le, nat_lt, Bool, true, false, List, [], ◌∷◌, ◌++◌, length, drop, Option, Some, None, refl, subst, sym, ap, arith}
use Rattle.html_types.specs.declared.operation.NodeId.{NodeId}
use Rattle.html_types.specs.declared.ending.Ending.{Ending}
use Rattle.html_types.specs.declared.instruction.Stop.TheVariants as stop
use Rattle.standard.specs.Act.{Doc, acts}
use Rattle.standard.specs.Parser.{Parser, Took, took, take_character, Parsed, and_rest, parse}
use Rattle.serial.specs.Serial.{World, Serial, Moment, reading, tag_ended, awaits, over, prepared, taken, moment_after, Leads}
use Rattle.serial.specs.Serial as serial
use Rattle.standard_laws.specs.Laws.{moment_at}
use Rattle.standard_laws.proofs.Parse.{acts-append}
use Rattle.standard_laws.proofs.Batch.{moment_behind}
use Rattle.standard_laws.proofs.Passing.{leads-same, leads-next, leads-then}
use Rattle.core_definitions.specs.declared.verdict.Verdict.{Verdict}
use Rattle.core_definitions.specs.Verdict.{IsVerdict, Watch, runs, at_tag, judged, Reads, Watched, Watches, stays, goes_on}

module _ (e : Ending) (w : World) where
  pub watches-then : (a b c : Moment) (u v x : Watch) → Watches e w a u b v → Watches e w b v c x → Watches e w a u c x
  watches-then a b c u v x (stays m y) more = more
  watches-then a b c u v x (goes_on n m m1 m' y y1 y' q k rest) more = goes_on n m m1 c y y1 x q k (watches-then m1 b c y1 v x rest more)

  pub watches-next : (a b c : Moment) (u v x : Watch) (n : ℕ) → Watches e w a u b v → moment_after n e w b ≡ Some c → Watched c v x → Watches e w a u c x
  watches-next a b c u v x n h q k = watches-then a b c u v x h (goes_on n b c c v x x q k (stays c x))

  -- what is known has no bearing on the moments
  pub watches-lead : (a b : Moment) (u v : Watch) → Watches e w a u b v → Leads e w a b
  watches-lead a b u v (stays m y) = leads-same e w m
  watches-lead a b u v (goes_on n m m1 m' y y1 y' q k rest) = leads-then e w m m1 m' (leads-next e w m n m m1 (leads-same e w m) q) (watches-lead m1 m' y1 y' rest)

  -- ---- over a batch of the page's text, with no script in hand

  -- so much of the page is left, and no script is in hand
  abbrev pub at_left : ℕ → Watch → Watch
  at_left n v = record v { page_left = n; after_tag = None }

  -- what is known then, by what was known before
  abbrev pub IsWatch : Watch → Moment → Watch → Type 0
  IsWatch v (reading s) v' = v' ≡ at_left (length s.input) v
  IsWatch v (tag_ended i s) v' = v' ≡ at_tag true (runs (prepared i s)) (length s.input) s.parser (at_left (suc (length s.input)) v)
  IsWatch v (awaits name s) v' = Unit {0}
  IsWatch v (over o) v' = v'.failed ≡ v.failed

  reads-on : (s : Serial) (k : ℕ) (v : Watch) → length s.input ≤ k → Watched (reading s) (at_left k v) (at_left (length s.input) v)
  reads-on s k v h =
      let own : nat_le (length s.input) k ≡ true = grind (arith, h) in
      subst (λ (b : Bool). Reads b None (length s.input) s.parser (at_left k v) (at_left (length s.input) v)) (sym own) refl

  tag-own : (s : Serial) (i : NodeId) (v : Watch) → Watched (tag_ended i s) (at_left (suc (length s.input)) v) (at_tag true (runs (prepared i s)) (length s.input) s.parser (at_left (suc (length s.input)) v))
  tag-own s i v =
      let own : nat_lt (length s.input) (suc (length s.input)) ≡ true = grind arith in
      ap (λ (b : Bool). at_tag b (runs (prepared i s)) (length s.input) s.parser (at_left (suc (length s.input)) v)) (sym own)

  abbrev pub Comes : Moment → Watch → Moment → Watch → Type 0
  Comes a u b v = (v' : Watch) × Watches e w a u b v' × IsWatch v b v'

  character : (k : Took) (p : Parser) (d : Doc) (s : Serial) (c : ℕ) (t y : List ℕ) (v : Watch) (f : Parser → Parsed) → take_character w.entities p c ≡ k →
      ((p' : Parser) (d' : Doc) → Comes (reading (taken p' d' (t ++ y) s)) (at_left (length (t ++ y)) v) (moment_behind (taken p' d' (t ++ y) s) t y (f p')) v) →
      Comes (reading (taken p d (c ∷ (t ++ y)) s)) (at_left (suc (length (t ++ y))) v) (moment_behind (taken p d (c ∷ (t ++ y)) s) (c ∷ t) y (and_rest k f)) v
  unfolding moment_after
  character (took ops p' stop.InputEnd) p d s c t y v f q rest =
      let s1 : Serial = taken p' (acts d ops) (t ++ y) s in
      let r : Parsed = f p' in
      let there : Comes (reading s1) (at_left (length (t ++ y)) v) (moment_behind s1 t y r) v = rest p' (acts d ops) in
      let same : moment_at s r.parser (acts d (ops ++ r.ops)) (drop r.used t ++ y) r.stop ≡ moment_at s r.parser (acts (acts d ops) r.ops) (drop r.used t ++ y) r.stop =
      ap (λ d'. moment_at s r.parser d' (drop r.used t ++ y) r.stop) (acts-append ops r.ops d) in
      let m0 : Moment = reading (taken p d (c ∷ (t ++ y)) s) in
      let k : ℕ = suc (length (t ++ y)) in
      subst (λ (m : Moment). Comes m0 (at_left k v) m v) (sym same) (
        there.0,
        goes_on 0 m0 (reading s1) (moment_behind s1 t y r) (at_left k v) (at_left (length (t ++ y)) v) there.0
            (ap (λ x. Some (serial.after_character (taken p d (c ∷ (t ++ y)) s) (t ++ y) x)) q) (reads-on s1 k v (omega arith)) there.1,
        there.2,
      )
  character (took ops p' (stop.Script i)) p d s c t y v f q rest =
      let s1 : Serial = taken p' (acts d ops) (t ++ y) s in
      let m0 : Moment = reading (taken p d (c ∷ (t ++ y)) s) in
      let k : ℕ = suc (length (t ++ y)) in
      let v1 : Watch = at_tag true (runs (prepared i s1)) (length (t ++ y)) p' (at_left k v) in (
        v1,
        goes_on 0 m0 (tag_ended i s1) (tag_ended i s1) (at_left k v) v1 v1 (ap (λ x. Some (serial.after_character (taken p d (c ∷ (t ++ y)) s) (t ++ y) x)) q) (tag-own s1 i v) (stays (tag_ended i s1) v1),
        refl,
      )
  character (took ops p' stop.Deep) p d s c t y v f q rest =
      let m0 : Moment = reading (taken p d (c ∷ (t ++ y)) s) in
      let m1 : Moment = moment_behind (taken p d (c ∷ (t ++ y)) s) (c ∷ t) y (and_rest (took ops p' stop.Deep) f) in
      let v1 : Watch = at_left (suc (length (t ++ y))) v in
      (v1, goes_on 0 m0 m1 m1 v1 v1 v1 (ap (λ x. Some (serial.after_character (taken p d (c ∷ (t ++ y)) s) (t ++ y) x)) q) refl (stays m1 v1), refl)

  batch : (t y : List ℕ) (p : Parser) (d : Doc) (s : Serial) (v : Watch) →
      Comes (reading (taken p d (t ++ y) s)) (at_left (length (t ++ y)) v) (moment_behind (taken p d (t ++ y) s) t y (parse w.entities p t)) v
  unfolding parse acts
  batch [] y p d s v = (at_left (length y) v, stays (reading (taken p d y s)) (at_left (length y) v), refl)
  batch (c ∷ t) y p d s v = character (take_character w.entities p c) p d s c t y v (λ p'. parse w.entities p' t) refl (λ p' d'. batch t y p' d' s v)

  -- a batch is executed
  pub watches-batch : (s : Serial) (t y : List ℕ) (v : Watch) → s.input ≡ t ++ y →
      Comes (reading s) (at_left (length s.input) v) (moment_behind s t y (parse w.entities s.parser t)) v
  watches-batch s t y v q =
      subst (λ (i : List ℕ). Comes (reading (record s { input = i })) (at_left (length i) v) (moment_behind s t y (parse w.entities s.parser t)) v) (sym q) (batch t y s.parser s.side.doc s v)

  -- ---- while a script is in hand

  -- more than the page's rest is to be read
  pub longer-watched : (s : Serial) (v : Watch) → v.page_left < length s.input → Watched (reading s) v v
  longer-watched s v h =
      let more : nat_le (length s.input) v.page_left ≡ false = grind (arith, h) in
      subst (λ (b : Bool). Reads b v.after_tag (length s.input) s.parser v v) (sym more) refl

  -- the end tag of a script that was written
  pub written-watched : (s : Serial) (i : NodeId) (v : Watch) → v.page_left ≤ length s.input → Watched (tag_ended i s) v v
  written-watched s i v h =
      let written : nat_lt (length s.input) v.page_left ≡ false = grind (arith, h) in
      ap (λ (b : Bool). at_tag b (runs (prepared i s)) (length s.input) s.parser v) (sym written)

  -- the input is the page's rest again
  pub rest-watched : (s : Serial) (v : Watch) (held : Parser) (c : Verdict) → length s.input ≡ v.page_left → v.after_tag ≡ Some held → IsVerdict held s.parser c → Watched (reading s) v (judged c v)
  rest-watched s v held c h t i =
      let own : nat_le (length s.input) v.page_left ≡ true = grind (arith, h) in
      subst (λ (b : Bool). Reads b v.after_tag (length s.input) s.parser v (judged c v)) (sym own)
      (subst (λ (o : Option Parser). Reads true o (length s.input) s.parser v (judged c v)) (sym t) (c, i, refl))
