-- The events but Do, on what the side holds.
use Rattle.std.proofs.Common.{◌≡◌, ◌<◌, ◌≤◌, ◌+◌, ◌-◌, ◌*◌, ℕ, suc, nat_lt, Bool, true, false, true≢false, List, [], ◌∷◌, ◌++◌, length, take, drop, Option, Some, None, refl, sym, ◌∙◌, ap, subst, IsTrue, arith, length-append}
use Rattle.std.specs.Prelude.{not, ◌&&◌, ◌||◌, is_none, is_some, if◌then◌else◌}
use Rattle.std.specs.Str.{chars, IsUtf8, IsCharBoundary, encode_utf8_all}
use Rattle.std.proofs.lemmas.Bool.{and_parts}
use Rattle.std.proofs.Math.Utf8.{encodes}
use Rattle.std.proofs.Math.Seq.{drop-append_seam}
use Rattle.std.proofs.lemmas.Str.{IsUtf8-drop, encodes-chars, encodes-append, chars_from_encodes, IsCharBoundary-from_take}
use Rattle.std.proofs.lemmas.List.{take-append-drop}
use Rattle.html_types.specs.Text.{same_text}
use Rattle.standard.specs.Entities.{Entities}
use Rattle.standard.specs.Parser.{Parser}
use Rattle.serial.specs.Scripts.{Fetched, is_lawful}
use Rattle.core_definitions.specs.Batches.{Piece, Batch, answer}
use Rattle.core_definitions.specs.Core.{Request, request_for, joined}
use Rattle.core_definitions.specs.Desk.{Desk, wants_reply, can_do, is_among, sends, sends_first, takes, with_batches, answer_called_for, drops}
use Rattle.core_definitions.specs.Journal.{Journal}
use Rattle.core_definitions.specs.Settling.{is_empty}
use Rattle.core_definitions.specs.StandsFor.{text_of}
use Rattle.core_laws.proofs.Cutting.{answered-by-nothing}
use Rattle.page_pieces.specs.Keeping.{Kept, keeps, keeps_first, took, takes_first, stale as stale_kept, drops as drops_kept}
use Rattle.core_steps.specs.declared.stage.Stage.{Stage}
use Rattle.core_steps.specs.declared.stage.Stage.TheVariants.{Free, Tagged, Waits, Done}
use Rattle.core_steps.specs.declared.side.Side.{Side}
use Rattle.core_steps.specs.Fetches.{names_of}
use Rattle.core_steps.specs.Journals.{found}
use Rattle.core_steps.specs.Sides.{desk_of, hand_of, StandsIn, AreAhead, IsPlaced, IsSound, IsRequestFor}
use Rattle.core_steps.proofs.Sound.{text-append}
use Rattle.core_steps.proofs.Hands.{empty-hand}

-- ---- Send

abbrev with_kept : Kept → Side → Side
with_kept k s = record s { ledger = k }

pub sends-desk : (s : Side) (x : Piece) (xs : List Piece) (k : Kept) → s.ledger.to_send ≡ x ∷ xs → k ≡ keeps s.ledger → desk_of (record s { ledger = k; begins = None }) ≡ sends (desk_of s)
sends-desk s x xs k some is =
    ap (λ (z : Kept). desk_of (record s { ledger = z; begins = None })) (is ∙ ap (λ l. keeps_first l s.ledger) some) ∙ ap (λ l. sends_first l (desk_of s)) (sym some)

pub requested : (s : Side) (x : Piece) (xs : List Piece) (r : Request) → s.ledger.to_send ≡ x ∷ xs → r ≡ request_for (desk_of s) x → IsRequestFor s.ledger.to_send (desk_of s) r
requested s x xs r some is = subst (λ l. IsRequestFor l (desk_of s) r) (sym some) is

pub placed-sent : (place sent_to n : ℕ) (k k' : Kept) (x : Piece) (xs : List Piece) (j : Journal) → IsPlaced place sent_to k j → k.to_send ≡ x ∷ xs → k' ≡ keeps k → n ≡ length x.text → IsPlaced place (sent_to + n) k' j
placed-sent place sent_to n k k' x xs j h some is size = subst (λ (z : Kept). IsPlaced place (sent_to + n) z j) (sym (is ∙ ap (λ l. keeps_first l k) some)) (record {
  asked =
      let all : length (text_of (k.left ∷ (k.asked ++ x ∷ []))) ≡ length (text_of (k.left ∷ k.asked)) + length x.text =
      ap length (text-append (k.left ∷ k.asked) (x ∷ [])) ∙ (length-append (text_of (k.left ∷ k.asked)) (text_of (x ∷ [])) ∙ ap (λ m. length (text_of (k.left ∷ k.asked)) + m) (nil x.text)) in
      omega (arith, all, h.asked, size);
  to_send =
      let all : length (text_of k.to_send) ≡ length x.text + length (text_of xs) = ap (λ l. length (text_of l)) some ∙ length-append x.text (text_of xs) in
      omega (arith, all, h.to_send, size);
  within = h.within;
})
  where
    nil : (t : List ℕ) → length (t ++ []) ≡ length t
    nil t = omega (arith, length-append t [])

-- so much of the page stands before the pieces to be sent
pub sent-before : (place sent_to : ℕ) (k : Kept) (j : Journal) → IsPlaced place sent_to k j → sent_to ≡ length (joined j.pieces) - length (text_of k.to_send)
sent-before place sent_to k j h = omega (arith, h.to_send)

pub sent-fits : (place sent_to n : ℕ) (k : Kept) (x : Piece) (xs : List Piece) (j : Journal) → IsPlaced place sent_to k j → k.to_send ≡ x ∷ xs → n ≡ sent_to → n + length x.text ≤ 1073741824
sent-fits place sent_to n k x xs j h some is =
    let all : length (text_of k.to_send) ≡ length x.text + length (text_of xs) = ap (λ l. length (text_of l)) some ∙ length-append x.text (text_of xs) in
    omega (arith, all, h.to_send, h.within, is)

-- ---- Take

pub takes-desk : (s : Side) (k : Kept) → s.stage ≡ Free → k ≡ took s.ledger → desk_of (with_kept k s) ≡ takes s.table (desk_of s)
takes-desk s k free is =
    ap (λ (z : Kept). desk_of (with_kept z s)) is
    ∙ (ap (λ t. desk_of (with_kept (took s.ledger) (record s { stage = t }))) free
    ∙ (by (nat_lt 0 (stale_kept s.ledger)) s.ledger.asked ∙ ap (λ t. takes s.table (desk_of (record s { stage = t }))) (sym free)))
  where
    by : (b : Bool) (xs : List Piece) →
        desk_of (with_kept (if b then drops_kept s.ledger else takes_first xs s.ledger) (record s { stage = Free })) ≡ (if b then drops (desk_of (record s { stage = Free })) else with_batches (answer_called_for s.table (desk_of (record s { stage = Free })) xs) xs (desk_of (record s { stage = Free })))
    by true xs = refl
    by false [] = refl
    by false (x ∷ xs) = refl

-- nothing is left of the piece in hand then
pub left-none : (es : Entities) (p : Parser) (x : Piece) → is_empty (answer es (Some p) x).batches ≡ true → x.text ≡ []
left-none es p x none = by (answer es (Some p) x).batches refl none
  where
    by : (bs : List Batch) → (answer es (Some p) x).batches ≡ bs → is_empty bs ≡ true → x.text ≡ []
    by [] is e = (answered-by-nothing es p x (sym is)).text
    by (b ∷ bs) is e = absurd (true≢false (sym e))

pub placed-took : (place sent_to : ℕ) (k k' : Kept) (j : Journal) → IsPlaced place sent_to k j → k.left.text ≡ [] → k' ≡ took k → IsPlaced place sent_to k' j
placed-took place sent_to k k' j h none is = subst (λ (z : Kept). IsPlaced place sent_to z j) (sym is) (by (nat_lt 0 (stale_kept k)) k.asked refl)
  where
    by : (b : Bool) (xs : List Piece) → k.asked ≡ xs → IsPlaced place sent_to (if b then drops_kept k else takes_first xs k) j
    by true xs e = record { asked = h.asked; to_send = h.to_send; within = h.within }
    by false [] e = h
    by false (x ∷ xs) e =
        let all : length (text_of (k.left ∷ k.asked)) ≡ length (text_of (x ∷ xs)) = ap (λ l. length (text_of (k.left ∷ l))) e ∙ ap (λ t. length (t ++ text_of (x ∷ xs))) none in
        record { asked = omega (arith, all, h.asked); to_send = h.to_send; within = h.within }

-- ---- what is handed in

joined-append : (ts : List (List ℕ)) (t : List ℕ) → length (joined (ts ++ t ∷ [])) ≡ length (joined ts) + length t
joined-append [] t = omega (arith, length-append t [])
joined-append (u ∷ us) t = omega (arith, joined-append us t, length-append u (joined (us ++ t ∷ [])), length-append u (joined us))

pub placed-more : (place sent_to : ℕ) (k k' : Kept) (x : Piece) (j j' : Journal) → IsPlaced place sent_to k j → k' ≡ record k { to_send = k.to_send ++ x ∷ [] } → length (joined j'.pieces) ≡ length (joined j.pieces) + length x.text →
    length (joined j.pieces) + length x.text ≤ 1073741824 → IsPlaced place sent_to k' j'
placed-more place sent_to k k' x j j' h is more fits = subst (λ (z : Kept). IsPlaced place sent_to z j') (sym is) (record {
  asked = h.asked;
  to_send =
      let all : length (text_of (k.to_send ++ x ∷ [])) ≡ length (text_of k.to_send) + length x.text =
      ap length (text-append k.to_send (x ∷ [])) ∙ (length-append (text_of k.to_send) (text_of (x ∷ [])) ∙ ap (λ m. length (text_of k.to_send) + m) (nil x.text)) in
      omega (arith, all, h.to_send, more);
  within = omega (arith, more, fits);
})
  where
    nil : (t : List ℕ) → length (t ++ []) ≡ length t
    nil t = omega (arith, length-append t [])

pub pieces-more : (ts ts' : List (List ℕ)) (t : List ℕ) → ts' ≡ ts ++ t ∷ [] → length (joined ts') ≡ length (joined ts) + length t
pieces-more ts ts' t is = ap (λ l. length (joined l)) is ∙ joined-append ts t

-- ---- names that have arrived

pub found-among : (name : List ℕ) (fs : List (List ℕ × Fetched)) → is_some (found name fs) ≡ is_among name (names_of fs)
found-among name [] = refl
found-among name (f ∷ fs) = by (same_text f.0 name) (found-among name fs)
  where
    by : (b : Bool) → is_some (found name fs) ≡ is_among name (names_of fs) → is_some (if b then Some f.1 else found name fs) ≡ (b || is_among name (names_of fs))
    by true h = refl
    by false h = h

-- a lawful name has arrived where it is found
pub found-arrived : (name : List ℕ) (fs : List (List ℕ × Fetched)) (lawful b : Bool) → lawful ≡ is_lawful name → lawful ≡ true → b ≡ is_some (found name fs) → b ≡ (not (is_lawful name) || is_among name (names_of fs))
found-arrived name fs lawful b is held at = at ∙ (found-among name fs ∙ ap (λ l. not l || is_among name (names_of fs)) (sym (sym is ∙ held)))

-- ---- the text that is used

-- of a text, so many bytes of its front
pub front-at : (text v : List ℕ) (bytes : ℕ) (front rest : List ℕ) → chars v ≡ text → IsUtf8 v → IsUtf8 front → bytes ≡ length front → text ≡ chars front ++ rest → IsCharBoundary v bytes × (chars (drop bytes v) ≡ rest)
front-at text v bytes front rest is utf8 u size split =
    let whole : v ≡ front ++ encodes rest =
    sym (encodes-chars v utf8) ∙ (ap encodes (is ∙ split) ∙ (encodes-append (chars front) rest ∙ ap (λ t. t ++ encodes rest) (encodes-chars front u))) in
    let taken : take bytes v ≡ front = ap (take bytes) whole ∙ (ap (λ n. take n (front ++ encodes rest)) size ∙ take-append-seam front (encodes rest)) in
    let dropped : drop bytes v ≡ encodes rest = ap (drop bytes) whole ∙ (ap (λ n. drop n (front ++ encodes rest)) size ∙ drop-append_seam front (encodes rest)) in
    let fits : bytes ≤ length v = let l = ap length whole in omega (arith, l, size, length-append front (encodes rest)) in
    let boundary : IsCharBoundary v bytes = IsCharBoundary-from_take v bytes utf8 fits (subst IsUtf8 (sym taken) u) in
    (boundary, sym (chars_from_encodes rest (drop bytes v) (IsUtf8-drop v bytes utf8 boundary) (sym dropped)))
  where
    take-append-seam : (xs ys : List ℕ) → take (length xs) (xs ++ ys) ≡ xs
    take-append-seam [] ys = refl
    take-append-seam (x ∷ xs) ys = ap (λ t. x ∷ t) (take-append-seam xs ys)

-- ---- with no script in hand

pub wants-free : (s : Side) (blank : Bool) → s.stage ≡ Free → blank ≡ (is_empty s.ledger.left.text && is_none s.ledger.left.ending) → (blank && nat_lt 0 (s.ledger.sent - s.ledger.taken)) ≡ wants_reply (desk_of s)
wants-free s blank free is =
    sym
    (ap (λ t. wants_reply (desk_of (record s { stage = t }))) free
    ∙ (ap (λ e. e && nat_lt 0 (s.ledger.sent - s.ledger.taken)) (empty-hand s.table s.writer.parser s.ledger.left ∙ sym is)))

pub does-free : (s : Side) (blank : Bool) → s.stage ≡ Free → blank ≡ (is_empty s.ledger.left.text && is_none s.ledger.left.ending) → not blank ≡ can_do (desk_of s)
does-free s blank free is =
    sym (ap (λ t. can_do (desk_of (record s { stage = t }))) free ∙ ap not (empty-hand s.table s.writer.parser s.ledger.left ∙ sym is))
