-- How a line begins in each form.
use Rattle.std.proofs.Common.{◌≡◌, ◌≢◌, ◌⊎◌, ◌==◌, ℕ, ◌+◌, ◌^◌, ◌<◌, ◌≤◌, Bool, true, false, List, [], ◌∷◌, ◌++◌, length, get_or, take, drop, Option, Some, None, Bor, MatchOption, arith, refl, ap, sym, inl, inr, lit<, ◌∙◌, ⊎_elim}
use Rattle.std.specs.Prelude.{All, codes}
use Rattle.std.specs.Char.{is_ascii_whitespace}
use Rattle.std.specs.List.{filter, slice_split, onto_first}
use Rattle.std.specs.Str.{IsTrimAsciiStart}
use Rattle.std.specs.Str.Pattern.{FindsCharPrefix, StripsPrefix}
use Rattle.std.proofs.lemmas.Bool.{cases_lt}
use Rattle.std.proofs.lemmas.Bool.Decides.{nat_tests}
use Rattle.std.proofs.lemmas.List.{length-append, get_or_append_left, get_or_past, get_or-take, length-take-le, take-append-drop, get_or-drop}
use Rattle.std.proofs.lemmas.List.Elements.{All-head, All-tail, All-get_or, All-from_get_or, All-nil, All-cons, All-weaker, All-append}
use Rattle.std.proofs.lemmas.List.Splits.{slice_split-cons_no, slice_split-cons_yes, length-slice_split}
use Rattle.std.proofs.lemmas.Str.Pattern.{IsSplitOnceResult, split_after}
use Rattle.can_frame.specs.FrameText.{id_text}
use Rattle.can_frame.specs.FrameValue.{FrameValue}
use Rattle.candump_line.specs.Calendar.{SpellsDate}
use Rattle.candump_line.specs.Forms.{apart, IsCountedFrame, IsJoinedFrame, IsLongFrame, TellsDropped}
use Rattle.candump_line.specs.Logged.{dropped_told}
use Rattle.candump_line.specs.LineForms.{BeginsWithTime, IsBegun, IsMarkedText, IsPlainBus, IsReadAs, SpellsTime}
use Rattle.candump_line.specs.LineText.{micros_of_ticks, ticks_text, IsDataFrame, IsFraction, decimal_digits}
use Rattle.candump_line.specs.Told.{content_told, Says}
use Rattle.candump_line.specs.Words.{is_word, words_of}
use Rattle.candump_line.specs.declared.line.Line.{Line}
use Rattle.candump_line.proofs.BytesLemmas.{hex_at, hex_of_id}
use Rattle.candump_line.proofs.LineLemmas.{length-id, of_time, IsOfTime, of_numeral}
use Rattle.candump_line.proofs.TimeLemmas.{parts_of, fraction_bounds, IsNumeral-digits}
use Rattle.candump_line.proofs.WordLemmas.{IsDark, cons_same, first_of_word, words-gap}

abbrev pub IsBlank : ℕ → Type 0
IsBlank c = is_ascii_whitespace c ≡ true

-- a text has a first part
split_some : (xs : List ℕ) → (part : List ℕ) × (parts : List (List ℕ)) × (slice_split is_ascii_whitespace xs ≡ part ∷ parts)
split_some xs = some_of (slice_split is_ascii_whitespace xs) refl
  where
    some_of : (parts : List (List ℕ)) → slice_split is_ascii_whitespace xs ≡ parts → (part : List ℕ) × (more : List (List ℕ)) × (slice_split is_ascii_whitespace xs ≡ part ∷ more)
    some_of [] e = absurd (omega (arith, length-slice_split is_ascii_whitespace xs, ap length e))
    some_of (part ∷ parts) e = (part, parts, e)

split_prefix : (front more : List ℕ) → All IsDark front → (part : List ℕ) × (parts : List (List ℕ)) × (slice_split is_ascii_whitespace (front ++ more) ≡ (front ++ part) ∷ parts)
split_prefix [] more h = split_some more
split_prefix (c ∷ front) more h =
    let rest = split_prefix front more (All-tail IsDark c front h) in
    (rest.0, rest.1, slice_split-cons_no is_ascii_whitespace c (front ++ more) (All-head IsDark c front h) ∙ ap (onto_first c) rest.2)

split_front : (front more part : List ℕ) (parts : List (List ℕ)) → All IsDark front → slice_split is_ascii_whitespace more ≡ part ∷ parts
    → slice_split is_ascii_whitespace (front ++ more) ≡ (front ++ part) ∷ parts
split_front [] more part parts h e = e
split_front (c ∷ front) more part parts h e =
    slice_split-cons_no is_ascii_whitespace c (front ++ more) (All-head IsDark c front h) ∙ ap (onto_first c) (split_front front more part parts (All-tail IsDark c front h) e)

nothing_more : (front part : List ℕ) → front ++ part ≡ front → part ≡ []
nothing_more front [] e = refl
nothing_more front (c ∷ cs) e = absurd (omega (arith, ap length e, length-append front (c ∷ cs)))

-- behind the first word of a text stand the others
pub behind_word : (front rest : List ℕ) (words : List (List ℕ)) → All IsDark front → 0 < length front → words_of (front ++ rest) ≡ front ∷ words → words_of rest ≡ words
unfolding words_of
behind_word [] rest words dark some e = absurd (omega (arith, some))
behind_word (c ∷ front) rest words dark some e =
    let first = split_some rest in
    let whole = split_front (c ∷ front) rest first.0 first.1 dark first.2 in
    let same = cons_same (c ∷ (front ++ first.0)) (c ∷ front) (filter is_word first.1) words (sym (ap (filter is_word) whole) ∙ e) in
    let none = nothing_more (c ∷ front) first.0 same.0 in
    ap (filter is_word) (first.2 ∙ ap (λ t. t ∷ first.1) none) ∙ same.1

split_head : (xs part : List ℕ) (parts : List (List ℕ)) → slice_split is_ascii_whitespace xs ≡ part ∷ parts → (rest : List ℕ) × (xs ≡ part ++ rest)
split_head [] part parts e = ([], ap (λ t. t ++ []) (cons_same [] part [] parts e).0)
split_head (x ∷ xs) part parts e =
    let next = split_some xs in
    let more = split_head xs next.0 next.1 next.2 in
    at_first (is_ascii_whitespace x) refl next.0 next.1 next.2 more
  where
    at_first : (b : Bool) → is_ascii_whitespace x ≡ b → (p : List ℕ) (ps : List (List ℕ)) → slice_split is_ascii_whitespace xs ≡ p ∷ ps → (rest : List ℕ) × (xs ≡ p ++ rest)
        → (rest : List ℕ) × (x ∷ xs ≡ part ++ rest)
    at_first true blank p ps next more =
        (x ∷ xs, ap (λ t. t ++ x ∷ xs) (cons_same [] part (slice_split is_ascii_whitespace xs) parts (sym (slice_split-cons_yes is_ascii_whitespace x xs blank) ∙ e)).0)
    at_first false dark p ps next more =
        let same = cons_same (x ∷ p) part ps parts (sym (slice_split-cons_no is_ascii_whitespace x xs dark ∙ ap (onto_first x) next) ∙ e) in
        (more.0, ap (λ t. x ∷ t) more.1 ∙ ap (λ t. t ++ more.0) same.0)

-- a text that begins with no blank begins with its first word
pub text_of_word : (text word : List ℕ) (words : List (List ℕ)) → IsDark (get_or text 0 0) → words_of text ≡ word ∷ words → (rest : List ℕ) × (text ≡ word ++ rest)
unfolding words_of
text_of_word [] word words dark e = absurd cc
text_of_word (c ∷ cs) word words dark e =
    let next = split_some cs in
    let whole = slice_split-cons_no is_ascii_whitespace c cs dark ∙ ap (onto_first c) next.2 in
    let same = cons_same (c ∷ next.0) word (filter is_word next.1) words (sym (ap (filter is_word) whole) ∙ e) in
    let front = split_head (c ∷ cs) (c ∷ next.0) next.1 whole in
    (front.0, front.1 ∙ ap (λ t. t ++ front.0) same.0)

-- the first word of a text has what the text begins with
pub front_of_word : (front more word : List ℕ) (words : List (List ℕ)) → All IsDark front → 0 < length front → words_of (front ++ more) ≡ word ∷ words
    → (i : ℕ) → i < length front → get_or word i 0 ≡ get_or front i 0
unfolding words_of
front_of_word [] more word words dark some e i there = absurd (omega (arith, some))
front_of_word (c ∷ front) more word words dark some e i there =
    let split = split_prefix (c ∷ front) more dark in
    let same = cons_same (c ∷ (front ++ split.0)) word (filter is_word split.1) words (sym (ap (filter is_word) split.2) ∙ e) in
    ap (λ t. get_or t i 0) (sym same.0) ∙ get_or_append_left (c ∷ front) split.0 0 i there

dark_begun : (inner text : List ℕ) (n : ℕ) → text ≡ drop n inner → length text + n ≡ length inner → (n < length inner → IsDark (get_or inner n 0)) → IsDark (get_or text 0 0)
dark_begun inner [] n e len dark = refl
dark_begun inner (c ∷ cs) n e len dark =
    let none : n + 0 ≡ n = omega arith in
    let first : c ≡ get_or inner n 0 = ap (λ t. get_or t 0 0) e ∙ get_or-drop n inner 0 0 ∙ ap (λ k. get_or inner k 0) none in
    rw first (dark (omega (arith, len)))

-- what `trim_ascii_start` leaves
pub trim_begun : (inner rest text : List ℕ) → rest ≡ inner → IsTrimAsciiStart rest text → IsBegun inner text
trim_begun inner rest text e h =
    let fits : h.0 ≤ length rest = omega (arith, h.2) in
    rw (← e) (record {
      blanks = take h.0 rest;
      blank = All-from_get_or IsBlank (take h.0 rest) 0 (λ i l.
          let within : i < h.0 = omega (arith, l, length-take-le h.0 rest fits) in
          rw (get_or-take h.0 rest i 0 within) (h.3 i within));
      laid = sym (take-append-drop h.0 rest) ∙ ap (λ t. take h.0 rest ++ t) (sym h.1);
      dark = dark_begun rest text h.0 h.1 h.2 h.4;
    })

-- behind a byte order mark
pub unmarked : (text inner : List ℕ) (r : Option (Bor (List ℕ))) → IsMarkedText text inner → get_or inner 0 0 < 128
    → MatchOption r (FindsCharPrefix 65279 text None) (λ x. StripsPrefix (FindsCharPrefix 65279) text x.now) → MatchOption r (text ≡ inner) (λ x. x.now ≡ inner)
unfolding lib.Utf8.encode
unmarked text inner None (inl e) low h = e
unmarked text inner None (inr e) low h = absurd (h inner e)
unmarked text inner (Some x) (inl e) low h =
    let first : get_or inner 0 0 ≡ 239 = ap (λ t. get_or t 0 0) (sym e ∙ h.1.split) in
    absurd (omega (arith, low, first))
unmarked text inner (Some x) (inr e) low h = h.2 ∙ ap (λ k. drop k text) h.1.ends ∙ ap (drop 3) e

clash : (c : ℕ) → IsBlank c → IsDark c → ⊥
clash c blank dark = cc

-- behind its blanks a text begins at one place
pub same_front : (before gap xs ys : List ℕ) → All IsBlank before → All IsBlank gap → IsDark (get_or xs 0 0) → IsDark (get_or ys 0 0) → before ++ xs ≡ gap ++ ys → xs ≡ ys
same_front [] [] xs ys ha hb dx dy e = e
same_front [] (b ∷ gap) xs ys ha hb dx dy e =
    let first : get_or xs 0 0 ≡ b = ap (λ t. get_or t 0 0) e in
    absurd (clash b (All-head IsBlank b gap hb) (rw first at dx))
same_front (a ∷ before) [] xs ys ha hb dx dy e =
    let first : get_or ys 0 0 ≡ a = ap (λ t. get_or t 0 0) (sym e) in
    absurd (clash a (All-head IsBlank a before ha) (rw first at dy))
same_front (a ∷ before) (b ∷ gap) xs ys ha hb dx dy e =
    same_front before gap xs ys (All-tail IsBlank a before ha) (All-tail IsBlank b gap hb) dx dy (cons_same a b (before ++ xs) (gap ++ ys) e).1

timed_front : (inner time rest text : List ℕ) → BeginsWithTime inner time rest → IsBegun inner text → text ≡ 40 ∷ (time ++ 41 ∷ rest)
timed_front inner time rest text begins begun =
    same_front begun.blanks begins.blanks text (40 ∷ (time ++ 41 ∷ rest)) begun.blank begins.blank begun.dark refl (sym begun.laid ∙ begins.laid)

words_begun : (inner text : List ℕ) → IsBegun inner text → words_of text ≡ words_of inner
words_begun inner text begun = sym (ap words_of begun.laid ∙ words-gap begun.blanks text begun.blank)

-- how the first word of a line begins that is none of the other forms
abbrev pub IsHead : ℕ → Type 0
IsHead c = (32 < c) × (c < 127) × (c ≢ 35) × (c ≢ 40)

pub head_of_bus : (bus : List ℕ) → IsPlainBus bus → IsHead (get_or bus 0 0)
head_of_bus bus plain =
    let seen = All-get_or (λ c. (32 < c) × (c < 127)) bus 0 0 plain.name.some plain.name.seen in
    let marks = All-get_or (λ c. (c ≢ 35) × (c ≢ 40) × (c ≢ 58)) bus 0 0 plain.name.some plain.marks in
    (seen.0, seen.1, marks.0, marks.1)

pub of_joined : (n i : ℕ) (rest : List ℕ) → i < 8 → get_or (id_text n ++ rest) i 0 ≡ get_or (id_text n) i 0
of_joined n i rest small = get_or_append_left (id_text n) rest 0 i (omega (arith, length-id n, small))

head_of_drop : IsHead 68
head_of_drop = (omega arith, omega arith, λ e. omega (arith, e), λ e. omega (arith, e))

pub head_of_id : (n : ℕ) (word : List ℕ) → get_or word 0 0 ≡ get_or (id_text n) 0 0 → IsHead (get_or word 0 0)
head_of_id n word e =
    let range = hex_at (id_text n) 0 (hex_of_id n) (omega (arith, length-id n)) in
    (omega (arith, range.0, e), omega (arith, range.1, e), λ k. omega (arith, range.0, e, k), λ k. omega (arith, range.0, e, k))

low_blank : (c : ℕ) → IsBlank c → c < 128
low_blank c h = grind (arith, nat_tests, h)

-- the text before that word too begins with a character of ASCII
low_of_word : (inner word : List ℕ) (words : List (List ℕ)) → words_of inner ≡ word ∷ words → get_or word 0 0 < 127 → get_or inner 0 0 < 128
low_of_word inner word words e low = at_first (is_ascii_whitespace (get_or inner 0 0)) refl
  where
    at_first : (b : Bool) → is_ascii_whitespace (get_or inner 0 0) ≡ b → get_or inner 0 0 < 128
    at_first true blank = low_blank (get_or inner 0 0) blank
    at_first false dark = omega (arith, low, first_of_word inner word words e dark)

low_of_time : (inner time rest : List ℕ) → BeginsWithTime inner time rest → get_or inner 0 0 < 128
low_of_time inner time rest begins = at_blanks begins.blanks begins.blank begins.laid
  where
    at_blanks : (blanks : List ℕ) → All IsBlank blanks → inner ≡ blanks ++ 40 ∷ (time ++ 41 ∷ rest) → get_or inner 0 0 < 128
    at_blanks [] h e = let first : get_or inner 0 0 ≡ 40 = ap (λ t. get_or t 0 0) e in omega (arith, first)
    at_blanks (b ∷ blanks) h e =
        let first : get_or inner 0 0 ≡ b = ap (λ t. get_or t 0 0) e in
        let low = low_blank b (All-head IsBlank b blanks h) in
        omega (arith, first, low)

-- what a text begins with behind its blanks
abbrev pub Begun : List ℕ → List ℕ → Type 0
Begun inner text = get_or inner 0 0 < 128 → IsBegun inner text

head_of_text : (inner text word : List ℕ) (words : List (List ℕ)) → Begun inner text → words_of inner ≡ word ∷ words → IsHead (get_or word 0 0) → get_or word 0 0 ≡ get_or text 0 0
head_of_text inner text word words begun e head =
    let h = begun (low_of_word inner word words e head.1) in
    first_of_word text word words (words_begun inner text h ∙ e) h.dark

-- it is no note
no_note : (inner text : List ℕ) (line : Line) → Begun inner text → (get_or text 0 0 ≡ 0) ⊎ (get_or text 0 0 ≡ 35) → IsReadAs inner line
no_note inner text line begun note = record {
  timed = λ time rest bus micros words f begins spells long e form.
      let first : get_or text 0 0 ≡ 40 = ap (λ t. get_or t 0 0) (timed_front inner time rest text begins (begun (low_of_time inner time rest begins))) in
      absurd (grind (arith, first, note));
  counted = λ bus words f plain long e h. none bus words e (head_of_bus bus plain);
  joined = λ f long h. none (id_text f.id ++ 35 ∷ h.bytes) h.side h.laid (head_of_id f.id (id_text f.id ++ 35 ∷ h.bytes) (of_joined f.id 0 (35 ∷ h.bytes) (omega arith)));
  dropped = λ bus count h small. none (codes "DROPCOUNT:") _ h.laid head_of_drop;
  spread = λ f lawful e. none (id_text f.id) _ e (head_of_id f.id (id_text f.id) refl);
}
  where
    none : {P : Type 0} (word : List ℕ) (words : List (List ℕ)) → words_of inner ≡ word ∷ words → IsHead (get_or word 0 0) → P
    none word words e head =
        let first = head_of_text inner text word words begun e head in
        let some = head.0 in
        let mark = head.2 in
        absurd (⊎_elim (λ (empty : get_or text 0 0 ≡ 0). omega (arith, some, first, empty)) (λ (hash : get_or text 0 0 ≡ 35). mark (first ∙ hash)) note)

pub no_note_empty : (inner text : List ℕ) (line : Line) → Begun inner text → length text ≡ 0 → IsReadAs inner line
no_note_empty inner [] line begun e = no_note inner [] line begun (inl refl)
no_note_empty inner (c ∷ cs) line begun e = absurd (omega (arith, e))

pub no_note_hash : (inner text : List ℕ) (line : Line) → Begun inner text → get_or text 0 0 ≡ 35 → IsReadAs inner line
no_note_hash inner text line begun e = no_note inner text line begun (inr e)

-- no parenthesis stands in a time
pub time_marks : (time : List ℕ) (micros : ℕ) → SpellsTime time micros → All (λ c. c ≢ 41) time
time_marks time micros (inl h) =
    rw h.laid (All-weaker IsOfTime (λ c. c ≢ 41) (λ c of. λ e. omega (arith, of.0, e)) (ticks_text h.digits h.ticks) (of_time h.digits h.ticks (parts_of h.digits h.ticks h.fraction h.small)))
time_marks time micros (inr h) =
    let bounds = fraction_bounds h.digits h.clock.fraction in
    let fraction = decimal_digits h.digits h.ticks [] ++ [] in
    let seconds = decimal_digits 2 h.seconds [] ++ 46 ∷ fraction in
    let minutes = decimal_digits 2 h.minutes [] ++ 58 ∷ seconds in
    let clock = decimal_digits 2 h.hours [] ++ 58 ∷ minutes in
    let day = decimal_digits 2 h.day [] ++ 32 ∷ clock in
    let month = decimal_digits 2 h.month [] ++ 45 ∷ day in
    rw h.laid (marks_before 4 h.year 45 month (lit< tt) (λ e. omega (arith, e)) (marks_before 2 h.month 45 day (lit< tt) (λ e. omega (arith, e))
    (marks_before 2 h.day 32 clock (lit< tt) (λ e. omega (arith, e)) (marks_before 2 h.hours 58 minutes (lit< tt) (λ e. omega (arith, e))
    (marks_before 2 h.minutes 58 seconds (lit< tt) (λ e. omega (arith, e)) (marks_before 2 h.seconds 46 fraction (lit< tt) (λ e. omega (arith, e))
    (All-append (λ c. c ≢ 41) (decimal_digits h.digits h.ticks []) [] (marks_of h.digits h.ticks bounds.0) (All-nil (λ c. c ≢ 41)))))))))
  where
    marks_of : (k n : ℕ) → 0 < k → All (λ c. c ≢ 41) (decimal_digits k n [])
    marks_of k n some = All-weaker IsOfTime (λ c. c ≢ 41) (λ c of. λ e. omega (arith, of.0, e)) (decimal_digits k n []) (of_numeral (decimal_digits k n []) (IsNumeral-digits k n some))

    marks_before : (k n mark : ℕ) (rest : List ℕ) → 0 < k → mark ≢ 41 → All (λ c. c ≢ 41) rest → All (λ c. c ≢ 41) (decimal_digits k n [] ++ mark ∷ rest)
    marks_before k n mark rest some other h =
        All-append (λ c. c ≢ 41) (decimal_digits k n []) (mark ∷ rest) (marks_of k n some) (All-cons (λ c. c ≢ 41) mark rest other h)

pub cut_time : (text time rest : List ℕ) (micros : ℕ) (r : Option (Bor (List ℕ) × Bor (List ℕ))) → IsSplitOnceResult 41 text r → text ≡ time ++ 41 ∷ rest → SpellsTime time micros
    → MatchOption r ⊥ (λ x. (x.0.now ≡ time) × (x.1.now ≡ rest))
cut_time text time rest micros r h e spells =
    split_after 41 text time rest r h (omega arith) e (λ i there. All-get_or (λ c. c ≢ 41) time i 0 there (time_marks time micros spells))

-- what `Time::read` answers
pub time_read : (text time : List ℕ) (micros : ℕ) (r : Option ℕ)
    → ((digits ticks : ℕ) → IsFraction digits → ticks < 10 ^ (10 + digits) → text ≡ ticks_text digits ticks → r ≡ Some (micros_of_ticks digits ticks))
    → ((n : ℕ) → SpellsDate text n → r ≡ Some n) → text ≡ time → SpellsTime time micros → r ≡ Some micros
time_read text time micros r reads dated e (inl h) = reads h.digits h.ticks h.fraction h.small (e ∙ h.laid) ∙ ap Some h.told
time_read text time micros r reads dated e (inr h) = dated micros (rw e h)

pub none_some : {X : Type 0} (r : Option X) (x : X) → r ≡ None → r ≡ Some x → ⊥
none_some r x e h = cc

pub some_one : {X : Type 0} (r : Option X) (x y : X) → r ≡ Some x → r ≡ Some y → x ≡ y
some_one r x y e h = cc

dark_mark : All IsDark (codes "DROPCOUNT:")
dark_mark =
    All-cons IsDark 68 (codes "ROPCOUNT:") refl (All-cons IsDark 82 (codes "OPCOUNT:") refl (All-cons IsDark 79 (codes "PCOUNT:") refl
    (All-cons IsDark 80 (codes "COUNT:") refl (All-cons IsDark 67 (codes "OUNT:") refl (All-cons IsDark 79 (codes "UNT:") refl
    (All-cons IsDark 85 (codes "NT:") refl (All-cons IsDark 78 (codes "T:") refl (All-cons IsDark 84 (codes ":") refl (All-cons IsDark 58 [] refl (All-nil IsDark))))))))))

no_colon : (bus : List ℕ) → IsPlainBus bus → get_or bus 9 0 ≢ 58
no_colon bus plain = λ e. ⊎_elim
    (λ (there : 9 < length bus). (All-get_or (λ c. (c ≢ 35) × (c ≢ 40) × (c ≢ 58)) bus 9 0 there plain.marks).2 e)
    (λ (past : length bus ≤ 9). let none = get_or_past bus 9 0 past in omega (arith, e, none))
    (cases_lt 9 (length bus))

no_letter : (n : ℕ) (word : List ℕ) → get_or word 1 0 ≡ get_or (id_text n) 1 0 → get_or word 1 0 ≢ 82
no_letter n word e = λ k. (hex_at (id_text n) 1 (hex_of_id n) (omega (arith, length-id n))).2 (sym e ∙ k)

-- it tells of dropped frames
pub in_drop : (inner text rest : List ℕ) (line : Line) → Begun inner text → text ≡ codes "DROPCOUNT:" ++ rest
    → ((bus : List ℕ) (count : ℕ) → TellsDropped (codes "DROPCOUNT:" ∷ words_of rest) bus count → count < 2 ^ 32 → dropped_told line ≡ Some (Some bus, count)) → IsReadAs inner line
in_drop inner text rest line begun mark reads = record {
  timed = λ time rest bus micros words f begins spells long e form.
      let first : get_or text 0 0 ≡ 40 = ap (λ t. get_or t 0 0) (timed_front inner time rest text begins (begun (low_of_time inner time rest begins))) in
      let other : get_or text 0 0 ≡ 68 = ap (λ t. get_or t 0 0) mark in
      absurd (omega (arith, first, other));
  counted = λ bus words f plain long e h. absurd (no_colon bus plain (marked bus words e (head_of_bus bus plain) 9 (lit< tt)));
  joined = λ f long h.
      let word = id_text f.id ++ 35 ∷ h.bytes in
      absurd (no_letter f.id word (of_joined f.id 1 (35 ∷ h.bytes) (omega arith))
      (marked word h.side h.laid (head_of_id f.id word (of_joined f.id 0 (35 ∷ h.bytes) (omega arith))) 1 (lit< tt)));
  dropped = λ bus count h small.
      let low = begun (low_of_word inner (codes "DROPCOUNT:") _ h.laid head_of_drop.1) in
      let behind = behind_word (codes "DROPCOUNT:") rest _ dark_mark (lit< tt) (sym (ap words_of mark) ∙ words_begun inner text low ∙ h.laid) in
      reads bus count (record { frames = h.frames; more = h.more; laid = ap (λ ws. codes "DROPCOUNT:" ∷ ws) behind }) small;
  spread = λ f lawful e. absurd (no_letter f.id (id_text f.id) refl (marked (id_text f.id) _ e (head_of_id f.id (id_text f.id) refl) 1 (lit< tt)));
}
  where
    marked : (word : List ℕ) (words : List (List ℕ)) → words_of inner ≡ word ∷ words → IsHead (get_or word 0 0) → (i : ℕ) → i < 10 → get_or word i 0 ≡ get_or (codes "DROPCOUNT:") i 0
    marked word words e head i there =
        let h = begun (low_of_word inner word words e head.1) in
        front_of_word (codes "DROPCOUNT:") rest word words dark_mark (lit< tt) (sym (ap words_of mark) ∙ words_begun inner text h ∙ e) i there

-- what `read_timed` and `read_untimed` answer
abbrev pub ReadsTimed : List ℕ → Line → Type 0
ReadsTimed text line = (time rest bus : List ℕ) (micros : ℕ) (words : List (List ℕ)) (f : FrameValue) → text ≡ time ++ 41 ∷ rest → SpellsTime time micros → IsLongFrame f
    → words_of rest ≡ bus ∷ words → IsCountedFrame words f ⊎ IsJoinedFrame words f → Says (Some micros) (Some bus) (content_told f) line

pub in_time : (inner text rest : List ℕ) (line : Line) → Begun inner text → text ≡ 40 ∷ rest → ReadsTimed rest line → IsReadAs inner line
in_time inner text behind line begun begins_so reads = record {
  timed = λ time rest bus micros words f begins spells long e form.
      let front = timed_front inner time rest text begins (begun (low_of_time inner time rest begins)) in
      reads time rest bus micros words f (cons_same 40 40 behind (time ++ 41 ∷ rest) (sym begins_so ∙ front)).1 spells long e form;
  counted = λ bus words f plain long e h. other bus words e (head_of_bus bus plain);
  joined = λ f long h. other (id_text f.id ++ 35 ∷ h.bytes) h.side h.laid (head_of_id f.id (id_text f.id ++ 35 ∷ h.bytes) (of_joined f.id 0 (35 ∷ h.bytes) (omega arith)));
  dropped = λ bus count h small. other (codes "DROPCOUNT:") _ h.laid head_of_drop;
  spread = λ f lawful e. other (id_text f.id) _ e (head_of_id f.id (id_text f.id) refl);
}
  where
    other : {P : Type 0} (word : List ℕ) (words : List (List ℕ)) → words_of inner ≡ word ∷ words → IsHead (get_or word 0 0) → P
    other word words e head =
        let first : get_or text 0 0 ≡ 40 = ap (λ t. get_or t 0 0) begins_so in
        absurd (head.3 (head_of_text inner text word words begun e head ∙ first))

pub untimed : (inner text : List ℕ) (line : Line) → Begun inner text → ((rest : List ℕ) → text ≢ codes "DROPCOUNT:" ++ rest) → ((rest : List ℕ) → text ≢ 40 ∷ rest)
    → ((bus : List ℕ) (words : List (List ℕ)) (f : FrameValue) → IsLongFrame f → All (λ c. c ≢ 35) bus → words_of text ≡ bus ∷ words → IsCountedFrame words f → Says None (Some bus) (content_told f) line)
    → ((f : FrameValue) → IsLongFrame f → IsJoinedFrame (words_of text) f → Says None None (content_told f) line)
    → ((f : FrameValue) → IsDataFrame f → words_of text ≡ apart f → Says None None (content_told f) line) → IsReadAs inner line
untimed inner text line begun undropped closed counted joined spread = record {
  timed = λ time rest bus micros words f begins spells long e form.
      absurd (closed (time ++ 41 ∷ rest) (timed_front inner time rest text begins (begun (low_of_time inner time rest begins))));
  counted = λ bus words f plain long e h.
      counted bus words f long (All-weaker (λ c. (c ≢ 35) × (c ≢ 40) × (c ≢ 58)) (λ c. c ≢ 35) (λ c h. h.0) bus plain.marks) (same bus words e (head_of_bus bus plain) ∙ e) h;
  joined = λ f long h.
      let word = id_text f.id ++ 35 ∷ h.bytes in
      let words = same word h.side h.laid (head_of_id f.id word (of_joined f.id 0 (35 ∷ h.bytes) (omega arith))) in
      joined f long (record { bytes = h.bytes; side = h.side; spelled = h.spelled; behind = h.behind; laid = words ∙ h.laid });
  dropped = λ bus count h small.
      let low = begun (low_of_word inner (codes "DROPCOUNT:") _ h.laid head_of_drop.1) in
      let front = text_of_word text (codes "DROPCOUNT:") _ low.dark (words_begun inner text low ∙ h.laid) in
      absurd (undropped front.0 front.1);
  spread = λ f lawful e. spread f lawful (same (id_text f.id) _ e (head_of_id f.id (id_text f.id) refl) ∙ e);
}
  where
    same : (word : List ℕ) (words : List (List ℕ)) → words_of inner ≡ word ∷ words → IsHead (get_or word 0 0) → words_of text ≡ words_of inner
    same word words e head = words_begun inner text (begun (low_of_word inner word words e head.1))

pub begun_of : (text inner begun : List ℕ) → ((inner : List ℕ) → IsMarkedText text inner → get_or inner 0 0 < 128 → IsBegun inner begun) → IsMarkedText text inner → Begun inner begun
begun_of text inner begun h marked = h inner marked

pub zero_length : (r : Bool) (n : ℕ) → r ≡ (n == 0) → r ≡ true → n ≡ 0
zero_length r n e h = grind (arith, nat_tests)
