-- What stands in a line that is read as one of `candump -L`.
use Rattle.std.proofs.Common.{◌≡◌, ◌≢◌, ℕ, ◌+◌, ◌*◌, ◌-◌, ◌^◌, ◌<◌, ◌≤◌, List, [], ◌∷◌, ◌++◌, length, get_or, take, drop, Option, Some, None, append_assoc, arith, refl, ap, sym, inl, inr, ◌∙◌, ⊎_elim}
use Rattle.std.specs.Prelude.{All, IfSome}
use Rattle.std.specs.Char.{IsAsciiHexdigit, digit_value}
use Rattle.std.specs.Str.Parse.{AllDigits}
use Rattle.std.proofs.lemmas.Bool.{cases_lt}
use Rattle.std.proofs.lemmas.Bool.Decides.{nat_tests}
use Rattle.std.proofs.lemmas.List.{length-append, take_at, take_more, take_all, take-append-drop}
use Rattle.std.proofs.lemmas.List.Elements.{All-more, All-cons, All-append, All-weaker, All-from_get_or}
use Rattle.std.proofs.lemmas.Str.Parse.{digit_at}
use Rattle.can_frame.specs.FrameText.{id_text}
use Rattle.candump_line.proofs.LineLemmas.{length-id}
use Rattle.candump_line.specs.LineForms.{EndsLine}
use Rattle.candump_line.specs.LoggedParts.{IsLogged}

pub hex_from_value : (c : ℕ) → digit_value c < 16 → IsAsciiHexdigit c
hex_from_value c h = ⊎_elim
    (λ (digit : c < 58). inl (inl (omega (arith, low c h digit), omega (arith, digit))))
    (λ (above : 58 ≤ c). ⊎_elim
    (λ (upper : c < 71). inl (inr (omega (arith, middle c h above upper), omega (arith, upper))))
    (λ (more : 71 ≤ c). inr (omega (arith, high c h more), omega (arith, top c h more)))
    (cases_lt c 71))
    (cases_lt c 58)
  where
    low : (c : ℕ) → digit_value c < 16 → c < 58 → 48 ≤ c
    low c h digit = grind (arith, nat_tests)

    middle : (c : ℕ) → digit_value c < 16 → 58 ≤ c → c < 71 → 65 ≤ c
    middle c h above upper = grind (arith, nat_tests)

    high : (c : ℕ) → digit_value c < 16 → 71 ≤ c → 97 ≤ c
    high c h more = grind (arith, nat_tests)

    top : (c : ℕ) → digit_value c < 16 → 71 ≤ c → c ≤ 102
    top c h more = grind (arith, nat_tests)

-- two more digits
pub hex_pair : (digits : List ℕ) (i : ℕ) → All IsAsciiHexdigit (take (2 * i) digits) → 2 * i + 1 < length digits → digit_value (get_or digits (2 * i) 0) < 16
    → digit_value (get_or digits (2 * i + 1) 0) < 16 → All IsAsciiHexdigit (take (2 * (i + 1)) digits)
hex_pair digits i h there upper lower =
    let two : 2 * (i + 1) ≡ 2 * i + 1 + 1 = omega arith in
    rw two (All-more IsAsciiHexdigit digits (2 * i + 1) 0 there
    (All-more IsAsciiHexdigit digits (2 * i) 0 (omega arith) h (hex_from_value (get_or digits (2 * i) 0) upper)) (hex_from_value (get_or digits (2 * i + 1) 0) lower))

pub hex_all : (digits : List ℕ) (n i : ℕ) → n ≡ 2 * i → length digits ≤ n → All IsAsciiHexdigit (take (2 * i) digits) → All IsAsciiHexdigit digits
hex_all digits n i e len h = rw (take_all (2 * i) digits (omega arith)) at h

-- a text with a line feed at its end
pub ends_feed : (line : List ℕ) → 0 < length line → get_or line (length line - 1) 0 ≡ 10 → EndsLine line (take (length line - 1) line)
ends_feed line some last = record {
  end = 10 ∷ [];
  is_end = inr (inl refl);
  laid = sym (take_all (length line - 1 + 1) line (omega arith)) ∙ take_more line (length line - 1) 0 (omega arith) ∙ ap (λ c. take (length line - 1) line ++ c ∷ []) last;
}

digits_marks : (ds : List ℕ) → AllDigits 10 ds → All (λ c. c ≢ 41) ds
digits_marks ds h = All-from_get_or (λ c. c ≢ 41) ds 0 (λ i l. λ e. let range = digit_at ds i h l in omega (arith, range.0, e))

-- the seconds, the point and the digits behind it
pub front_of_time : (text rest fraction behind : List ℕ) → (n : ℕ) × AllDigits 10 (take n text) × (rest ≡ drop n text) → rest ≡ 46 ∷ fraction
    → (n : ℕ) × AllDigits 10 (take n fraction) × (behind ≡ drop n fraction) → (front : List ℕ) × All (λ c. c ≢ 41) front × (text ≡ front ++ behind)
front_of_time text rest fraction behind seconds point micros = (
  take seconds.0 text ++ 46 ∷ take micros.0 fraction,
  All-append (λ c. c ≢ 41) (take seconds.0 text) (46 ∷ take micros.0 fraction) (digits_marks (take seconds.0 text) seconds.1)
      (All-cons (λ c. c ≢ 41) 46 (take micros.0 fraction) (λ e. omega (arith, e)) (digits_marks (take micros.0 fraction) micros.1)),
  sym (take-append-drop seconds.0 text) ∙ ap (λ t. take seconds.0 text ++ t) (sym seconds.2 ∙ point ∙ ap (λ t. 46 ∷ t) (sym (take-append-drop micros.0 fraction)))
      ∙ sym (append_assoc (take seconds.0 text) (46 ∷ take micros.0 fraction) (drop micros.0 fraction)) ∙ ap (λ t. (take seconds.0 text ++ 46 ∷ take micros.0 fraction) ++ t) (sym micros.2),
)

-- eight digits, a mark, digits: no blank stands there
pub seen_frame : (text id rest digits : List ℕ) → text ≡ id ++ rest → rest ≡ 35 ∷ digits → All IsAsciiHexdigit id → All IsAsciiHexdigit digits → (0 < length text) × All (λ c. 32 < c) text
seen_frame text id rest digits e mark hex more =
    let laid : text ≡ id ++ 35 ∷ digits = e ∙ ap (λ t. id ++ t) mark in (
      omega (arith, ap length laid, length-append id (35 ∷ digits)),
      rw laid (All-append (λ c. 32 < c) id (35 ∷ digits) (All-weaker IsAsciiHexdigit (λ c. 32 < c) above id hex)
          (All-cons (λ c. 32 < c) 35 digits (omega arith) (All-weaker IsAsciiHexdigit (λ c. 32 < c) above digits more))),
    )
  where
    above : (c : ℕ) → IsAsciiHexdigit c → 32 < c
    above c h = grind (arith, nat_tests, h)

-- the parts of a line
pub logged_parts : (line a b c d word behind bus : List ℕ) → line ≡ 40 ∷ a → (front : List ℕ) × All (λ c. c ≢ 41) front × (a ≡ front ++ b) → b ≡ 41 ∷ c → c ≡ 32 ∷ d → d ≡ word ++ 32 ∷ behind
    → All (λ c. 32 < c) word → (bus ≡ word) × (0 < length bus) → (0 < length behind) × All (λ c. 32 < c) behind
    → ((n : ℕ) (rest : List ℕ) → n < 2 ^ 32 → behind ≡ id_text n ++ rest → n < 2 ^ 29) → IsLogged line bus
logged_parts line a b c d word behind bus one time two three four dark named seen small = record {
  time = time.0;
  frame = behind;
  laid = one ∙ ap (λ t. 40 ∷ t) (time.2 ∙ ap (λ t. time.0 ++ t) (two ∙ ap (λ t. 41 ∷ t) (three ∙ ap (λ t. 32 ∷ t) (four ∙ ap (λ t. t ++ 32 ∷ behind) (sym named.0)))));
  timed = time.1;
  name = (named.1, rw named.0 dark);
  id = small;
  seen = seen;
}

pub seen_if : {X : Type 0} (r : Option X) (text rest digits : List ℕ) → rest ≡ drop 8 text → rest ≡ 35 ∷ digits → All IsAsciiHexdigit (take 8 text) → IfSome r (λ f. All IsAsciiHexdigit digits)
    → IfSome r (λ f. (0 < length text) × All (λ c. 32 < c) text)
seen_if None text rest digits e mark hex h = tt
seen_if (Some x) text rest digits e mark hex h = seen_frame text (take 8 text) rest digits (sym (take-append-drop 8 text) ∙ ap (λ t. take 8 text ++ t) (sym e)) mark hex h

-- the identifier of a frame that was read
pub small_if : {X : Type 0} (r : Option X) (text id : List ℕ) (number : ℕ) → id ≡ take 8 text → 8 ≤ length text → ((n : ℕ) → n < 2 ^ 32 → id ≡ id_text n → Some number ≡ Some n)
    → IfSome r (λ f. number < 2 ^ 29) → IfSome r (λ f. (n : ℕ) (rest : List ℕ) → n < 2 ^ 32 → text ≡ id_text n ++ rest → n < 2 ^ 29)
small_if None text id number e long reads h = tt
small_if (Some x) text id number e long reads h = λ n rest small laid.
    let front : take 8 text ≡ id_text n = ap (take 8) laid ∙ take_at (id_text n) rest 8 (length-id n) in
    let same = some_eq number n (reads n small (e ∙ front)) in
    omega (arith, h, same)
  where
    some_eq : (a b : ℕ) → Some a ≡ Some b → a ≡ b
    some_eq a b e = cc

pub hex_at_front : (text id : List ℕ) → id ≡ take 8 text → All IsAsciiHexdigit id → All IsAsciiHexdigit (take 8 text)
hex_at_front text id e h = rw e at h
