-- The words of a line, and what is told of it.
use Rattle.std.proofs.Common.{◌≡◌, ◌≢◌, ◌==◌, ℕ, ◌<◌, ◌≤◌, Bool, false, List, [], ◌∷◌, ◌++◌, length, get_or, map, Option, Some, arith, ap, sym, ◌∙◌}
use Rattle.std.proofs.lemmas.Bool.Decides.{nat_tests}
use Rattle.std.proofs.lemmas.List.{get_or_append_left}
use Rattle.can_frame.specs.FrameText.{id_text}
use Rattle.can_frame.specs.FrameValue.{FrameValue}
use Rattle.candump_line.specs.Forms.{apart, AreFlags, IsLongFrame, IsSide}
use Rattle.candump_line.specs.LineText.{byte_digits, IsDataFrame}
use Rattle.candump_line.specs.Told.{Says}
use Rattle.candump_line.specs.declared.content.Content.{Content}
use Rattle.candump_line.specs.declared.line.Line.{Line}
use Rattle.candump_line.proofs.BytesLemmas.{hex_at, hex_of_byte, length-byte, second_of_id}
use Rattle.candump_line.proofs.LineLemmas.{length-id}

pub says_as : (time : Option ℕ) (b bus : Option (List ℕ)) (content told : Content) (line : Line) → b ≡ bus → content ≡ told → Says time b content line → Says time bus told line
says_as time b bus content told line same is h = rw (same, is) at h

-- what `has_length` answers
abbrev pub TellsLength : List (List ℕ) → Bool → Type 0
TellsLength words r = (bus id count : List ℕ) (flags rest : List (List ℕ)) → AreFlags flags → get_or id 1 0 ≢ 88 → words ≡ bus ∷ (flags ++ id ∷ count ∷ rest) → r ≡ (get_or count 0 0 == 91)

not_bracket : (c : ℕ) → c ≢ 91 → (c == 91) ≡ false
not_bracket c h = grind (arith, nat_tests)

-- bytes behind an identifier are no number of bytes
pub not_counted : (words : List (List ℕ)) (f : FrameValue) (r : Bool) → TellsLength words r → (length words ≤ 2 → r ≡ false) → words ≡ apart f → r ≡ false
not_counted words f r counted short e = at_bytes f.bytes e
  where
    at_bytes : (bytes : List ℕ) → words ≡ id_text f.id ∷ map byte_digits bytes → r ≡ false
    at_bytes [] e = short (omega (arith, ap length e))
    at_bytes (a ∷ []) e = short (omega (arith, ap length e))
    at_bytes (a ∷ b ∷ more) e =
        let second = hex_at (byte_digits a) 1 (hex_of_byte a) (omega (arith, length-byte a)) in
        let first = hex_at (byte_digits b) 0 (hex_of_byte b) (omega (arith, length-byte b)) in
        counted (id_text f.id) (byte_digits a) (byte_digits b) [] (map byte_digits more) tt second.3 e ∙ not_bracket (get_or (byte_digits b) 0 0) first.4

-- the second character of an identifier with bytes behind it
pub second_of_joined : (n : ℕ) (rest : List ℕ) → get_or (id_text n ++ rest) 1 0 ≢ 88
second_of_joined n rest = λ e.
    let there : 1 < length (id_text n) = omega (arith, length-id n) in
    second_of_id n (sym (get_or_append_left (id_text n) rest 0 1 there) ∙ e)

pub side_left : (left side : List (List ℕ)) → left ≡ side → IsSide side → IsSide left
side_left left side e h = rw e h

-- a data frame of the bus is one or the other
pub long_of : (f : FrameValue) → IsDataFrame f → IsLongFrame f
long_of f h = record { id = omega (arith, h.id); len = h.len; bytes = h.bytes }

pub says_at : (time micros : ℕ) (bus : Option (List ℕ)) (content : Content) (line : Line) → time ≡ micros → Says (Some time) bus content line → Says (Some micros) bus content line
says_at time micros bus content line e h = rw e at h
