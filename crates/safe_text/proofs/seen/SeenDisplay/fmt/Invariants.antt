use Rattle.std.proofs.Common.{◌≡◌, ℕ, List, ◌++◌, IsUtf8, chars}
use Rattle.std.specs.Fmt.{HasWritten, IsPlainFormatter}
use Rattle.std.specs.List.{flat_map}
use Rattle.std.specs.Str.Iter.{chars_rest}
use Rattle.safe_text.specs.Seen.{seen, seen_as}
use Rattle.safe_text.proofs.seen.SeenDisplay.fmt.Given as goal

abbrev pub invariant-loop-character : goal.invariant-loop-character
invariant-loop-character g l =
    IsUtf8 (chars_rest l.character-iterator) × (IsPlainFormatter l.fn.f
    → (done : List ℕ) × HasWritten g.W.Write.write_str_gives l.fn.f done l.f
    × (done ++ flat_map (seen_as l.form) (chars (chars_rest l.character-iterator)) ≡ seen l.form l.fn.self.text.now))
