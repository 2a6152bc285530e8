use Rattle.std.proofs.Common.{◌≡◌, ℕ, ⊎_elim, List, Bool, true, false, ◌<◌, ◌≤◌, ◌+◌, ◌-◌, length, drop, slice_index, arith, refl}
use Rattle.std.specs.List.{prefix_len}
use Rattle.std.specs.Prelude.{not}
use Rattle.std.specs.Str.{IsCharBoundary, IsUtf8}
use Rattle.std.proofs.lemmas.Bool.Decides.{nat_tests}
use Rattle.std.proofs.lemmas.Bool.{cases_lt}
use Rattle.std.proofs.lemmas.List.Sums.{prefix_len-drop_yes, prefix_len-drop_no, prefix_len-drop_all}
use Rattle.std.proofs.lemmas.Str.{IsCharBoundary-after_ascii}
use Rattle.script_line.specs.Line.{is_space}

-- behind a space a text may be cut
pub after_space : (text : List ℕ) (i : ℕ) → IsUtf8 text → i < length text → slice_index text i ≡ 32 → IsCharBoundary text (i + 1)
after_space text i utf8 within space = IsCharBoundary-after_ascii text i utf8 within (omega arith)

-- the characters of a line from one place to another pass a test
pub record IsRun (test : ℕ → Bool) (line : List ℕ) (from to : ℕ) : Type 0 where
  pub order : from ≤ to
  pub within : to ≤ length line
  pub run : prefix_len test (drop from line) ≡ to - from + prefix_len test (drop to line)

-- at its start a run has no character
pub run_none : (test : ℕ → Bool) (line : List ℕ) (from : ℕ) → from ≤ length line → IsRun test line from from
run_none test line from within = record { order = omega arith; within = within; run = omega arith }

run_more : (test : ℕ → Bool) (line : List ℕ) (from to : ℕ) → to < length line → test (slice_index line to) ≡ true → IsRun test line from to → IsRun test line from (to + 1)
run_more test line from to below passes h = record {
  order = omega (arith, h.order);
  within = omega (arith, below);
  run = omega (arith, h.order, h.run, prefix_len-drop_yes test line to 0 below passes);
}

run_ends : (test : ℕ → Bool) (line : List ℕ) (from to : ℕ) → IsRun test line from to → (to < length line → test (slice_index line to) ≡ false) → prefix_len test (drop from line) ≡ to - from
run_ends test line from to h stops = ⊎_elim
    (λ (below : to < length line). omega (arith, h.run, prefix_len-drop_no test line to 0 below (stops below)))
    (λ (end : length line ≤ to). omega (arith, h.run, prefix_len-drop_all test line to end))
    (cases_lt to (length line))

-- a character of a word
abbrev pub in_word : ℕ → Bool
in_word c = not (is_space c)

is_space_at : (c : ℕ) → c ≡ 32 → (is_space c ≡ true) × (in_word c ≡ false)
is_space_at c e = rw e (refl, refl)

no_space_at : (c : ℕ) → (c ≡ 32 → ⊥) → (is_space c ≡ false) × (in_word c ≡ true)
no_space_at c other =
    let no : is_space c ≡ false = grind (arith, nat_tests) in
    rw no (refl, refl)

-- one more space
pub one_more_space : (line : List ℕ) (from to : ℕ) → to < length line → slice_index line to ≡ 32 → IsRun is_space line from to → IsRun is_space line from (to + 1)
one_more_space line from to below e h = run_more is_space line from to below (is_space_at (slice_index line to) e).0 h

-- one more character of a word
pub one_more_character : (line : List ℕ) (from to : ℕ) → to < length line → (slice_index line to ≡ 32 → ⊥) → IsRun in_word line from to → IsRun in_word line from (to + 1)
one_more_character line from to below other h = run_more in_word line from to below (no_space_at (slice_index line to) other).1 h
