use Rattle.std.specs.Prelude.{◌≡◌, ◌≢◌, ℕ, Bool, ◌&&◌, ◌==◌, min, ◌+◌, ◌*◌, ◌/◌, ◌%◌, ◌^◌, ◌<◌, ◌≤◌, List, [], ◌∷◌, length, slice_index}

-- a trouble code: suspect parameter number, failure mode identifier, occurrence count
pub record Code : Type 0 where
  pub spn : ℕ
  pub fmi : ℕ
  pub count : ℕ

-- the code with these three numbers
abbrev pub code : ℕ → ℕ → ℕ → Code
code spn fmi count = record { spn = spn; fmi = fmi; count = count }

-- the SPN has 19 bits, the FMI 5, the count 7, and they are not all 0
abbrev pub IsCode : Code → Type 0
IsCode c = (c.spn < 2 ^ 19) × (c.fmi < 32) × (c.count < 128) × (0 < c.spn + c.fmi + c.count)

-- two codes of one SPN and FMI
abbrev pub same_fault : Code → Code → Bool
same_fault c d = (c.spn == d.spn) && (c.fmi == d.fmi)

-- two codes of the same three numbers
abbrev pub same_code : Code → Code → Bool
same_code c d = same_fault c d && (c.count == d.count)

-- the code when its fault occurs once more: the count one more, at most 126
abbrev pub occurred_again : Code → Code
occurred_again c = code c.spn c.fmi (min (c.count + 1) 126)

-- these four bytes encode the code
pub record EncodesCode (bytes : List ℕ) (c : Code) : Type 0 where
  pub len : length bytes ≡ 4
  pub spn : c.spn ≡ slice_index bytes 0 + 256 * slice_index bytes 1 + 65536 * (slice_index bytes 2 / 32)
  pub fmi : c.fmi ≡ slice_index bytes 2 % 32
  pub count : c.count ≡ slice_index bytes 3
  pub method : slice_index bytes 3 ≤ 127
  pub not_zero : bytes ≢ 0 ∷ 0 ∷ 0 ∷ 0 ∷ []

-- the four bytes that are written for a code
abbrev pub code_bytes : Code → List ℕ
code_bytes c = (c.spn % 256) ∷ (c.spn / 256 % 256) ∷ (c.spn / 65536 * 32 + c.fmi) ∷ c.count ∷ []
