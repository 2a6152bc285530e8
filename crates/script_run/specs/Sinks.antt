-- What one who is handed the answers of a script came to, line after line.
use Rattle.std.specs.Prelude.{◌≡◌, ◌⊎◌, ℕ, Bool, List, [], ◌∷◌, Option, Some, None, is_some}
use Rattle.journal.specs.Journal.{GarageValue}
use Rattle.script_line.specs.Grammar.{line_spelled}
use Rattle.script_line.specs.Line.{IsSilent}
use Rattle.script_run.specs.Lines.{LineTold, Silent, StandDoes}

-- what a line does to it: it begins, is told of, and ends; and whether there was a garage before
pub record Taking (S : Type 0) : Type 1 where
  pub begins : S → S → Type 0
  pub takes : S → LineTold → S → Type 0
  pub ends : List ℕ → Bool → S → S → Type 0

-- it was told this, of which P holds
abbrev pub IsToldSo : {S : Type 0} → (S → LineTold → S → Type 0) → (LineTold → Type 0) → S → S → Type 0
IsToldSo takes P x y = (told : LineTold) × P told × takes x told y

-- a line was answered to it: a silent one has only begun
abbrev pub TakesOneLine : {S : Type 0} → Taking S → List ℕ → Option GarageValue → LineTold → Option GarageValue → S → S → Type 0
TakesOneLine {S} by line s told s' x y = (IsSilent line × (told ≡ Silent) × (s' ≡ s) × by.begins x y)
    ⊎ ((¬ IsSilent line) × StandDoes (line_spelled line) s told s' × ((b : S) × (e : S) × by.begins x b × by.takes b told e × by.ends line (is_some s) e y))

-- lines were answered to it, one after another, each once
unfoldable pub TakesAll : {S : Type 0} → Taking S → List (List ℕ) → Option GarageValue → Option GarageValue → S → S → Type 0
TakesAll by [] s s' x y = (s' ≡ s) × (y ≡ x)
TakesAll {S} by (line ∷ lines) s s' x y = (told : LineTold) × (t : Option GarageValue) × (z : S) × TakesOneLine by line s told t x z × TakesAll by lines t s' z y

-- it looked at the garage where the lines lead, where they lead to one
abbrev pub Closes : {S : Type 0} → (GarageValue → S → S → Type 0) → Option GarageValue → S → S → Type 0
Closes closes None x y = y ≡ x
Closes closes (Some g) x y = closes g x y

-- a whole script was answered to it
abbrev pub TakesScript : {S : Type 0} → Taking S → (GarageValue → S → S → Type 0) → List (List ℕ) → S → S → Type 0
TakesScript {S} by closes lines x y = (s : Option GarageValue) × (m : S) × TakesAll by lines None s x m × Closes closes s m y
