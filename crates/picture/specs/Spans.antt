-- Spans of time, and which spans others are drawn as.
use Rattle.std.specs.Prelude.{◌≡◌, ℕ, ◌+◌, ◌-◌, ◌^◌, min, max, List, [], ◌∷◌, ◌++◌, length}
use Rattle.picture.specs.declared.severity.Severity.{Severity}
use Rattle.picture.specs.declared.severity.Severity.TheVariants as bad
use Rattle.picture.specs.Severities.{rank}
use Rattle.picture.specs.declared.span.Shows.{Shows}
use Rattle.picture.specs.declared.span.Shows.TheVariants as show
use Rattle.picture.specs.declared.span.Span.{Span}

abbrev pub severity_of : Shows → Severity
severity_of (show.Address a) = bad.Fine
severity_of (show.Message b s n) = s
severity_of (show.Missed b n) = bad.Fine
severity_of (show.Changing s) = s

abbrev pub rank_of : Span → ℕ
rank_of s = rank (severity_of s.shows)

-- how bad the worst of them is
abbrev pub worst_rank : List Span → ℕ
worst_rank [] = 0
worst_rank (s ∷ ss) = max (rank_of s) (worst_rank ss)

-- how many were told of which they are made
abbrev pub told_in : List Span → ℕ
told_in [] = 0
told_in (s ∷ ss) = s.told + told_in ss

-- one that is told is drawn as it is; several are drawn as one that begins with the first, ends with the last, and says how many they were, up to
-- the greatest 64-bit number, and how bad the worst is
pub record IsDrawnAs (told : List Span) (drawn : Span) : Type 0 where
  pub alone : length told ≡ 1 → told ≡ drawn ∷ []
  pub begins : (first : Span) × (rest : List Span) × (told ≡ first ∷ rest) × (drawn.from ≡ first.from)
  pub ends : (rest : List Span) × (last : Span) × (told ≡ rest ++ last ∷ []) × (drawn.to ≡ last.to)
  pub counted : min drawn.told (2 ^ 64 - 1) ≡ min (told_in told) (2 ^ 64 - 1)
  pub worst : rank_of drawn ≡ worst_rank told

-- spans are drawn as others: each of these for some neighbours, all in their order
abbrev pub AreDrawnAs : List Span → List Span → Type 0
AreDrawnAs told [] = told ≡ []
AreDrawnAs told (drawn ∷ others) = (here : List Span) × (rest : List Span) × (told ≡ here ++ rest) × IsDrawnAs here drawn × AreDrawnAs rest others

-- two neighbours as one
abbrev pub IsJoined : Span → Span → Span → Type 0
IsJoined one other both =
    (both.from ≡ one.from) × (both.to ≡ other.to) × (both.told ≡ min (one.told + other.told) (2 ^ 64 - 1)) × (rank_of both ≡ max (rank_of one) (rank_of other))
