-- What a listener holds in its tables.
use Rattle.std.specs.Prelude.{◌≡◌, ℕ, zero, suc, ◌<◌, List, [], ◌∷◌, Option, length, map}
use Rattle.can_frame.specs.declared.reading.Reading.{Reading}
use Rattle.can_frame.specs.declared.reading.Reading.TheVariants.{Gap}
use Rattle.bus_model.specs.Heard.{missed_count, names_heard, owner_heard}
use Rattle.bus_model.specs.Overheard.{HalfSent, between_heard, gaps_heard, row_overheard, unread_overheard, who_at}
use Rattle.bus_model.specs.declared.who.Who.{Who}
use Rattle.reassembly.specs.Pairs.{pair_at, pairs_from}
use Rattle.reassembly.specs.Tables.{at}
use Rattle.entry_lists.specs.KeptValue.{KeptValue, kept_under}
use Rattle.entry_lists.specs.KnownRows.{row_known}

-- by address its owner; the rows by NAME in the order of their first claim; what is half sent by source and destination; and the counts
pub record ListenerValue : Type 0 where
  pub owners : List (Option ℕ)
  pub rows : List (ℕ × KeptValue)
  pub pairs : List (List (Option HalfSent))
  pub gaps : ℕ
  pub missed : ℕ
  pub unread : ℕ

-- whose a message is that begins at an address
abbrev pub who_in : ListenerValue → ℕ → Who
who_in l source = who_at (at l.owners source) source l.gaps

-- the tables are of 256 addresses
pub record AreFor256 (owned : List (Option ℕ)) (pairs : List (List (Option HalfSent))) : Type 0 where
  pub owners : length owned ≡ 256
  pub sources : length pairs ≡ 256
  pub destinations : (a : ℕ) → a < 256 → length (pairs_from pairs a) ≡ 256

-- the tables have what was heard of a list of readings, newest first
pub record HasOverheard (l : ListenerValue) (h : List Reading) : Type 0 where
  pub places : AreFor256 l.owners l.pairs
  pub owners : (a : ℕ) → a < 256 → at l.owners a ≡ owner_heard a h
  pub pairs : (a d : ℕ) → a < 256 → d < 256 → pair_at l.pairs a d ≡ between_heard a d h
  pub rows : (n : ℕ) → row_known l.owners n (kept_under l.rows n) ≡ row_overheard n h
  pub names : map (λ e. e.0) l.rows ≡ names_heard h
  pub gaps : l.gaps ≡ gaps_heard h
  pub missed : l.missed ≡ missed_count h
  pub unread : l.unread ≡ unread_overheard h

-- so many gaps, in which no frame is known to be missed
abbrev pub gaps_alone : ℕ → List Reading
gaps_alone zero = []
gaps_alone (suc n) = Gap 0 ∷ gaps_alone n
