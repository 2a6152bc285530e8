-- When a unit tells of its faults of its own accord (SAE J1939-73, 5.7.1, from memory): each second while it has something to tell; and at
-- once where a code became active or inactive, of the same code at most once a second. Its lamps count as one code does.
use Rattle.std.specs.Prelude.{ℕ, ◌≤◌, ◌⊎◌, ◌&&◌, ◌||◌, ◌==◌, Bool, not, nat_le, nat_lt, List, [], ◌++◌, map, length, if◌then◌else◌}
use Rattle.std.specs.List.{filter, list_any}
use Rattle.trouble_code.specs.Code.{Code, same_fault}
use Rattle.fault_memory.specs.Memory.{MemoryValue}
use Rattle.live_unit.specs.declared.told.ToldChange.{ToldChange}
use Rattle.live_unit.specs.declared.told.TheConstants.{DM1_PERIOD, MOST_CHANGES}
use Rattle.live_unit.specs.Waits.{later}

-- what was told: the active codes and the lamps of the latest DM1; of which codes a change was told, and from when on the next one of each is
-- told at once; and the same of the lamps
pub record ToldValue : Type 0 where
  pub codes : List Code
  pub changes : List ToldChange
  pub lamps : ℕ
  pub lamps_from : ℕ

-- nothing was told yet
abbrev pub told_nothing : ToldValue
told_nothing = record { codes = []; changes = []; lamps = 0; lamps_from = 0 }

-- an active code or a lamp was told
abbrev pub told_something : ToldValue → Bool
told_something told = nat_lt 0 (length told.codes) || nat_lt 0 told.lamps

-- there is something to tell: an active code, or a lamp
abbrev pub has_to_tell : MemoryValue → Bool
has_to_tell m = nat_lt 0 (length m.active) || nat_lt 0 m.lamps.lamps

-- a code with the SPN and FMI of this one is among those
abbrev pub is_among : List Code → Code → Bool
is_among codes c = list_any (same_fault c) codes

-- a change of the code was told, and its second is not over
abbrev pub holds_back : ℕ → Code → ToldChange → Bool
holds_back now c change = same_fault c change.code && nat_lt now change.from

abbrev pub is_held_back : ℕ → List ToldChange → Code → Bool
is_held_back now changes c = list_any (holds_back now c) changes

-- some code of `these` is not among `those`, and no change of it was told within the second
abbrev pub has_news : ℕ → List ToldChange → List Code → List Code → Bool
has_news now changes these those = list_any (λ c. not (is_among those c) && not (is_held_back now changes c)) these

-- a code became active or inactive
abbrev pub is_code_news : ℕ → ToldValue → List Code → Bool
is_code_news now told active = has_news now told.changes active told.codes || has_news now told.changes told.codes active

-- other lamps are lit
abbrev pub is_lamp_news : ℕ → ToldValue → MemoryValue → Bool
is_lamp_news now told m = not (m.lamps.lamps == told.lamps) && nat_le told.lamps_from now

-- a change is to be told at once: but where very many were told within the second, the next one waits for its end
abbrev pub is_change_due : ℕ → ToldValue → MemoryValue → Bool
is_change_due now told m =
    nat_lt (length told.changes) MOST_CHANGES && (is_lamp_news now told m || is_code_news now told m.active)

-- its second is over, or will not be before that time
abbrev pub EndsBy : ℕ → ℕ → ToldChange → Type 0
EndsBy now first change = (change.from ≤ now) ⊎ (first ≤ change.from)

-- the codes of `these` that are not among `those`
abbrev pub not_among : List Code → List Code → List Code
not_among those these = filter (λ c. not (is_among those c)) these

-- a change of a code that is told now
abbrev pub told_until : ℕ → Code → ToldChange
told_until from c = record { code = c; from = from }

-- the changes that a DM1 of these active codes tells
abbrev pub changes_told : ℕ → List Code → List Code → List ToldChange
changes_told from active codes = map (told_until from) (not_among codes active) ++ map (told_until from) (not_among active codes)

-- what was told after a DM1 of the memory; where a second is over, so are those of all changes that were told before
abbrev pub after_telling : ℕ → Bool → MemoryValue → ToldValue → ToldValue
after_telling now is_second_over m told = record {
  codes = m.active;
  changes = changes_told (later now DM1_PERIOD) m.active told.codes ++ (if is_second_over then [] else told.changes);
  lamps = m.lamps.lamps;
  lamps_from = if m.lamps.lamps == told.lamps then told.lamps_from else later now DM1_PERIOD;
}
