-- Codes that were told as they are are no news, and no more is as long as no second ends.
use Rattle.std.proofs.Common.{ℕ, ◌≡◌, ◌≤◌, ◌<◌, ◌⊎◌, inl, inr, Bool, true, false, not, ◌&&◌, ◌||◌, ◌==◌, nat_le, nat_lt, List, [], ◌∷◌, refl, sym, ◌∙◌, arith}
use Rattle.std.specs.List.{list_any, All}
use Rattle.std.proofs.lemmas.Bool.{and_from, eq-eqb, le-ltb, lt-ltb, le-leb, lt-leb, or_left, or_right}
use Rattle.std.proofs.lemmas.List.Elements.{All-head, All-drop, All-cons}
use Rattle.trouble_code.specs.Code.{Code, same_fault}
use Rattle.fault_memory.specs.Memory.{MemoryValue}
use Rattle.live_unit.specs.declared.told.ToldChange.{ToldChange}
use Rattle.live_unit.specs.Telling.{EndsBy, ToldValue, has_news, is_among, is_change_due, is_held_back}

-- ---- the same codes

same_fault_refl : (c : Code) → same_fault c c ≡ true
same_fault_refl c = and_from (c.spn == c.spn) (c.fmi == c.fmi) (eq-eqb c.spn c.spn refl) (eq-eqb c.fmi c.fmi refl)

-- codes all of which are among some are no news beside these
no_news : (now : ℕ) (changes : List ToldChange) (these those : List Code) → ((c : Code) → list_any (same_fault c) these ≡ true → is_among those c ≡ true) → has_news now changes these those ≡ false
no_news now changes [] those within = refl
no_news now changes (x ∷ these) those within =
    let here : is_among those x ≡ true = within x (or_left (same_fault x x) _ (same_fault_refl x)) in
    neither (is_among those x) (is_held_back now changes x) (has_news now changes these those) here
    (no_news now changes these those (λ c e. within c (or_right (same_fault c x) _ e))) where
      neither : (a b r : Bool) → a ≡ true → r ≡ false → ((not a && not b) || r) ≡ false
      neither true b r e e' = e'
      neither false b r e e' = cc

pub no_news_of_the_same : (now : ℕ) (changes : List ToldChange) (codes : List Code) → has_news now changes codes codes ≡ false
no_news_of_the_same now changes codes = no_news now changes codes codes (λ c e. e)

-- ---- a later time before which no second ends

still : (now t first from : ℕ) → now ≤ t → t < first → (from ≤ now) ⊎ (first ≤ from) → nat_lt t from ≡ nat_lt now from
still now t first from h l (inl over) = le-ltb t from (omega arith) ∙ sym (le-ltb now from over)
still now t first from h l (inr later) = lt-ltb t from (omega arith) ∙ sym (lt-ltb now from (omega arith))

held_as_before : (now t first : ℕ) (c : Code) (changes : List ToldChange) → now ≤ t → t < first → All (EndsBy now first) changes → is_held_back t changes c ≡ is_held_back now changes c
held_as_before now t first c [] h l all = refl
held_as_before now t first c (x ∷ changes) h l all =
    let one : nat_lt t x.from ≡ nat_lt now x.from = still now t first x.from h l (All-head (EndsBy now first) x changes all) in
    let rest : is_held_back t changes c ≡ is_held_back now changes c = held_as_before now t first c changes h l (All-drop (EndsBy now first) 1 (x ∷ changes) all) in
    rw (one, rest) refl

news_as_before : (now t first : ℕ) (changes : List ToldChange) (these those : List Code) → now ≤ t → t < first → All (EndsBy now first) changes → has_news t changes these those ≡ has_news now changes these those
news_as_before now t first changes [] those h l all = refl
news_as_before now t first changes (x ∷ these) those h l all =
    let one : is_held_back t changes x ≡ is_held_back now changes x = held_as_before now t first x changes h l all in
    let rest : has_news t changes these those ≡ has_news now changes these those = news_as_before now t first changes these those h l all in
    rw (one, rest) refl

lamps_as_before : (now t from : ℕ) → now ≤ t → (from ≤ now) ⊎ (t < from) → nat_le from t ≡ nat_le from now
lamps_as_before now t from h (inl over) = le-leb from t (omega arith) ∙ sym (le-leb from now over)
lamps_as_before now t from h (inr later) = lt-leb from t later ∙ sym (lt-leb from now (omega arith))

pub due_as_before : (now t first : ℕ) (told : ToldValue) (m : MemoryValue) → is_change_due now told m ≡ false → now ≤ t → t < first → All (EndsBy now first) told.changes
    → (told.lamps_from ≤ now) ⊎ (t < told.lamps_from) → is_change_due t told m ≡ false
due_as_before now t first told m e h l all lamps =
    let one = news_as_before now t first told.changes m.active told.codes h l all in
    let other = news_as_before now t first told.changes told.codes m.active h l all in
    let lit = lamps_as_before now t told.lamps_from h lamps in
    let same : is_change_due t told m ≡ is_change_due now told m = rw (one, other, lit) refl in
    same ∙ e

-- ---- a list of changes, from its front

pub passed : (now r : ℕ) (x : ToldChange) (changes : List ToldChange) → (x.from ≤ now) ⊎ (r ≤ x.from) → All (EndsBy now r) changes → All (EndsBy now r) (x ∷ changes)
passed now r x changes e all = All-cons (EndsBy now r) x changes e all
