-- One message more shows something, or does not.
use Rattle.std.proofs.Common.{◌≡◌, ℕ, ◌+◌, ◌-◌, ◌^◌, ◌≤◌, min, Bool, true, false, Option, List, [], ◌∷◌, refl, sym, ◌∙◌, arith, zero, suc}
use Rattle.picture.specs.Ever.{Appears, Showing, comings, shows_newest, first_of_times, times_shown}
use Rattle.picture.specs.declared.appearance.Appearance.{Appearance}

-- what is shown now has come
shown_has_come : (heard : List Showing) → shows_newest heard ≡ true → 1 ≤ comings heard
shown_has_come [] e = absurd cc
shown_has_come (m ∷ older) e = by_older (shows_newest older) refl (shown_has_come older)
  where
    by_older : (b : Bool) → shows_newest older ≡ b → (shows_newest older ≡ true → 1 ≤ comings older) → 1 ≤ comings (m ∷ older)
    by_older true o h = rw (e, o) (h o)
    by_older false o h = rw (e, o) (omega arith)

-- what has not come was not shown, and the other way round
none_came : (heard : List Showing) → comings heard ≡ 0 → times_shown heard ≡ []
none_came [] z = refl
none_came (m ∷ older) z = by_shows m.shows refl (none_came older)
  where
    by_shows : (b : Bool) → m.shows ≡ b → (comings older ≡ 0 → times_shown older ≡ []) → times_shown (m ∷ older) ≡ []
    by_shows true s h = let some = shown_has_come (m ∷ older) s in absurd (omega (arith, z, some))
    by_shows false s h = let rest : comings older ≡ 0 = rw s at z in rw s (h rest)

pub none_shown : (heard : List Showing) → times_shown heard ≡ [] → comings heard ≡ 0
none_shown [] e = refl
none_shown (m ∷ older) e = by_shows m.shows refl (none_shown older)
  where
    by_shows : (b : Bool) → m.shows ≡ b → (times_shown older ≡ [] → comings older ≡ 0) → comings (m ∷ older) ≡ 0
    by_shows true s h = let some : m.time ∷ times_shown older ≡ [] = rw s at e in absurd cc
    by_shows false s h = let rest : times_shown older ≡ [] = rw s at e in rw s (h rest)

-- a later time is not the oldest where there is one
still_oldest : (t : Option ℕ) (ts : List (Option ℕ)) → (ts ≡ [] → ⊥) → first_of_times (t ∷ ts) ≡ first_of_times ts
still_oldest t [] some = absurd (some refl)
still_oldest t (u ∷ us) some = refl

pub shown_once_more : (heard : List Showing) (old new : Appearance) (time : Option ℕ) → (old.times ≡ 0 → new.first ≡ time) → (1 ≤ old.times → new.first ≡ old.first)
    → (old.on ≡ true → new.times ≡ old.times) → (old.on ≡ false → new.times ≡ min (old.times + 1) (2 ^ 64 - 1)) → new.last ≡ time → new.on ≡ true → Appears heard old
    → Appears (record { shows = true; time = time } ∷ heard) new
shown_once_more heard old new time none some on off last now h = record {
  now = now;
  often = by_on old.on refl;
  from_then = by_comings (comings heard) refl;
  until_then = last;
}
  where
    by_on : (b : Bool) → old.on ≡ b → new.times ≡ min (comings (record { shows = true; time = time } ∷ heard)) (2 ^ 64 - 1)
    by_on true e = let was : shows_newest heard ≡ true = sym h.now ∙ e in rw was (on e ∙ h.often)
    by_on false e = let was : shows_newest heard ≡ false = sym h.now ∙ e in let more = off e in let before = h.often in rw was (omega (arith, more, before))

    by_comings : (n : ℕ) → comings heard ≡ n → new.first ≡ first_of_times (time ∷ times_shown heard)
    by_comings zero e = let first = none (omega (arith, h.often, e)) in rw (none_came heard e) first
    by_comings (suc n) e = some (omega (arith, h.often, e)) ∙ h.from_then ∙ sym (still_oldest time (times_shown heard) (λ empty. absurd (omega (arith, e, none_shown heard empty))))

pub not_shown : (heard : List Showing) (old new : Appearance) (time : Option ℕ) → new.times ≡ old.times → new.first ≡ old.first → new.last ≡ old.last → new.on ≡ false → Appears heard old
    → Appears (record { shows = false; time = time } ∷ heard) new
not_shown heard old new time times first last now h = record {
  now = now;
  often = times ∙ h.often;
  from_then = first ∙ h.from_then;
  until_then = last ∙ h.until_then;
}
