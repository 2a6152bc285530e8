-- One change more is remembered.
use Rattle.std.proofs.Common.{◌≡◌, ℕ, ◌+◌, ◌-◌, ◌^◌, ◌<◌, ◌≤◌, min, Bool, true, false, Option, None, is_some, not, if◌then◌else◌, nat_lt, slice_get, drop, lit<, List, [], ◌∷◌, ◌++◌, length, refl, sym, ap, ◌∙◌, arith, zero, suc, append_assoc, length-append}
use Rattle.std.proofs.lemmas.List.{append-nil}
use Rattle.std.proofs.lemmas.Bool.{ltb-true, ltb-false}
use Rattle.picture.specs.Histories.{HistoryValue, Remembers}
use Rattle.picture.specs.declared.history.Happened.{Happened}
use Rattle.picture.specs.declared.history.TheConstants.{FIRST, LAST}

pub nothing_happened : (h : HistoryValue) → h.first ≡ [] → h.last ≡ [] → h.left_out ≡ 0 → Remembers [] h
nothing_happened h f l n = record {
  between = [];
  parts = rw (f, l) refl;
  counted = rw n refl;
  early = λ _. l;
  full = λ some. absurd (omega (arith, some));
}

no_front : (xs ys : List Happened) → xs ++ ys ≡ [] → xs ≡ []
no_front [] ys e = refl
no_front (x ∷ xs) ys e = absurd cc

no_end : (xs ys : List Happened) → xs ++ ys ≡ [] → ys ≡ []
no_end [] ys e = e
no_end (x ∷ xs) ys e = absurd cc

pub among_the_first : (told : List Happened) (old new : HistoryValue) (change : Happened) → length old.first < FIRST → new.first ≡ old.first ++ change ∷ [] → new.last ≡ old.last
    → new.left_out ≡ old.left_out → Remembers told old → Remembers (told ++ change ∷ []) new
among_the_first told old new change room f l n h =
    let none : h.between ++ old.last ≡ [] = h.early room in
    let no_between : length h.between ≡ 0 = ap length (no_front h.between old.last none) in
    let no_last : new.last ≡ [] = l ∙ no_end h.between old.last none in
    record {
      between = [];
      parts = ap (λ ts. ts ++ change ∷ []) (h.parts ∙ ap (λ ts. old.first ++ ts) none ∙ append-nil old.first) ∙ sym f ∙ sym (append-nil new.first) ∙ ap (λ ts. new.first ++ ts) (sym no_last);
      counted = omega (arith, n, h.counted, no_between);
      early = λ _. no_last;
      full = λ some. absurd (omega (arith, some));
    }

-- what a push makes of a list of at most n: it has room, or its first element goes
no_room_no_none : (xs : List Happened) (c : Happened) → is_some (slice_get (xs ++ c ∷ []) 0) ≡ true
no_room_no_none [] c = refl
no_room_no_none (x ∷ xs) c = refl

-- what tells whether one is lost
pub one_is_lost : (xs : List Happened) (c : Happened) (n : ℕ) (r : Option Happened) → r ≡ (if nat_lt (length xs) n then None else slice_get (xs ++ c ∷ []) 0)
    → is_some r ≡ not (nat_lt (length xs) n)
one_is_lost xs c n r is = by_test (nat_lt (length xs) n) refl
  where
    by_test : (t : Bool) → nat_lt (length xs) n ≡ t → is_some r ≡ not (nat_lt (length xs) n)
    by_test true e = ap is_some (rw e at is) ∙ rw e refl
    by_test false e = ap is_some (rw e at is) ∙ no_room_no_none xs c ∙ rw e refl

first_goes : (xs : List Happened) (c : Happened) (n : ℕ) → 0 < n → length xs ≡ n → (gone : Happened) × (xs ++ c ∷ [] ≡ gone ∷ drop 1 (xs ++ c ∷ []))
first_goes [] c n some e = absurd (omega (arith, some, e))
first_goes (x ∷ xs) c n some e = (x, refl)

not_false : (t : Bool) → not t ≡ false → t ≡ true
not_false true e = refl
not_false false e = absurd cc

not_true : (t : Bool) → not t ≡ true → t ≡ false
not_true true e = absurd cc
not_true false e = refl

-- there is room among the last
pub room_at_the_end : (told : List Happened) (old new : HistoryValue) (change : Happened) (lost : Bool) → FIRST ≤ length old.first → length old.last ≤ LAST
    → lost ≡ not (nat_lt (length old.last) LAST) → lost ≡ false → new.first ≡ old.first
    → new.last ≡ drop (length (old.last ++ change ∷ []) - LAST) (old.last ++ change ∷ []) → new.left_out ≡ old.left_out → Remembers told old → Remembers (told ++ change ∷ []) new
room_at_the_end told old new change lost late bound pushed no_one f l n h =
    let room : length old.last < LAST = ltb-true (length old.last) LAST (not_false (nat_lt (length old.last) LAST) (sym pushed ∙ no_one)) in
    let few : length (old.last ++ change ∷ []) - LAST ≡ 0 = omega (arith, room, length-append old.last (change ∷ [])) in
    let whole : new.last ≡ old.last ++ change ∷ [] = l ∙ ap (λ k. drop k (old.last ++ change ∷ [])) few in
    let no_between : length h.between ≡ 0 = none_between (length h.between) refl room in
    record {
      between = h.between;
      parts = ap (λ ts. ts ++ change ∷ []) h.parts ∙ append_assoc old.first (h.between ++ old.last) (change ∷ [])
          ∙ ap (λ ts. old.first ++ ts) (append_assoc h.between old.last (change ∷ [])) ∙ rw (f, whole) refl;
      counted = n ∙ h.counted;
      early = λ few. absurd (omega (arith, few, late, ap length f));
      full = λ some. absurd (omega (arith, some, no_between));
    }
  where
    none_between : (k : ℕ) → length h.between ≡ k → length old.last < LAST → length h.between ≡ 0
    none_between zero e room = e
    none_between (suc k) e room = let all = h.full (omega (arith, e)) in absurd (omega (arith, all, room))

-- the oldest of the last is left out
pub oldest_left_out : (told : List Happened) (old new : HistoryValue) (change : Happened) (lost : Bool) → FIRST ≤ length old.first → length old.last ≤ LAST
    → lost ≡ not (nat_lt (length old.last) LAST) → lost ≡ true → new.first ≡ old.first
    → new.last ≡ drop (length (old.last ++ change ∷ []) - LAST) (old.last ++ change ∷ []) → new.left_out ≡ min (old.left_out + 1) (2 ^ 64 - 1) → Remembers told old
    → Remembers (told ++ change ∷ []) new
oldest_left_out told old new change lost late bound pushed one f l n h =
    let no_room : LAST ≤ length old.last = ltb-false (length old.last) LAST (not_true (nat_lt (length old.last) LAST) (sym pushed ∙ one)) in
    let all : length old.last ≡ LAST = omega (arith, no_room, bound) in
    let one_goes : length (old.last ++ change ∷ []) - LAST ≡ 1 = omega (arith, all, length-append old.last (change ∷ [])) in
    let gone = first_goes old.last change LAST (lit< tt) all in
    let rest : new.last ≡ drop 1 (old.last ++ change ∷ []) = l ∙ ap (λ k. drop k (old.last ++ change ∷ [])) one_goes in
    let split : old.last ++ change ∷ [] ≡ gone.0 ∷ new.last = gone.1 ∙ ap (λ ts. gone.0 ∷ ts) (sym rest) in
    record {
      between = h.between ++ gone.0 ∷ [];
      parts = ap (λ ts. ts ++ change ∷ []) h.parts ∙ append_assoc old.first (h.between ++ old.last) (change ∷ [])
          ∙ ap (λ ts. old.first ++ ts) (append_assoc h.between old.last (change ∷ []) ∙ ap (λ ts. h.between ++ ts) split ∙ sym (append_assoc h.between (gone.0 ∷ []) new.last)) ∙ rw f refl;
      counted = omega (arith, n, h.counted, length-append h.between (gone.0 ∷ []));
      early = λ few. absurd (omega (arith, few, late, ap length f));
      full = λ some. omega (arith, all, length-append old.last (change ∷ []), ap length split);
    }
