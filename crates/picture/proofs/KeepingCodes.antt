-- One message more lists codes, of which as many are kept as there is room for.
use Rattle.std.proofs.Common.{◌≡◌, ℕ, ◌+◌, ◌-◌, ◌^◌, ◌<◌, ◌≤◌, max, min, Bool, true, false, ◌==◌, nat_lt, if◌then◌else◌, Option, List, [], ◌∷◌, ◌++◌, length, map, get_or, refl, sym, subst, ◌∙◌, arith, zero, suc}
use Rattle.std.specs.List.{list_any}
use Rattle.std.proofs.lemmas.Bool.{and_from, and_parts, eqb-true, ltb-true, ltb-false}
use Rattle.std.proofs.lemmas.List.Elements.{All-cons, All-from_get_or, All-get_or, All-head, All-nil, All-push, All-tail, All-weaker}
use Rattle.std.proofs.lemmas.List.Folds.{list_any-append, list_any_none}
use Rattle.trouble_code.specs.Code.{Code, same_fault}
use Rattle.trouble_code.specs.LampBytes.{LampsValue}
use Rattle.picture.specs.Ever.{Appears, AreKept, CodeAppears, CodesAppear, GoesOn, KeepsCode, KeepsCodes, ListsKept, Showing, ToldMessage, is_kept, shows_newest, times_shown, told_at, with_code}
use Rattle.picture.proofs.Appearing.{none_shown}
use Rattle.picture.specs.declared.appearance.Appearance.{Appearance}
use Rattle.picture.specs.declared.ever.EverCode.{EverCode}
use Rattle.picture.specs.declared.ever.TheConstants.{EVER_CODES}

-- ---- codes that are kept

-- the same codes are kept
pub same_kept : (old new : List EverCode) → length new ≡ length old → ((k : ℕ) (d : EverCode) → k < length old → (get_or new k d).code ≡ (get_or old k d).code)
    → (c : Code) → is_kept new c ≡ is_kept old c
same_kept [] [] e h c = refl
same_kept [] (n ∷ new) e h c = absurd (omega (arith, e))
same_kept (o ∷ old) [] e h c = absurd (omega (arith, e))
same_kept (o ∷ old) (n ∷ new) e h c =
    let here : n.code ≡ o.code = h 0 o (omega arith) in
    let rest = same_kept old new (omega (arith, e)) (λ k d b. h (suc k) d (omega (arith, b))) c in
    rw (here, rest) refl

-- each goes on as it is told of
pub all_go_on : (old new : List EverCode) (codes : List Code) (time : Option ℕ) (told : List ToldMessage) (lamps : LampsValue) → length new ≡ length old
    → ((k : ℕ) (d : EverCode) → k < length old → GoesOn codes time (get_or old k d) (get_or new k d)) → CodesAppear told old → CodesAppear (told_at lamps codes time ∷ told) new
all_go_on old [] codes time told lamps e h t = All-nil (CodeAppears (told_at lamps codes time ∷ told))
all_go_on old (n ∷ new) codes time told lamps e h t =
    All-from_get_or (CodeAppears (told_at lamps codes time ∷ told)) (n ∷ new) n
    (λ i b. (h i n (omega (arith, e, b))).later told lamps (All-get_or (CodeAppears told) old i n (omega (arith, e, b)) t))

-- what is kept stays kept where the same codes are
kept_as : (old new : List EverCode) (codes : List Code) → ((c : Code) → is_kept new c ≡ is_kept old c) → AreKept old codes → AreKept new codes
kept_as old new codes same h = All-weaker (λ c. is_kept old c ≡ true) (λ c. is_kept new c ≡ true) (λ c k. same c ∙ k) codes h

pub lists_kept_as : (old new : List EverCode) (told : List ToldMessage) → ((c : Code) → is_kept new c ≡ is_kept old c) → ListsKept old told → ListsKept new told
lists_kept_as old new told same h = All-weaker (λ m. AreKept old m.codes) (λ m. AreKept new m.codes) (λ m k. kept_as old new m.codes same k) told h

-- what is kept stays kept among more
kept_among_more : (kept : List EverCode) (one : EverCode) (c : Code) → is_kept kept c ≡ true → is_kept (kept ++ one ∷ []) c ≡ true
kept_among_more kept one c h = rw (list_any-append (λ o. same_fault c o.code) kept (one ∷ []), h) refl

are_kept_among_more : (kept : List EverCode) (one : EverCode) (codes : List Code) → AreKept kept codes → AreKept (kept ++ one ∷ []) codes
are_kept_among_more kept one codes h =
    All-weaker (λ c. is_kept kept c ≡ true) (λ c. is_kept (kept ++ one ∷ []) c ≡ true) (λ c k. kept_among_more kept one c k) codes h

lists_kept_among_more : (kept : List EverCode) (one : EverCode) (told : List ToldMessage) → ListsKept kept told → ListsKept (kept ++ one ∷ []) told
lists_kept_among_more kept one told h =
    All-weaker (λ m. AreKept kept m.codes) (λ m. AreKept (kept ++ one ∷ []) m.codes) (λ m k. are_kept_among_more kept one m.codes k) told h

-- ---- codes of one SPN and FMI

same_numbers : (n : ℕ) → (n == n) ≡ true
same_numbers n = grind arith

pub itself : (c : Code) → same_fault c c ≡ true
itself c = and_from (c.spn == c.spn) (c.fmi == c.fmi) (same_numbers c.spn) (same_numbers c.fmi)

kept_alike : (kept : List EverCode) (c d : Code) → same_fault c d ≡ true → is_kept kept c ≡ is_kept kept d
kept_alike [] c d s = refl
kept_alike (one ∷ kept) c d s =
    let parts = and_parts (c.spn == d.spn) (c.fmi == d.fmi) s in
    let spn : c.spn ≡ d.spn = eqb-true c.spn d.spn parts.0 in
    let fmi : c.fmi ≡ d.fmi = eqb-true c.fmi d.fmi parts.1 in
    let rest = kept_alike kept c d s in
    rw (spn, fmi, rest) refl

-- ---- a code that is not kept

-- no message lists it, where each code of each message is kept
not_among : (kept : List EverCode) (c : Code) → is_kept kept c ≡ false → (d : Code) → is_kept kept d ≡ true → same_fault c d ≡ false
not_among kept c n d k = by_same (same_fault c d) refl
  where
    by_same : (b : Bool) → same_fault c d ≡ b → same_fault c d ≡ false
    by_same true e = let clash : true ≡ false = sym k ∙ sym (kept_alike kept c d e) ∙ n in absurd cc
    by_same false e = e

unlisted : (told : List ToldMessage) (kept : List EverCode) (c : Code) → ListsKept kept told → is_kept kept c ≡ false → times_shown (map (with_code c) told) ≡ []
unlisted [] kept c h n = refl
unlisted (m ∷ told) kept c h n =
    let here : AreKept kept m.codes = All-head (λ m. AreKept kept m.codes) m told h in
    let none : list_any (same_fault c) m.codes ≡ false =
    list_any_none (same_fault c) m.codes (All-weaker (λ d. is_kept kept d ≡ true) (λ d. same_fault c d ≡ false) (not_among kept c n) m.codes here) in
    rw none (unlisted told kept c (All-tail (λ m. AreKept kept m.codes) m told h) n)

none_is_shown : (heard : List Showing) → times_shown heard ≡ [] → shows_newest heard ≡ false
none_is_shown [] e = refl
none_is_shown (m ∷ older) e = by_shows m.shows refl
  where
    by_shows : (b : Bool) → m.shows ≡ b → m.shows ≡ false
    by_shows true s = let some : m.time ∷ times_shown older ≡ [] = rw s at e in absurd cc
    by_shows false s = s

-- it appears as one that was never shown
pub unseen : (heard : List Showing) (a : Appearance) → times_shown heard ≡ [] → Appears [] a → Appears heard a
unseen heard a e h = record {
  now = h.now ∙ sym (none_is_shown heard e);
  often = let none = none_shown heard e in let never = h.often in omega (arith, none, never);
  from_then = rw e h.from_then;
  until_then = rw e h.until_then;
}

-- ---- one code more of a message

-- of some of its codes is known whether they are kept; `before` is how many more there were until then
pub record KeptSoFar (told : List ToldMessage) (lamps : LampsValue) (codes : List Code) (time : Option ℕ) (before : ℕ) (done : List Code) (kept : List EverCode) (more : ℕ) : Type 0 where
  pub appear : CodesAppear (told_at lamps codes time ∷ told) kept
  pub older : before ≡ 0 → ListsKept kept told
  pub older_full : 1 ≤ before → EVER_CODES ≤ length kept
  pub newer : more ≡ 0 → AreKept kept done
  pub newer_full : 1 ≤ more → EVER_CODES ≤ length kept

pub none_so_far : (told : List ToldMessage) (lamps : LampsValue) (codes : List Code) (time : Option ℕ) (before : ℕ) (kept : List EverCode) → CodesAppear (told_at lamps codes time ∷ told) kept
    → (before ≡ 0 → ListsKept kept told) → (1 ≤ before → EVER_CODES ≤ length kept) → KeptSoFar told lamps codes time before [] kept 0
none_so_far told lamps codes time before kept a o f = record {
  appear = a;
  older = o;
  older_full = f;
  newer = λ z. All-nil (λ c. is_kept kept c ≡ true);
  newer_full = λ some. absurd (omega (arith, some));
}

pub all_so_far : (told : List ToldMessage) (lamps : LampsValue) (codes : List Code) (time : Option ℕ) (before : ℕ) (kept : List EverCode) (more : ℕ)
    → KeptSoFar told lamps codes time before codes kept more → KeepsCodes (told_at lamps codes time ∷ told) kept (max before more)
all_so_far told lamps codes time before kept more h = record {
  appear = h.appear;
  complete = λ z. All-cons (λ m. AreKept kept m.codes) (told_at lamps codes time) told (h.newer (omega (arith, z))) (h.older (omega (arith, z)));
  full = λ some. by_before before refl some;
}
  where
    by_before : (n : ℕ) → before ≡ n → 1 ≤ max before more → EVER_CODES ≤ length kept
    by_before zero e some = h.newer_full (omega (arith, e, some))
    by_before (suc n) e some = h.older_full (omega (arith, e))

-- there are no more where there is room
none_of : (n : ℕ) (kept : List EverCode) (m : ℕ) → n ≡ m → (1 ≤ n → EVER_CODES ≤ length kept) → length kept < EVER_CODES → n ≡ 0
none_of n kept zero e f room = e
none_of n kept (suc m) e f room = let full = f (omega (arith, e)) in absurd (omega (arith, full, room))

pub one_more_so_far : (told : List ToldMessage) (lamps : LampsValue) (codes : List Code) (time : Option ℕ) (before : ℕ) (done : List Code) (kept kept' : List EverCode) (more more' : ℕ) (c : Code) (is : Bool)
    → list_any (same_fault c) codes ≡ true → KeepsCode c time kept kept' is → more' ≡ min (more + (if is then 0 else 1)) (2 ^ 64 - 1)
    → KeptSoFar told lamps codes time before done kept more → KeptSoFar told lamps codes time before (done ++ c ∷ []) kept' more'
one_more_so_far told lamps codes time before done kept kept' more more' c is listed k count h = by_held (is_kept kept c) refl
  where
    by_room : (b : Bool) → nat_lt (length kept) EVER_CODES ≡ b → is_kept kept c ≡ false → KeptSoFar told lamps codes time before (done ++ c ∷ []) kept' more'
    by_room true r e =
        let room : length kept < EVER_CODES = ltb-true (length kept) EVER_CODES r in
        let now = k.begun e room in
        let one = now.1 in
        let count' = rw now.0 at count in
        let none_before : before ≡ 0 = none_of before kept before refl h.older_full room in
        let none_now : more ≡ 0 = none_of more kept more refl h.newer_full room in
        let seen = one.later (map (with_code c) told) (unlisted told kept c (h.older none_before) e) in
        let shown : Appears (map (with_code c) (told_at lamps codes time ∷ told)) one.one.seen = rw listed seen in
        let one_seen : CodeAppears (told_at lamps codes time ∷ told) one.one = subst (λ d. Appears (map (with_code d) (told_at lamps codes time ∷ told)) one.one.seen) (sym one.same) shown in
        let itself_kept : is_kept (kept ++ one.one ∷ []) c ≡ true = rw (list_any-append (λ o. same_fault c o.code) kept (one.one ∷ []), e, one.same, itself c) refl in
        rw one.more record {
          appear = All-push (CodeAppears (told_at lamps codes time ∷ told)) kept one.one h.appear one_seen;
          older = λ z. lists_kept_among_more kept one.one told (h.older z);
          older_full = λ some. absurd (omega (arith, some, none_before));
          newer = λ z. All-push (λ c. is_kept (kept ++ one.one ∷ []) c ≡ true) done c (are_kept_among_more kept one.one done (h.newer none_now)) itself_kept;
          newer_full = λ some. absurd (omega (arith, some, count', none_now));
        }
    by_room false r e =
        let none : EVER_CODES ≤ length kept = ltb-false (length kept) EVER_CODES r in
        let now = k.full e none in
        let some : 1 ≤ more' = let count' = rw now.0 at count in omega (arith, count') in
        rw now.1 record {
          appear = h.appear;
          older = h.older;
          older_full = h.older_full;
          newer = λ z. absurd (omega (arith, z, some));
          newer_full = λ _. none;
        }

    by_held : (b : Bool) → is_kept kept c ≡ b → KeptSoFar told lamps codes time before (done ++ c ∷ []) kept' more'
    by_held true e =
        let now = k.held e in
        let count' = rw now.0 at count in
        rw now.1 record {
          appear = h.appear;
          older = h.older;
          older_full = h.older_full;
          newer = λ z. All-push (λ c. is_kept kept c ≡ true) done c (h.newer (omega (arith, z, count'))) e;
          newer_full = λ some. h.newer_full (omega (arith, some, count'));
        }
    by_held false e = by_room (nat_lt (length kept) EVER_CODES) refl e
