-- Each code that is kept goes on, one after another.
use Rattle.std.proofs.Common.{◌≡◌, ℕ, ◌+◌, ◌<◌, ◌≤◌, ◌⊎◌, inl, inr, Option, List, [], ◌∷◌, length, map, set, get_or, sym, subst, ◌∙◌, arith}
use Rattle.std.proofs.lemmas.Bool.{cases_eq}
use Rattle.std.proofs.lemmas.List.{get_or-set_same, get_or-set_other, get_or_read}
use Rattle.std.proofs.lemmas.List.Elements.{All-cons, All-from_get_or, All-get_or, All-head, All-nil}
use Rattle.trouble_code.specs.declared.lamps.LampName.{LampName}
use Rattle.picture.specs.Ever.{Appears, AreKept, CodeAppears, CodesAppear, GoesOnAgain, KeepsCodes, Showing, ToldMessage, told_at, with_code, with_lamp}
use Rattle.picture.proofs.KeepingCodes.{lists_kept_as, same_kept}
use Rattle.picture.specs.declared.appearance.Appearance.{Appearance}
use Rattle.picture.specs.declared.ever.EverCode.{EverCode}

pub one_goes_on : (R : EverCode → EverCode → Type 0) (first kept : List EverCode) (place : ℕ) (one new : EverCode) → place < length kept → one ≡ get_or kept place one → R one new
    → ((k : ℕ) (d : EverCode) → k < place → R (get_or first k d) (get_or kept k d)) → ((k : ℕ) (d : EverCode) → place ≤ k → get_or kept k d ≡ get_or first k d)
    → (k : ℕ) (d : EverCode) → k < place + 1 → R (get_or first k d) (get_or (set kept place new) k d)
one_goes_on R first kept place one new within is r done rest k d b = by_place (cases_eq k place)
  where
    by_place : (k ≡ place) ⊎ (k ≡ place → ⊥) → R (get_or first k d) (get_or (set kept place new) k d)
    by_place (inl e) =
        let was : get_or first place d ≡ one = sym (rest place d (omega arith)) ∙ sym (get_or_read kept place one within is d) in
        rw (e, get_or-set_same kept place new d within, was) r
    by_place (inr n) = rw (get_or-set_other kept place k new d n) (done k d (omega (arith, b, n)))

pub rest_stays : (first kept : List EverCode) (place : ℕ) (new : EverCode) → ((k : ℕ) (d : EverCode) → place ≤ k → get_or kept k d ≡ get_or first k d) → (k : ℕ) (d : EverCode) → place + 1 ≤ k
    → get_or (set kept place new) k d ≡ get_or first k d
rest_stays first kept place new rest k d b = get_or-set_other kept place k new d (λ e. absurd (omega (arith, b, e))) ∙ rest k d (omega (arith, b))

-- ---- the newest message once more

pub lamp_again : (name : LampName) (m : ToldMessage) (older : List ToldMessage) (old new : Appearance) (time : Option ℕ)
    → ((heard : List Showing) → Appears heard old → Appears (record { shows = old.on; time = time } ∷ heard) new) → Appears (map (with_lamp name) (m ∷ older)) old
    → Appears (map (with_lamp name) (told_at m.lamps m.codes time ∷ m ∷ older)) new
lamp_again name m older old new time again h = rw h.now at (again (map (with_lamp name) (m ∷ older)) h)

code_again : (old new : EverCode) (time : Option ℕ) (m : ToldMessage) (older : List ToldMessage) → GoesOnAgain time old new → CodeAppears (m ∷ older) old
    → CodeAppears (told_at m.lamps m.codes time ∷ m ∷ older) new
code_again old new time m older g h =
    let shown : Appears (map (with_code old.code) (told_at m.lamps m.codes time ∷ m ∷ older)) new.seen = rw h.now at (g.later (map (with_code old.code) (m ∷ older)) h) in
    subst (λ d. Appears (map (with_code d) (told_at m.lamps m.codes time ∷ m ∷ older)) new.seen) (sym g.same) shown

all_again : (old new : List EverCode) (time : Option ℕ) (m : ToldMessage) (older : List ToldMessage) → length new ≡ length old
    → ((k : ℕ) (d : EverCode) → k < length old → GoesOnAgain time (get_or old k d) (get_or new k d)) → CodesAppear (m ∷ older) old → CodesAppear (told_at m.lamps m.codes time ∷ m ∷ older) new
all_again old [] time m older e h t = All-nil (CodeAppears (told_at m.lamps m.codes time ∷ m ∷ older))
all_again old (n ∷ new) time m older e h t =
    All-from_get_or (CodeAppears (told_at m.lamps m.codes time ∷ m ∷ older)) (n ∷ new) n
    (λ i b. code_again (get_or old i n) (get_or (n ∷ new) i n) time m older (h i n (omega (arith, e, b))) (All-get_or (CodeAppears (m ∷ older)) old i n (omega (arith, e, b)) t))

pub keeps_again : (old new : List EverCode) (more : ℕ) (time : Option ℕ) (m : ToldMessage) (older : List ToldMessage) → length new ≡ length old
    → ((k : ℕ) (d : EverCode) → k < length old → GoesOnAgain time (get_or old k d) (get_or new k d)) → KeepsCodes (m ∷ older) old more
    → KeepsCodes (told_at m.lamps m.codes time ∷ m ∷ older) new more
keeps_again old new more time m older e h k =
    let same = same_kept old new e (λ i d b. (h i d b).same) in
    record {
      appear = all_again old new time m older e h k.appear;
      complete = λ z. let kept = lists_kept_as old new (m ∷ older) same (k.complete z) in
          All-cons (λ t. AreKept new t.codes) (told_at m.lamps m.codes time) (m ∷ older) (All-head (λ t. AreKept new t.codes) m older kept) kept;
      full = λ some. omega (arith, e, k.full some);
    }
