use Rattle.std.proofs.Common.{◌≡◌, ℕ, ◌+◌, ◌<◌, ◌≤◌, inl, inr, true, false, List, [], ◌∷◌, ◌++◌, length, get_or, Some, None, Result, Ok, Err, arith, refl, sym, ◌∙◌, length-append}
use Rattle.std.specs.List.{position, remove, list_any}
use Rattle.std.specs.Prelude.{◌↔◌, IsTrue, Bool}
use Rattle.std.proofs.Math.Nat.{lt_of_not-le}
use Rattle.std.proofs.lemmas.Bool.{iff_false, lt-ltb, le-ltb}
use Rattle.trouble_code.specs.Code.{Code, code, occurred_again}
use Rattle.trouble_code.specs.LampBytes.{LampsValue}
use Rattle.fault_memory.specs.declared.error.FaultError.{FaultError}
use Rattle.fault_memory.specs.declared.error.FaultError.TheVariants.{OutOfMemory, Full, NotActive, NotPending}
use Rattle.fault_memory.specs.Memory.{MemoryValue, IsLawfulMemory, all_codes, codes_held}
use Rattle.fault_memory.specs.Changes.{is_fault, fault_set, fault_healed, fault_pended, fault_unpended, Grows, Follows}
use Rattle.fault_memory.proofs.Lawful.{memory, codes_are_lawful, AreLawful-earlier, AreLawful-later}
use Rattle.fault_memory.proofs.Places.{find_from_place, find_from_no_place, any_from_place, none_from_no_place, without_from_place}

-- ---- calls that follow what is defined: f says what becomes of a memory, v is the memory by its parts

pub did : (f : MemoryValue → Result MemoryValue FaultError) (v m new : MemoryValue) → v ≡ m → f v ≡ Ok new → Follows (f m) m new (Ok tt)
did f v m new e h = rw (← e) (record {
  ok = h;
  refused = λ k r. absurd (let clash : Ok new ≡ Err k = sym h ∙ r in cc);
  why = tt;
  unchanged = tt;
})

pub refused_it : (f : MemoryValue → Result MemoryValue FaultError) (v m : MemoryValue) (e : FaultError) → v ≡ m → f v ≡ Err e → Follows (f m) m m (Err e)
refused_it f v m e s h = rw (← s) (record {
  ok = tt;
  refused = λ k r. (let same : Err e ≡ Err k = sym h ∙ r in cc);
  why = inr h;
  unchanged = refl;
})

-- memory was refused for what could be done
pub wanted_memory : (f : MemoryValue → Result MemoryValue FaultError) (v m new done : MemoryValue) → v ≡ m → f v ≡ Ok done → Grows (Ok done) v → new ≡ v → Follows (f m) m new (Err OutOfMemory)
wanted_memory f v m new done e h g s = rw (← e, s) (record {
  ok = tt;
  refused = λ k r. absurd (let clash : Ok done ≡ Err k = sym h ∙ r in cc);
  why = inl (refl, rw h g);
  unchanged = refl;
})

pub longer : (xs : List Code) (y : Code) → length xs < length (xs ++ y ∷ [])
longer xs y = omega (arith, length-append xs (y ∷ []))

-- whether the three lists are full, by the answer of `is_full`
pub full_from_true : (v m : MemoryValue) (full : Bool) → v ≡ m → (IsTrue full ↔ (445 ≤ codes_held m)) → full ≡ true → 445 ≤ codes_held v
full_from_true v m full e tells h = rw e (tells.0 h)

pub room_from_false : (v m : MemoryValue) (full : Bool) → v ≡ m → (IsTrue full ↔ (445 ≤ codes_held m)) → full ≡ false → codes_held v < 445
room_from_false v m full e tells h = rw e (lt_of_not-le (iff_false tells h))

-- ---- what is defined of a change, by what was found

module _ (spn fmi : ℕ) where
  -- no code of this list has the SPN and FMI
  abbrev pub IsAbsent : List Code → Type 0
  IsAbsent codes = position (is_fault spn fmi) codes ≡ None

  pub set_active : (m : MemoryValue) → list_any (is_fault spn fmi) m.active ≡ true → fault_set spn fmi m ≡ Ok m
  set_active m h = rw h refl

  pub set_previous : (l : LampsValue) (a p q b r : List Code) (i : ℕ) (x : Code) → list_any (is_fault spn fmi) a ≡ false → position (is_fault spn fmi) p ≡ Some i → x ≡ get_or p i x → b ≡ a ++ occurred_again x ∷ [] → r ≡ remove p i → IsLawfulMemory (memory l a p q) → fault_set spn fmi (memory l a p q) ≡ Ok (memory l b r q)
  set_previous l a p q b r i x na h e eb er m =
      let codes = AreLawful-earlier p q (AreLawful-later a (p ++ q) (codes_are_lawful l a p q m)) in
      rw (na, find_from_place (is_fault spn fmi) p i x h e, without_from_place spn fmi p i codes.distinct h, eb, er)
      refl

  pub set_pending : (l : LampsValue) (a p q b s : List Code) (i : ℕ) (x : Code) → list_any (is_fault spn fmi) a ≡ false → IsAbsent p → position (is_fault spn fmi) q ≡ Some i → x ≡ get_or q i x → b ≡ a ++ x ∷ [] → s ≡ remove q i → IsLawfulMemory (memory l a p q) → fault_set spn fmi (memory l a p q) ≡ Ok (memory l b p s)
  set_pending l a p q b s i x na np h e eb es m =
      let codes = AreLawful-later p q (AreLawful-later a (p ++ q) (codes_are_lawful l a p q m)) in
      rw (na, find_from_no_place (is_fault spn fmi) p np, find_from_place (is_fault spn fmi) q i x h e, without_from_place spn fmi q i codes.distinct h, eb, es)
      refl

  pub set_new : (l : LampsValue) (a p q b : List Code) → list_any (is_fault spn fmi) a ≡ false → IsAbsent p → IsAbsent q → length a + length p + length q < 445 → b ≡ a ++ code spn fmi 1 ∷ [] → fault_set spn fmi (memory l a p q) ≡ Ok (memory l b p q)
  set_new l a p q b na np nq lt eb =
      rw (na, find_from_no_place (is_fault spn fmi) p np, find_from_no_place (is_fault spn fmi) q nq, lt-ltb (length a + length p + length q) 445 lt, eb)
      refl

  pub set_full : (l : LampsValue) (a p q : List Code) → list_any (is_fault spn fmi) a ≡ false → IsAbsent p → IsAbsent q → 445 ≤ length a + length p + length q → fault_set spn fmi (memory l a p q) ≡ Err Full
  set_full l a p q na np nq le =
      rw (na, find_from_no_place (is_fault spn fmi) p np, find_from_no_place (is_fault spn fmi) q nq, le-ltb (length a + length p + length q) 445 le)
      refl

  pub heal_active : (l : LampsValue) (a p q b r : List Code) (i : ℕ) (x : Code) → position (is_fault spn fmi) a ≡ Some i → x ≡ get_or a i x → b ≡ remove a i → r ≡ p ++ x ∷ [] → IsLawfulMemory (memory l a p q) → fault_healed spn fmi (memory l a p q) ≡ Ok (memory l b r q)
  heal_active l a p q b r i x h e eb er m =
      let codes = AreLawful-earlier a (p ++ q) (codes_are_lawful l a p q m) in
      rw (find_from_place (is_fault spn fmi) a i x h e, without_from_place spn fmi a i codes.distinct h, eb, er) refl

  pub heal_none : (m : MemoryValue) → IsAbsent m.active → fault_healed spn fmi m ≡ Err NotActive
  heal_none m h = rw (find_from_no_place (is_fault spn fmi) m.active h) refl

  pub pend_known : (m : MemoryValue) → list_any (is_fault spn fmi) (all_codes m) ≡ true → fault_pended spn fmi m ≡ Ok m
  pend_known m h = rw h refl

  pub pend_new : (l : LampsValue) (a p q s : List Code) → list_any (is_fault spn fmi) (a ++ (p ++ q)) ≡ false → length a + length p + length q < 445 → s ≡ q ++ code spn fmi 1 ∷ [] → fault_pended spn fmi (memory l a p q) ≡ Ok (memory l a p s)
  pend_new l a p q s none lt es = rw (none, lt-ltb (length a + length p + length q) 445 lt, es) refl

  pub pend_full : (m : MemoryValue) → list_any (is_fault spn fmi) (all_codes m) ≡ false → 445 ≤ codes_held m → fault_pended spn fmi m ≡ Err Full
  pend_full m none le = rw (none, le-ltb (codes_held m) 445 le) refl

  pub unpend_pending : (l : LampsValue) (a p q s : List Code) (i : ℕ) → position (is_fault spn fmi) q ≡ Some i → s ≡ remove q i → IsLawfulMemory (memory l a p q) → fault_unpended spn fmi (memory l a p q) ≡ Ok (memory l a p s)
  unpend_pending l a p q s i h es m =
      let codes = AreLawful-later p q (AreLawful-later a (p ++ q) (codes_are_lawful l a p q m)) in
      rw (any_from_place (is_fault spn fmi) q i h, without_from_place spn fmi q i codes.distinct h, es) refl

  pub unpend_none : (m : MemoryValue) → IsAbsent m.pending → fault_unpended spn fmi m ≡ Err NotPending
  unpend_none m h = rw (none_from_no_place (is_fault spn fmi) m.pending h) refl
