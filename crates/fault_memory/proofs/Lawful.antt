use Rattle.std.proofs.Common.{◌≡◌, ℕ, ◌+◌, ◌<◌, ◌≤◌, false, eqb, List, [], ◌∷◌, ◌++◌, length, get_or, arith, refl, append-nil, append_assoc, length-append}
use Rattle.std.specs.Cmp.{IsEquivalence}
use Rattle.std.specs.List.{All, IsDistinct, remove, list_any}
use Rattle.std.specs.List.Sorted.{IsPermutation}
use Rattle.std.proofs.lemmas.Bool.{and_from, and_parts, eq-eqb, eqb-true}
use Rattle.std.proofs.lemmas.List.Elements.{All-append, All-cons, All-head, All-nil, All-tail}
use Rattle.std.proofs.lemmas.List.{get_or_default}
use Rattle.std.proofs.lemmas.List.Sorted.{IsPermutation-refl, IsPermutation-cons, IsPermutation-sym, IsPermutation-trans, IsPermutation-append_comm, IsPermutation-append_left, IsPermutation-append_right, IsPermutation-to_front, IsPermutation-middle, IsPermutation-remove, All-permutation, length_permutation}
use Rattle.std.proofs.lemmas.Map.Keys.{IsDistinct-head, IsDistinct-tail, IsDistinct-cons, IsDistinct-push, IsDistinct-IsPermutation}
use Rattle.std.proofs.lemmas.Grind.{common_steps}
use Rattle.trouble_code.specs.Code.{Code, same_fault, occurred_again}
use Rattle.trouble_code.specs.LampBytes.{LampsValue, IsLamps, lamps_off}
use Rattle.fault_memory.specs.Memory.{MemoryValue, IsLawfulMemory, IsKeptCode}

-- the memory with these lamps and these three lists
abbrev pub memory : LampsValue → List Code → List Code → List Code → MemoryValue
memory lamps active previous pending = record { lamps = lamps; active = active; previous = previous; pending = pending }

-- ---- which codes are of one fault

pub same_fault-flips : (c d : Code) → same_fault c d ≡ same_fault d c
same_fault-flips c d = grind (arith, common_steps)

pub same_fault_is_equivalence : IsEquivalence same_fault
same_fault_is_equivalence = record {
  refl = λ c. and_from (eqb c.spn c.spn) (eqb c.fmi c.fmi) (eq-eqb c.spn c.spn refl) (eq-eqb c.fmi c.fmi refl);
  symm = same_fault-flips;
  congr = λ c d e t.
      let both = and_parts (eqb c.spn d.spn) (eqb c.fmi d.fmi) t in
      rw (eqb-true c.spn d.spn both.0, eqb-true c.fmi d.fmi both.1) refl;
}

-- ---- the codes of one memory, whichever list they stand in

-- kept codes, no two of one fault, and at most 445
pub record AreLawful (codes : List Code) : Type 0 where
  pub kept : All IsKeptCode codes
  pub distinct : IsDistinct same_fault codes
  pub room : length codes ≤ 445

AreLawful-nil : AreLawful []
unfolding IsDistinct
AreLawful-nil = record { kept = All-nil IsKeptCode; distinct = tt; room = omega arith }

-- the same codes in another order
AreLawful-moved : (xs ys : List Code) → IsPermutation xs ys → AreLawful xs → AreLawful ys
AreLawful-moved xs ys moved h = record {
  kept = All-permutation IsKeptCode xs ys moved h.kept;
  distinct = IsDistinct-IsPermutation same_fault same_fault-flips xs ys moved h.distinct;
  room = omega (arith, h.room, length_permutation xs ys moved);
}

AreLawful-tail : (x : Code) (xs : List Code) → AreLawful (x ∷ xs) → AreLawful xs
AreLawful-tail x xs h = record {
  kept = All-tail IsKeptCode x xs h.kept;
  distinct = IsDistinct-tail same_fault x xs h.distinct;
  room = omega (arith, h.room);
}

pub AreLawful-later : (xs ys : List Code) → AreLawful (xs ++ ys) → AreLawful ys
AreLawful-later [] ys h = h
AreLawful-later (x ∷ xs) ys h = AreLawful-later xs ys (AreLawful-tail x (xs ++ ys) h)

pub AreLawful-earlier : (xs ys : List Code) → AreLawful (xs ++ ys) → AreLawful xs
AreLawful-earlier xs ys h = AreLawful-later ys xs (AreLawful-moved (xs ++ ys) (ys ++ xs) (IsPermutation-append_comm xs ys) h)

again_is_kept : (x : Code) → IsKeptCode x → IsKeptCode (occurred_again x)
again_is_kept x h = ((omega arith, omega arith, omega arith, omega arith), omega arith, omega arith)

-- the first code counted once more
AreLawful-again : (x : Code) (xs : List Code) → AreLawful (x ∷ xs) → AreLawful (occurred_again x ∷ xs)
AreLawful-again x xs h = record {
  kept = All-cons IsKeptCode (occurred_again x) xs (again_is_kept x (All-head IsKeptCode x xs h.kept)) (All-tail IsKeptCode x xs h.kept);
  distinct =
      IsDistinct-cons same_fault (occurred_again x) xs (IsDistinct-head same_fault x xs h.distinct) (IsDistinct-tail same_fault x xs h.distinct);
  room = omega (arith, h.room);
}

-- one code more, of a fault that has none
AreLawful-more : (y : Code) (xs : List Code) → IsKeptCode y → list_any (same_fault y) xs ≡ false → length xs < 445 → AreLawful xs → AreLawful (y ∷ xs)
AreLawful-more y xs k none lt h =
    let pushed : IsDistinct same_fault (xs ++ y ∷ []) = IsDistinct-push same_fault_is_equivalence xs y h.distinct none in
    record {
      kept = All-cons IsKeptCode y xs k h.kept;
      distinct = IsDistinct-IsPermutation same_fault same_fault-flips _ _ (IsPermutation-to_front xs y) pushed;
      room = omega arith;
    }

-- ---- a memory and its codes

pub codes_are_lawful : (l : LampsValue) (a p q : List Code) → IsLawfulMemory (memory l a p q) → AreLawful (a ++ (p ++ q))
codes_are_lawful l a p q h = record {
  kept = All-append IsKeptCode a (p ++ q) h.active (All-append IsKeptCode p q h.previous h.pending);
  distinct = h.distinct;
  room = omega (arith, h.room, length-append a (p ++ q), length-append p q);
}

-- a memory is lawful as soon as its codes are, in any order
pub memory_is_lawful : (l : LampsValue) (xs a p q : List Code) → IsLamps l → AreLawful xs → IsPermutation xs (a ++ (p ++ q)) → IsLawfulMemory (memory l a p q)
memory_is_lawful l xs a p q lamps codes moved =
    let h : AreLawful (a ++ (p ++ q)) = AreLawful-moved xs _ moved codes in
    let later : AreLawful (p ++ q) = AreLawful-later a (p ++ q) h in
    let active : AreLawful a = AreLawful-earlier a (p ++ q) h in
    let previous : AreLawful p = AreLawful-earlier p q later in
    let pending : AreLawful q = AreLawful-later p q later in
    record {
      lamps = lamps;
      active = active.kept;
      previous = previous.kept;
      pending = pending.kept;
      distinct = h.distinct;
      room = omega (arith, h.room, length-append a (p ++ q), length-append p q);
    }

-- equal parts make equal memories
pub copy_is_lawful : (l m : LampsValue) (a b p r q s : List Code) → l ≡ m → a ≡ b → p ≡ r → q ≡ s → IsLawfulMemory (memory m b r s) → IsLawfulMemory (memory l a p q)
copy_is_lawful l m a b p r q s el ea ep eq h = rw (el, ea, ep, eq) h

-- ---- one code, out of a list and into one

-- a code taken out of the later of two lists
IsPermutation-under : (a xs ys : List Code) (x : Code) → IsPermutation xs (x ∷ ys) → IsPermutation (a ++ xs) (x ∷ (a ++ ys))
IsPermutation-under a xs ys x h = IsPermutation-trans _ _ _ (IsPermutation-append_right a xs (x ∷ ys) h) (IsPermutation-middle a x ys)

-- a code put between two lists
IsPermutation-between : (a p : List Code) (y : Code) → IsPermutation ((a ++ y ∷ []) ++ p) (y ∷ (a ++ p))
IsPermutation-between a p y = rw append_assoc (IsPermutation-middle a y p)

module _ (a p q : List Code) (x : Code) where
  out_of_active : (i : ℕ) → i < length a → x ≡ get_or a i x → IsPermutation (a ++ (p ++ q)) (x ∷ (remove a i ++ (p ++ q)))
  out_of_active i lt e = IsPermutation-append_left (p ++ q) a (x ∷ remove a i) (IsPermutation-remove a i x lt e)

  out_of_previous : (i : ℕ) → i < length p → x ≡ get_or p i x → IsPermutation (a ++ (p ++ q)) (x ∷ (a ++ (remove p i ++ q)))
  out_of_previous i lt e =
      IsPermutation-under a (p ++ q) (remove p i ++ q) x (IsPermutation-append_left q p (x ∷ remove p i) (IsPermutation-remove p i x lt e))

  out_of_pending : (i : ℕ) → i < length q → x ≡ get_or q i x → IsPermutation (a ++ (p ++ q)) (x ∷ (a ++ (p ++ remove q i)))
  out_of_pending i lt e =
      IsPermutation-under a (p ++ q) (p ++ remove q i) x (IsPermutation-under p q (remove q i) x (IsPermutation-remove q i x lt e))

  into_active : IsPermutation (x ∷ (a ++ (p ++ q))) ((a ++ x ∷ []) ++ (p ++ q))
  into_active = IsPermutation-sym _ _ (IsPermutation-between a (p ++ q) x)

  into_previous : IsPermutation (x ∷ (a ++ (p ++ q))) (a ++ ((p ++ x ∷ []) ++ q))
  into_previous = IsPermutation-sym _ _ (IsPermutation-under a _ (p ++ q) x (IsPermutation-between p q x))

  into_pending : IsPermutation (x ∷ (a ++ (p ++ q))) (a ++ (p ++ (q ++ x ∷ [])))
  into_pending = IsPermutation-sym _ _ (IsPermutation-under a _ (p ++ q) x (IsPermutation-under p _ q x (IsPermutation-to_front q x)))

-- ---- the memory after a change to one code

-- an active code goes to the end of the previous ones
pub healed_is_lawful : (l : LampsValue) (a p q b r : List Code) (i : ℕ) (x : Code) → i < length a → x ≡ get_or a i x → b ≡ remove a i → r ≡ p ++ x ∷ [] → IsLawfulMemory (memory l a p q) → IsLawfulMemory (memory l b r q)
healed_is_lawful l a p q b r i x lt e eb er h =
    let out : AreLawful (x ∷ (remove a i ++ (p ++ q))) = AreLawful-moved _ _ (out_of_active a p q x i lt e) (codes_are_lawful l a p q h) in
    rw (eb, er) (memory_is_lawful l _ (remove a i) (p ++ x ∷ []) q h.lamps out (into_previous (remove a i) p q x))

-- a previous code goes to the end of the active ones, counted once more
pub reactivated_is_lawful : (l : LampsValue) (a p q b r : List Code) (i : ℕ) (x : Code) → i < length p → x ≡ get_or p i x → b ≡ a ++ occurred_again x ∷ [] → r ≡ remove p i → IsLawfulMemory (memory l a p q) → IsLawfulMemory (memory l b r q)
reactivated_is_lawful l a p q b r i x lt e eb er h =
    let out : AreLawful (x ∷ (a ++ (remove p i ++ q))) = AreLawful-moved _ _ (out_of_previous a p q x i lt e) (codes_are_lawful l a p q h) in
    rw (eb, er)
    (memory_is_lawful l _ (a ++ occurred_again x ∷ []) (remove p i) q h.lamps (AreLawful-again x _ out) (into_active a (remove p i) q (occurred_again x)))

-- a pending code goes to the end of the active ones
pub confirmed_is_lawful : (l : LampsValue) (a p q b s : List Code) (i : ℕ) (x : Code) → i < length q → x ≡ get_or q i x → b ≡ a ++ x ∷ [] → s ≡ remove q i → IsLawfulMemory (memory l a p q) → IsLawfulMemory (memory l b p s)
confirmed_is_lawful l a p q b s i x lt e eb es h =
    let out : AreLawful (x ∷ (a ++ (p ++ remove q i))) = AreLawful-moved _ _ (out_of_pending a p q x i lt e) (codes_are_lawful l a p q h) in
    rw (eb, es) (memory_is_lawful l _ (a ++ x ∷ []) p (remove q i) h.lamps out (into_active a p (remove q i) x))

-- a pending code goes away
pub unpended_is_lawful : (l : LampsValue) (a p q s : List Code) (i : ℕ) (d : Code) → i < length q → s ≡ remove q i → IsLawfulMemory (memory l a p q) → IsLawfulMemory (memory l a p s)
unpended_is_lawful l a p q s i d lt es h =
    let x : Code = get_or q i d in
    let out : AreLawful (x ∷ (a ++ (p ++ remove q i))) = AreLawful-moved _ _ (out_of_pending a p q x i lt (get_or_default q i d x lt)) (codes_are_lawful l a p q h) in
    rw es (memory_is_lawful l _ a p (remove q i) h.lamps (AreLawful-tail x _ out) (IsPermutation-refl _))

-- a new code at the end of the active ones
pub added_is_lawful : (l : LampsValue) (a p q b : List Code) (y : Code) → IsKeptCode y → list_any (same_fault y) (a ++ (p ++ q)) ≡ false → length a + length p + length q < 445 → b ≡ a ++ y ∷ [] → IsLawfulMemory (memory l a p q) → IsLawfulMemory (memory l b p q)
added_is_lawful l a p q b y k none lt eb h =
    let fits : length (a ++ (p ++ q)) < 445 = omega (arith, length-append a (p ++ q), length-append p q) in
    rw eb (memory_is_lawful l _ (a ++ y ∷ []) p q h.lamps (AreLawful-more y _ k none fits (codes_are_lawful l a p q h)) (into_active a p q y))

-- a new code at the end of the pending ones
pub pended_is_lawful : (l : LampsValue) (a p q s : List Code) (y : Code) → IsKeptCode y → list_any (same_fault y) (a ++ (p ++ q)) ≡ false → length a + length p + length q < 445 → s ≡ q ++ y ∷ [] → IsLawfulMemory (memory l a p q) → IsLawfulMemory (memory l a p s)
pended_is_lawful l a p q s y k none lt es h =
    let fits : length (a ++ (p ++ q)) < 445 = omega (arith, length-append a (p ++ q), length-append p q) in
    rw es (memory_is_lawful l _ a p (q ++ y ∷ []) h.lamps (AreLawful-more y _ k none fits (codes_are_lawful l a p q h)) (into_pending a p q y))

-- ---- no codes, and the clears

lamps_off_are_lamps : IsLamps lamps_off
lamps_off_are_lamps = (omega arith, omega arith)

-- no code, and the lamps off
pub empty_is_lawful : (l : LampsValue) (a p q : List Code) → l ≡ lamps_off → a ≡ [] → p ≡ [] → q ≡ [] → IsLawfulMemory (memory l a p q)
empty_is_lawful l a p q el ea ep eq =
    rw (el, ea, ep, eq) (memory_is_lawful lamps_off [] [] [] [] lamps_off_are_lamps AreLawful-nil (IsPermutation-refl []))

-- the previous codes alone, and the lamps off
pub cleared_active_is_lawful : (l m : LampsValue) (a b p r q s : List Code) → l ≡ lamps_off → a ≡ [] → p ≡ r → q ≡ [] → IsLawfulMemory (memory m b r s) → IsLawfulMemory (memory l a p q)
cleared_active_is_lawful l m a b p r q s el ea ep eq h =
    let kept : AreLawful r = AreLawful-earlier r s (AreLawful-later b (r ++ s) (codes_are_lawful m b r s h)) in
    rw (el, ea, ep, eq) (memory_is_lawful lamps_off r [] r [] lamps_off_are_lamps kept (rw append-nil (IsPermutation-refl r)))

-- the active and the pending codes
pub cleared_previous_is_lawful : (l : LampsValue) (a p r q : List Code) → p ≡ [] → IsLawfulMemory (memory l a r q) → IsLawfulMemory (memory l a p q)
cleared_previous_is_lawful l a p r q ep h =
    let kept : AreLawful (a ++ q) = (AreLawful-later r (a ++ q) (AreLawful-moved (a ++ (r ++ q)) (r ++ (a ++ q)) (to_front r) (codes_are_lawful l a r q h))) in
    rw ep (memory_is_lawful l (a ++ q) a [] q h.lamps kept (IsPermutation-refl (a ++ q)))
  where
    to_front : (r : List Code) → IsPermutation (a ++ (r ++ q)) (r ++ (a ++ q))
    to_front [] = IsPermutation-refl (a ++ q)
    to_front (x ∷ r) = IsPermutation-trans _ _ _ (IsPermutation-middle a x (r ++ q)) (IsPermutation-cons x _ _ (to_front r))
