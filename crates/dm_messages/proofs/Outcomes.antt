use Rattle.std.proofs.Common.{◌≡◌, ◌⊎◌, inl, inr, ℕ, ◌+◌, ◌*◌, ◌%◌, ◌<◌, ◌≤◌, true, ◌&&◌, cond, eqb, leb, ◌-◌, List, [], ◌∷◌, length, get_or, take, drop, Option, Some, None, Result, Ok, Err, arith, refl, sym, ◌∙◌}
use Rattle.std.specs.List.{All}
use Rattle.std.proofs.lemmas.Bool.{cases_lt, cases_Bool, and_parts, and_from, or_right, ltb-true, leb-true, lt-leb, le-leb, eq-eqb, eqb-true, ne_eqb}
use Rattle.std.proofs.lemmas.List.{take_rest}
use Rattle.trouble_code.specs.Code.{Code}
use Rattle.trouble_code.specs.LampBytes.{lamps_value}
use Rattle.fault_memory.specs.Memory.{MemoryValue, IsLawfulMemory}
use Rattle.dm_messages.specs.declared.error.ReadError.{ReadError}
use Rattle.dm_messages.specs.declared.error.ReadError.TheVariants.{OutOfMemory}
use Rattle.dm_messages.specs.declared.kind.Kind.{Kind}
use Rattle.dm_messages.specs.declared.shown.Shown.{Shown}
use Rattle.dm_messages.specs.Laws.{some_if, code_before-some, EncodesEach-from_read, length-EncodesEach, decoding-from_Encodes, IsShowable-view, length-encoding_short, length-encoding_long, All-encoding, decoding-encoding_of_view}
use Rattle.dm_messages.specs.Refusals.{is_payload_length, fault_of_group, fault_of_groups, refusal_after_lamps, refusal, ReadsCodes}
use Rattle.dm_messages.specs.View.{view, encoding, Encodes, code_of_bytes, codes_of_bytes, is_no_code, no_code_or_one, codes_read, shown_with, decoding}

-- ---- what is read has no fault

pub no_fault_from_code : (a b c d : ℕ) (x : Code) → code_of_bytes a b c d ≡ Some x → fault_of_group a b c d ≡ None
no_fault_from_code a b c d x h =
    let w = some_if _ _ _ h in
    let parts = and_parts _ _ w.0 in
    let small : d < 128 = ltb-true _ _ parts.0 in
    let some : 0 < a + b + c + d = ltb-true _ _ parts.1 in
    let nonzero : (a + b + c + d ≡ 0 → ⊥) = λ e. omega arith in
    rw (lt-leb 128 d small, ne_eqb (a + b + c + d) 0 nonzero) refl

no_fault_from_codes : (bs : List ℕ) (cs : List Code) → codes_of_bytes bs ≡ Some cs → fault_of_groups bs ≡ None
no_fault_from_codes [] cs h = refl
no_fault_from_codes (a ∷ []) cs h = refl
no_fault_from_codes (a ∷ b ∷ []) cs h = refl
no_fault_from_codes (a ∷ b ∷ c ∷ []) cs h = refl
no_fault_from_codes (a ∷ b ∷ c ∷ d ∷ bs) cs h =
    let w = code_before-some _ _ _ h in
    rw (no_fault_from_code a b c d w.0 w.2, no_fault_from_codes bs w.1 w.3) refl

six_is_lawful : (n : ℕ) → n ≡ 6 → is_payload_length (2 + n) ≡ true
six_is_lawful n h = rw h refl

groups_are_lawful : (n k : ℕ) → n ≡ 4 * k → 8 ≤ n → n ≤ 1780 → is_payload_length (2 + n) ≡ true
groups_are_lawful n k h l m =
    or_right (eqb (2 + n) 8) _
    (and_from _ _ (and_from _ _ (le-leb 10 (2 + n) (omega arith)) (le-leb (2 + n) 1782 (omega arith))) (eq-eqb ((2 + n) % 4) 2 (omega arith)))

no_refusal_after_lamps : (bs : List ℕ) (cs : List Code) → codes_read bs ≡ Some cs → refusal_after_lamps bs ≡ None
no_refusal_after_lamps bs cs h =
    elim (cases_Bool (eqb (length bs) 6)) [
      | inl t ↦
          (let k : no_code_or_one (take 4 bs) ≡ Some cs = rw t at h in
          rw (six_is_lawful (length bs) (eqb-true _ _ t), t) (group_without_fault (take 4 bs) k))
      | inr f ↦
          (let k : cond (leb 8 (length bs) && leb (length bs) 1780) (codes_of_bytes bs) None ≡ Some cs = rw f at h in
          elim (cases_Bool (leb 8 (length bs) && leb (length bs) 1780)) [
            | inl t ↦
                (let parts = and_parts _ _ t in
                let read : codes_of_bytes bs ≡ Some cs = rw t at k in
                let lawful = groups_are_lawful (length bs) (length cs) (length-EncodesEach cs bs (EncodesEach-from_read bs cs read)) (leb-true _ _ parts.0) (leb-true _ _ parts.1) in
                rw (lawful, f) (no_fault_from_codes bs cs read))
            | inr g ↦ absurd (let e : None ≡ Some cs = rw g at k in cc)
          ])
    ]
  where
    group_without_fault : (group : List ℕ) → no_code_or_one group ≡ Some cs → cond (is_no_code group) None (fault_of_groups group) ≡ None
    group_without_fault group k =
        elim (cases_Bool (is_no_code group)) [
          | inl t ↦ rw t refl
          | inr f ↦ rw f (no_fault_from_codes group cs (rw f at k))
        ]

no_refusal : (bytes : List ℕ) (v : Shown) → decoding bytes ≡ Some v → refusal bytes ≡ None
no_refusal [] v h = cc
no_refusal (l ∷ []) v h = cc
no_refusal (l ∷ f ∷ bytes) v h = at_codes (codes_read bytes) refl h
  where
    at_codes : (o : Option (List Code)) → codes_read bytes ≡ o → shown_with (record { lamps = l; flashes = f }) o ≡ Some v → refusal_after_lamps bytes ≡ None
    at_codes (Some cs) e k = no_refusal_after_lamps bytes cs e
    at_codes None e k = cc

none_unless : (o : Option Shown) → ((v : Shown) → o ≡ Some v → ⊥) → o ≡ None
none_unless None h = refl
none_unless (Some v) h = absurd (h v refl)

-- ---- the exits of reading

pub encoded_at_ok : (bytes : List ℕ) (v w : Shown) → decoding bytes ≡ Some v → Encodes w bytes → (◌≡◌ {A = Result Shown ReadError} (Ok v) (Ok w)) ⊎ (◌≡◌ {A = Result Shown ReadError} (Ok v) (Err OutOfMemory))
encoded_at_ok bytes v w h k =
    let e : decoding bytes ≡ Some w = decoding-from_Encodes bytes w k in
    let same : v ≡ w = cc in
    inl (rw same refl)

pub nothing_at_err : (bytes : List ℕ) (e : ReadError) → (e ≡ OutOfMemory) ⊎ (refusal bytes ≡ Some e) → (e ≡ OutOfMemory) ⊎ (decoding bytes ≡ None)
nothing_at_err bytes e (inl m) = inl m
nothing_at_err bytes e (inr r) = inr (none_unless (decoding bytes) (λ v k. let n : refusal bytes ≡ None = no_refusal bytes v k in cc))

pub encoded_at_err : (bytes : List ℕ) (e : ReadError) (w : Shown) → (e ≡ OutOfMemory) ⊎ (refusal bytes ≡ Some e) → Encodes w bytes → (◌≡◌ {A = Result Shown ReadError} (Err e) (Ok w)) ⊎ (◌≡◌ {A = Result Shown ReadError} (Err e) (Err OutOfMemory))
encoded_at_err bytes e w (inl m) k = inr (rw m refl)
encoded_at_err bytes e w (inr r) k =
    absurd (let n : refusal bytes ≡ None = no_refusal bytes w (decoding-from_Encodes bytes w k) in cc)

-- what was read after the two bytes of the lamps
pub read_ok : (bytes : List ℕ) (cs : List Code) → 2 ≤ length bytes → codes_read (take (length bytes - 2) (drop 2 bytes)) ≡ Some cs → decoding bytes ≡ Some (record { lamps = lamps_value (get_or bytes 0 0) (get_or bytes 1 0); codes = cs })
read_ok [] cs l h = absurd (omega arith)
read_ok (a ∷ []) cs l h = absurd (omega arith)
read_ok (a ∷ b ∷ bs) cs l h =
    let k : codes_read bs ≡ Some cs = rw (take_rest (a ∷ b ∷ bs) 2) at h in
    rw k refl

refusal_of_rest : (bytes : List ℕ) → 2 ≤ length bytes → refusal_after_lamps (take (length bytes - 2) (drop 2 bytes)) ≡ refusal bytes
refusal_of_rest [] l = absurd (omega arith)
refusal_of_rest (a ∷ []) l = absurd (omega arith)
refusal_of_rest (a ∷ b ∷ bs) l = rw (take_rest (a ∷ b ∷ bs) 2) refl

pub read_err : (bytes : List ℕ) (e : ReadError) (codes : Option (List Code)) → 2 ≤ length bytes → ReadsCodes codes (refusal_after_lamps (take (length bytes - 2) (drop 2 bytes))) (Err e) → (e ≡ OutOfMemory) ⊎ (refusal bytes ≡ Some e)
read_err bytes e codes l h =
    elim h.why [
      | inl m ↦ inl m
      | inr r ↦ inr (sym (refusal_of_rest bytes l) ∙ r)
    ]

pub read_refused : (bytes : List ℕ) (e : ReadError) (codes : Option (List Code)) → 2 ≤ length bytes → ReadsCodes codes (refusal_after_lamps (take (length bytes - 2) (drop 2 bytes))) (Err e) → (d : ReadError) → refusal bytes ≡ Some d → ◌≡◌ {A = Result Shown ReadError} (Err e) (Err d)
read_refused bytes e codes l h d r =
    let same : ◌≡◌ {A = Result (List Code) ReadError} (Err e) (Err d) = h.refused d (refusal_of_rest bytes l ∙ r) in
    let equal : e ≡ d = cc in
    rw equal refl

-- ---- what was written

pub written_size : (kind : Kind) (m : MemoryValue) (p : List ℕ) → p ≡ encoding (view kind m) → IsLawfulMemory m → (8 ≤ length p) × (length p ≤ 1782)
written_size kind m p e h =
    let v : Shown = view kind m in
    let s = IsShowable-view kind m h in
    rw e (elim (cases_lt (length v.codes) 2) [
      | inl w ↦ (let l : length (encoding v) ≡ 8 = length-encoding_short v (omega arith) in (omega arith, omega arith))
      | inr w ↦ (let l : length (encoding v) ≡ 2 + 4 * length v.codes = length-encoding_long v w in let r : length v.codes ≤ 445 = s.room in (omega arith, omega arith))
    ])

pub written_bytes : (kind : Kind) (m : MemoryValue) (p : List ℕ) → p ≡ encoding (view kind m) → IsLawfulMemory m → All (λ n. n < 256) p
written_bytes kind m p e h = rw e (All-encoding (view kind m) (IsShowable-view kind m h))

pub written_reads_back : (kind : Kind) (m : MemoryValue) (p : List ℕ) → p ≡ encoding (view kind m) → IsLawfulMemory m → decoding p ≡ Some (view kind m)
written_reads_back kind m p e h = rw e (decoding-encoding_of_view kind m h)
