use Rattle.std.proofs.Common.{◌≡◌, ℕ, ◌+◌, ◌*◌, ◌/◌, ◌%◌, ◌<◌, ◌≤◌, ◌⊎◌, inl, inr, Bool, true, false, cond, ◌&&◌, ◌||◌, ◌==◌, eqb, ltb, leb, List, [], ◌∷◌, ◌++◌, length, take, Option, Some, None, arith, refl, subst, ◌↔◌}
use Rattle.std.proofs.lemmas.Bool.{cases_lt, cases_Bool, and_from, and_parts, or_cases, or_from, lt-ltb, ltb-true, le-leb, leb-true, eq-eqb, eqb-true, ne_eqb, false_from_ne_true}
use Rattle.std.proofs.lemmas.List.Elements.{All-from_recursion, All-nil, All-head, All-tail, All-append, All-weaker}
use Rattle.std.specs.List.{All, list_all}
use Rattle.trouble_code.specs.Code.{Code, IsCode, EncodesCode, code_bytes}
use Rattle.trouble_code.specs.LampBytes.{LampsValue, lamps_value, lamps_bytes}
use Rattle.fault_memory.specs.Memory.{MemoryValue, IsLawfulMemory, IsKeptCode}
use Rattle.dm_messages.specs.declared.kind.Kind.{Kind}
use Rattle.dm_messages.specs.declared.kind.Kind.TheVariants.{Dm1, Dm2, Dm6}
use Rattle.dm_messages.specs.declared.shown.Shown.{Shown}
use Rattle.dm_messages.specs.View.{view, IsShowable, EncodesEach, EncodesCodes, Encodes, codes_bytes, written_codes, encoding, code_of_bytes, code_before, codes_of_bytes, no_code_or_one, codes_read, shown_with, decoding}

-- ---- one code

-- a choice that is there was taken at its test
pub some_if : {A : Type 0} (b : Bool) (x y : A) → cond b (Some x) None ≡ Some y → (b ≡ true) × (x ≡ y)
some_if true x y h = (refl, (cc))
some_if false x y h = cc

-- four numbers whose sum is 0
zeros : (a b c d : ℕ) → a + b + c + d ≤ 0 → a ∷ b ∷ c ∷ d ∷ [] ≡ 0 ∷ 0 ∷ 0 ∷ 0 ∷ []
zeros a b c d h =
    let ea : a ≡ 0 = omega arith in
    let eb : b ≡ 0 = omega arith in
    let ec : c ≡ 0 = omega arith in
    let ed : d ≡ 0 = omega arith in
    rw (ea, eb, ec, ed) refl

-- what encodes a code is read as that code
pub code_of_bytes-from_encoded : (a b c d : ℕ) (x : Code) → EncodesCode (a ∷ b ∷ c ∷ d ∷ []) x → code_of_bytes a b c d ≡ Some x
code_of_bytes-from_encoded a b c d x h =
    let small : d < 128 = omega (arith, h.method) in
    let some : 0 < a + b + c + d = elim (cases_lt 0 (a + b + c + d)) [ inl w ↦ w | inr w ↦ absurd (h.not_zero (zeros a b c d w)) ] in
    let test : (ltb d 128 && ltb 0 (a + b + c + d)) ≡ true = and_from _ _ (lt-ltb _ _ small) (lt-ltb _ _ some) in
    rw (test, ← h.spn, ← h.fmi, ← h.count) refl

-- and only that
pub EncodesCode-from_read : (a b c d : ℕ) (x : Code) → code_of_bytes a b c d ≡ Some x → EncodesCode (a ∷ b ∷ c ∷ d ∷ []) x
EncodesCode-from_read a b c d x h =
    let w = some_if _ _ _ h in
    let parts = and_parts _ _ w.0 in
    let bytes : List ℕ = a ∷ b ∷ c ∷ d ∷ [] in
    let small : d < 128 = ltb-true _ _ parts.0 in
    let some : 0 < a + b + c + d = ltb-true _ _ parts.1 in
    subst (λ v. EncodesCode bytes v) w.1 (record {
      len = refl;
      spn = refl;
      fmi = refl;
      count = refl;
      method = omega arith;
      not_zero = λ z.
          let ea : a ≡ 0 = cc in
          let eb : b ≡ 0 = cc in
          let ec : c ≡ 0 = cc in
          let ed : d ≡ 0 = cc in
          omega arith;
    })

-- the bytes that are written for a code encode it
pub EncodesCode-code_bytes : (c : Code) → IsCode c → EncodesCode (code_bytes c) c
EncodesCode-code_bytes c h = record {
  len = refl;
  spn = omega arith;
  fmi = omega arith;
  count = refl;
  method = omega arith;
  not_zero = λ z.
      let ea : c.spn % 256 ≡ 0 = cc in
      let eb : c.spn / 256 % 256 ≡ 0 = cc in
      let ec : c.spn / 65536 * 32 + c.fmi ≡ 0 = cc in
      let ed : c.count ≡ 0 = cc in
      omega arith;
}

-- ---- groups of four bytes

-- a first code and further ones were read where all of them were
pub code_before-some : (o : Option Code) (r : Option (List Code)) (cs : List Code) → code_before o r ≡ Some cs → (c : Code) × (rest : List Code) × (o ≡ Some c) × (r ≡ Some rest) × (c ∷ rest ≡ cs)
code_before-some (Some c) (Some rest) cs h = (c, rest, refl, refl, (cc))
code_before-some (Some c) None cs h = cc
code_before-some None r cs h = cc

pub EncodesEach-from_read : (bytes : List ℕ) (cs : List Code) → codes_of_bytes bytes ≡ Some cs → EncodesEach cs bytes
EncodesEach-from_read [] cs h = let e : [] ≡ cs = cc in subst (λ v. EncodesEach v []) e refl
EncodesEach-from_read (a ∷ []) cs h = cc
EncodesEach-from_read (a ∷ b ∷ []) cs h = cc
EncodesEach-from_read (a ∷ b ∷ c ∷ []) cs h = cc
EncodesEach-from_read (a ∷ b ∷ c ∷ d ∷ bytes) cs h =
    let w = code_before-some _ _ _ h in
    let all : List ℕ = a ∷ b ∷ c ∷ d ∷ bytes in
    subst (λ v. EncodesEach v all) w.4 (EncodesCode-from_read a b c d w.0 w.2, EncodesEach-from_read bytes w.1 w.3)

pub codes_of_bytes-from_encoded : (cs : List Code) (bytes : List ℕ) → EncodesEach cs bytes → codes_of_bytes bytes ≡ Some cs
codes_of_bytes-from_encoded [] bytes h = rw h refl
codes_of_bytes-from_encoded (x ∷ cs) [] h = absurd (let e : 0 ≡ 4 = h.0.len in omega arith)
codes_of_bytes-from_encoded (x ∷ cs) (a ∷ []) h = absurd (let e : 1 ≡ 4 = h.0.len in omega arith)
codes_of_bytes-from_encoded (x ∷ cs) (a ∷ b ∷ []) h = absurd (let e : 2 ≡ 4 = h.0.len in omega arith)
codes_of_bytes-from_encoded (x ∷ cs) (a ∷ b ∷ c ∷ []) h = absurd (let e : 3 ≡ 4 = h.0.len in omega arith)
codes_of_bytes-from_encoded (x ∷ cs) (a ∷ b ∷ c ∷ d ∷ bytes) h =
    rw (code_of_bytes-from_encoded a b c d x h.0, codes_of_bytes-from_encoded cs bytes h.1) refl

-- each code has four bytes
pub length-EncodesEach : (cs : List Code) (bytes : List ℕ) → EncodesEach cs bytes → length bytes ≡ 4 * length cs
length-EncodesEach [] bytes h = rw h refl
length-EncodesEach (x ∷ cs) [] h = absurd (let e : 0 ≡ 4 = h.0.len in omega arith)
length-EncodesEach (x ∷ cs) (a ∷ []) h = absurd (let e : 1 ≡ 4 = h.0.len in omega arith)
length-EncodesEach (x ∷ cs) (a ∷ b ∷ []) h = absurd (let e : 2 ≡ 4 = h.0.len in omega arith)
length-EncodesEach (x ∷ cs) (a ∷ b ∷ c ∷ []) h = absurd (let e : 3 ≡ 4 = h.0.len in omega arith)
length-EncodesEach (x ∷ cs) (a ∷ b ∷ c ∷ d ∷ bytes) h = omega (arith, length-EncodesEach cs bytes h.1)

-- ---- the bytes after the lamps

-- a group is all 00 or all FF
all_alike : (n a b c d : ℕ) → list_all (λ m. m == n) (a ∷ b ∷ c ∷ d ∷ []) ≡ true → a ∷ b ∷ c ∷ d ∷ [] ≡ n ∷ n ∷ n ∷ n ∷ []
all_alike n a b c d t =
    let p = and_parts _ _ t in
    let q = and_parts _ _ p.1 in
    let r = and_parts _ _ q.1 in
    let s = and_parts _ _ r.1 in
    rw (eqb-true a n p.0, eqb-true b n q.0, eqb-true c n r.0, eqb-true d n s.0) refl

-- four bytes that encode a code are neither all 00 nor all FF
a_code_is_there : (a b c d : ℕ) (x : Code) → EncodesCode (a ∷ b ∷ c ∷ d ∷ []) x → (list_all (λ n. n == 0) (a ∷ b ∷ c ∷ d ∷ []) || list_all (λ n. n == 255) (a ∷ b ∷ c ∷ d ∷ [])) ≡ false
a_code_is_there a b c d x h =
    let group : List ℕ = a ∷ b ∷ c ∷ d ∷ [] in
    or_from (list_all (λ n. n == 0) group) (list_all (λ n. n == 255) group)
    (false_from_ne_true (list_all (λ n. n == 0) group) (λ t. h.not_zero (all_alike 0 a b c d t)))
    (false_from_ne_true (list_all (λ n. n == 255) group) (λ t.
    let all : a ∷ b ∷ c ∷ d ∷ [] ≡ 255 ∷ 255 ∷ 255 ∷ 255 ∷ [] = all_alike 255 a b c d t in
    let e : d ≡ 255 = cc in
    let m : d ≤ 127 = h.method in
    omega arith))

-- six bytes that begin with a code
one_code_read : (c : Code) (bytes : List ℕ) → length bytes ≡ 6 → EncodesCode (take 4 bytes) c → codes_read bytes ≡ Some (c ∷ [])
one_code_read x [] l h = absurd (omega arith)
one_code_read x (a ∷ []) l h = absurd (omega arith)
one_code_read x (a ∷ b ∷ []) l h = absurd (omega arith)
one_code_read x (a ∷ b ∷ c ∷ []) l h = absurd (omega arith)
one_code_read x (a ∷ b ∷ c ∷ d ∷ bytes) l h =
    rw (eq-eqb (length (a ∷ b ∷ c ∷ d ∷ bytes)) 6 l, a_code_is_there a b c d x h, code_of_bytes-from_encoded a b c d x h) refl

pub codes_read-from_encoded : (cs : List Code) (bytes : List ℕ) → EncodesCodes cs bytes → codes_read bytes ≡ Some cs
codes_read-from_encoded [] bytes h =
    rw (eq-eqb (length bytes) 6 h.0) (elim h.1 [ inl e ↦ rw e refl | inr e ↦ rw e refl ])
codes_read-from_encoded (c ∷ []) bytes h = one_code_read c bytes h.0 h.1
codes_read-from_encoded (c ∷ d ∷ cs) bytes h =
    let l : length bytes ≡ 4 * length (c ∷ d ∷ cs) = length-EncodesEach (c ∷ d ∷ cs) bytes h.1 in
    let n : (length bytes ≡ 6 → ⊥) = λ e. omega arith in
    rw (ne_eqb (length bytes) 6 n, le-leb 8 (length bytes) (omega arith), le-leb (length bytes) 1780 (omega arith))
    (codes_of_bytes-from_encoded (c ∷ d ∷ cs) bytes h.1)

-- codes in groups make a list of codes by their number
grouped_codes : (cs : List Code) (bytes : List ℕ) → EncodesEach cs bytes → 8 ≤ length bytes → length bytes ≤ 1780 → EncodesCodes cs bytes
grouped_codes [] bytes h l m = absurd (let e : length bytes ≡ 0 = length-EncodesEach [] bytes h in omega arith)
grouped_codes (c ∷ []) bytes h l m = absurd (let e : length bytes ≡ 4 * length (c ∷ []) = length-EncodesEach (c ∷ []) bytes h in omega arith)
grouped_codes (c ∷ d ∷ cs) bytes h l m =
    let e : length bytes ≡ 4 * length (c ∷ d ∷ cs) = length-EncodesEach (c ∷ d ∷ cs) bytes h in
    (omega arith, h)

-- a code before none
one_read : (o : Option Code) (cs : List Code) → code_before o (Some []) ≡ Some cs → (c : Code) × (o ≡ Some c) × (c ∷ [] ≡ cs)
one_read (Some c) cs h = (c, refl, (cc))
one_read None cs h = cc

-- one group and two more bytes
six_bytes_read : (a b c d : ℕ) (bytes : List ℕ) (cs : List Code) → length (a ∷ b ∷ c ∷ d ∷ bytes) ≡ 6 → no_code_or_one (a ∷ b ∷ c ∷ d ∷ []) ≡ Some cs → EncodesCodes cs (a ∷ b ∷ c ∷ d ∷ bytes)
six_bytes_read a b c d bytes cs l h =
    let group : List ℕ = a ∷ b ∷ c ∷ d ∷ [] in
    let all : List ℕ = a ∷ b ∷ c ∷ d ∷ bytes in
    elim (cases_Bool (list_all (λ n. n == 0) group || list_all (λ n. n == 255) group)) [
      | inl t ↦
          (let e : [] ≡ cs = (let k = rw t at h in cc) in
          subst (λ v. EncodesCodes v all) e (l, (elim (or_cases _ _ t) [ inl u ↦ inl (all_alike 0 a b c d u) | inr u ↦ inr (all_alike 255 a b c d u) ])))
      | inr f ↦
          (let k : code_before (code_of_bytes a b c d) (Some []) ≡ Some cs = rw f at h in
          let w = one_read (code_of_bytes a b c d) cs k in
          subst (λ v. EncodesCodes v all) w.2 (l, EncodesCode-from_read a b c d w.0 w.1))
    ]

six_bytes : (bytes : List ℕ) (cs : List Code) → length bytes ≡ 6 → no_code_or_one (take 4 bytes) ≡ Some cs → EncodesCodes cs bytes
six_bytes [] cs l h = absurd (omega arith)
six_bytes (a ∷ []) cs l h = absurd (omega arith)
six_bytes (a ∷ b ∷ []) cs l h = absurd (omega arith)
six_bytes (a ∷ b ∷ c ∷ []) cs l h = absurd (omega arith)
six_bytes (a ∷ b ∷ c ∷ d ∷ bytes) cs l h = six_bytes_read a b c d bytes cs l h

pub EncodesCodes-from_read : (bytes : List ℕ) (cs : List Code) → codes_read bytes ≡ Some cs → EncodesCodes cs bytes
EncodesCodes-from_read bytes cs h =
    elim (cases_Bool (eqb (length bytes) 6)) [
      | inl t ↦ six_bytes bytes cs (eqb-true _ _ t) (rw t at h)
      | inr f ↦
          (let k : cond (leb 8 (length bytes) && leb (length bytes) 1780) (codes_of_bytes bytes) None ≡ Some cs = rw f at h in
          elim (cases_Bool (leb 8 (length bytes) && leb (length bytes) 1780)) [
            | inl t ↦
                (let parts = and_parts _ _ t in
                grouped_codes cs bytes (EncodesEach-from_read bytes cs (rw t at k)) (leb-true _ _ parts.0) (leb-true _ _ parts.1))
            | inr g ↦ absurd (let e : None ≡ Some cs = rw g at k in cc)
          ])
    ]

-- ---- whole payloads

-- what is read of a payload is what it encodes
pub Encodes-from_decoding : (bytes : List ℕ) (v : Shown) → decoding bytes ≡ Some v → Encodes v bytes
Encodes-from_decoding [] v h = cc
Encodes-from_decoding (l ∷ []) v h = cc
Encodes-from_decoding (l ∷ f ∷ bytes) v h =
    let all : List ℕ = l ∷ f ∷ bytes in
    let w = shown_with-some (lamps_value l f) (codes_read bytes) v h in
    subst (λ u. Encodes u all) w.2 (refl, EncodesCodes-from_read bytes w.0 w.1)
  where
    shown_with-some : (lamps : LampsValue) (o : Option (List Code)) (u : Shown) → shown_with lamps o ≡ Some u → (cs : List Code) × (o ≡ Some cs) × (record { lamps = lamps; codes = cs } ≡ u)
    shown_with-some lamps (Some cs) u e = (cs, refl, (cc))
    shown_with-some lamps None u e = cc

-- what a payload encodes is read of it
pub decoding-from_Encodes : (bytes : List ℕ) (v : Shown) → Encodes v bytes → decoding bytes ≡ Some v
decoding-from_Encodes [] v h = absurd (let e : [] ≡ lamps_bytes v.lamps = h.0 in cc)
decoding-from_Encodes (l ∷ []) v h = absurd (let e : l ∷ [] ≡ lamps_bytes v.lamps = h.0 in cc)
decoding-from_Encodes (l ∷ f ∷ bytes) v h =
    let e : l ∷ f ∷ [] ≡ lamps_bytes v.lamps = h.0 in
    let el : l ≡ v.lamps.lamps = cc in
    let ef : f ≡ v.lamps.flashes = cc in
    rw (codes_read-from_encoded v.codes bytes h.1, el, ef) refl

-- a payload is read as v exactly where it encodes v
pub decoding_is_Encodes : (bytes : List ℕ) (v : Shown) → (decoding bytes ≡ Some v) ↔ Encodes v bytes
decoding_is_Encodes bytes v = (Encodes-from_decoding bytes v, decoding-from_Encodes bytes v)

-- ---- what is written

-- codes written one after another encode the codes
pub EncodesEach-codes_bytes : (cs : List Code) → All IsCode cs → EncodesEach cs (codes_bytes cs)
EncodesEach-codes_bytes [] h = refl
EncodesEach-codes_bytes (c ∷ cs) h =
    (EncodesCode-code_bytes c (All-head IsCode c cs h), EncodesEach-codes_bytes cs (All-tail IsCode c cs h))

pub EncodesCodes-written_codes : (cs : List Code) → All IsCode cs → length cs ≤ 445 → EncodesCodes cs (written_codes cs)
EncodesCodes-written_codes [] h l = (refl, inl refl)
EncodesCodes-written_codes (c ∷ []) h l = (refl, EncodesCode-code_bytes c (All-head IsCode c [] h))
EncodesCodes-written_codes (c ∷ d ∷ cs) h l = (l, EncodesEach-codes_bytes (c ∷ d ∷ cs) h)

-- what is written encodes what is shown
pub Encodes-encoding : (v : Shown) → IsShowable v → Encodes v (encoding v)
Encodes-encoding v h = (refl, EncodesCodes-written_codes v.codes h.codes h.room)

-- what was written is read back
pub decoding-encoding : (v : Shown) → IsShowable v → decoding (encoding v) ≡ Some v
decoding-encoding v h = decoding-from_Encodes (encoding v) v (Encodes-encoding v h)

-- a lawful memory can be shown, by each kind of message
pub IsShowable-view : (kind : Kind) (m : MemoryValue) → IsLawfulMemory m → IsShowable (view kind m)
IsShowable-view Dm1 m h = record {
  lamps = h.lamps;
  codes = All-weaker IsKeptCode IsCode (λ c k. k.0) m.active h.active;
  room = omega (arith, h.room);
}
IsShowable-view Dm2 m h = record {
  lamps = h.lamps;
  codes = All-weaker IsKeptCode IsCode (λ c k. k.0) m.previous h.previous;
  room = omega (arith, h.room);
}
IsShowable-view Dm6 m h = record {
  lamps = h.lamps;
  codes = All-weaker IsKeptCode IsCode (λ c k. k.0) m.pending h.pending;
  room = omega (arith, h.room);
}

pub decoding-encoding_of_view : (kind : Kind) (m : MemoryValue) → IsLawfulMemory m → decoding (encoding (view kind m)) ≡ Some (view kind m)
decoding-encoding_of_view kind m h = decoding-encoding (view kind m) (IsShowable-view kind m h)

-- ---- its length and its bytes

pub length-codes_bytes : (cs : List Code) → length (codes_bytes cs) ≡ 4 * length cs
length-codes_bytes [] = refl
length-codes_bytes (c ∷ cs) = omega (arith, length-codes_bytes cs)

-- fewer than two codes: 8 bytes
pub length-encoding_short : (v : Shown) → length v.codes ≤ 1 → length (encoding v) ≡ 8
length-encoding_short v h = go v.codes h
  where
    go : (cs : List Code) → length cs ≤ 1 → length (lamps_bytes v.lamps ++ written_codes cs) ≡ 8
    go [] l = refl
    go (c ∷ []) l = refl
    go (c ∷ d ∷ cs) l = absurd (omega arith)

-- n codes, 2 or more: 2 + 4n bytes
pub length-encoding_long : (v : Shown) → 2 ≤ length v.codes → length (encoding v) ≡ 2 + 4 * length v.codes
length-encoding_long v h = go v.codes h
  where
    go : (cs : List Code) → 2 ≤ length cs → length (lamps_bytes v.lamps ++ written_codes cs) ≡ 2 + 4 * length cs
    go [] l = absurd (omega arith)
    go (c ∷ []) l = absurd (omega arith)
    go (c ∷ d ∷ cs) l = omega (arith, length-codes_bytes (c ∷ d ∷ cs))

-- one frame's 8 bytes, or more than 8 and at most what the transport protocol carries
pub length-encoding : (v : Shown) → IsShowable v → (length (encoding v) ≡ 8) ⊎ ((9 ≤ length (encoding v)) × (length (encoding v) ≤ 1785))
length-encoding v h =
    elim (cases_lt (length v.codes) 2) [
      | inl w ↦ inl (length-encoding_short v (omega arith))
      | inr w ↦
          (let e : length (encoding v) ≡ 2 + 4 * length v.codes = length-encoding_long v w in
          let r : length v.codes ≤ 445 = h.room in
          inr (omega arith, omega arith))
    ]

two_bytes : (a b : ℕ) → a < 256 → b < 256 → All (λ n. n < 256) (a ∷ b ∷ [])
two_bytes a b ha hb = All-from_recursion (λ n. n < 256) (a ∷ b ∷ []) (ha, (hb, tt))

four_bytes : (a b c d : ℕ) → a < 256 → b < 256 → c < 256 → d < 256 → All (λ n. n < 256) (a ∷ b ∷ c ∷ d ∷ [])
four_bytes a b c d ha hb hc hd = All-from_recursion (λ n. n < 256) (a ∷ b ∷ c ∷ d ∷ []) (ha, (hb, (hc, (hd, tt))))

pub All-code_bytes : (c : Code) → IsCode c → All (λ n. n < 256) (code_bytes c)
All-code_bytes c h =
    four_bytes (c.spn % 256) (c.spn / 256 % 256) (c.spn / 65536 * 32 + c.fmi) c.count
    (omega arith)
    (omega arith)
    (omega arith)
    (omega arith)

pub All-codes_bytes : (cs : List Code) → All IsCode cs → All (λ n. n < 256) (codes_bytes cs)
All-codes_bytes [] h = All-nil (λ n. n < 256)
All-codes_bytes (c ∷ cs) h =
    All-append (λ n. n < 256) (code_bytes c) (codes_bytes cs) (All-code_bytes c (All-head IsCode c cs h))
    (All-codes_bytes cs (All-tail IsCode c cs h))

pub All-written_codes : (cs : List Code) → All IsCode cs → All (λ n. n < 256) (written_codes cs)
All-written_codes [] h =
    All-append (λ n. n < 256) (0 ∷ 0 ∷ 0 ∷ 0 ∷ []) (255 ∷ 255 ∷ [])
    (four_bytes 0 0 0 0 (omega arith) (omega arith) (omega arith) (omega arith))
    (two_bytes 255 255 (omega arith) (omega arith))
All-written_codes (c ∷ []) h =
    All-append (λ n. n < 256) (code_bytes c) (255 ∷ 255 ∷ []) (All-code_bytes c (All-head IsCode c [] h))
    (two_bytes 255 255 (omega arith) (omega arith))
All-written_codes (c ∷ d ∷ cs) h = All-codes_bytes (c ∷ d ∷ cs) h

-- each number of what is written is a byte
pub All-encoding : (v : Shown) → IsShowable v → All (λ n. n < 256) (encoding v)
All-encoding v h =
    All-append (λ n. n < 256) (lamps_bytes v.lamps) (written_codes v.codes)
    (two_bytes v.lamps.lamps v.lamps.flashes h.lamps.0 h.lamps.1)
    (All-written_codes v.codes h.codes)
