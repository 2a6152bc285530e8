-- The strict reading is the tolerant one where nothing is amiss.
use Rattle.std.proofs.Common.{◌≡◌, ◌≢◌, ℕ, ◌+◌, ◌-◌, ◌*◌, ◌%◌, ◌<◌, ◌≤◌, Bool, true, false, ◌&&◌, ◌||◌, ◌==◌, List, [], ◌∷◌, ◌++◌, length, get_or, take, drop, Option, Some, None, if◌then◌else◌, sym, refl, ap, ◌∙◌, arith, append_assoc}
use Rattle.std.specs.Prelude.{nat_le}
use Rattle.std.specs.List.{list_all}
use Rattle.std.proofs.lemmas.Bool.{and_parts, eqb-true, eq-eqb, leb-true, le-leb}
use Rattle.std.proofs.lemmas.List.{take_more, take_rest}
use Rattle.trouble_code.specs.Code.{Code}
use Rattle.trouble_code.specs.LampBytes.{LampsValue, lamps_value}
use Rattle.dm_messages.specs.Refusals.{fault_of_group}
use Rattle.dm_messages.specs.Tolerant.{code_in, codes_in, group_read, groups_of, is_lone_lawful, is_readable, is_strict, or_older, put_code, shown_by_method, strict_of, tolerant}
use Rattle.dm_messages.specs.View.{code_before, code_of_bytes, codes_of_bytes, codes_read, decoding, no_code_or_one, shown_with}
use Rattle.dm_messages.proofs.Outcomes.{no_fault_from_code}
use Rattle.dm_messages.specs.declared.error.ReadError.{ReadError}
use Rattle.dm_messages.specs.declared.method.ConversionMethod.{ConversionMethod}
use Rattle.dm_messages.specs.declared.shown.Shown.{Shown}
use Rattle.dm_messages.specs.declared.tolerant.GroupRead.{GroupRead}
use Rattle.dm_messages.specs.declared.tolerant.GroupRead.TheVariants.{Padding, NoCode, Older}
use Rattle.dm_messages.specs.declared.tolerant.Tolerant.{Tolerant}

-- ---- groups

-- what has a fault is no code
pub no_code_from_fault : (a b c d : ℕ) (e : ReadError) → fault_of_group a b c d ≡ Some e → code_of_bytes a b c d ≡ None
no_code_from_fault a b c d e h = go (code_of_bytes a b c d) refl
  where
    go : (o : Option Code) → code_of_bytes a b c d ≡ o → code_of_bytes a b c d ≡ None
    go None r = r
    go (Some x) r = absurd (let n : fault_of_group a b c d ≡ None = no_fault_from_code a b c d x r in cc)

-- so it is of an older layout, where it is neither no code nor padding
pub older_from_fault : (a b c d : ℕ) (e : ReadError) → fault_of_group a b c d ≡ Some e → list_all (λ x. x == 0) (a ∷ b ∷ c ∷ d ∷ []) ≡ false → list_all (λ x. x == 255) (a ∷ b ∷ c ∷ d ∷ []) ≡ false → Older a b c d ≡ group_read a b c d
older_from_fault a b c d e h z o = rw (z, o, no_code_from_fault a b c d e h) refl

-- one more group
pub group_read_more : (gs : List GroupRead) (bs all : List ℕ) → 4 ≤ length bs → gs ++ groups_of bs ≡ groups_of all → (gs ++ group_read (get_or bs 0 0) (get_or bs 1 0) (get_or bs 2 0) (get_or bs 3 0) ∷ []) ++ groups_of (take (length bs - 4) (drop 4 bs)) ≡ groups_of all
group_read_more gs [] all l h = absurd (omega arith)
group_read_more gs (a ∷ []) all l h = absurd (omega arith)
group_read_more gs (a ∷ b ∷ []) all l h = absurd (omega arith)
group_read_more gs (a ∷ b ∷ c ∷ []) all l h = absurd (omega arith)
group_read_more gs (a ∷ b ∷ c ∷ d ∷ bs) all l h = rw (take_rest (a ∷ b ∷ c ∷ d ∷ bs) 4) (append_assoc gs (group_read a b c d ∷ []) (groups_of bs) ∙ h)

-- four bytes 00, or FF, are no code
zeros_none : (a b c d : ℕ) → list_all (λ x. x == 0) (a ∷ b ∷ c ∷ d ∷ []) ≡ true → code_of_bytes a b c d ≡ None
zeros_none a b c d t =
    let p = and_parts (a == 0) (list_all (λ x. x == 0) (b ∷ c ∷ d ∷ [])) t in
    let q = and_parts (b == 0) (list_all (λ x. x == 0) (c ∷ d ∷ [])) p.1 in
    let r = and_parts (c == 0) (list_all (λ x. x == 0) (d ∷ [])) q.1 in
    let s = and_parts (d == 0) true r.1 in
    rw (eqb-true a 0 p.0, eqb-true b 0 q.0, eqb-true c 0 r.0, eqb-true d 0 s.0) refl

ones_none : (a b c d : ℕ) → list_all (λ x. x == 255) (a ∷ b ∷ c ∷ d ∷ []) ≡ true → code_of_bytes a b c d ≡ None
ones_none a b c d t =
    let p = and_parts (a == 255) (list_all (λ x. x == 255) (b ∷ c ∷ d ∷ [])) t in
    let q = and_parts (b == 255) (list_all (λ x. x == 255) (c ∷ d ∷ [])) p.1 in
    let r = and_parts (c == 255) (list_all (λ x. x == 255) (d ∷ [])) q.1 in
    let s = and_parts (d == 255) true r.1 in
    rw (eqb-true a 255 p.0, eqb-true b 255 q.0, eqb-true c 255 r.0, eqb-true d 255 s.0) refl

-- ---- the codes of groups

-- the codes, where each group has one and no byte is left
abbrev pub all_codes : List GroupRead → ℕ → Option (List Code)
all_codes groups behind = if behind == 0 && list_all is_readable groups then Some (codes_in None groups) else None

one_more : (o : Option Code) (a b c d : ℕ) (groups : List GroupRead) (behind : ℕ) → code_before o (all_codes groups behind) ≡ all_codes (or_older o a b c d ∷ groups) behind
one_more None a b c d groups behind = go (behind == 0)
  where
    go : (t : Bool) → None ≡ (if t && false then Some (codes_in None groups) else None)
    go true = refl
    go false = refl
one_more (Some x) a b c d groups behind = go (behind == 0 && list_all is_readable groups)
  where
    go : (t : Bool) → code_before (Some x) (if t then Some (codes_in None groups) else None) ≡ (if t then Some (x ∷ codes_in None groups) else None)
    go true = refl
    go false = refl

before_none : (o : Option Code) (r : Option (List Code)) → o ≡ None → code_before o r ≡ None
before_none o r h = rw h refl

none_more : (g : GroupRead) → is_readable g ≡ false → (groups : List GroupRead) (behind : ℕ) → None ≡ all_codes (g ∷ groups) behind
none_more g h groups behind = rw h (go (behind == 0))
  where
    go : (t : Bool) → None ≡ (if t && false then Some (codes_in None (g ∷ groups)) else None)
    go true = refl
    go false = refl

group_more : (a b c d : ℕ) (groups : List GroupRead) (behind : ℕ) → code_before (code_of_bytes a b c d) (all_codes groups behind) ≡ all_codes (group_read a b c d ∷ groups) behind
group_more a b c d groups behind = by_zero (list_all (λ x. x == 0) (a ∷ b ∷ c ∷ d ∷ [])) refl
  where
    by_ones : (t : Bool) → list_all (λ x. x == 255) (a ∷ b ∷ c ∷ d ∷ []) ≡ t → code_before (code_of_bytes a b c d) (all_codes groups behind) ≡ all_codes ((if t then Padding else or_older (code_of_bytes a b c d) a b c d) ∷ groups) behind
    by_ones true h = before_none (code_of_bytes a b c d) (all_codes groups behind) (ones_none a b c d h) ∙ none_more Padding refl groups behind
    by_ones false h = one_more (code_of_bytes a b c d) a b c d groups behind

    by_zero : (t : Bool) → list_all (λ x. x == 0) (a ∷ b ∷ c ∷ d ∷ []) ≡ t → code_before (code_of_bytes a b c d) (all_codes groups behind) ≡ all_codes ((if t then NoCode else (if list_all (λ x. x == 255) (a ∷ b ∷ c ∷ d ∷ []) then Padding else or_older (code_of_bytes a b c d) a b c d)) ∷ groups) behind
    by_zero true h = before_none (code_of_bytes a b c d) (all_codes groups behind) (zeros_none a b c d h) ∙ none_more NoCode refl groups behind
    by_zero false h = by_ones (list_all (λ x. x == 255) (a ∷ b ∷ c ∷ d ∷ [])) refl

-- a group more leaves what is behind
four_more : (a b c d : ℕ) (bytes : List ℕ) → length bytes % 4 ≡ length (a ∷ b ∷ c ∷ d ∷ bytes) % 4
four_more a b c d bytes = omega arith

groups_codes : (bytes : List ℕ) → codes_of_bytes bytes ≡ all_codes (groups_of bytes) (length bytes % 4)
groups_codes [] = refl
groups_codes (a ∷ []) = refl
groups_codes (a ∷ b ∷ []) = refl
groups_codes (a ∷ b ∷ c ∷ []) = refl
groups_codes (a ∷ b ∷ c ∷ d ∷ bytes) =
    ap (code_before (code_of_bytes a b c d)) (groups_codes bytes)
    ∙ group_more a b c d (groups_of bytes) (length bytes % 4)
    ∙ ap (all_codes (group_read a b c d ∷ groups_of bytes)) (four_more a b c d bytes)

-- so many groups as there are fours
groups_length : (bytes : List ℕ) → length bytes ≡ 4 * length (groups_of bytes) + length bytes % 4
groups_length [] = refl
groups_length (a ∷ []) = refl
groups_length (a ∷ b ∷ []) = refl
groups_length (a ∷ b ∷ c ∷ []) = refl
groups_length (a ∷ b ∷ c ∷ d ∷ bytes) = omega (arith, groups_length bytes)

-- ---- one group and two bytes

-- what is read of these groups with so many bytes behind, where nothing is amiss
abbrev pub strictly : List GroupRead → ℕ → Option (List Code)
strictly groups behind =
    if (if length groups == 1 && behind == 2 then is_lone_lawful groups
    else ((nat_le 2 (length groups) && nat_le (length groups) 445) && (behind == 0 && list_all is_readable groups))) then Some (codes_in None groups) else None

lone : (a b c d : ℕ) → no_code_or_one (a ∷ b ∷ c ∷ d ∷ []) ≡ strictly (group_read a b c d ∷ []) 2
lone a b c d = by_zero (list_all (λ x. x == 0) (a ∷ b ∷ c ∷ d ∷ [])) (list_all (λ x. x == 255) (a ∷ b ∷ c ∷ d ∷ []))
  where
    by_code : (o : Option Code) → code_before o (Some []) ≡ strictly (or_older o a b c d ∷ []) 2
    by_code None = refl
    by_code (Some x) = refl

    by_zero : (t u : Bool) → (if t || u then Some [] else code_before (code_of_bytes a b c d) (Some [])) ≡ strictly ((if t then NoCode else (if u then Padding else or_older (code_of_bytes a b c d) a b c d)) ∷ []) 2
    by_zero true u = refl
    by_zero false true = refl
    by_zero false false = by_code (code_of_bytes a b c d)

-- ---- more groups than one

bounds : (l g : ℕ) → l ≡ 4 * g → (nat_le 8 l && nat_le l 1780) ≡ (nat_le 2 g && nat_le g 445)
bounds l g e = go (nat_le 8 l) (nat_le 2 g) refl refl (nat_le l 1780) (nat_le g 445) refl refl
  where
    go : (p q : Bool) → nat_le 8 l ≡ p → nat_le 2 g ≡ q → (r s : Bool) → nat_le l 1780 ≡ r → nat_le g 445 ≡ s → (p && r) ≡ (q && s)
    go true true i j true true k m = refl
    go true true i j false false k m = refl
    go false false i j r s k m = refl
    go true false i j r s k m = absurd (let x : 8 ≤ l = leb-true 8 l i in let y : nat_le 2 g ≡ true = le-leb 2 g (omega arith) in cc)
    go false true i j r s k m = absurd (let x : 2 ≤ g = leb-true 2 g j in let y : nat_le 8 l ≡ true = le-leb 8 l (omega arith) in cc)
    go true true i j true false k m = absurd (let x : l ≤ 1780 = leb-true l 1780 k in let y : nat_le g 445 ≡ true = le-leb g 445 (omega arith) in cc)
    go true true i j false true k m = absurd (let x : g ≤ 445 = leb-true g 445 m in let y : nat_le l 1780 ≡ true = le-leb l 1780 (omega arith) in cc)

many : (l behind : ℕ) (groups : List GroupRead) → l ≡ 4 * length groups + behind → l ≢ 6 → (if nat_le 8 l && nat_le l 1780 then all_codes groups behind else None) ≡ strictly groups behind
many l behind groups h ne = by_lone (length groups == 1 && behind == 2) refl
  where
    Same : Bool → Type 0
    Same t = (if nat_le 8 l && nat_le l 1780 then all_codes groups behind else None)
        ≡ (if (if t then is_lone_lawful groups else ((nat_le 2 (length groups) && nat_le (length groups) 445) && (behind == 0 && list_all is_readable groups))) then Some (codes_in None groups) else None)

    no_lone : (length groups == 1 && behind == 2) ≡ true → ⊥
    no_lone t =
        let p = and_parts (length groups == 1) (behind == 2) t in
        let x : length groups ≡ 1 = eqb-true (length groups) 1 p.0 in
        let y : behind ≡ 2 = eqb-true behind 2 p.1 in
        ne (omega arith)

    by_behind : (z : Bool) → (behind == 0) ≡ z → (rd : Bool)
        → (if nat_le 8 l && nat_le l 1780 then (if z && rd then Some (codes_in None groups) else None) else None)
        ≡ (if (nat_le 2 (length groups) && nat_le (length groups) 445) && (z && rd) then Some (codes_in None groups) else None)
    by_behind true e rd = let y : behind ≡ 0 = eqb-true behind 0 e in rw (bounds l (length groups) (omega arith)) (pick (nat_le 2 (length groups) && nat_le (length groups) 445) rd)
      where
        pick : (x t : Bool) → (if x then (if true && t then Some (codes_in None groups) else None) else None) ≡ (if x && (true && t) then Some (codes_in None groups) else None)
        pick true true = refl
        pick true false = refl
        pick false t = refl
    by_behind false e rd = pick (nat_le 8 l && nat_le l 1780) (nat_le 2 (length groups) && nat_le (length groups) 445)
      where
        pick : (x y : Bool) → (if x then (if false && rd then Some (codes_in None groups) else None) else None) ≡ (if y && (false && rd) then Some (codes_in None groups) else None)
        pick true true = refl
        pick true false = refl
        pick false true = refl
        pick false false = refl

    by_lone : (t : Bool) → (length groups == 1 && behind == 2) ≡ t → Same t
    by_lone true e = absurd (no_lone e)
    by_lone false e = by_behind (behind == 0) refl (list_all is_readable groups)

codes_are : (bytes : List ℕ) → codes_read bytes ≡ strictly (groups_of bytes) (length bytes % 4)
codes_are bytes = go (length bytes == 6) refl
  where
    six : (bs : List ℕ) → length bs ≡ 6 → no_code_or_one (take 4 bs) ≡ strictly (groups_of bs) (length bs % 4)
    six [] l = absurd (omega arith)
    six (a ∷ []) l = absurd (omega arith)
    six (a ∷ b ∷ []) l = absurd (omega arith)
    six (a ∷ b ∷ c ∷ []) l = absurd (omega arith)
    six (a ∷ b ∷ c ∷ d ∷ []) l = absurd (omega arith)
    six (a ∷ b ∷ c ∷ d ∷ e ∷ []) l = absurd (omega arith)
    six (a ∷ b ∷ c ∷ d ∷ e ∷ f ∷ []) l = lone a b c d
    six (a ∷ b ∷ c ∷ d ∷ e ∷ f ∷ g ∷ bs) l = absurd (omega arith)

    go : (t : Bool) → (length bytes == 6) ≡ t
        → (if t then no_code_or_one (take 4 bytes) else (if nat_le 8 (length bytes) && nat_le (length bytes) 1780 then codes_of_bytes bytes else None)) ≡ strictly (groups_of bytes) (length bytes % 4)
    go true i = six bytes (eqb-true (length bytes) 6 i)
    go false i =
        let ne : length bytes ≢ 6 = λ e. (let y : (length bytes == 6) ≡ true = eq-eqb (length bytes) 6 e in cc) in
        rw (groups_codes bytes) (many (length bytes) (length bytes % 4) (groups_of bytes) (groups_length bytes) ne)

-- ---- the laws

shown_strictly : (lamps : LampsValue) (b : Bool) (codes : List Code) → shown_with lamps (if b then Some codes else None) ≡ (if b then Some (record { lamps = lamps; codes = codes }) else None)
shown_strictly lamps true codes = refl
shown_strictly lamps false codes = refl

pub strict : (bytes : List ℕ) → decoding bytes ≡ strict_of (tolerant bytes)
strict [] = refl
strict (l ∷ []) = refl
strict (l ∷ f ∷ bytes) =
    ap (shown_with (lamps_value l f)) (codes_are bytes)
    ∙ shown_strictly (lamps_value l f) (is_strict (record { lamps = lamps_value l f; groups = groups_of bytes; behind = length bytes % 4 })) (codes_in None (groups_of bytes))

shown_is : (o : Option Tolerant) (v : Shown) → strict_of o ≡ Some v → (t : Tolerant) × (o ≡ Some t) × (shown_by_method None t ≡ v)
shown_is None v h = cc
shown_is (Some t) v h = go (is_strict t) h
  where
    go : (b : Bool) → (if b then Some (shown_by_method None t) else None) ≡ Some v → (u : Tolerant) × (Some t ≡ Some u) × (shown_by_method None u ≡ v)
    go true h = (t, refl, (cc))
    go false h = cc

pub read_strictly : (bytes : List ℕ) (v : Shown) → decoding bytes ≡ Some v → (t : Tolerant) × (tolerant bytes ≡ Some t) × (shown_by_method None t ≡ v)
read_strictly bytes v h = shown_is (tolerant bytes) v (sym (strict bytes) ∙ h)

put_apart : (o : Option Code) (first others : List Code) → put_code o (first ++ others) ≡ put_code o first ++ others
put_apart (Some c) first others = refl
put_apart None first others = refl

pub apart : (method : Option ConversionMethod) (first others : List GroupRead) → codes_in method (first ++ others) ≡ codes_in method first ++ codes_in method others
apart method [] others = refl
apart method (g ∷ groups) others = ap (put_code (code_in method g)) (apart method groups others) ∙ put_apart (code_in method g) (codes_in method groups) (codes_in method others)

-- the codes of one group more
pub codes_more : (method : Option ConversionMethod) (groups : List GroupRead) (i : ℕ) (g : GroupRead) → i < length groups → g ≡ get_or groups i g → codes_in method (take (i + 1) groups) ≡ codes_in method (take i groups) ++ put_code (code_in method g) []
codes_more method groups i g lt e =
    let more : take (i + 1) groups ≡ take i groups ++ g ∷ [] = take_more groups i g lt ∙ ap (λ x. take i groups ++ x ∷ []) (sym e) in
    rw more (apart method (take i groups) (g ∷ []))
