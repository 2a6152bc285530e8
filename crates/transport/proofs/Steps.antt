-- One packet taken by an assembly that holds its pieces one after another.
use Rattle.std.proofs.Common.{◌≡◌, ℕ, ◌+◌, ◌*◌, ◌/◌, Bool, true, false, List, [], ◌∷◌, ◌++◌, length, take, drop, Some, None, arith, refl, sym, ap, ◌∙◌, length-drop, length-append, nat_eq, if◌then◌else◌}
use Rattle.std.specs.Prelude.{◌-◌, ◌≤◌, IsSome}
use Rattle.std.proofs.lemmas.Bool.{eqb-true}
use Rattle.std.proofs.lemmas.List.{take_at, take-append-drop, length-take-le}
use Rattle.std.proofs.lemmas.Bool.Decides.{nat_tests}
use Rattle.transport.specs.Pieces.{packet_count, pieces, joined, IsNext}
use Rattle.transport.specs.Cutting.{pieces-push, length-first_pieces, concat-pieces}
use Rattle.transport.specs.Assembling.{is_next, with_part, took_of}
use Rattle.transport.specs.declared.took.Took.TheVariants.{More, Whole}

-- there are as many pieces as packets
pub length-pieces : (bytes : List ℕ) → length (pieces bytes) ≡ packet_count (length bytes)
length-pieces bytes = length-first_pieces (packet_count (length bytes)) bytes

pub length_of_pieces : (size count : ℕ) (payload : List ℕ) → length payload ≡ size → count ≡ packet_count size → length (pieces payload) ≡ count
length_of_pieces size count payload h e = length-pieces payload ∙ ap packet_count h ∙ sym e

pub is_next_true : (size : ℕ) (taken : List (List ℕ)) (part : List ℕ) → IsNext part (length taken) (packet_count size) → is_next size taken part ≡ true
is_next_true size taken part h = grind (arith, nat_tests, h.len, h.number, h.missing)

pub is_next_facts : (size : ℕ) (taken : List (List ℕ)) (part : List ℕ) → is_next size taken part ≡ true → IsNext part (length taken) (packet_count size)
is_next_facts size taken part h = record { len = grind (arith, nat_tests); number = grind (arith, nat_tests); missing = grind (arith, nat_tests) }

is_next_false : (size : ℕ) (taken : List (List ℕ)) (part : List ℕ) → ¬ IsNext part (length taken) (packet_count size) → is_next size taken part ≡ false
is_next_false size taken part h = decide (is_next size taken part) (is_next_facts size taken part)
  where
    decide : (b : Bool) → (b ≡ true → IsNext part (length taken) (packet_count size)) → b ≡ false
    decide false f = refl
    decide true f = absurd (h (f refl))

-- the next packet adds its piece
pub with_next : (size len : ℕ) (bytes part : List ℕ) → len ≡ length bytes → len ≡ 7 * packet_count len → IsNext part (len / 7) (packet_count size)
    → with_part size (Some (pieces bytes)) part ≡ Some (pieces (bytes ++ drop 1 part))
with_next size len bytes part same whole next =
    let count : len / 7 ≡ length (pieces bytes) = omega (arith, length-pieces bytes) in
    let seven : length (drop 1 part) ≡ 7 = omega (arith, length-drop 1 part, next.len) in
    let whole_bytes : length bytes ≡ 7 * packet_count (length bytes) = rw same at whole in
    rw (is_next_true size (pieces bytes) part (rw count at next), pieces-push (packet_count (length bytes)) bytes (drop 1 part) whole_bytes seven) refl

-- any other packet breaks the message
pub with_other : (size len : ℕ) (bytes part : List ℕ) → len ≡ length bytes → len ≡ 7 * packet_count len → ¬ IsNext part (len / 7) (packet_count size)
    → with_part size (Some (pieces bytes)) part ≡ None
with_other size len bytes part same whole other =
    let count : len / 7 ≡ length (pieces bytes) = omega (arith, length-pieces bytes) in
    rw (is_next_false size (pieces bytes) part (rw count at other)) refl

-- a part that is taken is the next one of a message that is not broken
pub next_taken : (size len : ℕ) (broken : Bool) (bytes part : List ℕ) → len ≡ length bytes → len ≡ 7 * packet_count len
    → IsSome (with_part size (if broken then None else Some (pieces bytes)) part) → (broken ≡ false) × IsNext part (len / 7) (packet_count size)
next_taken size len true bytes part same whole there = absurd cc
next_taken size len false bytes part same whole there = (refl, decide (is_next size (pieces bytes) part) refl there)
  where
    count : len / 7 ≡ length (pieces bytes)
    count = omega (arith, length-pieces bytes)

    decide : (b : Bool) → is_next size (pieces bytes) part ≡ b → IsSome (if b then Some (pieces bytes ++ drop 1 part ∷ []) else None) → IsNext part (len / 7) (packet_count size)
    decide true e there = rw count (is_next_facts size (pieces bytes) part e)
    decide false e there = absurd cc

-- what is answered after the next packet
pub took_next : (size len : ℕ) (bytes : List ℕ) → len ≡ length bytes → len ≡ 7 * packet_count len → (rest : List ℕ) → length rest ≡ 7
    → took_of size (Some (pieces (bytes ++ rest))) ≡ (if nat_eq (len / 7 + 1) (packet_count size) then Whole else More)
took_next size len bytes same whole rest seven =
    let count : length (pieces (bytes ++ rest)) ≡ len / 7 + 1 = omega (arith, length-pieces (bytes ++ rest), length-append bytes rest) in
    rw count refl

-- the bytes that are held, cut to the size, are the pieces joined
pub joined_taken : (size : ℕ) (broken : Bool) (len : ℕ) (bytes : List ℕ) (parts : List (List ℕ)) → len ≡ length bytes → len ≡ 7 * packet_count len
    → (if broken then None else Some (pieces bytes)) ≡ Some parts → take size bytes ≡ joined size parts
joined_taken size true len bytes parts same whole held = cc
joined_taken size false len bytes parts same whole held =
    let all : pieces bytes ≡ parts = cc in
    let count : length bytes ≡ 7 * packet_count (length bytes) = rw same at whole in
    ap (take size) (sym (concat-pieces (packet_count (length bytes)) bytes count)) ∙ ap (joined size) all

-- a message that is whole has as many bytes as its size
pub whole_bytes : (size : ℕ) (broken : Bool) (len : ℕ) (bytes : List ℕ) → len ≡ length bytes → len ≡ 7 * packet_count len
    → took_of size (if broken then None else Some (pieces bytes)) ≡ Whole → size ≤ len
whole_bytes size true len bytes same whole answer = absurd cc
whole_bytes size false len bytes same whole answer = go (nat_eq (length (pieces bytes)) (packet_count size)) refl answer
  where
    go : (b : Bool) → nat_eq (length (pieces bytes)) (packet_count size) ≡ b → (if b then Whole else More) ≡ Whole → size ≤ len
    go true e answer = let count : length (pieces bytes) ≡ packet_count size = eqb-true _ _ e in omega (arith, length-pieces bytes)
    go false e answer = absurd cc

-- the bytes without the last seven are the pieces without the last
without_last : (len : ℕ) (bytes : List ℕ) (before : List (List ℕ)) (part : List ℕ) → len ≡ length bytes → len ≡ 7 * packet_count len
    → pieces bytes ≡ before ++ part ∷ [] → pieces (take (len - 7) bytes) ≡ before
without_last len bytes before part same whole e =
    let long : length (pieces bytes) ≡ length before + 1 = ap (λ (l : List (List ℕ)). length l) e ∙ length-append before (part ∷ []) in
    let count : packet_count len ≡ length before + 1 = omega (arith, length-pieces bytes) in
    let front : length (take (len - 7) bytes) ≡ 7 * length before = length-take-le (len - 7) bytes (omega arith) ∙ omega arith in
    let rest : length (drop (len - 7) bytes) ≡ 7 = length-drop (len - 7) bytes ∙ omega arith in
    let both : pieces (take (len - 7) bytes) ++ drop (len - 7) bytes ∷ [] ≡ before ++ part ∷ [] =
    sym (pieces-push (length before) (take (len - 7) bytes) (drop (len - 7) bytes) front rest) ∙ (ap pieces (take-append-drop (len - 7) bytes) ∙ e) in
    let fewer : length (pieces (take (len - 7) bytes)) ≡ length before = omega (arith, length-pieces (take (len - 7) bytes)) in
    sym (take_at (pieces (take (len - 7) bytes)) (drop (len - 7) bytes ∷ []) (length before) fewer)
    ∙ (ap (λ (l : List (List ℕ)). take (length before) l) both ∙ take_at before (part ∷ []) (length before) refl)

-- a message that gave back its last packet
pub given_back : (len : ℕ) (broken : Bool) (bytes : List ℕ) (before : List (List ℕ)) (part : List ℕ) → len ≡ length bytes → len ≡ 7 * packet_count len
    → (if broken then None else Some (pieces bytes)) ≡ Some (before ++ part ∷ []) → (if broken then None else Some (pieces (take (len - 7) bytes))) ≡ Some before
given_back len true bytes before part same whole held = absurd cc
given_back len false bytes before part same whole held =
    let e : pieces bytes ≡ before ++ part ∷ [] = cc in
    ap (λ (l : List (List ℕ)). Some l) (without_last len bytes before part same whole e)
