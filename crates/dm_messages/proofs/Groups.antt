use Rattle.std.proofs.Common.{◌≡◌, ℕ, ◌+◌, ◌-◌, ◌%◌, ◌<◌, ◌≤◌, List, [], ◌∷◌, ◌++◌, length, get_or, take, drop, Option, Some, None, arith, refl, sym, ap, ◌∙◌, append_assoc, append-nil}
use Rattle.std.proofs.lemmas.List.{take_more, take_rest, length-drop}
use Rattle.trouble_code.specs.Code.{Code, code_bytes}
use Rattle.dm_messages.specs.View.{codes_bytes, code_before, code_of_bytes, codes_of_bytes}
use Rattle.dm_messages.specs.Refusals.{fault_of_group, fault_of_groups}

-- ---- writing

-- one more code at the end
pub codes_bytes-push : (cs : List Code) (c : Code) → codes_bytes (cs ++ c ∷ []) ≡ codes_bytes cs ++ code_bytes c
codes_bytes-push [] c = append-nil (code_bytes c)
codes_bytes-push (d ∷ cs) c = ap (λ bs. code_bytes d ++ bs) (codes_bytes-push cs c) ∙ sym (append_assoc (code_bytes d) (codes_bytes cs) (code_bytes c))

-- four bytes put at the end one by one
pub four_pushed : (bs : List ℕ) (low middle top last : ℕ) → (((bs ++ low ∷ []) ++ middle ∷ []) ++ top ∷ []) ++ last ∷ [] ≡ bs ++ low ∷ middle ∷ top ∷ last ∷ []
four_pushed [] low middle top last = refl
four_pushed (b ∷ bs) low middle top last = ap (λ cs. b ∷ cs) (four_pushed bs low middle top last)

-- ---- reading

-- a list of at least four numbers, taken apart
pub four_and_rest : (bs : List ℕ) → 4 ≤ length bs → bs ≡ get_or bs 0 0 ∷ get_or bs 1 0 ∷ get_or bs 2 0 ∷ get_or bs 3 0 ∷ drop 4 bs
four_and_rest [] h = absurd (omega arith)
four_and_rest (a ∷ []) h = absurd (omega arith)
four_and_rest (a ∷ b ∷ []) h = absurd (omega arith)
four_and_rest (a ∷ b ∷ c ∷ []) h = absurd (omega arith)
four_and_rest (a ∷ b ∷ c ∷ d ∷ bs) h = refl

-- fewer than four numbers hold no group
pub no_group : (bs : List ℕ) → length bs < 4 → fault_of_groups bs ≡ None
no_group [] h = refl
no_group (a ∷ []) h = refl
no_group (a ∷ b ∷ []) h = refl
no_group (a ∷ b ∷ c ∷ []) h = refl
no_group (a ∷ b ∷ c ∷ d ∷ bs) h = absurd (omega arith)

-- codes that were read before those that are still to be read
abbrev pub codes_onto : List Code → Option (List Code) → Option (List Code)
codes_onto xs (Some ys) = Some (xs ++ ys)
codes_onto xs None = None

pub codes_onto-one : (xs : List Code) (x : Code) (o : Option (List Code)) → codes_onto xs (code_before (Some x) o) ≡ codes_onto (xs ++ x ∷ []) o
codes_onto-one xs x (Some ys) = ap (λ zs. Some zs) (sym (append_assoc xs (x ∷ []) ys))
codes_onto-one xs x None = refl

-- one more group of four bytes, which encodes a code
pub read_more : (xs : List Code) (x : Code) (bs all : List ℕ) → 4 ≤ length bs → code_of_bytes (get_or bs 0 0) (get_or bs 1 0) (get_or bs 2 0) (get_or bs 3 0) ≡ Some x → codes_onto xs (codes_of_bytes bs) ≡ codes_of_bytes all → codes_onto (xs ++ x ∷ []) (codes_of_bytes (take (length bs - 4) (drop 4 bs))) ≡ codes_of_bytes all
read_more xs x [] all l e h = absurd (omega arith)
read_more xs x (a ∷ []) all l e h = absurd (omega arith)
read_more xs x (a ∷ b ∷ []) all l e h = absurd (omega arith)
read_more xs x (a ∷ b ∷ c ∷ []) all l e h = absurd (omega arith)
read_more xs x (a ∷ b ∷ c ∷ d ∷ bs) all l e h =
    rw (take_rest (a ∷ b ∷ c ∷ d ∷ bs) 4) (sym (codes_onto-one xs x (codes_of_bytes bs)) ∙ (rw e at h))

-- the first fault is that of the others
pub fault_more : (bs : List ℕ) → 4 ≤ length bs → fault_of_group (get_or bs 0 0) (get_or bs 1 0) (get_or bs 2 0) (get_or bs 3 0) ≡ None → fault_of_groups (take (length bs - 4) (drop 4 bs)) ≡ fault_of_groups bs
fault_more [] l e = absurd (omega arith)
fault_more (a ∷ []) l e = absurd (omega arith)
fault_more (a ∷ b ∷ []) l e = absurd (omega arith)
fault_more (a ∷ b ∷ c ∷ []) l e = absurd (omega arith)
fault_more (a ∷ b ∷ c ∷ d ∷ bs) l e = rw (take_rest (a ∷ b ∷ c ∷ d ∷ bs) 4, e) refl

-- and whole groups are left
pub whole_more : (bs : List ℕ) → 4 ≤ length bs → length bs % 4 ≡ 0 → length (take (length bs - 4) (drop 4 bs)) % 4 ≡ 0
whole_more bs l h = rw (take_rest bs 4, length-drop 4 bs) (omega arith)

-- one more code written
pub written_more : (payload start : List ℕ) (cs : List Code) (i : ℕ) (c : Code) → i < length cs → c ≡ get_or cs i c → payload ≡ (start ++ codes_bytes (take i cs)) ++ code_bytes c → payload ≡ start ++ codes_bytes (take (i + 1) cs)
written_more payload start cs i c lt e h =
    let more : take (i + 1) cs ≡ take i cs ++ c ∷ [] = take_more cs i c lt ∙ ap (λ x. take i cs ++ x ∷ []) (sym e) in
    rw (more, codes_bytes-push (take i cs) c) (h ∙ append_assoc start (codes_bytes (take i cs)) (code_bytes c))
