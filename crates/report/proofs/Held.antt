-- Text that is held for a while and then written.
use Rattle.std.proofs.Common.{◌≡◌, ℕ, ◌+◌, ◌<◌, List, [], ◌∷◌, ◌++◌, Option, Some, None, suc, length, take, get_or, arith, refl, sym, ap, ◌∙◌, append_assoc}
use Rattle.std.proofs.lemmas.List.{append-nil, take_all, take_more, length-take-le}
use Rattle.std.proofs.lemmas.List.Concat.{flat_map-append}
use Rattle.std.proofs.KnownBytes.{append_known-grown, Appends-trans}
use Rattle.std.specs.List.{flat_map}
use Rattle.std.specs.Io.KnownBytes.{Appends, Keeps, append_known}
use Rattle.trouble_code.specs.Code.{Code}
use Rattle.dm_messages.specs.declared.shown.Shown.{Shown}
use Rattle.report.specs.Text.{line_end}
use Rattle.report.specs.Shown.{code_text, head_text, entry_text, entries_text}

-- one text more
texts_more : {X : Type 0} (f : X → List ℕ) (a b c : Option (List ℕ)) (xs : List X) (i : ℕ) (x : X) → i < length xs → x ≡ get_or xs i x
    → Appends a b (flat_map f (take i xs)) → Appends b c (f x) → Appends a c (flat_map f (take (i + 1) xs))
texts_more f a b c xs i x l is h k =
    let here : take (i + 1) xs ≡ take i xs ++ x ∷ [] = take_more xs i x l ∙ ap (λ y. take i xs ++ y ∷ []) (sym is) in
    let one : flat_map f (x ∷ []) ≡ f x = append-nil (f x) in
    rw (here, flat_map-append f (take i xs) (x ∷ []), one) (Appends-trans a b c _ _ h k)

-- what is held is written, and then nothing is held
pub flushed : (a b : Option (List ℕ)) (t u : List ℕ) → Appends a b t → u ≡ [] → Keeps (append_known a t) (append_known b u)
flushed None b t u h z = tt
flushed (Some a) None t u h z = absurd h
flushed (Some a) (Some b) t u h z = rw z (append-nil b ∙ h)

pub unchanged : (a b : Option (List ℕ)) → b ≡ a → Keeps a b
unchanged None b z = tt
unchanged (Some a) b z = rw z refl

-- a code more, where room was made for it
pub code_more : (a b w : Option (List ℕ)) (old new : List ℕ) (cs : List Code) (i : ℕ) (c : Code) → i < length cs → c ≡ get_or cs i c
    → Appends a b (flat_map code_text (take i cs)) → Keeps b (append_known w old) → new ≡ old ++ code_text c
    → Appends a (append_known w new) (flat_map code_text (take (i + 1) cs))
code_more a b w old new cs i c l is h k e = texts_more code_text a b (append_known w new) cs i c l is h (append_known-grown b w old new (code_text c) k e)

-- a message more: room was made, its head was held, and its codes
pub entry_more : (a b w c : Option (List ℕ)) (t u : List ℕ) (s : List Shown) (i n : ℕ) (e : Shown) → i < length s → e ≡ get_or s i e
    → Appends a b (entries_text 0 (take i s)) → Keeps b (append_known w t) → u ≡ t ++ head_text i e
    → n ≡ length e.codes → Appends (append_known w u) c (flat_map code_text (take n e.codes)) → Appends a c (entries_text 0 (take (i + 1) s))
entry_more a b w c t u s i n e l is h k z j m =
    let here : take (i + 1) s ≡ take i s ++ e ∷ [] = take_more s i e l ∙ ap (λ y. take i s ++ y ∷ []) (sym is) in
    let place : 0 + length (take i s) ≡ i = omega (arith, length-take-le i s (omega (arith, l))) in
    let cs : Appends (append_known w u) c (flat_map code_text e.codes) = rw (take_all n e.codes (omega (arith, j))) at m in
    let one : Appends b c (entry_text i e) = Appends-trans b (append_known w u) c (head_text i e) (flat_map code_text e.codes) (append_known-grown b w t u (head_text i e) k z) cs in
    let all : entries_text 0 (take i s ++ e ∷ []) ≡ entries_text 0 (take i s) ++ entry_text i e =
    entries_last 0 (take i s) e ∙ ap (λ p. entries_text 0 (take i s) ++ entry_text p e) place in
    rw (here, all) (Appends-trans a b c _ _ h one)
  where
    entries_last : (p : ℕ) (es : List Shown) (e : Shown) → entries_text p (es ++ e ∷ []) ≡ entries_text p es ++ entry_text (p + length es) e
    entries_last p [] e = ap (λ q. entry_text q e ++ []) (omega arith) ∙ append-nil _
    entries_last p (x ∷ es) e =
        let there : suc p + length es ≡ p + length (x ∷ es) = omega arith in
        ap (λ l. entry_text p x ++ l) (entries_last (suc p) es e ∙ ap (λ q. entries_text (suc p) es ++ entry_text q e) there)
        ∙ sym (append_assoc (entry_text p x) (entries_text (suc p) es) (entry_text (p + length (x ∷ es)) e))

pub all_entries : (a c : Option (List ℕ)) (s : List Shown) (n : ℕ) → n ≡ length s → Appends a c (entries_text 0 (take n s)) → Appends a c (entries_text 0 s)
all_entries a c s n z h = rw (take_all n s (omega (arith, z))) at h

-- what is held at first, the messages, and the end
pub joined_held : (a b c : Option (List ℕ)) (t u v head es : List ℕ) → t ≡ [] → u ≡ t ++ head → Appends (append_known a u) (append_known b v) es
    → Appends (append_known b v) c line_end → Appends a c (head ++ es ++ line_end)
joined_held None b c t u v head es z e h k = tt
joined_held (Some a) b c t u v head es z e h k =
    let whole = Appends-trans (append_known (Some a) u) (append_known b v) c es line_end h k in
    let is : u ≡ head = e ∙ ap (λ l. l ++ head) z in
    from_held a c u head es is whole
  where
    from_held : (a : List ℕ) (c : Option (List ℕ)) (u head es : List ℕ) → u ≡ head → Appends (append_known (Some a) u) c (es ++ line_end) → Appends (Some a) c (head ++ es ++ line_end)
    from_held a None u head es is h = absurd h
    from_held a (Some c) u head es is h = h ∙ rw (is, append_assoc a head (es ++ line_end), append_assoc head es line_end) refl
