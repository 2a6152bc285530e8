-- Messages that a claim may end; and those that were broken, with_numbers one after the other.
use Rattle.std.proofs.Common.{◌≡◌, ◌<◌, ◌+◌, ℕ, List, [], ◌∷◌, ◌++◌, take, drop, set, get_or, length, sym, ap, ◌∙◌, subst, add-one, append_assoc, append-nil, true, arith}
use Rattle.std.proofs.lemmas.List.{at_drop_more, drop-set-lt, take_more_set}
use Rattle.bus_model.specs.Heard.{counted}
use Rattle.address_claim.specs.Claiming.{is_held}
use Rattle.listener.specs.Broken.{broken_count, ended_by_claim, noted_below, noted_between, with_numbers}
use Rattle.listener.specs.Paced.{PacedValue}
use Rattle.listener.specs.declared.broken.BrokenBy.TheVariants.{Claim}
use Rattle.listener.specs.declared.broken.BrokenMessage.{BrokenMessage}
use Rattle.reassembly.specs.Tables.{at}

-- those before a place are with_numbers, and then the one at that place
pub numbered_more : (m all : List BrokenMessage) (i c : ℕ) (x d : BrokenMessage) → i < length m → x ≡ record (get_or m i d) { count = counted (c + 1) }
    → take i m ++ with_numbers c (drop i m) ≡ all
    → take (i + 1) (set m i x) ++ with_numbers (counted (c + 1)) (drop (i + 1) (set m i x)) ≡ all
numbered_more m all i c x d low is before =
    let rest = with_numbers (counted (c + 1)) (drop (i + 1) m) in
    (λ j. take_more_set m i x low j ++ with_numbers (counted (c + 1)) (drop-set-lt (i + 1) m i x (omega arith) j))
    ∙ (append_assoc (take i m) (x ∷ []) rest
    ∙ (ap (λ (y : BrokenMessage). take i m ++ y ∷ rest) is
    ∙ (ap (λ (l : List BrokenMessage). take i m ++ l) (sym (at_drop_more (with_numbers c) m i d low)) ∙ before)))

pub counted_more : (m : List BrokenMessage) (i c n : ℕ) (x d : BrokenMessage) → i < length m
    → broken_count c (drop i m) ≡ n → broken_count (counted (c + 1)) (drop (i + 1) (set m i x)) ≡ n
counted_more m i c n x d low before =
    ap (broken_count (counted (c + 1))) (drop-set-lt (i + 1) m i x (omega arith)) ∙ (sym (at_drop_more (broken_count c) m i d low) ∙ before)

-- ---- what a claim may end

pub more_noted : (l : PacedValue) (s n : ℕ) (old before after : List BrokenMessage) → before ≡ old ++ noted_below l s n → after ≡ before ++ noted_between l Claim s n
    → after ≡ old ++ noted_below l s (n + 1)
more_noted l s n old before after is put =
    put ∙ (ap (λ (x : List BrokenMessage). x ++ noted_between l Claim s n) is
    ∙ (append_assoc old (noted_below l s n) (noted_between l Claim s n) ∙ ap (λ (m : ℕ). old ++ noted_below l s m) (sym (add-one n))))

pub all_noted : (l : PacedValue) (s n : ℕ) (old after : List BrokenMessage) → after ≡ old ++ noted_below l s n → n ≡ 256 → after ≡ old ++ noted_below l s 256
all_noted l s n old after is all = subst (λ (m : ℕ). after ≡ old ++ noted_below l s m) all is

-- one who claims again what he holds ends nothing
pub nothing_noted : (l : PacedValue) (s n : ℕ) (old : List BrokenMessage) → is_held (at l.listener.owners s) n ≡ true → old ≡ old ++ ended_by_claim l s n
nothing_noted l s n old held = rw held (sym (append-nil old))
