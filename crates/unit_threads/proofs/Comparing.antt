-- An end compared with the journal.
use Rattle.std.proofs.Common.{◌≡◌, ◌⊎◌, ℕ, ◌≢◌, inl, inr, ◌+◌, ◌<◌, ◌≤◌, Bool, true, false, List, ◌++◌, Option, Some, None, take, drop, length, arith, refl, sym, ap, subst, ◌∙◌}
use Rattle.std.proofs.Math.Seq.{take-length}
use Rattle.std.proofs.lemmas.Bool.{cases_eq, leb-true, leb-false, ltb-true, ltb-false}
use Rattle.std.proofs.lemmas.List.{take-append-le, get_or-set_same, get_or-set_other}
use Rattle.std.specs.Prelude.{nat_le, nat_lt, slice_set}
use Rattle.std.specs.List.{All}
use Rattle.journal.specs.Journal.{GarageValue, joins, tally_of}
use Rattle.journal.specs.declared.tally.Tally.{Tally}
use Rattle.garage.specs.Opening.{no_events}
use Rattle.garage.specs.declared.error.GarageError.TheVariants.{Stranger}
use Rattle.unit_threads.specs.declared.ended.Ended.{Ended}
use Rattle.unit_threads.specs.declared.ended.EndReason.{EndReason}
use Rattle.unit_threads.specs.declared.ended.EndReason.TheVariants as reason
use Rattle.unit_threads.specs.Ends.{counts_told, Agrees, AgreesAt, HaveOwnSeats, HaveOwnSeatsTo, IsCounted, IsSeatless, IsUnseated, end_at, nothing}

-- the counts that a garage tells
pub counted_so : (g : GarageValue) (k : ℕ) (t : Tally) → (length g.settings.stations ≤ k → k < length g.settings.stations + joins g.journal → t ≡ tally_of k g.journal)
    → (((k < length g.settings.stations) ⊎ (length g.settings.stations + joins g.journal ≤ k)) → t ≡ no_events) → t ≡ counts_told k g
counted_so g k t given never = go (nat_le (length g.settings.stations) k) refl (nat_lt k (length g.settings.stations + joins g.journal)) refl
  where
    go : (x : Bool) → nat_le (length g.settings.stations) k ≡ x → (y : Bool) → nat_lt k (length g.settings.stations + joins g.journal) ≡ y → t ≡ counts_told k g
    go true e true f = rw (e, f) (given (leb-true _ _ e) (ltb-true _ _ f))
    go true e false f = rw (e, f) (never (inr (ltb-false _ _ f)))
    go false e y f = rw e (never (inl (leb-false _ _ e)))

-- with a seat
pub agrees_seated : (turns : ℕ) (g : GarageValue) (k : ℕ) (t : Tally) (refusal : Option EndReason) → t ≡ counts_told k g → AgreesAt turns t t.events refusal
    → Agrees turns g (record { seat = Some k; events = t.events; refusal = refusal })
agrees_seated turns g k t refusal told at = record { agrees = subst (λ (x : Tally). AgreesAt turns x t.events refusal) told at }

-- without one
pub agrees_unseated : (turns : ℕ) (g : GarageValue) (r : EndReason) → IsUnseated (Some r) → Agrees turns g (record { seat = None; events = 0; refusal = Some r })
agrees_unseated turns g r h = record { agrees = (refl, h) }

-- a stranger's
pub agrees_stranger : (turns : ℕ) (g : GarageValue) (k : ℕ) (t : Tally) → t ≡ counts_told k g → Agrees turns g (record { seat = Some k; events = t.events; refusal = Some (reason.Garage Stranger) })
agrees_stranger turns g k t told = record { agrees = ap (λ (x : Tally). x.events) told }

same_slice : (xs ys : List Ended) (n : ℕ) → n ≡ length xs → take n (xs ++ drop (length xs) ys) ≡ xs
same_slice xs ys n e = rw e (take-append-le (length xs) xs (drop (length xs) ys) (omega arith) ∙ take-length xs)

-- what a vector holds once its slice was written
pub all_agree : (turns : ℕ) (g : GarageValue) (xs ys : List Ended) (n : ℕ) → n ≡ length xs → All (Agrees turns g) xs → All (Agrees turns g) (take n (xs ++ drop (length xs) ys))
all_agree turns g xs ys n e h = let P : List Ended → Type 0 = λ l. All (Agrees turns g) l in subst P (sym (same_slice xs ys n e)) h

pub all_apart : (xs ys : List Ended) (n : ℕ) → n ≡ length xs → HaveOwnSeats xs → HaveOwnSeats (take n (xs ++ drop (length xs) ys))
all_apart xs ys n e h = let P : List Ended → Type 0 = λ l. HaveOwnSeats l in subst P (sym (same_slice xs ys n e)) h

-- a property of each end before the index and of the new one is one of each end up to there
more : (P : ℕ → Ended → Type 0) (es : List Ended) (i : ℕ) (e : Ended) → i < length es → ((k : ℕ) → k < i → P k (end_at es k)) → P i e → (k : ℕ) → k < i + 1 → P k (end_at (slice_set es i e) k)
more P es i e lt before new k b = go (cases_eq k i)
  where
    go : (k ≡ i) ⊎ (k ≢ i) → P k (end_at (slice_set es i e) k)
    go (inl same) = subst (λ (q : ℕ). P q (end_at (slice_set es i e) q)) (sym same) (subst (λ (x : Ended). P i x) (sym (get_or-set_same es i e nothing lt)) new)
    go (inr apart) = subst (λ (x : Ended). P k x) (sym (get_or-set_other es i k e nothing apart)) (before k (omega arith))

-- that each end agrees with the journal
pub agree_more : (turns : ℕ) (g : GarageValue) (es : List Ended) (i : ℕ) (e : Ended) → i < length es → ((k : ℕ) → k < i → Agrees turns g (end_at es k)) → Agrees turns g e
    → (k : ℕ) → k < i + 1 → Agrees turns g (end_at (slice_set es i e) k)
agree_more turns g es i e lt before new k b = more (λ q x. Agrees turns g x) es i e lt before new k b

pub seatless_more : (xs es : List Ended) (i : ℕ) (e : Ended) → i < length es → ((k : ℕ) → k < i → IsSeatless (end_at xs k) → IsSeatless (end_at es k)) → (IsSeatless (end_at xs i) → IsSeatless e)
    → (k : ℕ) → k < i + 1 → IsSeatless (end_at xs k) → IsSeatless (end_at (slice_set es i e) k)
seatless_more xs es i e lt before new k b = more (λ q x. IsSeatless (end_at xs q) → IsSeatless x) es i e lt before new k b

-- that each end is apart from those before it, too
pub apart_more : (es : List Ended) (i : ℕ) (e : Ended) → i < length es → HaveOwnSeatsTo i es → (IsCounted e → (j : ℕ) → j < i → (end_at es j).seat ≢ e.seat) → HaveOwnSeatsTo (i + 1) (slice_set es i e)
apart_more es i e lt before new k j b c =
    subst (λ (x : Ended). IsCounted (end_at (slice_set es i e) k) → x.seat ≢ (end_at (slice_set es i e) k).seat) (sym (get_or-set_other es i j e nothing (λ s. apart_of s)))
    (more (λ q x. j < q → IsCounted x → (end_at es j).seat ≢ x.seat) es i e lt (λ q l d. before q j l d) (λ d n. new n j d) k b c)
  where
    apart_of : j ≡ i → ⊥
    apart_of s = omega arith
