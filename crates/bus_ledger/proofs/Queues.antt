-- The frames of a queue, by the places that hold them.
use Rattle.std.proofs.Common.{ℕ, ◌≡◌, ◌<◌, ◌≤◌, ◌==◌, Bool, true, false, not, cond, List, [], ◌∷◌, ◌++◌, map, length, get_or, set, drop, Option, None, Some, slice_get, ◌&&◌, refl, sym, ap, ◌∙◌, arith}
use Rattle.std.proofs.lemmas.Bool.Decides.{nat_tests}
use Rattle.std.proofs.lemmas.List.Elements.{All-head, All-drop, filter-append}
use Rattle.std.specs.List.{All, filter}
use Rattle.std.specs.Option.{option_map}
use Rattle.transport.specs.Runs.{NumberedFrame}
use Rattle.bus_ledger.specs.BusValue.{SeatValue}
use Rattle.bus_ledger.specs.Carrying.{offered}
use Rattle.bus_ledger.specs.Changes.{kept, is_in_session, run_frame, run_frames}
use Rattle.bus_ledger.specs.Places.{IsFilled, IsFront, frames_at, frames_in, is_session_place}
use Rattle.bus_ledger.specs.declared.queued.Queued.{Queued}
use Rattle.bus_ledger.specs.declared.queued.TheConstants.{NO_FRONT}
use Rattle.bus_ledger.specs.declared.queued.Queued.TheVariants.{One, Many}
use Rattle.bus_ledger.specs.declared.traffic.QueuedFrame.{QueuedFrame}
use Rattle.bus_ledger.specs.declared.traffic.Which.{Which}
use Rattle.bus_ledger.specs.declared.traffic.Which.TheVariants.{Session, All as Everything}

-- the first frames of a list with some in front
first_of_both : (xs ys : List QueuedFrame) → 0 < length xs → slice_get (xs ++ ys) 0 ≡ slice_get xs 0
first_of_both [] ys h = absurd (omega arith)
first_of_both (x ∷ xs) ys h = refl

rest_of_both : (xs ys : List QueuedFrame) → 0 < length xs → drop 1 (xs ++ ys) ≡ drop 1 xs ++ ys
rest_of_both [] ys h = absurd (omega arith)
rest_of_both (x ∷ xs) ys h = refl

none_left : (xs : List QueuedFrame) → length xs ≡ 1 → drop 1 xs ≡ []
none_left [] e = absurd (omega arith)
none_left (x ∷ []) e = refl
none_left (x ∷ y ∷ xs) e = absurd (omega arith)

-- the first frame of a queue is that of its first place
pub first_in : (ps : List Queued) (p : Queued) → All IsFilled ps → 0 < length ps → p ≡ get_or ps 0 p → slice_get (frames_at p) 0 ≡ slice_get (frames_in ps) 0
first_in [] p filled h read = absurd (omega arith)
first_in (x ∷ ps) p filled h read =
    ap (λ (y : Queued). slice_get (frames_at y) 0) read ∙ sym (first_of_both (frames_at x) (frames_in ps) (All-head IsFilled x ps filled))

same_number : (n m : ℕ) → n ≡ m → (n == m) ≡ true
same_number n m e = grind (arith, nat_tests)

-- the front of a run
pub run_front : (message : ℕ) (session : Bool) (run : List NumberedFrame) (n : ℕ) → Some n ≡ option_map (λ (f : NumberedFrame). f.frame.id) (slice_get run 0) → n < NO_FRONT → IsFront n (run_frames message session run)
run_front message session [] n e h = absurd cc
run_front message session (f ∷ run) n e h = (cc, h)

pub no_run_front : (message : ℕ) (session : Bool) (run : List NumberedFrame) → None ≡ option_map (λ (f : NumberedFrame). f.frame.id) (slice_get run 0) → IsFront NO_FRONT (run_frames message session run)
no_run_front message session [] e = refl
no_run_front message session (f ∷ run) e = absurd cc

offered_at : (b c : Bool) (o p : Option QueuedFrame) → b ≡ true → c ≡ true → o ≡ p → o ≡ cond (b && c) p None
offered_at true true o p e f h = h
offered_at true false o p e f h = absurd cc
offered_at false c o p e f h = absurd cc

-- a live seat that has heard the whole wire offers the first of its queue
pub offers_first : (n : ℕ) (s : SeatValue) (o : Option QueuedFrame) → s.live ≡ true → s.heard ≡ n → o ≡ slice_get s.queue 0 → o ≡ offered n s
offers_first n s o live heard first = offered_at s.live (s.heard == n) o (slice_get s.queue 0) live (same_number s.heard n heard) first

-- without its first place, which held one frame, whatever became of that
pub without_place : (ps : List Queued) (p y : Queued) → All IsFilled ps → 0 < length ps → p ≡ get_or ps 0 p → length (frames_at p) ≡ 1 → frames_in (drop 1 (set ps 0 y)) ≡ drop 1 (frames_in ps)
without_place [] p y filled h read one = absurd (omega arith)
without_place (x ∷ ps) p y filled h read one =
    let one' : length (frames_at x) ≡ 1 = sym (ap (λ (z : Queued). length (frames_at z)) read) ∙ one in
    sym (rest_of_both (frames_at x) (frames_in ps) (omega arith) ∙ ap (λ (l : List QueuedFrame). l ++ frames_in ps) (none_left (frames_at x) one'))

-- the places behind the first are those that they were
pub others_filled : (ps : List Queued) (y : Queued) → All IsFilled ps → All IsFilled (drop 1 (set ps 0 y))
others_filled [] y filled = filled
others_filled (x ∷ ps) y filled = All-drop IsFilled 1 (x ∷ ps) filled

-- the frames of a session, and the others
none_kept : (message : ℕ) (run : List NumberedFrame) → filter (λ q. not (is_in_session q)) (map (run_frame message true) run) ≡ []
none_kept message [] = refl
none_kept message (n ∷ run) = none_kept message run

all_kept : (message : ℕ) (run : List NumberedFrame) → filter (λ q. not (is_in_session q)) (map (run_frame message false) run) ≡ map (run_frame message false) run
all_kept message [] = refl
all_kept message (n ∷ run) = ap (λ (l : List QueuedFrame). run_frame message false n ∷ l) (all_kept message run)

kept_at : (p : Queued) → filter (λ q. not (is_in_session q)) (frames_at p) ≡ cond (not (is_session_place p)) (frames_at p) []
kept_at (One q) = refl
kept_at (Many run message true) = none_kept message run
kept_at (Many run message false) = all_kept message run

pub frames_kept : (ps : List Queued) → frames_in (filter (λ p. not (is_session_place p)) ps) ≡ kept Session (frames_in ps)
frames_kept [] = refl
frames_kept (x ∷ ps) =
    by_place (frames_kept ps) (not (is_session_place x)) ∙ (ap (λ (l : List QueuedFrame). l ++ kept Session (frames_in ps)) (sym (kept_at x)) ∙ sym (filter-append (λ (q : QueuedFrame). not (is_in_session q)) (frames_at x) (frames_in ps))) where
      by_place : frames_in (filter (λ p. not (is_session_place p)) ps) ≡ kept Session (frames_in ps) → (b : Bool) → frames_in (cond b (x ∷ filter (λ p. not (is_session_place p)) ps) (filter (λ p. not (is_session_place p)) ps)) ≡ cond b (frames_at x) [] ++ kept Session (frames_in ps)
      by_place h true = ap (λ (l : List QueuedFrame). frames_at x ++ l) h
      by_place h false = h

-- no more frames are kept than there were
filter_short : (p : QueuedFrame → Bool) (qs : List QueuedFrame) → length (filter p qs) ≤ length qs
filter_short p [] = omega arith
filter_short p (q ∷ qs) =
    let r = filter_short p qs in
    elim (p q) as (λ v. length (cond v (q ∷ filter p qs) (filter p qs)) ≤ length (q ∷ qs)) [ true ↦ omega arith | false ↦ omega arith ]

pub kept_fewer : (which : Which) (qs : List QueuedFrame) → length (kept which qs) ≤ length qs
kept_fewer Session qs = filter_short (λ (q : QueuedFrame). not (is_in_session q)) qs
kept_fewer Everything qs = omega arith
