-- A run in a queue is its frames, queued one by one.
use Rattle.std.proofs.Common.{ℕ, ◌≡◌, ◌+◌, ◌<◌, Bool, true, List, [], ◌∷◌, ◌++◌, map, length, refl, sym, ap, ◌∙◌, arith}
use Rattle.std.proofs.lemmas.List.{append-nil, append_assoc, length-set, get_or-set_same, set-set, set-get_or, map-append}
use Rattle.transport.specs.Runs.{NumberedFrame}
use Rattle.bus_ledger.specs.BusValue.{SeatValue, Traffic, nobody, seat_at, IsLive}
use Rattle.bus_ledger.specs.Changes.{queueing, queueing_all, queued, queued_all, run_frame, run_frames, with_seat}
use Rattle.bus_ledger.specs.declared.traffic.QueuedFrame.{QueuedFrame}
use Rattle.node_core.specs.Pieces.{outs_of, run_out}
use Rattle.node_core.specs.declared.out.Out.{Out}
use Rattle.node_core.specs.declared.out.Part.TheVariants.{Begun, Session}
use Rattle.node_core.specs.declared.out.Piece.{Piece}
use Rattle.journal.specs.Steps.{put_all, tagged}

-- frames queued by a seat, then more of them
twice : (t : Traffic) (k : ℕ) (q : QueuedFrame) (qs : List QueuedFrame) → k < length t.seats → queued_all k qs (queued k q t) ≡ queued_all k (q ∷ qs) t
twice t k q qs h =
    let s = seat_at t k in
    let y : SeatValue = queueing q s in
    let read : seat_at (queued k q t) k ≡ y = get_or-set_same t.seats k y nobody h in
    let long : s.queued + 1 + length qs ≡ s.queued + length (q ∷ qs) = omega arith in
    ap (λ (z : SeatValue). with_seat (queued k q t) k (queueing_all qs z)) read
    ∙ (ap (λ (l : List SeatValue). let u : Traffic = record t { seats = l } in u) (set-set t.seats k y (queueing_all qs y))
    ∙ (ap (λ (l : List QueuedFrame). with_seat t k (record s { queue = l; queued = s.queued + 1 + length qs })) (append_assoc s.queue (q ∷ []) qs)
    ∙ ap (λ (n : ℕ). with_seat t k (record s { queue = s.queue ++ (q ∷ qs); queued = n })) long))

-- all of a list at once, or one after another
pub put_at_once : (k : ℕ) (qs : List QueuedFrame) (t : Traffic) → k < length t.seats → queued_all k qs t ≡ put_all k qs t
put_at_once k [] t h =
    let s = seat_at t k in
    let none : s.queued + 0 ≡ s.queued = omega arith in
    ap (λ (l : List QueuedFrame). with_seat t k (record s { queue = l; queued = s.queued + 0 })) (append-nil s.queue)
    ∙ (ap (λ (n : ℕ). with_seat t k (record s { queued = n })) none
    ∙ ap (λ (l : List SeatValue). let u : Traffic = record t { seats = l } in u) (set-get_or t.seats k nobody))
put_at_once k (q ∷ qs) t h =
    sym (twice t k q qs h) ∙ put_at_once k qs (queued k q t) (rw (length-set t.seats k (queueing q (seat_at t k))) h)

-- the tags of a run's frames
begun_tags : (number : ℕ) (session : Bool) (session_number i : ℕ) (run : List NumberedFrame) → run_frames number session run ≡ map (tagged number session session_number) (map (run_out (Begun i)) run)
begun_tags number session session_number i [] = refl
begun_tags number session session_number i (n ∷ run) = ap (λ (l : List QueuedFrame). run_frame number session n ∷ l) (begun_tags number session session_number i run)

session_tags : (number : ℕ) (session : Bool) (session_number i : ℕ) (run : List NumberedFrame) → run_frames session_number true run ≡ map (tagged number session session_number) (map (run_out (Session i)) run)
session_tags number session session_number i [] = refl
session_tags number session session_number i (n ∷ run) = ap (λ (l : List QueuedFrame). run_frame session_number true n ∷ l) (session_tags number session session_number i run)

pub put_begun : (number : ℕ) (session : Bool) (session_number i : ℕ) (run : List NumberedFrame) (k : ℕ) (t : Traffic) → IsLive t k
    → queued_all k (run_frames number session run) t ≡ put_all k (map (tagged number session session_number) (map (run_out (Begun i)) run)) t
put_begun number session session_number i run k t live =
    put_at_once k (run_frames number session run) t live.0 ∙ ap (λ (l : List QueuedFrame). put_all k l t) (begun_tags number session session_number i run)

pub put_session : (number : ℕ) (session : Bool) (session_number i : ℕ) (run : List NumberedFrame) (k : ℕ) (t : Traffic) → IsLive t k
    → queued_all k (run_frames session_number true run) t ≡ put_all k (map (tagged number session session_number) (map (run_out (Session i)) run)) t
put_session number session session_number i run k t live =
    put_at_once k (run_frames session_number true run) t live.0 ∙ ap (λ (l : List QueuedFrame). put_all k l t) (session_tags number session session_number i run)

-- the frames of a list, then those of another
put_both : (k : ℕ) (xs ys : List QueuedFrame) (t : Traffic) → put_all k (xs ++ ys) t ≡ put_all k ys (put_all k xs t)
put_both k [] ys t = refl
put_both k (x ∷ xs) ys t = put_both k xs ys (queued k x t)

-- the first piece of what is put was queued
pub put_piece : (f : Out → QueuedFrame) (k : ℕ) (put : List Out) (p : Piece) (rest : List Out) (t t' : Traffic) → put ≡ outs_of p ++ rest → t' ≡ put_all k (map f (outs_of p)) t
    → put_all k (map f rest) t' ≡ put_all k (map f put) t
put_piece f k put p rest t t' e now =
    ap (λ (u : Traffic). put_all k (map f rest) u) now
    ∙ (sym (put_both k (map f (outs_of p)) (map f rest) t) ∙ ap (λ (l : List QueuedFrame). put_all k l t) (sym (ap (map f) e ∙ map-append f (outs_of p) rest)))
