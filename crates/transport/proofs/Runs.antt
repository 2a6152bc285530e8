-- What is left of a run.
use Rattle.std.proofs.Common.{◌≡◌, ℕ, zero, suc, ◌+◌, ◌-◌, ◌<◌, ◌≤◌, List, [], ◌∷◌, map, length, drop, slice_get, Some, Bool, false, nat_eq, if◌then◌else◌, option_map, arith, refl, ap, ◌∙◌}
use Rattle.std.specs.List.{range_with_len}
use Rattle.std.proofs.lemmas.Bool.{ne_eqb}
use Rattle.std.proofs.lemmas.List.FromFn.{length-map-range_with_len}
use Rattle.can_frame.specs.Fields.{pdu2_number}
use Rattle.can_frame.specs.FrameValue.{FrameValue, frame}
use Rattle.transport.specs.Messages.{announcement, control_frame, control_id, packet_id, part_of_message, parts_from, last_part, frames_of_message}
use Rattle.transport.specs.Runs.{NumberedFrame, numbered, frame_in, run_of}

frames_from : (payload : List ℕ) (pgn source destination j n : ℕ) → map frame_in (map (numbered payload pgn source destination) (range_with_len j n)) ≡ parts_from payload pgn source destination j n
frames_from payload pgn source destination j zero = refl
frames_from payload pgn source destination j (suc n) =
    let next : j + 1 ≡ suc j = omega arith in
    ap (λ (l : List FrameValue). part_of_message payload pgn source destination j ∷ l)
    (frames_from payload pgn source destination (j + 1) n ∙ ap (λ (k : ℕ). parts_from payload pgn source destination k n) next)

-- the frames of a run are the message's
pub frames_of_run : (payload : List ℕ) (pgn source destination first end : ℕ) → map frame_in (run_of payload pgn source destination first end) ≡ parts_from payload pgn source destination first (end + 1 - first)
frames_of_run payload pgn source destination first end = frames_from payload pgn source destination first (end + 1 - first)

-- from the announcement to the last packet, all of them
pub whole_run : (payload : List ℕ) (pgn source destination first end : ℕ) → first ≡ 0 → end ≡ last_part payload
    → map frame_in (run_of payload pgn source destination first end) ≡ frames_of_message payload pgn source destination
whole_run payload pgn source destination first end f e =
    let n : end + 1 - first ≡ suc (last_part payload) = omega arith in
    frames_of_run payload pgn source destination first end
    ∙ (ap (λ (k : ℕ). parts_from payload pgn source destination first k) n ∙ ap (λ (k : ℕ). parts_from payload pgn source destination k (suc (last_part payload))) f)

-- the part that comes next, and the rest
pub run_step : (payload : List ℕ) (pgn source destination next end : ℕ) → next ≤ end
    → run_of payload pgn source destination next end ≡ numbered payload pgn source destination next ∷ run_of payload pgn source destination (next + 1) end
run_step payload pgn source destination next end h =
    let n : end + 1 - next ≡ suc (end + 1 - (next + 1)) = omega arith in
    ap (λ (k : ℕ). map (numbered payload pgn source destination) (range_with_len next k)) n

pub first_of_run : (payload : List ℕ) (pgn source destination next end : ℕ) → next ≤ end
    → slice_get (run_of payload pgn source destination next end) 0 ≡ Some (numbered payload pgn source destination next)
first_of_run payload pgn source destination next end h = ap (λ (r : List NumberedFrame). slice_get r 0) (run_step payload pgn source destination next end h)

id_of_announcement : (payload : List ℕ) (pgn source destination j : ℕ) → 9 ≤ length payload → j ≡ 0
    → (part_of_message payload pgn source destination j).id ≡ control_id source destination
id_of_announcement payload pgn source destination zero h e =
    let n : nat_eq (length payload) 8 ≡ false = ne_eqb (length payload) 8 (λ e. omega arith) in
    ap (λ (b : Bool). (if b then frame (pdu2_number 6 pgn source) payload else control_frame (announcement (length payload) pgn destination) source destination).id) n
id_of_announcement payload pgn source destination (suc j) h e = absurd (omega arith)

id_of_packet : (payload : List ℕ) (pgn source destination j : ℕ) → 0 < j → (part_of_message payload pgn source destination j).id ≡ packet_id source destination
id_of_packet payload pgn source destination zero h = absurd (omega arith)
id_of_packet payload pgn source destination (suc j) h = refl

id_of_first : (payload : List ℕ) (pgn source destination next end : ℕ) → next ≤ end
    → option_map (λ (n : NumberedFrame). n.frame.id) (slice_get (run_of payload pgn source destination next end) 0) ≡ Some ((part_of_message payload pgn source destination next).id)
id_of_first payload pgn source destination next end le = ap (option_map (λ (n : NumberedFrame). n.frame.id)) (first_of_run payload pgn source destination next end le)

-- the first frame of a run is its announcement, or a packet
pub announcement_first : (payload : List ℕ) (pgn source destination next end : ℕ) → 9 ≤ length payload → next ≤ end → next ≡ 0
    → option_map (λ (n : NumberedFrame). n.frame.id) (slice_get (run_of payload pgn source destination next end) 0) ≡ Some (control_id source destination)
announcement_first payload pgn source destination next end h le e = id_of_first payload pgn source destination next end le ∙ ap Some (id_of_announcement payload pgn source destination next h e)

pub packet_first : (payload : List ℕ) (pgn source destination next end : ℕ) → next ≤ end → 0 < next
    → option_map (λ (n : NumberedFrame). n.frame.id) (slice_get (run_of payload pgn source destination next end) 0) ≡ Some (packet_id source destination)
packet_first payload pgn source destination next end le l = id_of_first payload pgn source destination next end le ∙ ap Some (id_of_packet payload pgn source destination next l)

pub rest_of_run : (payload : List ℕ) (pgn source destination next end : ℕ) → next ≤ end
    → drop 1 (run_of payload pgn source destination next end) ≡ run_of payload pgn source destination (next + 1) end
rest_of_run payload pgn source destination next end h = ap (λ (r : List NumberedFrame). drop 1 r) (run_step payload pgn source destination next end h)

-- past its end nothing is left
pub empty_run : (payload : List ℕ) (pgn source destination next end : ℕ) → end < next → run_of payload pgn source destination next end ≡ []
empty_run payload pgn source destination next end h =
    let n : end + 1 - next ≡ 0 = omega arith in
    ap (λ (k : ℕ). map (numbered payload pgn source destination) (range_with_len next k)) n

pub length_of_run : (payload : List ℕ) (pgn source destination next end : ℕ) → length (run_of payload pgn source destination next end) ≡ end + 1 - next
length_of_run payload pgn source destination next end = length-map-range_with_len (numbered payload pgn source destination) next (end + 1 - next)
