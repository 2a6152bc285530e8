-- The parts of a message, as the runs of their frames give them.
use Rattle.std.proofs.Common.{◌≡◌, ℕ, suc, ◌+◌, ◌-◌, ◌≤◌, ◌==◌, Bool, true, false, cond, List, [], ◌∷◌, length, map, Some, slice_get, arith, refl, sym, ap, ◌∙◌}
use Rattle.std.specs.List.{range_with_len}
use borrow.Author.Tests.{eqb-true}
use Rattle.std.specs.Option.{option_map}
use Rattle.std.proofs.lemmas.List.{length-map}
use Rattle.transport.specs.Messages.{part_of_message, packet_frame, last_part}
use Rattle.transport.specs.Pieces.{packet, packet_count}
use Rattle.transport.specs.Runs.{NumberedFrame, numbered, part_in, run_of}
use Rattle.transport.proofs.Runs.{first_of_run, length_of_run}
use Rattle.node_core.specs.Deed.{marked_part, marked_parts, parts_begun, parts_of_session}
use Rattle.node_core.specs.Pieces.{run_out}
use Rattle.node_core.specs.declared.out.Out.{Out}
use Rattle.node_core.specs.declared.out.Part.{Part}
use Rattle.node_core.specs.declared.out.Part.TheVariants.{Begun, Session}
use Rattle.node_core.specs.declared.session.OpenSession.{OpenSession}

marked_begun : (payload : List ℕ) (pgn source destination i : ℕ) (js : List ℕ)
    → map (run_out (Begun i)) (map (numbered payload pgn source destination) js) ≡ map (marked_part (λ j. Begun j) payload pgn source destination) js
marked_begun payload pgn source destination i [] = refl
marked_begun payload pgn source destination i (j ∷ js) =
    ap (λ (l : List Out). marked_part (λ n. Begun n) payload pgn source destination j ∷ l) (marked_begun payload pgn source destination i js)

marked_session : (payload : List ℕ) (pgn source destination i : ℕ) (js : List ℕ)
    → map (run_out (Session i)) (map (numbered payload pgn source destination) js) ≡ map (marked_part (λ j. Session j) payload pgn source destination) js
marked_session payload pgn source destination i [] = refl
marked_session payload pgn source destination i (j ∷ js) =
    ap (λ (l : List Out). marked_part (λ n. Session n) payload pgn source destination j ∷ l) (marked_session payload pgn source destination i js)

all_begun : (payload : List ℕ) (destination : ℕ) (b : Bool) → b ≡ true → cond b (last_part payload + 1) 1 ≡ last_part payload + 1
all_begun payload destination true e = refl
all_begun payload destination false e = absurd cc

-- the run of a broadcast has all parts of its message
pub run_of_broadcast : (payload : List ℕ) (pgn source destination end : ℕ) → destination ≡ 255 → end ≡ last_part payload
    → map (run_out (Begun 0)) (run_of payload pgn source 255 0 end) ≡ parts_begun payload pgn source destination
run_of_broadcast payload pgn source destination end to_all e =
    marked_begun payload pgn source 255 0 (range_with_len 0 (end + 1 - 0))
    ∙ (ap (λ (n : ℕ). marked_parts (λ j. Begun j) payload pgn source 255 0 (n + 1)) e ∙ ap (λ (d : ℕ). parts_begun payload pgn source d) (sym to_all))

one_begun : (payload : List ℕ) (b : Bool) → (b ≡ true → last_part payload ≡ 0) → cond b (last_part payload + 1) 1 ≡ 1
one_begun payload true h = (let e = h refl in omega arith)
one_begun payload false h = refl

last_of_eight : (payload : List ℕ) → length payload ≡ 8 → last_part payload ≡ 0
last_of_eight payload e = ap (λ (n : ℕ). cond (n == 8) 0 (packet_count n)) e

-- a single part
pub one_part : (payload : List ℕ) (pgn source destination : ℕ) → (destination ≡ 255 → length payload ≡ 8)
    → record { frame = part_of_message payload pgn source destination 0; part = Some (Begun 0) } ∷ [] ≡ parts_begun payload pgn source destination
one_part payload pgn source destination alone =
    sym (ap (λ (n : ℕ). marked_parts (λ j. Begun j) payload pgn source destination 0 n) (one_begun payload (destination == 255) (λ e. last_of_eight payload (alone (eqb-true destination 255 e)))))

-- the run of granted packets has those parts of its session
pub run_of_session : (s : OpenSession) (source count first end : ℕ) → first ≡ s.sending.queued + 1 → end ≡ s.sending.queued + count
    → map (run_out (Session first)) (run_of s.sending.payload s.sending.pgn source s.sending.dest first end) ≡ parts_of_session s source count
run_of_session s source count first end f e =
    let n : end + 1 - first ≡ s.sending.queued + 1 + count - (s.sending.queued + 1) = omega arith in
    marked_session s.sending.payload s.sending.pgn source s.sending.dest first (range_with_len first (end + 1 - first))
    ∙ (ap (λ (k : ℕ). map (marked_part (λ j. Session j) s.sending.payload s.sending.pgn source s.sending.dest) (range_with_len first k)) n
    ∙ ap (λ (k : ℕ). map (marked_part (λ j. Session j) s.sending.payload s.sending.pgn source s.sending.dest) (range_with_len k (s.sending.queued + 1 + count - (s.sending.queued + 1)))) f)

-- the one packet granted is the first one not yet queued
pub one_packet : (s : OpenSession) (source first : ℕ) → first ≡ s.sending.queued + 1
    → record { frame = packet_frame (packet s.sending.payload first) source s.sending.dest; part = Some (Session first) } ∷ [] ≡ parts_of_session s source 1
one_packet s source first f =
    let n : s.sending.queued + 1 + 1 - (s.sending.queued + 1) ≡ 1 = omega arith in
    let k : s.sending.queued + 1 ≡ suc s.sending.queued = omega arith in
    ap (λ (j : ℕ). record { frame = packet_frame (packet s.sending.payload j) source s.sending.dest; part = Some (Session j) } ∷ []) (f ∙ k)
    ∙ sym
    (ap (λ (m : ℕ). map (marked_part (λ j. Session j) s.sending.payload s.sending.pgn source s.sending.dest) (range_with_len (s.sending.queued + 1) m)) n
    ∙ ap (λ (j : ℕ). map (marked_part (λ j. Session j) s.sending.payload s.sending.pgn source s.sending.dest) (range_with_len j 1)) k)

-- where a run begins
pub run_begins : (payload : List ℕ) (pgn source destination first end : ℕ) → first ≤ end → option_map part_in (slice_get (run_of payload pgn source destination first end) 0) ≡ Some first
run_begins payload pgn source destination first end h = ap (option_map part_in) (first_of_run payload pgn source destination first end h)

-- a run has at most 256 frames
pub few_in_run : (mark : Part) (run : List NumberedFrame) (outs : List Out) (payload : List ℕ) (pgn source destination first end : ℕ)
    → run ≡ run_of payload pgn source destination first end → end ≤ 255 → outs ≡ map (run_out mark) run → length outs ≤ 256
few_in_run mark run outs payload pgn source destination first end r h e =
    let long = ap length e ∙ length-map run (run_out mark) in
    let runs = ap length r ∙ length_of_run payload pgn source destination first end in
    omega arith
