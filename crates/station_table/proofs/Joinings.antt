-- Messages half joined: what a claim and an abort leave, and what is answered to a packet.
use Rattle.std.proofs.Common.{◌≡◌, ◌≢◌, ℕ, ◌+◌, ◌<◌, Bool, true, false, nat_eq, nat_lt, List, [], ◌∷◌, ◌++◌, Option, Some, None, if◌then◌else◌, length, drop, refl, sym, ap, ◌∙◌, arith, length-append}
use Rattle.std.specs.Prelude.{slice_set, slice_index}
use Rattle.std.proofs.lemmas.Bool.{and_parts, ltb-true, eqb-true, eqb-false}
use Rattle.dm_messages.specs.View.{pgn_of_kind}
use Rattle.dm_messages.specs.declared.kind.Kind.{Kind}
use Rattle.transport.specs.Assembling.{is_next}
use Rattle.transport.specs.Pieces.{packet_count}
use Rattle.transport.specs.declared.control.Control.TheVariants.{EndAck, Abort}
use Rattle.transport.specs.declared.took.Took.TheVariants.{More, Whole, Broken}
use Rattle.reassembly.specs.Partials.{with_piece, with_packet, is_whole, took_by}
use Rattle.reassembly.specs.Tables.{at}
use Rattle.reassembly.specs.TableLaws.{written_back}
use Rattle.bus_model.specs.Heard.{Joining, kept_by_owner, without_kind}
use Rattle.station_table.specs.Reactions.{packet_reply, next_grant}

-- a change that leaves what is there changes nothing
pub kept_as_it_was : (t : List (Option Joining)) (i name : ℕ) → kept_by_owner name (at t i) ≡ at t i → t ≡ slice_set t i (kept_by_owner name (at t i))
kept_as_it_was t i name e = sym (ap (slice_set t i) e ∙ written_back t i)

pub left_as_it_was : (t : List (Option Joining)) (i : ℕ) (k : Option Kind) → without_kind k (at t i) ≡ at t i → t ≡ slice_set t i (without_kind k (at t i))
left_as_it_was t i k e = sym (ap (slice_set t i) e ∙ written_back t i)

-- the message with one piece more
abbrev next_joining : Joining → List ℕ → Joining
next_joining j packet = with_piece (drop 1 packet) j

-- which packet is answered More
more_is_next : (j : Joining) (packet : List ℕ) → took_by (with_packet packet (Some j)) ≡ More → (is_next j.size j.pieces packet ≡ true) × (is_whole (next_joining j packet) ≡ false)
more_is_next j packet h = go (is_next j.size j.pieces packet) refl h
  where
    inner : (b : Bool) → is_whole (next_joining j packet) ≡ b → (if b then Whole else More) ≡ More → b ≡ false
    inner true i e = absurd cc
    inner false i e = refl

    go : (b : Bool) → is_next j.size j.pieces packet ≡ b → took_by (if b then Some (next_joining j packet) else None) ≡ More → (b ≡ true) × (is_whole (next_joining j packet) ≡ false)
    go true i e = (refl, inner (is_whole (next_joining j packet)) refl e)
    go false i e = absurd cc

with_more : (j : Joining) (packet : List ℕ) → took_by (with_packet packet (Some j)) ≡ More → with_packet packet (Some j) ≡ Some (next_joining j packet)
with_more j packet h = rw ((more_is_next j packet h).0) refl

-- a piece is then still missing
pub still_missing : (j : Joining) (packet : List ℕ) → took_by (with_packet packet (Some j)) ≡ More → length (j.pieces ++ drop 1 packet ∷ []) < packet_count j.size
still_missing j packet h =
    let w = more_is_next j packet h in
    let next : nat_lt (length j.pieces) (packet_count j.size) ≡ true = (and_parts _ _ (and_parts _ _ w.0).1).1 in
    let below : length j.pieces < packet_count j.size = ltb-true (length j.pieces) (packet_count j.size) next in
    let one : length (j.pieces ++ drop 1 packet ∷ []) ≡ length j.pieces + 1 = length-append j.pieces (drop 1 packet ∷ []) in
    let apart : length (j.pieces ++ drop 1 packet ∷ []) ≢ packet_count j.size = eqb-false _ _ w.1 in
    omega arith

-- the number of a packet that is next: with it there are that many pieces
pub next_number : (j : Joining) (packet : List ℕ) → took_by (with_packet packet (Some j)) ≡ More → slice_index packet 0 ≡ length (j.pieces ++ drop 1 packet ∷ [])
next_number j packet h =
    let w = more_is_next j packet h in
    let number : nat_eq (slice_index packet 0) (length j.pieces + 1) ≡ true = (and_parts _ _ (and_parts _ _ w.0).1).0 in
    let e : slice_index packet 0 ≡ length j.pieces + 1 = eqb-true _ _ number in
    let one : length (j.pieces ++ drop 1 packet ∷ []) ≡ length j.pieces + 1 = length-append j.pieces (drop 1 packet ∷ []) in
    omega arith

pub next_length : (j : Joining) (packet : List ℕ) → took_by (with_packet packet (Some j)) ≡ More → length packet ≡ 8
next_length j packet h = let w = more_is_next j packet h in eqb-true _ _ ((and_parts _ _ w.0).0)

broken_none : (j : Joining) (packet : List ℕ) → took_by (with_packet packet (Some j)) ≡ Broken → with_packet packet (Some j) ≡ None
broken_none j packet h = go (with_packet packet (Some j)) h
  where
    go : (o : Option Joining) → took_by o ≡ Broken → o ≡ None
    go None e = refl
    go (Some k) e = inner (is_whole k) e
      where
        inner : (b : Bool) → (if b then Whole else More) ≡ Broken → Some k ≡ None
        inner true e2 = absurd cc
        inner false e2 = absurd cc

-- what a session answers
pub reply_more : (at_once : ℕ) (j : Joining) (packet : List ℕ) → took_by (with_packet packet (Some j)) ≡ More
    → packet_reply at_once j (with_packet packet (Some j)) ≡ next_grant at_once (with_piece (drop 1 packet) j)
reply_more at_once j packet h = rw (with_more j packet h, (more_is_next j packet h).1) refl

pub reply_broken : (at_once : ℕ) (j : Joining) (packet : List ℕ) → took_by (with_packet packet (Some j)) ≡ Broken
    → packet_reply at_once j (with_packet packet (Some j)) ≡ Some (Abort 2 (pgn_of_kind j.tag.kind))
reply_broken at_once j packet h = rw (broken_none j packet h) refl

pub reply_whole : (at_once : ℕ) (j : Joining) (packet : List ℕ) → took_by (with_packet packet (Some j)) ≡ Whole
    → packet_reply at_once j (with_packet packet (Some j)) ≡ Some (EndAck j.size (packet_count j.size) (pgn_of_kind j.tag.kind))
reply_whole at_once j packet h = go (is_next j.size j.pieces packet) h
  where
    inner : (b : Bool) → (if b then Whole else More) ≡ Whole
        → (if b then Some (EndAck j.size (packet_count j.size) (pgn_of_kind j.tag.kind)) else next_grant at_once (next_joining j packet))
        ≡ Some (EndAck j.size (packet_count j.size) (pgn_of_kind j.tag.kind))
    inner true e = refl
    inner false e = absurd cc

    go : (b : Bool) → took_by (if b then Some (next_joining j packet) else None) ≡ Whole
        → packet_reply at_once j (if b then Some (next_joining j packet) else None) ≡ Some (EndAck j.size (packet_count j.size) (pgn_of_kind j.tag.kind))
    go true e = inner (is_whole (next_joining j packet)) e
    go false e = absurd cc
