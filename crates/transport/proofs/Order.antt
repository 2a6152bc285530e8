-- What an assembly answers to any list of packets.
use Rattle.std.proofs.Common.{◌≡◌, ℕ, zero, suc, ◌+◌, ◌-◌, ◌*◌, ◌≤◌, ◌↔◌, ◌≢◌, Bool, true, false, List, [], ◌∷◌, ◌++◌, map, length, drop, Option, Some, None, nat_eq, arith, refl, sym, ap, ◌∙◌, append_assoc, if◌then◌else◌}
use Rattle.std.proofs.lemmas.List.{append-nil, length_push, length-map, drop-drop}
use Rattle.std.proofs.lemmas.Bool.Decides.{nat_tests}
use Rattle.transport.specs.Pieces.{packet_count, first_piece, first_pieces, pieces, packets_from, packets_of}
use Rattle.transport.specs.Assembling.{AssemblyValue, new_assembly, is_next, with_part, after_parts, took_of, took_after, AreInOrder, AreAllPackets}
use Rattle.transport.specs.declared.took.Took.{Took}
use Rattle.transport.specs.declared.took.Took.TheVariants.{More, Whole, Broken}
use Rattle.transport.specs.Cutting.{length-first_piece}
use Rattle.transport.proofs.Steps.{is_next_true, is_next_facts}

abbrev holding : ℕ → ℕ → Option (List (List ℕ)) → AssemblyValue
holding size pgn taken = record { size = size; pgn = pgn; taken = taken }

-- a broken message stays broken
stays_broken : (size pgn : ℕ) (parts : List (List ℕ)) → (after_parts (holding size pgn None) parts).taken ≡ None
stays_broken size pgn [] = refl
stays_broken size pgn (part ∷ parts) = stays_broken size pgn parts

with_part-next : (size : ℕ) (taken : List (List ℕ)) (part : List ℕ) → is_next size taken part ≡ true → with_part size (Some taken) part ≡ Some (taken ++ drop 1 part ∷ [])
with_part-next size taken part h = rw h refl

with_part-other : (size : ℕ) (taken : List (List ℕ)) (part : List ℕ) → is_next size taken part ≡ false → with_part size (Some taken) part ≡ None
with_part-other size taken part h = rw h refl

-- packets in order add their pieces
taken_in_order : (size pgn : ℕ) (taken parts : List (List ℕ)) → AreInOrder (packet_count size) (length taken) parts
    → (after_parts (holding size pgn (Some taken)) parts).taken ≡ Some (taken ++ map (drop 1) parts)
taken_in_order size pgn taken [] h = ap (λ (t : List (List ℕ)). Some t) (sym (append-nil taken))
taken_in_order size pgn taken (part ∷ parts) h =
    let step = with_part-next size taken part (is_next_true size taken part h.0) in
    let one_more : suc (length taken) ≡ length (taken ++ drop 1 part ∷ []) = omega (arith, length_push taken (drop 1 part)) in
    let rest : AreInOrder (packet_count size) (length (taken ++ drop 1 part ∷ [])) parts = rw one_more at h.1 in
    ap (λ (t : Option (List (List ℕ))). (after_parts (holding size pgn t) parts).taken) step ∙ taken_in_order size pgn (taken ++ drop 1 part ∷ []) parts rest
    ∙ ap (λ (t : List (List ℕ)). Some t) (append_assoc taken (drop 1 part ∷ []) (map (drop 1) parts))

none_is_not_some : (t : List (List ℕ)) → None ≡ Some t → ⊥
none_is_not_some t e = cc

-- where a message is not broken, its packets came in order
in_order : (size pgn : ℕ) (taken parts held : List (List ℕ)) → (after_parts (holding size pgn (Some taken)) parts).taken ≡ Some held
    → AreInOrder (packet_count size) (length taken) parts
in_order size pgn taken [] held h = tt
in_order size pgn taken (part ∷ parts) held h = decide (is_next size taken part) refl (in_order size pgn (taken ++ drop 1 part ∷ []) parts held)
  where
    decide : (b : Bool) → is_next size taken part ≡ b
        → ((after_parts (holding size pgn (Some (taken ++ drop 1 part ∷ []))) parts).taken ≡ Some held → AreInOrder (packet_count size) (length (taken ++ drop 1 part ∷ [])) parts)
        → AreInOrder (packet_count size) (length taken) (part ∷ parts)
    decide true e again =
        let after = sym (ap (λ (t : Option (List (List ℕ))). (after_parts (holding size pgn t) parts).taken) (with_part-next size taken part e)) ∙ h in
        let one_more : length (taken ++ drop 1 part ∷ []) ≡ suc (length taken) = omega (arith, length_push taken (drop 1 part)) in
        (is_next_facts size taken part e, rw one_more at (again after))
    decide false e again =
        let after : (after_parts (holding size pgn None) parts).taken ≡ Some held = sym (ap (λ (t : Option (List (List ℕ))). (after_parts (holding size pgn t) parts).taken) (with_part-other size taken part e)) ∙ h in
        absurd (none_is_not_some held (sym (stays_broken size pgn parts) ∙ after))

took_some : (size : ℕ) (taken parts : List (List ℕ)) → taken ≡ map (drop 1) parts → took_of size (Some taken) ≡ (if nat_eq (length parts) (packet_count size) then Whole else More)
took_some size taken parts e = rw (e, length-map parts (drop 1)) refl

-- what is answered to packets in order
took_in_order : (size pgn : ℕ) (parts : List (List ℕ)) → AreInOrder (packet_count size) 0 parts
    → took_after size pgn parts ≡ (if nat_eq (length parts) (packet_count size) then Whole else More)
took_in_order size pgn parts h = ap (took_of size) (taken_in_order size pgn [] parts h) ∙ took_some size (map (drop 1) parts) parts refl

from_taken : (size pgn : ℕ) (parts : List (List ℕ)) (held : Option (List (List ℕ))) → (after_parts (new_assembly size pgn) parts).taken ≡ held → took_of size held ≢ Broken
    → AreInOrder (packet_count size) 0 parts
from_taken size pgn parts None e h = absurd (h refl)
from_taken size pgn parts (Some held) e h = in_order size pgn [] parts held e

-- an answer that is not Broken is given to packets in order alone
not_broken : (size pgn : ℕ) (parts : List (List ℕ)) → took_after size pgn parts ≢ Broken → AreInOrder (packet_count size) 0 parts
not_broken size pgn parts h = from_taken size pgn parts (after_parts (new_assembly size pgn) parts).taken refl h

-- Whole is answered exactly to all packets in order
pub whole_exactly : (size pgn : ℕ) (parts : List (List ℕ)) → (took_after size pgn parts ≡ Whole) ↔ AreAllPackets size parts
whole_exactly size pgn parts = (forth, back)
  where
    forth : took_after size pgn parts ≡ Whole → AreAllPackets size parts
    forth h =
        let ordered = not_broken size pgn parts (λ (b : took_after size pgn parts ≡ Broken). whole_is_not_broken (sym h ∙ b)) in
        record { in_order = ordered; all = count (nat_eq (length parts) (packet_count size)) refl (sym (took_in_order size pgn parts ordered) ∙ h) }
      where
        whole_is_not_broken : Whole ≡ Broken → ⊥
        whole_is_not_broken e = cc

        count : (b : Bool) → nat_eq (length parts) (packet_count size) ≡ b → (if nat_eq (length parts) (packet_count size) then Whole else More) ≡ Whole → length parts ≡ packet_count size
        count true e w = grind (arith, nat_tests)
        count false e w = absurd (more_is_not_whole (rw e at w))
          where
            more_is_not_whole : More ≡ Whole → ⊥
            more_is_not_whole d = cc

    back : AreAllPackets size parts → took_after size pgn parts ≡ Whole
    back h =
        let same : nat_eq (length parts) (packet_count size) ≡ true = grind (arith, nat_tests, h.all) in
        took_in_order size pgn parts h.in_order ∙ rw same refl

-- Broken is answered exactly to packets that are not in order
pub broken_exactly : (size pgn : ℕ) (parts : List (List ℕ)) → (took_after size pgn parts ≡ Broken) ↔ (¬ AreInOrder (packet_count size) 0 parts)
broken_exactly size pgn parts = (forth, back)
  where
    either : (b : Bool) → (if b then Whole else More) ≡ Broken → ⊥
    either true e = cc
    either false e = cc

    forth : took_after size pgn parts ≡ Broken → ¬ AreInOrder (packet_count size) 0 parts
    forth h = λ ordered. either (nat_eq (length parts) (packet_count size)) (sym (took_in_order size pgn parts ordered) ∙ h)

    decide : (t : Took) → took_after size pgn parts ≡ t → ¬ AreInOrder (packet_count size) 0 parts → t ≡ Broken
    decide More e n = absurd (n (not_broken size pgn parts (λ (b : took_after size pgn parts ≡ Broken). differ (sym e ∙ b))))
      where
        differ : More ≡ Broken → ⊥
        differ d = cc
    decide Whole e n = absurd (n (not_broken size pgn parts (λ (b : took_after size pgn parts ≡ Broken). differ (sym e ∙ b))))
      where
        differ : Whole ≡ Broken → ⊥
        differ d = cc
    decide Broken e n = refl

    back : (¬ AreInOrder (packet_count size) 0 parts) → took_after size pgn parts ≡ Broken
    back n = decide (took_after size pgn parts) refl n

packets_in_order : (payload : List ℕ) (total k count : ℕ) → k + count ≤ total → AreInOrder total k (packets_from payload (suc k) count)
packets_in_order payload total k zero h = tt
packets_in_order payload total k (suc count) h =
    let seven : length (first_piece (drop (7 * (suc k - 1)) payload)) ≡ 7 = length-first_piece (drop (7 * (suc k - 1)) payload) in
    (record { len = omega (arith, seven); number = omega arith; missing = omega arith }, packets_in_order payload total (suc k) count (omega arith))

pieces_of_packets : (payload : List ℕ) (k count : ℕ) → map (drop 1) (packets_from payload (suc k) count) ≡ first_pieces count (drop (7 * k) payload)
pieces_of_packets payload k zero = refl
pieces_of_packets payload k (suc count) =
    let here : suc k - 1 ≡ k = omega arith in
    let next : 7 * suc k ≡ 7 * k + 7 = omega arith in
    let rest : map (drop 1) (packets_from payload (suc (suc k)) count) ≡ first_pieces count (drop 7 (drop (7 * k) payload)) = pieces_of_packets payload (suc k) count ∙ ap (λ n. first_pieces count (drop n payload)) next ∙ ap (first_pieces count) (sym (drop-drop 7 (7 * k) payload)) in
    rw (here, rest) refl

-- the packets of a payload give its pieces
pub packets_give_pieces : (size pgn : ℕ) (payload : List ℕ) → length payload ≡ size → (after_parts (new_assembly size pgn) (packets_of payload)).taken ≡ Some (pieces payload)
packets_give_pieces size pgn payload h =
    let ordered : AreInOrder (packet_count size) 0 (packets_of payload) = rw (← h) (packets_in_order payload (packet_count (length payload)) 0 (packet_count (length payload)) (omega arith)) in
    taken_in_order size pgn [] (packets_of payload) ordered ∙ ap (λ (t : List (List ℕ)). Some t) (pieces_of_packets payload 0 (packet_count (length payload)))
